-- The start stands for no step.
use Rattle.work_invariant.specs as low
use low.core_invariant.proofs.{◌≡◌, inl, inr, ℕ, zero, suc, ◌+◌, ◌<◌, ◌≤◌, ◌==◌, ◌*◌, ◌-◌, ◌∷◌, ltb as nat_lt, length, slice_get, Bool}
use low.core_invariant.proofs.{true, false, [], Option, Some, None, arith, refl, sym, ◌∙◌, ap, subst, IsTrue, if◌then◌else◌, pos, List}
use low.core_invariant.proofs.{ne_eqb, false≢true, lt-ltb, eqb-true, Capability, Setting, IsSetting, Kind, Entry, word_of_entry}
use low.core_invariant.proofs.{entry_of_word, frame_of_word, count_of_word, live_of_word, Word, EntryAt, FrameAt, CountAt, CoreAt, FlushAt}
use low.core_invariant.proofs.{LiveAt, ClockAt, Place, Free, Holds, Quiescing, Object, Blank, Table, Leaf, Pages, Pleaf, Comp, Thread, Tcap}
use low.core_invariant.proofs.{TcapFields, Frame, Untyped, Kernel, State, comp_in, thread_in, thread_of, first_of_stack, refs, fits}
use low.core_invariant.proofs.{frame_value, entry_mark, frame_mark, count_mark, live_mark, thread_mark, head_mark, mark_in_frame, CapNames}
use low.core_invariant.proofs.{marked_by, settled_by, PlaceIs, IsFrameWord, NumberIs, WordIs, word_of_head, head_of_word, HeadWord, held_by}
use low.core_invariant.proofs.{times_of, count_shown, SumIs, stamp_in, count_in, word_of_count, word_of_frame, word_of_live, at_height}
use low.core_invariant.proofs.{thread_value, quality_of_word, stack_of_word, thread_of_word, CountWord, residue, Represent, counters}
use low.core_invariant.proofs.{newest_of, head_of_word as head_of_word_of_head, LiveWord}
use low.boot_words.specs.kernel_history.specs.{Unheld, start, IsGood, boot_word, boot_entry, boot_frame, SaysPlace, AreFrame, end_of}
use Rattle.call_fits.specs.call_stages.specs.kernel_rules.specs.{start_place, start_cap, place_with, start_frame, start_number, granted}
use Rattle.call_fits.specs.call_stages.specs.kernel_invariant.proofs.SoundStart.{past_three, start_sound}
use low.boot_words.specs.kernel_history.specs.{BootWords.boot_object, BootWords.boot_live, FinalWords.AreObject, Marks.object_mark}
use low.boot_words.proofs.{BootRepresents.boot_represents, StartRefs.refs_most}
use low.trace_laws.proofs.GraceSteps.{grace_start, times_start}
use Rattle.flight.specs.{Made.boot_cores, Theorems.Boots}
use Rattle.{call_fits.specs.call_stages.specs.kernel_rules.specs.EndsWithin, std.proofs.lemmas.Bool.cases_lt}
use Rattle.{call_fits.specs.call_stages.specs.stage_look.specs.Shown.end_of_frames, flight.proofs.CoreFits.started_fits}
use low.{core_invariant.proofs.Bare.none_value, boot_words.specs.kernel_history.proofs.Counters.sum_of_first}
use low.{core_invariant.specs.Words.IsObjectWord}
use Rattle.work_invariant.specs.boot_words.specs.entry_words.proofs.Spelling as entries
use Rattle.work_invariant.specs.boot_words.specs.frame_words.proofs.CoreLemmas as core_words
use Rattle.work_invariant.specs.boot_words.specs.frame_words.proofs.CountLemmas as counts
use Rattle.work_invariant.specs.boot_words.specs.frame_words.proofs.FlushLemmas as flushes
use Rattle.work_invariant.specs.boot_words.specs.frame_words.proofs.FrameLemmas as frames
use Rattle.work_invariant.specs.boot_words.specs.frame_words.proofs.LiveLemmas as lives
use Rattle.work_invariant.specs.boot_words.specs.tcap_words.proofs.HeadLemmas as heads

-- A good capability names frames of the machine.
good_names : (s : State) (k : Capability) → ((f : ℕ) → s.limits.frames ≤ f → s.frame f ≡ Untyped) → IsGood s k
    → CapNames s.limits.frames k
good_names s k beyond good = by_kind k.kind good.fit good.within
  where
    below : (j : Kind) → IsTrue (fits j (s.frame k.frame)) → (fits j Untyped ≡ false) → k.frame + 1 ≤ s.limits.frames
    below j fit none = elim (cases_lt k.frame s.limits.frames) [
      | inl here ↦ omega (arith, here)
      | inr past ↦ absurd (false≢true (sym none ∙ sym (ap (fits j) (beyond k.frame past)) ∙ fit))
    ]

    by_kind : (j : Kind) → IsTrue (fits j (s.frame k.frame)) → EndsWithin j k.frame k.arg s.limits.frames
        → end_of_frames j k.frame k.arg ≤ s.limits.frames
    by_kind Kind.Range fit within = within
    by_kind Kind.Table fit within = below Kind.Table fit refl
    by_kind Kind.Leaf fit within = below Kind.Leaf fit refl
    by_kind Kind.Pages fit within = below Kind.Pages fit refl
    by_kind Kind.Pleaf fit within = below Kind.Pleaf fit refl
    by_kind Kind.Comp fit within = below Kind.Comp fit refl
    by_kind Kind.Gate fit within = below Kind.Gate fit refl
    by_kind Kind.Thread fit within = below Kind.Thread fit refl
    by_kind Kind.Tcap fit within = below Kind.Tcap fit refl
    by_kind Kind.Link fit within = below Kind.Link fit refl
    by_kind Kind.Page fit within = below Kind.Page fit refl

-- No place of the start is quiescing.
choose : {A : Type 0} (P : A → Type 0) (b : Bool) (x y : A) → P x → P y → P (if b then x else y)
choose P true x y hx hy = hx
choose P false x y hx hy = hy

abbrev Stands : Place → Type 0
Stands p = (k : Capability) → p ≡ Quiescing k → ⊥

free_stands : Stands Free
free_stands k h = cc

holds_stands : (j : Capability) → Stands (Holds j)
holds_stands j k h = cc

with_stands : (o : Option Capability) → Stands (place_with o)
with_stands None = free_stands
with_stands (Some j) = holds_stands j

start_stands : (setup : Setting) (f i : ℕ) → Stands (start_place setup f i)
start_stands setup f i =
    choose Stands (f == 0) _ _ (choose Stands (i == 0) _ _ (holds_stands _) free_stands)
    (choose Stands (f == 1) _ _ (with_stands (start_cap setup i)) free_stands)

-- What a place of the start is in words.
place_says : (n : ℕ) (p : Place) (o : Option Entry) → Stands p → ((k : Capability) → p ≡ Holds k → CapNames n k) → SaysPlace p o
    → PlaceIs n p 0 o
place_says n Free o stands names h = h
place_says n (Holds k) o stands names h = (h, names k refl)
place_says n (Quiescing k) o stands names h = absurd (stands k refl)

place_unmarked : (p : Place) (o : Option Entry) → Stands p → SaysPlace p o → entry_mark o ≡ None
place_unmarked (Quiescing k) o stands h = absurd (stands k refl)
place_unmarked _ o stands h = ap entry_mark h

-- A place past a node's entries is free.
past_free : (setup : Setting) → IsSetting setup → (f i : ℕ) → 64 ≤ i → start_place setup f i ≡ Free
past_free setup setting f i past = by_place (start_place setup f i) refl
  where
    by_place : (p : Place) → start_place setup f i ≡ p → p ≡ Free
    by_place Free is = refl
    by_place (Holds k) is = (let h = ((start_sound setup setting).bare f i k is).1 in absurd (omega (arith, h, past)))
    by_place (Quiescing k) is = absurd (start_stands setup f i k is)

next : (i : ℕ) → 1 + i ≡ suc i
next i = omega arith

-- The head of a temporal capability is in its first version.
first_version : (q : TcapFields) (version : ℕ)
    → head_of_word (word_of_head (record { budget = q.budget; mark = None; version = 0 }))
    ≡ Some (record { budget = q.budget; mark = None; version = version }) → version ≡ 0
first_version q version says =
    let fits = (heads.spelling.spells _ (record { budget = q.budget; mark = None; version = version }) says).0 in
    let none : Some (record { budget = q.budget; mark = None; version = 0 })
    ≡ Some (record { budget = q.budget; mark = None; version = version })
    = sym (heads.spelling.reads (record { budget = q.budget; mark = None; version = 0 }) (fits.0, tt, omega arith)) ∙ says in
    sym (version_of _ _ none)
  where
    version_of : (v u : HeadWord) → Some v ≡ Some u → v.version ≡ u.version
    version_of v u h = cc

module _ (setup : Setting) (setting : IsSetting setup) where
  parts : Represent (boot_word setup) (λ c. end_of (start setup) c) (start setup)
  parts = (boot_represents setup setting).parts

  names : (f i : ℕ) (k : Capability) → start_place setup f i ≡ Holds k → CapNames setup.frames k
  names f i k is = good_names (start setup) k (start_sound setup setting).beyond ((start_sound setup setting).held f i k is)

  -- the words of nodes
  module _ (f : ℕ) (says : (i : ℕ) → i < 64 → SaysPlace (start_place setup f i)
      (entry_of_word (word_of_entry (boot_entry (start_place setup f i))))) where
    node_marks : (i : ℕ) → entry_mark (entry_of_word (word_of_entry (boot_entry (start_place setup f i)))) ≡ None
    node_marks i = elim (cases_lt i 64) [
      | inl below ↦ place_unmarked (start_place setup f i) _ (start_stands setup f i) (says i below)
      | inr past ↦ ap (λ p. entry_mark (entry_of_word (word_of_entry (boot_entry p)))) (past_free setup setting f i past) ∙ ap entry_mark
          (entries.spelling.reads Entry.Free tt)
    ]

    node_says : (i : ℕ) → i < 64
        → PlaceIs setup.frames (start_place setup f i) 0 (entry_of_word (word_of_entry (boot_entry (start_place setup f i))))
    node_says i below = place_says setup.frames (start_place setup f i) _ (start_stands setup f i) (names f i) (says i below)

  thread_value_mark : (o : Option ℕ) (depth : ℕ)
      → thread_mark (Some (thread_value o depth)) ≡ None
  thread_value_mark None depth = refl
  thread_value_mark (Some c) depth = refl

  first_mark : (i : ℕ) (o : ℕ → Option ℕ) → o 0 ≡ None → (if i == 0 then o i else None) ≡ None
  first_mark i o none = by_first (i == 0) refl
    where
      by_first : (b : Bool) → (i == 0) ≡ b → (if b then o i else None) ≡ None
      by_first true is = ap o (eqb-true i 0 is) ∙ none
      by_first false is = refl

  object_marks : (f : ℕ) (x : Object) → AreObject x (start_place setup f) (λ i. boot_object x (start_place setup f) i)
      → (i : ℕ) → object_mark x i (boot_object x (start_place setup f) i) ≡ None
  object_marks f Blank h i = refl
  object_marks f (Comp k) h i = refl
  object_marks f (Thread t) h i =
      first_mark i (λ i. thread_mark (thread_of_word (boot_object (Thread t) (start_place setup f) i)))
      (ap thread_mark h.runs ∙ thread_value_mark t.runs_on (length t.stack))
  object_marks f (Tcap q) h i =
      first_mark i (λ i. head_mark (head_of_word_of_head (boot_object (Tcap q) (start_place setup f) i)))
      (ap head_mark h.head)
  object_marks f _ h i = node_marks f h i

  object_says : (f : ℕ) (x : Object) → AreObject x (start_place setup f) (λ i. boot_object x (start_place setup f) i)
      → (i : ℕ) → IsObjectWord setup.frames x (start_place setup f i) 0 i (boot_object x (start_place setup f) i)
  object_says f Blank h i = tt
  object_says f (Comp k) h zero = h.table
  object_says f (Comp k) h (suc zero) = h.pages
  object_says f (Comp k) h (suc (suc zero)) = h.live
  object_says f (Comp k) h (suc (suc (suc i))) = tt
  object_says f (Thread t) h zero = h.runs
  object_says f (Thread t) h (suc i) =
      λ below. subst (λ (j : ℕ). stack_of_word (boot_object (Thread t) (start_place setup f) j) ≡ Some
      (record { 0 = at_height t.stack i }))
      (next i) (h.stack i below)
  object_says f (Tcap q) h zero = record {
    version = h.version;
    says = h.head;
    within = (let first = first_version q h.version h.head in omega (arith, first));
    most = h.most;
  }
  object_says f (Tcap q) h (suc i) =
      λ below. subst (λ (j : ℕ). quality_of_word (boot_object (Tcap q) (start_place setup f) j) ≡ Some
      (record { 0 = slice_get q.qualities i }))
      (next i) (h.list i below)
  object_says f _ h i = node_says f h i

  frame_marks : (f : ℕ) (x : Frame) → AreFrame x (start_place setup f) (λ i. boot_frame x (start_place setup f) i) → (i : ℕ)
      → mark_in_frame x i (boot_frame x (start_place setup f) i) ≡ None
  frame_marks f (Kernel x) h i = object_marks f x h i
  frame_marks f _ h i = refl

  frame_says : (f : ℕ) (x : Frame) → AreFrame x (start_place setup f) (λ i. boot_frame x (start_place setup f) i)
      → (i : ℕ) → IsFrameWord setup.frames x (start_place setup f i) 0 i (boot_frame x (start_place setup f) i)
  frame_says f (Kernel x) h i = object_says f x h i
  frame_says f _ h i = tt

  -- the words of every frame, also past those of the machine
  are_frame : (f : ℕ) → AreFrame (start_frame setup f) (start_place setup f)
      (λ i. boot_frame (start_frame setup f) (start_place setup f) i)
  are_frame f = elim (cases_lt f setup.frames) [
    | inl here ↦ parts.objects f here
    | inr past ↦ subst (λ x. AreFrame x (start_place setup f) (λ i. boot_frame x (start_place setup f) i))
        (sym ((start_sound setup setting).beyond f past)) tt
  ]

  kind_reads : (f : ℕ) → frame_of_word (boot_word setup (FrameAt f)) ≡ Some (frame_value (start_frame setup f))
  kind_reads f = elim (cases_lt f setup.frames) [
    | inl here ↦ parts.kinds f here
    | inr past ↦ subst (λ x. frame_of_word (word_of_frame (frame_value x)) ≡ Some (frame_value x))
        (sym ((start_sound setup setting).beyond f past))
        (frames.spelling.reads (frame_value Untyped) (tt, omega arith))
  ]

  frame_value_mark : (x : Frame) → (frame_value x).mark ≡ None
  frame_value_mark Untyped = refl
  frame_value_mark _ = refl

  count_reads : (f n : ℕ) → n ≤ refs (start setup) f
      → count_of_word (word_of_count (record { hold = Unheld; count = pos n; stamp = 0 })) ≡ Some
      (record { hold = Unheld; count = pos n; stamp = 0 })
  count_reads f n most =
      counts.spelling.reads (record { hold = Unheld; count = pos n; stamp = 0 })
      (tt, (let m = refs_most setup setting f in omega (arith, m, most)), omega arith)

  number_reads : (l : ℕ) → live_of_word (boot_word setup (LiveAt l)) ≡ Some (boot_live (start_number l))
  number_reads l = choose (λ x. live_of_word (word_of_live (boot_live x)) ≡ Some (boot_live x)) (l == 0) _ _
      (lives.spelling.reads (LiveWord.Live 1 3) (omega arith, omega arith, omega arith)) (lives.spelling.reads LiveWord.Free tt)

  number_mark : (l : ℕ) → live_mark (Some (boot_live (start_number l))) ≡ None
  number_mark l = choose (λ x. live_mark (Some (boot_live x)) ≡ None) (l == 0) _ _ refl refl

  number_says : (l : ℕ) → live_of_word (boot_word setup (LiveAt l)) ≡ Some (boot_live (start_number l))
      → NumberIs (start_number l) 0 (live_of_word (boot_word setup (LiveAt l)))
  number_says l is = subst (λ o. NumberIs (start_number l) 0 o) (sym is)
      (choose (λ x. NumberIs x 0 (Some (boot_live x))) (l == 0) _ _ refl refl)

  least : (c n : ℕ) → (if c == 0 then n else 0) ≤ n
  least c n = choose (λ (x : ℕ). x ≤ n) (c == 0) n 0 (omega arith) (omega arith)

  boot_mark : (w : Word) → marked_by setup [] w ≡ None
  boot_mark (EntryAt f i) = frame_marks f (start_frame setup f) (are_frame f) i
  boot_mark (FrameAt f) = ap frame_mark (kind_reads f) ∙ frame_value_mark (start_frame setup f)
  boot_mark (CountAt f c) = ap count_mark (count_reads f (if c == 0 then refs (start setup) f else 0) (least c (refs (start setup) f)))
  boot_mark (LiveAt l) = ap live_mark (number_reads l) ∙ number_mark l
  boot_mark _ = refl

  boot_says : (w : Word) → WordIs (start setup) (times_of setup []) w (boot_word setup w)
  boot_says (EntryAt f i) = frame_says f (start_frame setup f) (are_frame f) i
  boot_says (FrameAt f) = kind_reads f
  boot_says (CountAt f c) = record {
    count = pos (if c == 0 then refs (start setup) f else 0);
    stamp = 0;
    says = count_reads f (if c == 0 then refs (start setup) f else 0) (least c (refs (start setup) f));
  }
  boot_says (CoreAt c) = core_words.spelling.reads (record { inside = false; stamp = 0 }) (omega arith)
  boot_says (FlushAt c) = flushes.spelling.reads (record { stamp = 0 }) (omega arith)
  boot_says (LiveAt l) = number_says l (number_reads l)
  boot_says ClockAt = tt

  -- the counts of the start are its references
  boot_sums : (f : ℕ) → SumIs setup (held_by (boot_cores setup)) [] f
  boot_sums f = record {
    sum = ap residue (sum_of_first shown_at setup.cores setting.some_core other_none ∙ ap count_in (each 0));
    newest = newest_none (counters setup.cores);
  }
    where
      shown_at : ℕ → Option CountWord
      shown_at = count_shown setup (held_by (boot_cores setup)) [] f

      count_of : ℕ → ℕ
      count_of c = if c == 0 then refs (start setup) f else 0

      each : (c : ℕ) → shown_at c ≡ Some (record { hold = Unheld; count = pos (count_of c); stamp = 0 })
      each c = ap (λ o. count_of_word (settled_by o (held_by (boot_cores setup)) (CountAt f c) (boot_word setup (CountAt f c))))
          (boot_mark (CountAt f c))
          ∙ count_reads f (count_of c) (least c (refs (start setup) f))

      other_none : (c : ℕ) → 1 ≤ c → count_in (shown_at c) ≡ pos 0
      other_none c other = ap count_in (each c)
          ∙ ap (λ (b : Bool). pos (if b then refs (start setup) f else 0)) (ne_eqb c 0 (λ zero. omega (arith, other, zero)))

      newest_none : (cs : List ℕ) → newest_of shown_at cs ≡ 0
      newest_none [] = refl
      newest_none (c ∷ cs) =
          let first : stamp_in (shown_at c) ≡ 0 = ap stamp_in (each c) in
          let rest = newest_none cs in
          omega (arith, first, rest)

  -- a core of the start
  thread_is : (c : ℕ) → c < setup.cores → thread_of (start setup) c ≡ record { stack = 3 ∷ []; runs_on = Some (4 + c - 4) }
  thread_is c here =
      ap thread_in (past_three setup (4 + c) (omega arith)
      ∙ ap (λ b. if b then Kernel (Thread (record { stack = 3 ∷ []; runs_on = Some (4 + c - 4) }))
      else (if nat_lt (4 + c) (4 + 2 * setup.cores) then Kernel (Tcap (granted (slice_get setup.grants (4 + c - 4 - setup.cores)))) else
      Untyped))
      (lt-ltb (4 + c) (4 + setup.cores) (omega (arith, here))))

pub boots : Boots
boots setup setting = record {
  legal = tt;
  bounds = tt;
  alone = tt;
  discipline = tt;
  footprints = tt;
  marked = λ w d h. absurd (none_some d (sym (boot_mark setup setting w) ∙ h));
  marks = λ w d. record { owned = λ h. absurd (none_some d (sym (boot_mark setup setting w) ∙ h)); kept = λ h. absurd (false≢true h) };
  words = λ w. subst (λ o. WordIs (start setup) (times_of setup []) w (settled_by o (held_by (boot_cores setup)) w (boot_word setup w)))
      (sym (boot_mark setup setting w))
      (subst (WordIs (start setup) (times_of setup []) w)
      (sym (none_value (held_by (boot_cores setup)) w (boot_word setup w) (λ f i d. refl))) (boot_says setup setting w));
  exclusive = λ d f i v h. absurd (none_some v h);
  sums = boot_sums setup setting;
  draws = omega arith;
  some_time = omega arith;
  times = times_start setup;
  graces = grace_start setup;
  unbegun = λ x d. (λ same. refl, λ same. refl);
  each = λ c here. let whose = thread_is setup setting c here in record {
    fits = started_fits c setup setting here;
    number = refl;
    shape = refl;
    limit = refl;
    epochs = refl;
    works = record {
      thread = refl;
      depth = ap (λ k. length k.stack) (sym whose);
      comp = ap (λ k. first_of_stack k.stack) (sym whose);
      table = ap (λ k. (comp_in (start_frame setup (first_of_stack k.stack))).table) (sym whose);
      pages = ap (λ k. (comp_in (start_frame setup (first_of_stack k.stack))).pages) (sym whose);
      tcap = refl;
      cached = refl;
      owed = refl;
      spent = refl;
      back = refl;
      grant = refl;
      made = refl;
    };
    exit = refl;
    flushed = λ done. refl;
    active = refl;
  };
  away = λ c past. record { out = refl; none = refl; idle = refl };
}
  where
    none_some : (d : ℕ) → None ≡ Some d → ⊥
    none_some d h = cc
