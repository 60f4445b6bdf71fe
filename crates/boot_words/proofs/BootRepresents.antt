-- The boot words represent the start state.
use Rattle.kernel_history.specs as low
use Rattle.kernel_history.proofs.{◌≡◌, inl, inr, ℕ, ◌+◌, ◌-◌, ◌*◌, ◌^◌, ◌<◌, ◌≤◌, Bool, true, false, refl, sym, ◌∙◌, ap, subst, arith, ◌==◌}
use Rattle.kernel_history.proofs.{ltb as nat_lt, if◌then◌else◌, [], ◌∷◌, length, Option, Some, None, pos, ◌+ℤ◌, slice_get, ne_eqb, ltb-true}
use Rattle.kernel_history.proofs.{true≢false, Capability, Setting, IsSetting, EntryFits, word_of_entry, entry_of_word, FrameFits}
use Rattle.kernel_history.proofs.{word_of_count, residue, word_of_live, live_of_word, Unheld, Running, Place, Free, Holds, Quiescing}
use Rattle.kernel_history.proofs.{TcapFields, Blank, Table, Leaf, Pages, Pleaf, Comp, Thread, Tcap, Frame, Untyped, User, Kernel, Word}
use Rattle.kernel_history.proofs.{EntryAt, FrameAt, CountAt, CoreAt, FlushAt, LiveAt, ClockAt, start, refs, holds_node, frame_value}
use Rattle.kernel_history.proofs.{at_height, boot_word, SaysPlace, AreFrame, count_at, count_in, all_counters}
use low.kernel_rules.specs.{Grant, start_place, start_cap, core_cap, start_comp, start_frame, start_number, place_with, granted}
use Rattle.std.proofs.{lemmas.Bool.cases_eq, lemmas.Int.ints, lemmas.Option.slice_get_past, lemmas.Option.slice_get_within}
use Rattle.std.proofs.{lemmas.Option.get_or_from_slice_get, lemmas.List.Elements.All-get_or, lemmas.List.Elements.All-nil}
use low.{ObjectWords.comp_word, BootWords.boot_thread, BootWords.boot_tcap, BootWords.boot_live, FinalWords.AreThread, FinalWords.AreTcap}
use low.{boot_entry, boot_frame, SaysNumber, IsUnheld, frame_words.proofs.ResidueLemmas.residue_pos, tcap_words.specs.Stack.PlaceFits}
use low.{tcap_words.specs.Quality.PairFits, FinalWords.HoldNothing}
use Rattle.{std.proofs.lemmas.List.Elements.All-cons, kernel_history.specs.spk_nums.specs.Setting.GrantFits}
use Rattle.{kernel_history.proofs.Counters.sum_of_first}
use Rattle.{boot_words.specs.BootLaws.BootRepresents, boot_words.specs.BootLaws.BootRepresentsStart, boot_words.proofs.StartRefs.refs_most}
use Rattle.kernel_history.specs.entry_words.specs.declared.entry.Entry.TheVariants as entry
use Rattle.kernel_history.specs.entry_words.proofs.Spelling as entries
use Rattle.kernel_history.specs.frame_words.specs.declared.live_word.LiveWord.TheVariants as live_word
use Rattle.kernel_history.specs.frame_words.proofs.CompLemmas as comps
use Rattle.kernel_history.specs.frame_words.proofs.CoreLemmas as core_words
use Rattle.kernel_history.specs.frame_words.proofs.CountLemmas as counts
use Rattle.kernel_history.specs.frame_words.proofs.FlushLemmas as flushes
use Rattle.kernel_history.specs.frame_words.proofs.FrameLemmas as frames
use Rattle.kernel_history.specs.frame_words.proofs.LiveLemmas as lives
use Rattle.kernel_history.specs.tcap_words.proofs.HeadLemmas as heads
use Rattle.kernel_history.specs.tcap_words.proofs.QualityLemmas as qualities
use Rattle.kernel_history.specs.tcap_words.proofs.StackLemmas as stacks
use Rattle.kernel_history.specs.tcap_words.proofs.ThreadLemmas as threads

-- A choice has what each of its cases has.
choose : {A : Type 0} (P : A → Type 0) (b : Bool) (x y : A) → (b ≡ true → P x) → (b ≡ false → P y) → P (if b then x else y)
choose P true x y hx hy = hx refl
choose P false x y hx hy = hy refl

-- The capabilities of the start have words.
abbrev CapFits : Option Capability → Type 0
CapFits None = Unit {0}
CapFits (Some k) = EntryFits (entry.Held k)

abbrev HasEntry : Place → Type 0
HasEntry Free = Unit {0}
HasEntry (Holds k) = EntryFits (entry.Held k)
HasEntry (Quiescing k) = ⊥

with_fits : (o : Option Capability) → CapFits o → HasEntry (place_with o)
with_fits None h = tt
with_fits (Some k) h = h

says_place : (p : Place) → HasEntry p → SaysPlace p (entry_of_word (word_of_entry (boot_entry p)))
says_place Free h = entries.spelling.reads entry.Free tt
says_place (Holds k) h = entries.spelling.reads (entry.Held k) h
says_place (Quiescing k) h = absurd h

-- The stack of one component.
one_high : (h : ℕ) → PlaceFits (at_height (3 ∷ []) h)
one_high h = elim (cases_eq h 0) [
  | inl is ↦ subst (λ n. PlaceFits (at_height (3 ∷ []) n)) (sym is) (omega arith)
  | inr other ↦ subst PlaceFits (sym (slice_get_past (3 ∷ []) h (omega arith))) tt
]

are_thread : (c : ℕ) → c < 8
    → AreThread (record { stack = 3 ∷ []; runs_on = Some c }) (λ i. boot_thread (record { stack = 3 ∷ []; runs_on = Some c }) i)
are_thread c h = record {
  runs = threads.spelling.reads (Running c 1) (h, (omega arith, omega arith));
  stack = λ n k. let back : 1 + n - 1 ≡ n = omega arith in
      rw (ne_eqb (1 + n) 0 (λ e. omega (arith, e)), back) (stacks.spelling.reads (record { 0 = at_height (3 ∷ []) n }) (one_high n));
}

-- A temporal capability of at most one pair.
record FitsTcap (q : TcapFields) : Type 0 where
  budget : q.budget < 2 ^ 32
  pairs : (j : ℕ) → PairFits (slice_get q.qualities j)
  most : length q.qualities ≤ 8

are_tcap : (q : TcapFields) → FitsTcap q → AreTcap q (λ i. boot_tcap q i)
are_tcap q h = record {
  version = 0;
  head = heads.spelling.reads (record { budget = q.budget; mark = None; version = 0 }) (h.budget, tt, omega arith);
  list = λ n k. let back : 1 + n - 1 ≡ n = omega arith in
      rw (ne_eqb (1 + n) 0 (λ e. omega (arith, e)), back) (qualities.spelling.reads (record { 0 = slice_get q.qualities n }) (h.pairs n));
  most = h.most;
}

one_pair : (p : ℕ × ℕ) → PairFits (Some p) → (j : ℕ) → PairFits (slice_get (p ∷ []) j)
one_pair p fits j = elim (cases_eq j 0) [
  | inl is ↦ subst (λ n. PairFits (slice_get (p ∷ []) n)) (sym is) fits
  | inr other ↦ subst PairFits (sym (slice_get_past (p ∷ []) j (omega arith))) tt
]

granted_fits : (o : Option Grant) → ((g : Grant) → o ≡ Some g → GrantFits g) → FitsTcap (granted o)
granted_fits None h = record {
  budget = omega arith;
  pairs =
      λ j. subst PairFits (sym (slice_get_past {X = ℕ × ℕ} [] j (omega arith))) tt;
  most = omega arith;
}
granted_fits (Some g) h =
    let fits = h g refl in
    record { budget = omega (arith, fits.0); pairs = one_pair (g.sched, g.quality) (fits.1, fits.2, fits.3); most = omega arith }

grant_fits : (setup : Setting) → IsSetting setup → (j : ℕ) (g : Grant) → slice_get setup.grants j ≡ Some g → GrantFits g
grant_fits setup lim j g is =
    subst GrantFits (get_or_from_slice_get setup.grants j g g is)
    (All-get_or GrantFits setup.grants j g (slice_get_within setup.grants j g is) lim.grants_fit)

frame_fits : (x : Frame) → FrameFits (frame_value x)
frame_fits Untyped = (tt, omega arith)
frame_fits User = (tt, omega arith)
frame_fits (Kernel Blank) = (tt, omega arith)
frame_fits (Kernel Table) = (tt, omega arith)
frame_fits (Kernel Leaf) = (tt, omega arith)
frame_fits (Kernel Pages) = (tt, omega arith)
frame_fits (Kernel Pleaf) = (tt, omega arith)
frame_fits (Kernel (Comp k)) = (tt, omega arith)
frame_fits (Kernel (Thread t)) = (tt, omega arith)
frame_fits (Kernel (Tcap q)) = (tt, omega arith)

module _ (setup : Setting) (lim : IsSetting setup) where
  core_fits : (i : ℕ) → CapFits (core_cap setup i)
  core_fits i =
      let n = lim.most_cores in
      choose CapFits (nat_lt i 4) _ _ (λ e. tt) λ e.
      choose CapFits (nat_lt i (4 + setup.cores)) _ _
      (λ e. (omega (arith, n, ltb-true i (4 + setup.cores) e), omega arith, omega arith, omega arith, omega arith)) λ e.
      choose CapFits (nat_lt i 12) _ _ (λ e. tt) λ e.
      choose CapFits (nat_lt i (12 + setup.cores)) _ _
      (λ e. (omega (arith, n, ltb-true i (12 + setup.cores) e), omega arith, omega arith, omega arith, omega arith)) λ e. tt

  cap_fits : (i : ℕ) → CapFits (start_cap setup i)
  cap_fits i =
      let n = lim.most_cores in let most = lim.most_frames in
      choose CapFits (i == 0) _ _ (λ e. (omega (arith, n), omega arith, omega (arith, most), omega arith, omega arith)) λ e.
      choose CapFits (i == 1) _ _ (λ e. (omega arith, omega arith, omega arith, omega arith, omega arith)) λ e.
      choose CapFits (i == 2) _ _ (λ e. (omega arith, omega arith, omega arith, omega arith, omega arith)) λ e.
      choose CapFits (i == 3) _ _ (λ e. (omega arith, omega arith, omega arith, omega arith, omega arith)) λ e. core_fits i

  place_fits : (f i : ℕ) → HasEntry (start_place setup f i)
  place_fits f i =
      choose HasEntry (f == 0) _ _
      (λ e. choose HasEntry (i == 0) _ _ (λ e. (omega arith, omega arith, omega arith, omega arith, omega arith)) (λ e. tt)) λ e.
      choose HasEntry (f == 1) _ _ (λ e. with_fits (start_cap setup i) (cap_fits i)) (λ e. tt)

  objects : (f : ℕ) → AreFrame (start_frame setup f) (start_place setup f) (λ i. boot_frame (start_frame setup f) (start_place setup f) i)
  objects f =
      let P : Frame → Type 0 = λ x. AreFrame x (start_place setup f) (λ i. boot_frame x (start_place setup f) i) in
      let node : (i : ℕ) → i < 64 → SaysPlace (start_place setup f i) (entry_of_word (word_of_entry (boot_entry (start_place setup f i)))) =
      λ i h. says_place (start_place setup f i) (place_fits f i) in
      let n = lim.most_cores in
      choose P (f == 0) _ _ (λ e. node) λ e.
      choose P (f == 1) _ _ (λ e. node) λ e.
      choose P (f == 2) _ _ (λ e. node) λ e.
      choose P (f == 3) _ _ (λ e. record {
        table = refl;
        pages = refl;
        live = comps.spelling.reads (record { number = 0; epoch = 1 }) (omega arith, omega arith, omega arith);
      }) λ e.
      choose P (nat_lt f (4 + setup.cores)) _ _ (λ e. are_thread (f - 4) (omega (arith, n, ltb-true f (4 + setup.cores) e))) λ e.
      choose P (nat_lt f (4 + 2 * setup.cores)) _ _ (λ e. are_tcap (granted (slice_get setup.grants (f - 4 - setup.cores)))
      (granted_fits _ (grant_fits setup lim (f - 4 - setup.cores)))) λ e. tt

  bare : (f : ℕ) → holds_node (start_frame setup f) ≡ false → HoldNothing (start_place setup f)
  bare f leafless i h = elim (cases_eq f 0) [
    | inl is ↦ absurd (true≢false (subst (λ g. holds_node (start_frame setup g) ≡ false) is leafless))
    | inr past ↦ elim (cases_eq f 1) [
      | inl is ↦ absurd (true≢false (subst (λ g. holds_node (start_frame setup g) ≡ false) is leafless))
      | inr other ↦ rw (ne_eqb f 0 past, ne_eqb f 1 other)
    ]
  ]

  numbers : (l : ℕ) → SaysNumber (start_number l) (live_of_word (word_of_live (boot_live (start_number l))))
  numbers l =
      choose (λ x. SaysNumber x (live_of_word (word_of_live (boot_live x)))) (l == 0) _ _
      (λ e. lives.spelling.reads (live_word.Live 1 3) (omega arith, omega arith, omega arith)) (λ e. lives.spelling.reads live_word.Free tt)

  -- each word of the start has 64 bits
  entry_small : (p : Place) → HasEntry p → word_of_entry (boot_entry p) < 2 ^ 64
  entry_small Free h = entries.spelling.small entry.Free tt
  entry_small (Holds k) h = entries.spelling.small (entry.Held k) h
  entry_small (Quiescing k) h = absurd h

  thread_small : (c i : ℕ) → c < 8 → boot_thread (record { stack = 3 ∷ []; runs_on = Some c }) i < 2 ^ 64
  thread_small c i h =
      choose (λ (x : ℕ). x < 2 ^ 64) (i == 0) _ _ (λ e. threads.spelling.small (Running c 1) (h, (omega arith, omega arith)))
      (λ e. stacks.spelling.small (record { 0 = at_height (3 ∷ []) (i - 1) }) (one_high (i - 1)))

  tcap_small : (q : TcapFields) (i : ℕ) → FitsTcap q → boot_tcap q i < 2 ^ 64
  tcap_small q i h = choose (λ (x : ℕ). x < 2 ^ 64) (i == 0) _ _
      (λ e. heads.spelling.small (record { budget = q.budget; mark = None; version = 0 }) (h.budget, tt, omega arith))
      (λ e. qualities.spelling.small (record { 0 = slice_get q.qualities (i - 1) }) (h.pairs (i - 1)))

  comp_small : (i : ℕ) → comp_word start_comp i < 2 ^ 64
  comp_small i =
      choose (λ (x : ℕ). x < 2 ^ 64) (i == 0) _ _ (λ e. omega arith) λ e.
      choose (λ (x : ℕ). x < 2 ^ 64) (i == 1) _ _ (λ e. omega arith) λ e.
      choose (λ (x : ℕ). x < 2 ^ 64) (i == 2) _ _
      (λ e. comps.spelling.small (record { number = 0; epoch = 1 }) (omega arith, omega arith, omega arith)) λ e. omega arith

  frame_small : (f i : ℕ) → boot_frame (start_frame setup f) (start_place setup f) i < 2 ^ 64
  frame_small f i =
      let P : Frame → Type 0 = λ x. boot_frame x (start_place setup f) i < 2 ^ 64 in
      let n = lim.most_cores in
      let node : word_of_entry (boot_entry (start_place setup f i)) < 2 ^ 64 = entry_small (start_place setup f i) (place_fits f i) in
      choose P (f == 0) _ _ (λ e. node) λ e.
      choose P (f == 1) _ _ (λ e. node) λ e.
      choose P (f == 2) _ _ (λ e. node) λ e.
      choose P (f == 3) _ _ (λ e. comp_small i) λ e.
      choose P (nat_lt f (4 + setup.cores)) _ _ (λ e. thread_small (f - 4) i (omega (arith, n, ltb-true f (4 + setup.cores) e))) λ e.
      choose P (nat_lt f (4 + 2 * setup.cores)) _ _ (λ e. tcap_small (granted (slice_get setup.grants (f - 4 - setup.cores)))
      i (granted_fits _ (grant_fits setup lim (f - 4 - setup.cores)))) λ e. omega arith

  count_small : (f n : ℕ) → n ≤ refs (start setup) f → word_of_count (record { hold = Unheld; count = pos n; stamp = 0 }) < 2 ^ 64
  count_small f n most = counts.spelling.small (record { hold = Unheld; count = pos n; stamp = 0 }) (
    tt,
    (let m = refs_most setup lim f in omega (arith, m, most)),
    omega arith,
  )

  -- core 0 counts the references to f, and no other core does
  abbrev counted : ℕ → ℕ → ℕ
  counted f c = if c == 0 then refs (start setup) f else 0

  counted_most : (f c : ℕ) → counted f c ≤ refs (start setup) f
  counted_most f c =
      choose (λ (x : ℕ). x ≤ refs (start setup) f) (c == 0) (refs (start setup) f) 0 (λ e. omega arith) (λ e. omega arith)

  pub boot_small : (w : Word) → boot_word setup w < 2 ^ 64
  boot_small (EntryAt f i) = frame_small f i
  boot_small (FrameAt f) = frames.spelling.small (frame_value (start_frame setup f)) (frame_fits (start_frame setup f))
  boot_small (CountAt f c) = count_small f (counted f c) (counted_most f c)
  boot_small (CoreAt c) = core_words.spelling.small (record { inside = false; stamp = 0 }) (omega arith)
  boot_small (FlushAt c) = flushes.spelling.small (record { stamp = 0 }) (omega arith)
  boot_small (LiveAt l) = choose (λ x. word_of_live (boot_live x) < 2 ^ 64) (l == 0) _ _
      (λ e. lives.spelling.small (live_word.Live 1 3) (omega arith, omega arith, omega arith)) (λ e. lives.spelling.small live_word.Free tt)
  boot_small ClockAt = omega arith

  count_reads : (f c : ℕ) → count_at (boot_word setup) f c ≡ Some (record { hold = Unheld; count = pos (counted f c); stamp = 0 })
  count_reads f c = counts.spelling.reads (record { hold = Unheld; count = pos (counted f c); stamp = 0 }) (
    tt,
    (let m = refs_most setup lim f in let most = counted_most f c in omega (arith, m, most)),
    omega arith,
  )

  counts_none : (f c : ℕ) → 1 ≤ c → count_in (count_at (boot_word setup) f c) ≡ pos 0
  counts_none f c some = ap count_in (count_reads f c)
      ∙ ap (λ b. pos (if b then refs (start setup) f else 0)) (ne_eqb c 0 (λ none. omega (arith, some, none)))

  represents : BootRepresents setup
  represents = record {
    parts = record {
      objects = λ f h. objects f;
      bare = λ f h no. bare f no;
      kinds = λ f h. frames.spelling.reads (frame_value (start_frame setup f)) (frame_fits (start_frame setup f));
      numbers = λ l h. numbers l;
      cores = λ c h. record { stamp = 0; says = core_words.spelling.reads (record { inside = false; stamp = 0 }) (omega arith) };
      ends = λ c h. refl;
    };
    counts = λ f h. record {
      unheld = all_counters (λ c. IsUnheld (count_at (boot_word setup) f c)) setup.cores
          (λ c below. subst IsUnheld (sym (count_reads f c)) refl);
      sum = ap residue (sum_of_first (count_at (boot_word setup) f) setup.cores lim.some_core (counts_none f) ∙ ap count_in (count_reads f 0))
          ∙ residue_pos (refs (start setup) f) (let m = refs_most setup lim f in omega (arith, m));
    };
  }

pub boot_represents : BootRepresentsStart
boot_represents setup lim = represents setup lim
