-- What the words and the ends of a machine say of its worlds is so in the final state that they represent.
use Rattle.kernel_history.proofs.{◌≡◌, inl, inr, ℕ, ◌*◌, ◌<◌, ◌≤◌, Bool, true, false, ltb as nat_lt, refl, sym, ◌∙◌, ap, subst, arith}
use Rattle.kernel_history.proofs.{List, drop, slice_index, Option, Some, None, if◌then◌else◌, true≢false, lt-ltb, le-ltb, Setting}
use Rattle.kernel_history.proofs.{entry_of_word, Entry, comp_of_word, EntryAt, Shape, place_of, Place, Free, Holds}
use Rattle.kernel_history.proofs.{Quiescing, CompFields, Blank, Table, Leaf, Pages, Pleaf, Comp, Frame, Untyped, Kernel}
use Rattle.kernel_history.proofs.{Limits, State, held_in, Event, after, holds_node, frame_value, SaysPlace, AreFrame}
use Rattle.machine_image.specs.{ImageOf, word_at, node_words, held_by, component_at}
use Rattle.world_parts.specs.{sight_of, IsLast}
use Rattle.std.proofs.Common.{get_or-take, get_or-drop}
use Rattle.seal_check.specs.world_laws.specs.kernel_laws.proofs.{limits_stay, runs_sound}
use Rattle.kernel_history.specs.FinalWords.{AreComp, AreEntries}
use Rattle.world_parts.specs.{Sight.fields_of, Sight.is_untyped, Seen.is_node, Seen.is_comp, Seen.says, Seen.says_untyped, Seen.fields}
use Rattle.world_parts.specs.{Seen.held_seen, Seen.comp_seen, Seen.untyped_seen, Seen.works_seen, Seen.seen}
use Rattle.{std.proofs.lemmas.Bool.cases_lt, machine_image.specs.Views.component_of, seal_check.specs.world_laws.specs.Worlds.works_in}
use Rattle.{seal_check.proofs.Reached.held_within, world_parts.proofs.Leads.fields_within}

node_word : (shape : Shape) (words : List ℕ) (f i : ℕ) → i < 64 → slice_index (node_words words f) i ≡ word_at shape words (EntryAt f i)
unfolding place_of
node_word shape words f i h = get_or-take 64 (drop (64 * f) words) i 0 h ∙ get_or-drop (64 * f) words i 0

says_held : (p : Place) (shown : Option Entry) → SaysPlace p shown → held_by shown ≡ held_in p
says_held Free shown h = ap held_by h
says_held (Holds k) shown h = ap held_by h
says_held (Quiescing k) shown h = ap held_by h.says

none_held : (p : Place) → ((k : _) → p ≡ Holds k → ⊥) → None ≡ held_in p
none_held (Holds k) never = absurd (never k refl)
none_held _ never = refl

says_node : (x : Frame) → says is_node (Some (frame_value x)) ≡ holds_node x
says_node (Kernel Blank) = refl
says_node _ = refl

says_free : (x : Frame) → says_untyped (Some (frame_value x)) ≡ is_untyped x
says_free Untyped = refl
says_free _ = refl

entries_of : (x : Frame) (place : ℕ → Place) (word : ℕ → ℕ) → holds_node x ≡ true → AreFrame x place word → AreEntries place word
entries_of (Kernel Table) place word node h = h
entries_of (Kernel Leaf) place word node h = h
entries_of (Kernel Pages) place word node h = h
entries_of (Kernel Pleaf) place word node h = h
entries_of _ place word node h = absurd (true≢false (sym node))

-- A component whose table and pages are frames.
comp_value : (k : CompFields) (word : ℕ → ℕ) → AreComp k word → k.table < 512 → k.pages < 512
    → fields (component_of (word 0) (word 1) (comp_of_word (word 2))) ≡ Some (k.table, k.pages)
comp_value k word h low high =
    rw (h.live, h.table, h.pages, lt-ltb k.table 512 low, lt-ltb k.pages 512 high) refl

module _ (setting : Setting) (events : List Event) (m : ImageOf) (last : IsLast setting events m) where
  abbrev s : State
  s = after setting events

  abbrev word : ℕ → ℕ → ℕ
  word f i = word_at m.shape m.words (EntryAt f i)

  frames_are : m.shape.frames ≡ s.limits.frames
  frames_are = last.frames ∙ sym (ap (λ (l : Limits). l.frames) (limits_stay setting events))

  cores_are : m.shape.cores ≡ s.limits.cores
  cores_are = last.cores ∙ sym (ap (λ (l : Limits). l.cores) (limits_stay setting events))

  within : (f : ℕ) → f < m.shape.frames → f < s.limits.frames
  within f below = subst (λ n. f < n) frames_are below

  beyond : (f : ℕ) → m.shape.frames ≤ f → s.frame f ≡ Untyped
  beyond f past = (runs_sound setting last.limits events last.run).beyond f (subst (λ n. n ≤ f) frames_are past)

  -- What a place holds.
  node_held : (f i : ℕ) → f < m.shape.frames → i < 64 → (b : Bool) → holds_node (s.frame f) ≡ b
      → (if b then held_by (entry_of_word (slice_index (node_words m.words f) i)) else None) ≡ held_in (s.place f i)
  node_held f i below small true node =
      ap (λ w. held_by (entry_of_word w)) (node_word m.shape m.words f i small)
      ∙ says_held (s.place f i) (entry_of_word (word f i))
      (entries_of (s.frame f) (s.place f) (word f) node (last.represents.objects f (within f below)) i small)
  node_held f i below small false none = sym (last.represents.bare f (within f below) none i small)

  held_inside : (f i : ℕ) → f < m.shape.frames → i < 64 → held_seen m f i ≡ held_in (s.place f i)
  held_inside f i below small =
      rw (lt-ltb f m.shape.frames below, lt-ltb i 64 small)
      (ap (λ o. if says is_node o then held_by (entry_of_word (slice_index (node_words m.words f) i)) else None)
      (last.represents.kinds f (within f below))
      ∙ ap (λ b. if b then held_by (entry_of_word (slice_index (node_words m.words f) i)) else None) (says_node (s.frame f))
      ∙ node_held f i below small (holds_node (s.frame f)) refl)

  -- A place outside the machine holds nothing.
  held_outside : (f i : ℕ) → (f < setting.frames → i < 64 → ⊥) → None ≡ held_in (s.place f i)
  held_outside f i out = none_held (s.place f i) (λ k is.
      let at = held_within setting last.limits events last.run f i k is in out at.0 at.1)

  held_same : (f i : ℕ) → held_seen m f i ≡ held_in (s.place f i)
  held_same f i = elim (cases_lt f m.shape.frames) [
    | inl below ↦ elim (cases_lt i 64) [
      | inl small ↦ held_inside f i below small
      | inr large ↦ rw (lt-ltb f m.shape.frames below, le-ltb i 64 large) (held_outside f i (λ low small. omega (arith, small, large)))
    ]
    | inr past ↦
        rw (le-ltb f m.shape.frames past) (held_outside f i (λ low small. let same = last.frames in omega (arith, low, past, same)))
  ]

  -- The table and the pages of a component.
  comp_inside : (f : ℕ) → f < m.shape.frames → (x : Frame) → s.frame f ≡ x
      → (if says is_comp (Some (frame_value x)) then fields (component_at m.shape m.words f) else None) ≡ fields_of x
  comp_inside f below (Kernel (Comp k)) is =
      let most = last.limits.most_frames in
      let at = fields_within setting last.limits events last.run f k is in
      let low = at.0 in
      let high = at.1 in
      comp_value k (word f) (subst (λ x. AreFrame x (s.place f) (word f)) is (last.represents.objects f (within f below)))
      (omega (arith, low, most)) (omega (arith, high, most))
  comp_inside f below _ is = refl

  comp_same : (f : ℕ) → comp_seen m f ≡ fields_of (s.frame f)
  comp_same f = elim (cases_lt f m.shape.frames) [
    | inl below ↦
        rw (lt-ltb f m.shape.frames below)
        (ap (λ o. if says is_comp o then fields (component_at m.shape m.words f) else None) (last.represents.kinds f (within f below))
        ∙ comp_inside f below (s.frame f) refl)
    | inr past ↦ rw (le-ltb f m.shape.frames past) (sym (ap fields_of (beyond f past)))
  ]

  -- Which frames are untyped.
  untyped_same : (f : ℕ) → untyped_seen m f ≡ is_untyped (s.frame f)
  untyped_same f = elim (cases_lt f m.shape.frames) [
    | inl below ↦
        rw (lt-ltb f m.shape.frames below) (ap says_untyped (last.represents.kinds f (within f below)) ∙ says_free (s.frame f))
    | inr past ↦ rw (le-ltb f m.shape.frames past) (sym (ap is_untyped (beyond f past)))
  ]

  -- Where cores work.
  works_same : (c : ℕ) → works_seen m c ≡ (if nat_lt c s.limits.cores then works_in s c else 0)
  works_same c = elim (cases_lt c m.shape.cores) [
    | inl below ↦
        let here : c < s.limits.cores = subst (λ n. c < n) cores_are below in
        rw (lt-ltb c m.shape.cores below, lt-ltb c s.limits.cores here) (ap (λ e. e.comp) (last.represents.ends c here))
    | inr past ↦
        let out : s.limits.cores ≤ c = subst (λ n. n ≤ c) cores_are past in
        rw (le-ltb c m.shape.cores past, le-ltb c s.limits.cores out) refl
  ]

  pub seen_is : seen m ≡ sight_of s
  seen_is = λ i. record {
    frames = frames_are i;
    cores = cores_are i;
    held = λ f k. held_same f k i;
    comp = λ f. comp_same f i;
    untyped = λ f. untyped_same f i;
    works = λ c. works_same c i;
  }
