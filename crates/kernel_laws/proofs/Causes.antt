-- Each reply that the relation permits has its cause.
use Rattle.found_stays.specs.kernel_rules.proofs.{◌≡◌, ◌≢◌, ◌⊎◌, inl, inr, ℕ, zero, suc, ◌+◌, ◌<◌, ◌≤◌, Bool, true, false, not, min, ◌&&◌}
use Rattle.found_stays.specs.kernel_rules.proofs.{◌||◌, refl, sym, ◌∙◌, ap, subst, arith, ◌==◌, ltb as nat_lt, leb as nat_le, if◌then◌else◌}
use Rattle.found_stays.specs.kernel_rules.proofs.{IsTrue, IsFalse, IsSomeAnd, is_some, List, [], ◌∷◌, length, Option, Some, None}
use Rattle.found_stays.specs.kernel_rules.proofs.{false≢true, true≢false, eqb-true, eqb-false, ltb-true, ltb-false, leb-true, leb-false}
use Rattle.found_stays.specs.kernel_rules.proofs.{Capability, has_rights, Kind, FrameKind, Make, Call}
use Rattle.found_stays.specs.kernel_rules.proofs.{Retype, Map, Touch, Flush, Gate, Kill, Ret, Switch, Tick, Transfer}
use Rattle.found_stays.specs.kernel_rules.proofs.{Delegate, Test, Part, Replenish, Translation, Reply, covers, Blank, Table, Leaf}
use Rattle.found_stays.specs.kernel_rules.proofs.{Pages, Pleaf, Comp, Thread, Tcap, Frame, Untyped, User, Kernel, outstanding, Liveness}
use Rattle.found_stays.specs.kernel_rules.proofs.{Live, Thing, FrameOf, NumberOf, comp_in, comp_of, thread_in, tcap_in, thread_of, refs}
use Rattle.found_stays.specs.kernel_rules.proofs.{Slot, Named, found, Want, to_use, Target, held_in, usable, reached, only}
use Rattle.found_stays.specs.kernel_rules.proofs.{own, to_part, MayWait, MayBeUnflushed, Refused, Found, and_then, or_refuse}
use Rattle.found_stays.specs.kernel_rules.proofs.{of_kind, named, NameMay, Cause, VacantMay, Lacks, HeldMay, MappedMay, OneMay, RuleMay}
use Rattle.found_stays.specs.kernel_rules.proofs.{name_of, outside, has_frame, is_frame, is_blank, not_blank}
use Rattle.found_stays.specs.kernel_rules.proofs.{make_rule, not_taken, epoch_of, has_frames, is_untyped, is_user, holds_nothing}
use Rattle.found_stays.specs.kernel_rules.proofs.{is_empty, not_retyped, touch_by, translation_of, is_live_in, asks_life}
use Rattle.found_stays.specs.kernel_rules.proofs.{are_alike, are_same, is_short, is_finer, is_less, rule_of}
use Rattle.kernel_laws.specs.{used_at, leads_as, tcap_named, leads}
use Rattle.found_stays.specs.kernel_rules.specs.{WaitedMay, UnflushedMay, CauseMay, MayBeDead}
use Rattle.std.specs.List.{list_any, range_with_len}
use Rattle.found_stays.specs.kernel_rules.specs.{CapabilityCalls.beyond, InvocationCalls.not_live, InvocationCalls.runs_elsewhere}
use Rattle.found_stays.specs.kernel_rules.specs.Rows.{Asked, OneIs, Aim, Free, Full, Page, aims_at, causes_at, led, free_in, full_in}
use Rattle.found_stays.specs.kernel_rules.proofs.Rows.{AimMay, AtName, AtAim, ByCause, may_at, are_none, no_one}
use Rattle.found_stays.specs.spk_nums.specs.declared.calls.Call.TheVariants.{Make as make_call, Call as call_gate}
use Rattle.kernel_laws.specs.Causes.{as_wanted, names_of, targets_of, fills_at, empties_at, IsFiner, NeedsLife, IsDead, LiesOutside}
use Rattle.kernel_laws.specs.Causes.{HeldIn, IsDeadIn, BothAre, tcap_of, HasLess, HasCause, LiesBeyond}
use Rattle.{std.proofs.lemmas.Bool.and_parts}
use Rattle.{found_stays.specs.kernel_rules.specs.State.State, kernel_laws.specs.Laws.CausesStand}

-- What a rule finds under a name is what the name leads to.
module _ (s : State) (c : ℕ) (wanted : Want) where
  by_kind : (k : Capability) (b d : Bool)
      → name_of (if b then (if d then Found k else Refused Reply.NoRight) else Refused Reply.WrongCap)
      ≡ (if b && d then found k else Rattle.found_stays.specs.kernel_rules.specs.Access.not_found)
  by_kind k true true = refl
  by_kind k true false = refl
  by_kind k false d = refl

  by_use : (u : Option Capability) → name_of (and_then (or_refuse u Reply.Empty) λ k. of_kind wanted k) ≡ as_wanted wanted u
  by_use None = refl
  by_use (Some k) = by_kind k (wanted.kinds k.kind) (has_rights k.rights wanted.needs)

  by_slot : (o : Option Slot)
      → name_of (and_then (or_refuse o Reply.NoSlot) λ at. and_then (or_refuse (usable s c at) Reply.Empty) λ k. of_kind wanted k)
      ≡ as_wanted wanted (used_at s c o)
  by_slot None = refl
  by_slot (Some at) = by_use (usable s c at)

  leads_wanted : (n : ℕ) → name_of (named s c n wanted) ≡ as_wanted wanted (leads s c n)
  leads_wanted n = by_slot (reached s c (own s c n))

pub leads_is : (s : State) (c : ℕ) (kinds : Kind → Bool) (n : ℕ) → name_of (named s c n (to_use kinds)) ≡ leads_as s c n kinds
leads_is s c kinds n = leads_wanted s c (to_use kinds) n

-- One of a list.
pub one_map : {A : Type 0} (P Q : A → Type 0) (xs : List A) → ((x : A) → P x → Q x) → OneIs P xs → OneIs Q xs
one_map P Q [] f h = absurd h
one_map P Q (x ∷ xs) f (inl h) = inl (f x h)
one_map P Q (x ∷ xs) f (inr h) = inr (one_map P Q xs f h)

none_is : {A : Type 0} (xs : List A) → OneIs (λ x. ⊥) xs → ⊥
none_is [] h = h
none_is (x ∷ xs) (inl h) = h
none_is (x ∷ xs) (inr h) = none_is xs h

some_and : {A : Type 0} (o : Option A) (x : A) (P : A → Type 0) → o ≡ Some x → P x → IsSomeAnd o P
some_and o x P e h = subst (λ p. IsSomeAnd p P) (sym e) h

not_is : (b : Bool) → IsTrue (not b) → b ≡ false
not_is true h = absurd (false≢true h)
not_is false h = refl

-- Whether there is at most one target, and it is a place.
abbrev is_place : List Aim → Bool
is_place [] = true
is_place (Free t ∷ aims) = are_none aims
is_place (Full t ∷ aims) = are_none aims
is_place (Page table v ∷ aims) = false

module _ (s : State) (c : ℕ) (call : Call) where
  -- A cause at a name.
  at_use : (P : Capability → Type 0) (o : Option Slot) → IsSomeAnd o (λ at. IsSomeAnd (usable s c at) P) → IsSomeAnd (used_at s c o) P
  at_use P None h = absurd h
  at_use P (Some at) h = h

  name_cause : (r : Reply) → OneIs (λ (n : Asked). NameMay s c n.number n.want r) (names_of s c call) → HasCause s c call r
  name_cause Reply.NoSlot h = inl h
  name_cause Reply.Empty h = inl h
  name_cause Reply.WrongCap h = one_map (λ (n : Asked). NameMay s c n.number n.want Reply.WrongCap) _ (names_of s c call)
      (λ n. at_use (λ k. IsFalse (n.want.kinds k.kind)) (reached s c (own s c n.number))) h
  name_cause Reply.NoRight h = one_map (λ (n : Asked). NameMay s c n.number n.want Reply.NoRight) _ (names_of s c call)
      (λ n. at_use (Lacks n.want) (reached s c (own s c n.number))) h
  name_cause _ h = absurd (none_is (names_of s c call) h)

  -- A cause at the place to be filled.
  fill_cause : (r : Reply) (t : Target) → fills_at s c call ≡ Some t → VacantMay s c t r → HasCause s c call r
  fill_cause Reply.NoSlot t e h = inr (inl (some_and (fills_at s c call) t _ e h))
  fill_cause Reply.Occupied t e h = inl (some_and (fills_at s c call) t _ e h)
  fill_cause (Reply.Quiescing d) t e h = inl (some_and (fills_at s c call) t _ e h)
  fill_cause (Reply.Unflushed d) t e h = inl (some_and (fills_at s c call) t _ e h)
  fill_cause _ t e h = absurd h

  -- A cause at the place to be emptied.
  empty_cause : (r : Reply) (t : Target) → empties_at s c call ≡ Some t → HeldMay s c t r → HasCause s c call r
  empty_cause Reply.NoSlot t e h = inr (inr (inl (some_and (empties_at s c call) t _ e h)))
  empty_cause Reply.Empty t e h = inr (some_and (empties_at s c call) t _ e h)
  empty_cause _ t e h = absurd h

  -- A cause at the target of a call, which is one place.
  place_cause : (aims : List Aim) → targets_of s c call ≡ aims → IsTrue (is_place aims) → (r : Reply) → OneIs (AimMay s c r) aims
      → HasCause s c call r
  place_cause [] e one r h = absurd h
  place_cause (Free t ∷ aims) e one r (inl h) = fill_cause r t (ap free_in e) h
  place_cause (Free t ∷ aims) e one r (inr h) = absurd (no_one (AimMay s c r) aims one h)
  place_cause (Full t ∷ aims) e one r (inl h) = empty_cause r t (ap full_in e) h
  place_cause (Full t ∷ aims) e one r (inr h) = absurd (no_one (AimMay s c r) aims one h)
  place_cause (Page table v ∷ aims) e one r h = absurd (false≢true one)

  -- A cause of the call's own.
  when_cause : (condition : Bool) (q r : Reply) → (IsTrue condition → HasCause s c call q) → IsTrue condition × (r ≡ q)
      → HasCause s c call r
  when_cause condition q r f h = subst (HasCause s c call) (sym h.1) (f h.0)

  wait_cause : (x : Thing) (r : Reply) → ((e : ℕ) → MayWait s c x e → HasCause s c call (Reply.Quiescing e)) → WaitedMay s c x r
      → HasCause s c call r
  wait_cause x (Reply.Quiescing e) f h = f e h
  wait_cause x _ f h = absurd h

  flush_cause : (x : Thing) (r : Reply) → ((e : ℕ) → MayBeUnflushed s x e → HasCause s c call (Reply.Unflushed e)) → UnflushedMay s x r
      → HasCause s c call r
  flush_cause x (Reply.Unflushed e) f h = f e h
  flush_cause x _ f h = absurd h

-- The own causes of calls.
module _ (s : State) (c : ℕ) where
  -- The frame of a range.
  lies : (range : Named) (f : ℕ) → IsTrue (range.found && not (has_frame range f)) → LiesOutside range f
  lies range f h =
      let p = and_parts range.found (not (has_frame range f)) h in
      record {
        found = p.0;
        outside =
            by_test (nat_le range.frame f) (nat_lt f (range.frame + range.arg)) refl refl (not_is (has_frame range f) p.1);
      }
    where
      by_test : (a b : Bool) → nat_le range.frame f ≡ a → nat_lt f (range.frame + range.arg) ≡ b → (a && b) ≡ false
          → (f < range.frame) ⊎ (range.frame + range.arg ≤ f)
      by_test false b low high e = inl (leb-false range.frame f low)
      by_test true false low high e = inr (ltb-false f (range.frame + range.arg) high)
      by_test true true low high e = absurd (true≢false e)

  named_lies : (call : Call) (r f : ℕ) (q : Reply) → (LiesOutside (leads_as s c r (only Kind.Range)) f → HasCause s c call Reply.OutOfRange)
      → CauseMay s c (outside (name_of (named s c r (to_use (only Kind.Range)))) f) q → HasCause s c call q
  named_lies call r f q is h =
      when_cause s c call _ Reply.OutOfRange q
      (λ (t : IsTrue _). is (subst (λ (x : Named). LiesOutside x f)
      (leads_is s c (only Kind.Range) r) (lies (name_of (named s c r (to_use (only Kind.Range)))) f t))) h

  -- `part`.
  lies_beyond : (range : Named) (f n : ℕ) → IsTrue (range.found && not (has_frames range f n)) → LiesBeyond range f n
  lies_beyond range f n h =
      let p = and_parts range.found (not (has_frames range f n)) h in
      record {
        found = p.0;
        beyond =
            by_test (nat_le 1 n) (nat_le range.frame f) (nat_le (f + n) (range.frame + range.arg)) refl refl refl
            (not_is (has_frames range f n) p.1);
      }
    where
      by_test : (a b d : Bool) → nat_le 1 n ≡ a → nat_le range.frame f ≡ b → nat_le (f + n) (range.frame + range.arg) ≡ d
          → (a && b && d) ≡ false → (n ≡ 0) ⊎ ((f < range.frame) ⊎ (range.frame + range.arg < f + n))
      by_test false b d some low high e = inl (let less = leb-false 1 n some in omega arith)
      by_test true false d some low high e = inr (inl (leb-false range.frame f low))
      by_test true true false some low high e = inr (inr (leb-false (f + n) (range.frame + range.arg) high))
      by_test true true true some low high e = absurd (true≢false e)

  part_own : (a f n t b : ℕ) (r : Reply) → CauseMay s c (beyond (name_of (named s c a (to_part (only Kind.Range)))) f n) r
      → HasCause s c (Part a f n t b) r
  part_own a f n t b r h = when_cause s c (Part a f n t b) _ Reply.OutOfRange r
      (λ (t : IsTrue _). subst (λ (x : Named). LiesBeyond x f n) (leads_wanted s c (to_part (only Kind.Range)) a)
      (lies_beyond (name_of (named s c a (to_part (only Kind.Range)))) f n t)) h

  -- The kind of a frame of the machine.
  is_machine : (f : ℕ) (b : Bool) → IsTrue (is_frame s f && b) → (f < s.limits.frames) × IsTrue b
  is_machine f b h = let p = and_parts (is_frame s f) b h in (ltb-true f s.limits.frames p.0, p.1)

  differs : (f : ℕ) (x : Frame) (is : Frame → Bool) → is x ≡ true → IsTrue (is_frame s f && not (is (s.frame f)))
      → (f < s.limits.frames) × (s.frame f ≢ x)
  differs f x is at h =
      let p = is_machine f (not (is (s.frame f))) h in
      (p.0, λ e. true≢false (sym at ∙ ap is (sym e) ∙ not_is (is (s.frame f)) p.1))

  untyped_is : (x : Frame) → is_untyped x ≡ true → x ≡ Untyped
  untyped_is Untyped h = refl
  untyped_is _ h = absurd (false≢true h)

  -- `make`.
  number_cause : (x p l r f t b : ℕ) (q : Reply) → OneMay s c (not_taken s l) q → HasCause s c (make_call (Make.Comp x p l) r f t b) q
  number_cause x p l r f t b q (inl h) = when_cause s c (make_call (Make.Comp x p l) r f t b) _ Reply.Occupied q (λ t. inr t) h
  number_cause x p l r f t b q (inr (inl h)) = wait_cause s c (make_call (Make.Comp x p l) r f t b) (NumberOf l) q (λ e w. inr (inr w)) h
  number_cause x p l r f t b q (inr (inr (inl h))) =
      when_cause s c (make_call (Make.Comp x p l) r f t b) _ Reply.EpochsSpent q (λ t. eqb-true (epoch_of (s.number l)) s.limits.epochs t) h
  number_cause x p l r f t b q (inr (inr (inr h))) = absurd h

  made_own : (what : Make) (r f t b : ℕ) (q : Reply) (more : List Cause) → (OneMay s c more q → HasCause s c (make_call what r f t b) q)
      → OneMay s c (outside (name_of (named s c r (to_use (only Kind.Range)))) f ∷ not_blank s f ∷ more) q
      → HasCause s c (make_call what r f t b) q
  made_own what r f t b q more later (inl h) = named_lies (make_call what r f t b) r f q (λ l. l) h
  made_own what r f t b q more later (inr (inl h)) =
      when_cause s c (make_call what r f t b) _ Reply.FrameKind q (λ t. differs f (Kernel Blank) is_blank refl t) h
  made_own what r f t b q more later (inr (inr h)) = later h

  make_own : (what : Make) (r f t b : ℕ) (q : Reply)
      → OneMay s c (causes_at (make_rule s what r f t b) (led s c (make_rule s what r f t b))) q → HasCause s c (make_call what r f t b) q
  make_own (Make.Comp x p l) r f t b q h =
      made_own (Make.Comp x p l) r f t b q (not_taken s l) (number_cause x p l r f t b q) h
  make_own what r f t b q h = made_own what r f t b q [] (λ h. absurd h) h

  -- A retype.
  any_in : (p : ℕ → Bool) (a n : ℕ) → list_any p (range_with_len a n) ≡ true → (i : ℕ) × (i < a + n) × (p i ≡ true)
  any_in p a zero h = absurd (false≢true h)
  any_in p a (suc n) h = tested (any_in p (a + 1) n) (p a) refl h
    where
      tested : (list_any p (range_with_len (a + 1) n) ≡ true → (i : ℕ) × (i < (a + 1) + n) × (p i ≡ true))
          → (t : Bool) → p a ≡ t → (t || list_any p (range_with_len (a + 1) n)) ≡ true → (i : ℕ) × (i < a + suc n) × (p i ≡ true)
      tested more true is e = (a, omega arith, is)
      tested more false is e = let m = more e in (m.0, (let l = m.1 in omega (arith, l)), m.2)

  not_not : (b : Bool) → not (not b) ≡ true → b ≡ true
  not_not true h = refl
  not_not false h = absurd (false≢true h)

  held_at : (f : ℕ) → IsTrue (not (holds_nothing s f)) → HeldIn s f
  unfolding holds_nothing
  held_at f h =
      let m = any_in (λ i. is_some (held_in (s.place f i))) 0 64
      (not_not (list_any (λ i. is_some (held_in (s.place f i))) (range_with_len 0 64)) h) in
      record { index = m.0; below = (let l = m.1 in omega (arith, l)); held = m.2 }

  not_empty : (f : ℕ) (x : Frame) → s.frame f ≡ x → IsTrue (not (is_empty s f x))
      → (1 < length (thread_in x).stack) ⊎ ((0 < (tcap_in x).budget) ⊎ HeldIn s f)
  not_empty f (Kernel (Thread t)) is h = inl (leb-false (length t.stack) 1 (not_is (nat_le (length t.stack) 1) h))
  not_empty f (Kernel (Tcap q)) is h = inr (inl (let n = eqb-false q.budget 0 (not_is (q.budget == 0) h) in omega (arith, n)))
  not_empty f (Kernel Table) is h = inr (inr (held_at f h))
  not_empty f (Kernel Leaf) is h = inr (inr (held_at f h))
  not_empty f (Kernel Pages) is h = inr (inr (held_at f h))
  not_empty f (Kernel Pleaf) is h = inr (inr (held_at f h))
  not_empty f _ is h = absurd (false≢true h)

  retype_own : (r f : ℕ) (k : FrameKind) (q : Reply) → OneMay s c (not_retyped s f k) q → HasCause s c (Retype r f k) q
  retype_own r f FrameKind.Untyped q (inl h) =
      when_cause s c (Retype r f FrameKind.Untyped) _ Reply.FrameKind q
      (λ t. let p = is_machine f (is_untyped (s.frame f)) t in (p.0, untyped_is (s.frame f) p.1)) h
  retype_own r f FrameKind.Untyped q (inr (inl h)) =
      when_cause s c (Retype r f FrameKind.Untyped) _ (Reply.Referenced (refs s f)) q (λ t. (ltb-true 0 (refs s f) t, refl)) h
  retype_own r f FrameKind.Untyped q (inr (inr (inl h))) =
      wait_cause s c (Retype r f FrameKind.Untyped) (FrameOf f) q (λ e w. inr (inl w)) h
  retype_own r f FrameKind.Untyped q (inr (inr (inr (inl h)))) =
      flush_cause s c (Retype r f FrameKind.Untyped) (FrameOf f) q (λ e w. inr w) h
  retype_own r f FrameKind.Untyped q (inr (inr (inr (inr (inl h))))) =
      when_cause s c (Retype r f FrameKind.Untyped) _ Reply.NotEmpty q (λ t. not_empty f (s.frame f) refl t) h
  retype_own r f FrameKind.Untyped q (inr (inr (inr (inr (inr h))))) = absurd h
  retype_own r f FrameKind.User q (inl h) =
      when_cause s c (Retype r f FrameKind.User) _ Reply.FrameKind q (λ t. differs f Untyped is_untyped refl t) h
  retype_own r f FrameKind.User q (inr h) = absurd h
  retype_own r f FrameKind.Kernel q (inl h) =
      when_cause s c (Retype r f FrameKind.Kernel) _ Reply.FrameKind q (λ t. differs f Untyped is_untyped refl t) h
  retype_own r f FrameKind.Kernel q (inr h) = absurd h

  -- `touch`.
  page_cause : (v : ℕ) (q : Reply) → translation_of (s.core c).cached (comp_of s c).pages v ≡ None → MappedMay s c (comp_of s c).pages v q
      → HasCause s c (Touch v) q
  page_cause v Reply.NoSlot is h = inr (inr (inr (ltb-true 4095 v h)))
  page_cause v Reply.Fault is h = (is, leb-true v 4095 h.0, h.1)
  page_cause v _ is h = absurd h

  touch_aim : (v : ℕ) (q : Reply) → (t : Option Translation) → translation_of (s.core c).cached (comp_of s c).pages v ≡ t
      → (let rule = touch_by (comp_of s c).pages v t in OneIs (AimMay s c q) (aims_at rule (led s c rule))) → HasCause s c (Touch v) q
  touch_aim v q None is (inl h) = page_cause v q is h
  touch_aim v q None is (inr h) = absurd h
  touch_aim v q (Some t) is h = absurd h

  touch_own : (v : ℕ) (q : Reply) → (t : Option Translation)
      → (let rule = touch_by (comp_of s c).pages v t in OneMay s c (causes_at rule (led s c rule)) q) → HasCause s c (Touch v) q
  touch_own v q None h = absurd h
  touch_own v q (Some t) (inl h) = when_cause s c (Touch v) _ Reply.NoSlot q (λ t. inr (inr (inr (ltb-true 4095 v t)))) h
  touch_own v q (Some t) (inr h) = absurd h

  -- Invocations.
  not_live_in : (x : Liveness) (epoch : ℕ) → is_live_in x epoch ≡ false → (f : ℕ) → x ≢ Live epoch f
  not_live_in x epoch e f is = true≢false (sym (eq epoch) ∙ ap (λ y. is_live_in y epoch) (sym is) ∙ e)
    where
      eq : (n : ℕ) → (n == n) ≡ true
      eq n = Rattle.std.proofs.lemmas.Bool.eq-eqb n n refl

  dead_in : (name : Named) (epoch : ℕ) → IsTrue (name.found && not (is_live_in (s.number (comp_in (s.frame name.frame)).number) epoch))
      → IsDeadIn s name epoch
  dead_in name epoch h =
      let p = and_parts name.found (not (is_live_in (s.number (comp_in (s.frame name.frame)).number) epoch)) h in
      record { found = p.0; dead = not_live_in (s.number (comp_in (s.frame name.frame)).number) epoch (not_is _ p.1) }

  kill_own : (k : ℕ) (q : Reply) → (let comp = name_of (named s c k (to_use (only Kind.Comp))) in
      CauseMay s c (not_live s comp (comp_in (s.frame comp.frame)).number (comp_in (s.frame comp.frame)).epoch) q) → HasCause s c (Kill k) q
  kill_own k q h = when_cause s c (Kill k) _ Reply.Dead q
      (λ t. inr (subst (λ (x : Named). IsDeadIn s x (comp_in (s.frame x.frame)).epoch) (leads_is s c (only Kind.Comp) k)
      (dead_in (name_of (named s c k (to_use (only Kind.Comp))))
      (comp_in (s.frame (name_of (named s c k (to_use (only Kind.Comp)))).frame)).epoch
      t))) h

  call_own : (g : ℕ) (q : Reply) → (let gate = name_of (named s c g (to_use (only Kind.Gate))) in
      CauseMay s c (not_live s gate (comp_in (s.frame gate.frame)).number gate.arg) q) → HasCause s c (call_gate g) q
  call_own g q h = when_cause s c (call_gate g) _ Reply.Dead q
      (λ t. inr (subst (λ (x : Named). IsDeadIn s x x.arg) (leads_is s c (only Kind.Gate) g)
      (dead_in (name_of (named s c g (to_use (only Kind.Gate)))) (name_of (named s c g (to_use (only Kind.Gate)))).arg t))) h

  switch_own : (h q : ℕ) (x : Named) (r : Reply) → x ≡ leads_as s c h (only Kind.Thread) → (e : Option ℕ)
      → (thread_in (s.frame x.frame)).runs_on ≡ e
      → OneMay s c (runs_elsewhere x e) r → HasCause s c (Switch h q) r
  switch_own h q x r at None is may = absurd may
  switch_own h q x r at (Some e) is (inl may) =
      when_cause s c (Switch h q) _ (Reply.Running e) r
      (λ t. subst (λ (x : Named). IsTrue x.found × ((thread_in (s.frame x.frame)).runs_on ≡ Some e)) at (t, is)) may
  switch_own h q x r at (Some e) is (inr may) = absurd may

  -- Two temporal capabilities.
  both_are : (a b : ℕ) (P : ℕ → ℕ → Type 0)
      → BothAre (name_of (named s c a (to_use (only Kind.Tcap)))) (name_of (named s c b (to_use (only Kind.Tcap)))) P
      → BothAre (tcap_named s c a) (tcap_named s c b) P
  both_are a b P h =
      subst (λ (x : Named). BothAre (tcap_named s c a) x P) (leads_is s c (only Kind.Tcap) b)
      (subst (λ (x : Named). BothAre x (name_of (named s c b (to_use (only Kind.Tcap)))) P) (leads_is s c (only Kind.Tcap) a) h)

  two_found : (x y : Named) (b : Bool) (P : ℕ → ℕ → Type 0) → (IsTrue b → P x.frame y.frame) → IsTrue (x.found && (y.found && b))
      → BothAre x y P
  two_found x y b P f h =
      let p = and_parts x.found (y.found && b) h in
      let q = and_parts y.found b p.1 in
      record { first = p.0; second = q.0; both = f q.1 }

  same_cause : (call : Call) (a b : ℕ) (r : Reply)
      → (BothAre (tcap_named s c a) (tcap_named s c b) (λ f g. f ≡ g) → HasCause s c call Reply.Same)
      → CauseMay s c (are_same (name_of (named s c a (to_use (only Kind.Tcap)))) (name_of (named s c b (to_use (only Kind.Tcap))))) r
      → HasCause s c call r
  same_cause call a b r f h = when_cause s c call _ Reply.Same r
      (λ t. f (both_are a b (λ f g. f ≡ g) (two_found (name_of (named s c a (to_use (only Kind.Tcap))))
      (name_of (named s c b (to_use (only Kind.Tcap)))) _ (λ f g. f ≡ g) (eqb-true _ _) t))) h

  short_cause : (call : Call) (a m : ℕ) (r : Reply) → ((n : ℕ) → HasLess s (tcap_named s c a) m n → HasCause s c call (Reply.Short n))
      → CauseMay s c (is_short s (name_of (named s c a (to_use (only Kind.Tcap)))) m) r → HasCause s c call r
  short_cause call a m r f h = when_cause s c call _ (Reply.Short n) r
      (λ t. f n (subst (λ (x : Named). HasLess s x m n) (leads_is s c (only Kind.Tcap) a)
      (let p = and_parts x.found (nat_lt n m) t in record { found = p.0; is = refl; less = ltb-true n m p.1 }))) h
    where
      x : Named
      x = name_of (named s c a (to_use (only Kind.Tcap)))

      n : ℕ
      n = (tcap_of s x.frame).budget

  unlike_lists : (xs ys : List (ℕ × ℕ)) → are_alike xs ys ≡ false → xs ≢ ys
  unlike_lists xs ys e same = true≢false (sym (alike ys) ∙ ap (λ zs. are_alike zs ys) (sym same) ∙ e)
    where
      eq : (n : ℕ) → (n == n) ≡ true
      eq n = Rattle.std.proofs.lemmas.Bool.eq-eqb n n refl

      and : (a b : Bool) → a ≡ true → b ≡ true → (a && b) ≡ true
      and a b p q = ap (λ x. x && b) p ∙ q

      alike : (xs : List (ℕ × ℕ)) → are_alike xs xs ≡ true
      alike [] = refl
      alike (x ∷ xs) = and (x.0 == x.0) (x.1 == x.1 && are_alike xs xs) (eq x.0) (and (x.1 == x.1) (are_alike xs xs) (eq x.1) (alike xs))

  finer_cause : (a m : ℕ) (r : Reply) → CauseMay s c (is_finer s c (name_of (named s c a (to_use (only Kind.Tcap))))) r
      → HasCause s c (Replenish a m) r
  finer_cause a m r h = when_cause s c (Replenish a m) _ Reply.Unlike r
      (λ t. subst (λ (x : Named). IsFiner s c x) (leads_is s c (only Kind.Tcap) a)
      (let p = and_parts x.found (not (covers (tcap_of s x.frame).qualities (s.core c).grant)) t in
      record { found = p.0; finer = not_is _ p.1 })) h
    where
      x : Named
      x = name_of (named s c a (to_use (only Kind.Tcap)))

  less_cause : (a m : ℕ) (r : Reply) → CauseMay s c (is_less s c m) r → HasCause s c (Replenish a m) r
  less_cause a m r h = when_cause s c (Replenish a m) _ (Reply.Short (min left m)) r
      (λ t. let less : left < m = ltb-true left m t in (omega (arith, less), omega (arith, less))) h
    where
      left : ℕ
      left = outstanding (s.core c)

  -- A call that has causes of its own, each in its order.
  own_cause : (call : Call) (q : Reply) → OneMay s c (causes_at (rule_of s c call) (led s c (rule_of s c call))) q → HasCause s c call q
  own_cause (Retype r f k) q (inl h) = named_lies (Retype r f k) r f q (λ l. l) h
  own_cause (Retype r f k) q (inr h) = retype_own r f k q h
  own_cause (make_call what r f t b) q h = make_own what r f t b q h
  own_cause (Map p v r f w) q (inl h) = named_lies (Map p v r f w) r f q (λ l. l) h
  own_cause (Map p v r f w) q (inr (inl h)) =
      when_cause s c (Map p v r f w) _ Reply.FrameKind q (λ t. differs f User is_user refl t) h
  own_cause (Map p v r f w) q (inr (inr h)) = absurd h
  own_cause (Touch v) q h = touch_own v q (translation_of (s.core c).cached (comp_of s c).pages v) h
  own_cause (Kill k) q (inl h) = kill_own k q h
  own_cause (Kill k) q (inr h) = absurd h
  own_cause (call_gate g) q (inl h) = when_cause s c (call_gate g) _ Reply.Deep q (λ t. leb-true 16 (length (thread_of s c).stack) t) h
  own_cause (call_gate g) q (inr (inl h)) = call_own g q h
  own_cause (call_gate g) q (inr (inr h)) = absurd h
  own_cause Ret q (inl h) = when_cause s c Ret _ Reply.Bottom q (λ t. leb-true (length (thread_of s c).stack) 1 t) h
  own_cause Ret q (inr h) = absurd h
  own_cause (Switch f p) q h =
      let x = name_of (named s c f (to_use (only Kind.Thread))) in
      switch_own f p x q (leads_is s c (only Kind.Thread) f) (thread_in (s.frame x.frame)).runs_on refl h
  own_cause (Transfer a b m) q (inl h) = same_cause (Transfer a b m) a b q (λ x. x) h
  own_cause (Transfer a b m) q (inr (inl h)) = short_cause (Transfer a b m) a m q (λ n x. x) h
  own_cause (Transfer a b m) q (inr (inr (inl h))) = when_cause s c (Transfer a b m) _ Reply.Unlike q
      (λ t. both_are a b _ (two_found _ _ _ _ (λ t. unlike_lists _ _ (not_is _ t)) t)) h
  own_cause (Transfer a b m) q (inr (inr (inr h))) = absurd h
  own_cause (Delegate a b m) q (inl h) = same_cause (Delegate a b m) a b q (λ x. x) h
  own_cause (Delegate a b m) q (inr (inl h)) = short_cause (Delegate a b m) a m q (λ n x. x) h
  own_cause (Delegate a b m) q (inr (inr (inl h))) = when_cause s c (Delegate a b m) _ Reply.TooMany q
      (λ t. both_are a b _ (two_found _ _ _ _ (λ t. ltb-true 8 _ t) t)) h
  own_cause (Delegate a b m) q (inr (inr (inr h))) = absurd h
  own_cause (Test a b) q (inl h) = same_cause (Test a b) a b q (λ x. x) h
  own_cause (Test a b) q (inr h) = absurd h
  own_cause (Replenish a m) q (inl h) = finer_cause a m q h
  own_cause (Replenish a m) q (inr (inl h)) = less_cause a m q h
  own_cause (Replenish a m) q (inr (inr h)) = absurd h
  own_cause (Part a f n t b) q (inl h) = part_own a f n t b q h
  own_cause (Part a f n t b) q (inr h) = absurd h
  own_cause _ q h = absurd h

  aim_cause : (call : Call) (r : Reply) → OneIs (AimMay s c r) (targets_of s c call) → HasCause s c call r
  aim_cause (Touch v) r h = touch_aim v r (translation_of (s.core c).cached (comp_of s c).pages v) refl h
  aim_cause (make_call Make.Table range f t b) r h = place_cause s c (make_call Make.Table range f t b) _ refl refl r h
  aim_cause call r h = place_cause s c call (targets_of s c call) refl refl r h

  rule_cause : (call : Call) (r : Reply) → RuleMay s c (rule_of s c call) r → HasCause s c call r
  rule_cause call r may = elim (may_at s c (rule_of s c call) r may) [
    | AtName h ↦ name_cause s c call r h
    | AtAim h ↦ aim_cause call r h
    | ByCause h ↦ own_cause call r h
  ]

  -- A call that asks for life needs it.
  needs_life : (call : Call) → IsTrue (asks_life call) → NeedsLife call
  needs_life Flush h = false≢true h
  needs_life Ret h = false≢true h
  needs_life (Tick n) h = false≢true h
  needs_life _ h = tt

  dead_cause : (call : Call) → MayBeDead s c call ⊎ RuleMay s c (rule_of s c call) Reply.Dead → IsDead s c call
  dead_cause call (inl h) = inl (record {
    needs = needs_life call h.0;
    dead = not_live_in (s.number (comp_of s c).number) (comp_of s c).epoch h.1;
  })
  dead_cause call (inr h) = rule_cause call Reply.Dead h

pub causes_stand : CausesStand
causes_stand s c call (Reply.Ok v) may = tt
causes_stand s c call Reply.Raced may = tt
causes_stand s c call (Reply.Busy e) may = tt
causes_stand s c call Reply.CallsSpent may = leb-true s.limits.calls (s.core c).counted may
causes_stand s c call Reply.Dead may = dead_cause s c call may.1
causes_stand s c call r may = rule_cause s c call r may.1
