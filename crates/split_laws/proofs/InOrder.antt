-- Judged in order, a call is refused for the frame that it names by its number only where that is in a range that it names.
use Rattle.world_laws.specs.kernel_rules.specs as low
use low.{◌≡◌, ℕ, Bool, true, false, not, refl, if◌then◌else◌, List, [], ◌∷◌, Option, Some, None, Capability, has_rights, PageFlags}
use low.{FrameKind, Make, Call, Retype, Map, Value, Reply, Place, Free, Holds, Quiescing, Thing, PlaceOf, Slot, Want, to_use, only, found}
use low.{Target, own, place_at, reached, usable, other_waiting, lowest, quiescing_by, unflushed_by, Cause, Change, does, Rule, Name, Vacant}
use low.{Held, Mapped, Does, Judged, Refused, Found, and_then, unless, or_refuse, with_rights, of_kind, named, first_of, not_vacant, vacant}
use low.{first_cause, outcome, has_frame, outside, not_blank, not_taken, make_rule, not_retyped, retype_rule, not_user, map_rule, acts}
use low.{are_calls_spent, change_of, reply_in, first_reply, alone, after, is_open, Kind}
use Rattle.same_changes.specs.kernel_laws.proofs.{ap, subst, Make as make_call, State, some_inj, opened, open_is}
use Rattle.split_laws.specs.{World, side, TellsOwn}
use Rattle.split_laws.proofs.Working.{WorksOn, works_on, range_frame}
use Rattle.{world_laws.specs.kernel_rules.proofs.Agrees.IfRefused, split_laws.specs.Split.FirstTellsOwn}

-- P holds of each refusal at a name, and of each at a target that is to be free.
record NamesHold (P : Reply → Type 0) : Type 0 where
  no_slot : P Reply.NoSlot
  empty : P Reply.Empty
  wrong : P Reply.WrongCap
  no_right : P Reply.NoRight

record TargetsHold (P : Reply → Type 0) : Type 0 where
  no_slot : P Reply.NoSlot
  occupied : P Reply.Occupied
  quiescing : (e : ℕ) → P (Reply.Quiescing e)
  unflushed : (e : ℕ) → P (Reply.Unflushed e)

-- P holds of each refusal at a target and at an own cause of a rule that wants nothing held or mapped.
abbrev CausesHold : (Reply → Type 0) → State → ℕ → Rule → Type 0
CausesHold P s c (Name n want rest) = (k : Capability) → named s c n want ≡ Found k → CausesHold P s c (rest (found k))
CausesHold P s c (Vacant target rest) = TargetsHold P × ((at : Slot) → CausesHold P s c (rest at))
CausesHold P s c (Held target rest) = ⊥
CausesHold P s c (Mapped table v rest) = ⊥
CausesHold P s c (Does causes value edits) = (r : Reply) → first_cause s c causes ≡ Some r → P r

then_refused : {A B : Type 0} (x : Judged A) (f : A → Judged B) (P : Reply → Type 0) → IfRefused x P
    → ((a : A) → x ≡ Found a → IfRefused (f a) P) → IfRefused (and_then x f) P
then_refused (Refused r) f P h more = h
then_refused (Found a) f P h more = more a refl

or_refused : {A : Type 0} (o : Option A) (r : Reply) (P : Reply → Type 0) → P r → IfRefused (or_refuse o r) P
or_refused None r P h = h
or_refused (Some x) r P h = tt

unless_refused : {A : Type 0} (o : Option Reply) (x : A) (P : Reply → Type 0) → ((r : Reply) → o ≡ Some r → P r) → IfRefused (unless o x) P
unless_refused None x P h = tt
unless_refused (Some r) x P h = h r refl

module _ (P : Reply → Type 0) (h : NamesHold P) (s : State) (c : ℕ) where
  kind_refused : (want : Want) (k : Capability) → IfRefused (of_kind want k) P
  kind_refused want k = by_kind (want.kinds k.kind)
    where
      by_right : (b : Bool) → IfRefused (if b then Found k else Refused Reply.NoRight) P
      by_right true = tt
      by_right false = h.no_right

      by_kind : (b : Bool) → IfRefused (if b then with_rights want.needs k else Refused Reply.WrongCap) P
      by_kind true = by_right (has_rights k.rights want.needs)
      by_kind false = h.wrong

  name_refused : (n : ℕ) (want : Want) → IfRefused (named s c n want) P
  name_refused n want = then_refused (or_refuse (reached s c (own s c n)) Reply.NoSlot) _ P
      (or_refused (reached s c (own s c n)) Reply.NoSlot P h.no_slot)
      (λ at is. then_refused (or_refuse (usable s c at) Reply.Empty) (λ k. of_kind want k) P
      (or_refused (usable s c at) Reply.Empty P h.empty) (λ k found. kind_refused want k))

  vacant_refused : TargetsHold P → (target : Target) → IfRefused (vacant s c target) P
  vacant_refused free target = then_refused (or_refuse (reached s c target) Reply.NoSlot) _ P
      (or_refused (reached s c target) Reply.NoSlot P free.no_slot)
      (λ at is. by_place at (place_at s at))
    where
      by_core : (at : Slot) (o p : Option ℕ) → IfRefused (unless (first_of (quiescing_by o) (unflushed_by p)) at) P
      by_core at (Some e) p = free.quiescing e
      by_core at None (Some e) = free.unflushed e
      by_core at None None = tt

      by_place : (at : Slot) (p : Place) → IfRefused (unless (not_vacant s c (PlaceOf at.node at.index) p) at) P
      by_place at Free = tt
      by_place at (Holds k) = free.occupied
      by_place at (Quiescing k) =
          let x : Thing = PlaceOf at.node at.index in by_core at (other_waiting s c x) (lowest s (s.grace x).unflushed)

  refused_holds : (rule : Rule) → CausesHold P s c rule → IfRefused (outcome s c rule) P
  refused_holds (Name n want rest) more = then_refused (named s c n want) (λ k. outcome s c (rest (found k))) P (name_refused n want)
      (λ k e. refused_holds (rest (found k)) (more k e))
  refused_holds (Vacant target rest) more = then_refused (vacant s c target) (λ at. outcome s c (rest at)) P (vacant_refused more.0 target)
      (λ at e. refused_holds (rest at) (more.1 at))
  refused_holds (Held target rest) more = absurd more
  refused_holds (Mapped table v rest) more = absurd more
  refused_holds (Does causes value edits) more = unless_refused (first_cause s c causes) (does c s value edits) P more

-- ---- the calls that name a frame by its number

module _ (w : World) (s : State) (c : ℕ) (b : Bool) (on : WorksOn w s c b) where
  -- P holds of each refusal for a cause that comes after the frame is found in the range.
  after_range : (P : Reply → Type 0) → P Reply.OutOfRange → (f : ℕ) → (w.frame f ≡ b → (r : Reply) → P r) → (n : ℕ) (range : Capability)
      → named s c n (to_use (only Kind.Range)) ≡ Found range → (causes : List Cause) (r : Reply)
      → first_cause s c (outside (found range) f ∷ causes) ≡ Some r → P r
  after_range P out f all n range e causes = by_range (has_frame (found range) f) refl
    where
      by_range : (t : Bool) → has_frame (found range) f ≡ t → (r : Reply)
          → first_of (if not t then Some Reply.OutOfRange else None) (first_cause s c causes) ≡ Some r → P r
      by_range true is r q =
          all (range_frame w s c b on n f range [] e (ap (λ t. first_of (if not t then Some Reply.OutOfRange else None) None) is)) r
      by_range false is r q = subst P (some_inj Reply.OutOfRange r q) out

  retype_tells : (n f : ℕ) (k : FrameKind) → w.frame f ≡ b → (r : Reply) → TellsOwn w.frame b (Retype n f k) r
  retype_tells n f k of Reply.FrameKind = of
  retype_tells n f k of (Reply.Referenced m) = of
  retype_tells n f k of (Reply.Quiescing e) = of
  retype_tells n f k of (Reply.Unflushed e) = of
  retype_tells n f k of Reply.NotEmpty = of
  retype_tells n f k of _ = tt

  make_tells : (what : Make) (n f t a : ℕ) → w.frame f ≡ b → (r : Reply) → TellsOwn w.frame b (make_call what n f t a) r
  make_tells what n f t a of Reply.FrameKind = of
  make_tells what n f t a of _ = tt

  map_tells : (p v n f : ℕ) (flags : PageFlags) → w.frame f ≡ b → (r : Reply) → TellsOwn w.frame b (Map p v n f flags) r
  map_tells p v n f flags of Reply.FrameKind = of
  map_tells p v n f flags of _ = tt

  make_holds : (what : Make) (n f t a : ℕ) → CausesHold (TellsOwn w.frame b (make_call what n f t a)) s c (make_rule s what n f t a)
  make_holds what n f t a =
      let P : Reply → Type 0 = TellsOwn w.frame b (make_call what n f t a) in
      by_what P (record { no_slot = tt; occupied = tt; quiescing = λ e. tt; unflushed = λ e. tt }) what
      (after_range P tt f (make_tells what n f t a) n)
    where
      by_what : (P : Reply → Type 0) → TargetsHold P → (made : Make)
          → ((range : Capability) → named s c n (to_use (only Kind.Range)) ≡ Found range → (causes : List Cause) (r : Reply)
          → first_cause s c (outside (found range) f ∷ causes) ≡ Some r → P r)
          → CausesHold P s c (make_rule s made n f t a)
      by_what P free Make.Table done = λ range e table g. (free, λ at. done range e (not_blank s f ∷ []))
      by_what P free Make.Leaf done = λ range e table g. (free, λ at. done range e (not_blank s f ∷ []))
      by_what P free Make.Pages done = λ range e table g. (free, λ at. done range e (not_blank s f ∷ []))
      by_what P free Make.Pleaf done = λ range e table g. (free, λ at. done range e (not_blank s f ∷ []))
      by_what P free (Make.Thread comp) done = λ range e table g k d. (free, λ at. done range e (not_blank s f ∷ []))
      by_what P free (Make.Tcap sched quality) done = λ range e table g. (free, λ at. done range e (not_blank s f ∷ []))
      by_what P free (Make.Comp x p l) done =
          λ range e table g own_table d own_pages q. (free, λ at. done range e (not_blank s f ∷ not_taken s l))

  replied : (call : Call) → (TellsOwn w.frame b call Reply.CallsSpent) → TellsOwn w.frame b call Reply.Dead
      → ((v : Value) → TellsOwn w.frame b call (Reply.Ok v)) → IfRefused (change_of s c call) (TellsOwn w.frame b call)
      → TellsOwn w.frame b call (alone s c call)
  replied call spent dead ok refused = by_spent (are_calls_spent s c)
    where
      by_change : (x : Judged Change) → IfRefused x (TellsOwn w.frame b call) → TellsOwn w.frame b call (reply_in x)
      by_change (Refused r) h = h
      by_change (Found change) h = ok change.value

      by_life : (t : Bool) → TellsOwn w.frame b call (if t then reply_in (change_of s c call) else Reply.Dead)
      by_life true = by_change (change_of s c call) refused
      by_life false = dead

      by_spent : (t : Bool) → TellsOwn w.frame b call (if t then Reply.CallsSpent else first_reply s c call)
      by_spent true = spent
      by_spent false = by_life (acts s c call)

  pub tells_own : (call : Call) → TellsOwn w.frame b call (alone s c call)
  tells_own (Retype n f k) =
      let P : Reply → Type 0 = TellsOwn w.frame b (Retype n f k) in
      replied (Retype n f k) tt tt (λ v. tt)
      (refused_holds P (record { no_slot = tt; empty = tt; wrong = tt; no_right = tt }) s c (retype_rule s n f k)
      (λ range e. after_range P tt f (retype_tells n f k) n range e (not_retyped s f k)))
  tells_own (make_call what n f t a) =
      let P : Reply → Type 0 = TellsOwn w.frame b (make_call what n f t a) in
      replied (make_call what n f t a) tt tt (λ v. tt)
      (refused_holds P (record { no_slot = tt; empty = tt; wrong = tt; no_right = tt }) s c (make_rule s what n f t a)
      (make_holds what n f t a))
  tells_own (Map p v n f flags) =
      let P : Reply → Type 0 = TellsOwn w.frame b (Map p v n f flags) in
      replied (Map p v n f flags) tt tt (λ v. tt)
      (refused_holds P (record { no_slot = tt; empty = tt; wrong = tt; no_right = tt }) s c (map_rule s p v n f flags)
      (λ pages g range e. (
        record { no_slot = tt; occupied = tt; quiescing = λ e. tt; unflushed = λ e. tt },
        λ at. after_range P tt f (map_tells p v n f flags) n range e (not_user s f ∷ []),
      )))
  tells_own _ = tt

pub first_tells_own : FirstTellsOwn
first_tells_own setting lim events run c call opens w split =
    let s = after setting events in
    tells_own w s c (side w s c) (works_on w s c (opened events) (open_is setting lim events c run (ap is_open opens)) split) call
