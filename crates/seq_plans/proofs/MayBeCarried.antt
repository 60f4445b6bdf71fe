-- A call whose plan was found, and against which no own cause stands, may be carried out.
use Rattle.seq_state.specs.kernel_rules.proofs as low
use low.{◌≡◌, ◌≢◌, inl, inr, ℕ, ◌<◌, ◌≤◌, ◌+◌, ◌^◌, ◌==◌, Bool, true, false, not, ◌&&◌, ltb as nat_lt, leb as nat_le, if◌then◌else◌, refl}
use low.{sym, ap, subst, ◌∙◌, arith, zero, suc, drop, length, List, [], ◌∷◌, Option, Some, None, IsTrue, IsFalse, is_some, IsSome}
use low.{IsSomeAnd, min, true≢false, ltb-true, ltb-false, leb-true, leb-false, eqb-false, le-ltb, Capability, FrameKind, Translation, Make}
use low.{Call, Retype, Touch, Kill, Ret, Switch, Transfer, Delegate}
use low.{Replenish, Reply, Table, Leaf, Pages, Pleaf, Comp, Thread, Tcap, Frame, Untyped, User, Kernel, outstanding, comp_in, comp_of}
use low.{thread_in, thread_of, Slot, Named, found, only, to_use, to_part, Cause, Found, named, mapped, first_of, refusal_of, first_cause}
use low.{has_frame, outside, epoch_of, has_frames, is_empty, not_retyped, retype_rule, translation_of, is_live_in, not_live, switch_to}
use low.{touch_by, are_same, is_short, are_many, merged_list, is_finer, is_less, rule_of, frames_in, Kind}
use Rattle.seq_plans.specs.{named_of, rest_by, left_of, causes_of, retype_beyond, judged_rule, resolved}
use Rattle.seq_lookups.specs.Ranges.{RangeEnds, PageFound, HasEpoch, BudgetsFit, IsInRange, WholeEnds, BackFits}
use Rattle.seq_plans.specs.{declared.walking.Looked.Looked, Carrying.HasLed, Carrying.WasReached, Carrying.WasFound, Carrying.AllMay}
use Rattle.seq_plans.specs.{Carrying.MayCarry}
use Rattle.{seq_state.specs.kernel_rules.specs.Rows.edits_at, seq_plans.specs.Carrying.findings_of}
use Rattle.{std.proofs.lemmas.Bool.and_parts, std.proofs.lemmas.Bool.cases_lt, seq_state.specs.Make as make_call, seq_state.specs.State}
use Rattle.{seq_state.specs.kernel_rules.specs.beyond, seq_state.specs.kernel_rules.specs.budget_at}
use Rattle.{spk_nums.specs.declared.calls.Call.TheVariants.Call as call_gate, call_plans.specs.PlanOf.plan_for}
use Rattle.{seq_lookups.proofs.Outcomes.where_found, seq_plans.specs.nothing, seq_plans.specs.Walks.before}
use Rattle.seq_plans.proofs.FoundAll.{found_all, IsFound, NameIs, TargetIs}
use Rattle.call_plans.specs.{at_place, declared.plans.Name.Name, declared.plans.Plan.Plan, declared.plans.Target.Target}
use Rattle.call_plans.specs.declared.plans.Nth.TheVariants.{First, Second, Third, Fourth}
use Rattle.call_plans.specs.declared.plans.Target.TheVariants.{Nowhere, Free, Held, Own}

-- ---- no cause stands

calm_parts : (a b : Option Reply) → None ≡ first_of a b → (None ≡ a) × (None ≡ b)
calm_parts None b e = (refl, e)
calm_parts (Some r) b e = absurd (cc)

calm_when : (b : Bool) (r : Reply) → None ≡ (if b then Some r else None) → b ≡ false
calm_when true r e = absurd (cc)
calm_when false r e = refl

-- The first of several causes, if there is one, does not stand.
abbrev HeadCalm : State → ℕ → List Cause → Type 0
HeadCalm s c [] = Unit {0}
HeadCalm s c (x ∷ xs) = None ≡ refusal_of s c x

calm_at : (s : State) (c n : ℕ) (xs : List Cause) → None ≡ first_cause s c xs → HeadCalm s c (drop n xs)
calm_at s c zero [] e = tt
calm_at s c zero (x ∷ xs) e = (calm_parts (refusal_of s c x) (first_cause s c xs) e).0
calm_at s c (suc n) [] e = tt
calm_at s c (suc n) (x ∷ xs) e = calm_at s c n xs (calm_parts (refusal_of s c x) (first_cause s c xs) e).1

not_false : (b : Bool) → not b ≡ false → b ≡ true
not_false true e = refl
not_false false e = absurd (true≢false e)

some_of : {A : Type 0} (o : Option A) (P : A → Type 0) → IsSomeAnd o P → IsSome o
some_of None P h = absurd h
some_of (Some x) P h = refl

is_found : (o : Option Capability) → IsSome o → (named_of o).found ≡ true
is_found None h = absurd (true≢false (sym h))
is_found (Some k) h = refl

-- A name has led to a capability.
abbrev Names : State → ℕ → ℕ → Rattle.spk_nums.specs.declared.kinds.Kind.Kind → Option Capability → Type 0
Names s c n kind o = IsSomeAnd o λ k. named s c n (to_use (only kind)) ≡ Found k

-- ---- frames of a range

range_most : (s : State) (c r : ℕ) (k : Capability) → named s c r (to_use (only Kind.Range)) ≡ Found k → RangeEnds s c r
    → k.frame + k.arg ≤ s.limits.frames
range_most s c r k is ends = where_found (named s c r (to_use (only Kind.Range))) (λ k. k.frame + k.arg ≤ s.limits.frames) k (sym is) ends

found_frame : (s : State) (c r f : ℕ) (o : Option Capability) (others : Option Reply) → Names s c r Kind.Range o → RangeEnds s c r
    → None ≡ first_of (refusal_of s c (outside (named_of o) f)) others → f < s.limits.frames
found_frame s c r f None others is ends calm = absurd is
found_frame s c r f (Some k) others is ends calm =
    let most = range_most s c r k is ends in
    let inside : has_frame (found k) f ≡ true =
    not_false (has_frame (found k) f) (calm_when (not (has_frame (found k) f)) Reply.OutOfRange
    (calm_parts (refusal_of s c (outside (found k) f)) others calm).0) in
    let below : f < k.frame + k.arg =
    ltb-true f (k.frame + k.arg) (and_parts (nat_le k.frame f) (nat_lt f (k.frame + k.arg)) inside).1 in
    omega (arith, below, most)

-- The first frame of a part is one of the machine's.
part_frame : (s : State) (c r f n : ℕ) (o : Option Capability)
    → IsSomeAnd o (λ k. named s c r (to_part (only Kind.Range)) ≡ Found k) → WholeEnds s c r
    → None ≡ first_cause s c (beyond (named_of o) f n ∷ []) → f < s.limits.frames
part_frame s c r f n None is ends calm = absurd is
part_frame s c r f n (Some k) is ends calm =
    let most : k.frame + k.arg ≤ s.limits.frames =
    where_found (named s c r (to_part (only Kind.Range))) (λ k. k.frame + k.arg ≤ s.limits.frames) k (sym is) ends in
    let p = frames_in (found k) f n (not_false (has_frames (found k) f n) (calm_when (not (has_frames (found k) f n)) Reply.OutOfRange
    (calm_parts (refusal_of s c (beyond (found k) f n)) None calm).0)) in
    let some = p.some in
    let last = p.last in
    omega (arith, most)

-- A frame past the machine's is in no range.
frame_outside : (s : State) (c r f : ℕ) (o : Option Capability) → Names s c r Kind.Range o → RangeEnds s c r
    → nat_lt f s.limits.frames ≡ false → refusal_of s c (outside (named_of o) f) ≡ Some Reply.OutOfRange
frame_outside s c r f None is ends past = absurd is
frame_outside s c r f (Some k) is ends past =
    let most = range_most s c r k is ends in
    let beyond : s.limits.frames ≤ f = ltb-false f s.limits.frames past in
    let over : k.frame + k.arg ≤ f = omega (arith, most, beyond) in
    by_first (nat_le k.frame f) (nat_lt f (k.frame + k.arg)) (le-ltb f (k.frame + k.arg) over)
  where
    by_first : (a b : Bool) → b ≡ false → (if not (a && b) then Some Reply.OutOfRange else None) ≡ Some Reply.OutOfRange
    by_first true true none = absurd (true≢false none)
    by_first true false none = refl
    by_first false b none = refl

-- ---- a retype

few_in : (s : State) (f : ℕ) (x : Frame) → is_empty s f x ≡ true → length (thread_in x).stack ≤ 1
few_in s f Untyped e = omega arith
few_in s f (Kernel (Thread t)) e = leb-true (length t.stack) 1 e
few_in s f _ e = omega arith

few_now : (s : State) (c f : ℕ) (range : Named) → None ≡ first_cause s c (outside range f ∷ not_retyped s f FrameKind.Untyped)
    → length (thread_in (s.frame f)).stack ≤ 1
few_now s c f range calm =
    few_in s f (s.frame f) (not_false (is_empty s f (s.frame f)) (calm_when (not (is_empty s f (s.frame f))) Reply.NotEmpty
    (calm_at s c 5 (outside range f ∷ not_retyped s f FrameKind.Untyped) calm)))

-- ---- a component

next_epoch : (e n : ℕ) → e ≤ n → (e == n) ≡ false → e + 1 ≤ n
next_epoch e n most apart =
    elim (cases_lt e n) [ inl lt ↦ omega (arith, lt) | inr ge ↦ absurd (eqb-false e n apart (omega (arith, most, ge))) ]

-- ---- a touch

page_of : (s : State) (c v : ℕ) (held : Option Capability) → PageFound s c v
    → IsSomeAnd held (λ k. mapped s c (comp_of s c).pages v ≡ Found k) → IsSomeAnd held (λ k. k.kind ≡ Kind.Page)
page_of s c v None page is = is
page_of s c v (Some k) page is = where_found (mapped s c (comp_of s c).pages v) (λ k. k.kind ≡ Kind.Page) k (sym is) page

touch_may : (s : State) (c v : ℕ) (l : Looked) (cached : Option Translation) → PageFound s c v
    → (IsFalse (is_some cached) → IsSomeAnd l.held (λ k. mapped s c (comp_of s c).pages v ≡ Found k))
    → AllMay s c (plan_for (Touch v)) l (edits_at (touch_by (comp_of s c).pages v cached) (findings_of l))
touch_may s c v l None page is = (page_of s c v l.held page (is refl), tt)
touch_may s c v l (Some t) page is = tt

-- ---- a gate, a kill and a switch

gate_epoch : (s : State) (c n : ℕ) (o : Option Capability) → Names s c n Kind.Comp o → HasEpoch s c n
    → 1 ≤ (comp_in (s.frame (named_of o).frame)).epoch
gate_epoch s c n None is epoch = absurd is
gate_epoch s c n (Some k) is epoch =
    where_found (named s c n (to_use (only Kind.Comp))) (λ k. 1 ≤ (comp_in (s.frame k.frame)).epoch) k (sym is) epoch

lives_now : (s : State) (c : ℕ) (h : Named) (l e : ℕ) → h.found ≡ true → None ≡ first_cause s c (not_live s h l e ∷ [])
    → IsTrue (is_live_in (s.number l) e)
lives_now s c h l e here calm =
    not_false (is_live_in (s.number l) e) (calm_when (not (is_live_in (s.number l) e)) Reply.Dead
    (subst (λ (b : Bool). None ≡ (if b && not (is_live_in (s.number l) e) then Some Reply.Dead else None)) here
    (calm_parts _ _ calm).0))

idle_now : (s : State) (c : ℕ) (h : Named) (q : ℕ) (e : Option ℕ) (ks : List Named) (at : Option Slot) (held : Option Capability)
    → h.found ≡ true → None ≡ first_cause s c (causes_of (rest_by (switch_to h q e) ks at held)) → e ≡ None
idle_now s c h q None ks at held here calm = refl
idle_now s c h q (Some d) ks at held here calm =
    absurd (true≢false (sym here ∙ calm_when h.found (Reply.Running d) (calm_parts _ _ calm).0))

-- ---- two temporal capabilities

may_move : (s : State) (c a b m : ℕ) (x y : Option Capability) (others : Option Reply)
    → Names s c a Kind.Tcap x → Names s c b Kind.Tcap y → BudgetsFit s c a b
    → None ≡ first_of (refusal_of s c (are_same (named_of x) (named_of y))) (first_of (refusal_of s c (is_short s (named_of x) m)) others)
    → ((named_of x).frame ≢ (named_of y).frame) × (budget_at s (named_of y).frame + m < 2 ^ 32)
may_move s c a b m None y others is_x is_y fits calm = absurd is_x
may_move s c a b m (Some x) None others is_x is_y fits calm = absurd is_y
may_move s c a b m (Some x) (Some y) others is_x is_y fits calm =
    let first = calm_parts _ _ calm in
    let second = calm_parts _ _ first.1 in
    let apart : x.frame ≢ y.frame = eqb-false x.frame y.frame (calm_when (x.frame == y.frame) Reply.Same first.0) in
    let enough : m ≤ budget_at s x.frame =
    ltb-false (budget_at s x.frame) m (calm_when (nat_lt (budget_at s x.frame) m) (Reply.Short (budget_at s x.frame)) second.0) in
    let one = where_found (named s c a (to_use (only Kind.Tcap))) _ x (sym is_x) fits in
    let both = where_found (named s c b (to_use (only Kind.Tcap))) _ y (sym is_y) one in
    (apart, omega (arith, both apart, enough))

gives : (s : State) (c a m : ℕ) (x : Option Capability) → Names s c a Kind.Tcap x → BackFits s c a
    → None ≡ first_of (refusal_of s c (is_finer s c (named_of x))) (first_of (refusal_of s c (is_less s c m)) None)
    → (budget_at s (named_of x).frame + m < 2 ^ 32) × ((s.core c).back + m < 2 ^ 64)
gives s c a m None is fits calm = absurd is
gives s c a m (Some x) is fits calm =
    let second = calm_parts _ _ (calm_parts _ _ calm).1 in
    let left : ℕ = outstanding (s.core c) in
    let enough : m ≤ left = ltb-false left m (calm_when (nat_lt left m) (Reply.Short (min left m)) second.0) in
    let one = where_found (named s c a (to_use (only Kind.Tcap))) _ x (sym is) fits.budget in
    (omega (arith, one, enough), omega (arith, enough, fits.back, fits.spent))

few_merged : (s : State) (c : ℕ) (x y : Option Capability) (o p : Option Reply) → IsSome x → IsSome y
    → None ≡ first_of o (first_of p (first_cause s c (are_many s (named_of x) (named_of y) ∷ [])))
    → length (merged_list s (named_of x).frame (named_of y).frame) ≤ 8
few_merged s c None y o p some_x some_y calm = absurd (true≢false (sym some_x))
few_merged s c (Some x) None o p some_x some_y calm = absurd (true≢false (sym some_y))
few_merged s c (Some x) (Some y) o p some_x some_y calm =
    let last = calm_parts _ _ (calm_parts _ _ (calm_parts _ _ calm).1).1 in
    ltb-false 8 (length (merged_list s x.frame y.frame))
    (calm_when (nat_lt 8 (length (merged_list s x.frame y.frame))) Reply.TooMany last.0)

-- ---- what was found

has_led : (s : State) (c : ℕ) (m : Looked) (name : Option Name) (k : Option Capability) → NameIs s c m name k → HasLed name k
has_led s c m None k h = tt
has_led s c m (Some name) k h = some_of k _ h

was_reached : (s : State) (c : ℕ) (target : Target) (l : Looked) → TargetIs s c target l → WasReached s c target l
was_reached s c Nowhere l h = h
was_reached s c (Free spot) l h = h
was_reached s c (Held spot) l h = h
was_reached s c (Own v) l h = λ none. some_of l.held _ (h none)

was_found : (s : State) (c : ℕ) (plan : Plan) (l : Looked) → IsFound s c plan l → WasFound s c plan l
was_found s c plan l h = (
  has_led s c nothing (at_place plan.names First) l.first h.first,
  has_led s c (before l Second) (at_place plan.names Second) l.second h.second,
  has_led s c (before l Third) (at_place plan.names Third) l.third h.third,
  has_led s c (before l Fourth) (at_place plan.names Fourth) l.fourth h.fourth,
  was_reached s c plan.target l h.target,
)

-- ---- every call

-- The edits of a call have found what they need: for those without a line here what was found is enough, and that it is in range.
edits_may : (s : State) (c : ℕ) (call : Call) (l : Looked) → IsFound s c (plan_for call) l → IsInRange s c call
    → None ≡ first_cause s c (causes_of (left_of (rule_of s c call) l))
    → AllMay s c (plan_for call) l (edits_at (rule_of s c call) (findings_of l))
edits_may s c (Retype r f FrameKind.Untyped) l h ranges calm =
    ((found_frame s c r f l.first _ h.first ranges calm, few_now s c f (named_of l.first) calm), tt)
edits_may s c (make_call (Make.Comp x p live) r f t b) l h ranges calm =
    let spent = calm_at s c 4 (causes_of (left_of (rule_of s c (make_call (Make.Comp x p live) r f t b)) l)) calm in
    let free = calm_when (epoch_of (s.number live) == s.limits.epochs) Reply.EpochsSpent spent in
    ((found_frame s c r f l.first _ h.first ranges.0 calm, next_epoch (epoch_of (s.number live)) s.limits.epochs ranges.1 free), (tt, tt))
edits_may s c (Touch v) l h ranges calm =
    touch_may s c v l (translation_of (s.core c).cached (comp_of s c).pages v) ranges h.target
edits_may s c (Kill k) l h ranges calm =
    let comp = comp_in (s.frame (named_of l.first).frame) in
    (lives_now s c (named_of l.first) comp.number comp.epoch (is_found l.first (some_of l.first _ h.first)) calm, tt)
edits_may s c (call_gate g) l h ranges calm =
    let depth = length (thread_of s c).stack in
    (leb-false 16 depth (calm_when (nat_le 16 depth) Reply.Deep (calm_parts _ _ calm).0), tt)
edits_may s c Ret l h ranges calm =
    let depth = length (thread_of s c).stack in
    (leb-false depth 1 (calm_when (nat_le depth 1) Reply.Bottom (calm_parts _ _ calm).0), tt)
edits_may s c (Switch n q) l h ranges calm = (
  idle_now s c (named_of l.first) (named_of l.second).frame (thread_in (s.frame (named_of l.first).frame)).runs_on
      (named_of l.third ∷ named_of l.fourth ∷ []) l.at l.held (is_found l.first (some_of l.first _ h.first)) calm,
  tt,
)
edits_may s c (Transfer a b m) l h ranges calm = (may_move s c a b m l.first l.second _ h.first h.second ranges calm, tt)
edits_may s c (Delegate a b m) l h ranges calm = (
  may_move s c a b m l.first l.second _ h.first h.second ranges calm,
  (few_merged s c l.first l.second _ _ (some_of l.first _ h.first) (some_of l.second _ h.second) calm, tt),
)
edits_may s c (Replenish a m) l h ranges calm = (gives s c a m l.first h.first ranges calm, tt)
edits_may s c call l h ranges calm = search (found_frame s c, part_frame s c, gate_epoch s c)

pub may_carry : (s : State) (c : ℕ) (call : Call) (l : Looked) → IsInRange s c call → Found l ≡ resolved s c (plan_for call)
    → None ≡ first_cause s c (causes_of (left_of (rule_of s c call) l)) → MayCarry s c call l
may_carry s c call l ranges is calm =
    let h = found_all s c (plan_for call) l is in
    (was_found s c (plan_for call) l h, edits_may s c call l h ranges calm)

-- The own causes of a call as it is judged are those of its rule, for all that the first of them decides.
pub judged_alike : (s : State) (c : ℕ) (call : Call) (l : Looked) → IsInRange s c call → Found l ≡ resolved s c (plan_for call)
    → first_cause s c (causes_of (left_of (judged_rule s c call) l)) ≡ first_cause s c (causes_of (left_of (rule_of s c call) l))
judged_alike s c (Retype r f FrameKind.Untyped) l ends is = by_frame (nat_lt f s.limits.frames) refl
  where
    by_frame : (b : Bool) → nat_lt f s.limits.frames ≡ b
        → first_cause s c (causes_of (left_of (if b then retype_rule s r f FrameKind.Untyped else retype_beyond r f) l))
        ≡ first_cause s c (causes_of (left_of (retype_rule s r f FrameKind.Untyped) l))
    by_frame true within = refl
    by_frame false past =
        let h = found_all s c (plan_for (Retype r f FrameKind.Untyped)) l is in
        let stands = frame_outside s c r f l.first h.first ends past in
        ap (λ (o : Option Reply). first_of o None) stands
        ∙ sym (ap (λ (o : Option Reply). first_of o (first_cause s c (not_retyped s f FrameKind.Untyped))) stands)
judged_alike s c call l ranges is = refl
