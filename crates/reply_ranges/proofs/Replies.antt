-- Every reply that may decide a call is in range.
use Rattle.state_laws.specs.kernel_laws.proofs as low
use low.{◌≡◌, ℕ, zero, suc, ◌+◌, ◌*◌, ◌<◌, ◌≤◌, ◌^◌, Bool, true, false, cond, List, [], ◌∷◌, length, Option, Some, None, inl, inr, refl}
use low.{sym, ap, subst, arith, ◌==◌, IsSomeAnd, Kind, Call, Retype, Make as make_call, Switch, Transfer, Delegate, Replenish, Reply, Place}
use low.{Free, Holds, Quiescing, Comp, Thread, Frame, Kernel, Liveness, Unused, Live, Dead, Thing, State, PlaceOf, FrameOf, NumberOf}
use low.{thread_in, outstanding, reached, named_by, place_names, frame_names, number_names, core_names, sum_below, times, node_refs, refs}
use low.{MayWait, MayBeUnflushed, InRanges, MayReply, after, is_open, times_cons, IsOpen, opened, open_is, limits_stay, Shaped, runs_shape}
use Rattle.state_laws.specs.kernel_laws.specs.Causes.{fills_at, tcap_named, UntypedIs, NumberIs, PlaceIs, IsQuiescing, IsUnflushed}
use low.{runs_fit, FrameKind, Causes.causes_stand, Shapes.FrameShape, RangesLaw.ranges_hold}
use Rattle.{state_laws.specs.kernel_rules.specs.budget_at, state_laws.specs.kernel_rules.specs.Make, std.proofs.Math.Nat.suc-mul}
use Rattle.{state_laws.specs.kernel_laws.specs.Causes.IsRunning, state_laws.specs.kernel_laws.specs.Causes.IsShort}
use Rattle.{state_laws.proofs.CachedLaw.translations_stand, state_laws.proofs.Threads.threads_run, reply_ranges.specs.Ranges.ReplyFits}
use Rattle.{reply_ranges.specs.Ranges.RepliesInRange, reply_ranges.proofs.Tidy.runs_tidy, reply_ranges.proofs.Values.answers_fit}

-- ---- references are few

sum_most : (f : ℕ → ℕ) (n m : ℕ) → ((i : ℕ) → i < n → f i ≤ m) → sum_below f n ≤ n * m
unfolding sum_below
sum_most f zero m h = omega arith
sum_most f (suc n) m h =
    let before = sum_most f n m (λ i l. h i (omega arith)) in
    let last = h n (omega arith) in
    let all : suc n * m ≡ n * m + m = suc-mul n m in
    omega (arith, before, last, all)

times_few : (f : ℕ) (fs : List ℕ) → times f fs ≤ length fs
times_few f [] = omega arith
times_few f (g ∷ fs) =
    let more = times_few f fs in
    let one = times_cons f g fs in
    let few = by (g == f) in
    omega (arith, more, one, few)
  where
    by : (b : Bool) → cond b 1 0 ≤ 1
    by true = omega arith
    by false = omega arith

named_few : (k : Kind) (f : ℕ) → length (named_by k f) ≤ 1
named_few Kind.Range f = omega arith
named_few _ f = omega arith

place_few : (f : ℕ) (p : Place) → times f (place_names p) ≤ 1
place_few f Free = omega (arith, times_few f [])
place_few f (Quiescing k) = omega (arith, times_few f [])
place_few f (Holds k) = omega (arith, times_few f (named_by k.kind k.frame), named_few k.kind k.frame)

frame_few : (epochs f : ℕ) (x : Frame) → FrameShape epochs x → times f (frame_names x) ≤ 16
frame_few epochs f (Kernel (Comp k)) shape = omega (arith, times_few f (frame_names (Kernel (Comp k))))
frame_few epochs f (Kernel (Thread t)) shape = let most = shape.most in omega (arith, times_few f t.stack, most)
frame_few epochs f _ shape = omega (arith, times_few f [])

number_few : (f : ℕ) (l : Liveness) → times f (number_names l) ≤ 1
number_few f Unused = omega (arith, times_few f [])
number_few f (Live e g) = omega (arith, times_few f (g ∷ []))
number_few f (Dead e) = omega (arith, times_few f [])

node_few : (s : State) (f g : ℕ) → node_refs s f g ≤ 64
unfolding node_refs
node_few s f g =
    let row = sum_most (λ i. times f (place_names (s.place g i))) 64 1 (λ i k. place_few f (s.place g i)) in
    omega (arith, row)

refs_few : (s : State) (f : ℕ) → Shaped s → s.limits.frames ≤ 512 → s.limits.cores ≤ 8 → refs s f ≤ 4294967295
unfolding refs
refs_few s f shape frames cores =
    let places = sum_most (node_refs s f) s.limits.frames 64 (λ g l. node_few s f g) in
    let objects = sum_most (λ g. times f (frame_names (s.frame g))) s.limits.frames 16
    (λ g l. frame_few s.limits.epochs f (s.frame g) (shape.frames g)) in
    let own = sum_most (λ c. times f (core_names (s.core c))) s.limits.cores 2 (λ c l. times_few f (core_names (s.core c))) in
    let numbers = sum_most (λ l. times f (number_names (s.number l))) 64 1 (λ l k. number_few f (s.number l)) in
    omega (arith, places, objects, own, numbers)

-- ---- causes

some_and : {A : Type 0} (o : Option A) (P : A → Type 0) (Q : Type 0) → ((x : A) → P x → Q) → IsSomeAnd o P → Q
some_and None P Q f h = absurd h
some_and (Some x) P Q f h = f x h

untyped_and : (P : ℕ → Type 0) (Q : Type 0) (call : Call) → ((f : ℕ) → P f → Q) → UntypedIs P call → Q
untyped_and P Q (Retype r f FrameKind.Untyped) g h = g f h
untyped_and P Q (Retype r f FrameKind.User) g h = absurd h
untyped_and P Q (Retype r f FrameKind.Kernel) g h = absurd h
untyped_and P Q _ g h = absurd h

number_and : (P : ℕ → Type 0) (Q : Type 0) (call : Call) → ((l : ℕ) → P l → Q) → NumberIs P call → Q
number_and P Q (make_call (Make.Comp table pages live) r f t b) g h = g live h
number_and P Q (make_call _ r f t b) g h = absurd h
number_and P Q _ g h = absurd h

place_and : (s : State) (c : ℕ) (call : Call) (P : Thing → Type 0) (Q : Type 0) → ((x : Thing) → P x → Q) → PlaceIs s c call P → Q
place_and s c call P Q f h =
    some_and (fills_at s c call) (λ target. IsSomeAnd (reached s c target) (λ at. P (PlaceOf at.node at.index))) Q
    (λ target. some_and (reached s c target) (λ at. P (PlaceOf at.node at.index)) Q (λ at. f (PlaceOf at.node at.index))) h

waits_core : (s : State) (c : ℕ) (call : Call) (e : ℕ) → IsQuiescing s c call e → e < s.limits.cores
waits_core s c call e (inl place) = place_and s c call (λ x. MayWait s c x e) (e < s.limits.cores) (λ x may. may.is_core) place
waits_core s c call e (inr (inl frame)) =
    untyped_and (λ f. MayWait s c (FrameOf f) e) (e < s.limits.cores) call (λ f may. may.is_core) frame
waits_core s c call e (inr (inr number)) =
    number_and (λ l. MayWait s c (NumberOf l) e) (e < s.limits.cores) call (λ l may. may.is_core) number

flushes_core : (s : State) (c : ℕ) (call : Call) (e : ℕ) → IsUnflushed s c call e → e < s.limits.cores
flushes_core s c call e (inl place) = place_and s c call (λ x. MayBeUnflushed s x e) (e < s.limits.cores) (λ x may. may.is_core) place
flushes_core s c call e (inr frame) =
    untyped_and (λ f. MayBeUnflushed s (FrameOf f) e) (e < s.limits.cores) call (λ f may. may.is_core) frame

running_core : (s : State) (c : ℕ) (call : Call) (e : ℕ) → ((f : ℕ) → (thread_in (s.frame f)).runs_on ≡ Some e → e < s.limits.cores)
    → IsRunning s c call e → e < s.limits.cores
running_core s c (Switch h q) e runs is = runs _ is.1
running_core s c _ e runs is = absurd is

short_few : (s : State) (c : ℕ) (call : Call) (n : ℕ) → ((f : ℕ) → budget_at s f < 2 ^ 32) → outstanding (s.core c) < 2 ^ 32
    → IsShort s c call n → n ≤ 4294967295
short_few s c (Transfer a b m) n few left is = let same = is.is in let small = few (tcap_named s c a).frame in omega (arith, same, small)
short_few s c (Delegate a b m) n few left is = let same = is.is in let small = few (tcap_named s c a).frame in omega (arith, same, small)
short_few s c (Replenish a m) n few left is = let same = is.0 in omega (arith, same, left)
short_few s c _ n few left is = absurd is

-- ---- replies

pub replies_in_range : RepliesInRange
replies_in_range setting lim events run c call r may busy = by r may.permitted busy
  where
    s : State
    s = after setting events

    cores : s.limits.cores ≡ setting.cores
    cores = ap (λ l. l.cores) (limits_stay setting events)

    frames : s.limits.frames ≤ 512
    frames = subst (λ l. l.frames ≤ 512) (sym (limits_stay setting events)) lim.most_frames

    below : (e : ℕ) → e < s.limits.cores → e < setting.cores
    below e h = subst (λ n. e < n) cores h

    opens : IsOpen s (opened events) c
    opens = open_is setting lim events c run (ap is_open may.is_open)

    core : c < setting.cores
    core = below c (opens.sound.inside c opens.is).1

    ranges : InRanges s
    ranges = ranges_hold setting lim events run

    budgets : (f : ℕ) → budget_at s f < 2 ^ 32
    budgets f = let spending = ranges.spending f c (opens.sound.inside c opens.is).1 in omega (arith, spending)

    left : outstanding (s.core c) < 2 ^ 32
    left = let spending = ranges.spending 0 c (opens.sound.inside c opens.is).1 in omega (arith, spending)

    by : (r : Reply) → MayReply s c call r → ((d : ℕ) → r ≡ Reply.Busy d → d < setting.cores) → ReplyFits setting.cores r
    by (Reply.Ok v) may busy =
        answers_fit s (opened events) c opens (runs_fit setting lim events run) (runs_shape setting lim events run)
        (subst (λ l. l.epochs < 2 ^ 16) (sym (limits_stay setting events)) lim.most_epochs) (runs_tidy setting lim events run) ranges
        (translations_stand setting lim events run c core) frames call v may.1.1
    by (Reply.Quiescing e) may busy = below e (waits_core s c call e (causes_stand s c call (Reply.Quiescing e) may))
    by (Reply.Unflushed e) may busy = below e (flushes_core s c call e (causes_stand s c call (Reply.Unflushed e) may))
    by (Reply.Running e) may busy =
        below e (running_core s c call e (λ f is. ((threads_run setting lim events run f e).current is).0)
        (causes_stand s c call (Reply.Running e) may))
    by (Reply.Busy d) may busy = busy d refl
    by (Reply.Referenced n) may busy =
        untyped_and (λ f. (0 < refs s f) × (n ≡ refs s f)) (n ≤ 4294967295) call
        (λ f is. (let few = refs_few s f (runs_shape setting lim events run) frames (subst (λ k. k ≤ 8) (sym cores) lim.most_cores) in
        let same = is.1 in omega (arith, few, same))) (causes_stand s c call (Reply.Referenced n) may)
    by (Reply.Short n) may busy = short_few s c call n budgets left (causes_stand s c call (Reply.Short n) may)
    by _ may busy = tt
