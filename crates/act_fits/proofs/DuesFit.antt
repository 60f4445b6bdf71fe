-- What fits: where a step of the work leads to, what a decision changes, and the counts that an act changes.
use Rattle.act_fits.proofs.Common.{◌≡◌, ℕ, suc, ℤ, pos, negsuc, ◌+◌, ◌*◌, ◌-◌, slice_get, ◌<◌, ◌≤◌, Bool, true, false, ◌==◌, List, [], ◌∷◌}
use Rattle.act_fits.proofs.Common.{length, Option, Some, None, IfSome, refl, subst, arith, Acquired, cap_of, Kind, Range, Shape, CapNames}
use Rattle.act_fits.proofs.Common.{NewObject, NewTable, NewThread, object_dues, counts_of, last_word}
use Rattle.act_fits.proofs.Common.{MakingAt, make_load, Mark, KillingAt, LoadComp, LoadLive, GivesBack, Caches, InvokingAt, ReturningAt}
use Rattle.act_fits.proofs.Common.{ActType, fill_act, remove_act, make_act, kill_act, untype_act, map_act, comp_act, invoke_act, return_act}
use Rattle.act_fits.proofs.Common.{switch_act, WorkStep, Goes, Acquires, Refuses, Answers, Changes, Due, ActFits, act_left, cap_dues, dues}
use Rattle.act_fits.proofs.Common.{made_dues, killing_dues, invoking_dues, returning_dues, UntypingAt, released_dues, untyping_dues}
use Rattle.act_fits.proofs.Common.{comp_dues, Switching, SwitchAt, SwitchAtFits, SwitchingFits, tcap_dues, switch_due_list, switching_dues}
use Rattle.act_fits.proofs.Common.{Claimed, CompAt, CompMaking, tail_left, TailFits, work_left}
use Rattle.call_stages.specs.act_states.specs.{zero, NamesFit, acquires, map, named_by, IsSmallChange, ◌++◌, Capability}
use Rattle.call_stages.specs.act_states.specs.declared.own.OwnChange.TheVariants.{Ticks, Works, Empties, Switches}
use Rattle.{std.proofs.lemmas.Option.slice_get_within, call_stages.specs.act_states.specs.declared.own.OwnChange.OwnChange}
use Rattle.{call_stages.specs.act_states.specs.Untypings.UntypingAtFits, call_stages.specs.Fits.WorkFits, call_stages.specs.Fits.CountsWait}

-- what a decision changes of what its core has of its own is of the machine
abbrev pub ChangeFits : Shape → OwnChange → Type 0
ChangeFits s (Ticks charged owed) = Unit {0}
ChangeFits s (GivesBack ticks) = Unit {0}
ChangeFits s Empties = Unit {0}
ChangeFits s (Caches item) = Unit {0}
ChangeFits s (Works comp table pages depth) = (comp < s.frames) × (table < s.frames) × (pages < s.frames) × (1 ≤ depth) × (depth ≤ 16)
ChangeFits s (Switches thread depth comp table pages tcap) =
    (thread < s.frames) × (1 ≤ depth) × (depth ≤ 16) × (comp < s.frames) × (table < s.frames) × (pages < s.frames) × (tcap < s.frames)

-- where a step of the work leads to fits, where so many counts are acquired, and leaves at most so many steps before these are
-- committed; it acquires none
abbrev pub StepFits : Shape → List Acquired → ℕ → ℕ → WorkStep → Type 0
StepFits s counts later most (Goes work) =
    WorkFits s work × (work_left s.cores later (length counts) work ≤ most) × CountsWait counts work
StepFits s counts later most (Acquires count work) = ⊥
StepFits s counts later most (Refuses r tail) = (tail_left tail ≤ most) × TailFits s tail
StepFits s counts later most (Answers v drawn tail) = (tail_left tail ≤ most) × TailFits s tail
StepFits s counts later most (Changes r change drawn tail) = (tail_left tail ≤ most) × TailFits s tail × ChangeFits s change

-- a capability has one count due at most
pub cap_one : (kind : Kind) (frame arg : ℕ) (change : ℤ) → length (cap_dues (cap_of kind frame arg) change) ≤ 1
cap_one Range frame arg change = omega arith
cap_one kind frame arg change = omega arith

-- an object has so many due
pub object_count : (object : NewObject) (f : ℕ) → length (object_dues object f) ≡ counts_of object
object_count NewTable f = refl
object_count _ f = refl

pub invoking_one : (f : ℕ) (at : InvokingAt) → length (invoking_dues f at) ≤ 1
invoking_one f InvokingAt.LoadTable = omega arith
invoking_one f _ = omega arith

pub returning_one : (f : ℕ) (at : ReturningAt) → length (returning_dues f at) ≤ 1
returning_one f ReturningAt.LoadBelow = omega arith
returning_one f _ = omega arith

pub last_small : (object : NewObject) → last_word object < 64
last_small NewTable = omega arith
last_small _ = omega arith

-- no more than so many dues, each of them a small change
abbrev pub AreFew : ℕ → List Due → Type 0
AreFew n [] = Unit {0}
AreFew zero (d ∷ ds) = ⊥
AreFew (suc n) (d ∷ ds) = IsSmallChange d.change × AreFew n ds

few_of : (n : ℕ) (ds : List Due) → AreFew n ds → length ds ≤ n
few_of n [] few = omega arith
few_of zero (d ∷ ds) few = absurd few
few_of (suc n) (d ∷ ds) few = let rest = few_of n ds few.1 in omega (arith, rest)

small_of : (n : ℕ) (xs : List Due) (d : Due) (ys : List Due) → AreFew n (xs ++ d ∷ ys) → IsSmallChange d.change
small_of zero [] d ys few = absurd few
small_of zero (x ∷ xs) d ys few = absurd few
small_of (suc n) [] d ys few = few.0
small_of (suc n) (x ∷ xs) d ys few = small_of n xs d ys few.1

-- an act changes four counts at most, and none by more than two
cap_few : (k : Capability) (z : ℤ) → IsSmallChange z → AreFew 4 (cap_dues k z)
cap_few k z small = by k.kind
  where
    by : (d : Kind) → AreFew 4 (map (λ (f : ℕ). record { frame = f; change = z }) (named_by d k.frame))
    by Range = tt
    by d = (small, tt)

object_few : (object : NewObject) (f : ℕ) → AreFew 4 (object_dues object f)
object_few (NewThread comp) f = (omega arith, (omega arith, tt))
object_few object f = (omega arith, tt)

made_few : (object : NewObject) (f : ℕ) (at : MakingAt) → AreFew 4 (made_dues object f at)
made_few object f make_load = tt
made_few object f (Mark word) = tt
made_few object f at = object_few object f

killing_few : (f : ℕ) (at : KillingAt) → AreFew 4 (killing_dues f at)
killing_few f LoadComp = tt
killing_few f (LoadLive life) = tt
killing_few f at = (omega arith, tt)

released_few : (f g : Option ℕ) → AreFew 4 (released_dues f g)
released_few None None = tt
released_few None (Some g) = (omega arith, tt)
released_few (Some f) None = (omega arith, tt)
released_few (Some f) (Some g) = (omega arith, (omega arith, tt))

untyped_few : (at : UntypingAt) → AreFew 4 (untyping_dues at)
untyped_few (UntypingAt.Draw word w) = released_few w.owned.first w.owned.second
untyped_few at = tt

comp_few : (m : CompMaking) (at : CompAt) → AreFew 4 (comp_dues m at)
comp_few m CompAt.Load = tt
comp_few m (CompAt.Mark word) = tt
comp_few m at = (omega arith, (omega arith, (omega arith, tt)))

invoking_few : (f : ℕ) (at : InvokingAt) → AreFew 4 (invoking_dues f at)
invoking_few f (InvokingAt.LoadLive table pages life) = (omega arith, tt)
invoking_few f at = tt

returning_few : (f : ℕ) (at : ReturningAt) → AreFew 4 (returning_dues f at)
returning_few f (ReturningAt.Draw comp table pages) = (omega arith, tt)
returning_few f at = tt

switch_few : (m : Switching) (to : Claimed) → AreFew 4 (switch_due_list m to)
switch_few m to = (omega arith, (omega arith, by (m.tcap == m.old_tcap)))
  where
    by : (same : Bool) → AreFew 2 (tcap_dues same m.tcap m.old_tcap)
    by true = tt
    by false = (omega arith, (omega arith, tt))

switching_few : (m : Switching) (at : SwitchAt) → AreFew 4 (switching_dues m at)
switching_few m (SwitchAt.Leave to table pages) = switch_few m to
switching_few m (SwitchAt.Draw to table pages) = switch_few m to
switching_few m at = tt

are_few : (act : ActType) → AreFew 4 (dues act)
are_few (fill_act fill) = cap_few fill.cap (pos 1) (omega arith)
are_few (remove_act close cap) = cap_few cap (negsuc 0) (omega arith)
are_few (make_act m) = made_few m.object m.frame m.at
are_few (map_act fill) = cap_few fill.cap (pos 1) (omega arith)
are_few (kill_act m) = killing_few m.comp m.at
are_few (untype_act m) = untyped_few m.at
are_few (comp_act m) = comp_few m m.at
are_few (invoke_act m) = invoking_few m.comp m.at
are_few (return_act m) = returning_few m.top m.at
are_few (switch_act m) = switching_few m m.at
are_few act = tt

pub few_dues : (act : ActType) → length (dues act) ≤ 4
few_dues act = few_of 4 (dues act) (are_few act)

pub due_small : (act : ActType) (xs : List Due) (d : Due) (ys : List Due) → dues act ≡ xs ++ d ∷ ys → IsSmallChange d.change
due_small act xs d ys is = small_of 4 xs d ys (subst (AreFew 4) is (are_few act))

-- the counts that an act changes are of frames of the machine
abbrev pub AreWithin : ℕ → List Due → Type 0
AreWithin frames [] = Unit {0}
AreWithin frames (d ∷ ds) = (d.frame < frames) × AreWithin frames ds

abbrev pub DueFits : ℕ → Option Due → Type 0
DueFits frames None = Unit {0}
DueFits frames (Some due) = due.frame < frames

due_within : (frames : ℕ) (ds : List Due) (n : ℕ) → AreWithin frames ds → DueFits frames (slice_get ds n)
due_within frames [] zero within = tt
due_within frames [] (suc n) within = tt
due_within frames (d ∷ ds) zero within = within.0
due_within frames (d ∷ ds) (suc n) within = due_within frames ds n within.1

cap_within : (frames : ℕ) (kind : Kind) (frame arg : ℕ) (change : ℤ) → CapNames frames (cap_of kind frame arg)
    → AreWithin frames (cap_dues (cap_of kind frame arg) change)
cap_within frames Range frame arg change names = tt
cap_within frames kind frame arg change names = (omega arith, tt)

object_within : (frames : ℕ) (object : NewObject) (f : ℕ) → f < frames → NamesFit frames object → AreWithin frames (object_dues object f)
object_within frames (NewThread comp) f below names = (below, (names, tt))
object_within frames object f below names = (below, tt)

made_within : (frames : ℕ) (object : NewObject) (f : ℕ) (at : MakingAt) → f < frames → NamesFit frames object
    → AreWithin frames (made_dues object f at)
made_within frames object f make_load below names = tt
made_within frames object f (Mark word) below names = tt
made_within frames object f at below names = object_within frames object f below names

killing_within : (frames f : ℕ) (at : KillingAt) → f < frames → AreWithin frames (killing_dues f at)
killing_within frames f LoadComp below = tt
killing_within frames f (LoadLive life) below = tt
killing_within frames f at below = (below, tt)

released_within : (frames : ℕ) (f g : Option ℕ) → IfSome f (λ x. x < frames) → IfSome g (λ x. x < frames)
    → AreWithin frames (released_dues f g)
released_within frames None None first second = tt
released_within frames None (Some g) first second = (second, tt)
released_within frames (Some f) None first second = (first, tt)
released_within frames (Some f) (Some g) first second = (first, (second, tt))

untyped_within : (s : Shape) (at : UntypingAt) → UntypingAtFits s at → AreWithin s.frames (untyping_dues at)
untyped_within s (UntypingAt.Draw word w) fits =
    released_within s.frames w.owned.first w.owned.second fits.owned.first fits.owned.second
untyped_within s at fits = tt

comp_within : (frames : ℕ) (m : CompMaking) (at : CompAt) → m.frame < frames → m.table < frames → m.pages < frames
    → AreWithin frames (comp_dues m at)
comp_within frames m CompAt.Load frame table pages = tt
comp_within frames m (CompAt.Mark word) frame table pages = tt
comp_within frames m at frame table pages = (frame, (table, (pages, tt)))

invoking_within : (frames f : ℕ) (at : InvokingAt) → f < frames → AreWithin frames (invoking_dues f at)
invoking_within frames f (InvokingAt.LoadLive table pages life) below = (below, tt)
invoking_within frames f at below = tt

returning_within : (frames f : ℕ) (at : ReturningAt) → f < frames → AreWithin frames (returning_dues f at)
returning_within frames f (ReturningAt.Draw comp table pages) below = (below, tt)
returning_within frames f at below = tt

switch_within : (s : Shape) (m : Switching) (to : Claimed) → SwitchingFits s m → to.thread < s.frames
    → AreWithin s.frames (switch_due_list m to)
switch_within s m to fits below = (below, (fits.old, by (m.tcap == m.old_tcap)))
  where
    by : (same : Bool) → AreWithin s.frames (tcap_dues same m.tcap m.old_tcap)
    by true = tt
    by false = (fits.tcap, (fits.old_tcap, tt))

switching_within : (s : Shape) (m : Switching) (at : SwitchAt) → SwitchingFits s m → SwitchAtFits s at
    → AreWithin s.frames (switching_dues m at)
switching_within s m (SwitchAt.Leave to table pages) fits there = switch_within s m to fits there.0.thread
switching_within s m (SwitchAt.Draw to table pages) fits there = switch_within s m to fits there.0.thread
switching_within s m at fits there = tt

are_within : (s : Shape) (act : ActType) → ActFits s act → AreWithin s.frames (dues act)
are_within s (fill_act fill) fits = cap_within s.frames fill.cap.kind fill.cap.frame fill.cap.arg (pos 1) fits.cap
are_within s (remove_act close cap) fits = cap_within s.frames cap.kind cap.frame cap.arg (negsuc 0) fits.1
are_within s (make_act m) fits = made_within s.frames m.object m.frame m.at fits.frame fits.object.names
are_within s (map_act fill) fits = cap_within s.frames fill.cap.kind fill.cap.frame fill.cap.arg (pos 1) fits.0.cap
are_within s (kill_act m) fits = killing_within s.frames m.comp m.at fits.comp
are_within s (untype_act m) fits = untyped_within s m.at fits.at
are_within s (comp_act m) fits = comp_within s.frames m m.at fits.frame fits.table fits.pages
are_within s (invoke_act m) fits = invoking_within s.frames m.comp m.at fits.comp
are_within s (return_act m) fits = returning_within s.frames m.top m.at fits.top
are_within s (switch_act m) fits = switching_within s m m.at fits fits.at
are_within s act fits = tt

-- what a core does for an act of whose counts it has acquired so many
pub work_next : (s : Shape) (later core n : ℕ) (act : ActType) (o : Option Due) → slice_get (dues act) n ≡ o → core < s.cores
    → ActFits s act
    → WorkFits s (acquires core act o)
    × (work_left s.cores later n (acquires core act o) ≤ 3 * (length (dues act) - n) + act_left s.cores act)
work_next s later core n act None is here fits = (fits, omega arith)
work_next s later core n act (Some due) is here fits =
    let some : n < length (dues act) = slice_get_within (dues act) n due is in
    (((subst (DueFits s.frames) is (due_within s.frames (dues act) n (are_within s act fits)), here), fits), omega arith)

pub past_none : (xs : List Due) (i : ℕ) → slice_get xs i ≡ None → length xs ≤ i
past_none [] i h = omega arith
past_none (x ∷ xs) zero h = absurd (cc)
past_none (x ∷ xs) (suc i) h = let more = past_none xs i h in omega arith

pub counts_next : (core n : ℕ) (counts : List Acquired) (act : ActType) (o : Option Due) → slice_get (dues act) n ≡ o → n ≡ length counts
    → n ≤ length (dues act) → CountsWait counts (acquires core act o)
counts_next core n counts act None is same most =
    let past : length (dues act) ≤ n = past_none (dues act) n is in
    omega arith
counts_next core n counts act (Some due) is same most = subst (λ (m : ℕ). m < length (dues act)) same (slice_get_within (dues act) n due is)
