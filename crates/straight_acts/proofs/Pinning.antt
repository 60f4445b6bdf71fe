-- What the words make of a core whose call acquires the first count of its act.
use Rattle.std.proofs.Common.{◌≡◌, ℕ, ℤ, pos, negsuc, ◌+◌, map, List, [], Option, Some, None, slice_get, ◌==◌, true, refl, subst}
use Rattle.std.proofs.lemmas.List.Elements.{All-head}
use Rattle.spk_nums.specs.Capability.{Capability}
use Rattle.spk_nums.specs.declared.calls.Call.{Call}
use Rattle.spk_nums.specs.declared.kinds.Kind.{Kind}
use Rattle.spk_nums.specs.declared.kinds.Kind.TheVariants.{Range}
use Rattle.straight_looks.specs.step_starts.specs as low
use low.kernel_rules.specs.References.{named_by}
use low.act_states.specs.Acts.{acquires, next_work, removing}
use low.act_states.specs.Dues.{cap_dues}
use low.act_states.specs.declared.own.Own.{Own}
use low.act_states.specs.declared.fills.Fill.{Fill}
use low.act_states.specs.declared.work.Act.{Act as ActType}
use low.act_states.specs.declared.work.Act.TheVariants as act_of
use low.act_states.specs.declared.work.Due.{Due}
use low.act_states.specs.declared.work.Work.TheVariants.{Act}
use low.act_states.specs.Acts.{ActFits}
use low.stage_pins.specs.Held.{AcquiredFits}
use low.stage_pins.specs.declared.held.Acquired.{Acquired}
use low.call_stages.specs.declared.stages.Stage.{Stage}
use low.stage_pins.specs.Acquire.{PinFits}
use low.stage_look.specs.declared.look.Found.{Found}
use low.stage_pins.specs.declared.pin.Pin.{Pin}
use low.stage_pins.specs.declared.pin.Pin.TheVariants.{AtLoad, AtCompare}
use low.frame_words.specs.Count.{word_of_count}
use low.frame_words.specs.declared.count_word.CountWord.{CountWord}
use low.frame_words.specs.declared.count_word.Hold.{Hold}
use low.frame_words.specs.declared.count_word.Hold.TheVariants.{Unheld, Pinned, Closed}
use low.call_stages.specs.View.{Core}
use low.call_stages.specs.Cores.{absorbed}
use low.call_stages.specs.Fits.{IsCore}
use low.call_stages.specs.declared.stages.Stage.TheVariants.{Undecided}
use Rattle.straight_looks.specs.Standing.{acts, stands}
use Rattle.straight_looks.proofs.Fitting.{fits_as}
use Rattle.straight_acts.specs.Acting.{pins, counts, IsUnheld}

-- the count that is acquired is of the machine
pub pin_fits : (own : Own) (call : Call) (steps : ℕ) (pin : Pin) (change : ℤ) (act : ActType) (ks : List Capability) (c : Core)
    → c ≡ pins own call steps pin change act ks → IsCore c → PinFits own.layout pin
pin_fits own call steps pin change act ks c is fits = (fits_as c (pins own call steps pin change act ks) is fits).active.stage.0

-- so is what an act names that has a count, and so is the count
pub counted_act_fits : (own : Own) (call : Call) (steps : ℕ) (made : ActType) (ks : List Capability) (x : Acquired) (c : Core)
    → c ≡ counts own call steps (Undecided (Act made)) ks x → IsCore c → ActFits own.layout made
counted_act_fits own call steps made ks x c is fits =
    (fits_as c (counts own call steps (Undecided (Act made)) ks x) is fits).active.stage

pub count_fits : (own : Own) (call : Call) (steps : ℕ) (stage : Stage) (ks : List Capability) (x : Acquired) (c : Core)
    → c ≡ counts own call steps stage ks x → IsCore c → AcquiredFits own.layout x
count_fits own call steps stage ks x c is fits =
    All-head (AcquiredFits own.layout) x [] (fits_as c (counts own call steps stage ks x) is fits).active.acquired

-- the load of a word that no core holds, and the compare that finds it again
pub loaded : (own : Own) (call : Call) (w steps frame : ℕ) (change : ℤ) (act : ActType) (ks : List Capability) (v : CountWord)
    → IsUnheld w v
    → absorbed (pins own call steps (AtLoad frame own.core) change act ks) w
    ≡ pins own call (steps + 1) (AtCompare frame own.core v.count v.stamp) change act ks
loaded own call w steps frame change act ks v is = rw (is.shown, is.unheld) refl

pub won : (own : Own) (call : Call) (w again steps frame : ℕ) (change : ℤ) (act : ActType) (ks : List Capability) (v : CountWord)
    → IsUnheld w v → (again == w) ≡ true
    → absorbed (pins own call steps (AtCompare frame own.core v.count v.stamp) change act ks) again
    ≡ counts own call (steps + 1) (Undecided (next_work own.core 1 act)) ks
    (record { pin = record { frame = frame; core = own.core; word = v }; change = change })
won own call w again steps frame change act ks v is found = by v.hold is.unheld is.word
  where
    held_so : Hold → CountWord
    held_so hold = record { hold = hold; count = v.count; stamp = v.stamp }

    by : (hold : Hold) → hold ≡ Unheld → word_of_count (held_so hold) ≡ w
        → absorbed (pins own call steps (AtCompare frame own.core v.count v.stamp) change act ks) again
        ≡ counts own call (steps + 1) (Undecided (next_work own.core 1 act)) ks
        (record { pin = record { frame = frame; core = own.core; word = held_so hold }; change = change })
    by Unheld unheld same = rw (same, found) refl
    by (Pinned other) unheld same = absurd (cc)
    by (Closed other) unheld same = absurd (cc)

-- a capability has one count at most
pub one_due : (k : Capability) (change : ℤ) → slice_get (cap_dues k change) 1 ≡ None
one_due k change = by k.kind
  where
    due : ℕ → Due
    due f = record { frame = f; change = change }

    by : (d : Kind) → slice_get (map due (named_by d k.frame)) 1 ≡ None
    by Range = refl
    by d = refl

-- a filling acquires its count first, if it has one, and is made after it
pub fills_bare : (own : Own) (call : Call) (steps : ℕ) (fill : Fill) (ks : List Capability) (c : Core)
    → c ≡ stands own call steps (Undecided (next_work own.core 0 (act_of.Fill fill))) ks
    → slice_get (cap_dues fill.cap (pos 1)) 0 ≡ None
    → c ≡ acts own call steps (act_of.Fill fill) ks
fills_bare own call steps fill ks c is none =
    subst (λ (d : Option Due). c ≡ stands own call steps (Undecided (acquires own.core (act_of.Fill fill) d)) ks) none is

pub fills_due : (own : Own) (call : Call) (steps : ℕ) (fill : Fill) (d : Due) (ks : List Capability) (c : Core)
    → c ≡ stands own call steps (Undecided (next_work own.core 0 (act_of.Fill fill))) ks
    → slice_get (cap_dues fill.cap (pos 1)) 0 ≡ Some d
    → c ≡ pins own call steps (AtLoad d.frame own.core) d.change (act_of.Fill fill) ks
fills_due own call steps fill d ks c is some =
    subst (λ (e : Option Due). c ≡ stands own call steps (Undecided (acquires own.core (act_of.Fill fill) e)) ks) some is

pub fills_counted : (own : Own) (call : Call) (steps : ℕ) (fill : Fill) (ks : List Capability) (x : Acquired) (c : Core)
    → c ≡ counts own call steps (Undecided (next_work own.core 1 (act_of.Fill fill))) ks x
    → c ≡ counts own call steps (Undecided (Act (act_of.Fill fill))) ks x
fills_counted own call steps fill ks x c is =
    subst (λ (d : Option Due). c ≡ counts own call steps (Undecided (acquires own.core (act_of.Fill fill) d)) ks x)
    (one_due fill.cap (pos 1)) is

-- and so is a removal
pub removes_bare : (own : Own) (call : Call) (steps : ℕ) (k : Capability) (f : Found) (ks : List Capability) (c : Core)
    → c ≡ stands own call steps (Undecided (next_work own.core 0 (removing own.core k f))) ks → slice_get (cap_dues k (negsuc 0)) 0 ≡ None
    → c ≡ acts own call steps (removing own.core k f) ks
removes_bare own call steps k f ks c is none =
    subst (λ (d : Option Due). c ≡ stands own call steps (Undecided (acquires own.core (removing own.core k f) d)) ks) none is

pub removes_due : (own : Own) (call : Call) (steps : ℕ) (k : Capability) (f : Found) (d : Due) (ks : List Capability) (c : Core)
    → c ≡ stands own call steps (Undecided (next_work own.core 0 (removing own.core k f))) ks
    → slice_get (cap_dues k (negsuc 0)) 0 ≡ Some d
    → c ≡ pins own call steps (AtLoad d.frame own.core) d.change (removing own.core k f) ks
removes_due own call steps k f d ks c is some =
    subst (λ (e : Option Due). c ≡ stands own call steps (Undecided (acquires own.core (removing own.core k f) e)) ks) some is

pub removes_counted : (own : Own) (call : Call) (steps : ℕ) (k : Capability) (f : Found) (ks : List Capability) (x : Acquired) (c : Core)
    → c ≡ counts own call steps (Undecided (next_work own.core 1 (removing own.core k f))) ks x
    → c ≡ counts own call steps (Undecided (Act (removing own.core k f))) ks x
removes_counted own call steps k f ks x c is =
    subst (λ (d : Option Due). c ≡ counts own call steps (Undecided (acquires own.core (removing own.core k f) d)) ks x)
    (one_due k (negsuc 0)) is
