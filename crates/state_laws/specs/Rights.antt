-- Rights: a copy puts none that its source lacks, and where each copy keeps both, every capability has both.
use Rattle.kernel_laws.specs as low
use Rattle.std.specs.Prelude.{◌≡◌, ◌∷◌}
use low.kernel_rules.specs.{ℕ, List, [], Some, IsTrue, Capability, both, has_rights, Setting, Call, Copy, Value, Holds, Slot}
use low.kernel_rules.specs.{Under, place_at, only, usable, reached, MayReply, state_by, Event, Enters, Decides, Returns, after}
use low.spk_nums.specs.{declared.kinds.Kind.TheVariants.Table, declared.rights.Rights.Rights}
use low.{leads, leads_as, spk_nums.specs.declared.replies.Reply.TheVariants.Ok as ok_reply}
use low.{spk_nums.specs.declared.replies.Reply.TheVariants.NoRight, kernel_rules.specs.State.State}

-- From state s to state t core c has put, at the place b of the table u, what its number a leads to, with no right that this lacks.
pub record PutsNoMore (s t : State) (c a u b : ℕ) : Type 0 where
  pub source : Capability
  pub leads_there : leads s c a ≡ Some source
  pub at : Slot
  pub reaches : reached s c (Under (leads_as s c u (only Table)) b) ≡ Some at
  pub put : Capability
  pub holds : place_at t at ≡ Holds put
  pub kind : put.kind ≡ source.kind
  pub frame : put.frame ≡ source.frame
  pub arg : put.arg ≡ source.arg
  pub rights : (needs : ℕ) → IsTrue (has_rights put.rights needs) → IsTrue (has_rights source.rights needs)

-- A copy that is carried out puts no right that its source lacks.
abbrev pub CopiesPutNoMore : Type 0
CopiesPutNoMore = (s : State) (c a u b : ℕ) (rights : Rights) (v : Value) → MayReply s c (Copy a u b rights) (ok_reply v)
    → PutsNoMore s (state_by s c (Copy a u b rights) (ok_reply v)) c a u b

-- A copy keeps both rights; so does each copy among some decisions.
abbrev pub KeepsBoth : Call → Type 0
KeepsBoth (Copy a t b rights) = rights.0 ≡ both
KeepsBoth _ = Unit {0}

abbrev pub KeepBoth : List Event → Type 0
KeepBoth [] = Unit {0}
KeepBoth (Enters c call ∷ events) = KeepBoth events
KeepBoth (Decides c call r ∷ events) = KeepsBoth call × KeepBoth events
KeepBoth (Returns c ∷ events) = KeepBoth events

-- Each capability that a place holds, or that a core may use, has both rights.
pub record HaveBoth (s : State) : Type 0 where
  pub held : (f i : ℕ) (k : Capability) → s.place f i ≡ Holds k → k.rights ≡ both
  pub used : (c : ℕ) (at : Slot) (k : Capability) → usable s c at ≡ Some k → k.rights ≡ both

-- Where each copy has kept both rights, every capability has both.
abbrev pub BothStay : Type 0
BothStay = (setting : Setting) (events : List Event) → KeepBoth events → HaveBoth (after setting events)

-- So no call is answered `no-right` then.
abbrev pub NoRightLacks : Type 0
NoRightLacks = (setting : Setting) (events : List Event) → KeepBoth events
    → (c : ℕ) (call : Call) → MayReply (after setting events) c call NoRight → ⊥
