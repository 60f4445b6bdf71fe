-- What may be concluded from a word that a step has found: that of a place which is held, and that of a core which has passed a stamp.
use Rattle.std.specs.Prelude.{◌≡◌, ◌<◌, ◌⊎◌, ◌∷◌, ◌++◌}
use Rattle.kernel_history.specs.{ℕ, false, [], Some, IsTrue, Capability, Setting, Call, entry_of_word, Held}
use Rattle.kernel_history.specs.{core_of_word, CoreWord, EntryAt, CoreAt, word_of, Thing, State, Slot, usable, is_node, Relies, phase}
use Rattle.kernel_history.specs.{state_after, own_read, stamp, clock}
use Rattle.kernel_history.specs.Trace.{Trace, Open}

-- Core c may use this capability at a slot: the place holds it, or it is quiescing, held it, and c is among those for whom it waits.
-- And c relies on the slot's node, which no other core may retype.
pub record MayUse (s : State) (c : ℕ) (at : Slot) (k : Capability) : Type 0 where
  pub relies : Relies s c at.node
  pub usable : usable s c at ≡ Some k

-- Where the last step of an undecided call on an entry of a node has read there that this capability is held, the call's core may use
-- it still, whatever other cores have done since.
abbrev pub PlacesFound : Setting → Trace → Type 0
PlacesFound setup t = (c : ℕ) (call : Call) → phase t c ≡ Open call
    → (f i w : ℕ) (k : Capability) → own_read t c (EntryAt f i) ≡ Some w → entry_of_word w ≡ Some (Held k)
    → IsTrue (is_node ((state_after setup t).frame f)) → MayUse (state_after setup t) c (record { node = f; index = i }) k

-- The word of a core shows it out, or inside a call that it entered after this stamp: its last exit loaded a later clock.
abbrev pub ShowsPassed : CoreWord → ℕ → Type 0
ShowsPassed v at = (v.inside ≡ false) ⊎ (at < v.stamp)

-- Where the step e, of any core, has found the word of core d, which shows d passed for a stamp that was drawn before e, no grace
-- period that began at this stamp waits for d: after e, and whatever steps come then.
abbrev pub ScannedCores : Setting → Trace → Trace → Type 0
ScannedCores setup u [] = Unit {0}
ScannedCores setup u (e ∷ t) = (d : ℕ) (v : CoreWord) → word_of e.move ≡ CoreAt d → core_of_word e.found ≡ Some v
    → (at : ℕ) → at < clock setup t
    → ShowsPassed v at
    → (x : Thing) → stamp setup (u ++ e ∷ t) x ≡ at → ((state_after setup (u ++ e ∷ t)).grace x).waits d ≡ false
