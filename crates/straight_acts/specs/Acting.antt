-- Where the core stands that makes the act of a straight call.
use Rattle.std.specs.Prelude.{◌≡◌, ℕ, ℤ, true, false, List, [], ◌∷◌, Some, None}
use Rattle.spk_nums.specs.Capability.{Capability}
use Rattle.spk_nums.specs.declared.calls.Call.{Call}
use Rattle.spk_nums.specs.declared.kinds.Kind.{Kind}
use Rattle.straight_looks.specs.step_starts.specs as low
use low.kernel_rules.specs.Access.{Target}
use low.call_plans.specs.After.{next_of, NextName, NextFree, NextHeld}
use low.call_plans.specs.GoesBy.{want_of}
use low.call_plans.specs.PlanOf.{of_kind, plan_for}
use low.act_states.specs.Acts.{act_begun, fills_at, removes_at}
use low.act_states.specs.declared.own.Own.{Own}
use low.act_states.specs.declared.work.Act.{Act as ActType}
use low.act_states.specs.declared.work.Work.TheVariants.{Acquire, Act}
use Rattle.spk_nums.specs.declared.steps.StageEnd.TheVariants.{Done}
use low.act_states.specs.Acts.{stamp_in}
use low.entry_words.specs.declared.entry.Entry.{Entry}
use low.entry_words.specs.declared.entry.Entry.TheVariants.{Free, Held, Closing, Quiescing}
use low.frame_words.specs.Count.{count_of_word, word_of_count}
use low.frame_words.specs.declared.count_word.CountWord.{CountWord}
use low.frame_words.specs.declared.count_word.Hold.TheVariants.{Unheld}
use low.stage_look.specs.Shown.{shown_in}
use low.stage_look.specs.Lookup.{look_end}
use low.stage_look.specs.declared.look.Look.{Look}
use low.stage_look.specs.declared.look.Look.TheVariants.{AtRoot}
use low.stage_look.specs.declared.look.Found.{Found}
use low.stage_quiet.specs.Scan.{quiet_scan}
use low.stage_pins.specs.declared.held.Acquired.{Acquired}
use low.stage_pins.specs.declared.pin.Pin.{Pin}
use low.call_stages.specs.View.{Core}
use low.call_stages.specs.declared.stages.Stage.{Stage}
use low.call_stages.specs.declared.stages.Stage.TheVariants.{Undecided}
use Rattle.straight_looks.specs.Standing.{going, stands, looks, onward}

-- a core whose call acquires a count for this act, its first
abbrev pub pins : Own → Call → ℕ → Pin → ℤ → ActType → List Capability → Core
pins own call steps pin change act found = stands own call steps (Undecided (Acquire pin change act)) found

-- a core whose call has acquired this count, and no other
abbrev pub counts : Own → Call → ℕ → Stage → List Capability → Acquired → Core
counts own call steps stage found x = record { own = own; active = Some (going call steps stage found (x ∷ [])) }

-- a call whose names have led to these has its target looked up, and fills it with this capability where it is free
pub record Fills (own : Own) (call : Call) (found : List Capability) (k : Capability) : Type 0 where
  pub target : Target
  pub next : next_of (plan_for call) found ≡ NextFree target
  pub begins : (f : Found) → act_begun own call found None (Some f) ≡ fills_at own k false f

-- and removes what it holds
pub record Removes (own : Own) (call : Call) (found : List Capability) : Type 0 where
  pub target : Target
  pub next : next_of (plan_for call) found ≡ NextHeld target
  pub begins : (f : Found) → act_begun own call found None (Some f) ≡ removes_at own.core (Some f)

-- a call removes what stands under this number of the root of this kind to which its one name leads
pub record RemovesUnder (own : Own) (call : Call) (root : ℕ) (kind : Kind) (number : ℕ) : Type 0 where
  pub living : (plan_for call).living ≡ true
  pub next : next_of (plan_for call) [] ≡ NextName root (want_of [] (of_kind kind root))
  pub asked : onward own call 2 [] ≡ looks own call 3 (AtRoot own.table root) []
  pub placed : (k : Capability) → onward own call 4 (k ∷ []) ≡ looks own call 5 (AtRoot k.frame number) (k ∷ [])
  pub removes : (k : Capability) → Removes own call (k ∷ [])

-- a place is free for a core: it holds nothing, and waits for no core
abbrev pub IsFree : Entry → Type 0
IsFree Free = Unit {0}
IsFree (Held k) = ⊥
IsFree (Closing by) = ⊥
IsFree (Quiescing stamp) = Unit {0}

pub record IsVacantFor (own : Own) (value : Entry) : Type 0 where
  pub free : IsFree value
  pub waits : quiet_scan (stamp_in value) own.core own.layout.cores false ≡ None

-- a word shows this, and its place is free
pub record ShowsVacant (own : Own) (word : ℕ) (value : Entry) : Type 0 where
  pub shown : shown_in own.layout.frames word ≡ Some value
  pub vacant : IsVacantFor own value

-- the word at which a look-up stands shows this place, which is free
pub record IsVacant (own : Own) (look : Look) (word : ℕ) (place : Found) : Type 0 where
  pub found : look_end look word (shown_in own.layout.frames word) ≡ Done place
  pub vacant : IsVacantFor own place.value

-- a word is that of a count that no core holds
pub record IsUnheld (found : ℕ) (v : CountWord) : Type 0 where
  pub shown : count_of_word found ≡ Some v
  pub unheld : v.hold ≡ Unheld
  pub word : word_of_count v ≡ found
