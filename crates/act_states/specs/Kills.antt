-- The act that kills a component.
use Rattle.std.specs.Prelude.{◌<◌, ◌∷◌}
use Rattle.stage_tcap.specs.{ℕ, Bool, true, false, List, [], EntryAt, LiveAt, ClockAt, Shape, Move, LoadOf, CompareOf, StoreOf, AddOf}
use Rattle.stage_sweep.specs.frame_words.specs.{CompFits, word_of_live}
use Rattle.stage_sweep.specs.frame_words.specs.declared.live_word.LiveWord.TheVariants.{Closing, Dead}
use Rattle.act_states.specs.declared.kills.KillingAt.TheVariants.{LoadComp, LoadLive, Close, Draw}
use Rattle.{stage_sweep.specs.frame_words.specs.declared.comp_word.CompWord.CompWord, act_states.specs.declared.kills.Killing.Killing}
use Rattle.act_states.specs.{declared.kills.KillingAt.KillingAt, Keeping.Keeping, Keeping.KeepsWord}

-- what it names is of the machine
abbrev pub KillingAtFits : KillingAt → Type 0
KillingAtFits LoadComp = Unit {0}
KillingAtFits (LoadLive life) = CompFits life
KillingAtFits (Close life word) = CompFits life
KillingAtFits (Draw life word) = CompFits life

pub record KillingFits (s : Shape) (m : Killing) : Type 0 where
  pub comp : m.comp < s.frames
  pub core : m.core < s.cores
  pub at : KillingAtFits m.at

-- its steps: the component's word and its number's word are loaded, the number's word is marked, and a stamp is drawn
abbrev pub killing_at : ℕ → ℕ → KillingAt → Move
killing_at f core LoadComp = LoadOf (EntryAt f 2)
killing_at f core (LoadLive life) = LoadOf (LiveAt life.number)
killing_at f core (Close life word) = CompareOf (LiveAt life.number) word (word_of_live (Closing life.epoch core))
killing_at f core (Draw life word) = AddOf ClockAt 1

abbrev pub killing_move : Killing → Move
killing_move m = killing_at m.comp m.core m.at

-- the store of a number that is dead since a stamp
abbrev pub dead_move : CompWord → ℕ → Move
dead_move life stamp = StoreOf (LiveAt life.number) (word_of_live (Dead life.epoch stamp))

-- whether the next step draws the stamp
abbrev pub is_killing : KillingAt → Bool
is_killing LoadComp = false
is_killing (LoadLive life) = false
is_killing (Close life word) = false
is_killing (Draw life word) = true

-- the number is marked, and its word stands for what was found there until the stamp is drawn
abbrev pub killing_keeps : KillingAt → List Keeping
killing_keeps LoadComp = []
killing_keeps (LoadLive life) = []
killing_keeps (Close life word) = []
killing_keeps (Draw life word) = KeepsWord (LiveAt life.number) word ∷ []

-- the steps that are still to come, with the acquiring and the commit of the count where the number's word is not loaded yet
abbrev pub killing_left : KillingAt → ℕ
killing_left LoadComp = 8
killing_left (LoadLive life) = 7
killing_left (Close life word) = 3
killing_left (Draw life word) = 2
