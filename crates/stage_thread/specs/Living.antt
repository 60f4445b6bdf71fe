-- The steps by which a core asks whether a component lives, and what each takes from the word that it finds.
use Rattle.std.specs.Prelude.{ℕ, ◌<◌, ◌==◌, Bool, Option, Some, None, if◌then◌else◌}
use Rattle.word_map.specs.{EntryAt, LiveAt, Shape, Move, LoadOf}
use Rattle.frame_words.specs.{CompFits, comp_of_word, live_of_word}
use Rattle.word_map.specs.spk_nums.specs.declared.steps.StageEnd.TheVariants.{Going, Done, Refuse}
use Rattle.frame_words.specs.declared.live_word.LiveWord.TheVariants.{Free, Live, Closing, Dead}
use Rattle.stage_thread.specs.{declared.alive.Alive.Alive, declared.alive.Alive.TheVariants.AtComp, declared.alive.Alive.TheVariants.AtLive}
use Rattle.{word_map.specs.spk_nums.specs.declared.steps.StageEnd.StageEnd, word_map.specs.spk_nums.specs.declared.replies.Reply.Reply}
use Rattle.{frame_words.specs.declared.comp_word.CompWord.CompWord, frame_words.specs.declared.live_word.LiveWord.LiveWord}

-- the component is a frame of the machine, and its number a number of it
abbrev pub AliveFits : Shape → Alive → Type 0
AliveFits s (AtComp comp) = comp < s.frames
AliveFits s (AtLive life) = CompFits life

-- the next step loads the component's word, then that of the liveness number that it names
abbrev pub alive_move : Alive → Move
alive_move (AtComp comp) = LoadOf (EntryAt comp 2)
alive_move (AtLive life) = LoadOf (LiveAt life.number)

-- it is done where the number is live in the component's epoch
abbrev pub lives_end : Bool → StageEnd (Unit {0})
lives_end lives = if lives then Done tt else Refuse Reply.Dead

-- a number that a core is closing is refused, and so is one that is not live in this epoch
abbrev pub number_end : ℕ → LiveWord → StageEnd (Unit {0})
number_end epoch Free = Refuse Reply.Dead
number_end epoch (Live now frame) = lives_end (now == epoch)
number_end epoch (Closing now by) = Refuse (Reply.Busy by)
number_end epoch (Dead now stamp) = Refuse Reply.Dead

abbrev pub live_end : ℕ → Option LiveWord → StageEnd (Unit {0})
live_end epoch None = Refuse Reply.Raced
live_end epoch (Some number) = number_end epoch number

-- the component's word names a number to be asked
abbrev pub comp_end : Option CompWord → StageEnd (Unit {0})
comp_end None = Refuse Reply.Raced
comp_end (Some life) = Going

-- what a step leads to that finds this word
abbrev pub alive_end : Alive → ℕ → StageEnd (Unit {0})
alive_end (AtComp comp) found = comp_end (comp_of_word found)
alive_end (AtLive life) found = live_end life.epoch (live_of_word found)

-- where the question stands after a load that shows this component
abbrev pub comp_after : ℕ → Option CompWord → Alive
comp_after comp None = AtComp comp
comp_after comp (Some life) = AtLive life

-- where it stands after a step that finds this word
abbrev pub alive_after : Alive → ℕ → Alive
alive_after (AtComp comp) found = comp_after comp (comp_of_word found)
alive_after (AtLive life) found = AtLive life
