-- The scan of the other cores' words, and of all flush words, for a stamp.
use Rattle.std.specs.Prelude.{ℕ, ◌+◌, ◌<◌, ◌≢◌, ◌==◌, ◌&&◌, nat_lt, nat_le, Bool, true, false, Option, Some, None, if◌then◌else◌}
use Rattle.word_map.specs.{CoreAt, FlushAt, Shape, Move, LoadOf}
use Rattle.frame_words.specs.{core_of_word, flush_of_word}
use Rattle.word_map.specs.spk_nums.specs.{declared.replies.Reply.Reply, declared.steps.StageEnd.StageEnd}
use Rattle.word_map.specs.spk_nums.specs.{declared.steps.StageEnd.TheVariants.Going}
use Rattle.word_map.specs.spk_nums.specs.{declared.steps.StageEnd.TheVariants.Done, declared.steps.StageEnd.TheVariants.Refuse}
use Rattle.frame_words.specs.{declared.core_word.CoreWord.CoreWord, declared.flush_word.FlushWord.FlushWord}
use Rattle.stage_quiet.specs.{declared.quiet.Quiet.Quiet, declared.quiet.Quiet.TheVariants.AtCore, declared.quiet.Quiet.TheVariants.AtFlush}

-- the core that is scanned next is one of the machine, and not the one that scans
abbrev pub QuietFits : Shape → Quiet → Type 0
QuietFits s (AtCore stamp core at page) = (at < s.cores) × (at ≢ core)
QuietFits s (AtFlush stamp at) = at < s.cores

-- the next step loads the core's word, or its flush word
abbrev pub quiet_move : Quiet → Move
quiet_move (AtCore stamp core at page) = LoadOf (CoreAt at)
quiet_move (AtFlush stamp at) = LoadOf (FlushAt at)

-- the first core but this one
abbrev pub first_other : ℕ → ℕ
first_other core = if core == 0 then 1 else 0

-- the next core but this one
abbrev pub next_other : ℕ → ℕ → ℕ
next_other core at = if at + 1 == core then at + 2 else at + 1

-- the scan of flush words, which follows where a page is to be reused
abbrev pub flush_scan : Bool → ℕ → Option Quiet
flush_scan page stamp = if page then Some (AtFlush stamp 0) else None

-- the scan from a core on, where there is such a core
abbrev pub core_scan : Bool → ℕ → ℕ → ℕ → Bool → Option Quiet
core_scan there stamp core at page = if there then Some (AtCore stamp core at page) else flush_scan page stamp

-- the scan for a stamp, where one was drawn and there is a word to load
abbrev pub quiet_scan : ℕ → ℕ → ℕ → Bool → Option Quiet
quiet_scan stamp core cores page = if stamp == 0 then None
    else core_scan (nat_lt (first_other core) cores) stamp core (first_other core) page

-- the scan after the word at which it stands, where there is one more
abbrev pub quiet_next : ℕ → Quiet → Option Quiet
quiet_next cores (AtCore stamp core at page) = core_scan (nat_lt (next_other core at) cores) stamp core (next_other core at) page
quiet_next cores (AtFlush stamp at) = if nat_lt (at + 1) cores then Some (AtFlush stamp (at + 1)) else None

-- a core that is inside a call which it entered no later than the stamp is still waited for
abbrev pub core_refuses : ℕ → ℕ → Option CoreWord → Option Reply
core_refuses stamp at None = Some Reply.Raced
core_refuses stamp at (Some v) = if v.inside && nat_le v.stamp stamp then Some (Reply.Quiescing at) else None

-- a core that has flushed no later than the stamp is still waited for
abbrev pub flush_refuses : ℕ → ℕ → Option FlushWord → Option Reply
flush_refuses stamp at None = Some Reply.Raced
flush_refuses stamp at (Some v) = if nat_le v.stamp stamp then Some (Reply.Unflushed at) else None

-- the refusal to which a word leads, if it does to one
abbrev pub quiet_refuses : Quiet → ℕ → Option Reply
quiet_refuses (AtCore stamp core at page) found = core_refuses stamp at (core_of_word found)
quiet_refuses (AtFlush stamp at) found = flush_refuses stamp at (flush_of_word found)

-- without a refusal the scan goes on where there is one more word
abbrev pub scan_end : Option Reply → Option Quiet → StageEnd (Unit {0})
scan_end (Some r) next = Refuse r
scan_end None (Some q) = Going
scan_end None None = Done tt

-- what a step leads to that finds this word
abbrev pub quiet_end : ℕ → Quiet → ℕ → StageEnd (Unit {0})
quiet_end cores q found = scan_end (quiet_refuses q found) (quiet_next cores q)

-- it stays where it is at its end
abbrev pub scan_after : Quiet → Option Reply → Option Quiet → Quiet
scan_after q (Some r) next = q
scan_after q None (Some next) = next
scan_after q None None = q

-- where it stands after a step that finds this word
abbrev pub quiet_after : ℕ → Quiet → ℕ → Quiet
quiet_after cores q found = scan_after q (quiet_refuses q found) (quiet_next cores q)
