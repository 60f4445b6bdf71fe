-- The steps by which a core claims a thread, and what each takes from the word that it finds.
use Rattle.std.specs.Prelude.{ℕ, ◌<◌, ◌==◌, nat_lt, Bool, Option, Some, None, if◌then◌else◌}
use Rattle.word_map.specs.{EntryAt, Shape, Move, LoadOf, CompareOf}
use Rattle.tcap_words.specs.{stack_of_word, DepthFits, word_of_thread, thread_of_word}
use Rattle.word_map.specs.spk_nums.specs.declared.steps.StageEnd.TheVariants.{Going, Decided, Done, Refuse}
use Rattle.tcap_words.specs.{declared.stack_word.StackWord.StackWord, declared.thread_word.ThreadWord.ThreadWord}
use Rattle.stage_thread.specs.declared.claim.Claim.TheVariants.{AtLoad, AtCompare, AtStack}
use Rattle.{word_map.specs.spk_nums.specs.declared.steps.StageEnd.StageEnd, word_map.specs.spk_nums.specs.declared.replies.Reply.Reply}
use Rattle.{stage_thread.specs.declared.claim.Claim.Claim, stage_thread.specs.declared.claim.Claimed.Claimed}

-- a depth that was found is from 1 to 16
abbrev pub ClaimPacks : Claim → Type 0
ClaimPacks (AtLoad t core) = Unit {0}
ClaimPacks (AtCompare t core depth) = DepthFits depth
ClaimPacks (AtStack t depth) = Unit {0}

-- the thread is a frame of the machine, and a depth that was found is from 1 to 16
abbrev pub ClaimFits : Shape → Claim → Type 0
ClaimFits s (AtLoad t core) = t < s.frames
ClaimFits s (AtCompare t core depth) = (t < s.frames) × DepthFits depth
ClaimFits s (AtStack t depth) = (t < s.frames) × DepthFits depth

-- the next step loads the thread's word, then puts the claimed word in the place of the idle one, then loads the top of the stack
abbrev pub claim_move : Claim → Move
claim_move (AtLoad t core) = LoadOf (EntryAt t 0)
claim_move (AtCompare t core depth) =
    CompareOf (EntryAt t 0) (word_of_thread (ThreadWord.Idle depth)) (word_of_thread (ThreadWord.Claimed core depth))
claim_move (AtStack t depth) = LoadOf (EntryAt t depth)

-- a thread that runs, or that a core has claimed, is refused
abbrev pub thread_end : Option ThreadWord → StageEnd Claimed
thread_end None = Refuse Reply.Raced
thread_end (Some (ThreadWord.Idle depth)) = Going
thread_end (Some (ThreadWord.Running core depth)) = Refuse (Reply.Running core)
thread_end (Some (ThreadWord.Claimed core depth)) = Refuse (Reply.Busy core)

-- what the compare leads to, where it did or did not find the idle thread
abbrev pub claim_compared : Bool → StageEnd Claimed
claim_compared same = if same then Going else Refuse Reply.Raced

-- the thread that is claimed
abbrev pub claimed_at : ℕ → ℕ → ℕ → Claimed
claimed_at t depth comp = record { thread = t; depth = depth; comp = comp }

-- its top component is a frame of the machine
abbrev pub claimed_within : Bool → Claimed → StageEnd Claimed
claimed_within within c = if within then Done c else Refuse Reply.Raced

abbrev pub top_end : ℕ → ℕ → ℕ → Option ℕ → StageEnd Claimed
top_end frames t depth None = Refuse Reply.Raced
top_end frames t depth (Some comp) = claimed_within (nat_lt comp frames) (claimed_at t depth comp)

abbrev pub stack_end : ℕ → ℕ → ℕ → Option StackWord → StageEnd Claimed
stack_end frames t depth None = Refuse Reply.Raced
stack_end frames t depth (Some v) = top_end frames t depth v.0

-- what a step leads to that finds this word, on a machine of so many frames
abbrev pub claim_end : ℕ → Claim → ℕ → StageEnd Claimed
claim_end frames (AtLoad t core) found = thread_end (thread_of_word found)
claim_end frames (AtCompare t core depth) found = claim_compared (found == word_of_thread (ThreadWord.Idle depth))
claim_end frames (AtStack t depth) found = stack_end frames t depth (stack_of_word found)

-- where it stands after a load of this thread's word
abbrev pub thread_after : ℕ → ℕ → Option ThreadWord → Claim
thread_after t core None = AtLoad t core
thread_after t core (Some (ThreadWord.Idle depth)) = AtCompare t core depth
thread_after t core (Some (ThreadWord.Running c depth)) = AtLoad t core
thread_after t core (Some (ThreadWord.Claimed c depth)) = AtLoad t core

-- where it stands after the compare, which did or did not find the idle thread
abbrev pub compared_after : Bool → ℕ → ℕ → ℕ → Claim
compared_after same t core depth = if same then AtStack t depth else AtCompare t core depth

-- where it stands after a step that finds this word
abbrev pub claim_after : Claim → ℕ → Claim
claim_after (AtLoad t core) found = thread_after t core (thread_of_word found)
claim_after (AtCompare t core depth) found = compared_after (found == word_of_thread (ThreadWord.Idle depth)) t core depth
claim_after (AtStack t depth) found = AtStack t depth

-- a claimed thread and its top component are frames of the machine, and its depth is from 1 to 16
pub record ClaimedFits (s : Shape) (c : Claimed) : Type 0 where
  pub thread : c.thread < s.frames
  pub depth : DepthFits c.depth
  pub comp : c.comp < s.frames

-- what a step led to has such a thread, if it has one
abbrev pub EndFits : Shape → StageEnd Claimed → Type 0
EndFits s Going = Unit {0}
EndFits s (Decided r) = Unit {0}
EndFits s (Done c) = ClaimedFits s c
EndFits s (Refuse r) = Unit {0}
