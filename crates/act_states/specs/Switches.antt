-- The act by which a core goes on as another thread, with a temporal capability.
use Rattle.std.specs.Prelude.{◌≡◌, ◌<◌, ◌≤◌, ◌==◌, ◌∷◌, if◌then◌else◌}
use Rattle.stage_tcap.specs.{ℕ, pos, negsuc, Bool, true, false, Option, Some, None, List, [], Ok, Nothing as nothing, StageEnd, DepthFits}
use Rattle.stage_tcap.specs.{word_of_thread, Idle, Running, Claimed as claimed_thread, EntryAt, ClockAt, Shape, Move, LoadOf, StoreOf}
use Rattle.stage_tcap.specs.{AddOf}
use Rattle.stage_thread.specs.{Claiming.ClaimFits, Claiming.ClaimedFits, Claiming.claim_move, declared.claim.Claim.Claim as ClaimOf}
use Rattle.stage_thread.specs.{declared.claim.Claim.TheVariants.AtLoad, declared.claim.Claim.TheVariants.AtCompare}
use Rattle.stage_thread.specs.{declared.claim.Claim.TheVariants.AtStack, declared.claim.Claimed.Claimed}
use Rattle.act_states.specs.{Refusals.refusal_of, declared.own.OwnChange.TheVariants.Switches, declared.refusals.Refusal.TheVariants.Raced}
use Rattle.act_states.specs.{declared.switches.Switching.Switching, declared.switches.SwitchAt.SwitchAt}
use Rattle.act_states.specs.{declared.switches.SwitchAt.TheVariants.Claim, declared.switches.SwitchAt.TheVariants.LoadTable}
use Rattle.act_states.specs.{declared.switches.SwitchAt.TheVariants.LoadPages, declared.switches.SwitchAt.TheVariants.Leave}
use Rattle.act_states.specs.{declared.switches.SwitchAt.TheVariants.Draw, declared.work.Act.TheVariants.Switch, declared.work.Due.Due}
use Rattle.act_states.specs.{declared.work.Tail.Tail, declared.work.Tail.TheVariants.Nothing, declared.work.Tail.TheVariants.StoreRunning}
use Rattle.act_states.specs.{declared.work.Tail.TheVariants.StoreIdle, declared.work.Work.TheVariants.Act as act_work}
use Rattle.act_states.specs.{declared.work.WorkStep.WorkStep, declared.work.WorkStep.TheVariants.Goes}
use Rattle.act_states.specs.{declared.work.WorkStep.TheVariants.Refuses, declared.work.WorkStep.TheVariants.Changes, Keeping.Keeping}
use Rattle.act_states.specs.{Keeping.KeepsWord}

-- what it names is of the machine
abbrev pub SwitchAtFits : Shape → SwitchAt → Type 0
SwitchAtFits s (Claim claim) = ClaimFits s claim
SwitchAtFits s (LoadTable to) = ClaimedFits s to
SwitchAtFits s (LoadPages to table) = ClaimedFits s to × (table < s.frames)
SwitchAtFits s (Leave to table pages) = ClaimedFits s to × (table < s.frames) × (pages < s.frames)
SwitchAtFits s (Draw to table pages) = ClaimedFits s to × (table < s.frames) × (pages < s.frames)

pub record SwitchingFits (s : Shape) (m : Switching) : Type 0 where
  pub core : m.core < s.cores
  pub frames : m.frames ≡ s.frames
  pub few : m.frames ≤ 512
  pub tcap : m.tcap < s.frames
  pub old : m.old < s.frames
  pub old_depth : DepthFits m.old_depth
  pub old_tcap : m.old_tcap < s.frames
  pub at : SwitchAtFits s m.at

-- its steps: the thread is claimed, the table and the pages of the component at the top of its stack are loaded, the core's own thread is
-- stored as claimed, and a stamp is drawn
abbrev pub switching_at : Switching → SwitchAt → Move
switching_at m (Claim claim) = claim_move claim
switching_at m (LoadTable to) = LoadOf (EntryAt to.comp 0)
switching_at m (LoadPages to table) = LoadOf (EntryAt to.comp 1)
switching_at m (Leave to table pages) = StoreOf (EntryAt m.old 0) (word_of_thread (claimed_thread m.core m.old_depth))
switching_at m (Draw to table pages) = AddOf ClockAt 1

abbrev pub switching_move : Switching → Move
switching_move m = switching_at m m.at

-- the stores after its decision: a thread's word as running, and as idle
abbrev pub running_move : ℕ → ℕ → ℕ → Move
running_move f core depth = StoreOf (EntryAt f 0) (word_of_thread (Running core depth))

abbrev pub idle_move : ℕ → ℕ → Move
idle_move f depth = StoreOf (EntryAt f 0) (word_of_thread (Idle depth))

-- the counts that change where one temporal capability is left for another; none where they are the same
abbrev pub tcap_dues : Bool → ℕ → ℕ → List Due
tcap_dues same q old = if same then [] else record { frame = q; change = pos 1 } ∷ record { frame = old; change = negsuc 0 } ∷ []

-- those of the two threads change too, and all from when the words of the component at the top are loaded
abbrev pub switch_due_list : Switching → Claimed → List Due
switch_due_list m to =
    record { frame = to.thread; change = pos 1 }
    ∷ record { frame = m.old; change = negsuc 0 }
    ∷ tcap_dues (m.tcap == m.old_tcap) m.tcap m.old_tcap

abbrev pub switching_dues : Switching → SwitchAt → List Due
switching_dues m (Claim claim) = []
switching_dues m (LoadTable to) = []
switching_dues m (LoadPages to table) = []
switching_dues m (Leave to table pages) = switch_due_list m to
switching_dues m (Draw to table pages) = switch_due_list m to

-- whether the next step draws the stamp
abbrev pub is_switching : SwitchAt → Bool
is_switching (Claim claim) = false
is_switching (LoadTable to) = false
is_switching (LoadPages to table) = false
is_switching (Leave to table pages) = false
is_switching (Draw to table pages) = true

-- the steps that are still to come with the stores of the two threads, and with the acquiring and the commit of the counts where these are
-- not acquired yet
abbrev pub claim_left : ClaimOf → ℕ
claim_left (AtLoad f core) = 21
claim_left (AtCompare f core depth) = 20
claim_left (AtStack f depth) = 19

abbrev pub switching_left : SwitchAt → ℕ
switching_left (Claim claim) = claim_left claim
switching_left (LoadTable to) = 18
switching_left (LoadPages to table) = 17
switching_left (Leave to table pages) = 4
switching_left (Draw to table pages) = 3

-- what a refused call has still to store: the word of the thread as idle, where it is claimed
abbrev pub claim_undo : ClaimOf → Tail
claim_undo (AtLoad f core) = Nothing
claim_undo (AtCompare f core depth) = Nothing
claim_undo (AtStack f depth) = StoreIdle f depth

abbrev pub gives_back : Claimed → Tail
gives_back to = StoreIdle to.thread to.depth

abbrev pub switching_undo : SwitchAt → Tail
switching_undo (Claim claim) = claim_undo claim
switching_undo (LoadTable to) = gives_back to
switching_undo (LoadPages to table) = gives_back to
switching_undo (Leave to table pages) = gives_back to
switching_undo (Draw to table pages) = gives_back to

-- a thread that is claimed stands for the idle one that was found, and the core's own, from when it is stored as claimed, for the running
-- one
abbrev pub idle_keeps : ℕ → ℕ → List Keeping
idle_keeps f depth = KeepsWord (EntryAt f 0) (word_of_thread (Idle depth)) ∷ []

abbrev pub claim_keeps : ClaimOf → List Keeping
claim_keeps (AtLoad f core) = []
claim_keeps (AtCompare f core depth) = []
claim_keeps (AtStack f depth) = idle_keeps f depth

abbrev pub switching_keeps : Switching → SwitchAt → List Keeping
switching_keeps m (Claim claim) = claim_keeps claim
switching_keeps m (LoadTable to) = idle_keeps to.thread to.depth
switching_keeps m (LoadPages to table) = idle_keeps to.thread to.depth
switching_keeps m (Leave to table pages) = idle_keeps to.thread to.depth
switching_keeps m (Draw to table pages) =
    KeepsWord (EntryAt to.thread 0) (word_of_thread (Idle to.depth))
    ∷ KeepsWord (EntryAt m.old 0) (word_of_thread (Running m.core m.old_depth))
    ∷ []

-- it goes on here
abbrev pub switch_goes : Switching → SwitchAt → WorkStep
switch_goes m at = Goes (act_work (Switch (record m { at = at })))

-- what a step of the claim leads to, which stands here after it
abbrev pub took_claim : Switching → ClaimOf → StageEnd Claimed → WorkStep
took_claim m claim StageEnd.Going = switch_goes m (Claim claim)
took_claim m claim (StageEnd.Decided r) = Refuses (refusal_of r) (claim_undo claim)
took_claim m claim (StageEnd.Done to) = switch_goes m (LoadTable to)
took_claim m claim (StageEnd.Refuse r) = Refuses (refusal_of r) (claim_undo claim)

-- what the load of the table leads to, where it shows this
abbrev pub switch_table : Switching → Claimed → Option ℕ → WorkStep
switch_table m to None = Refuses Raced (gives_back to)
switch_table m to (Some table) = switch_goes m (LoadPages to table)

-- the draw decides: the core goes on as the thread, with the temporal capability, and the words of both threads are still to be stored
abbrev pub switched : Switching → Claimed → ℕ → ℕ → ℕ → WorkStep
switched m to table pages stamp =
    Changes (Ok nothing) (Switches to.thread to.depth to.comp table pages m.tcap) (Some stamp)
    (StoreRunning to.thread m.core to.depth m.old m.old_depth)
