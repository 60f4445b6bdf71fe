-- The act that makes a component in a blank kernel frame.
use Rattle.std.specs.Prelude.{◌+◌, ◌-◌, ◌<◌, ◌≤◌, ◌≡◌, ◌^◌, ◌==◌, ◌∷◌, if◌then◌else◌}
use Rattle.stage_tcap.specs.{ℕ, pos, ltb as nat_lt, Bool, true, false, Option, Some, None, List, [], FrameKind, Obj, Nothing as nothing}
use Rattle.stage_tcap.specs.{StageEnd, EntryAt, FrameAt, LiveAt, Shape, Move, LoadOf, CompareOf, StoreOf}
use Rattle.stage_sweep.specs.stage_quiet.specs.{QuietFits, quiet_move, quiet_scan}
use Rattle.stage_sweep.specs.frame_words.specs.{word_of_comp, word_of_frame, word_of_live, declared.frame_word.FrameWord.FrameWord}
use Rattle.act_states.specs.{Fills.FillFits, Fills.fill_move, Makings.marked, Refusals.refusal_of, Scans.IsUnpaged, Scans.ScanFits}
use Rattle.act_states.specs.{Scans.left_of_scan, WorkSteps.refuse, declared.comps.CompAt.CompAt, declared.comps.CompAt.TheVariants.Load}
use Rattle.act_states.specs.{declared.comps.CompAt.TheVariants.Mark, declared.comps.CompAt.TheVariants.LoadLive}
use Rattle.act_states.specs.{declared.comps.CompAt.TheVariants.Scan, declared.comps.CompAt.TheVariants.Close}
use Rattle.act_states.specs.{declared.comps.CompAt.TheVariants.Store, declared.comps.CompAt.TheVariants.Fill as fill_at}
use Rattle.act_states.specs.{declared.comps.CompMaking.CompMaking, declared.comps.LastEpoch.LastEpoch, declared.refusals.Refusal.Refusal}
use Rattle.act_states.specs.{declared.refusals.Refusal.TheVariants.Raced, declared.refusals.Refusal.TheVariants.Busy}
use Rattle.act_states.specs.{declared.refusals.Refusal.TheVariants.Occupied, declared.refusals.Refusal.TheVariants.EpochsSpent}
use Rattle.act_states.specs.{declared.refusals.Refusal.TheVariants.FrameKind as wrong_kind, declared.work.Act.TheVariants.MakeComp}
use Rattle.act_states.specs.{declared.work.Due.Due, declared.work.Tail.Tail, declared.work.Tail.TheVariants.Nothing}
use Rattle.act_states.specs.{declared.work.Tail.TheVariants.Unmark, declared.work.Tail.TheVariants.StoreLive}
use Rattle.act_states.specs.{declared.work.Work.TheVariants.Act as act_work, declared.work.WorkStep.WorkStep}
use Rattle.act_states.specs.{declared.work.WorkStep.TheVariants.Goes, declared.work.WorkStep.TheVariants.Refuses}
use Rattle.act_states.specs.Keeping.{Keeping, KeepsWord}
use Rattle.{stage_sweep.specs.frame_words.specs.declared.live_word.LiveWord.LiveWord}
use Rattle.{stage_sweep.specs.stage_quiet.specs.declared.quiet.Quiet.Quiet, act_states.specs.declared.work.WorkStep.TheVariants.Answers}

-- the word of a frame that holds a component
abbrev pub component : FrameWord
component = record { kind = FrameKind.Kernel; object = Obj.Comp; mark = None }

-- the words of a component of this epoch: its table, its pages, and its liveness number with the epoch
abbrev pub comp_word_at : CompMaking → ℕ → ℕ → ℕ
comp_word_at m epoch i =
    if i == 0 then m.table else (if i == 1 then m.pages else word_of_comp (record { number = m.number; epoch = epoch }))

-- what it names is of the machine
abbrev pub LastFits : LastEpoch → Type 0
LastFits last = last.epoch + 1 < 2 ^ 16

abbrev pub CompAtFits : Shape → CompAt → Type 0
CompAtFits s Load = Unit {0}
CompAtFits s (Mark word) = Unit {0}
CompAtFits s (LoadLive word) = Unit {0}
CompAtFits s (Scan word last q) = QuietFits s q × ScanFits s q × IsUnpaged q
CompAtFits s (Close word last) = LastFits last
CompAtFits s (Store word last entry) = LastFits last × (entry ≤ 2)
CompAtFits s (fill_at word last) = LastFits last

pub record CompMakingFits (s : Shape) (m : CompMaking) : Type 0 where
  pub frame : m.frame < s.frames
  pub table : m.table < s.frames
  pub pages : m.pages < s.frames
  pub number : m.number < 64
  pub core : m.core < s.cores
  pub cores : m.cores ≡ s.cores
  pub few : m.cores ≤ 8
  pub epochs : m.epochs < 2 ^ 16
  pub fill : FillFits s m.fill
  pub at : CompAtFits s m.at

-- its steps
abbrev pub comp_at : CompMaking → CompAt → Move
comp_at m Load = LoadOf (FrameAt m.frame)
comp_at m (Mark word) = CompareOf (FrameAt m.frame) word (word_of_frame (marked m.core))
comp_at m (LoadLive word) = LoadOf (LiveAt m.number)
comp_at m (Scan word last q) = quiet_move q
comp_at m (Close word last) = CompareOf (LiveAt m.number) last.word (word_of_live (LiveWord.Closing last.epoch m.core))
comp_at m (Store word last entry) = StoreOf (EntryAt m.frame entry) (comp_word_at m (last.epoch + 1) entry)
comp_at m (fill_at word last) = fill_move m.fill

abbrev pub comp_move : CompMaking → Move
comp_move m = comp_at m m.at

-- the counts that change, from when the frame is marked: that of the frame by two, for the capability that leads to it and for the
-- number that lives, and those of the table and of the pages
abbrev pub comp_due_list : CompMaking → List Due
comp_due_list m =
    record { frame = m.frame; change = pos 2 }
    ∷ record { frame = m.table; change = pos 1 }
    ∷ record { frame = m.pages; change = pos 1 }
    ∷ []

abbrev pub comp_dues : CompMaking → CompAt → List Due
comp_dues m Load = []
comp_dues m (Mark word) = []
comp_dues m (LoadLive word) = comp_due_list m
comp_dues m (Scan word last q) = comp_due_list m
comp_dues m (Close word last) = comp_due_list m
comp_dues m (Store word last entry) = comp_due_list m
comp_dues m (fill_at word last) = comp_due_list m

-- it goes on here
abbrev pub comp_goes : CompMaking → CompAt → WorkStep
comp_goes m at = Goes (act_work (MakeComp (record m { at = at })))

-- what a refused call has still to store: the words as they were found of the number and of the frame, each where it is marked
abbrev pub comp_undo : CompMaking → CompAt → Tail
comp_undo m Load = Nothing
comp_undo m (Mark word) = Nothing
comp_undo m (LoadLive word) = Unmark m.frame word
comp_undo m (Scan word last q) = Unmark m.frame word
comp_undo m (Close word last) = Unmark m.frame word
comp_undo m (Store word last entry) = StoreLive m.number last.word m.frame word
comp_undo m (fill_at word last) = StoreLive m.number last.word m.frame word

-- the frame is marked, and then the number: each stands for its word as it was found
abbrev pub comp_keeps : CompMaking → CompAt → List Keeping
comp_keeps m Load = []
comp_keeps m (Mark word) = []
comp_keeps m (LoadLive word) = KeepsWord (FrameAt m.frame) word ∷ []
comp_keeps m (Scan word last q) = KeepsWord (FrameAt m.frame) word ∷ []
comp_keeps m (Close word last) = KeepsWord (FrameAt m.frame) word ∷ []
comp_keeps m (Store word last entry) = KeepsWord (LiveAt m.number) last.word ∷ KeepsWord (FrameAt m.frame) word ∷ []
comp_keeps m (fill_at word last) = KeepsWord (LiveAt m.number) last.word ∷ KeepsWord (FrameAt m.frame) word ∷ []

abbrev pub comp_refuses : CompMaking → ℕ → Refusal → WorkStep
comp_refuses m word r = Refuses r (Unmark m.frame word)

-- what the load of the frame's word leads to
abbrev pub comp_meets_object : CompMaking → ℕ → Obj → WorkStep
comp_meets_object m word Obj.Blank = comp_goes m (Mark word)
comp_meets_object m word _ = refuse wrong_kind

abbrev pub comp_meets_kernel : CompMaking → ℕ → FrameKind → Obj → WorkStep
comp_meets_kernel m word FrameKind.Kernel o = comp_meets_object m word o
comp_meets_kernel m word _ o = refuse wrong_kind

abbrev pub comp_meets_blank : CompMaking → ℕ → FrameKind → Obj → Option ℕ → WorkStep
comp_meets_blank m word k o None = comp_meets_kernel m word k o
comp_meets_blank m word k o (Some d) = refuse (Busy d)

abbrev pub comp_meets : CompMaking → ℕ → Option FrameWord → WorkStep
comp_meets m word None = refuse Raced
comp_meets m word (Some v) = comp_meets_blank m word v.kind v.object v.mark

-- a number is taken, unless its epochs are spent; one that has died is scanned for first
abbrev pub takes_number : CompMaking → ℕ → LastEpoch → WorkStep
takes_number m word last = if nat_lt last.epoch m.epochs then comp_goes m (Close word last) else comp_refuses m word EpochsSpent

abbrev pub scans_number : CompMaking → ℕ → LastEpoch → Option Quiet → WorkStep
scans_number m word last None = takes_number m word last
scans_number m word last (Some q) = comp_goes m (Scan word last q)

-- what the load of the number's word leads to
abbrev pub number_shown : CompMaking → ℕ → ℕ → LiveWord → WorkStep
number_shown m word found LiveWord.Free = takes_number m word (record { word = found; epoch = 0 })
number_shown m word found (LiveWord.Live epoch f) = comp_refuses m word Occupied
number_shown m word found (LiveWord.Closing epoch by) = comp_refuses m word (Busy by)
number_shown m word found (LiveWord.Dead epoch stamp) =
    scans_number m word (record { word = found; epoch = epoch }) (quiet_scan stamp m.core m.cores false)

abbrev pub number_met : CompMaking → ℕ → ℕ → Option LiveWord → WorkStep
number_met m word found None = comp_refuses m word Raced
number_met m word found (Some shown) = number_shown m word found shown

-- what a step of the scan leads to, which stands here after it
abbrev pub number_scanned : CompMaking → ℕ → LastEpoch → Quiet → StageEnd (Unit {0}) → WorkStep
number_scanned m word last q StageEnd.Going = comp_goes m (Scan word last q)
number_scanned m word last q (StageEnd.Decided r) = comp_refuses m word (refusal_of r)
number_scanned m word last q (StageEnd.Done x) = takes_number m word last
number_scanned m word last q (StageEnd.Refuse r) = comp_refuses m word (refusal_of r)

-- what the compare leads to that marks the number's word
abbrev pub closes_number : CompMaking → ℕ → LastEpoch → Bool → WorkStep
closes_number m word last equal = if equal then comp_goes m (Store word last 0) else comp_refuses m word Raced

-- where it stands after the store of a word
abbrev pub comp_stored : ℕ → LastEpoch → ℕ → CompAt
comp_stored word last entry = if nat_lt entry 2 then Store word last (entry + 1) else fill_at word last

-- what the compare of the target leads to: where it is won, the number is live for the frame in its next epoch
abbrev pub comp_published : CompMaking → ℕ → LastEpoch → Bool → WorkStep
comp_published m word last equal =
    if equal then Answers nothing None
    (StoreLive m.number (word_of_live (LiveWord.Live (last.epoch + 1) m.frame)) m.frame (word_of_frame component))
    else Refuses Raced (StoreLive m.number last.word m.frame word)

-- whether the frame is marked, and whether the number is
abbrev pub comp_is_marked : CompAt → Bool
comp_is_marked Load = false
comp_is_marked (Mark word) = false
comp_is_marked (LoadLive word) = true
comp_is_marked (Scan word last q) = true
comp_is_marked (Close word last) = true
comp_is_marked (Store word last entry) = true
comp_is_marked (fill_at word last) = true

-- whether the number's word is loaded
abbrev pub comp_meets_number : CompAt → Bool
comp_meets_number Load = false
comp_meets_number (Mark word) = false
comp_meets_number (LoadLive word) = false
comp_meets_number (Scan word last q) = true
comp_meets_number (Close word last) = true
comp_meets_number (Store word last entry) = true
comp_meets_number (fill_at word last) = true

-- whether the next step is the compare of the target
abbrev pub comp_filling : CompAt → Bool
comp_filling Load = false
comp_filling (Mark word) = false
comp_filling (LoadLive word) = false
comp_filling (Scan word last q) = false
comp_filling (Close word last) = false
comp_filling (Store word last entry) = false
comp_filling (fill_at word last) = true

-- the steps that are still to come on so many cores, with the acquiring and the commit of the counts where the frame is not marked yet
abbrev pub comp_left : ℕ → CompAt → ℕ
comp_left cores Load = 18 + cores
comp_left cores (Mark word) = 17 + cores
comp_left cores (LoadLive word) = 7 + cores
comp_left cores (Scan word last q) = left_of_scan cores q + 7
comp_left cores (Close word last) = 7
comp_left cores (Store word last entry) = 2 - entry + 4
comp_left cores (fill_at word last) = 3
