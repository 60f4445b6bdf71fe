-- What may stand at a place, as it is told.
use Rattle.std.specs.Prelude.{ℕ, nat_le, List, [], ◌∷◌, ◌++◌, drop, filter, Bool, true, false, ◌||◌, not, codes, decimal, if◌then◌else◌}
use Rattle.call_reader.specs.{FirstWords.verbs, FirstWords.is_late, spk_nums.specs.declared.verbs.Verb.Verb, spk_nums.specs.Verbs.verb_word}
use Rattle.line_forms.specs.{declared.context.Reading.Reading, declared.context.Stage.Stage, declared.slots.Slot.Slot}
use Rattle.line_forms.specs.declared.context.Reading.TheVariants as reading
use Rattle.line_forms.specs.declared.context.Stage.TheVariants as stage
use Rattle.line_forms.specs.declared.slots.Slot.TheVariants as slot

-- the words of these calls, a space before each
abbrev pub verb_words : List Verb → List ℕ
verb_words [] = []
verb_words (v ∷ vs) = codes " " ++ verb_word v ++ verb_words vs

-- those of the calls that each version of the language has
abbrev pub early_words : List ℕ
early_words = verb_words (filter (λ v. not (is_late v)) verbs)

-- the call charges ticks
abbrev pub charges : Verb → Bool
charges Verb.Tick = true
charges _ = false

-- those of them that charge none
abbrev pub free_words : List ℕ
free_words = verb_words (filter (λ v. not (is_late v || charges v)) verbs)

-- the words with which a line of a script may begin, and those of a given history after its head
abbrev pub script_words : Stage → List ℕ
script_words stage.Version = codes "speck"
script_words stage.Cores = codes "cores"
script_words stage.Frames = codes "frames"
script_words stage.Grants = codes "grant"
script_words stage.Calls = codes "calls epochs core order"
script_words stage.Epochs = codes "epochs core order"
script_words stage.Lists = codes "core order"
script_words stage.List = codes "core order" ++ early_words
script_words stage.Order = codes ""
script_words stage.Asks = codes "core"
script_words stage.AskList = codes "core send recv"
script_words stage.Tasks = codes "task"
script_words stage.Marks = codes "enter decide return C.I"

-- the words with which a line of a given history may begin
abbrev pub history_words : Stage → List ℕ
history_words stage.Calls = codes "calls epochs enter decide return C.I"
history_words stage.Epochs = codes "epochs enter decide return C.I"
history_words stage.Lists = codes "enter decide return C.I"
history_words s = script_words s

-- the words with which a line may begin of what `sched` reads, where no call charges ticks
abbrev pub sched_words : Stage → List ℕ
sched_words stage.List = codes "core order" ++ free_words
sched_words s = script_words s

-- the words with which a line may begin
abbrev pub begin_words : Reading → Stage → List ℕ
begin_words reading.History s = history_words s
begin_words reading.Sched s = sched_words s
begin_words _ s = script_words s

-- the word that ends the script before it
abbrev pub end_word : Reading → List ℕ
end_word reading.Ends = codes " ends"
end_word reading.Sched = codes " sched"
end_word _ = codes ""

-- where the script may end, also that word
abbrev pub more_words : Reading → Stage → List ℕ
more_words r stage.Calls = end_word r
more_words r stage.Epochs = end_word r
more_words r stage.Lists = end_word r
more_words r stage.List = end_word r
more_words r stage.Order = end_word r
more_words r _ = codes ""

-- after the words of calls, those that there are from version 3 on
abbrev pub third_words : ℕ → List ℕ
third_words version = if nat_le 3 version then verb_words (filter is_late verbs) else codes ""

-- they stand after the words with which a line of a list may begin
abbrev pub late_words : ℕ → Stage → List ℕ
late_words version stage.List = third_words version
late_words version _ = codes ""

-- what may stand at a place of a text of this version
abbrev pub due_text : ℕ → Reading → Stage → Slot → List ℕ
due_text version r s slot.First = begin_words r s ++ late_words version s ++ more_words r s
due_text version r s (slot.Number least most) = codes "a number from " ++ decimal least ++ codes " to " ++ decimal most
due_text version r s (slot.MayNumber least most) = codes "nothing more, or a number from " ++ decimal least ++ codes " to " ++ decimal most
due_text version r s (slot.Core cores) = codes "a core, a number below " ++ decimal cores
due_text version r s slot.FrameKind = codes "untyped user kernel"
due_text version r s slot.Object = codes "table leaf pages pleaf thread tcap comp"
due_text version r s slot.Verb = drop 1 early_words ++ third_words version
due_text version r s (slot.Item cores) = codes "a number below " ++ decimal cores ++ codes ", alone or with < ! or . right after it"
due_text version r s slot.ReplyName = codes "ok no-slot empty wrong-cap occupied quiescing unflushed frame-kind out-of-range referenced not-empty dead deep bottom running short unlike too-many same epochs-spent raced busy fault calls-spent no-right"
due_text version r s slot.Value = codes "nothing more, a number, range table leaf pages pleaf comp gate thread tcap link page preempts stays"
due_text version r s slot.Rights = codes "nothing more, or rights and a number from 0 to 2"
due_text version r s slot.Equals = codes "= and a reply"
due_text version r s slot.End = codes "nothing more"
