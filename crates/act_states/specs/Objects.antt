-- The objects that are made in a blank kernel frame: their words, and the references that they take.
use Rattle.std.specs.Prelude.{◌+◌, ◌<◌, ◌≤◌, ◌^◌, ◌==◌, ◌∷◌, if◌then◌else◌}
use Rattle.stage_tcap.specs.{ℕ, pos, Option, Some, None, List, [], map, length, Capability}
use Rattle.stage_tcap.specs.{cap_of, Kind, Obj, Make, word_of_head, word_of_stack, word_of_thread, Idle, Shape}
use Rattle.stage_sweep.specs.entry_words.specs.{EntryWord.word_of_entry, declared.entry.Entry.TheVariants.Free}
use Rattle.call_plans.specs.{Plans.at_place, declared.plans.Nth.TheVariants.Third}
use Rattle.act_states.specs.declared.objects.NewObject.TheVariants.{Table, Leaf, Pages, Pleaf, Thread, Tcap}
use Rattle.{stage_sweep.specs.tcap_words.specs.Quality.word_of_quality, act_states.specs.declared.objects.NewObject.NewObject}
use Rattle.{act_states.specs.declared.work.Due.Due}

-- what its frame's word says, and the kind of its capability
abbrev pub object_obj : NewObject → Obj
object_obj Table = Obj.Table
object_obj Leaf = Obj.Leaf
object_obj Pages = Obj.Pages
object_obj Pleaf = Obj.Pleaf
object_obj (Thread comp) = Obj.Thread
object_obj (Tcap sched quality) = Obj.Tcap

abbrev pub object_kind : NewObject → Kind
object_kind Table = Kind.Table
object_kind Leaf = Kind.Leaf
object_kind Pages = Kind.Pages
object_kind Pleaf = Kind.Pleaf
object_kind (Thread comp) = Kind.Thread
object_kind (Tcap sched quality) = Kind.Tcap

abbrev pub object_cap : NewObject → ℕ → Capability
object_cap object f = cap_of (object_kind object) f 0

-- the object that a `make` makes whose names have led to these, if it makes one
abbrev pub thread_on : Option Capability → Option NewObject
thread_on None = None
thread_on (Some k) = Some (Thread k.frame)

abbrev pub object_made : Make → List Capability → Option NewObject
object_made Make.Table found = Some Table
object_made Make.Leaf found = Some Leaf
object_made Make.Pages found = Some Pages
object_made Make.Pleaf found = Some Pleaf
object_made (Make.Thread comp) found = thread_on (at_place found Third)
object_made (Make.Tcap sched quality) found = Some (Tcap sched quality)
object_made (Make.Comp table pages live) found = None

-- the words of a new thread: it is idle, and its stack has the component alone
abbrev pub thread_word : ℕ → ℕ → ℕ
thread_word comp i =
    if i == 0 then word_of_thread (Idle 1)
    else (if i == 1 then word_of_stack (record { 0 = Some comp })
    else word_of_stack (record { 0 = None }))

-- those of a new temporal capability: it has no budget, and its list has the pair alone
abbrev pub tcap_word : ℕ → ℕ → ℕ → ℕ
tcap_word sched quality i =
    if i == 0 then word_of_head (record { budget = 0; mark = None; version = 0 })
    else (if i == 1 then word_of_quality (record { 0 = Some (sched, quality) })
    else word_of_quality (record { 0 = None }))

-- the word i of a new object: each place of a node is free
abbrev pub object_word : NewObject → ℕ → ℕ
object_word Table i = word_of_entry Free
object_word Leaf i = word_of_entry Free
object_word Pages i = word_of_entry Free
object_word Pleaf i = word_of_entry Free
object_word (Thread comp) i = thread_word comp i
object_word (Tcap sched quality) i = tcap_word sched quality i

-- the last of its words
abbrev pub last_word : NewObject → ℕ
last_word Table = 63
last_word Leaf = 63
last_word Pages = 63
last_word Pleaf = 63
last_word (Thread comp) = 16
last_word (Tcap sched quality) = 8

-- the frames that it names
abbrev pub object_names : NewObject → List ℕ
object_names Table = []
object_names Leaf = []
object_names Pages = []
object_names Pleaf = []
object_names (Thread comp) = comp ∷ []
object_names (Tcap sched quality) = []

-- the counts that change where it is made in a frame, in the order in which they are acquired: that of the frame, for the capability that
-- leads to it, and those of the frames that it names
abbrev pub one_more : ℕ → Due
one_more f = record { frame = f; change = pos 1 }

abbrev pub object_dues : NewObject → ℕ → List Due
object_dues object f = map one_more (f ∷ object_names object)

-- how many these are
abbrev pub counts_of : NewObject → ℕ
counts_of object = length (object_names object) + 1

-- a pair is within its range, and what it names is of the machine
abbrev pub PairFits : NewObject → Type 0
PairFits (Tcap sched quality) = (sched < 64) × (1 ≤ quality) × (quality < 2 ^ 24)
PairFits _ = Unit {0}

abbrev pub NamesFit : ℕ → NewObject → Type 0
NamesFit frames (Thread comp) = comp < frames
NamesFit frames _ = Unit {0}

pub record ObjectFits (s : Shape) (object : NewObject) : Type 0 where
  pub pair : PairFits object
  pub names : NamesFit s.frames object
