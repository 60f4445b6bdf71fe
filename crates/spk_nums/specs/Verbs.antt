-- What stands in the line of a call: its word, then its arguments, from left to right. It is said here once for each call: the text of a call is
-- made of it, and what a line says is read by it.
use Rattle.std.specs.Prelude.{ℕ, ◌==◌, if◌then◌else◌, List, [], ◌∷◌, map, codes, decimal}
use Rattle.spk_nums.specs.Names.{frame_kind_word}
use Rattle.spk_nums.specs.Rights.{both}
use Rattle.spk_nums.specs.declared.kinds.FrameKind.{FrameKind}
use Rattle.spk_nums.specs.declared.calls.Make.{Make}
use Rattle.spk_nums.specs.declared.calls.Make.TheVariants as make
use Rattle.spk_nums.specs.declared.calls.Call.{Call}
use Rattle.spk_nums.specs.declared.calls.Call.TheVariants as call
use Rattle.spk_nums.specs.declared.verbs.Verb.{Verb}
use Rattle.spk_nums.specs.declared.verbs.Object.{Object}

-- the word of a call
abbrev pub verb_word : Verb → List ℕ
verb_word Verb.Look = codes "look"
verb_word Verb.Copy = codes "copy"
verb_word Verb.Remove = codes "remove"
verb_word Verb.Grow = codes "grow"
verb_word Verb.Shrink = codes "shrink"
verb_word Verb.Retype = codes "retype"
verb_word Verb.Make = codes "make"
verb_word Verb.Map = codes "map"
verb_word Verb.Unmap = codes "unmap"
verb_word Verb.Touch = codes "touch"
verb_word Verb.Flush = codes "flush"
verb_word Verb.Gate = codes "gate"
verb_word Verb.Kill = codes "kill"
verb_word Verb.Call = codes "call"
verb_word Verb.Ret = codes "ret"
verb_word Verb.Switch = codes "switch"
verb_word Verb.Tick = codes "tick"
verb_word Verb.Transfer = codes "transfer"
verb_word Verb.Delegate = codes "delegate"
verb_word Verb.Test = codes "test"
verb_word Verb.Part = codes "part"
verb_word Verb.Replenish = codes "replenish"

-- the word of what a `make` makes
abbrev pub object_word : Object → List ℕ
object_word Object.Table = codes "table"
object_word Object.Leaf = codes "leaf"
object_word Object.Pages = codes "pages"
object_word Object.Pleaf = codes "pleaf"
object_word Object.Thread = codes "thread"
object_word Object.Tcap = codes "tcap"
object_word Object.Comp = codes "comp"

-- an argument: a number, a kind of frame, or what a `make` makes
pub data Argument : Type 0 where
  Number : ℕ → Argument
  Kind : FrameKind → Argument
  Made : Object → Argument

-- the word that an argument is written as
abbrev pub argument_word : Argument → List ℕ
argument_word (Number n) = decimal n
argument_word (Kind k) = frame_kind_word k
argument_word (Made o) = object_word o

-- the rights of a copy are written where they are not both
abbrev pub rights_written : ℕ → List Argument
rights_written rights = if rights == both then [] else Number rights ∷ []

-- what is made, and its own arguments
abbrev pub object_of : Make → Object
object_of make.Table = Object.Table
object_of make.Leaf = Object.Leaf
object_of make.Pages = Object.Pages
object_of make.Pleaf = Object.Pleaf
object_of (make.Thread comp) = Object.Thread
object_of (make.Tcap sched quality) = Object.Tcap
object_of (make.Comp table pages live) = Object.Comp

abbrev pub object_arguments : Make → List Argument
object_arguments (make.Thread comp) = Number comp ∷ []
object_arguments (make.Tcap sched quality) = Number sched ∷ Number quality ∷ []
object_arguments (make.Comp table pages live) = Number table ∷ Number pages ∷ Number live ∷ []
object_arguments _ = []

-- what a line says of a call: its word, and its arguments
pub record Said : Type 0 where
  pub verb : Verb
  pub arguments : List Argument

abbrev pub with : Verb → List Argument → Said
with v arguments = record { verb = v; arguments = arguments }

abbrev pub said : Call → Said
said (call.Look a) = with Verb.Look (Number a ∷ [])
said (call.Copy a t b rights) = with Verb.Copy (Number a ∷ Number t ∷ Number b ∷ rights_written rights.0)
said (call.Remove t b) = with Verb.Remove (Number t ∷ Number b ∷ [])
said (call.Grow t i l) = with Verb.Grow (Number t ∷ Number i ∷ Number l ∷ [])
said (call.Shrink t i) = with Verb.Shrink (Number t ∷ Number i ∷ [])
said (call.Retype r f k) = with Verb.Retype (Number r ∷ Number f ∷ Kind k ∷ [])
said (call.Make what r f t b) = with Verb.Make (Made (object_of what) ∷ Number r ∷ Number f ∷ Number t ∷ Number b ∷ object_arguments what)
said (call.Map p v r f w) = with Verb.Map (Number p ∷ Number v ∷ Number r ∷ Number f ∷ Number w.0 ∷ [])
said (call.Unmap p v) = with Verb.Unmap (Number p ∷ Number v ∷ [])
said (call.Touch v) = with Verb.Touch (Number v ∷ [])
said call.Flush = with Verb.Flush []
said (call.Gate c t b) = with Verb.Gate (Number c ∷ Number t ∷ Number b ∷ [])
said (call.Kill c) = with Verb.Kill (Number c ∷ [])
said (call.Call g) = with Verb.Call (Number g ∷ [])
said call.Ret = with Verb.Ret []
said (call.Switch h q) = with Verb.Switch (Number h ∷ Number q ∷ [])
said (call.Tick n) = with Verb.Tick (Number n ∷ [])
said (call.Transfer a b m) = with Verb.Transfer (Number a ∷ Number b ∷ Number m ∷ [])
said (call.Delegate a b m) = with Verb.Delegate (Number a ∷ Number b ∷ Number m ∷ [])
said (call.Test a b) = with Verb.Test (Number a ∷ Number b ∷ [])
said (call.Part r f n t b) = with Verb.Part (Number r ∷ Number f ∷ Number n ∷ Number t ∷ Number b ∷ [])
said (call.Replenish a m) = with Verb.Replenish (Number a ∷ Number m ∷ [])

-- the words of what was said
abbrev pub said_words : Said → List (List ℕ)
said_words s = verb_word s.verb ∷ map argument_word s.arguments

-- the words of the line of a call
abbrev pub call_words : Call → List (List ℕ)
call_words c = said_words (said c)

-- the word that a call begins with
abbrev pub call_word : Call → List ℕ
call_word c = verb_word (said c).verb
