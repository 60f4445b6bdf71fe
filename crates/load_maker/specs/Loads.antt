-- The script of a number: four cores, 500 drawn calls of each, and an order of 6,000 drawn items.
use Rattle.std.specs.Prelude.{ℕ, List, [], ◌∷◌, ◌++◌, ◌+◌, slice_index_or}
use Rattle.spk_nums.specs.declared.kinds.FrameKind.TheVariants.{Untyped, User, Kernel}
use Rattle.spk_nums.specs.declared.calls.Make.TheVariants.{Leaf, Pleaf}
use Rattle.spk_nums.specs.declared.calls.Call.TheVariants.{Look, Copy, Remove, Grow, Retype, Make as make_call, Map, Unmap, Touch, Flush}
use Rattle.spk_nums.specs.declared.calls.Call.TheVariants.{Tick, Transfer, Test}
use Rattle.spk_nums.specs.declared.steps.How.TheVariants.{One, Ready, Decide, Return}
use Rattle.load_maker.specs.Draws.{Draw, below, done, ◌>>=◌, repeated}
use Rattle.{spk_nums.specs.Rights.both, spk_nums.specs.declared.kinds.FrameKind.FrameKind, spk_nums.specs.declared.calls.Call.Call}
use Rattle.{spk_nums.specs.declared.grants.Grant.Grant, spk_nums.specs.declared.steps.How.How, spk_nums.specs.declared.steps.Item.Item}
use Rattle.{spk_nums.specs.Setting.Setting, script_reader.specs.Readings.Meaning, script_printer.specs.Printing.printed}

-- ---- a call

-- a slot of the table that capability 1 names
abbrev pub a_slot : Draw ℕ
a_slot = do
  n ← below 44
  done (20 + n)

-- a frame of the range that capability 0 names
abbrev pub a_frame : Draw ℕ
a_frame = do
  n ← below 20
  done (12 + n)

-- the name of a temporal capability
abbrev pub a_tcap : Draw ℕ
a_tcap = do
  n ← below 4
  done (12 + n)

-- the kinds of frame, by number from 0 on
abbrev pub kind_numbered : ℕ → FrameKind
kind_numbered n = slice_index_or (Untyped ∷ User ∷ []) n Kernel

abbrev pub a_look : Draw Call
a_look = do
  a ← below 128
  done (Look a)

abbrev pub a_copy : Draw Call
a_copy = do
  a ← below 32
  b ← a_slot
  done (Copy a 1 b (record { 0 = both }))

abbrev pub a_remove : Draw Call
a_remove = do
  b ← a_slot
  done (Remove 1 b)

abbrev pub a_retype : Draw Call
a_retype = do
  f ← a_frame
  k ← below 3
  done (Retype 0 f (kind_numbered k))

abbrev pub a_make : Draw Call
a_make = do
  f ← a_frame
  b ← a_slot
  done (make_call Leaf 0 f 1 b)

abbrev pub a_map : Draw Call
a_map = do
  v ← below 64
  f ← a_frame
  w ← below 4
  done (Map 2 v 0 f (record { 0 = w }))

abbrev pub an_unmap : Draw Call
an_unmap = do
  v ← below 64
  done (Unmap 2 v)

abbrev pub a_touch : Draw Call
a_touch = do
  v ← below 64
  done (Touch v)

abbrev pub a_tick : Draw Call
a_tick = do
  n ← below 50
  done (Tick n)

abbrev pub a_transfer : Draw Call
a_transfer = do
  a ← a_tcap
  b ← a_tcap
  m ← below 100
  done (Transfer a b m)

abbrev pub a_test : Draw Call
a_test = do
  a ← a_tcap
  b ← a_tcap
  done (Test a b)

-- the calls, by number from 0 on
abbrev pub call_numbered : ℕ → Draw Call
call_numbered n = slice_index_or
    (a_look ∷ a_copy ∷ a_remove ∷ a_retype ∷ a_make ∷ a_map ∷ an_unmap ∷ a_touch ∷ a_tick ∷ a_transfer ∷ done Flush ∷ []) n a_test

-- a call: its number is drawn first
unfoldable pub a_call : Draw Call
a_call = do
  n ← below 12
  call_numbered n

-- ---- the script

-- each core is given the same
abbrev pub the_grant : Grant
the_grant = record { budget = 1000000; sched = 0; quality = 1 }

abbrev pub the_setup : Setting
the_setup = record { cores = 4; frames = 128; grants = the_grant ∷ the_grant ∷ the_grant ∷ the_grant ∷ []; calls = 4194304; epochs = 65535 }

-- the calls with which core 0 begins: a leaf for pages
abbrev pub first_calls : List Call
first_calls = Retype 0 12 Kernel ∷ make_call Pleaf 0 12 1 20 ∷ Grow 2 0 20 ∷ []

-- the calls of a core
unfoldable pub drawn_calls : Draw (List Call)
drawn_calls = repeated 500 a_call

-- the lists of the cores, drawn one after another
abbrev pub drawn_lists : Draw (List (List Call))
drawn_lists = do
  core_0 ← drawn_calls
  core_1 ← drawn_calls
  core_2 ← drawn_calls
  core_3 ← drawn_calls
  done ((first_calls ++ core_0) ∷ core_1 ∷ core_2 ∷ core_3 ∷ [])

-- how far an item takes its core, by number from 0 on
abbrev pub how_numbered : ℕ → How
how_numbered n = slice_index_or (One ∷ Ready ∷ Decide ∷ []) n Return

-- an item of the order
unfoldable pub an_item : Draw Item
an_item = do
  core ← below 4
  n ← below 4
  done (record { core = core; how = how_numbered n })

-- core 0 makes a whole call
abbrev pub whole_call : Item
whole_call = record { core = 0; how = Return }

-- the items with which the order begins: core 0's first calls
abbrev pub first_items : List Item
first_items = whole_call ∷ whole_call ∷ whole_call ∷ []

-- the items of the order after these
unfoldable pub drawn_items : Draw (List Item)
drawn_items = repeated 6000 an_item

-- a script, drawn: its lists, then its order
abbrev pub a_script : Draw Meaning
a_script = do
  lists ← drawn_lists
  items ← drawn_items
  done (record { version = 1; setup = the_setup; lists = lists; order = first_items ++ items })

-- the script of a number: drawing begins at that number
unfoldable pub script_made : ℕ → Meaning
script_made n = (a_script n).0

-- its text
unfoldable pub load_text : ℕ → List ℕ
load_text n = printed (script_made n)
