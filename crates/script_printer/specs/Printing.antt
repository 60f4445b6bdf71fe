-- The printed form of a script: the lines of its setup, then the calls of each core that has some, then its order.
use Rattle.std.specs.Prelude.{ℕ, List, [], ◌∷◌, ◌++◌, codes, decimal, ◌+◌, ◌%◌, ◌==◌, if◌then◌else◌, flat_map}
use Rattle.spk_nums.specs.{declared.calls.Call.Call, declared.grants.Grant.Grant, declared.steps.How.How}
use Rattle.spk_nums.specs.{declared.steps.How.TheVariants.One, declared.steps.How.TheVariants.Ready, declared.steps.How.TheVariants.Decide}
use Rattle.spk_nums.specs.{declared.steps.How.TheVariants.Return, declared.steps.Item.Item, Setting.Setting, Texts.with_one}
use Rattle.{spk_nums.specs.Texts.with_three, spk_nums.specs.Texts.call_text, script_reader.specs.Readings.Meaning}

-- a line: its text, and a line feed
abbrev pub line : List ℕ → List ℕ
line text = text ++ 10 ∷ []

-- ---- the setup

-- the line of a grant: `grant`, budget, scheduler, quality
abbrev pub grant_line : Grant → List ℕ
grant_line g = line (with_three (codes "grant") g.budget g.sched g.quality)

-- the lines of the cores and the frames
abbrev pub size_lines : Setting → List ℕ
size_lines s = line (with_one (codes "cores") s.cores) ++ line (with_one (codes "frames") s.frames)

-- the lines of the limits, which stand whatever they are
abbrev pub limit_lines : Setting → List ℕ
limit_lines s = line (with_one (codes "calls") s.calls) ++ line (with_one (codes "epochs") s.epochs)

-- the lines of the setup: the version, the sizes, a line for each grant, core 0's first, and the limits
abbrev pub setup_lines : ℕ → Setting → List ℕ
setup_lines version s = line (with_one (codes "speck") version) ++ (size_lines s ++ (flat_map grant_line s.grants ++ limit_lines s))

-- ---- the calls

-- the line of a call
abbrev pub call_line : Call → List ℕ
call_line c = line (call_text c)

-- the lines of a core: its `core` line and its calls, and none where it has no calls
abbrev pub core_lines : ℕ → List Call → List ℕ
core_lines core [] = []
core_lines core (c ∷ cs) = line (with_one (codes "core") core) ++ flat_map call_line (c ∷ cs)

-- the lines of the cores from that core on, in ascending order
abbrev pub list_lines : ℕ → List (List Call) → List ℕ
list_lines core [] = []
list_lines core (calls ∷ lists) = core_lines core calls ++ list_lines (core + 1) lists

-- ---- the order

-- the mark after an item's core: how far the core goes on
abbrev pub how_text : How → List ℕ
how_text One = []
how_text Ready = codes "<"
how_text Decide = codes "!"
how_text Return = codes "."

-- an item: its core and its mark
abbrev pub item_text : Item → List ℕ
item_text item = decimal item.core ++ how_text item.how

-- what stands before the item at a place, counted from 0: each tenth begins a line, another stands after a space
abbrev pub before_item : ℕ → List ℕ
before_item at = if at % 10 == 0 then 10 ∷ [] else codes " "

-- the items from that place on
abbrev pub items_text : ℕ → List Item → List ℕ
items_text at [] = []
items_text at (item ∷ items) = (before_item at ++ item_text item) ++ items_text (at + 1) items

-- the lines of the order: `order` and its items, and none where it has no items
abbrev pub order_lines : List Item → List ℕ
order_lines [] = []
order_lines (item ∷ items) = line (codes "order" ++ items_text 0 (item ∷ items))

-- ---- the whole

-- the printed form of a script
unfoldable pub printed : Meaning → List ℕ
printed m = setup_lines m.version m.setup ++ (list_lines 0 m.lists ++ order_lines m.order)
