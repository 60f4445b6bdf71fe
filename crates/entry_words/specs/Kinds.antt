-- The numbers of the kinds of capability in a word, and the rights that it may withhold.
use Rattle.std.specs.Prelude.{ℕ, Option, Some, None, ◌==◌, if◌then◌else◌}
use Rattle.spk_nums.specs.declared.kinds.Kind.{Kind}
use Rattle.spk_nums.specs.declared.kinds.Kind.TheVariants.{Range, Table, Leaf, Pages, Pleaf, Comp, Gate, Thread, Tcap, Link, Page}

-- the number of a kind
abbrev pub number_of_kind : Kind → ℕ
number_of_kind Range = 0
number_of_kind Table = 1
number_of_kind Leaf = 2
number_of_kind Pages = 3
number_of_kind Pleaf = 4
number_of_kind Comp = 5
number_of_kind Gate = 6
number_of_kind Thread = 7
number_of_kind Tcap = 8
number_of_kind Link = 9
number_of_kind Page = 10

-- the kind of a number
abbrev pub kind_of_number : ℕ → Option Kind
kind_of_number n =
    if n == 0 then Some Range
    else if n == 1 then Some Table
    else if n == 2 then Some Leaf
    else if n == 3 then Some Pages
    else if n == 4 then Some Pleaf
    else if n == 5 then Some Comp
    else if n == 6 then Some Gate
    else if n == 7 then Some Thread
    else if n == 8 then Some Tcap
    else if n == 9 then Some Link
    else if n == 10 then Some Page
    else None

-- the most that a word withholds of the rights of a kind: nothing of a link and of a page
abbrev pub most_withheld : Kind → ℕ
most_withheld Link = 0
most_withheld Page = 0
most_withheld _ = 3
