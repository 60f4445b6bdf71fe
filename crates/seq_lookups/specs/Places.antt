-- Slots and targets of the plain kernel, as those of the definitions.
use Rattle.seq_state.specs.{Target, Under, InRoot, root_at}
use Rattle.seq_lookups.specs.declared.slots.Target.{Target as Asked}

-- The target under a number of a table with this root, or at an entry of the root.
abbrev pub target_of : Asked → Target
target_of (Asked.Under root number) = Under (root_at root) number
target_of (Asked.InRoot root index) = InRoot (root_at root) index
