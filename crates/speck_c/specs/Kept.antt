-- What a handle owns: where it is full, the box behind its pointer.
use Rattle.{std.specs.Prelude.Option, std.specs.Prelude.Some, std.specs.Prelude.None, std.specs.Box.Ownership.box_owns}
use Rattle.{std.specs.Global.Global, std_heap.specs.contracts.GlobalAllocator.TheImpl.ghosts, speck_c.specs.contracts.held.Held.the_row}
use base.Fml.{Fml, ftrue}
use denote.RawPtr.{Ptr}

-- the box that holds x, or nothing
abbrev pub kept : Global → Ptr → Option the_row.Denot → Fml
kept alloc p held = elim held [ Some x ↦ box_owns (ghosts.dealloc_token alloc) the_row p x | None ↦ ftrue ]
