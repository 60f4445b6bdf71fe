-- The names of the crates below that the files of this crate use, in one place: a file takes them from here.
pub use Rattle.table_lines.specs.kernel_history.proofs.{◌≡◌, arith, ◌++◌, times, string_bytes, ap, reverse, sym, ◌∙◌, take, ◌+◌, ◌≤◌, subst}
pub use Rattle.table_lines.specs.kernel_history.proofs.{flat_map, Core, tcap_in, outstanding, place_names, core_names, ℕ, ◌<◌, List, [], refl}
pub use Rattle.table_lines.specs.kernel_history.proofs.{slice_index, first_of_stack, thread_of, frame_names, number_names, ticks, sum_none}
pub use Rattle.table_lines.specs.kernel_history.proofs.{sum_more, ◌*◌}
pub use Rattle.table_lines.proofs.{begins, goes_on, adds_none, adds_more, adds_whole, adds_piece, lines_none, lines_more}
pub use Rattle.table_lines.specs.kernel_history.specs.{frame_lines, number_line, core_lines, entry_line, quality_line, number}
pub use Rattle.seq_lookups.specs.seq_state.specs.Maps.{state_of}
pub use Rattle.table_lines.specs.Counting.{Adds}
unfoldable pub use Rattle.table_lines.specs.kernel_history.specs.{sum_below, lines_below}
