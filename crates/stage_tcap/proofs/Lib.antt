pub mod ListLemmas
pub mod PairLemmas
pub mod RefillLemmas
-- The names that are used most outside of this library.
pub use Rattle.stage_tcap.specs.{◌≡◌, ℕ, refl, Some, ◌<◌, ◌∷◌, None, [], Setting, true, List, false, Option, IsSetting, length, Bool, ◌≤◌}
pub use Rattle.stage_tcap.specs.{Reply, Call, ◌+◌, if◌then◌else◌, ◌≢◌, ◌==◌, EntryAt, ◌++◌, Capability, IsTrue, map, Word, word_of, Move, ◌^◌}
pub use Rattle.stage_tcap.specs.{suc, CountAt, ◌&&◌, Kind, ◌⊎◌, left_of, All, ltb, FrameAt, LoadOf, LiveAt, zero, get_or, slice_get, ◌||◌}
pub use Rattle.stage_tcap.specs.{CoreAt, IsSome, not, ClockAt, FlushAt, leb, FrameKind, ◌-◌, pos, Value, ℤ, take, HeadWord, told_of, same_word}
pub use Rattle.stage_tcap.specs.{is_some, Nothing, Make, CompareOf, StoreOf, Shape, ◌*◌, Retype, ◌+ℤ◌, IfSome, negsuc, InLimits, left_if}
pub use Rattle.stage_tcap.specs.{string_bytes, cond, Tick, quality_of_word, Map, Switch, HeadFits, Kill, Replenish, Test, StageEnd, Running}
pub use Rattle.stage_tcap.specs.{max, Delegate, Transfer, option_to_list, Gate, Grow, Look, Part, Remove, Shrink, Unmap, Idle, IsIn, Flush, Ret}
pub use Rattle.stage_tcap.specs.{Untyped, stack_of_word, Copy, Obj, head_end, in_order, min, flat_map, Translation, end_by_mark, marked}
pub use Rattle.stage_tcap.specs.{amount_of, AddOf, Touch, Kernel, User, CoreEnd, head, QualityWord, drop, set, sum_by, IsSomeAnd, credited}
pub use Rattle.stage_tcap.specs.{again_end, vec_capacity, ThreadWord, place_of, option_map, Item, debited, same_list, refill_after, ThreadFits}
pub use Rattle.stage_tcap.specs.{◌%◌, rank, Comp, Range, PageFlags, Decision, charged_end, by_alike, by_room, judged, list_end, ◌/◌, eqb}
pub use Rattle.stage_tcap.specs.{slice_index, Err, bound_of, cap_of, part_of, whole_copy, place_in, Return, read_word, b_end, decided_by_mark}
pub use Rattle.stage_tcap.specs.{giving_back, marked_end, pair_after, StackWord, Claimed, op_of, IsShape}
pub use Rattle.std.proofs.Common.{ap, ◌∙◌, sym, subst, arith, inl, inr, eq-eqb, eqb-true, ne_eqb, lt-ltb, ltb-false, ltb-true, length-append}
pub use Rattle.std.proofs.Common.{leb-true, rules, leb-false, append-nil, append_assoc, true≢false, le-leb, take_all, le-ltb, length-take-le}
pub use Rattle.std.proofs.Common.{map-id, Ok}
pub use Rattle.std.proofs.lemmas.List.{length-map, get_or-map, get_or_past, take_more}
pub use Rattle.std.proofs.lemmas.Bool.{false≢true, eqb-false}
pub use Rattle.word_map.proofs.WordLemmas.{same_same}
pub use Rattle.tcap_words.proofs.HeadLemmas.{spelling}
unfoldable pub use Rattle.stage_tcap.specs.{head_of_word, word_of_head, thread_of_word, word_of_thread, word_of_stack}
