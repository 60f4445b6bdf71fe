-- What the crates above name through this one.
pub use Rattle.quality_lists
-- Its own.
pub mod Heads
pub mod Lists
pub mod Charging
pub mod Pairs
pub mod Refilling
-- The names that are used most outside of this library.
pub use Rattle.stage_tcap.specs.Charging.{head_end, end_by_mark, charge_move, charged_end, ChargeFits, after_head, after_mark, charge_after, charge_end}
pub use Rattle.stage_tcap.specs.Heads.{head, marked, credited, debited, relisted}
pub use Rattle.stage_tcap.specs.Lists.{in_order, same_list, read_word, merge_of, merged_if}
pub use Rattle.stage_tcap.specs.Pairs.{amount_of, again_end, judged, pair_after, PairFits, by_alike, by_room, giving_back, list_end, pair_move, at_by_head, at_by_mark}
pub use Rattle.stage_tcap.specs.Pairs.{at_read, b_end, compared_after, decided_by_mark, marked_end, a_next, at_marked, b_next, move_at, noted, noted_by, store_next}
pub use Rattle.stage_tcap.specs.Pairs.{word_of_list, again_value, at_decided, left_a, pair_end, whole_b}
pub use Rattle.stage_tcap.specs.Refilling.{refill_after, RefillFits, again, refill_move, weighed, won, word_end, at_word, from_head, from_mark, from_word, next_in}
pub use Rattle.stage_tcap.specs.Refilling.{refill_end, refill_move_at, refill_noted, weighed_at}
pub use Rattle.std.specs.Prelude.{◌≡◌, ℕ, Some, None, refl, ◌<◌, [], List, ◌∷◌, Option, true, false, Bool, length, ◌≤◌, ◌+◌, if◌then◌else◌, ◌≢◌}
pub use Rattle.std.specs.Prelude.{◌++◌, ◌==◌, map, IsTrue, ◌^◌, suc, ◌&&◌, ◌⊎◌, ltb, All, slice_get, zero, get_or, ◌-◌, IsSome, pos, ◌||◌, not}
pub use Rattle.std.specs.Prelude.{leb, ℤ, take, is_some, ◌*◌, negsuc, string_bytes, ◌+ℤ◌, IfSome, cond, max, min, option_to_list, set, drop}
pub use Rattle.std.specs.Prelude.{flat_map, slice_index, sum_by, IsSomeAnd, ◌/◌, option_map, Err, vec_capacity, ◌%◌, Result, eqb, MatchOption}
pub use Rattle.word_map.specs.{EntryAt, word_of, Move, CountAt, FrameAt, LoadOf, LiveAt, left_of, ClockAt, CoreAt, FlushAt, Shape, CompareOf}
pub use Rattle.word_map.specs.{StoreOf, told_of, same_word, AddOf, IsIn, place_of, size_of, op_of, IsShape}
pub use Rattle.tcap_words.specs.{HeadFits, quality_of_word, stack_of_word, ThreadFits, DepthFits}
pub use Rattle.word_map.specs.spk_nums.specs.{Setting.Setting, Setting.IsSetting, declared.calls.Call.Call, declared.replies.Reply.Reply}
pub use Rattle.word_map.specs.spk_nums.specs.{Capability.Capability, Capability.cap_of, declared.kinds.Kind.Kind}
pub use Rattle.word_map.specs.spk_nums.specs.{declared.kinds.FrameKind.FrameKind}
pub use Rattle.word_map.specs.spk_nums.specs.{declared.replies.Value.TheVariants.Nothing, declared.replies.Value.TheVariants.Amount}
pub use Rattle.word_map.specs.spk_nums.specs.{declared.replies.Value.Value, declared.calls.Call.TheVariants.Retype}
pub use Rattle.word_map.specs.spk_nums.specs.{declared.calls.Call.TheVariants.Tick}
pub use Rattle.word_map.specs.spk_nums.specs.{declared.calls.Call.TheVariants.Kill, declared.calls.Call.TheVariants.Map}
pub use Rattle.word_map.specs.spk_nums.specs.{declared.calls.Call.TheVariants.Switch, declared.calls.Call.TheVariants.Flush}
pub use Rattle.word_map.specs.spk_nums.specs.{declared.calls.Call.TheVariants.Remove, declared.calls.Call.TheVariants.Gate}
pub use Rattle.word_map.specs.spk_nums.specs.{declared.calls.Call.TheVariants.Look, declared.calls.Call.TheVariants.Replenish}
pub use Rattle.word_map.specs.spk_nums.specs.{declared.calls.Call.TheVariants.Test, declared.calls.Call.TheVariants.Transfer}
pub use Rattle.word_map.specs.spk_nums.specs.{declared.calls.Call.TheVariants.Delegate, declared.calls.Call.TheVariants.Part}
pub use Rattle.word_map.specs.spk_nums.specs.{declared.calls.Call.TheVariants.Ret, declared.calls.Call.TheVariants.Grow}
pub use Rattle.word_map.specs.spk_nums.specs.{declared.calls.Call.TheVariants.Shrink, declared.calls.Call.TheVariants.Unmap}
pub use Rattle.word_map.specs.spk_nums.specs.{declared.calls.Call.TheVariants.Touch, declared.calls.Call.TheVariants.Copy}
pub use Rattle.word_map.specs.spk_nums.specs.{declared.calls.Make.Make}
pub use Rattle.word_map.specs.spk_nums.specs.{declared.steps.StageEnd.StageEnd, CallLimits.InLimits, WordSteps.left_if, WordSteps.place_in}
pub use Rattle.word_map.specs.spk_nums.specs.{declared.kinds.FrameKind.TheVariants.Untyped, declared.kinds.FrameKind.TheVariants.Kernel}
pub use Rattle.word_map.specs.spk_nums.specs.{declared.kinds.FrameKind.TheVariants.User, declared.replies.Reply.TheVariants.Ok}
pub use Rattle.word_map.specs.spk_nums.specs.{declared.kinds.Obj.Obj}
pub use Rattle.word_map.specs.spk_nums.specs.{declared.steps.Item.Item, declared.translations.CoreEnd.CoreEnd}
pub use Rattle.word_map.specs.spk_nums.specs.{declared.translations.Translation.Translation}
pub use Rattle.word_map.specs.spk_nums.specs.{Rights.whole_copy, Rights.has_rights, Rights.part_of, declared.kinds.Kind.TheVariants.Comp}
pub use Rattle.word_map.specs.spk_nums.specs.{declared.kinds.Kind.TheVariants.Range, declared.kinds.Obj.TheVariants.Blank}
pub use Rattle.word_map.specs.spk_nums.specs.{declared.replies.Decision.Decision}
pub use Rattle.word_map.specs.spk_nums.specs.{Bounds.bound_of, declared.kinds.PageFlags.PageFlags, declared.steps.How.How}
pub use Rattle.word_map.specs.spk_nums.specs.{declared.steps.How.TheVariants.Return, Merging.covers, declared.steps.WordOp.WordOp}
pub use Rattle.word_map.specs.Word.{Word}
pub use Rattle.tcap_words.specs.{declared.head_word.HeadWord.HeadWord, declared.thread_word.ThreadWord.TheVariants.Running}
pub use Rattle.tcap_words.specs.{declared.thread_word.ThreadWord.TheVariants.Idle, declared.thread_word.ThreadWord.TheVariants.Claimed}
pub use Rattle.tcap_words.specs.{declared.quality_word.QualityWord.QualityWord, declared.thread_word.ThreadWord.ThreadWord}
pub use Rattle.tcap_words.specs.{declared.stack_word.StackWord.StackWord}
pub use Rattle.quality_lists.specs.Rank.{rank}
unfoldable pub use Rattle.tcap_words.specs.{word_of_head, head_of_word, thread_of_word, word_of_thread, word_of_stack}
