-- What a decided call has still to store, and its exit.
use Rattle.act_states.specs as low
use Rattle.std.specs.Prelude.{◌-◌, ◌^◌, ◌∷◌, if◌then◌else◌}
use low.{ℕ, Bool, true, false, ltb as nat_lt, Option, List, [], Reply, Ok, ClockAt, FrameAt, LiveAt, Move}
use low.{LoadOf, StoreOf, close_move, Acquired, settle_move, commit_of, Push, Pop, running_move, idle_move, release_after, after_share}
use low.declared.work.Tail.TheVariants.{Nothing, Quiesce, Unmark, StoreDead, StoreFlush, Release, StoreLive, Push as push_tail}
use low.declared.work.Tail.TheVariants.{Pop as pop_tail, StoreRunning, StoreIdle, Share}
use low.{share_left, stage_thread.specs.push_move, stage_thread.specs.pop_move, stage_quiet.specs.Flushing.flush_move}
use low.{stage_quiet.specs.declared.flush_mark.FlushMark.TheVariants.AtStore, stage_pins.specs.Held.rest_of, Kills.dead_move}
use low.{declared.work.Tail.Tail, Untypings.release_move, Untypings.release_left, stage_tcap.specs.Pairs.pair_move}
use Rattle.{call_stages.specs.declared.stages.Stage.Stage, call_stages.specs.declared.stages.Stage.TheVariants.Decided}
use Rattle.{call_stages.specs.declared.stages.Stage.TheVariants.Leave}

-- whether a reply says that the call was carried out
abbrev pub is_ok : Reply → Bool
is_ok (Ok v) = true
is_ok _ = false

-- what of a push and of a pop is to be stored after its next store, and how many stores these are with it
abbrev pub pushed_on : Push → Tail
pushed_on (Push.AtStack t core depth comp) = push_tail (Push.AtThread t core depth)
pushed_on (Push.AtThread t core depth) = Nothing

abbrev pub popped_on : Pop → Tail
popped_on (Pop.AtThread t core depth) = pop_tail (Pop.AtStack t depth)
popped_on (Pop.AtStack t depth) = Nothing

abbrev pub push_left : Push → ℕ
push_left (Push.AtStack t core depth comp) = 2
push_left (Push.AtThread t core depth) = 1

abbrev pub pop_left : Pop → ℕ
pop_left (Pop.AtThread t core depth) = 2
pop_left (Pop.AtStack t depth) = 1

-- the next step of a decided call: its next store, then the commit of each count that it has acquired, then the load of the clock;
-- counters that it has frozen, and their frame's word, are stored after the commits
abbrev pub tail_move : Reply → Option ℕ → Tail → List Acquired → Move
tail_move r drawn (Quiesce close) counts = close_move close
tail_move r drawn (Unmark f word) counts = StoreOf (FrameAt f) word
tail_move r drawn (StoreDead life stamp) counts = dead_move life stamp
tail_move r drawn (StoreFlush core stamp) counts = flush_move (AtStore core stamp)
tail_move r drawn (StoreLive l live f word) counts = StoreOf (LiveAt l) live
tail_move r drawn (push_tail push) counts = push_move push
tail_move r drawn (pop_tail pop) counts = pop_move pop
tail_move r drawn (StoreRunning f core depth old old_depth) counts = running_move f core depth
tail_move r drawn (StoreIdle f depth) counts = idle_move f depth
tail_move r drawn (Share p) counts = pair_move p
tail_move r drawn Nothing [] = LoadOf ClockAt
tail_move r drawn Nothing (x ∷ xs) = settle_move (commit_of (is_ok r) drawn x)
tail_move r drawn (Release release) [] = release_move release
tail_move r drawn (Release release) (x ∷ xs) = settle_move (commit_of (is_ok r) drawn x)

-- the stamp of a clock; a clock past a stamp's range never comes, and stays at the range's end
abbrev pub stamp_if : Bool → ℕ → ℕ
stamp_if fits clock = if fits then clock else 2 ^ 43 - 1

abbrev pub stamp_of : ℕ → ℕ
stamp_of clock = stamp_if (nat_lt clock (2 ^ 43)) clock

-- where the call stands after that step, and the counts that it has then still to commit
abbrev pub took_tail : Reply → Option ℕ → Tail → List Acquired → ℕ → Stage
took_tail r drawn (Quiesce close) counts found = Decided r drawn Nothing
took_tail r drawn (Unmark f word) counts found = Decided r drawn Nothing
took_tail r drawn (StoreDead life stamp) counts found = Decided r drawn Nothing
took_tail r drawn (StoreFlush core stamp) counts found = Decided r drawn Nothing
took_tail r drawn (StoreLive l live f word) counts found = Decided r drawn (Unmark f word)
took_tail r drawn (push_tail push) counts found = Decided r drawn (pushed_on push)
took_tail r drawn (pop_tail pop) counts found = Decided r drawn (popped_on pop)
took_tail r drawn (StoreRunning f core depth old old_depth) counts found = Decided r drawn (StoreIdle old old_depth)
took_tail r drawn (StoreIdle f depth) counts found = Decided r drawn Nothing
took_tail r drawn (Share p) counts found = Decided r drawn (after_share p found)
took_tail r drawn Nothing [] found = Leave r (stamp_of found)
took_tail r drawn Nothing (x ∷ xs) found = Decided r drawn Nothing
took_tail r drawn (Release release) [] found = Decided r drawn (release_after release)
took_tail r drawn (Release release) (x ∷ xs) found = Decided r drawn (Release release)

-- whether the counts are committed before what is still to be stored
abbrev pub commits : Tail → Bool
commits (Quiesce close) = false
commits (Unmark f word) = false
commits (StoreDead life stamp) = false
commits (StoreFlush core stamp) = false
commits (push_tail push) = false
commits (pop_tail pop) = false
commits (StoreRunning f core depth old old_depth) = false
commits (StoreIdle f depth) = false
commits (StoreLive l live f word) = false
commits (Share p) = false
commits Nothing = true
commits (Release release) = true

abbrev pub tail_counts : Tail → List Acquired → List Acquired
tail_counts (Quiesce close) xs = xs
tail_counts (Unmark f word) xs = xs
tail_counts (StoreDead life stamp) xs = xs
tail_counts (StoreFlush core stamp) xs = xs
tail_counts (StoreLive l live f word) xs = xs
tail_counts (push_tail push) xs = xs
tail_counts (pop_tail pop) xs = xs
tail_counts (StoreRunning f core depth old old_depth) xs = xs
tail_counts (StoreIdle f depth) xs = xs
tail_counts (Share p) xs = xs
tail_counts Nothing xs = rest_of xs
tail_counts (Release release) xs = rest_of xs

-- how many stores are left beside the counts
abbrev pub tail_left : Tail → ℕ
tail_left Nothing = 0
tail_left (Quiesce close) = 1
tail_left (Unmark f word) = 1
tail_left (StoreDead life stamp) = 1
tail_left (StoreFlush core stamp) = 1
tail_left (Release release) = release_left release
tail_left (StoreLive l live f word) = 2
tail_left (push_tail push) = push_left push
tail_left (pop_tail pop) = pop_left pop
tail_left (StoreRunning f core depth old old_depth) = 2
tail_left (StoreIdle f depth) = 1
tail_left (Share p) = share_left p.what p.at
