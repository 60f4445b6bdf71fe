-- Grace periods: what begins one, how a core passes it, and when what was removed may be used again.
use Rattle.std.specs.Prelude.{◌≢◌, ◌<◌, ℕ, Bool, true, false, not, ◌&&◌, ◌==◌, if◌then◌else◌, List, [], Option, Some, None, find, IsTrue}
use Rattle.std.specs.List.{list_any, range_with_len}
use Rattle.kernel_rules.specs.State.{Frame, User, Kernel, Pages, Pleaf, Grace, Thing, PlaceOf, FrameOf, NumberOf, State, put, with_core}
use Rattle.{spk_nums.specs.declared.replies.Reply.Reply, kernel_rules.specs.State.with_grace}

-- Whether two things are one.
abbrev pub same_thing : Thing → Thing → Bool
same_thing (PlaceOf f i) (PlaceOf g j) = f == g && i == j
same_thing (FrameOf f) (FrameOf g) = f == g
same_thing (NumberOf l) (NumberOf m) = l == m
same_thing _ _ = false

-- Whether a frame is a node of page maps.
abbrev pub is_paging : Frame → Bool
is_paging (Kernel Pages) = true
is_paging (Kernel Pleaf) = true
is_paging _ = false

-- Whether a frame may be reached through translations: a user frame, or a node of page maps.
abbrev pub is_translated : Frame → Bool
is_translated User = true
is_translated x = is_paging x

-- Whether a thing's grace period also waits for the flushes of all cores: a place of a page-table node, a user frame, or the
-- frame of such a node.
abbrev pub needs_flush : State → Thing → Bool
needs_flush s (PlaceOf f i) = is_paging (s.frame f)
needs_flush s (FrameOf f) = is_translated (s.frame f)
needs_flush s (NumberOf l) = false

-- The grace period of a thing as it begins in s: the cores in a call wait, and all cores are still to pass it.
abbrev pub new_grace : State → Thing → Grace
new_grace s x = record {
  waits = λ c. (s.core c).inside;
  not_passed = λ c. true;
  unflushed = λ c. needs_flush s x;
  flush_unknown = λ c. needs_flush s x;
}

-- The state `next`, in which the grace periods of these things have begun in s.
abbrev pub begun : State → List Thing → State → State
begun s things next = with_grace next (λ x. if list_any (same_thing x) things then new_grace s x else next.grace x)

-- Core c enters a call. No grace period changes.
abbrev pub entered : State → ℕ → State
entered s c = with_core s c (record (s.core c) { inside = true })

-- The grace period as core c returns from a call: from the call that it waited for, or else from one that it entered after
-- the removal; and where it has flushed since the removal, that flush has now returned.
abbrev pub passed : ℕ → Grace → Grace
passed c g = record {
  waits = put g.waits c false;
  not_passed = if g.waits c then g.not_passed else put g.not_passed c false;
  unflushed = g.unflushed;
  flush_unknown = if g.unflushed c then g.flush_unknown else put g.flush_unknown c false;
}

-- Core c returns from its call.
abbrev pub returned : State → ℕ → State
returned s c = with_grace (with_core s c (record (s.core c) { inside = false })) (λ x. passed c (s.grace x))

-- Core c flushes: it has no translation, and no grace period waits for its flush.
abbrev pub flushed : State → ℕ → State
flushed s c =
    with_grace (with_core s c (record (s.core c) { cached = [] }))
    (λ x. record (s.grace x) { unflushed = put (s.grace x).unflushed c false })

-- The lowest core in a set, if there is one.
abbrev pub lowest : State → (ℕ → Bool) → Option ℕ
lowest s set = find set (range_with_len 0 s.limits.cores)

-- A core other than c that waits.
abbrev pub other_waiting : State → ℕ → Thing → Option ℕ
other_waiting s c x = lowest s (λ e. (s.grace x).waits e && not (e == c))

-- The refusal of core c where another core waits in the grace period of a thing.
abbrev pub quiescing_by : Option ℕ → Option Reply
quiescing_by None = None
quiescing_by (Some e) = Some (Reply.Quiescing e)

-- The refusal where a core has not flushed in the grace period of a thing.
abbrev pub unflushed_by : Option ℕ → Option Reply
unflushed_by None = None
unflushed_by (Some e) = Some (Reply.Unflushed e)

-- Core e, not c, is in a call, and may still be in the grace period of a thing.
pub record MayWait (s : State) (c : ℕ) (x : Thing) (e : ℕ) : Type 0 where
  pub is_core : e < s.limits.cores
  pub other : e ≢ c
  pub is_inside : IsTrue (s.core e).inside
  pub not_passed : IsTrue ((s.grace x).not_passed e)

-- Core e may not have flushed in the grace period of a thing.
pub record MayBeUnflushed (s : State) (x : Thing) (e : ℕ) : Type 0 where
  pub is_core : e < s.limits.cores
  pub flush_unknown : IsTrue ((s.grace x).flush_unknown e)
