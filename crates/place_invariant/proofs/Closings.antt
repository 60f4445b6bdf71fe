-- The entry of a removal is closed and given back: the compare that marks it is lost to another core or holds it for the call, and the
-- store of a decided removal leaves the quiescing entry for which it stood.
use Rattle.count_invariant.specs.step_ways.proofs as low
use low.{as_none, counts_bare, not_exclusive_value, not_exclusive_word, exclusive_free, ◌≡◌, ◌≢◌, inl, inr, ℕ, ◌^◌, ◌<◌, ◌==◌, ◌∷◌, []}
use low.{Bool, true, false, List, Option, Some, None, arith, refl, sym, ◌∙◌, ap, subst, IsTrue, if◌then◌else◌, eqb-true, eqb-false, eq-eqb}
use low.{Capability, Setting, IsSetting, left_if, Reply, Entry, EntryFits, word_of_entry, entry_of_word, Word, EntryAt, ClockAt, same_word}
use low.{same_same, Move, CompareOf, StoreOf, left_of, Place, Free, Holds, Quiescing, PlaceOf, State, put, Slot, rule_of, is_node, put_same}
use low.{Step, Trace, Open, phase, state_after, last_left, wide_ways, target_of, is_slot_in, entry_mark, marked_by, stamp, same_word-other}
use low.{GoesBy, own_pages, Leads, LeadsIn, AtCompare, AtDraw, AtStore, Acquired, Act, Nothing, Quiesce, Undecided, Decided, ActiveCall}
use low.{StageFits, HasRoom, GoesOn, landed, went, went_with, Core, Holding, holds_counts, settled_by, settled, PlaceIs, KnowsUndecided}
use low.{phase_at, done_by, holds_at, holds_in, holds, held_by, times_of, Invariant, names_on, slot_relies, counts_on, WordIs, spares_node}
use low.{Remove as remove_act, IsOfCall, core_in_call, inner, call_is, is_active, node_mark, GoodTook, ticks_at, refuses_raced, plan_for}
use Rattle.count_invariant.proofs.{plan_leads, goes_by, footprint_way}
use Rattle.count_invariant.specs.plan_ways.specs.{NextPlace, IsTargetOf}
use Rattle.count_invariant.specs.stage_quiet.specs.{close_at, close_compared}
use Rattle.count_invariant.specs.kept_facts.proofs.{Exclusive.node_keeps_none, Exclusive.not_exclusive_after, Carries.removal_on}
use Rattle.count_invariant.specs.plan_ways.proofs.Ways.{next_on_way, target_is}
use Rattle.place_invariant.proofs.Fills.{changes_node, target_way}
use Rattle.{count_invariant.specs.kernel_history.specs.Justified.IsSlot, count_invariant.specs.entry_words.proofs.Spelling.spelling}
use Rattle.{count_invariant.specs.act_states.specs.Acts.took_close, count_invariant.specs.core_invariant.specs.Knows.IsStored}
use Rattle.{count_invariant.proofs.Acquiring.removal_places}
use low.{Places.node_says}
use Rattle.count_invariant.specs.step_ways.proofs.Counting as counters

-- The clock is no entry, and no count is one.
not_clock : (f i : ℕ) → ClockAt ≢ EntryAt f i
not_clock f i h = cc

pub no_entry : (finished : Option (Option ℕ)) (xs : List Acquired) (f i : ℕ) → (holds_counts finished xs).marks (EntryAt f i) ≡ false
no_entry finished [] f i = refl
no_entry finished (x ∷ xs) f i = no_entry finished xs f i

none_some : (d : ℕ) → None ≡ Some d → ⊥
none_some d h = cc

some_inj : (x y : ℕ) → Some x ≡ Some y → x ≡ y
some_inj x y h = cc

-- What a place's word says carries no mark, and is spelled.
record IsSpelled (x : ℕ) : Type 0 where
  unmarked : entry_mark (entry_of_word x) ≡ None
  small : x < 2 ^ 64

by_value : (v : Entry) (x : ℕ) → entry_of_word x ≡ Some v → entry_mark (Some v) ≡ None → IsSpelled x
by_value v x is bare = let spells = spelling.spells x v is in
    record { unmarked = ap entry_mark is ∙ bare; small = subst (λ (n : ℕ). n < 2 ^ 64) spells.1 (spelling.small v spells.0) }

spelled : (n : ℕ) (p : Place) (r x : ℕ) → PlaceIs n p r (entry_of_word x) → IsSpelled x
spelled n Free r x is = by_value Entry.Free x is refl
spelled n (Holds k) r x is = by_value (Entry.Held k) x is.0 refl
spelled n (Quiescing k) r x is = by_value (Entry.Quiescing r) x is.says refl

module _ (setup : Setting) (setting : IsSetting setup) (cores : ℕ → Core) (t : Trace) (stands : Invariant setup cores t) (c : ℕ)
    (here : c < setup.cores)
    (a : ActiveCall) (active : (cores c).active ≡ Some a) (node index : ℕ) where
  abbrev s : State
  s = state_after setup t

  abbrev at : Word
  at = EntryAt node index

  abbrev was : ℕ
  was = last_left setup t at

  -- The compare.
  module _ (word by : ℕ) (cap : Capability) (stage_is : a.stage ≡ Undecided (Act (remove_act (AtCompare node index word by) cap)))
      (has : KnowsUndecided setup t c (cores c).own.table a (Act (remove_act (AtCompare node index word by) cap))) where
    abbrev slot : Slot
    slot = record { node = node; index = index }

    abbrev closing : ℕ
    closing = word_of_entry (Entry.Closing by)

    abbrev compare : Move
    compare = CompareOf at word closing

    held_is : holds_in (Some a) ≡ holds_counts None a.counts
    held_is = ap (λ s. holds_at s a.counts) stage_is

    opens : phase_at a.call a.stage ≡ Open a.call
    opens = ap (phase_at a.call) stage_is

    is_open : phase t c ≡ Open a.call
    is_open = (call_is setup setting cores t stands c here a active).phase ∙ opens

    room : (cores c).own.made < (cores c).own.limit
    room = subst (HasRoom (cores c).own.made (cores c).own.limit) stage_is (is_active setup setting cores t stands c here a active).room

    fits : StageFits (cores c).own.layout (Undecided (Act (remove_act (AtCompare node index word by) cap)))
    fits = subst (StageFits (cores c).own.layout) stage_is (is_active setup setting cores t stands c here a active).stage

    leads : Leads (LeadsIn s c) (plan_for a.call).names [] a.found
    leads = plan_leads setup setting cores t stands c here a active has.names

    by_plan : GoesBy (own_pages s c) (plan_for a.call) (rule_of s c a.call)
    by_plan = goes_by setup setting cores t stands c here a active has.names

    in_node : IsTrue (is_node (s.frame node))
    in_node = (slot_relies setup setting t stands.legal c a.call is_open has.knows.knows.removal.target slot
        has.knows.knows.removal.way).node

    target_slot : target_of s c (rule_of s c a.call) ≡ Some slot
    target_slot = subst (λ x. IsTargetOf s c x (target_of s c (rule_of s c a.call))) has.knows.knows.removal.next
        (target_is s c (own_pages s c) (plan_for a.call) (rule_of s c a.call) a.found by_plan leads) ∙ has.knows.knows.removal.way.reached

    on_way : is_slot_in (wide_ways s c (rule_of s c a.call)) node index ≡ true
    on_way = next_on_way s c (own_pages s c) (plan_for a.call) (rule_of s c a.call) a.found by_plan leads has.knows.knows.removal.target
        node index
        (subst (λ x. NextPlace s c x has.knows.knows.removal.target) (sym has.knows.knows.removal.next) refl)
        (target_way s c has.knows.knows.removal.target slot has.knows.knows.removal.way.reached)

    of_call : IsOfCall setup t c a.call compare
    of_call = record {
      moves = changes_node a.call (s.frame node) (removal_places a.call has.knows.knows.removal.removes) in_node;
      footprint =
          inl (footprint_way s c a.call node index on_way);
    }

    lost : (was == word) ≡ false
        → GoodTook setup cores t c compare (landed a (took_close cap (close_at false node index word by) (close_compared false)))
    lost other =
        refuses_raced setup setting cores t stands c here a active opens held_is room compare
        (record { of_call = of_call; kept = kept; apart = λ d. refl }) (ap ticks_at stage_is)
        (record {
          at = inl (subst (λ o. IsSlot o node index) (sym target_slot) (refl, refl));
          reads = eq-eqb (left_of compare was) was kept;
          own = word;
          has_read = has.knows.knows.own;
          changed = eqb-false was word other;
        })
      where
        kept : left_of compare was ≡ was
        kept = ap (λ b. left_if b was closing) other

    module _ (equal : (was == word) ≡ true) where
      same : was ≡ word
      same = eqb-true was word equal

      leaves : left_of compare was ≡ closing
      leaves = ap (λ b. left_if b was closing) equal

      spells : EntryFits (Entry.Held cap) × (word_of_entry (Entry.Held cap) ≡ word)
      spells = spelling.spells word (Entry.Held cap) has.knows.knows.held

      unmarked : marked_by setup t at ≡ None
      unmarked = node_mark (s.frame node) index was in_node ∙ ap (λ (n : ℕ). entry_mark (entry_of_word n)) same ∙ ap entry_mark
          has.knows.knows.held

      by_fits : EntryFits (Entry.Closing by)
      by_fits = let below : c < setup.cores = here in let most = setting.most_cores in let own = has.knows.knows.core in omega arith

      abbrev next : ActiveCall
      next = went a (Undecided (Act (remove_act (AtDraw node index) cap)))

      abbrev after : Core
      after = core_in_call (cores c) (cores c).own.made next

      before : holds (cores c) ≡ holds_counts None a.counts
      before = ap holds_in active ∙ held_is

      marked : (holds after).marks at ≡ true
      marked = ap (λ b. if b then true else (holds_counts None a.counts).marks at) (same_same at)

      won : GoodTook setup cores t c compare (GoesOn next)
      won lands =
          let e : Step = inner setup setting cores t stands c here a active compare None None in
          counters.holds_on setup setting cores t stands c here a active compare next (λ b. refl) (not_clock node index) refl of_call
          lands
          (subst (λ (n : ℕ). n < 2 ^ 64) (sym leaves) (spelling.small (Entry.Closing by) by_fits))
          (λ w there. (
            ap (λ b. if b then true else (holds_counts None a.counts).marks w) (same_word-other w at there) ∙ sym
                (ap (λ h. h.marks w) before),
            ap (λ b. if b then word_of_entry (Entry.Held cap) else (holds_counts None a.counts).stands w) (same_word-other w at there) ∙
                sym (ap (λ h. h.stands w) before),
          ))
          (as_none (holds (cores c)) (holds after) at (λ f i. ap (λ h. h.bare f i) before ∙ counts_bare None a.counts f i)
          (counts_bare None a.counts))
          (node_mark (s.frame node) index (left_of compare was) in_node ∙ ap (λ (n : ℕ). entry_mark (entry_of_word n)) leaves
          ∙ ap entry_mark (spelling.reads (Entry.Closing by) by_fits) ∙ ap (λ (n : ℕ). Some n) has.knows.knows.core
          ∙ sym (ap (λ b. if b then Some c else None) marked))
          (λ b other is. none_some b (sym unmarked ∙ is))
          (ap (λ b. settled_by (if b then Some c else None) (held_by (put cores c after)) at (left_of compare was)) marked
          ∙ ap (λ k. (holds k).stands at) (put_same cores c after c refl)
          ∙ ap (λ b. if b then word_of_entry (Entry.Held cap) else (holds_counts None a.counts).stands at) (same_same at)
          ∙ spells.1 ∙ sym same ∙ sym (ap (λ o. settled_by o (held_by cores) at was) unmarked
          ∙ not_exclusive_value setup cores t stands node (node_keeps_none (s.frame node) in_node) index was))
          opens
          (λ carries. record {
            acts = has.acts;
            names = names_on setup setting t e stands.legal c a.call is_open carries (cores c).own.table (plan_for a.call) a.found
                has.names;
            knows = record {
              knows = removal_on setup setting t e stands.legal c a.call is_open carries a.call (plan_for a.call) a.found node index cap
                  has.knows.knows.removal;
              all = has.knows.all;
              goes = refl;
            };
          })
          (counts_on setup t e c a.call (λ own. refl) a.counts (call_is setup setting cores t stands c here a active).counts)
          (call_is setup setting cores t stands c here a active).apart
          (spares_node setup t e node index refl in_node)
          (exclusive_free cores e (not_exclusive_word setup cores t stands node index (node_keeps_none (s.frame node) in_node)))

    pub close_good : GoodTook setup cores t c compare (landed a
        (took_close cap (close_at (was == word) node index word by) (close_compared (was == word))))
    close_good = by_test (was == word) refl
      where
        by_test : (equal : Bool) → (was == word) ≡ equal
            → GoodTook setup cores t c compare (landed a (took_close cap (close_at equal node index word by) (close_compared equal)))
        by_test true is = won is
        by_test false is = lost is

  -- The store.
  module _ (r : Reply) (drawn : Option ℕ) (x : ℕ) (stage_is : a.stage ≡ Decided r drawn (Quiesce (AtStore node index x)))
      (has : IsStored setup t c a.call node index) where
    abbrev stored : ℕ
    stored = word_of_entry (Entry.Quiescing x)

    abbrev store : Move
    store = StoreOf at stored

    abbrev rest : Holding
    rest = holds_counts (done_by r drawn) a.counts

    holds_is : (w : Word)
        → ((holds (cores c)).marks w ≡ (if same_word w at then true else rest.marks w)) ×
        ((holds (cores c)).stands w ≡ (if same_word w at then stored else rest.stands w))
    holds_is w = (
      ap (λ h. h.marks w) (ap holds_in active ∙ ap (λ stage. holds_at stage a.counts) stage_is),
      ap (λ h. h.stands w) (ap holds_in active ∙ ap (λ stage. holds_at stage a.counts) stage_is),
    )

    own_mark : marked_by setup t at ≡ Some c
    own_mark = (stands.marks at c).kept ((holds_is at).0 ∙ ap (λ b. if b then true else rest.marks at) (same_same at))

    settles : settled setup (held_by cores) t at ≡ stored
    settles = ap (λ o. settled_by o (held_by cores) at was) own_mark ∙ (holds_is at).1 ∙ ap (λ b. if b then stored else rest.stands at)
        (same_same at)

    entry_fits : StageFits (cores c).own.layout (Decided r drawn (Quiesce (AtStore node index x)))
    entry_fits = subst (StageFits (cores c).own.layout) stage_is (is_active setup setting cores t stands c here a active).stage

    says : IsSpelled stored
    says = spelled s.limits.frames (s.place node index) (stamp setup t (PlaceOf node index)) stored
        (node_says s.limits.frames (s.frame node) (s.place node index)
        (stamp setup t (PlaceOf node index)) index stored has.relies.node
        entry_fits.1
        (subst (λ (n : ℕ). WordIs s (times_of setup t) at n) settles (stands.words at)))

    pub store_at : GoodTook setup cores t c store (GoesOn (went_with a a.counts (Decided r drawn Nothing)))
    store_at lands =
        let next : ActiveCall = went_with a a.counts (Decided r drawn Nothing) in
        let e : Step = inner setup setting cores t stands c here a active store None None in
        let after : Core = core_in_call (cores c) (cores c).own.made next in
        counters.holds_on setup setting cores t stands c here a active store next (λ b. refl) (not_clock node index) refl
        (record { moves = changes_node a.call (s.frame node) has.places has.relies.node; footprint = inr has.footprint }) lands says.small
        (λ w there. (
          sym ((holds_is w).0 ∙ ap (λ b. if b then true else rest.marks w) (same_word-other w at there)),
          sym ((holds_is w).1 ∙ ap (λ b. if b then stored else rest.stands w) (same_word-other w at there)),
        ))
        (as_none (holds (cores c)) (holds after) at
        (λ f i. ap (λ h. h.bare f i) (ap holds_in active ∙ ap (λ stage. holds_at stage a.counts) stage_is)
        ∙ counts_bare (done_by r drawn) a.counts f i) (counts_bare (done_by r drawn) a.counts))
        (node_mark (s.frame node) index stored has.relies.node ∙ says.unmarked ∙ sym
        (ap (λ b. if b then Some c else None) (no_entry (done_by r drawn) a.counts node index)))
        (λ b other is. other (sym (some_inj c b (sym own_mark ∙ is))))
        (ap (λ b. settled_by (if b then Some c else None) (held_by (put cores c after)) at stored)
        (no_entry (done_by r drawn) a.counts node index)
        ∙ not_exclusive_after setup cores t stands c after node index (node_keeps_none (s.frame node) has.relies.node)
        (counts_bare (done_by r drawn) a.counts node index) stored ∙ sym settles)
        (ap (phase_at a.call) stage_is)
        (λ carries. tt)
        (counts_on setup t e c a.call (λ own. refl) a.counts (call_is setup setting cores t stands c here a active).counts)
        (call_is setup setting cores t stands c here a active).apart
        (spares_node setup t e node index refl has.relies.node)
        (exclusive_free cores e (not_exclusive_word setup cores t stands node index (node_keeps_none (s.frame node) has.relies.node)))
