-- What the words of two temporal capabilities say, and the ways in which a call on them goes on by a load, or is decided by one.
use Rattle.count_invariant.specs.step_ways.proofs.{◌≡◌, inl, inr, ℕ, suc, ◌+◌, ◌<◌, Bool, true, false, if◌then◌else◌, List, [], ◌∷◌, Some}
use Rattle.count_invariant.specs.step_ways.proofs.{None, IsTrue, map, slice_get, arith, refl, sym, ◌∙◌, ap, subst, ne_eqb, Setting}
use Rattle.count_invariant.specs.step_ways.proofs.{IsSetting, Capability, Call, Reply, Value, HeadFits, word_of_head, head_of_word}
use Rattle.count_invariant.specs.step_ways.proofs.{quality_of_word, HeadWord, spelling, Word, EntryAt, Move, LoadOf, word_of, left_of}
use Rattle.count_invariant.specs.step_ways.proofs.{same_same, Kernel, Tcap, TcapFields, PlaceOf, Thing, State, IsGuarded, state_by, begins}
use Rattle.count_invariant.specs.step_ways.proofs.{ends, flushes, counted, MayReply, calls_counted, alone, IsAlone, IsInFootprint}
use Rattle.count_invariant.specs.step_ways.proofs.{is_one_of, footprint_frames, IsJustified, mark_of, mark_in_frame, head_mark, marked_by}
use Rattle.count_invariant.specs.step_ways.proofs.{stamp, Step, Trace, Open, phase, state_after, last_left, state_decided_in, WasAt}
use Rattle.count_invariant.specs.step_ways.proofs.{was_stays, marked, Pair, StoreA, PairWork, Acquired, Act, Goes, Undecided, Decided}
use Rattle.count_invariant.specs.step_ways.proofs.{ActiveCall, landed, Core, holds_counts, settled_by, settled, HeadIs, IsFrameWord, due_of}
use Rattle.count_invariant.specs.step_ways.proofs.{KnowsUndecided, phase_at, HasTcap, SharesBy, KnowsPairAt, holds_share, holds_in, held_by}
use Rattle.count_invariant.specs.step_ways.proofs.{Invariant, names_on, counted_refs, not_exclusive_head_value, done_by, holds_head}
use Rattle.count_invariant.specs.step_ways.proofs.{holds_shared, KnowsStoresAt, list_changed, Share as share_act, OnlyLooks, Lands, step_to}
use Rattle.count_invariant.specs.step_ways.proofs.{next_at, core_in_call, inner, loads_on, decides_with, GoodTook, IsGood, plan_for}
use Rattle.count_invariant.specs.core_invariant.specs.{HasMarkedA, KnowsShared, IsShared}
use Rattle.count_invariant.specs.kept_facts.proofs.{Pairs.marked_on, Exclusive.not_exclusive_list_value}
use Rattle.count_invariant.specs.act_states.specs.declared.work.Tail.TheVariants.{Share as share_tail}
use Rattle.count_invariant.specs.core_invariant.proofs.ActBares.{open_bare}
use Rattle.pair_invariant.proofs.ShareCalls as calls

-- Which call it is does not depend on how far it has come.
shared_same : (a b : Capability) (what : PairWork) (p q : Pair) → q.a ≡ p.a → q.b ≡ p.b → q.what ≡ p.what → IsShared a b what p
    → IsShared a b what q
shared_same a b what p q first second work is = record {
  first = first ∙ is.first;
  second = second ∙ is.second;
  first_kind = is.first_kind;
  second_kind = is.second_kind;
  differ = is.differ;
  work = work ∙ is.work;
}

pub shares_same : (call : Call) (ks : List Capability) (p q : Pair) → q.a ≡ p.a → q.b ≡ p.b → q.what ≡ p.what → SharesBy call ks p
    → SharesBy call ks q
shares_same (Call.Transfer x y m) (a ∷ b ∷ []) p q first second work is = shared_same a b (PairWork.Transfer m) p q first second work is
shares_same (Call.Delegate x y m) (a ∷ b ∷ []) p q first second work is = shared_same a b (PairWork.Delegate m) p q first second work is
shares_same (Call.Test x y) (a ∷ b ∷ []) p q first second work is = shared_same a b PairWork.Test p q first second work is
shares_same call ks p q first second work is = absurd is

-- What holds now is at a moment of an open call.
pub now_was : (P : State → Type 0) (setup : Setting) (t : Trace) (c : ℕ) (call : Call) → phase t c ≡ Open call → P (state_after setup t)
    → WasAt P setup t c
now_was P setup [] c call is now = absurd (cc)
now_was P setup (e ∷ t) c call is now = inl now

-- A call that is counted leaves the temporal capabilities and those that guard them.
pub counted_tcap : (s : State) (c f : ℕ) → HasTcap s c f → HasTcap (counted s c) c f
counted_tcap s c f has = record { tcap = has.tcap; guarded = by has.guarded }
  where
    by : IsGuarded s c f → IsGuarded (counted s c) c f
    by (inl some) = inl (subst (λ (n : ℕ). 0 < n) (sym (counted_refs s c f)) some)
    by (inr waits) = inr waits

module _ (setup : Setting) (setting : IsSetting setup) (cores : ℕ → Core) (t : Trace) (stands : Invariant setup cores t) where
  abbrev s : State
  s = state_after setup t

  module _ (f : ℕ) (q : TcapFields) (is : s.frame f ≡ Kernel (Tcap q)) where
    pub mark_is : (x : ℕ) → mark_of s (EntryAt f 0) x ≡ head_mark (head_of_word x)
    mark_is x = ap (λ y. mark_in_frame y 0 x) is

    -- the head of one that no core has marked
    pub head_says : marked_by setup t (EntryAt f 0) ≡ None → HeadIs q (head_of_word (last_left setup t (EntryAt f 0)))
    head_says bare =
        subst (λ (n : ℕ). HeadIs q (head_of_word n))
        (not_exclusive_head_value setup cores t stands f q is (last_left setup t (EntryAt f 0)))
        (subst (λ o. HeadIs q
        (head_of_word (settled_by o (held_by cores) (EntryAt f 0) (last_left setup t (EntryAt f 0))))) bare
        (subst (λ x. IsFrameWord s.limits.frames x (s.place f 0) (stamp setup t (PlaceOf f 0)) 0
        (settled setup (held_by cores) t (EntryAt f 0))) is (stands.words (EntryAt f 0))))

    -- that of one that core d has marked stands for a head
    pub marked_says : (d : ℕ) → marked_by setup t (EntryAt f 0) ≡ Some d
        → HeadIs q (head_of_word ((held_by cores d).stands (EntryAt f 0)))
    marked_says d mark =
        subst (λ o. HeadIs q
        (head_of_word (settled_by o (held_by cores) (EntryAt f 0) (last_left setup t (EntryAt f 0))))) mark
        (subst (λ x. IsFrameWord s.limits.frames x (s.place f 0) (stamp setup t (PlaceOf f 0)) 0
        (settled setup (held_by cores) t (EntryAt f 0))) is (stands.words (EntryAt f 0)))

    -- the words of its list
    pub list_bare : (j x : ℕ) → mark_of s (EntryAt f (suc j)) x ≡ None
    list_bare j x = ap (λ y. mark_in_frame y (suc j) x) is
        ∙ ap (λ b. if b then head_mark (head_of_word x) else None) (ne_eqb (suc j) 0 (λ h. absurd (omega (arith, h))))

    -- of which none is kept without a mark by the core that has marked the head
    pub list_says : (j : ℕ) → j < 8
        → ((d : ℕ) → marked_by setup t (EntryAt f 0) ≡ Some d → (held_by cores d).bare f (suc j) ≡ None)
        → quality_of_word (last_left setup t (EntryAt f (suc j))) ≡ Some (record { 0 = slice_get q.qualities j })
    list_says j low marker =
        subst (λ (n : ℕ). quality_of_word n ≡ Some (record { 0 = slice_get q.qualities j }))
        (not_exclusive_list_value setup cores t stands f q is (suc j) (last_left setup t (EntryAt f (suc j)))
        (λ d some mark. marker d mark))
        (subst (λ o. quality_of_word (settled_by o (held_by cores) (EntryAt f (suc j)) (last_left setup t (EntryAt f (suc j))))
        ≡ Some (record { 0 = slice_get q.qualities j })) (list_bare j (last_left setup t (EntryAt f (suc j))))
        (subst (λ x. IsFrameWord s.limits.frames x (s.place f (suc j)) (stamp setup t (PlaceOf f (suc j))) (suc j)
        (settled setup (held_by cores) t (EntryAt f (suc j)))) is (stands.words (EntryAt f (suc j))) low))

    -- so no core has that
    pub list_plain : marked_by setup t (EntryAt f 0) ≡ None → (j : ℕ) → j < 8
        → quality_of_word (last_left setup t (EntryAt f (suc j))) ≡ Some (record { 0 = slice_get q.qualities j })
    list_plain bare j low = list_says j low (λ d mark. absurd (not_none d (sym bare ∙ mark)))
      where
        not_none : (d : ℕ) → None ≡ Some d → ⊥
        not_none d h = cc

-- The steps of the call.
module _ (setup : Setting) (setting : IsSetting setup) (cores : ℕ → Core) (t : Trace) (stands : Invariant setup cores t) (c : ℕ)
    (here : c < setup.cores)
    (a : ActiveCall) (active : (cores c).active ≡ Some a) (p : Pair) (stage_is : a.stage ≡ Undecided (Act (share_act p)))
    (has : KnowsUndecided setup t c (cores c).own.table a (Act (share_act p))) where
  abbrev before : State
  before = state_after setup t

  opens_at : phase_at a.call a.stage ≡ Open a.call
  opens_at = calls.opens setup setting cores t stands c here a active p stage_is has

  open_now : phase t c ≡ Open a.call
  open_now = calls.is_open setup setting cores t stands c here a active p stage_is has

  pub loading : (f i : ℕ) → is_one_of f (footprint_frames before c a.call) ≡ true → OnlyLooks setup t c a.call (LoadOf (EntryAt f i))
  loading f i footprint = record { of_call = record { moves = refl; footprint = inl footprint }; kept = refl; apart = λ d. refl }

  -- it goes on by a load
  pub load_goes : (f i : ℕ) → is_one_of f (footprint_frames before c a.call) ≡ true → (q : Pair) → q.a ≡ p.a → q.b ≡ p.b → q.what ≡ p.what
      → q.core ≡ p.core
      → holds_share q q.at (holds_counts None a.counts) ≡ holds_share p p.at (holds_counts None a.counts)
      → KnowsPairAt setup (step_to c None (LoadOf (EntryAt f i)) (last_left setup t (EntryAt f i)) None None ∷ t) c q q.at
      → GoodTook setup cores t c (LoadOf (EntryAt f i)) (landed a (Goes (Act (share_act q))))
  load_goes f i footprint q first second work core holds_same knows lands =
      let e : Step = step_to c None (LoadOf (EntryAt f i)) (last_left setup t (EntryAt f i)) None None in
      loads_on setup setting cores t stands c here a active (LoadOf (EntryAt f i)) a.found (Undecided (Act (share_act q)))
      (loading f i footprint) lands
      (holds_same ∙ sym (calls.held_is setup setting cores t stands c here a active p stage_is has)) opens_at
      (λ carries. record {
        acts = has.acts;
        names = names_on setup setting t e stands.legal c a.call open_now carries (cores c).own.table (plan_for a.call) a.found has.names;
        knows = record {
          knows = record {
            shares = shares_same a.call a.found p q first second work has.knows.knows.shares;
            core = core ∙ has.knows.knows.core;
            tcap_a = subst (HasTcap before c) (sym first) has.knows.knows.tcap_a;
            tcap_b = subst (HasTcap before c) (sym second) has.knows.knows.tcap_b;
            at = knows;
          };
          all = ap (λ (xs : List Acquired). map due_of xs)
              (sym (calls.no_counts setup setting cores t stands c here a active p stage_is has));
          goes = refl;
        };
      })

  -- From when head A is marked.
  module _ (n : ℕ) (marked_a : HasMarkedA setup t p n)
      (held : holds_in (Some a) ≡ holds_head p false (holds_counts None a.counts)) where
    abbrev at_a : Word
    at_a = EntryAt p.a 0

    pub own_mark : marked_by setup t at_a ≡ Some c
    own_mark = (stands.marks at_a c).kept
        (ap (λ h. h.marks at_a) (ap holds_in active ∙ held)
        ∙ ap (λ b. if b then true else (holds_counts None a.counts).marks at_a) (same_same at_a))

    stands_it : (held_by cores c).stands at_a ≡ word_of_head p.head_a
    stands_it = ap (λ h. h.stands at_a) (ap holds_in active ∙ held)
        ∙ ap (λ b. if b then word_of_head p.head_a else (holds_counts None a.counts).stands at_a) (same_same at_a)

    abbrev fields_a : TcapFields
    fields_a = (calls.tcap_a setup setting cores t stands c here a active p stage_is has).fields

    -- the head that it was found with is A's
    pub a_says : HeadIs fields_a (Some p.head_a)
    a_says = subst (HeadIs fields_a)
        (ap head_of_word stands_it ∙ spelling.reads p.head_a marked_a.fits)
        (marked_says setup setting cores t stands p.a fields_a
        (calls.tcap_a setup setting cores t stands c here a active p stage_is has).is c own_mark)

    -- and so are the words of its list
    pub a_list : (j : ℕ) → j < 8
        → quality_of_word (last_left setup t (EntryAt p.a (suc j))) ≡ Some (record { 0 = slice_get fields_a.qualities j })
    a_list j low =
        list_says setup setting cores t stands p.a fields_a
        (calls.tcap_a setup setting cores t stands c here a active p stage_is has).is j low
        (λ d mark. subst (λ (b : ℕ). (held_by cores b).bare p.a (suc j) ≡ None) (same_core d (sym own_mark ∙ mark))
        (ap (λ o. (holds_in o).bare p.a (suc j)) active ∙ open_bare a a.call opens_at p.a (suc j)))
      where
        same_core : (d : ℕ) → Some c ≡ Some d → c ≡ d
        same_core d h = cc

    same_head : (v u : HeadWord) → Some v ≡ Some u → v ≡ u
    same_head v u h = cc

    pub budget_a : p.head_a.budget ≡ fields_a.budget
    budget_a = ap (λ v. v.budget) (same_head _ _ a_says.says)

    -- where the call is decided by a step that leaves A's words, the head of A is still to be stored
    pub stores_a : (e : Step) → e.core ≡ c → e.enters ≡ None → e.found ≡ last_left setup t (word_of e.move)
        → ((i : ℕ) → EntryAt p.a i ≡ word_of e.move → left_of e.move e.found ≡ e.found)
        → HasTcap (state_after setup (e ∷ t)) c p.a
        → (q : Pair) (moved : Bool) (v : Value) → q.a ≡ p.a → q.core ≡ p.core → q.head_a ≡ p.head_a → q.at ≡ StoreA moved v
        → KnowsShared setup (e ∷ t) c a.call q
    stores_a e own no_entry found_is kept tcap q moved v first core head at_is =
        let on = marked_on setup t e found_is p n kept marked_a in record {
          budgets = (calls.is setup setting cores t stands c here a active p stage_is has).budgets;
          core = core ∙ has.knows.knows.core;
          footprint = was_stays (IsInFootprint c a.call (EntryAt q.a 0)) setup t e c (λ same. no_entry)
              (now_was (IsInFootprint c a.call (EntryAt q.a 0)) setup t c a.call open_now
              (subst (λ (f : ℕ). IsTrue (is_one_of f (footprint_frames before c a.call))) (sym first)
              (calls.footprint_a setup setting cores t stands c here a active p stage_is has)));
          tcap_a = subst (HasTcap (state_after setup (e ∷ t)) c) (sym first) tcap;
          at = subst (KnowsStoresAt setup (e ∷ t) c a.call q) (sym at_is) (record {
            raw = ap (λ (f : ℕ). last_left setup (e ∷ t) (EntryAt f 0)) first ∙ on.raw
                ∙ ap (λ (b : ℕ). word_of_head (marked b p.head_a)) (sym core) ∙ ap (λ h. word_of_head (marked q.core h)) (sym head);
            fits = subst HeadFits (sym head) marked_a.fits;
            bare = ap (λ h. h.mark) head ∙ marked_a.bare;
            clean = ap (list_changed (e ∷ t)) first ∙ on.clean;
          });
        }

    -- it is decided by a load, or by a lost compare, and head A is given back
    pub load_decides : (move : Move) → OnlyLooks setup t c a.call move → (r : Reply) (q : Pair) (v : Value)
        → q.a ≡ p.a → q.core ≡ p.core → q.head_a ≡ p.head_a → q.at ≡ StoreA false v
        → holds_shared q q.at
        (holds_counts (done_by r None) a.counts)
        ≡ holds_in (Some a)
        → state_by before c a.call r ≡ counted before c → calls_counted r ≡ 1
        → ((x : Thing) → begins before c a.call r x ≡ false) → ((x : Thing) → ends a.call r x ≡ false) → flushes a.call r ≡ false
        → MayReply before c a.call r → IsJustified setup t (inner setup setting cores t stands c here a active move (Some r) None) a.call r
        → (IsAlone t (inner setup setting cores t stands c here a active move (Some r) None) → r ≡ alone before c a.call)
        → Lands setup (core_in_call (cores c) ((cores c).own.made + calls_counted r) (next_at a a.found (Decided r None (share_tail q))))
        (word_of move)
        → IsGood setup cores t (inner setup setting cores t stands c here a active move (Some r) None)
        (core_in_call (cores c) ((cores c).own.made + calls_counted r) (next_at a a.found (Decided r None (share_tail q))))
    load_decides move looks r q v first core head at_is held_so state one none_begins none_ends no_flush permitted justified answers lands =
        let e : Step = inner setup setting cores t stands c here a active move (Some r) None in
        let now : state_after setup (e ∷ t) ≡ counted before c = ap (λ x. state_decided_in x r before c) open_now ∙ state in
        decides_with setup setting cores t stands c here a active move r (share_tail q) a.found looks lands held_so opens_at state one
        none_begins none_ends no_flush permitted justified answers
        (stores_a e refl refl refl (λ i at. looks.kept)
        (subst (λ x. HasTcap x c p.a) (sym now) (counted_tcap before c p.a has.knows.knows.tcap_a)) q false v first core head at_is)
