-- The loads of a call that gives ticks back: the head, which may be marked, and the words of its list.
use Rattle.count_invariant.specs.step_ways.proofs.{◌≡◌, ◌⊎◌, inl, inr, ℕ, zero, suc, map, ◌+◌, ◌<◌, ◌≤◌, ◌&&◌, ltb as nat_lt, Bool, true}
use Rattle.count_invariant.specs.step_ways.proofs.{false, if◌then◌else◌, List, [], ◌∷◌, Option, Some, None, arith, refl, sym, ◌∙◌, ap}
use Rattle.count_invariant.specs.step_ways.proofs.{subst, eq-eqb, ltb-false, false≢true, Setting, IsSetting, Capability, Call, HeadFits}
use Rattle.count_invariant.specs.step_ways.proofs.{word_of_head, head_of_word, quality_of_word, HeadWord, spelling, Word, EntryAt, LoadOf}
use Rattle.count_invariant.specs.step_ways.proofs.{State, head_mark, marked_by, holds_node, are_calls_spent, IsAlone, Step, Trace}
use Rattle.count_invariant.specs.step_ways.proofs.{state_after, last_left, own_read, own_read-here, own_read-there, last_left-here}
use Rattle.count_invariant.specs.step_ways.proofs.{refused_first, head, in_order, Act, Goes, Undecided, ActiveCall, landed, Core, Acquired}
use Rattle.count_invariant.specs.step_ways.proofs.{due_of, names_on, holds_counts, KnowsUndecided, read_up, Invariant, TcapOf, list_changed}
use Rattle.count_invariant.specs.step_ways.proofs.{SparesTcap, IsSome, is_some, head_end, took_refilled, refuse, Refill as refill_act}
use Rattle.count_invariant.specs.step_ways.proofs.{HasTcap, list_word, step_to, inner, core_is, loads_on, decides_on, GoodTook, ticks_at}
use Rattle.count_invariant.specs.step_ways.proofs.{not_spent, refuses_busy, plan_for, Reply, Refusal}
use Rattle.count_invariant.specs.stage_tcap.specs.{covers, QualityWord, end_by_mark, read_word, noted, from_mark, from_head, from_word}
use Rattle.count_invariant.specs.stage_tcap.specs.{next_in, weighed_at, weighed, at_word, word_end}
use Rattle.count_invariant.specs.core_invariant.specs.{KnowsRefillAt, RefillsBy, HasSeenB}
use Rattle.count_invariant.specs.act_states.specs.{Refill, Again, took_refill}
use Rattle.count_invariant.specs.core_invariant.specs.Refills.{HasReadList}
use Rattle.count_invariant.specs.kernel_history.proofs.Laws.{own_is_last, read_is_left}
use Rattle.count_invariant.specs.stage_tcap.specs.declared.refill.RefillAt.TheVariants.{Load, List as at_list, Compare}
use Rattle.count_invariant.specs.kept_facts.proofs.Pairs.{left_same, seen_on, tcap_mark}
use Rattle.pair_invariant.proofs.ShareSteps.{mark_is, head_says, list_plain}
use Rattle.pair_invariant.proofs.RefillCalls as calls
use Rattle.pair_invariant.proofs.RefillLists as lists

-- It goes on by a load of a word of its temporal capability.
refills_same : (s : State) (c : ℕ) (call : Call) (ks : List Capability) (r q : Refill) → q.tcap ≡ r.tcap → q.ticks ≡ r.ticks
    → q.left ≡ r.left → q.grant ≡ r.grant → RefillsBy s c call ks r → RefillsBy s c call ks q
refills_same s c (Call.Replenish x m) (k ∷ []) r q tcap ticks left grant is = record {
  tcap = tcap ∙ is.tcap;
  kind = is.kind;
  ticks = ticks ∙ is.ticks;
  left = left ∙ is.left;
  grant = grant ∙ is.grant;
}
refills_same s c call ks r q tcap ticks left grant is = absurd is

module _ (setup : Setting) (setting : IsSetting setup) (cores : ℕ → Core) (t : Trace) (stands : Invariant setup cores t) (c : ℕ)
    (here : c < setup.cores)
    (a : ActiveCall) (active : (cores c).active ≡ Some a) (r : Refill)
    (stage_is : a.stage ≡ Undecided (Act (refill_act r)))
    (has : KnowsUndecided setup t c (cores c).own.table a (Act (refill_act r))) where
  abbrev before : State
  before = state_after setup t

  abbrev loads : ℕ → Step
  loads i = step_to c None (LoadOf (EntryAt r.tcap i)) (last_left setup t (EntryAt r.tcap i)) None None

  pub load_goes : (i : ℕ) (q : Refill) → q.tcap ≡ r.tcap → q.ticks ≡ r.ticks → q.left ≡ r.left → q.grant ≡ r.grant
      → KnowsRefillAt setup (loads i ∷ t) c q q.at
      → GoodTook setup cores t c (LoadOf (EntryAt r.tcap i)) (landed a (Goes (Act (refill_act q))))
  load_goes i q tcap ticks left grant knows lands =
      loads_on setup setting cores t stands c here a active (LoadOf (EntryAt r.tcap i)) a.found (Undecided (Act (refill_act q)))
      (calls.loading setup setting cores t stands c here a active r stage_is has i) lands
      (sym (calls.held_is setup setting cores t stands c here a active r stage_is has))
      (calls.opens setup setting cores t stands c here a active r stage_is has)
      (λ carries. record {
        acts = has.acts;
        names = names_on setup setting t (loads i) stands.legal c a.call
            (calls.is_open setup setting cores t stands c here a active r stage_is has) carries (cores c).own.table
            (plan_for a.call) a.found has.names;
        knows = record {
          knows = record {
            refills = refills_same before c a.call a.found r q tcap ticks left grant has.knows.knows.refills;
            tcap = subst (HasTcap before c) (sym tcap) has.knows.knows.tcap;
            at = knows;
          };
          all = ap (λ (xs : List Acquired). map due_of xs)
              (sym (calls.no_counts setup setting cores t stands c here a active r stage_is has));
          goes = refl;
        };
      })

-- The load of the head.
module _ (setup : Setting) (setting : IsSetting setup) (cores : ℕ → Core) (t : Trace) (stands : Invariant setup cores t) (c : ℕ)
    (here : c < setup.cores)
    (a : ActiveCall) (active : (cores c).active ≡ Some a) (r : Refill)
    (stage_is : a.stage ≡ Undecided (Act (refill_act (record r { at = Load }))))
    (has : KnowsUndecided setup t c (cores c).own.table a (Act (refill_act (record r { at = Load })))) where
  abbrev now_r : Refill
  now_r = record r { at = Load }

  abbrev s : State
  s = state_after setup t

  abbrev at : Word
  at = EntryAt r.tcap 0

  abbrev was : ℕ
  was = last_left setup t at

  abbrev e : Step
  e = step_to c None (LoadOf at) was None None

  tcap : TcapOf (s.frame r.tcap)
  tcap = calls.tcap setup setting cores t stands c here a active now_r stage_is has

  none_some : (v : HeadWord) → None ≡ Some v → ⊥
  none_some v h = cc

  word_kept : (w : Word) → last_left setup (e ∷ t) w ≡ last_left setup t w
  word_kept w = left_same setup t e refl w (λ h. refl)

  free_good : (budget version : ℕ) → head_of_word was ≡ Some (head budget version)
      → GoodTook setup cores t c (LoadOf at) (landed a (Goes (Act (refill_act (record r { head = head budget version; at = at_list 1 })))))
  free_good budget version reads =
      let spells = spelling.spells was (head budget version) reads in
      load_goes setup setting cores t stands c here a active now_r stage_is has 0
      (record r { head = head budget version; at = at_list 1 }) refl refl refl refl (record {
        head = record {
          own = own_read-here c e t refl at refl ∙ ap (λ b. if b then Some was else None) (eq-eqb was was refl)
              ∙ ap (λ (x : ℕ). Some x) (sym spells.1);
          fits = spells.0;
          bare = refl;
        };
        seen = record {
          now = head budget version;
          shown = ap head_of_word (last_left-here setup at e t refl) ∙ reads;
          later = omega arith;
          same = λ is. inl has.knows.knows.at;
          valid = λ j low. subst IsSome (sym (ap quality_of_word (word_kept (EntryAt r.tcap (suc j)))
              ∙ list_plain setup setting cores t stands r.tcap tcap.fields tcap.is
              (mark_is setup setting cores t stands r.tcap tcap.fields tcap.is was ∙ ap head_mark reads) j low)) refl;
        };
      })

  busy_good : (d : ℕ) → marked_by setup t at ≡ Some d → GoodTook setup cores t c (LoadOf at) (landed a (refuse (Refusal.Busy d)))
  busy_good d mark =
      refuses_busy setup setting cores t stands c here a active
      (calls.opens setup setting cores t stands c here a active now_r stage_is has)
      (calls.held_is setup setting cores t stands c here a active now_r stage_is has)
      (calls.room setup setting cores t stands c here a active now_r stage_is has) (LoadOf at)
      (calls.loading setup setting cores t stands c here a active now_r stage_is has 0) (ap ticks_at stage_is) d
      (ap (λ xs. (holds_counts None xs).marks at) (calls.no_counts setup setting cores t stands c here a active now_r stage_is has)) mark
      (λ node. absurd (false≢true (ap holds_node (sym tcap.is) ∙ node)))

  by_mark : (budget version : ℕ) (mark : Option ℕ) → head_of_word was ≡ Some (record { budget = budget; mark = mark; version = version })
      → GoodTook setup cores t c (LoadOf at)
      (landed a (took_refilled (record r { head = head budget version; at = from_mark mark }) (end_by_mark mark)))
  by_mark budget version None shown = free_good budget version shown
  by_mark budget version (Some d) shown =
      busy_good d (mark_is setup setting cores t stands r.tcap tcap.fields tcap.is was ∙ ap head_mark shown)

  by_word : (o : Option HeadWord) → head_of_word was ≡ o
      → GoodTook setup cores t c (LoadOf at) (landed a (took_refilled (record r { head = noted r.head o; at = from_head o }) (head_end o)))
  by_word None shown =
      let says = (head_says setup setting cores t stands r.tcap tcap.fields tcap.is
      (mark_is setup setting cores t stands r.tcap tcap.fields tcap.is was ∙ ap head_mark shown)).says in
      absurd (none_some _ (sym shown ∙ says))
  by_word (Some v) shown = by_mark v.budget v.version v.mark shown

  pub load_good : GoodTook setup cores t c (LoadOf at) (landed a (took_refill now_r was))
  load_good = by_word (head_of_word was) refl

-- The load of a word of the list.
module _ (setup : Setting) (setting : IsSetting setup) (cores : ℕ → Core) (t : Trace) (stands : Invariant setup cores t) (c : ℕ)
    (here : c < setup.cores)
    (a : ActiveCall) (active : (cores c).active ≡ Some a) (r : Refill) (n : ℕ)
    (stage_is : a.stage ≡ Undecided (Act (refill_act (record r { at = at_list (suc n) }))))
    (has : KnowsUndecided setup t c (cores c).own.table a (Act (refill_act (record r { at = at_list (suc n) })))) where
  abbrev list_r : Refill
  list_r = record r { at = at_list (suc n) }

  abbrev s_list : State
  s_list = state_after setup t

  abbrev word_at : Word
  word_at = EntryAt r.tcap (suc n)

  abbrev found : ℕ
  found = last_left setup t word_at

  abbrev loaded : Step
  loaded = step_to c None (LoadOf word_at) found None None

  abbrev next_list : Option (List (ℕ × ℕ))
  next_list = read_word r.list (quality_of_word found)

  abbrev tcap_here : TcapOf (s_list.frame r.tcap)
  tcap_here = calls.tcap setup setting cores t stands c here a active list_r stage_is has

  spares_load : (i : ℕ) → SparesTcap setup t loaded r.tcap i
  spares_load zero = inl refl
  spares_load (suc j) = inl refl

  low : suc n ≤ 8
  low = (calls.fits setup setting cores t stands c here a active list_r stage_is has).at.1

  read : HasReadList setup t c list_r n
  read = has.knows.knows.at

  -- one word more of the list is read
  reads_more : (q : Refill) → q.tcap ≡ r.tcap → q.head ≡ r.head → q.list ≡ next_list → HasReadList setup (loaded ∷ t) c q (suc n)
  reads_more q tcap head list = record {
    head = record {
      own = ap (λ f. own_read (loaded ∷ t) c (EntryAt f 0)) tcap
          ∙ own_read-there c loaded t refl (EntryAt r.tcap 0) (λ h. absurd (apart h)) ∙ read.head.own
          ∙ ap (λ (h : HeadWord). Some (word_of_head h)) (sym head);
      fits = subst HeadFits (sym head) read.head.fits;
      bare = ap (λ (h : HeadWord). h.mark) head ∙ read.head.bare;
    };
    seen = subst (λ f. HasSeenB setup (loaded ∷ t) f q.head.version q.list (suc n)) (sym tcap)
        (subst (λ v. HasSeenB setup (loaded ∷ t) r.tcap v q.list (suc n)) (sym (ap (λ (h : HeadWord). h.version) head))
        (subst (λ xs. HasSeenB setup (loaded ∷ t) r.tcap r.head.version xs (suc n)) (sym list) seen_next));
  }
    where
      apart : EntryAt r.tcap 0 ≡ EntryAt r.tcap (suc n) → ⊥
      apart h = let same : 0 ≡ suc n = index h in omega (arith, same)
        where
          index : EntryAt r.tcap 0 ≡ EntryAt r.tcap (suc n) → 0 ≡ suc n
          index h = cc

      seen_before : HasSeenB setup (loaded ∷ t) r.tcap r.head.version r.list n
      seen_before = seen_on setup t loaded refl r.tcap r.head.version r.list n read.seen
          (tcap_mark setup t r.tcap tcap_here.fields tcap_here.is) (λ i h. spares_load i)

      seen_next : HasSeenB setup (loaded ∷ t) r.tcap r.head.version next_list (suc n)
      seen_next = record {
        now = seen_before.now;
        shown = seen_before.shown;
        later = seen_before.later;
        same = λ is. on (seen_before.same is);
        valid = seen_before.valid;
      }
        where
          on : (r.list ≡ read_up (list_word setup (loaded ∷ t) r.tcap) n)
              ⊎ ((list_changed (loaded ∷ t) r.tcap ≡ true) × IsSome seen_before.now.mark)
              → (next_list ≡ read_up (list_word setup (loaded ∷ t) r.tcap) (suc n))
              ⊎ ((list_changed (loaded ∷ t) r.tcap ≡ true) × IsSome seen_before.now.mark)
          on (inl is) = inl (ap (λ o. read_word o (quality_of_word found)) is
              ∙ ap (λ (x : ℕ). read_word (read_up (list_word setup (loaded ∷ t) r.tcap) n) (quality_of_word x))
              (sym (left_same setup t loaded refl word_at (λ h. refl))))
          on (inr is) = inr is

  -- the list is read: it covers the grant or it does not, and the core has the ticks left or is told that it has not
  abbrev known : Refill
  known = record r { list = next_list; at = at_list (suc n) }

  weighed_knows : (covered : Bool) → covers (in_order next_list) r.grant ≡ covered → (covered ≡ true → r.ticks ≤ r.left) → suc n ≡ 8
      → KnowsRefillAt setup (loaded ∷ t) c (record known { at = weighed_at covered }) (weighed_at covered)
  weighed_knows true is enough all = record {
    read = subst (HasReadList setup (loaded ∷ t) c (record known { at = Compare })) all
        (reads_more (record known { at = Compare }) refl refl refl);
    is = is;
    enough = enough;
  }
  weighed_knows false is enough all = record {
    read = subst (HasReadList setup (loaded ∷ t) c (record known { at = Again })) all
        (reads_more (record known { at = Again }) refl refl refl);
    is = is;
    enough = λ h. absurd (false≢true h);
  }

  goes : (q : Refill) → q.tcap ≡ r.tcap → q.ticks ≡ r.ticks → q.left ≡ r.left → q.grant ≡ r.grant
      → KnowsRefillAt setup (loaded ∷ t) c q q.at
      → GoodTook setup cores t c (LoadOf word_at) (landed a (Goes (Act (refill_act q))))
  goes q = load_goes setup setting cores t stands c here a active list_r stage_is has (suc n) q

  -- too few ticks are left: that is the core's own number, and where the call is alone no cause comes before it
  less_good : nat_lt r.left r.ticks ≡ true → covers (in_order next_list) r.grant ≡ true → suc n ≡ 8
      → GoodTook setup cores t c (LoadOf word_at) (landed a (refuse (Refusal.Short r.left)))
  less_good less covered all lands =
      decides_on setup setting cores t stands c here a active (LoadOf word_at) (Reply.Short r.left) a.found
      (calls.loading setup setting cores t stands c here a active list_r stage_is has (suc n)) lands
      (sym (calls.held_is setup setting cores t stands c here a active list_r stage_is has))
      (calls.opens setup setting cores t stands c here a active list_r stage_is has) refl refl (λ x. refl) (λ x. refl) refl
      (unspent, calls.short_may setup setting cores t stands c here a active list_r stage_is has less) tt
      (λ is_alone. refused_first s_list c a.call (Reply.Short r.left) has.acts unspent
      (calls.short_first setup setting cores t stands c here a active list_r stage_is has
      (sym (calls.covered_is setup setting cores t stands c here a active list_r stage_is has next_list (listed is_alone)) ∙ covered) less))
    where
      unspent : are_calls_spent s_list c ≡ false
      unspent = not_spent setup (cores c) t c (core_is setup setting cores t stands c here a active)
          (calls.room setup setting cores t stands c here a active list_r stage_is has)

      -- the list that was read is the one that stands
      listed : IsAlone t (inner setup setting cores t stands c here a active (LoadOf word_at) (Some (Reply.Short r.left)) None)
          → next_list ≡ Some tcap_here.fields.qualities
      listed is_alone =
          subst (λ (m : ℕ). next_list ≡ read_up (list_word setup t r.tcap) m) all
          (ap (λ o. read_word o (quality_of_word found)) (lists.as_read setup setting cores t stands r.tcap tcap_here.fields tcap_here.is
          r.head read.head.fits read.head.bare equal r.list n read.seen))
          ∙ lists.whole setup setting cores t stands r.tcap tcap_here.fields tcap_here.is r.head read.head.fits read.head.bare equal
        where
          equal : last_left setup t (EntryAt r.tcap 0) ≡ word_of_head r.head
          equal = own_is_last setup t c (EntryAt r.tcap 0) (word_of_head r.head) is_alone.undisturbed
              (read_is_left t c (EntryAt r.tcap 0) (word_of_head r.head) read.head.own)

  by_more : (more : Bool) → nat_lt (suc n) 8 ≡ more
      → GoodTook setup cores t c (LoadOf word_at)
      (landed a (took_refilled (record known { at = next_in more (suc n) known }) (at_word more known)))
  by_more true is =
      let same : suc (suc n) ≡ suc n + 1 = omega arith in
      goes (record known { at = at_list (suc n + 1) }) refl refl refl refl
      (subst (λ (m : ℕ). KnowsRefillAt setup (loaded ∷ t) c (record known { at = at_list (suc n + 1) }) (at_list m)) same
      (reads_more (record known { at = at_list (suc n + 1) }) refl refl refl))
  by_more false is = weighs (covers (in_order next_list) r.grant) (nat_lt r.left r.ticks) refl refl
    where
      all : suc n ≡ 8
      all = let past = ltb-false (suc n) 8 is in let below = low in omega (arith, past, below)

      weighs : (covered less : Bool) → covers (in_order next_list) r.grant ≡ covered → nat_lt r.left r.ticks ≡ less
          → GoodTook setup cores t c (LoadOf word_at)
          (landed a (took_refilled (record known { at = weighed_at covered }) (weighed (covered && less) r.left)))
      weighs true true cover less = less_good less cover all
      weighs true false cover less =
          goes (record known { at = Compare }) refl refl refl refl (weighed_knows true cover (λ h. ltb-false r.left r.ticks less) all)
      weighs false less cover few =
          goes (record known { at = Again }) refl refl refl refl (weighed_knows false cover (λ h. absurd (false≢true h)) all)

  none_quality : (v : QualityWord) → None ≡ Some v → ⊥
  none_quality v h = cc

  by_quality : (o : Option QualityWord) → quality_of_word found ≡ o
      → GoodTook setup cores t c (LoadOf word_at)
      (landed a (took_refilled (record known { at = from_word o (suc n) (next_in (nat_lt (suc n) 8) (suc n) known) })
      (word_end o (at_word (nat_lt (suc n) 8) known))))
  by_quality None shown = absurd (false≢true (ap is_some (sym shown) ∙ read.seen.valid n (let most = low in omega (arith, most))))
  by_quality (Some v) shown = by_more (nat_lt (suc n) 8) refl

  pub list_good : GoodTook setup cores t c (LoadOf word_at) (landed a (took_refill list_r found))
  list_good = by_quality (quality_of_word found) refl
