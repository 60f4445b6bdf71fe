-- The load of the head of the second of two temporal capabilities, and the loads of its list.
use Rattle.count_invariant.specs.step_ways.proofs.{◌≡◌, ◌≢◌, ◌⊎◌, inl, inr, ℕ, zero, suc, ◌+◌, ◌<◌, ltb as nat_lt, Bool, true, false}
use Rattle.count_invariant.specs.step_ways.proofs.{if◌then◌else◌, List, ◌∷◌, Option, Some, None, arith, refl, sym, ◌∙◌, ap, subst, eq-eqb}
use Rattle.count_invariant.specs.step_ways.proofs.{ltb-false, false≢true, Setting, IsSetting, Capability, Call, head_of_word}
use Rattle.count_invariant.specs.step_ways.proofs.{quality_of_word, HeadWord, spelling, Word, EntryAt, LoadOf, State, counted, rule_of}
use Rattle.count_invariant.specs.step_ways.proofs.{head_mark, marked_by, holds_node, Step, Trace, state_after, last_left, not_inside}
use Rattle.count_invariant.specs.step_ways.proofs.{same_word-other, own_read-here, own_read-there, last_left-here, head, in_order}
use Rattle.count_invariant.specs.step_ways.proofs.{same_list, judged, by_alike, by_room, Pair, PairAt, LoadB, ListB, PairWork, Act, Goes}
use Rattle.count_invariant.specs.step_ways.proofs.{took_shared, took_share, Undecided, ActiveCall, landed, Core, Holding, holds_counts}
use Rattle.count_invariant.specs.step_ways.proofs.{KnowsUndecided, read_up, SparesTcap, HasBoth, SharesBy, KnowsPairAt, holds_in}
use Rattle.count_invariant.specs.step_ways.proofs.{holds_head, holds_share, held_by, Invariant, marker_inside, TcapOf, list_changed, IsSome}
use Rattle.count_invariant.specs.step_ways.proofs.{is_some, Share as share_act, list_word, step_to, inner, core_is, GoodTook, not_spent}
use Rattle.count_invariant.specs.step_ways.proofs.{Reply, Value}
use Rattle.count_invariant.specs.stage_tcap.specs.{giving_back, QualityWord, read_word, at_by_mark, at_by_head, at_read, b_next, b_end}
use Rattle.count_invariant.specs.stage_tcap.specs.{decided_by_mark, noted, list_end, whole_b}
use Rattle.count_invariant.specs.core_invariant.specs.{HasMarkedA, HasSeenB}
use Rattle.count_invariant.specs.kernel_history.specs.{owed_by, IsHeldUp}
use Rattle.count_invariant.specs.kept_facts.proofs.{marked_on, left_same}
use Rattle.count_invariant.specs.stage_tcap.specs.Pairs.{read_b, grows_to, read_grows, by_preempting}
use Rattle.count_invariant.specs.stage_tcap.specs.declared.pair.PairWork.TheVariants.{Transfer, Delegate, Test}
use Rattle.count_invariant.specs.core_invariant.specs.Shares.{ReadsHead}
use Rattle.count_invariant.specs.kept_facts.proofs.Pairs.{seen_on, tcap_mark}
use Rattle.count_invariant.specs.quality_lists.specs.spk_nums.specs.Merging.{preempts_by}
use Rattle.pair_invariant.proofs.ShareSteps.{mark_is, head_says, list_plain, loading, load_goes, load_decides}
use Rattle.pair_invariant.proofs.ShareCalls as calls

-- Such a call charges no ticks.
pub owes_share : (s : State) (c : ℕ) (call : Call) (ks : List Capability) (p : Pair) → SharesBy call ks p → owed_by s c call ≡ s
owes_share s c (Call.Transfer x y m) ks p is = refl
owes_share s c (Call.Delegate x y m) ks p is = refl
owes_share s c (Call.Test x y) ks p is = refl
owes_share s c call ks p is = absurd is

-- What is known of A does not depend on what is known of B.
pub marked_also : (setup : Setting) (t : Trace) (p : Pair) (n : ℕ) (h : HeadWord) (list : Option (List (ℕ × ℕ))) (grows : Bool)
    (at : PairAt) → HasMarkedA setup t p n → HasMarkedA setup t (record p { head_b = h; list_b = list; grows = grows; at = at }) n
marked_also setup t p n h list grows at has = record {
  raw = has.raw;
  fits = has.fits;
  bare = has.bare;
  enough = has.enough;
  list = has.list;
  clean = has.clean;
}

-- What the lists lead to.
judged_same : (what : PairWork) (p q : Pair) → q.head_a ≡ p.head_a → q.head_b ≡ p.head_b → q.list_a ≡ p.list_a → q.list_b ≡ p.list_b
    → judged what q ≡ judged what p
judged_same (Transfer m) p q first second list_a list_b =
    ap (λ xs. by_alike (same_list (in_order xs) (in_order q.list_b))) list_a
    ∙ ap (λ xs. by_alike (same_list (in_order p.list_a) (in_order xs))) list_b
judged_same (Delegate m) p q first second list_a list_b = ap by_room list_b
judged_same Test p q first second list_a list_b =
    ap (λ h. by_preempting
    (preempts_by h.budget (in_order q.list_a) q.head_b.budget (in_order q.list_b))) first
    ∙ ap (λ h. by_preempting
    (preempts_by p.head_a.budget (in_order q.list_a) h.budget (in_order q.list_b))) second
    ∙ ap (λ xs. by_preempting
    (preempts_by p.head_a.budget (in_order xs) p.head_b.budget (in_order q.list_b))) list_a
    ∙ ap (λ xs. by_preempting
    (preempts_by p.head_a.budget (in_order p.list_a) p.head_b.budget (in_order xs))) list_b

record IsJudged (setup : Setting) (t : Trace) (c : ℕ) (q : Pair) (h : Holding) (at : PairAt) : Type 0 where
  holds_same : holds_share q at h ≡ holds_head q false h
  knows : HasBoth setup t c q at → KnowsPairAt setup t c q at

is_judged : (setup : Setting) (t : Trace) (c : ℕ) (q : Pair) (h : Holding) (what : PairWork) (p : Pair)
    → IsJudged setup t c q h (judged what p)
is_judged setup t c q h (Transfer m) p = by (same_list (in_order p.list_a) (in_order p.list_b))
  where
    by : (b : Bool) → IsJudged setup t c q h (by_alike b)
    by true = record { holds_same = refl; knows = λ has. has }
    by false = record { holds_same = refl; knows = λ has. has }
is_judged setup t c q h (Delegate m) p = by p.list_b
  where
    by : (o : Option (List (ℕ × ℕ))) → IsJudged setup t c q h (by_room o)
    by None = record { holds_same = refl; knows = λ has. has }
    by (Some xs) = record { holds_same = refl; knows = λ has. has }
is_judged setup t c q h Test p = record { holds_same = refl; knows = λ has. has }

module _ (setup : Setting) (setting : IsSetting setup) (cores : ℕ → Core) (t : Trace) (stands : Invariant setup cores t) (c : ℕ)
    (here : c < setup.cores)
    (a : ActiveCall) (active : (cores c).active ≡ Some a) (p : Pair)
    (stage_is : a.stage ≡ Undecided (Act (share_act (record p { at = LoadB }))))
    (has : KnowsUndecided setup t c (cores c).own.table a (Act (share_act (record p { at = LoadB })))) where
  abbrev now_p : Pair
  now_p = record p { at = LoadB }

  abbrev s : State
  s = state_after setup t

  abbrev at : Word
  at = EntryAt p.b 0

  abbrev was : ℕ
  was = last_left setup t at

  abbrev e : Step
  e = step_to c None (LoadOf at) was None None

  tcap : TcapOf (s.frame p.b)
  tcap = calls.tcap_b setup setting cores t stands c here a active now_p stage_is has

  held : holds_in (Some a) ≡ holds_head now_p false (holds_counts None a.counts)
  held = calls.held_is setup setting cores t stands c here a active now_p stage_is has

  none_some : (v : HeadWord) → None ≡ Some v → ⊥
  none_some v h = cc

  word_kept : (w : Word) → last_left setup (e ∷ t) w ≡ last_left setup t w
  word_kept w = left_same setup t e refl w (λ h. refl)

  free_good : (budget version : ℕ) → head_of_word was ≡ Some (head budget version)
      → GoodTook setup cores t c (LoadOf at) (landed a (Goes (Act (share_act (record p { head_b = head budget version; at = ListB 1 })))))
  free_good budget version reads =
      let spells = spelling.spells was (head budget version) reads in
      load_goes setup setting cores t stands c here a active now_p stage_is has p.b 0
      (calls.footprint_b setup setting cores t stands c here a active now_p stage_is has)
      (record p { head_b = head budget version; at = ListB 1 }) refl refl refl refl refl (
        marked_also setup (e ∷ t) now_p 8 (head budget version) p.list_b p.grows (ListB 1)
            (marked_on setup t e refl now_p 8 (λ i h. refl) has.knows.knows.at.0),
        record {
          head = record {
            own = own_read-here c e t refl at refl ∙ ap (λ b. if b then Some was else None) (eq-eqb was was refl)
                ∙ ap (λ (x : ℕ). Some x) (sym spells.1);
            fits = spells.0;
            bare = refl;
          };
          seen = record {
            now = head budget version;
            shown = ap head_of_word (last_left-here setup at e t refl) ∙ reads;
            later = omega arith;
            same = λ is. inl has.knows.knows.at.1;
            valid = λ j low. subst IsSome (sym (ap quality_of_word (word_kept (EntryAt p.b (suc j)))
                ∙ list_plain setup setting cores t stands p.b tcap.fields tcap.is
                (mark_is setup setting cores t stands p.b tcap.fields tcap.is was ∙ ap head_mark reads) j low)) refl;
          };
        },
      )

  busy_good : (d : ℕ) → marked_by setup t at ≡ Some d
      → GoodTook setup cores t c (LoadOf at)
      (landed a (took_shared (record p { head_b = noted p.head_b (head_of_word was); at = giving_back }) (decided_by_mark (Some d))))
  busy_good d mark lands =
      let is = has.knows.knows.shares in
      load_decides setup setting cores t stands c here a active now_p stage_is has 8 has.knows.knows.at.0 held (LoadOf at)
      (loading setup setting cores t stands c here a active now_p stage_is has p.b 0
      (calls.footprint_b setup setting cores t stands c here a active now_p stage_is has)) (Reply.Busy d)
      (record p { head_b = noted p.head_b (head_of_word was); at = giving_back }) Value.Nothing refl refl refl refl (sym held)
      (ap (λ x. counted x c) (owes_share s c a.call a.found now_p is)) refl (λ x. refl) (λ x. refl) refl (
        not_spent setup (cores c) t c (core_is setup setting cores t stands c here a active)
            (calls.room setup setting cores t stands c here a active now_p stage_is has),
        tt,
      ) blocked
      (λ is_alone. absurd (not_inside setup t
      (inner setup setting cores t stands c here a active (LoadOf at) (Some (Reply.Busy d)) None) refl
      is_alone d blocked.other blocked.is_inside)) lands
    where
      apart : at ≢ EntryAt p.a 0
      apart h = calls.differ setup setting cores t stands c here a active now_p stage_is has (sym (frame_is h))
        where
          frame_is : EntryAt p.b 0 ≡ EntryAt p.a 0 → p.b ≡ p.a
          frame_is h = cc

      no_mark : (holds_in (Some a)).marks at ≡ false
      no_mark = ap (λ h. h.marks at) held
          ∙ ap (λ b. if b then true else (holds_counts None a.counts).marks at) (same_word-other at (EntryAt p.a 0) apart)
          ∙ ap (λ xs. (holds_counts None xs).marks at) (calls.no_counts setup setting cores t stands c here a active now_p stage_is has)

      blocked : IsHeldUp setup t (inner setup setting cores t stands c here a active (LoadOf at) (Some (Reply.Busy d)) None) s
          (rule_of s c a.call) d
      blocked = record {
        marked = mark;
        other = λ own. false≢true (sym (ap (λ h. h.marks at) (ap (λ (k : ℕ). held_by cores k) own ∙ ap holds_in active) ∙ no_mark)
            ∙ (stands.marks at d).owned mark);
        is_inside = marker_inside setup cores t stands at d mark;
        has_marked = stands.marked at d mark;
        on_way = λ node. absurd (false≢true (ap holds_node (sym tcap.is) ∙ node));
      }

  by_mark : (budget version : ℕ) (mark : Option ℕ) → head_of_word was ≡ Some (record { budget = budget; mark = mark; version = version })
      → GoodTook setup cores t c (LoadOf at)
      (landed a (took_shared (record p { head_b = head budget version; at = at_by_mark (ListB 1) giving_back mark })
      (decided_by_mark mark)))
  by_mark budget version None shown = free_good budget version shown
  by_mark budget version (Some d) shown =
      subst (λ (h : HeadWord). GoodTook setup cores t c (LoadOf at)
      (landed a (took_shared (record p { head_b = h; at = giving_back }) (decided_by_mark (Some d)))))
      (ap (noted p.head_b) shown)
      (busy_good d (mark_is setup setting cores t stands p.b tcap.fields tcap.is was ∙ ap head_mark shown))

  by_word : (o : Option HeadWord) → head_of_word was ≡ o
      → GoodTook setup cores t c (LoadOf at)
      (landed a (took_shared (record p { head_b = noted p.head_b o; at = at_by_head (ListB 1) giving_back o }) (b_end o)))
  by_word None shown =
      let says = (head_says setup setting cores t stands p.b tcap.fields tcap.is
      (mark_is setup setting cores t stands p.b tcap.fields tcap.is was ∙ ap head_mark shown)).says in
      absurd (none_some _ (sym shown ∙ says))
  by_word (Some v) shown = by_mark v.budget v.version v.mark shown

  pub load_b_good : GoodTook setup cores t c (LoadOf at) (landed a (took_share now_p was))
  load_b_good = by_word (head_of_word was) refl

-- The load of a word of list B.
module _ (setup : Setting) (setting : IsSetting setup) (cores : ℕ → Core) (t : Trace) (stands : Invariant setup cores t) (c : ℕ)
    (here : c < setup.cores)
    (a : ActiveCall) (active : (cores c).active ≡ Some a) (p : Pair) (n : ℕ)
    (stage_is : a.stage ≡ Undecided (Act (share_act (record p { at = ListB (suc n) }))))
    (has : KnowsUndecided setup t c (cores c).own.table a (Act (share_act (record p { at = ListB (suc n) })))) where
  abbrev list_p : Pair
  list_p = record p { at = ListB (suc n) }

  abbrev word_at : Word
  word_at = EntryAt p.b (suc n)

  abbrev found : ℕ
  found = last_left setup t word_at

  abbrev loads : Step
  loads = step_to c None (LoadOf word_at) found None None

  low : n < 8
  low = let fits = (calls.fits setup setting cores t stands c here a active list_p stage_is has).at.1 in omega (arith, fits)

  tcap_here : TcapOf ((state_after setup t).frame p.b)
  tcap_here = calls.tcap_b setup setting cores t stands c here a active list_p stage_is has

  abbrev next_list : Option (List (ℕ × ℕ))
  next_list = read_word p.list_b (quality_of_word found)

  spares_load : (i : ℕ) → SparesTcap setup t loads p.b i
  spares_load zero = inl refl
  spares_load (suc j) = inl refl

  seen_before : HasSeenB setup (loads ∷ t) p.b p.head_b.version p.list_b n
  seen_before = seen_on setup t loads refl p.b p.head_b.version p.list_b n has.knows.knows.at.1.seen
      (tcap_mark setup t p.b tcap_here.fields tcap_here.is) (λ i h. spares_load i)

  -- what is known of B after the load, with the word that it has found
  seen_next : HasSeenB setup (loads ∷ t) p.b p.head_b.version next_list (suc n)
  seen_next = record {
    now = seen_before.now;
    shown = seen_before.shown;
    later = seen_before.later;
    same = λ is. on (seen_before.same is);
    valid = seen_before.valid;
  }
    where
      on : (p.list_b ≡ read_up (list_word setup (loads ∷ t) p.b) n)
          ⊎ ((list_changed (loads ∷ t) p.b ≡ true) × IsSome seen_before.now.mark)
          → (next_list ≡ read_up (list_word setup (loads ∷ t) p.b) (suc n))
          ⊎ ((list_changed (loads ∷ t) p.b ≡ true) × IsSome seen_before.now.mark)
      on (inl is) = inl (ap (λ o. read_word o (quality_of_word found)) is
          ∙ ap (λ (x : ℕ). read_word (read_up (list_word setup (loads ∷ t) p.b) n) (quality_of_word x))
          (sym (left_same setup t loads refl word_at (λ h. refl))))
      on (inr is) = inr is

  head_next : ReadsHead (loads ∷ t) c p.b p.head_b
  head_next = record {
    own = own_read-there c loads t refl (EntryAt p.b 0) (λ h. absurd (apart h)) ∙ has.knows.knows.at.1.head.own;
    fits = has.knows.knows.at.1.head.fits;
    bare = has.knows.knows.at.1.head.bare;
  }
    where
      apart : EntryAt p.b 0 ≡ EntryAt p.b (suc n) → ⊥
      apart h = let same : 0 ≡ suc n = index h in omega (arith, same)
        where
          index : EntryAt p.b 0 ≡ EntryAt p.b (suc n) → 0 ≡ suc n
          index h = cc

  a_next : (list : Option (List (ℕ × ℕ))) (grows : Bool) (where_at : PairAt)
      → HasMarkedA setup (loads ∷ t) (record p { list_b = list; grows = grows; at = where_at }) 8
  a_next list grows where_at = marked_also setup (loads ∷ t) list_p 8 p.head_b list grows where_at
      (marked_on setup t loads refl list_p 8 (λ i h. refl) has.knows.knows.at.0)

  goes : (list : Option (List (ℕ × ℕ))) (grows : Bool) (to : PairAt)
      → holds_share (record p { list_b = list; grows = grows; at = to }) to (holds_counts None a.counts)
      ≡ holds_share list_p (ListB (suc n)) (holds_counts None a.counts)
      → KnowsPairAt setup (loads ∷ t) c (record p { list_b = list; grows = grows; at = to }) to
      → GoodTook setup cores t c (LoadOf word_at) (landed a (Goes (Act (share_act (record p { list_b = list; grows = grows; at = to })))))
  goes list grows to holds_same knows =
      load_goes setup setting cores t stands c here a active list_p stage_is has p.b (suc n)
      (calls.footprint_b setup setting cores t stands c here a active list_p stage_is has)
      (record p { list_b = list; grows = grows; at = to })
      refl refl refl refl holds_same knows

  -- the pair with both lists read, before it is judged
  abbrev given : Option (List (ℕ × ℕ))
  given = whole_b p.what (in_order p.list_a) (in_order next_list)

  abbrev given_grows : Bool
  given_grows = grows_to p.what given (in_order next_list)

  abbrev both_p : Pair
  both_p = record p { list_b = given; grows = given_grows; at = ListB (suc n) }

  abbrev to_at : PairAt
  to_at = judged p.what both_p

  abbrev done_p : Pair
  done_p = record p { list_b = given; grows = given_grows; at = to_at }

  by_more : (more : Bool) → nat_lt (suc n) 8 ≡ more
      → GoodTook setup cores t c (LoadOf word_at)
      (landed a (Goes (Act (share_act (record p {
        list_b = read_b more p.what (in_order p.list_a) next_list;
        grows = read_grows more p.what (in_order p.list_a) (in_order next_list) p.grows;
        at = b_next more (suc n) (record p {
          list_b = read_b more p.what (in_order p.list_a) next_list;
          grows = read_grows more p.what (in_order p.list_a) (in_order next_list) p.grows;
          at = ListB (suc n);
        });
      })))))
  by_more true is =
      let same : suc (suc n) ≡ suc n + 1 = omega arith in
      goes next_list p.grows (ListB (suc n + 1)) refl
      (subst (λ (m : ℕ). KnowsPairAt setup (loads ∷ t) c (record p { list_b = next_list; at = ListB (suc n + 1) }) (ListB m)) same
      (a_next next_list p.grows (ListB (suc n + 1)), record { head = head_next; seen = seen_next }))
  by_more false is =
      let past = ltb-false (suc n) 8 is in
      let all : suc n ≡ 8 = (let below = low in omega (arith, past, below)) in
      let judge : IsJudged setup (loads ∷ t) c done_p (holds_counts None a.counts) to_at =
      is_judged setup (loads ∷ t) c done_p (holds_counts None a.counts) p.what both_p in
      goes given given_grows to_at judge.holds_same
      (judge.knows (record {
        a = a_next given given_grows to_at;
        read = next_list;
        b = record {
          head = head_next;
          seen = subst (λ (m : ℕ). HasSeenB setup (loads ∷ t) p.b p.head_b.version next_list m) all seen_next;
        };
        whole = refl;
        grows = refl;
        judges = judged_same p.what both_p done_p refl refl refl refl;
      }))

  none_quality : (v : QualityWord) → None ≡ Some v → ⊥
  none_quality v h = cc

  abbrev found_list : Option (List (ℕ × ℕ))
  found_list = read_b (nat_lt (suc n) 8) p.what (in_order p.list_a) next_list

  abbrev found_grows : Bool
  found_grows = read_grows (nat_lt (suc n) 8) p.what (in_order p.list_a) (in_order next_list) p.grows

  by_quality : (o : Option QualityWord) → quality_of_word found ≡ o
      → GoodTook setup cores t c (LoadOf word_at)
      (landed a (took_shared (record p {
        list_b = found_list;
        grows = found_grows;
        at = at_read o (b_next (nat_lt (suc n) 8) (suc n) (record p { list_b = found_list; grows = found_grows; at = ListB (suc n) }));
      }) (list_end o)))
  by_quality None is = absurd (false≢true (sym (ap is_some is) ∙ has.knows.knows.at.1.seen.valid n low))
  by_quality (Some v) is = by_more (nat_lt (suc n) 8) refl

  pub list_b_good : GoodTook setup cores t c (LoadOf word_at) (landed a (took_share list_p found))
  list_b_good = by_quality (quality_of_word found) refl
