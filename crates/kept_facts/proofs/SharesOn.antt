-- What a call knows of two temporal capabilities it knows still after a step of another core.
use Rattle.core_invariant.proofs.{◌≡◌, ◌≢◌, ◌<◌, ℕ, true, List, [], ◌∷◌, Some, arith, sym, ◌∙◌, ap, Setting, IsSetting, Capability, Call}
use Rattle.core_invariant.proofs.{Replenish, HeadFits, word_of_head, head_of_word, HeadWord, EntryAt, word_of, left_of, Kernel, Tcap}
use Rattle.core_invariant.proofs.{TcapFields, IsInFootprint, MayFollow, IsLegal, Step, Trace, phase, state_after, last_left, is_in, marked}
use Rattle.core_invariant.proofs.{Pair, PairAt, StoreList, StoreB, StoreA, SparesTcap, HasTcap, StoresA, KnowsStoresAt}
use Rattle.core_invariant.specs.{RefillsBy, StoresB, KnowsShared}
use Rattle.kept_facts.proofs.Pairs.{tcap_mark, kept_all, left_same, pair_other, refill_other, stores_on_a, keeps_on_b}
use Rattle.{core_invariant.specs.act_states.specs.left_among, core_invariant.specs.act_states.specs.Refill}
use Rattle.{thread_laws.specs.trace_laws.proofs.was_stays, thread_laws.specs.trace_laws.proofs.stays_in_other}
use Rattle.{thread_laws.specs.kernel_history.proofs.Steps.own_read-other, core_invariant.specs.Refills.KnowsRefill}
use Rattle.{core_invariant.specs.Shares.KnowsShare, kept_facts.proofs.Tcaps.tcap_of, kept_facts.proofs.Tcaps.tcap_stays}
use Rattle.thread_laws.specs.tcap_words.proofs.HeadLemmas as heads

-- What core c knows of them stays known, while its call is undecided and after.
pub record SharesStay (setup : Setting) (t : Trace) (e : Step) (c : ℕ) : Type 0 where
  pub undecided : is_in (phase t c) ≡ true → (call : Call) (ks : List Capability) (p : Pair) → KnowsShare setup t c call ks p
      → KnowsShare setup (e ∷ t) c call ks p
  pub decided : is_in (phase t c) ≡ true → (call : Call) (p : Pair) → KnowsShared setup t c call p → KnowsShared setup (e ∷ t) c call p
  pub refilling : is_in (phase t c) ≡ true → (call : Call) (ks : List Capability) (r : Refill) → KnowsRefill setup t c call ks r
      → KnowsRefill setup (e ∷ t) c call ks r

module _ (setup : Setting) (setting : IsSetting setup) (t : Trace) (legal : IsLegal setup t) (e : Step) (follows : MayFollow setup t e)
    (c : ℕ) (here : c < setup.cores) (other : c ≢ e.core)
    (spares : (f i : ℕ) (q : TcapFields) → (state_after setup t).frame f ≡ Kernel (Tcap q) → word_of e.move ≡ EntryAt f i
    → SparesTcap setup t e f i) where
  few : (p : Pair) → p.core ≡ c → p.core < 8
  few p core = let most = setting.most_cores in omega (arith, most, here, core)

  undecided_stays : is_in (phase t c) ≡ true → (call : Call) (ks : List Capability) (p : Pair) → KnowsShare setup t c call ks p
      → KnowsShare setup (e ∷ t) c call ks p
  undecided_stays inside call ks p has =
      let a = tcap_of ((state_after setup t).frame p.a) has.tcap_a.tcap in
      let b = tcap_of ((state_after setup t).frame p.b) has.tcap_b.tcap in record {
        shares = has.shares;
        core = has.core;
        tcap_a = tcap_stays setup setting t legal e follows c here other inside p.a has.tcap_a;
        tcap_b = tcap_stays setup setting t legal e follows c here other inside p.b has.tcap_b;
        at = pair_other setup t e follows.found c other p has.core (own_read-other c e t other)
            (tcap_mark setup t p.a a.fields a.is) (λ i at. spares p.a i a.fields a.is at) (few p has.core)
            (tcap_mark setup t p.b b.fields b.is) (λ i at. spares p.b i b.fields b.is at) p.at has.at;
      }

  refilling_stays : is_in (phase t c) ≡ true → (call : Call) (ks : List Capability) (r : Refill) → KnowsRefill setup t c call ks r
      → KnowsRefill setup (e ∷ t) c call ks r
  refilling_stays inside call ks r has =
      let q = tcap_of ((state_after setup t).frame r.tcap) has.tcap.tcap in record {
        refills = refills_on call ks has.refills;
        tcap = tcap_stays setup setting t legal e follows c here other inside r.tcap has.tcap;
        at = refill_other setup t e follows.found c r (own_read-other c e t other)
            (tcap_mark setup t r.tcap q.fields q.is) (λ i at. spares r.tcap i q.fields q.is at) r.at has.at;
      }
    where
      core : (state_after setup (e ∷ t)).core c ≡ (state_after setup t).core c
      core = (stays_in_other setup setting t legal e follows c other inside).own.core

      refills_on : (call : Call) (ks : List Capability) → RefillsBy (state_after setup t) c call ks r
          → RefillsBy (state_after setup (e ∷ t)) c call ks r
      refills_on (Replenish x m) (k ∷ []) is = record {
        tcap = is.tcap;
        kind = is.kind;
        ticks = is.ticks;
        left = is.left ∙ ap (λ k. left_among k.spent k.back) (sym core);
        grant = is.grant ∙ ap (λ k. k.grant) (sym core);
      }
      refills_on call ks is = absurd is

  -- A step of another core leaves the words of a temporal capability whose head this core has marked.
  kept : (f core : ℕ) (h : HeadWord) → HasTcap (state_after setup t) c f → core ≡ c → core < 8 → HeadFits h
      → last_left setup t (EntryAt f 0) ≡ word_of_head (marked core h)
      → (i : ℕ) → EntryAt f i ≡ word_of e.move → left_of e.move e.found ≡ e.found
  kept f core h has own low fits raw =
      let q = tcap_of ((state_after setup t).frame f) has.tcap in
      kept_all setup t e follows.found f c other (marked core h)
      (ap head_of_word raw ∙ heads.spelling.reads (marked core h) (fits.0, low, fits.2)) (ap (λ (x : ℕ). Some x) own)
      (tcap_mark setup t f q.fields q.is) (λ i at. spares f i q.fields q.is at)

  a_stays : (p : Pair) → HasTcap (state_after setup t) c p.a → p.core ≡ c → StoresA setup t p → StoresA setup (e ∷ t) p
  a_stays p tcap core has =
      stores_on_a setup t e follows.found p (kept p.a p.core p.head_a tcap core (few p core) has.fits has.raw) has

  b_stays : is_in (phase t c) ≡ true → (call : Call) (p : Pair) → HasTcap (state_after setup t) c p.a → p.core ≡ c
      → StoresB setup t c call p → StoresB setup (e ∷ t) c call p
  b_stays inside call p tcap core has =
      let spared = kept p.b p.core p.head_b has.tcap core (few p core) has.fits has.raw in record {
        a = a_stays p tcap core has.a;
        raw = left_same setup t e follows.found (EntryAt p.b 0) (spared 0) ∙ has.raw;
        fits = has.fits;
        bare = has.bare;
        few = has.few;
        footprint = was_stays (IsInFootprint c call (EntryAt p.b 0)) setup t e c (λ own. absurd (other own)) has.footprint;
        tcap = tcap_stays setup setting t legal e follows c here other inside p.b has.tcap;
        differ = has.differ;
        spelled = has.spelled;
        same = λ is. keeps_on_b setup t e follows.found p spared (has.same is);
      }

  stored_stays : is_in (phase t c) ≡ true → (call : Call) (p : Pair) (at : PairAt) → HasTcap (state_after setup t) c p.a → p.core ≡ c
      → KnowsStoresAt setup t c call p at → KnowsStoresAt setup (e ∷ t) c call p at
  stored_stays inside call p (StoreA moved v) tcap core has = a_stays p tcap core has
  stored_stays inside call p (StoreList n) tcap core has = (has.0, has.1, b_stays inside call p tcap core has.2)
  stored_stays inside call p StoreB tcap core has = b_stays inside call p tcap core has
  stored_stays inside call p _ tcap core has = has

  pub shares_other : SharesStay setup t e c
  shares_other = record {
    undecided = undecided_stays;
    refilling = refilling_stays;
    decided = λ inside call p has. record {
      budgets = has.budgets;
      core = has.core;
      footprint = was_stays (IsInFootprint c call (EntryAt p.a 0)) setup t e c (λ own. absurd (other own)) has.footprint;
      tcap_a = tcap_stays setup setting t legal e follows c here other inside p.a has.tcap_a;
      at = stored_stays inside call p p.at has.tcap_a has.core has.at;
    };
  }
