-- A decided call gives the head of a temporal capability back that carries its core's mark: the word becomes what it stands for. What the
-- call knows of the temporal capabilities it knows still.
use Rattle.pair_invariant.specs.step_ways.proofs as low
use low.{◌≡◌, ◌≢◌, ◌⊎◌, ◌<◌, ◌==◌, ◌&&◌, not, ℕ, zero, suc, Bool, true, false, if◌then◌else◌, List, [], ◌∷◌, Option, Some, None, inl, inr}
use low.{arith, refl, sym, ◌∙◌, ap, subst, ne_eqb, Setting, IsSetting, Call, Reply, HeadFits, word_of_head, head_of_word, HeadWord}
use low.{spelling, Word, EntryAt, Move, StoreOf, word_of, left_of, same_same, State, put, put_same, put_other, changes_budgets}
use low.{changes_in_frame, IsInFootprint, mark_of, head_mark, marked_by, Step, Trace, state_after, last_left, WasAt, was_stays}
use low.{same_word-other, last_left-there, Acquired, marked, Pair, PairAt, Tail, Decided, ActiveCall, went_with, GoesOn, Core, Holding}
use low.{keeps, holds_counts, settled_by, KnowsTail, phase_at, list_changed, TurnsHead, SparesTcap, HasTcap, KnowsStoresAt, done_by}
use low.{holds_tail, holds_at, holds_in, holds, held_by, Invariant, as_none, counts_on, not_exclusive_head_word, exclusive_free, TcapOf}
use low.{IsOfCall, core_in_call, call_is, inner, GoodTook}
use Rattle.pair_invariant.specs.core_invariant.specs.{StoresA, KnowsShared, turns_list}
use Rattle.pair_invariant.proofs.{spares_one, mark_is}
use Rattle.pair_invariant.specs.core_invariant.proofs.{IsNotKept, free_value}
use Rattle.{std.proofs.lemmas.Bool.cases_eq, pair_invariant.specs.kept_facts.proofs.Tcaps.tcap_of}
use Rattle.pair_invariant.specs.step_ways.proofs.Counting as counters

-- No entry is a count.
pub counts_free : (fate : Option (Option ℕ)) (xs : List Acquired) (f i : ℕ) → (holds_counts fate xs).marks (EntryAt f i) ≡ false
counts_free fate [] f i = refl
counts_free fate (x ∷ xs) f i = counts_free fate xs f i

-- What a store on a word of the second one leaves: the first, and where the call stands.
pub a_stored : (setup : Setting) (t : Trace) (e : Step) (p : Pair) (x : PairAt) (i : ℕ) → word_of e.move ≡ EntryAt p.b i → p.a ≢ p.b
    → StoresA setup t p → StoresA setup (e ∷ t) (record p { at = x })
a_stored setup t e p x i on differ has = record {
  raw = last_left-there setup (EntryAt p.a 0) e t (λ h. differ (same_frame p.a 0 p.b i (h ∙ on))) ∙ has.raw;
  fits = has.fits;
  bare = has.bare;
  clean = ap (λ w. turns_list w (left_of e.move e.found == e.found) p.a (list_changed t p.a)) on
      ∙ other i (left_of e.move e.found == e.found) (list_changed t p.a) ∙ has.clean;
}
  where
    same_frame : (f j g k : ℕ) → EntryAt f j ≡ EntryAt g k → f ≡ g
    same_frame f j g k h = cc

    apart : (p.b == p.a) ≡ false
    apart = ne_eqb p.b p.a (λ h. differ (sym h))

    other : (k : ℕ) (same before : Bool) → turns_list (EntryAt p.b k) same p.a before ≡ before
    other zero same before = ap (λ b. if b && not same then false else before) apart
    other (suc k) same before = ap (λ b. if b && not same then true else before) apart

pub shared_on : (setup : Setting) (t : Trace) (e : Step) (c : ℕ) (call : Call) (p : Pair) (x : PairAt) → e.enters ≡ None
    → state_after setup (e ∷ t) ≡ state_after setup t → KnowsShared setup t c call p
    → KnowsStoresAt setup (e ∷ t) c call (record p { at = x }) x → KnowsShared setup (e ∷ t) c call (record p { at = x })
shared_on setup t e c call p x no_entry still has at = record {
  budgets = has.budgets;
  core = has.core;
  footprint = was_stays (IsInFootprint c call (EntryAt p.a 0)) setup t e c (λ own. no_entry) has.footprint;
  tcap_a = subst (λ s. HasTcap s c p.a) (sym still) has.tcap_a;
  at = at;
}

-- The head of the temporal capability in frame f was this one as core c marked it; the core gives it back as the next, and holds the rest.
pub record GivesBack (setup : Setting) (t : Trace) (c : ℕ) (call : Call)
    (f : ℕ) (head next : HeadWord) (before rest : Holding) : Type 0 where
  pub budgets : changes_budgets call ≡ true
  pub footprint : WasAt (IsInFootprint c call (EntryAt f 0)) setup t c
  pub tcap : HasTcap (state_after setup t) c f
  pub raw : last_left setup t (EntryAt f 0) ≡ word_of_head (marked c head)
  pub fits : HeadFits head
  pub next_fits : HeadFits next
  pub next_bare : next.mark ≡ None
  pub rises : (head.version < next.version) ⊎ ((head.version ≡ next.version) × (list_changed t f ≡ false))
  pub held : before ≡ keeps (EntryAt f 0) (word_of_head next) rest
  pub free : rest.marks (EntryAt f 0) ≡ false
  pub none : (g i : ℕ) → rest.bare g i ≡ None

module _ (setup : Setting) (setting : IsSetting setup) (cores : ℕ → Core) (t : Trace) (stands : Invariant setup cores t) (c : ℕ)
    (here : c < setup.cores)
    (a : ActiveCall) (active : (cores c).active ≡ Some a) (r : Reply) (drawn : Option ℕ) (tail left : Tail)
    (stage_is : a.stage ≡ Decided r drawn tail) (f : ℕ) (head final : HeadWord)
    (gives : GivesBack setup t c a.call f head final (holds_tail tail (holds_counts (done_by r drawn) a.counts))
    (holds_tail left (holds_counts (done_by r drawn) a.counts))) where
  abbrev s : State
  s = state_after setup t

  abbrev rest : Holding
  rest = holds_tail left (holds_counts (done_by r drawn) a.counts)

  abbrev at : Word
  at = EntryAt f 0

  abbrev was : ℕ
  was = last_left setup t at

  abbrev give_back : Move
  give_back = StoreOf at (word_of_head final)

  abbrev next : ActiveCall
  next = went_with a a.counts (Decided r drawn left)

  abbrev after : Core
  after = core_in_call (cores c) (cores c).own.made next

  abbrev e : Step
  e = inner setup setting cores t stands c here a active give_back None None

  tcap : TcapOf (s.frame f)
  tcap = tcap_of (s.frame f) gives.tcap.tcap

  held : holds (cores c) ≡ keeps at (word_of_head final) rest
  held = ap holds_in active ∙ ap (λ stage. holds_at stage a.counts) stage_is ∙ gives.held

  marked_fits : HeadFits (marked c head)
  marked_fits = (gives.fits.0, (let most = setting.most_cores in omega (arith, most, here)), gives.fits.2)

  shown : head_of_word was ≡ Some (marked c head)
  shown = ap head_of_word gives.raw ∙ spelling.reads (marked c head) marked_fits

  reads_final : head_of_word (word_of_head final) ≡ Some final
  reads_final = spelling.reads final gives.next_fits

  own_mark : marked_by setup t at ≡ Some c
  own_mark = mark_is setup setting cores t stands f tcap.fields tcap.is was ∙ ap head_mark shown

  bare_now : mark_of s at (word_of_head final) ≡ None
  bare_now = mark_is setup setting cores t stands f tcap.fields tcap.is (word_of_head final) ∙ ap head_mark reads_final ∙ gives.next_bare

  of_call : IsOfCall setup t c a.call give_back
  of_call = record { moves = ap (changes_in_frame a.call) tcap.is ∙ gives.budgets; footprint = inr gives.footprint }

  turns : SparesTcap setup t e f 0
  turns = inr (subst (λ o. TurnsHead c (list_changed t f) (head_of_word was) o) (sym reads_final)
      (subst (λ o. TurnsHead c (list_changed t f) o (Some final)) (sym shown) (inr refl, rises gives.rises)))
    where
      rises : (head.version < final.version) ⊎ ((head.version ≡ final.version) × (list_changed t f ≡ false))
          → (head.version < final.version) ⊎ ((head.version ≡ final.version) × ((Some c ≡ None) ⊎ (list_changed t f ≡ false)))
      rises (inl more) = inl more
      rises (inr same) = inr (same.0, inr same.1)

  not_kept : IsNotKept (held_by (put cores c after)) at
  not_kept g i is d = elim (cases_eq d c) [
    | inl own ↦ ap (λ k. (holds k).bare g i) (put_same cores c after d own) ∙ gives.none g i
    | inr other ↦ ap (λ k. (holds k).bare g i) (put_other cores c after d other)
        ∙ not_exclusive_head_word setup cores t stands f tcap.fields tcap.is g i is d
  ]

  same_core : (b : ℕ) → Some b ≡ Some c → b ≡ c
  same_core b h = cc

  pub head_good : KnowsTail setup (e ∷ t) c a.call a.counts left → GoodTook setup cores t c give_back (GoesOn next)
  head_good knows lands =
      counters.holds_on setup setting cores t stands c here a active give_back next (λ b. refl) (λ h. cc) refl of_call lands
      (spelling.small final gives.next_fits)
      (λ w there. (
        sym (ap (λ h. h.marks w) held ∙ ap (λ b. if b then true else rest.marks w) (same_word-other w at there)),
        sym (ap (λ h. h.stands w) held ∙ ap (λ b. if b then word_of_head final else rest.stands w) (same_word-other w at there)),
      ))
      (as_none (holds (cores c)) (holds after) at (λ g i. ap (λ h. h.bare g i) held ∙ gives.none g i) gives.none)
      (bare_now ∙ sym (ap (λ b. if b then Some c else None) gives.free))
      (λ b other is_marked. other (same_core b (sym is_marked ∙ own_mark)))
      (ap (λ b. settled_by (if b then Some c else None) (held_by (put cores c after)) at (word_of_head final)) gives.free
      ∙ free_value (held_by (put cores c after)) at (word_of_head final) not_kept
      ∙ sym (ap (λ o. settled_by o (held_by cores) at was) own_mark ∙ ap (λ h. h.stands at) held
      ∙ ap (λ b. if b then word_of_head final else rest.stands at) (same_same at)))
      (ap (phase_at a.call) stage_is)
      (λ carries. knows)
      (counts_on setup t e c a.call (λ own. refl) a.counts (call_is setup setting cores t stands c here a active).counts)
      (call_is setup setting cores t stands c here a active).apart
      (spares_one setup t e f 0 tcap.fields refl tcap.is turns)
      (exclusive_free cores e (not_exclusive_head_word setup cores t stands f tcap.fields tcap.is))
