-- What a core holds of the counts that its call has acquired: each stays among them until its commit, and stands for what the commit
-- stores.
use Rattle.time_laws.specs as low
use low.step_ways.proofs.{◌≡◌, ◌≢◌, ◌⊎◌, inl, inr, ℕ, ◌<◌, ◌++◌, ltb as nat_lt, Bool, true, false, if◌then◌else◌, List, [], ◌∷◌, length}
use low.step_ways.proofs.{Option, Some, None, refl, sym, ◌∙◌, ap, subst, All, false≢true, Setting, IsSetting, Call, Reply, CountAt}
use low.step_ways.proofs.{marked_by, Trace, phase, last_left, Acquired, AtDraw, PairAt, Own, Untyping, UntypingAt, Untype as untype_act}
use low.step_ways.proofs.{Tail, Nothing, Quiesce, Release, Push, Pop, Acquire, Act, WorkStep, Goes, Acquires, Refuses, Answers, reply_of}
use low.step_ways.proofs.{core_after, told_by, CountsAt, landed, took_at, took_tail, Absorbed, ActiveCall, Stage, Enter, Undecided, Decided}
use low.step_ways.proofs.{Core, Holding, committed, count_of, holds_counts, settled, settled_by, Invariant, done_by, held_by, holds_at}
use low.step_ways.proofs.{holds_in, holds_tail, is_done, KnowsAct, KnowsAt, KnowsTail, phase_at, KnowsUntypingAt, first_marked}
use low.step_ways.proofs.{first_stands, call_is, same_marks, plan_for}
use low.act_states.specs.{declared.work.Act.Act as ActOf, declared.work.Tail.TheVariants.Share, declared.work.WorkStep.TheVariants.Changes}
use low.count_invariant.proofs.ActHolds.{SparesAt, SparesSwept, act_count}
use low.{core_invariant.proofs.AreApart, core_invariant.proofs.release_away, kernel_history.specs.Bounds.call_in}
use low.{stage_pins.specs.Held.pushed, call_stages.specs.Tails.commits, call_stages.specs.Tails.tail_counts}
use low.{step_ways.proofs.Counting.rest_elsewhere, history_laws.specs.Counts.Untypes}
use Rattle.{std.proofs.lemmas.List.Elements.All-head, std.proofs.lemmas.List.Elements.All-tail, flight_laws.proofs.CountSteps.UntypesFrame}
use Rattle.{flight_laws.proofs.CountSteps.untypes_frame}
use Rattle.time_laws.specs.stage_thread.specs.declared.stack.Pop.TheVariants as pop
use Rattle.time_laws.specs.stage_thread.specs.declared.stack.Push.TheVariants as push

-- A count is one of those that a call has acquired.
abbrev pub IsAmong : Acquired → List Acquired → Type 0
IsAmong x [] = ⊥
IsAmong x (y ∷ ys) = (x ≡ y) ⊎ IsAmong x ys

among_more : (xs : List Acquired) (x y : Acquired) → IsAmong x xs → IsAmong x (xs ++ y ∷ [])
among_more [] x y among = absurd among
among_more (z ∷ zs) x y (inl same) = inl same
among_more (z ∷ zs) x y (inr among) = inr (among_more zs x y among)

pub among_last : (xs : List Acquired) (x : Acquired) → IsAmong x (xs ++ x ∷ [])
among_last [] x = inl refl
among_last (z ∷ zs) x = inr (among_last zs x)

among_pushed : (xs : List Acquired) (x y : Acquired) → IsAmong x xs → IsAmong x (pushed xs y)
among_pushed xs x y among = by (nat_lt (length xs) 4)
  where
    by : (b : Bool) → IsAmong x (if b then xs ++ y ∷ [] else xs)
    by true = among_more xs x y among
    by false = among

pub all_among : (P : Acquired → Type 0) (xs : List Acquired) (x : Acquired) → All P xs → IsAmong x xs → P x
all_among P [] x all among = absurd among
all_among P (y ∷ ys) x all (inl same) = subst P (sym same) (All-head P y ys all)
all_among P (y ∷ ys) x all (inr among) = all_among P ys x (All-tail P y ys all) among

-- Its word is held, and stands for what its commit stores.
counts_stand : (fate : Option (Option ℕ)) (xs : List Acquired) (x : Acquired) → AreApart xs → IsAmong x xs
    → ((holds_counts fate xs).marks (count_of x) ≡ true) × ((holds_counts fate xs).stands (count_of x) ≡ committed fate x)
counts_stand fate [] x apart among = absurd among
counts_stand fate (y ∷ ys) x apart (inl same) = subst (λ (z : Acquired). ((holds_counts fate (y ∷ ys)).marks (count_of z) ≡ true)
    × ((holds_counts fate (y ∷ ys)).stands (count_of z) ≡ committed fate z)) (sym same) (first_marked fate y ys, first_stands fate y ys)
counts_stand fate (y ∷ ys) x apart (inr among) =
    let rest = counts_stand fate ys x apart.1 among in
    let there : count_of x ≢ count_of y = λ same. false≢true (sym apart.0 ∙ same_marks None fate ys (count_of y)
    ∙ ap (holds_counts fate ys).marks (sym same) ∙ rest.0) in
    let keeps = rest_elsewhere fate y ys (count_of x) there in
    (sym keeps.0 ∙ rest.0, sym keeps.1 ∙ rest.1)

-- A tail holds no count but those that it releases.
abbrev SparesTail : Tail → ℕ → Type 0
SparesTail (Release y) f = f ≢ y.frame
SparesTail tail f = Unit {0}

tail_count : (setup : Setting) (t : Trace) (c : ℕ) (call : Call) (counts : List Acquired) (tail : Tail) (h : Holding) (f k : ℕ)
    → KnowsTail setup t c call counts tail → SparesTail tail f → (holds_tail tail h).stands (CountAt f k) ≡ h.stands (CountAt f k)
tail_count setup t c call counts (Quiesce (AtDraw node index)) h f k knows spares = refl
tail_count setup t c call counts (Release y) h f k knows spares = (release_away y h f k knows.1.thaws spares).1
tail_count setup t c call counts (Push (push.AtThread g core depth)) h f k knows spares = refl
tail_count setup t c call counts (Pop (pop.AtStack g depth)) h f k knows spares = refl
tail_count setup t c call counts (Share p) h f k knows spares = by p.at
  where
    by : (at : PairAt) → (holds_tail (Share (record p { at = at })) h).stands (CountAt f k) ≡ h.stands (CountAt f k)
    by PairAt.LoadA = refl
    by _ = refl
tail_count setup t c call counts tail h f k knows spares = refl

module _ (setup : Setting) (setting : IsSetting setup) (cores : ℕ → Core) (t : Trace) (stands : Invariant setup cores t) (c : ℕ)
    (here : c < setup.cores) (a : ActiveCall) (active : (cores c).active ≡ Some a) (x : Acquired) (among : IsAmong x a.counts)
    (spares : Untypes x.pin.frame (phase t c) → ⊥) where
  -- no act and no tail of the call has frozen a count of the frame
  its_call : (stage : Stage) → a.stage ≡ stage → (call_in (phase_at a.call stage) ≡ Some a.call) → UntypesFrame a.call x.pin.frame → ⊥
  its_call stage is in_call untypes = spares (record {
    range = untypes.range;
    is = ap call_in ((call_is setup setting cores t stands c here a active).phase ∙ ap (phase_at a.call) is) ∙ in_call
        ∙ ap (λ (y : Call). Some y) untypes.is;
  })

  spares_at : (m : Untyping) (at : UntypingAt) → UntypesFrame a.call m.frame → (UntypesFrame a.call x.pin.frame → ⊥)
      → KnowsUntypingAt setup t c m.frame at → SparesAt at x.pin.frame
  spares_at m UntypingAt.Load untypes not knows = tt
  spares_at m (UntypingAt.Mark word v) untypes not knows = tt
  spares_at m _ untypes not knows = λ same. not (subst (UntypesFrame a.call) (sym (same ∙ knows.frame)) untypes)

  spares_act : (act : ActOf) → KnowsAct setup t c a.call (plan_for a.call) a.found setup.cores act → (UntypesFrame a.call x.pin.frame → ⊥)
      → SparesSwept act x.pin.frame
  spares_act (untype_act m) knows not = spares_at m m.at (untypes_frame a.call a.found m knows.untypes) not knows.at
  spares_act act knows not = tt

  spares_tail : (tail : Tail) → KnowsTail setup t c a.call a.counts tail → (UntypesFrame a.call x.pin.frame → ⊥)
      → SparesTail tail x.pin.frame
  spares_tail (Release y) knows not = λ same. not (subst (UntypesFrame a.call) (sym same)
      (record { range = knows.1.range; is = knows.1.retypes }))
  spares_tail tail knows not = tt

  abbrev StandsAt : Stage → Type 0
  StandsAt stage = (holds_at stage a.counts).stands (count_of x) ≡ committed (is_done stage) x

  its_stands : (fate : Option (Option ℕ)) → (holds_counts fate a.counts).stands (count_of x) ≡ committed fate x
  its_stands fate = (counts_stand fate a.counts x (call_is setup setting cores t stands c here a active).apart among).1

  stage_stands : (stage : Stage) → a.stage ≡ stage → KnowsAt setup t c (cores c).own.table a stage → StandsAt stage
  stage_stands Enter is has = absurd has
  stage_stands (Undecided (Acquire pin change act)) is has =
      (act_count act (holds_counts None a.counts) x.pin.frame x.pin.core
      (spares_act act has.knows.knows (its_call (Undecided (Acquire pin change act)) is refl))).1 ∙ its_stands None
  stage_stands (Undecided (Act act)) is has =
      (act_count act (holds_counts None a.counts) x.pin.frame x.pin.core
      (spares_act act has.knows.knows (its_call (Undecided (Act act)) is refl))).1 ∙ its_stands None
  stage_stands (Decided r drawn tail) is has =
      tail_count setup t c a.call a.counts tail (holds_counts (done_by r drawn) a.counts) x.pin.frame x.pin.core has
      (spares_tail tail has (its_call (Decided r drawn tail) is refl)) ∙ its_stands (done_by r drawn)
  stage_stands _ is has = its_stands None

  -- so what the word settles to is what the commit stores
  pub count_settles : marked_by setup t (count_of x) ≡ Some c
      → settled setup (held_by cores) t (count_of x) ≡ committed (is_done a.stage) x
  count_settles mark =
      ap (λ o. settled_by o (held_by cores) (count_of x) (last_left setup t (count_of x))) mark
      ∙ ap (λ o. (holds_in o).stands (count_of x)) active
      ∙ stage_stands a.stage refl (call_is setup setting cores t stands c here a active).knows

-- A step by which a call does not return, and is not decided `ok`.
abbrev pub NotBack : Absorbed → Type 0
NotBack Absorbed.Going = Unit {0}
NotBack (Absorbed.Decided r) = Unit {0}
NotBack (Absorbed.Returned r) = ⊥

abbrev pub NotOk : Absorbed → Type 0
NotOk Absorbed.Going = Unit {0}
NotOk (Absorbed.Decided (Reply.Ok v)) = ⊥
NotOk (Absorbed.Decided r) = Unit {0}
NotOk (Absorbed.Returned r) = Unit {0}

not_done : (r : Reply) (drawn : Option ℕ) → NotOk (Absorbed.Decided r) → done_by r drawn ≡ None
not_done (Reply.Ok v) drawn not = absurd not
not_done r drawn not = refl

-- A call holds this count still, and whether it is carried out is as it was, where the step does not decide it `ok`.
abbrev pub HoldsStill : Option ActiveCall → Acquired → Option (Option ℕ) → Absorbed → Type 0
HoldsStill None x fate told = ⊥
HoldsStill (Some a) x fate told = IsAmong x a.counts × (NotOk told → is_done a.stage ≡ fate)

module _ (own : Own) (a : ActiveCall) (x : Acquired) (among : IsAmong x a.counts) where
  landed_holds : (ws : WorkStep) → HoldsStill (core_after own (landed a ws)).active x None (told_by (landed a ws))
  landed_holds (Goes work) = (among, λ not. refl)
  landed_holds (Acquires count work) = (among_pushed a.counts x count among, λ not. refl)
  landed_holds (Refuses r tail) = (among, not_done (reply_of r) None)
  landed_holds (Answers v drawn tail) = (among, λ not. absurd not)
  landed_holds (Changes r change drawn tail) = (among, not_done r drawn)

  none_among : a.counts ≡ [] → ⊥
  none_among none = subst (IsAmong x) none among

  -- the commit of the earliest count is of another
  abbrev pub NotFirst : Tail → List Acquired → Type 0
  NotFirst tail [] = Unit {0}
  NotFirst tail (y ∷ ys) = commits tail ≡ true → x ≡ y → ⊥

  tail_holds : (r : Reply) (drawn : Option ℕ) (tail : Tail) (xs : List Acquired) (found : ℕ) → IsAmong x xs → NotFirst tail xs
      → IsAmong x (tail_counts tail xs) × (is_done (took_tail r drawn tail xs found) ≡ done_by r drawn)
  tail_holds r drawn Nothing [] found among first = absurd among
  tail_holds r drawn Nothing (y ∷ ys) found (inl same) first = absurd (first refl same)
  tail_holds r drawn Nothing (y ∷ ys) found (inr among) first = (among, refl)
  tail_holds r drawn (Release y) [] found among first = absurd among
  tail_holds r drawn (Release z) (y ∷ ys) found (inl same) first = absurd (first refl same)
  tail_holds r drawn (Release z) (y ∷ ys) found (inr among) first = (among, refl)
  tail_holds r drawn tail xs found among first = (among, refl)

  abbrev pub NotCommitted : Stage → Type 0
  NotCommitted (Decided r drawn tail) = NotFirst tail a.counts
  NotCommitted stage = Unit {0}

  pub stage_holds : (stage : Stage) (found : ℕ) → CountsAt a.counts stage → NotCommitted stage
      → NotBack (told_by (took_at own a stage found))
      → HoldsStill (core_after own (took_at own a stage found)).active x (is_done stage) (told_by (took_at own a stage found))
  stage_holds (Undecided (Acquire pin change act)) found counts first back = landed_holds _
  stage_holds (Undecided (Act act)) found counts first back = landed_holds _
  stage_holds (Decided r drawn tail) found counts first back =
      let held = tail_holds r drawn tail a.counts found among first in (held.0, λ not. held.1)
  stage_holds _ found counts first back = absurd (none_among counts)
