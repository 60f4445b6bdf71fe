-- Along a history of one core: where the core is between calls, in an open one and in a decided one, what the sequential kernel has come to.
use Rattle.kernel_history.proofs.{◌≡◌, ◌≢◌, inl, inr, ℕ, ◌<◌, List, [], ◌∷◌, ◌++◌, map, length, append-nil, Option, Some, None, All, refl}
use Rattle.kernel_history.proofs.{sym, ◌∙◌, ap, subst, arith, option_to_list, map-append, Setting, InLimits, Call, Reply, Decision, State}
use Rattle.kernel_history.proofs.{start, state_by, alone, Step, Phase, Out, Decided, phase, after_enter, after_decide, after_return}
use Rattle.kernel_history.proofs.{state_entered, state_decided, state_returned, state_after, state_before, calls_of, decision_at}
use Rattle.kernel_history.proofs.{decisions_of, MayEnter, MayDecide, MayFollow, IsLegal, IsAlone, IsFirst, phase-own, phase-other}
use Rattle.kernel_history.proofs.{calls_of-own, calls_of-other}
use Rattle.kernel_history.specs.kernel_rules.specs.{entered, returned, plain_reply, plain_replies, plain_step, plain_steps}
use Rattle.kernel_history.specs.{MayReturn, UnlessEnters, IsUndisturbed, KeepsFirst}
use Rattle.std.proofs.lemmas.List.Elements.{All-nil, All-push}
use Rattle.kernel_history.specs.{Trace.Trace, Trace.Open, Alone.AnswersAlone}
use Rattle.one_core_laws.specs.Plainly.{replies_in, IsPlain, OneCoreIsPlain, ReturnsPlainly}

-- ---- one call more

pub steps_more : (s : State) (calls : List Call) (call : Call)
    → plain_steps s 0 (calls ++ call ∷ []) ≡ plain_step (plain_steps s 0 calls) 0 call
steps_more s [] call = refl
steps_more s (c ∷ calls) call = steps_more (plain_step s 0 c) calls call

pub replies_more : (s : State) (calls : List Call) (call : Call)
    → plain_replies s 0 (calls ++ call ∷ []) ≡ plain_replies s 0 calls ++ plain_reply (plain_steps s 0 calls) 0 call ∷ []
replies_more s [] call = refl
replies_more s (c ∷ calls) call = ap (λ rs. plain_reply s 0 c ∷ rs) (replies_more (plain_step s 0 c) calls call)

-- Lists that end with one more are equal in what stands before and in what is last.
pub last_same : {A : Type 0} (xs ys : List A) (x y : A) → xs ++ x ∷ [] ≡ ys ++ y ∷ [] → (xs ≡ ys) × (x ≡ y)
last_same [] [] x y e = (refl, heads x y [] [] e)
  where
    heads : {A : Type 0} (x y : A) (xs ys : List A) → x ∷ xs ≡ y ∷ ys → x ≡ y
    heads x y xs ys e = cc
last_same [] (b ∷ []) x y e = absurd (cc)
last_same [] (b ∷ (c ∷ ys)) x y e = absurd (cc)
last_same (a ∷ []) [] x y e = absurd (cc)
last_same (a ∷ (c ∷ xs)) [] x y e = absurd (cc)
last_same (a ∷ xs) (b ∷ ys) x y e =
    let rest = last_same xs ys x y (tails a b (xs ++ x ∷ []) (ys ++ y ∷ []) e) in
    let first = heads a b (xs ++ x ∷ []) (ys ++ y ∷ []) e in
    ((λ i. first i ∷ rest.0 i), rest.1)
  where
    heads : {A : Type 0} (x y : A) (xs ys : List A) → x ∷ xs ≡ y ∷ ys → x ≡ y
    heads x y xs ys e = cc

    tails : {A : Type 0} (x y : A) (xs ys : List A) → x ∷ xs ≡ y ∷ ys → xs ≡ ys
    tails x y xs ys e = cc

-- ---- the phases of core 0, from state z on

-- It has entered this call after those before.
record Opened (z : State) (call : Call) (s : State) (calls : List Call) (rs : List Reply) : Type 0 where
  before : List Call
  calls_are : calls ≡ before ++ call ∷ []
  state : s ≡ entered (plain_steps z 0 before) 0
  replies : rs ≡ plain_replies z 0 before

-- It has also been answered, as in the sequential kernel.
record Answered (z : State) (call : Call) (r : Reply) (s : State) (calls : List Call) (rs : List Reply) : Type 0 where
  before : List Call
  calls_are : calls ≡ before ++ call ∷ []
  reply : r ≡ plain_reply (plain_steps z 0 before) 0 call
  state : s ≡ state_by (entered (plain_steps z 0 before) 0) 0 call r
  replies : rs ≡ plain_replies z 0 calls

abbrev Goes : State → Phase → State → List Call → List Reply → Type 0
Goes z Out s calls rs = (s ≡ plain_steps z 0 calls) × (rs ≡ plain_replies z 0 calls)
Goes z (Open call) s calls rs = Opened z call s calls rs
Goes z (Decided call r) s calls rs = Answered z call r s calls rs

-- An invocation.
enters : (z s : State) (o : Option Call) (p : Phase) (calls : List Call) (rs : List Reply) → MayEnter o p → Goes z p s calls rs
    → Goes z (after_enter o p) (state_entered o s 0) (calls ++ option_to_list o) rs
enters z s None p calls rs may g = subst (λ l. Goes z p s l rs) (sym (append-nil calls)) g
enters z s (Some call) p calls rs may g =
    let out : Goes z Out s calls rs = subst (λ q. Goes z q s calls rs) may.0 g in
    record { before = calls; calls_are = refl; state = ap (λ x. entered x 0) out.0; replies = out.1 }

-- What a decision in this phase is: the sequential kernel's, in an open call.
abbrev Decides : Option Reply → Phase → State → Type 0
Decides None p s = Unit {0}
Decides (Some r) Out s = ⊥
Decides (Some r) (Open call) s = r ≡ alone s 0 call
Decides (Some r) (Decided call q) s = ⊥

decides : (z s : State) (o : Option Reply) (p : Phase) (calls : List Call) (rs : List Reply) → Decides o p s → Goes z p s calls rs
    → Goes z (after_decide o p) (state_decided o p s 0) calls (rs ++ option_to_list o)
decides z s None p calls rs may g = subst (λ l. Goes z p s calls l) (sym (append-nil rs)) g
decides z s (Some r) Out calls rs may g = absurd may
decides z s (Some r) (Decided call q) calls rs may g = absurd may
decides z s (Some r) (Open call) calls rs may g =
    let reply : r ≡ plain_reply (plain_steps z 0 g.before) 0 call = may ∙ ap (λ x. alone x 0 call) g.state in
    record {
      before = g.before;
      calls_are = g.calls_are;
      reply = reply;
      state = ap (λ x. state_by x 0 call r) g.state;
      replies = (λ i. g.replies i ++ reply i ∷ []) ∙ sym (replies_more z g.before call) ∙ ap (plain_replies z 0) (sym g.calls_are);
    }

-- A response.
abbrev Returns : Option Reply → Phase → Type 0
Returns None p = Unit {0}
Returns (Some r) Out = ⊥
Returns (Some r) (Open call) = ⊥
Returns (Some r) (Decided call q) = q ≡ r

returns : (z s : State) (o : Option Reply) (p : Phase) (calls : List Call) (rs : List Reply) → Returns o p → Goes z p s calls rs
    → Goes z (after_return o p) (state_returned o s 0) calls rs
returns z s None p calls rs may g = g
returns z s (Some r) Out calls rs may g = absurd may
returns z s (Some r) (Open call) calls rs may g = absurd may
returns z s (Some r) (Decided call q) calls rs may g =
    let at : State = plain_steps z 0 g.before in (
      ap (λ x. returned x 0) (g.state ∙ ap (state_by (entered at 0) 0 call) g.reply) ∙ sym (steps_more z g.before call)
          ∙ ap (plain_steps z 0) (sym g.calls_are),
      g.replies,
    )

-- ---- the history

decided_reply : (o : Option Reply) (c n : ℕ) → map (λ (d : Decision). d.reply) (decision_at o c n) ≡ option_to_list o
decided_reply None c n = refl
decided_reply (Some r) c n = refl

may_decide : (setup : Setting) (t : Trace) (e : Step) (o : Option Reply) (p : Phase) → MayDecide setup t e o p
    → (s : State) → ((r : Reply) (call : Call) → o ≡ Some r → p ≡ Open call → r ≡ alone s 0 call) → Decides o p s
may_decide setup t e None p may s first = tt
may_decide setup t e (Some r) Out may s first = let wrong = may.is_open in absurd (cc)
may_decide setup t e (Some r) (Open call) may s first = first r call refl refl
may_decide setup t e (Some r) (Decided call q) may s first = let wrong = may.is_open in absurd (cc)

may_return : (o : Option Reply) (p : Phase) → MayReturn o p → Returns o p
may_return None p may = tt
may_return (Some r) Out may = let wrong = may.was_decided in absurd (cc)
may_return (Some r) (Open call) may = let wrong = may.was_decided in absurd (cc)
may_return (Some r) (Decided call q) may = let same = may.was_decided in cc

is_first : (setup : Setting) (t : Trace) (e : Step) (o : Option Reply) (p : Phase) → IsFirst setup t e o p → (r : Reply) (call : Call)
    → o ≡ Some r → p ≡ Open call → r ≡ alone (state_before setup t e) e.core call
is_first setup t e None p first r call is at = absurd (cc)
is_first setup t e (Some q) Out first r call is at = absurd (cc)
is_first setup t e (Some q) (Open k) first r call is at =
    let same : q ≡ r = cc in
    let other : k ≡ call = cc in
    sym same ∙ first ∙ ap (alone (state_before setup t e) e.core) other
is_first setup t e (Some q) (Decided k p) first r call is at = absurd (cc)

unless_enters : {Said : Type 0} (o : Option Call) → Said → UnlessEnters o Said
unless_enters None said = said
unless_enters (Some call) said = tt

fits_more : (o : Option Call) (p : Phase) (calls : List Call) → MayEnter o p → All InLimits calls → All InLimits (calls ++ option_to_list o)
fits_more None p calls may fit = subst (All InLimits) (sym (append-nil calls)) fit
fits_more (Some call) p calls may fit = All-push InLimits calls call fit may.1

module _ (setup : Setting) (one : setup.cores ≡ 1) where
  is_zero : (t : Trace) (e : Step) → MayFollow setup t e → e.core ≡ 0
  is_zero t e may = let below = may.is_core in omega (arith, one, below)

  others_out : (t : Trace) → IsLegal setup t → (c : ℕ) → c ≢ 0 → phase t c ≡ Out
  others_out [] legal c other = refl
  others_out (e ∷ t) legal c other =
      phase-other c e t (λ same. other (same ∙ is_zero t e legal.1)) ∙ others_out t legal.0 c other

  no_others : (t : Trace) → IsLegal setup t → (c : ℕ) → c ≢ 0 → calls_of t c ≡ []
  no_others [] legal c other = refl
  no_others (e ∷ t) legal c other =
      calls_of-other c e t (λ same. other (same ∙ is_zero t e legal.1)) ∙ no_others t legal.0 c other

  undisturbed : (t : Trace) → IsLegal setup t → (c : ℕ) → c ≡ 0 → IsUndisturbed t c
  undisturbed [] legal c own = tt
  undisturbed (e ∷ t) legal c own = (is_zero t e legal.1 ∙ sym own, unless_enters e.enters (undisturbed t legal.0 c own))

  is_alone : (t : Trace) (e : Step) → IsLegal setup (e ∷ t) → IsAlone t e
  is_alone t e legal =
      let own = is_zero t e legal.1 in
      record {
        others_out = λ d other. others_out t legal.0 d (λ same. other (same ∙ sym own));
        undisturbed = unless_enters e.enters (undisturbed t legal.0 e.core own);
      }

  limits : (t : Trace) → IsLegal setup t → All InLimits (calls_of t 0)
  limits [] legal = All-nil InLimits
  limits (e ∷ t) legal = subst (All InLimits) (sym (calls_of-own 0 e t (sym (is_zero t e legal.1))))
      (fits_more e.enters (phase t e.core) (calls_of t 0) legal.1.enters (limits t legal.0))

  module _ (t : Trace) (e : Step) (legal : IsLegal setup (e ∷ t)) (first : AnswersAlone setup t e)
      (before : Goes (start setup) (phase t 0) (state_after setup t) (calls_of t 0) (replies_in t)) where
    abbrev z : State
    z = start setup

    abbrev inside : State
    inside = state_entered e.enters (state_after setup t) 0

    abbrev in_call : Phase
    in_call = after_enter e.enters (phase t 0)

    own : e.core ≡ 0
    own = is_zero t e legal.1

    went_in : Goes z in_call inside (calls_of t 0 ++ option_to_list e.enters) (replies_in t)
    went_in = enters z (state_after setup t) e.enters (phase t 0) (calls_of t 0) (replies_in t)
        (subst (λ c. MayEnter e.enters (phase t c)) own legal.1.enters) before

    decided_so : Decides e.decides in_call inside
    decided_so = subst (λ c. Decides e.decides (after_enter e.enters (phase t c)) (state_entered e.enters (state_after setup t) c)) own
        (may_decide setup t e e.decides (after_enter e.enters (phase t e.core)) legal.1.decides (state_before setup t e)
        (λ r call is at. is_first setup t e e.decides (after_enter e.enters (phase t e.core)) (first (is_alone t e legal)) r call is at
        ∙ ap (λ c. alone (state_before setup t e) c call) own))

    went_on : Goes z (after_decide e.decides in_call) (state_decided e.decides in_call inside 0)
        (calls_of t 0 ++ option_to_list e.enters) (replies_in t ++ option_to_list e.decides)
    went_on = decides z inside e.decides in_call (calls_of t 0 ++ option_to_list e.enters) (replies_in t) decided_so went_in

    returned_so : Returns e.returns (after_decide e.decides in_call)
    returned_so = may_return e.returns (after_decide e.decides (after_enter e.enters (phase t 0)))
        (subst (λ c. MayReturn e.returns (after_decide e.decides (after_enter e.enters (phase t c)))) own legal.1.returns)

    went_out : Goes z (after_return e.returns (after_decide e.decides in_call))
        (state_returned e.returns (state_decided e.decides in_call inside 0) 0)
        (calls_of t 0 ++ option_to_list e.enters) (replies_in t ++ option_to_list e.decides)
    went_out = returns z (state_decided e.decides in_call inside 0) e.returns (after_decide e.decides in_call)
        (calls_of t 0 ++ option_to_list e.enters) (replies_in t ++ option_to_list e.decides) returned_so went_on

    phase_is : after_return e.returns (after_decide e.decides in_call) ≡ phase (e ∷ t) 0
    phase_is = sym (phase-own 0 e t (sym own))

    state_is : state_returned e.returns (state_decided e.decides in_call inside 0) 0 ≡ state_after setup (e ∷ t)
    state_is = ap (λ c. state_returned e.returns (state_decided e.decides (after_enter e.enters (phase t c))
        (state_entered e.enters (state_after setup t) c) c) c) (sym own)

    calls_are : calls_of t 0 ++ option_to_list e.enters ≡ calls_of (e ∷ t) 0
    calls_are = sym (calls_of-own 0 e t (sym own))

    replies_are : replies_in t ++ option_to_list e.decides ≡ replies_in (e ∷ t)
    replies_are = let n : ℕ = length (calls_of (e ∷ t) e.core) in
        ap (λ l. replies_in t ++ l) (sym (decided_reply e.decides e.core n))
        ∙ sym (map-append (λ (d : Decision). d.reply) (decisions_of t) (decision_at e.decides e.core n))

    one_step : Goes z (phase (e ∷ t) 0) (state_after setup (e ∷ t)) (calls_of (e ∷ t) 0) (replies_in (e ∷ t))
    one_step = subst (λ p. Goes z p (state_after setup (e ∷ t)) (calls_of (e ∷ t) 0) (replies_in (e ∷ t))) phase_is
        (subst (λ s. Goes z (after_return e.returns (after_decide e.decides in_call)) s (calls_of (e ∷ t) 0) (replies_in (e ∷ t))) state_is
        (subst (λ l. Goes z (after_return e.returns (after_decide e.decides in_call))
        (state_returned e.returns (state_decided e.decides in_call inside 0) 0) l (replies_in (e ∷ t))) calls_are
        (subst (λ l. Goes z (after_return e.returns (after_decide e.decides in_call))
        (state_returned e.returns (state_decided e.decides in_call inside 0) 0) (calls_of t 0 ++ option_to_list e.enters) l)
        replies_are went_out)))

    -- The reply that the step returns.
    answered : (r : Reply) → e.returns ≡ Some r → (pre : List Call) (call : Call) → calls_of (e ∷ t) 0 ≡ pre ++ call ∷ []
        → r ≡ plain_reply (plain_steps z 0 pre) 0 call
    answered r is pre call calls = by_phase (after_decide e.decides in_call) went_on
        (subst (λ o. Returns o (after_decide e.decides in_call)) is returned_so)
      where
        by_phase : (p : Phase) → Goes z p (state_decided e.decides in_call inside 0) (calls_of t 0 ++ option_to_list e.enters)
            (replies_in t ++ option_to_list e.decides) → Returns (Some r) p → r ≡ plain_reply (plain_steps z 0 pre) 0 call
        by_phase Out g may = absurd may
        by_phase (Open k) g may = absurd may
        by_phase (Decided k q) g may =
            let same = last_same g.before pre k call (sym g.calls_are ∙ calls_are ∙ calls) in
            sym may ∙ g.reply ∙ (λ i. plain_reply (plain_steps z 0 (same.0 i)) 0 (same.1 i))

  goes : (t : Trace) → IsLegal setup t → KeepsFirst setup t
      → Goes (start setup) (phase t 0) (state_after setup t) (calls_of t 0) (replies_in t)
  goes [] legal first = (refl, refl)
  goes (e ∷ t) legal first = one_step t e legal first.1 (goes t legal.0 first.0)

pub one_core_is_plain : OneCoreIsPlain
one_core_is_plain setup one t legal first out =
    let g : Goes (start setup) Out (state_after setup t) (calls_of t 0) (replies_in t) =
    subst (λ p. Goes (start setup) p (state_after setup t) (calls_of t 0) (replies_in t)) out (goes setup one t legal first) in
    record {
      state = g.0;
      replies = g.1;
      limits = limits setup one t legal;
      no_others = no_others setup one t legal;
      others_out = others_out setup one t legal;
    }

pub returns_plainly : ReturnsPlainly
returns_plainly setup one e t legal first r is before call calls =
    answered setup one t e legal first.1 (goes setup one t legal.0 first.0) r is before call calls
