-- A trace that has the calls of lists decides no more calls than these are.
use Rattle.told_run.specs.lone_kernel.specs.kernel_history.proofs as low
use low.{◌≡◌, ◌≢◌, inl, inr, ℕ, zero, suc, ◌+◌, ◌*◌, ◌<◌, ◌≤◌, ◌++◌, ◌==◌, Bool, true, false, refl, sym, ◌∙◌, ap, subst, arith, List, []}
use low.{◌∷◌, length, length-append, Option, Some, None, All, if◌then◌else◌, option_to_list, eqb-true, eq-eqb, ne_eqb, false≢true}
use low.{get_or_past, Setting, IsSetting, Call, Reply, Limits, sum_below, Event, Enters, Decides, Returns, phase_of, IsRun, Phase, Out}
use low.{Decided, phase, calls_of, after_enter, with_entry, with_decision, with_return, events_of, HasCalls, list_of}
use Rattle.told_run.specs.lone_kernel.specs.flight.specs.kernel_laws.proofs.{is_open, Phase as EventPhase, Out as is_out, Open as opens}
use Rattle.told_run.specs.lone_kernel.specs.flight.specs.kernel_laws.proofs.{Decided as is_decided_as, is_decided, limits_stay, runs_sound}
use Rattle.told_run.specs.lone_kernel.specs.core_invariant.specs.{Trace, Open}
use Rattle.std.proofs.{lemmas.Bool.cases_lt, lemmas.List.Elements.All-get_or}
use Rattle.{told_run.specs.lone_kernel.specs.flight.specs.kernel_laws.proofs.sum_one, origin_lines.specs.origin_rules.specs.Chains.decided}
use low.{Sums.sum_zero}

-- How many calls of core c were decided, and how many it has entered.
abbrev decided_by : ℕ → List Event → ℕ
decided_by c [] = 0
decided_by c (Enters d call ∷ events) = decided_by c events
decided_by c (Decides d call r ∷ events) = if c == d then decided_by c events + 1 else decided_by c events
decided_by c (Returns d ∷ events) = decided_by c events

abbrev entered_by : ℕ → List Event → ℕ
entered_by c [] = 0
entered_by c (Enters d call ∷ events) = if c == d then entered_by c events + 1 else entered_by c events
entered_by c (Decides d call r ∷ events) = entered_by c events
entered_by c (Returns d ∷ events) = entered_by c events

-- A core that is in an open call has entered one more than were decided.
abbrev open_one : EventPhase → ℕ
open_one is_out = 0
open_one (opens call) = 1
open_one (is_decided_as call r) = 0

none_open : (p : EventPhase) → is_decided p ≡ true → open_one p ≡ 0
none_open is_out e = refl
none_open (opens call) e = absurd (false≢true e)
none_open (is_decided_as call r) e = refl

entry_balance : (b : Bool) (c d : ℕ) (call : Call) (p q : EventPhase) (n m : ℕ) → (c == d) ≡ b → q ≡ is_out → (c ≡ d → p ≡ q)
    → n + open_one p ≡ m → n + open_one (if b then opens call else p) ≡ (if b then m + 1 else m)
entry_balance true c d call p q n m e out same before =
    let none : open_one p ≡ 0 = ap open_one (same (eqb-true c d e) ∙ out) in omega (arith, none, before)
entry_balance false c d call p q n m e out same before = before

decision_balance : (b : Bool) (c d : ℕ) (call : Call) (r : Reply) (p q : EventPhase) (n m : ℕ) → (c == d) ≡ b → q ≡ opens call
    → (c ≡ d → p ≡ q) → n + open_one p ≡ m
    → (if b then n + 1 else n) + open_one (if b then is_decided_as call r else p) ≡ m
decision_balance true c d call r p q n m e opened same before =
    let one : open_one p ≡ 1 = ap open_one (same (eqb-true c d e) ∙ opened) in omega (arith, one, before)
decision_balance false c d call r p q n m e opened same before = before

return_balance : (b : Bool) (c d : ℕ) (p q : EventPhase) (n m : ℕ) → (c == d) ≡ b → is_decided q ≡ true → (c ≡ d → p ≡ q)
    → n + open_one p ≡ m → n + open_one (if b then is_out else p) ≡ m
return_balance true c d p q n m e decided same before =
    let none : open_one p ≡ 0 = ap open_one (same (eqb-true c d e)) ∙ none_open q decided in omega (arith, none, before)
return_balance false c d p q n m e decided same before = before

balance : (setup : Setting) (events : List Event) → IsRun setup events → (c : ℕ)
    → decided_by c events + open_one (phase_of events c) ≡ entered_by c events
balance setup [] run c = refl
balance setup (Enters d call ∷ events) run c =
    entry_balance (c == d) c d call (phase_of events c) (phase_of events d) (decided_by c events) (entered_by c events) refl run.1.is_out
    (ap (phase_of events)) (balance setup events run.0 c)
balance setup (Decides d call r ∷ events) run c =
    decision_balance (c == d) c d call r (phase_of events c) (phase_of events d) (decided_by c events) (entered_by c events) refl
    run.1.is_open (ap (phase_of events)) (balance setup events run.0 c)
balance setup (Returns d ∷ events) run c =
    return_balance (c == d) c d (phase_of events c) (phase_of events d) (decided_by c events) (entered_by c events) refl
    run.1 (ap (phase_of events)) (balance setup events run.0 c)

-- ---- all cores

one_more : (c d n : ℕ) → c ≡ d → (if c == d then n + 1 else n) ≡ n + 1
one_more c d n same = ap (λ b. if b then n + 1 else n) (eq-eqb c d same)

none_more : (c d n : ℕ) → c ≢ d → (if c == d then n + 1 else n) ≡ n
none_more c d n other = ap (λ b. if b then n + 1 else n) (ne_eqb c d other)

add_up : (a b n m : ℕ) → a + n ≡ b + m → m ≡ n + 1 → a ≡ b + 1
add_up a b n m e is = omega (arith, e, is)

decided_sum : (setup : Setting) → IsSetting setup → (events : List Event) → IsRun setup events
    → sum_below (λ c. decided_by c events) setup.cores ≡ decided events
decided_sum setup lim [] run = sum_zero (λ c. 0) setup.cores (λ c below. refl)
decided_sum setup lim (Enters d call ∷ events) run = decided_sum setup lim events run.0
decided_sum setup lim (Decides d call r ∷ events) run =
    let here : d < setup.cores = subst (λ (l : Limits). d < l.cores) (limits_stay setup events)
    ((runs_sound setup lim events run.0).inside d (ap is_open run.1.is_open)).1 in
    add_up _ _ _ _
    (sum_one (λ c. decided_by c events) (λ c. if c == d then decided_by c events + 1 else decided_by c events) setup.cores d here
    (λ j other. none_more j d (decided_by j events) other))
    (one_more d d (decided_by d events) refl)
    ∙ ap (λ n. n + 1) (decided_sum setup lim events run.0)
decided_sum setup lim (Returns d ∷ events) run = decided_sum setup lim events run.0

sum_most : (f : ℕ → ℕ) (n : ℕ) → ((c : ℕ) → c < n → f c < 536870912) → sum_below f n ≤ n * 536870911
unfolding sum_below
sum_most f zero few = omega arith
sum_most f (suc n) few =
    let before = sum_most f n (λ c below. few c (omega (arith, below))) in
    let last : f n < 536870912 = few n (omega arith) in
    omega (arith, before, last)

-- ---- the calls of a trace

entered_return : (c d : ℕ) (returns : Option Reply) (events : List Event) → entered_by c (with_return returns d events) ≡ entered_by c events
entered_return c d None events = refl
entered_return c d (Some r) events = refl

entered_decision : (c d : ℕ) (decides : Option Reply) (p : Phase) (events : List Event)
    → entered_by c (with_decision decides p d events) ≡ entered_by c events
entered_decision c d None p events = refl
entered_decision c d (Some r) Out events = refl
entered_decision c d (Some r) (Open call) events = refl
entered_decision c d (Some r) (Decided call q) events = refl

entered_entry : (b : Bool) (c d : ℕ) (enters : Option Call) (events : List Event) (calls : List Call) → (c == d) ≡ b
    → entered_by c events ≡ length calls
    → entered_by c (with_entry enters d events) ≡ length (if b then calls ++ option_to_list enters else calls)
entered_entry true c d None events calls e before = before ∙ sym (ap (λ n. n) (length-append calls [] ∙ nothing (length calls)))
  where
    nothing : (n : ℕ) → n + 0 ≡ n
    nothing n = omega arith
entered_entry true c d (Some call) events calls e before =
    ap (λ b. if b then entered_by c events + 1 else entered_by c events) e ∙ ap (λ n. n + 1) before ∙ sym (length-append calls (call ∷ []))
entered_entry false c d None events calls e before = before
entered_entry false c d (Some call) events calls e before =
    ap (λ b. if b then entered_by c events + 1 else entered_by c events) e ∙ before

entered_calls : (t : Trace) (c : ℕ) → entered_by c (events_of t) ≡ length (calls_of t c)
entered_calls [] c = refl
entered_calls (e ∷ t) c =
    entered_return c e.core e.returns
    (with_decision e.decides (after_enter e.enters (phase t e.core)) e.core (with_entry e.enters e.core (events_of t)))
    ∙ entered_decision c e.core e.decides (after_enter e.enters (phase t e.core)) (with_entry e.enters e.core (events_of t))
    ∙ entered_entry (c == e.core) c e.core e.enters (events_of t) (calls_of t c) refl (entered_calls t c)

small_list : (lists : List (List Call)) (c : ℕ) → All (λ l. length l < 536870912) lists → length (list_of lists c) < 536870912
small_list lists c small = elim (cases_lt c (length lists)) [
  | inl below ↦ All-get_or (λ (l : List Call). length l < 536870912) lists c [] below small
  | inr past ↦ subst (λ (l : List Call). length l < 536870912) (sym (get_or_past lists c [] past)) (omega arith)
]

fewer : (d o n k : ℕ) → d + o ≡ n → n ≡ k → k < 536870912 → d < 536870912
fewer d o n k e same small = omega (arith, e, same, small)

bounded : (n sum all : ℕ) → sum ≤ n * 536870911 → n ≤ 8 → sum ≡ all → all < 4294967296
bounded n sum all most cores is = omega (arith, most, cores, is)

pub few_decided : (setup : Setting) → IsSetting setup → (lists : List (List Call)) → All (λ l. length l < 536870912) lists → (t : Trace)
    → IsRun setup (events_of t) → HasCalls lists t → decided (events_of t) < 4294967296
few_decided setup lim lists small t run calls =
    bounded setup.cores _ _
    (sum_most (λ c. decided_by c (events_of t)) setup.cores (λ c below.
    fewer _ _ _ _ (balance setup (events_of t) run c) (entered_calls t c ∙ ap length (calls c).finished) (small_list lists c small)))
    lim.most_cores (decided_sum setup lim (events_of t) run)
