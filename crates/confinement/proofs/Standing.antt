-- The origins stand for one event more.
use Rattle.call_judge.specs.seq_state.proofs.{◌≡◌, inl, inr, ℕ, ◌+◌, ◌<◌, ◌≤◌, ◌==◌, ◌&&◌, ◌^◌, Bool, true, false, ltb as nat_lt, refl, sym}
use Rattle.call_judge.specs.seq_state.proofs.{◌∙◌, ap, subst}
use Rattle.call_judge.specs.seq_state.proofs.{List, [], ◌∷◌, Option, Some, None, is_some, if◌then◌else◌, false≢true, ltb-true, lt-ltb}
use Rattle.call_judge.specs.seq_state.proofs.{le-ltb, option_map}
use Rattle.call_judge.specs.seq_state.proofs.{Capability, Setting, Call, Reply, Grace, Limits, State, with_core, put, entered, returned}
use Rattle.call_judge.specs.seq_state.proofs.{MayReply, state_by}
use Rattle.call_judge.specs.seq_state.proofs.{Event, Enters, Decides, Returns, after, Open, Out, is_decided, phase_of, IsRun, none_some}
use Rattle.call_judge.specs.seq_state.proofs.{limits_stay, opened}
use Rattle.call_judge.specs.seq_state.proofs.{state_of, SameGrace, SameState, Represents, same_by, same_then, same_core}
use Rattle.origin_rules.specs.{Origin, ChainValue, Put, puts_by, decided, origin_of}
use Rattle.call_judge.specs.seq_state.specs.kernel_rules.specs.{option_and_then, Core, start, passed, core_of}
use Rattle.confinement.specs.{Table, StandsFor, Takes, chain_known}
use Rattle.origin_rules.specs.Chains.{with_put, held_at, own_cap, with_origin}
use Rattle.confinement.specs.{Links.origin_at, Links.PutsBy, Links.origin_at_start, Links.put_origin, Known.Known, Known.IsChainOf}
use Rattle.confinement.proofs.Putting.{AreSlots, puts_by_same, puts_slots}
use Rattle.{std.proofs.lemmas.Bool.cases_eq, std.proofs.lemmas.Bool.and_parts, call_judge.specs.same_changes.proofs.Twins}
use Rattle.{call_judge.specs.same_changes.proofs.twins, call_judge.specs.same_changes.specs.kernel_laws.proofs.phase_own}
use Rattle.{call_judge.specs.same_changes.specs.kernel_laws.proofs.phase_other, call_judge.specs.seq_state.specs.Maps.Maps}
use Rattle.{call_judge.specs.Judged.JudgesExactly, call_judge.specs.Judged.IsJudged}

-- ---- states that are one for the machine

core_step : (t s : State) (c : ℕ) (f : Core → Core) → c < s.limits.cores → SameState t s
    → SameState (with_core t c (f (t.core c))) (with_core s c (f (s.core c)))
core_step t s c f below e = same_then _ _ _ (same_by _ _ (ap (λ k. with_core t c (f k)) (e.core c below)))
    (same_core t s c (f (s.core c)) e)

entered_same : (t s : State) (c : ℕ) → c < s.limits.cores → SameState t s → SameState (entered t c) (entered s c)
entered_same t s c below e = core_step t s c (λ k. record k { inside = true }) below e

put_both : (f k : ℕ → Bool) (c d : ℕ) → f d ≡ k d → put f c false d ≡ put k c false d
put_both f k c d same = ap (λ b. if d == c then false else b) same

test_both : (a b : Bool) (f k f' k' : ℕ → Bool) (d : ℕ) → a ≡ b → f d ≡ k d → f' d ≡ k' d
    → (if a then f else f') d ≡ (if b then k else k') d
test_both a b f k f' k' d e on off = ap (λ x. (if x then f else f') d) e ∙ chosen b
  where
    chosen : (x : Bool) → (if x then f else f') d ≡ (if x then k else k') d
    chosen true = on
    chosen false = off

passed_same : (n c : ℕ) (g h : Grace) → c < n → SameGrace n g h → SameGrace n (passed c g) (passed c h)
passed_same n c g h below e = record {
  waits = λ d less. put_both g.waits h.waits c d (e.waits d less);
  not_passed = λ d less. test_both (g.waits c) (h.waits c) g.not_passed h.not_passed (put g.not_passed c false) (put h.not_passed c false) d
      (e.waits c below) (e.not_passed d less) (put_both g.not_passed h.not_passed c d (e.not_passed d less));
  unflushed = e.unflushed;
  flush_unknown = λ d less. test_both (g.unflushed c) (h.unflushed c) g.flush_unknown h.flush_unknown (put g.flush_unknown c false)
      (put h.flush_unknown c false) d
      (e.unflushed c below) (e.flush_unknown d less) (put_both g.flush_unknown h.flush_unknown c d (e.flush_unknown d less));
}

returned_same : (t s : State) (c : ℕ) → c < s.limits.cores → SameState t s → SameState (returned t c) (returned s c)
returned_same t s c below e =
    let cores = core_step t s c (λ k. record k { inside = false }) below e in
    record {
      limits = e.limits;
      place = e.place;
      frame = e.frame;
      number = e.number;
      core = cores.core;
      grace = λ x is. passed_same s.limits.cores c (t.grace x) (s.grace x) below (e.grace x is);
    }

-- ---- the machine's cores and frames

cores_of : (setting : Setting) (events : List Event) (k : Maps) → Represents k (after setting events)
    → (state_of k).limits.cores ≡ setting.cores
cores_of setting events k same = ap (λ (l : Limits). l.cores) (same.limits ∙ limits_stay setting events)

frames_of : (setting : Setting) (events : List Event) → (after setting events).limits.frames ≡ setting.frames
frames_of setting events = ap (λ (l : Limits). l.frames) (limits_stay setting events)

core_here : (setting : Setting) (events : List Event) (c : ℕ) → c < setting.cores → c < (after setting events).limits.cores
core_here setting events c below = subst (λ (l : Limits). c < l.cores) (sym (limits_stay setting events)) below

-- ---- a core enters, and returns

pub enters : (o : Known) (k : Maps) (c : ℕ) (call : Call) → Represents k (entered (state_of o.kernel) c)
    → Takes o (Enters c call) (record o { kernel = k })
enters o k c call new setting lim events run few stands = record {
  kernel = same_then _ _ _ new (entered_same (state_of o.kernel) (after setting events) c
      (core_here setting events c run.1.is_core) stands.kernel);
  origins = stands.origins;
  decided = stands.decided;
}

-- ---- each event is of a core of the machine

not_open : (call : Call) → Open call ≡ Out → ⊥
not_open call e = cc

in_machine : (setting : Setting) (events : List Event) → IsRun setting events → (c : ℕ) → (phase_of events c ≡ Out → ⊥) → c < setting.cores
in_machine setting [] run c other = absurd (other refl)
in_machine setting (Enters d call ∷ events) run c other = elim (cases_eq c d) [
  | inl e ↦ subst (λ n. n < setting.cores) (sym e) run.1.is_core
  | inr ne ↦ in_machine setting events run.0 c (λ out. other (phase_other (Enters d call) events c ne ∙ out))
]
in_machine setting (Decides d call r ∷ events) run c other = elim (cases_eq c d) [
  | inl e ↦ in_machine setting events run.0 c
      (λ out. not_open call (sym run.1.is_open ∙ ap (phase_of events) (sym e) ∙ out))
  | inr ne ↦ in_machine setting events run.0 c (λ out. other (phase_other (Decides d call r) events c ne ∙ out))
]
in_machine setting (Returns d ∷ events) run c other = elim (cases_eq c d) [
  | inl e ↦ absurd (other (phase_own (Returns d) events c e))
  | inr ne ↦ in_machine setting events run.0 c (λ out. other (phase_other (Returns d) events c ne ∙ out))
]

core_of_event : (setting : Setting) (e : Event) (events : List Event) → IsRun setting (e ∷ events) → core_of e < setting.cores
core_of_event setting (Enters c call) events run = run.1.is_core
core_of_event setting (Decides c call r) events run =
    in_machine setting events run.0 c (λ out. not_open call (sym run.1.is_open ∙ out))
core_of_event setting (Returns c) events run =
    in_machine setting events run.0 c (λ out. false≢true (sym (ap is_decided out) ∙ run.1))

pub no_core : (o : Known) (e : Event) → false ≡ nat_lt (core_of e) (state_of o.kernel).limits.cores → Takes o e o
no_core o e past setting lim events run few stands =
    absurd (false≢true (past ∙ lt-ltb (core_of e) (state_of o.kernel).limits.cores
    (subst (λ n. core_of e < n) (sym (cores_of setting events o.kernel stands.kernel)) (core_of_event setting e events run))))

pub returns : (o : Known) (k : Maps) (c : ℕ) → Represents k (returned (state_of o.kernel) c)
    → Takes o (Returns c) (record o { kernel = k })
returns o k c new setting lim events run few stands = record {
  kernel = same_then _ _ _ new (returned_same (state_of o.kernel) (after setting events) c
      (core_here setting events c (core_of_event setting (Returns c) events run)) stands.kernel);
  origins = stands.origins;
  decided = stands.decided;
}

-- ---- a call is decided

judged_true : (s : State) (c : ℕ) (call : Call) (r : Reply) (b : Bool) (k : Maps) → MayReply s c call r → IsJudged s c call r b k
    → Represents k (state_by s c call r)
judged_true s c call r true k may is = is.state
judged_true s c call r false k may is = absurd (is.forbidden may)

-- What the table says after a put.
put_says : (frames d : ℕ) (origin : ℕ → ℕ → Origin) (table table' : Table) (put : Option Put)
    → ((f i : ℕ) → f < frames → i < 64 → origin_at table f i ≡ Some (origin f i))
    → ((p : Put) → put ≡ Some p → p.parent.node < frames) → ((p : Put) → put ≡ Some p → p.parent.index < 64)
    → ((p : Put) → put ≡ Some p → p.at.node < frames) → ((p : Put) → put ≡ Some p → p.at.index < 64)
    → PutsBy table d put table'
    → (f i : ℕ) → f < frames → i < 64 → origin_at table' f i ≡ Some (with_put d put origin f i)
put_says frames d origin table table' None says a b x y is f i f_below i_below =
    ap (λ (t : Table). origin_at t f i) is ∙ says f i f_below i_below
put_says frames d origin table table' (Some p) says a b x y is f i f_below i_below =
    is (origin p.parent.node p.parent.index) (says p.parent.node p.parent.index (a p refl) (b p refl))
    (ap is_some (says p.at.node p.at.index (x p refl) (y p refl))) f i i_below
    ∙ by_test (f == p.at.node && i == p.at.index)
  where
    by_test : (b : Bool) → (if b then Some (put_origin d p.what (origin p.parent.node p.parent.index)) else origin_at table f i)
        ≡ Some (if b then put_origin d p.what (origin p.parent.node p.parent.index) else origin f i)
    by_test true = refl
    by_test false = says f i f_below i_below

pub decides : (o : Known) (k : Maps) (table : Table) (d : ℕ) (c : ℕ) (call : Call) (r : Reply) (b : Bool)
    → (o.decided + 1 < 2 ^ 32 → d ≡ o.decided + 1) → PutsBy o.table d (puts_by (state_of o.kernel) c call r) table
    → JudgesExactly o.kernel c call r b k
    → Takes o (Decides c call r) (record { kernel = k; table = table; decided = d })
decides o k table d c call r b counted puts judges setting lim events run few stands = record {
  kernel = judged_true (after setting events) c call r b k run.1.permitted (judges setting lim events run.0 run.1.is_open stands.kernel);
  origins = put_says setting.frames (decided events + 1) (origin_of setting events) o.table table
      (puts_by (after setting events) c call r) stands.origins
      (λ p e. in_frames (slots p e).parent.node) (λ p e. (slots p e).parent.index)
      (λ p e. in_frames (slots p e).at.node) (λ p e. (slots p e).at.index)
      (subst (λ n. PutsBy o.table n (puts_by (after setting events) c call r) table) number
      (subst (λ put. PutsBy o.table d put table) (puts_by_same w call r) puts));
  decided = number;
}
  where
    w : Twins (state_of o.kernel) (after setting events) (opened events) c
    w = twins setting lim events run.0 c call run.1.is_open (state_of o.kernel) stands.kernel

    number : d ≡ decided events + 1
    number = counted (subst (λ n. n + 1 < 2 ^ 32) (sym stands.decided) few) ∙ ap (λ n. n + 1) stands.decided

    slots : (p : Put) → puts_by (after setting events) c call r ≡ Some p → AreSlots w p
    slots p e = puts_slots w call r p e

    in_frames : {f : ℕ} → f < (after setting events).limits.frames → f < setting.frames
    in_frames {f} below = subst (λ n. f < n) (frames_of setting events) below

-- ---- the start, and chains

pub starts : (setting : Setting) (k : Maps) (table : Table) → Represents k (start setting)
    → ((f i : ℕ) → f < setting.frames → i < 64 → origin_at table f i ≡ Some (origin_at_start i))
    → StandsFor setting [] (record { kernel = k; table = table; decided = 0 })
starts setting k table same origins = record { kernel = same; origins = origins; decided = refl }

held_same : (t s : State) → SameState t s → (f i : ℕ) → held_at t f i ≡ held_at s f i
held_same t s same f i =
    ap (λ (l : Limits). if nat_lt f l.frames && nat_lt i 64 then own_cap (t.place f i) else None) same.limits
    ∙ by_test (nat_lt f s.limits.frames && nat_lt i 64) refl
  where
    by_test : (b : Bool) → (nat_lt f s.limits.frames && nat_lt i 64) ≡ b
        → (if b then own_cap (t.place f i) else None) ≡ (if b then own_cap (s.place f i) else None)
    by_test true e =
        let both = and_parts (nat_lt f s.limits.frames) (nat_lt i 64) e in
        ap own_cap (same.place f i (ltb-true f s.limits.frames both.0) (ltb-true i 64 both.1))
    by_test false e = refl

-- What is held is in a place of the machine.
held_place : (s : State) (f i : ℕ) (k : Capability) → held_at s f i ≡ Some k → (f < s.limits.frames) × (i < 64)
held_place s f i k = by_test (nat_lt f s.limits.frames && nat_lt i 64) refl
  where
    by_test : (b : Bool) → (nat_lt f s.limits.frames && nat_lt i 64) ≡ b → (if b then own_cap (s.place f i) else None) ≡ Some k
        → (f < s.limits.frames) × (i < 64)
    by_test true e is =
        let both = and_parts (nat_lt f s.limits.frames) (nat_lt i 64) e in
        (ltb-true f s.limits.frames both.0, ltb-true i 64 both.1)
    by_test false e is = absurd (none_some k is)

-- What is known of a place is its chain.
pub known_chain : (o : Known) (f i : ℕ) → IsChainOf o f i (chain_known o f i)
known_chain o f i setting lim events run stands =
    ap (option_and_then (λ k. option_map (λ r. with_origin r k) (origin_at o.table f i)))
    (held_same (state_of o.kernel) (after setting events) stands.kernel f i)
    ∙ by_held (held_at (after setting events) f i) refl
  where
    by_held : (x : Option Capability) → held_at (after setting events) f i ≡ x
        → option_and_then (λ k. option_map (λ r. with_origin r k) (origin_at o.table f i)) x
        ≡ option_map (with_origin (origin_of setting events f i)) x
    by_held None is = refl
    by_held (Some k) is =
        let place = held_place (after setting events) f i k is in
        ap (option_map (λ r. with_origin r k)) (stands.origins f i (subst (λ n. f < n) (frames_of setting events) place.0) place.1)

pub chain_is : (o : Known) (f i : ℕ) (found : Option ChainValue) → found ≡ chain_known o f i → IsChainOf o f i found
chain_is o f i found is setting lim events run stands = is ∙ known_chain o f i setting lim events run stands

-- What is known where nothing is held, past the places of a frame, and of what is held.
pub none_known : (o : Known) (f i : ℕ) → None ≡ held_at (state_of o.kernel) f i → None ≡ chain_known o f i
none_known o f i none = ap (option_and_then (λ k. option_map (λ r. with_origin r k) (origin_at o.table f i))) none

pub past_known : (o : Known) (f i : ℕ) → 64 ≤ i → None ≡ chain_known o f i
past_known o f i past = none_known o f i (sym (by_frame (nat_lt f (state_of o.kernel).limits.frames)))
  where
    by_frame : (b : Bool) → (if b && nat_lt i 64 then own_cap ((state_of o.kernel).place f i) else None) ≡ None
    by_frame true = ap (λ t. if t then own_cap ((state_of o.kernel).place f i) else None) (le-ltb i 64 past)
    by_frame false = refl

pub found_known : (o : Known) (f i : ℕ) (k : Capability) (found : Option ChainValue) → Some k ≡ held_at (state_of o.kernel) f i
    → found ≡ option_map (λ r. with_origin r k) (origin_at o.table f i) → found ≡ chain_known o f i
found_known o f i k found has is =
    is ∙ ap (option_and_then (λ k. option_map (λ r. with_origin r k) (origin_at o.table f i))) has
