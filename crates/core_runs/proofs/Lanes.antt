-- A runner's calls, one after another.
use Rattle.core_kernel.specs.flight_laws.specs.flight.proofs.{◌≡◌, ℕ, ◌+◌, ◌<◌, ◌≤◌, Bool, true, false, List, [], ◌∷◌, ◌++◌, length, take}
use Rattle.core_kernel.specs.flight_laws.specs.flight.proofs.{get_or, refl, sym, ◌∙◌, ap, subst, arith, append_assoc, IsTrue, length-append}
use Rattle.core_kernel.specs.flight_laws.specs.flight.proofs.{take_more, Call, Reply, Trace, calls_of}
use Rattle.core_kernel.specs.{replies_of, HasSeen, MakesCall}
use Rattle.{core_runs.specs.RunnerValue, core_runs.specs.MakesCalls, core_kernel.proofs.calls_of-append}
use Rattle.{core_kernel.proofs.replies_of-append, core_runs.specs.Runs.HasMade}

pub made_none : (u : RunnerValue) → u.replies ≡ [] → u.held ≡ false → HasSeen u.seat → HasMade u 0 u
made_none u none free seen = record {
  since = [];
  begins = refl;
  calls_are = refl;
  replies_are = sym none;
  count = ap length none;
  free = free;
  list = refl;
  core = refl;
  kernel = refl;
  seen = seen;
}

pub made_more : (u v w : RunnerValue) (n : ℕ) (call : Call) (r : Reply) → HasMade u n v → n < length u.calls → call ≡ get_or u.calls n call
    → MakesCall v.seat call r w.seat → HasSeen w.seat
    → w.replies ≡ v.replies ++ r ∷ [] → w.held ≡ v.held → w.calls ≡ v.calls → HasMade u (n + 1) w
made_more u v w n call r h low at m seen replies held list =
    let c : ℕ = u.seat.core in
    let calls : calls_of m.since c ≡ call ∷ [] = subst (λ (i : ℕ). calls_of m.since i ≡ call ∷ []) h.core m.calls in
    let answer : replies_of m.since c ≡ r ∷ [] = subst (λ (i : ℕ). replies_of m.since i ≡ r ∷ []) h.core m.replies in
    record {
      since = m.since ++ h.since;
      begins = m.begins ∙ ap (λ (l : Trace). m.since ++ l) h.begins ∙ sym (append_assoc m.since h.since u.seat.seen);
      calls_are = calls_of-append c m.since h.since ∙ (λ i. h.calls_are i ++ calls i) ∙ ap (λ x. take n u.calls ++ x ∷ []) at
          ∙ sym (take_more u.calls n call low);
      replies_are = replies_of-append c m.since h.since ∙ (λ i. h.replies_are i ++ answer i) ∙ sym replies;
      count = (let k = ap length replies ∙ length-append v.replies (r ∷ []) in let before = h.count in omega arith);
      free = held ∙ h.free;
      list = list ∙ h.list;
      core = m.core ∙ h.core;
      kernel = m.kernel ∙ h.kernel;
      seen = seen;
    }

-- a runner that stops after n calls
stops : (free held : Bool) (u v w : RunnerValue) (n : ℕ) → HasMade u n v → n ≤ length u.calls
    → w ≡ record { seat = v.seat; calls = v.calls; replies = v.replies; held = held } → (held ≡ false → n ≡ length u.calls)
    → (free ≡ true → held ≡ false) → MakesCalls free u w
stops free held u v w n h low is whole is_free = subst (MakesCalls free u) (sym is) record {
  since = h.since;
  begins = h.begins;
  calls_are = h.calls_are ∙ ap (λ (k : ℕ). take k u.calls) (sym h.count);
  replies_are = h.replies_are;
  within = (let k = h.count in omega arith);
  whole = λ f. h.count ∙ whole f;
  free = is_free;
  list = h.list;
  core = h.core;
  kernel = h.kernel;
  seen = h.seen;
}

pub stops_held : (free : Bool) (u v w : RunnerValue) (n : ℕ) → HasMade u n v → n ≤ length u.calls
    → w ≡ record { seat = v.seat; calls = v.calls; replies = v.replies; held = true } → (free ≡ true → ⊥) → MakesCalls free u w
stops_held free u v w n h low is not_free = stops free true u v w n h low is (λ f. absurd (cc)) (λ f. absurd (not_free f))

pub stops_last : (free : Bool) (u v : RunnerValue) (n : ℕ) → HasMade u n v → n ≡ length u.calls → MakesCalls free u v
stops_last free u v n h all =
    stops free false u v v n h (omega arith) (λ i. record { seat = v.seat; calls = v.calls; replies = v.replies; held = h.free i })
    (λ f. all) (λ f. refl)

pub not_true : (b : Bool) → b ≡ false → IsTrue b → ⊥
not_true b is_false is_true = cc
