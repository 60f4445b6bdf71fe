-- The steps that a core makes in a whole call, on words of the shared table.
use Rattle.flight_laws.specs.flight.proofs.{◌≡◌, ℕ, ◌<◌, Option, Some, None, IsSome, IfSome, refl, sym, ◌∙◌, ap, subst, Call, Own, Core}
use Rattle.flight_laws.specs.flight.proofs.{IsCore, word_of, place_is, move_of, absorbed, absorbed_in, moves_are_words}
use Rattle.flight_laws.specs.flight.proofs.{CoreFits.begun_fits, CoreFits.after_fits, AfterStep.absorbed_shape}
use Rattle.flight_laws.specs.core_invariant.specs.{WordOp, ActiveCall, Reply, size_of, returned_in}
use Rattle.call_steps.specs.core_words.specs.Due.{due_of, due_in}
use Rattle.call_steps.specs.call_stages.specs.declared.stages.Absorbed.{Absorbed}
use Rattle.spk_nums.specs.WordSteps.{place_in}
use Rattle.boot_words.specs.word_map.proofs.PlaceLemmas.{has_places}
use Rattle.core_kernel.specs.{declared.core_run.CoreRun.CoreRun, Running.running, Running.next_in, Running.answered}
use Rattle.core_kernel.specs.RunSteps.{IsReady, IsRun, said}
use Rattle.core_kernel.proofs.Along.{next_some}

due_is : (own : Own) (o : Option ActiveCall) → due_in own o ≡ next_in (record { own = own; active = o }) o
due_is own None = refl
due_is own (Some a) = refl

-- the next step of a core is that of its program
pub next_due : (c : Core) (op : WordOp) → due_of c ≡ Some op → next_in c c.active ≡ Some op
next_due c op due = sym (due_is c.own c.active) ∙ due

-- and is on a word of the table
pub due_inside : (c : Core) (op : WordOp) → IsCore c → due_of c ≡ Some op → place_in op < size_of c.own.layout
due_inside c op fits due =
    let step = next_some c c.active op (next_due c op due) in
    let word = moves_are_words c fits step.1 in
    subst (λ (n : ℕ). n < size_of c.own.layout) (sym (ap place_in step.0 ∙ place_is c.own.layout (move_of c)))
    ((has_places c.own.layout fits.own.shape).below (word_of (move_of c)) word)

pub same_size : (c : Core) (n : ℕ) → size_of (absorbed c n).own.layout ≡ size_of c.own.layout
same_size c n = ap size_of (absorbed_shape c n)

fits_in : (own : Own) (o : Option ActiveCall) (n : ℕ) → IsCore (record { own = own; active = o }) → IsSome o
    → IsCore (absorbed_in own o n)
fits_in own None n fits some = absurd (cc)
fits_in own (Some a) n fits some = after_fits own a n fits

-- after its step a core is in its ranges
pub due_fits : (c : Core) (op : WordOp) (n : ℕ) → IsCore c → due_of c ≡ Some op → IsCore (absorbed c n)
due_fits c op n fits due = fits_in c.own c.active n fits (next_some c c.active op (next_due c op due)).1

-- a program that has begun a call, and one that has made a step of it
pub run_begun : (p q : CoreRun) (call : Call) (last : Option (CoreRun × ℕ)) → IsReady p call → q ≡ running.begun p call
    → last ≡ None → IsRun q last
run_begun p q call last ready is none = record {
  fits = subst (λ (x : CoreRun). IsCore x.state) (sym is) (begun_fits p.state call ready.fits ready.limits);
  stepped = subst (λ (o : Option (CoreRun × ℕ)). IfSome o (λ s. q ≡ running.after s.0 s.1)) (sym none) tt;
}

pub run_on : (p q : CoreRun) (op : WordOp) (n : ℕ) (before last : Option (CoreRun × ℕ)) → IsRun p before → due_of p.state ≡ Some op
    → q ≡ running.after p n → last ≡ Some (p, n) → IsRun q last
run_on p q op n before last run due is made = record {
  fits = subst (λ (x : CoreRun). IsCore x.state) (sym is) (due_fits p.state op n run.fits due);
  stepped = subst (λ (o : Option (CoreRun × ℕ)). IfSome o (λ s. q ≡ running.after s.0 s.1)) (sym made) is;
}

-- what its last step has returned is kept
pub run_returned : (p : CoreRun) (last : Option (CoreRun × ℕ)) (r : Reply) → IsRun p last → said last ≡ Absorbed.Returned r
    → p.last ≡ Some r
run_returned p None r run is = absurd (cc)
run_returned p (Some s) r run is = ap (λ (q : CoreRun). q.last) run.stepped
    ∙ ap (λ (t : Absorbed). answered s.0.last (returned_in t)) is
