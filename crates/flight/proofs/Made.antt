-- Where the cores are after a trace that is the machine's, they stand for it, and each of its steps is good.
use Rattle.work_invariant.specs as low
use low.step_ways.proofs.{◌≡◌, ℕ, [], ◌∷◌, sym, ◌∙◌, ap, subst, Setting, IsSetting, word_of, Step, Trace, last_left, Invariant, IsGood}
use Rattle.flight.specs.{step_of, core_after, cores_after, stepping_core, IsMadeStep, IsMade, found_by}
use low.{boot_words.specs.kernel_history.specs.Graces.KeepsTime, step_ways.proofs.Good.stands_on, step_ways.proofs.Users.SparesCounted}
use Rattle.{flight.specs.Theorems.MadeStands, flight.proofs.Boot.boots, flight.proofs.Advance.good_on}

-- What a made step found is what its core finds.
pub finds : (setup : Setting) (t : Trace) (e : Step) → IsMadeStep setup t e → e.found ≡ found_by setup t (stepping_core setup t e)
finds setup t e step = step.found ∙ ap (λ m. last_left setup t (word_of m)) (ap (λ (x : Step). x.move) step.made)

-- A made step is good.
made_good : (setup : Setting) → IsSetting setup → (t : Trace) (e : Step) → IsMadeStep setup t e → Invariant setup (cores_after setup t) t
    → IsGood setup (cores_after setup t) t e (core_after (stepping_core setup t e) e.found)
made_good setup lim t e step stands =
    subst (λ (x : Step). IsGood setup (cores_after setup t) t x (core_after (stepping_core setup t e) e.found)) (sym step.made)
    (subst Goal (sym (finds setup t e step)) (good_on setup lim (cores_after setup t) t stands e.core step.is_core e.enters step.may))
  where
    Goal : ℕ → Type 0
    Goal found =
        IsGood setup (cores_after setup t) t (step_of e.core e.enters (stepping_core setup t e) found)
        (core_after (stepping_core setup t e) found)

pub made_stands : MadeStands
made_stands setup lim [] made = boots setup lim
made_stands setup lim (e ∷ t) made =
    let stands = made_stands setup lim t made.0 in
    stands_on setup lim (cores_after setup t) t stands e
    (core_after (stepping_core setup t e) e.found) (made_good setup lim t e made.1 stands)

-- A made step keeps time.
pub made_times : (setup : Setting) → IsSetting setup → (t : Trace) (e : Step) → IsMade setup (e ∷ t) → KeepsTime setup t e
made_times setup lim t e made = (made_good setup lim t e made.1 (made_stands setup lim t made.0)).time

-- And ends the grace period of a frame only where its core holds all counters of the frame.
pub made_counted : (setup : Setting) → IsSetting setup → (t : Trace) (e : Step) → IsMade setup (e ∷ t) → SparesCounted setup t e
made_counted setup lim t e made = (made_good setup lim t e made.1 (made_stands setup lim t made.0)).counted
