-- A step of a machine decides where its core is ready, and refuses where it is not: the laws of calls at the cores that stand for a trace.
use Rattle.time_laws.specs.flight.proofs.{◌≡◌, ℕ, true, false, ◌∷◌, Option, Some, None, refl, sym, ◌∙◌, ap, subst, IsSome, false≢true}
use Rattle.time_laws.specs.flight.proofs.{Setting, IsSetting, Call, Reply, told_of, Step, Trace, Open, phase, Own, Stage, Leave, move_of}
use Rattle.time_laws.specs.flight.proofs.{told_in, told_by, told_of_step, Took, GoesOn, Decides, Returns, Changes, took, Core, decided_in}
use Rattle.time_laws.specs.flight.proofs.{CallIs, phase_at, turned, MayStep, cores_after, IsMade, CoreFits.begun_fits, Made.made_stands}
use Rattle.time_laws.specs.core_invariant.specs.{Decided, ActiveCall, fresh, begun, CallFits, CoreIs}
use Rattle.time_laws.specs.history_laws.specs.{ReadyDecides, UnreadyRefuses}
use Rattle.time_laws.specs.call_stages.specs.{Cores.ready_in, Laws.reply_at, Laws.Refuses, Laws.IsDecision}
use Rattle.{time_laws.specs.flight.proofs.ready_after, time_laws.specs.kernel_rules.specs.Laws.IsRefusal}
use Rattle.time_laws.specs.call_stages.proofs.Decisions as decisions

-- What a core tells of a step that led to this.
decision_told : (k : Took) → IsDecision k → IsSome (decided_in (told_by k))
decision_told (Decides r a) is = refl
decision_told (Changes r change a) is = refl
decision_told _ is = absurd is

refusal_told : (k : Took) (r : Reply) → Refuses k → decided_in (told_by k) ≡ Some r → IsRefusal r
refusal_told k r refuses told = by k refuses told
  where
    none : None ≡ Some r → ⊥
    none h = cc

    same : (q : Reply) → Some q ≡ Some r → q ≡ r
    same q h = cc

    by : (k : Took) → Refuses k → decided_in (told_by k) ≡ Some r → IsRefusal r
    by (GoesOn a) refuses told = absurd (none told)
    by (Decides q a) refuses told = subst IsRefusal (same q told) refuses
    by (Returns q x) refuses told = absurd (none told)
    by (Changes q change a) refuses told = subst IsRefusal (same q told) refuses

-- A call that is in this phase is not decided.
undecided_at : (call other : Call) (s : Stage) → Open other ≡ phase_at call s → reply_at s ≡ None
undecided_at call other (Decided r drawn tail) is = absurd (cc)
undecided_at call other (Leave r x) is = absurd (cc)
undecided_at call other _ is = refl

module _ (setup : Setting) (setting : IsSetting setup) (t : Trace) (e : Step) (made : IsMade setup (e ∷ t)) where
  abbrev core : Core
  core = cores_after setup t e.core

  is : CoreIs setup core t e.core
  is = (made_stands setup setting t made.0).each e.core made.1.is_core

  -- what is told of the step, at which this call may begin
  abbrev Told : Option Call → Option Reply
  Told o = decided_in (told_of_step (turned o core) (told_of (move_of (turned o core)) e.found))

  decides : e.decides ≡ Told e.enters
  decides = ap (λ (x : Step). x.decides) made.1.made

  ready_told : (own : Own) (o : Option ActiveCall) (found : ℕ) (call : Call) → CallFits own o → CallIs setup t e.core own.table o
      → phase t e.core ≡ Open call → ready_in o ≡ true → IsSome (decided_in (told_in own o found))
  ready_told own None found call fits at is_open ready = absurd (false≢true ready)
  ready_told own (Some a) found call fits at is_open ready =
      decision_told (took own a found)
      (decisions.ready_decides own a found fits ready (undecided_at a.call call a.stage (sym is_open ∙ at.phase)))

  unready_told : (own : Own) (o : Option ActiveCall) (found : ℕ) (r : Reply) → CallFits own o → ready_in o ≡ false
      → decided_in (told_in own o found) ≡ Some r → IsRefusal r
  unready_told own None found r fits unready told = absurd (cc)
  unready_told own (Some a) found r fits unready told =
      refusal_told (took own a found) r (decisions.unready_refuses own a found fits unready) told

  pub ready_decides : ReadyDecides (ready_after setup) t e
  ready_decides call is_open ready = subst IsSome (sym decides) (by e.enters made.1.may)
    where
      -- a core that is ready is in a call, and begins none
      begins_none : (o : Option ActiveCall) → o ≡ None → ready_in o ≡ true → ⊥
      begins_none None none ready = false≢true ready
      begins_none (Some a) none ready = absurd (cc)

      by : (o : Option Call) → MayStep o core → IsSome (Told o)
      by None may = ready_told core.own core.active (told_of (move_of core) e.found) call is.fits.active is.active is_open ready
      by (Some next) may = absurd (begins_none core.active may.between ready)

  pub unready_refuses : UnreadyRefuses (ready_after setup) t e
  unready_refuses r unready decided = by e.enters made.1.may (sym decides ∙ decided)
    where
      by : (o : Option Call) → MayStep o core → Told o ≡ Some r → IsRefusal r
      by None may told = unready_told core.own core.active (told_of (move_of core) e.found) r is.fits.active unready told
      by (Some next) may told =
          unready_told core.own (Some (fresh next)) (told_of (move_of (begun core next)) e.found) r
          (begun_fits core next is.fits may.limits).active refl told
