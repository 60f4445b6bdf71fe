-- A decision that changes what its core has of its own, beside the calls that it has counted: of whatever reply, and of whatever it makes
-- of its word. What it leaves of marks, words and sums is its own to show.
use Rattle.kept_facts.proofs.{◌≡◌, ℕ, ◌+◌, ◌^◌, ◌<◌, ◌≤◌, false, ◌∷◌, Some, None, arith, refl, sym, ◌∙◌, ap, subst, Setting, IsSetting}
use Rattle.kept_facts.proofs.{Reply, Word, Move, word_of, left_of, put, alone, Step, Trace, Open, phase, after_decide, state_after}
use Rattle.kept_facts.proofs.{last_left, IsAlone, IsFirst, KeepsTime, MayDecide, clock, flush_of, flush_stored, phase-own}
use Rattle.kept_facts.proofs.{steps_in_call-own, Own, Stage, ActiveCall, Core, settled, WordIs, phase_at, Knows, WorksIn, CoreIs}
use Rattle.kept_facts.proofs.{flushing_in, held_by, times_of, counted_in, SumIs, Invariant, holds, IsExclusive, BeginsNone, plain_exit}
use Rattle.kept_facts.proofs.{counts_on, SparesExclusive, none_time, none_flushed}
use Rattle.kept_facts.specs.kernel_history.specs.{Decided, MarksOwn, KeepsMarked}
use Rattle.kept_facts.specs.core_invariant.specs.{MarkIs, is_flushing}
use Rattle.step_ways.proofs.{Flushing.open_flushed, Good.IsGood, Good.SparesBlanks, Users.SparesBy, Users.spared, Loads.Lands}
use Rattle.step_ways.proofs.{Loads.IsOfCall, Loads.next_at, Loads.core_is, Loads.call_is, Loads.in_call, Loads.inner, Loads.inner_within}
use Rattle.step_ways.proofs.{Loads.inner_disciplined, Loads.inner_footprint}

-- A core is where it was, on its machine.
pub record IsSameCore (own own' : Own) : Type 0 where
  pub core : own'.core ≡ own.core
  pub layout : own'.layout ≡ own.layout
  pub limit : own'.limit ≡ own.limit
  pub epochs : own'.epochs ≡ own.epochs
  pub exit : own'.exit ≡ own.exit

module _ (setup : Setting) (setting : IsSetting setup) (cores : ℕ → Core) (t : Trace) (stands : Invariant setup cores t) (c : ℕ)
    (here : c < setup.cores)
    (a : ActiveCall) (active : (cores c).active ≡ Some a) (move : Move) (r : Reply) (own : Own) (stage : Stage)
    (same : IsSameCore (cores c).own own) where
  abbrev pub changing : Step
  changing = inner setup setting cores t stands c here a active move (Some r) None

  abbrev pub changed_core : Core
  changed_core = record { own = own; active = Some (next_at a a.found stage) }

  -- it may draw a stamp; its last flush is stored, or still to be
  pub decides_timed : left_of move (last_left setup t (word_of move)) < 2 ^ 64 → IsOfCall setup t c a.call move
      → Lands setup changed_core (word_of move)
      → phase_at a.call a.stage ≡ Open a.call → phase_at a.call stage ≡ Decided a.call r
      → MarksOwn setup t changing → KeepsMarked setup t changing → KeepsTime setup t changing
      → clock setup (changing ∷ t) ≤ 1 + counted_in setup (state_after setup (changing ∷ t))
      → (is_flushing stage ≡ false → flush_stored (changing ∷ t) c ≡ flush_of (changing ∷ t) c) → SparesBlanks setup t changing
      → SparesBy setup t changing a.call
      → WorksIn own (state_after setup (changing ∷ t)) c
      → ((w : Word) (d : ℕ) → MarkIs setup (held_by (put cores c changed_core)) (changing ∷ t) w d)
      → ((w : Word) → WordIs (state_after setup (changing ∷ t)) (times_of setup (changing ∷ t)) w
      (settled setup (held_by (put cores c changed_core)) (changing ∷ t) w))
      → ((f i v : ℕ) → (holds changed_core).bare f i ≡ Some v → IsExclusive setup (changing ∷ t) c f i)
      → SparesExclusive cores changing
      → ((f : ℕ) → SumIs setup (held_by (put cores c changed_core)) (changing ∷ t) f)
      → MayDecide setup t changing (Some r) (phase t c)
      → (IsAlone t changing → r ≡ alone (state_after setup t) c a.call)
      → Knows setup (changing ∷ t) c own.table (next_at a a.found stage)
      → IsGood setup cores t changing changed_core
  decides_timed small of_call lands opens closes puts keeps time draws flushed blanks counted works marks words exclusive spares sums
      may first knows =
      let now : CoreIs setup (cores c) t c = core_is setup setting cores t stands c here a active in
      let in_flight = call_is setup setting cores t stands c here a active in
      record {
        follows = record {
          is_core = here;
          is_in = lands.is_in;
          found = refl;
          small = small;
          enters = tt;
          in_call = in_call setup setting cores t stands c here a active;
          decides = may;
          returns = tt;
        };
        within = inner_within setup setting cores t stands c here a active move (Some r) None;
        alone = λ is_alone. subst (IsFirst setup t changing (Some r)) (sym (in_flight.phase ∙ opens)) (first is_alone);
        disciplined = inner_disciplined setup setting cores t stands c here a active move (Some r) None of_call puts keeps;
        footprint = inner_footprint setup setting cores t stands c here a active move (Some r) None of_call;
        blanks = blanks;
        counted = spared setup t changing a.call (in_flight.phase ∙ opens) counted;
        marks = marks;
        words = words;
        exclusive = exclusive;
        spares = spares;
        sums = sums;
        draws = draws;
        time = time;
        leaves = tt;
        own = record {
          fits = lands.fits;
          number = same.core ∙ now.number;
          shape = same.layout ∙ now.shape;
          limit = same.limit ∙ now.limit;
          epochs = same.epochs ∙ now.epochs;
          works = works;
          exit = same.exit ∙ now.exit ∙ sym (plain_exit t changing refl c);
          flushed = flushed;
          active = record {
            phase = phase-own c changing t refl ∙ ap (after_decide (Some r)) (in_flight.phase ∙ opens) ∙ sym closes;
            steps = steps_in_call-own c changing t refl ∙ ap (λ (n : ℕ). n + 1) in_flight.steps;
            knows = knows;
            counts = counts_on setup t changing c a.call (λ own. refl) a.counts in_flight.counts;
            apart = in_flight.apart;
          };
        };
      }

  -- it keeps the clock, and its last flush is stored, or still to be
  pub decides_owning : left_of move (last_left setup t (word_of move)) < 2 ^ 64 → IsOfCall setup t c a.call move
      → Lands setup changed_core (word_of move)
      → phase_at a.call a.stage ≡ Open a.call → phase_at a.call stage ≡ Decided a.call r
      → MarksOwn setup t changing → KeepsMarked setup t changing → KeepsTime setup t changing
      → clock setup (changing ∷ t) ≤ clock setup t
      → (is_flushing stage ≡ false → flush_stored (changing ∷ t) c ≡ flush_of (changing ∷ t) c) → SparesBlanks setup t changing
      → SparesBy setup t changing a.call
      → counted_in setup (state_after setup t) ≤ counted_in setup (state_after setup (changing ∷ t))
      → WorksIn own (state_after setup (changing ∷ t)) c
      → ((w : Word) (d : ℕ) → MarkIs setup (held_by (put cores c changed_core)) (changing ∷ t) w d)
      → ((w : Word) → WordIs (state_after setup (changing ∷ t)) (times_of setup (changing ∷ t)) w
      (settled setup (held_by (put cores c changed_core)) (changing ∷ t) w))
      → ((f i v : ℕ) → (holds changed_core).bare f i ≡ Some v → IsExclusive setup (changing ∷ t) c f i)
      → SparesExclusive cores changing
      → ((f : ℕ) → SumIs setup (held_by (put cores c changed_core)) (changing ∷ t) f)
      → MayDecide setup t changing (Some r) (phase t c)
      → (IsAlone t changing → r ≡ alone (state_after setup t) c a.call)
      → Knows setup (changing ∷ t) c own.table (next_at a a.found stage)
      → IsGood setup cores t changing changed_core
  decides_owning small of_call lands opens closes puts keeps time same_clock flushed blanks counted rises =
      decides_timed small of_call lands opens closes puts keeps time
      (let d = stands.draws in let b = same_clock in let g = rises in omega (arith, d, b, g)) flushed blanks counted

  -- no grace period begins, and nothing is flushed
  pub decides_changing : left_of move (last_left setup t (word_of move)) < 2 ^ 64 → IsOfCall setup t c a.call move
      → Lands setup changed_core (word_of move)
      → phase_at a.call a.stage ≡ Open a.call → phase_at a.call stage ≡ Decided a.call r
      → MarksOwn setup t changing → KeepsMarked setup t changing → BeginsNone setup t changing → SparesBlanks setup t changing
      → SparesBy setup t changing a.call
      → counted_in setup (state_after setup t) ≤ counted_in setup (state_after setup (changing ∷ t))
      → WorksIn own (state_after setup (changing ∷ t)) c
      → ((w : Word) (d : ℕ) → MarkIs setup (held_by (put cores c changed_core)) (changing ∷ t) w d)
      → ((w : Word) → WordIs (state_after setup (changing ∷ t)) (times_of setup (changing ∷ t)) w
      (settled setup (held_by (put cores c changed_core)) (changing ∷ t) w))
      → ((f i v : ℕ) → (holds changed_core).bare f i ≡ Some v → IsExclusive setup (changing ∷ t) c f i)
      → SparesExclusive cores changing
      → ((f : ℕ) → SumIs setup (held_by (put cores c changed_core)) (changing ∷ t) f)
      → MayDecide setup t changing (Some r) (phase t c)
      → (IsAlone t changing → r ≡ alone (state_after setup t) c a.call)
      → Knows setup (changing ∷ t) c own.table (next_at a a.found stage)
      → IsGood setup cores t changing changed_core
  decides_changing small of_call lands opens closes puts keeps none =
      decides_owning small of_call lands opens closes puts keeps (none_time setup t changing none) (let b = none.same in omega arith)
      (λ done. none_flushed setup t changing none c ((core_is setup setting cores t stands c here a active).flushed
      (ap flushing_in active ∙ open_flushed a.call a.stage opens)))
