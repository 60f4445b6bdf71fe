-- The way in which a call draws a stamp by raising the clock, and is decided: grace periods begin at the stamp.
use Rattle.kept_facts.proofs.{◌≡◌, ◌≢◌, ℕ, ◌+◌, ◌%◌, ◌^◌, ◌<◌, ◌≤◌, true, false, if◌then◌else◌, ◌∷◌, Some, None, IsTrue, inl, arith, refl}
use Rattle.kept_facts.proofs.{sym, ◌∙◌, ap, subst, Setting, IsSetting, Reply, Word, EntryAt, ClockAt, AddOf, Move, put, alone, Step, Trace}
use Rattle.kept_facts.proofs.{Open, phase, after_decide, state_after, IsAlone, IsFirst, raises_clock, MayDecide, marked_by, flushes_at}
use Rattle.kept_facts.proofs.{clock, flush_of, phase-own, steps_in_call-own, flush_stored-own, Stage, ActiveCall, Core, WordIs, phase_at}
use Rattle.kept_facts.proofs.{Knows, WorksIn, CoreIs, flushing_in, holds, held_by, times_of, counted_in, SumIs, Invariant, ReadsAlike}
use Rattle.kept_facts.proofs.{StaysSaid, marks_own, carry_marks, carry_words, plain_exit, exclusive_open, exclusive_elsewhere, counts_on}
use Rattle.kept_facts.specs.kernel_history.proofs.{flush_of-own, Decided}
use Rattle.step_ways.proofs.{Flushing.open_flushed, Good.IsGood, Good.spares_other, Users.SparesBy, Users.spared, Writes.clock_small}
use Rattle.step_ways.proofs.{Loads.Lands, Loads.core_in_call, Loads.next_at, Loads.core_is, Loads.call_is, Loads.in_call, Loads.inner}
use Rattle.step_ways.proofs.{Loads.inner_within, Loads.inner_disciplined, Loads.inner_footprint}

module _ (setup : Setting) (setting : IsSetting setup) (cores : ℕ → Core) (t : Trace) (stands : Invariant setup cores t) (c : ℕ)
    (here : c < setup.cores)
    (a : ActiveCall) (active : (cores c).active ≡ Some a) (r : Reply) (stage : Stage) (made : ℕ) where
  abbrev pub draw : Move
  draw = AddOf ClockAt 1

  abbrev pub e : Step
  e = inner setup setting cores t stands c here a active draw (Some r) None

  abbrev pub after : Core
  after = core_in_call (cores c) made (next_at a a.found stage)

  none_some : (d : ℕ) → None ≡ Some d → ⊥
  none_some d h = cc

  pub raised : clock setup (e ∷ t) ≡ clock setup t + 1
  raised = within_word (clock setup t + 1) (let low = clock_small setup setting cores t stands in omega arith)
    where
      within_word : (n : ℕ) → n < 2 ^ 64 → n % 2 ^ 64 ≡ n
      within_word n small = omega arith

  pub draws_on : IsTrue (raises_clock a.call) → Lands setup after ClockAt
      → ((w : Word) → (holds after).marks w ≡ (holds (cores c)).marks w)
      → ((f i : ℕ) → (holds after).bare f i ≡ (holds (cores c)).bare f i)
      → phase_at a.call a.stage ≡ Open a.call → phase_at a.call stage ≡ Decided a.call r
      → ReadsAlike setup t e → SparesBy setup t e a.call
      → counted_in setup (state_after setup t) + 1 ≤ counted_in setup (state_after setup (e ∷ t))
      → WorksIn (record (cores c).own { made = made }) (state_after setup (e ∷ t)) c
      → flushes_at t e ≡ false
      → ((w : Word) → w ≢ ClockAt → marked_by setup t w ≢ Some c → StaysSaid setup cores t e w)
      → ((w : Word) → marked_by setup t w ≡ Some c
      → WordIs (state_after setup (e ∷ t)) (times_of setup (e ∷ t)) w ((holds after).stands w))
      → ((f : ℕ) → SumIs setup (held_by (put cores c after)) (e ∷ t) f)
      → MayDecide setup t e (Some r) (phase t c)
      → (IsAlone t e → r ≡ alone (state_after setup t) c a.call)
      → Knows setup (e ∷ t) c (cores c).own.table (next_at a a.found stage)
      → IsGood setup cores t e after
  draws_on raises lands still bares opens closes alike counted more works no_flush same held sums may first knows =
      let marks = carry_marks setup cores t e after still alike refl refl stands.marks in
      let is : CoreIs setup (cores c) t c = core_is setup setting cores t stands c here a active in
      let low = clock_small setup setting cores t stands in
      record {
        follows = record {
          is_core = here;
          is_in = lands.is_in;
          found = refl;
          small = subst (λ (n : ℕ). n < 2 ^ 64) (sym raised) (omega arith);
          enters = tt;
          in_call = in_call setup setting cores t stands c here a active;
          decides = may;
          returns = tt;
        };
        within = inner_within setup setting cores t stands c here a active draw (Some r) None;
        alone = λ is_alone. subst (IsFirst setup t e (Some r)) (sym
            ((call_is setup setting cores t stands c here a active).phase ∙ opens)) (first is_alone);
        disciplined = inner_disciplined setup setting cores t stands c here a active draw (Some r) None
            (record { moves = (raises, refl); footprint = inl tt })
            (marks_own setup cores t e after (λ w there. still w) stands.marks marks) (λ d m other. absurd (none_some d m));
        footprint = inner_footprint setup setting cores t stands c here a active draw (Some r) None
            (record { moves = (raises, refl); footprint = inl tt });
        blanks = spares_other setup t e (λ f i h. cc);
        counted = spared setup t e a.call ((call_is setup setting cores t stands c here a active).phase ∙ opens) counted;
        marks = marks;
        words = carry_words setup cores t e after still alike refl refl bares (λ x. refl) same tt held stands.words;
        exclusive = exclusive_open setup cores t e after a a.call active opens (λ f i v kept. sym (bares f i) ∙ kept);
        spares = exclusive_elsewhere cores e (λ f i h. cc);
        sums = sums;
        draws = (let d = stands.draws in let b = raised in let g = more in omega arith);
        time = record {
          rises = (let b = raised in omega arith);
          draws = λ x is. (refl, (let b = raised in omega arith));
          flushes = λ is. absurd (true_false (sym no_flush ∙ is));
        };
        leaves = tt;
        own = record {
          fits = lands.fits;
          number = is.number;
          shape = is.shape;
          limit = is.limit;
          epochs = is.epochs;
          works = works;
          exit = is.exit ∙ sym (plain_exit t e refl c);
          flushed = λ done. flush_stored-own c e t refl ∙ is.flushed (ap flushing_in active ∙ open_flushed a.call a.stage opens) ∙ sym
              (flush_of-own c e t refl ∙ ap (λ b. if b then clock setup t else flush_of t c) no_flush);
          active = record {
            phase = phase-own c e t refl ∙ ap (after_decide (Some r))
                ((call_is setup setting cores t stands c here a active).phase ∙ opens) ∙ sym closes;
            steps = steps_in_call-own c e t refl ∙ ap (λ (n : ℕ). n + 1) (call_is setup setting cores t stands c here a active).steps;
            knows = knows;
            counts = counts_on setup t e c a.call (λ own. refl) a.counts (call_is setup setting cores t stands c here a active).counts;
            apart = (call_is setup setting cores t stands c here a active).apart;
          };
        };
      }
    where
      no_entry_word : (f i : ℕ) → ClockAt ≡ EntryAt f i → ⊥
      no_entry_word f i h = cc

      true_false : false ≡ true → ⊥
      true_false h = cc
