-- Along a sound trace of the table, the kernel's trace is the step machine's own.
use Rattle.flight_laws.specs.flight.proofs.{◌≡◌, inl, inr, ℕ, ◌<◌, List, [], ◌∷◌, slice_get, Option, Some, None, IsSome, refl, sym, ◌∙◌, ap}
use Rattle.flight_laws.specs.flight.proofs.{subst, arith, Call, Setting, IsSetting, Word, place_of, word_of, left_of, told_of, put_same}
use Rattle.flight_laws.specs.flight.proofs.{put_other, shape_of, Out, phase, last_left, cases_word, last_left-here, last_left-there, Core}
use Rattle.flight_laws.specs.flight.proofs.{IsCore, turned, MayStep, cores_after, IsMade, IsIn, Invariant, started, move_of, absorbed}
use Rattle.flight_laws.specs.flight.proofs.{place_is, left_is, made_phases, moves_are_words}
use Rattle.turn_rule.specs.{called, MayCall, word_after, program_after, MayFollow, IsSound}
use Rattle.turn_rule.proofs.{kept_along, word_here, word_elsewhere, program_here, program_elsewhere, core_inside}
use Rattle.core_kernel.specs.{run_of, running, step_by, trace_of}
use Rattle.flight_laws.specs.core_invariant.specs.{WordOp, op_of, ActiveCall}
use Rattle.flight_laws.specs.flight.proofs.{ByPlace.told_is, ByPlace.apart_places, CoreFits.begun_fits, Made.made_stands}
use Rattle.core_kernel.specs.{declared.core_run.CoreRun.CoreRun, Running.next_in, Seen.core_by, Seen.IsStart}
use Rattle.{flight_laws.specs.flight.specs.core_after, flight_laws.specs.flight.specs.IsMadeStep, std.proofs.Common.IsNone}
use Rattle.{std.proofs.lemmas.Bool.cases_eq, boot_words.specs.word_map.specs.Places.IsShape, turn_rule.specs.declared.view.Entry.Entry}
use Rattle.{turn_rule.specs.declared.view.Start.Start, flight_laws.specs.Histories.IsHistory, flight_laws.proofs.Histories.made_histories}
use Rattle.spk_nums.specs.WordSteps as table

-- a program with a next step has a active call, and makes the step machine's step
pub next_some : (core : Core) (o : Option ActiveCall) (op : WordOp) → next_in core o ≡ Some op → (op ≡ op_of core.own.layout (move_of core))
    × IsSome o
next_some core None op is = absurd (cc)
next_some core (Some f) op is = (cc, refl)

pub next_none : (core : Core) (o : Option ActiveCall) → IsNone (next_in core o) → o ≡ None
next_none core None is = refl
next_none core (Some f) is = absurd (cc)

-- the core whose call, if any, is begun
called_state : (p : CoreRun) (o : Option Call) → (called running p o).state ≡ turned o p.state
called_state p None = refl
called_state p (Some call) = refl

turned_shape : (o : Option Call) (core : Core) → (turned o core).own.layout ≡ core.own.layout
turned_shape None core = refl
turned_shape (Some call) core = refl

may_step : (p : CoreRun) (o : Option Call) (op : WordOp) → MayCall running p o → running.next (called running p o) ≡ Some op
    → MayStep o p.state
may_step p None op may next = (next_some p.state p.state.active op next).1
may_step p (Some call) op may next = record { between = next_none p.state p.state.active may.0; limits = may.1 }

turned_fits : (o : Option Call) (core : Core) → MayStep o core → IsCore core → IsCore (turned o core)
turned_fits None core may fits = fits
turned_fits (Some call) core may fits = begun_fits core call fits may.limits

-- the core of a program that has made no step
started_state : (c : ℕ) (setup : Setting) (p : CoreRun) (o : Option CoreRun) → o ≡ Some (run_of (started c setup) None) → o ≡ Some p
    → p.state ≡ started c setup
started_state c setup p o is runs = let same : run_of (started c setup) None ≡ p = cc in ap (λ q. q.state) (sym same)

the_same : (x y : CoreRun) (o : Option CoreRun) → o ≡ Some x → o ≡ Some y → x ≡ y
the_same x y o i j = cc

-- the step of an entry, of a program p: its core is the trace's, fits, and has a active call, and takes in what the step tells
pub record EntryIs (setup : Setting) (t : List (Entry Call)) (e : Entry Call) (p : CoreRun) : Type 0 where
  pub core : (called running p e.call).state ≡ core_by setup (trace_of setup t) e
  pub fits : IsCore (core_by setup (trace_of setup t) e)
  pub in_call : IsSome (core_by setup (trace_of setup t) e).active
  pub told : (op : WordOp) → running.next (called running p e.call) ≡ Some op
      → table.told_by op e.found ≡ told_of (move_of (core_by setup (trace_of setup t) e)) e.found

module _ (setup : Setting) (setting : IsSetting setup) (start : Start CoreRun) (is : IsStart setup start) where
  is_shape : IsShape (shape_of setup)
  is_shape = record {
    some_core = setting.some_core;
    most_cores = setting.most_cores;
    least_frames = setting.least_frames;
    most_frames = setting.most_frames;
  }

  -- after the entries: the kernel's trace is the machine's, each word of the table is what the trace last left there, and each
  -- program's core is where the trace brings it
  pub record Along (t : List (Entry Call)) : Type 0 where
    pub made : IsMade setup (trace_of setup t)
    pub words : (w : Word) → IsIn (shape_of setup) w → word_after start t (place_of (shape_of setup) w) ≡ last_left setup
        (trace_of setup t) w
    pub runs : (c : ℕ) (p : CoreRun) → program_after running start t c ≡ Some p → p.state ≡ cores_after setup (trace_of setup t) c

  -- a core with a program is one of the machine
  pub here : (t : List (Entry Call)) (c : ℕ) (p : CoreRun) → program_after running start t c ≡ Some p → c < setup.cores
  here t c p runs = let inside = core_inside running start t c p runs in let count = is.count in omega arith

  first : Along []
  first = record {
    made = tt;
    words = λ w h. is.words w h;
    runs = λ c p runs. started_state c setup p (slice_get start.programs c) (is.each c (here [] c p runs)) runs;
  }

  module _ (t : List (Entry Call)) (e : Entry Call) (m : MayFollow running start t e) (a : Along t) where
    abbrev c : ℕ
    c = e.core

    abbrev core : Core
    core = core_by setup (trace_of setup t) e

    abbrev q : CoreRun
    q = called running m.program e.call

    inside : c < setup.cores
    inside = here t c m.program m.runs

    was : m.program.state ≡ cores_after setup (trace_of setup t) c
    was = a.runs c m.program m.runs

    is_core : q.state ≡ core
    is_core = called_state m.program e.call ∙ ap (turned e.call) was

    may : MayStep e.call (cores_after setup (trace_of setup t) c)
    may = subst (MayStep e.call) was (may_step m.program e.call m.step.op m.step.may m.step.next)

    stands : Invariant setup (cores_after setup (trace_of setup t)) (trace_of setup t)
    stands = made_stands setup setting (trace_of setup t) a.made

    fits : IsCore core
    fits = turned_fits e.call (cores_after setup (trace_of setup t) c) may (stands.each c inside).fits

    in_call : IsSome core.active
    in_call = subst (λ k. IsSome k.active) is_core (next_some q.state q.state.active m.step.op m.step.next).1

    shape_is : core.own.layout ≡ shape_of setup
    shape_is = turned_shape e.call (cores_after setup (trace_of setup t) c) ∙ (stands.each c inside).shape

    op_same : (op : WordOp) → running.next q ≡ Some op → op ≡ op_of (shape_of setup) (move_of core)
    op_same op next = (next_some q.state q.state.active op next).0
        ∙ ap (λ k. op_of k.own.layout (move_of k)) is_core ∙ ap (λ s. op_of s (move_of core)) shape_is

    op_is : m.step.op ≡ op_of (shape_of setup) (move_of core)
    op_is = op_same m.step.op m.step.next

    word : IsIn (shape_of setup) (word_of (move_of core))
    word = subst (λ s. IsIn s (word_of (move_of core))) shape_is (moves_are_words core fits in_call)

    at : e.at ≡ place_of (shape_of setup) (word_of (move_of core))
    at = m.step.place ∙ ap table.place_in op_is ∙ place_is (shape_of setup) (move_of core)

    left : e.left ≡ left_of (move_of core) e.found
    left = m.step.left ∙ ap (λ o. table.left_by o e.found) op_is ∙ left_is (shape_of setup) (move_of core) e.found

    told_same : (op : WordOp) → running.next q ≡ Some op → table.told_by op e.found ≡ told_of (move_of core) e.found
    told_same op next = ap (λ o. table.told_by o e.found) (op_same op next) ∙ told_is (shape_of setup) (move_of core) e.found

    made_step : IsMadeStep setup (trace_of setup t) (step_by setup (trace_of setup t) e)
    made_step = record {
      is_core = inside;
      may = may;
      found = m.found ∙ ap (word_after start t) at ∙ a.words (word_of (move_of core)) word;
      made = refl;
    }

    words : (w : Word) → IsIn (shape_of setup) w → word_after start (e ∷ t) (place_of (shape_of setup) w) ≡ last_left setup
        (trace_of setup (e ∷ t)) w
    words w h = elim (cases_word w (word_of (move_of core))) [
      | inl same ↦
          word_here start e t (place_of (shape_of setup) w) (at ∙ ap (place_of (shape_of setup)) (sym same)) ∙ left
          ∙ sym (last_left-here setup w (step_by setup (trace_of setup t) e) (trace_of setup t) same)
      | inr apart ↦
          word_elsewhere start e t (place_of (shape_of setup) w)
          (λ same. apart_places (shape_of setup) w (word_of (move_of core)) is_shape h word apart (sym same ∙ at))
          ∙ a.words w h
          ∙ sym (last_left-there setup w (step_by setup (trace_of setup t) e) (trace_of setup t) apart)
    ]

    now : program_after running start (e ∷ t) c ≡ Some (running.after q (table.told_by m.step.op e.found))
    now = program_here running start e t c m.program refl m.runs m.step

    state_now : (running.after q (table.told_by m.step.op e.found)).state ≡ core_after core e.found
    state_now = ap (λ (z : Core × ℕ). absorbed z.0 z.1) (λ i. (is_core i, told_same m.step.op m.step.next i))

    runs : (d : ℕ) (p : CoreRun) → program_after running start (e ∷ t) d ≡ Some p → p.state ≡ cores_after setup (trace_of setup (e ∷ t)) d
    runs d p h = elim (cases_eq d c) [
      | inl same ↦
          let here_now : program_after running start (e ∷ t) c ≡ Some p =
          subst (λ (i : ℕ). program_after running start (e ∷ t) i ≡ Some p) same h in
          let new : running.after q (table.told_by m.step.op e.found) ≡ p =
          the_same _ p (program_after running start (e ∷ t) c) now here_now in
          sym (ap (λ k. k.state) new) ∙ state_now ∙ sym (put_same (cores_after setup (trace_of setup t)) c (core_after core e.found) d same)
      | inr apart ↦
          a.runs d p (sym (program_elsewhere running start e t d (λ same. apart (sym same))) ∙ h)
          ∙ sym (put_other (cores_after setup (trace_of setup t)) c (core_after core e.found) d apart)
    ]

    pub entry_is : EntryIs setup t e m.program
    entry_is = record { core = is_core; fits = fits; in_call = in_call; told = told_same }

    next : Along (e ∷ t)
    next = record { made = (a.made, made_step); words = words; runs = runs }

  pub along : (t : List (Entry Call)) → IsSound running start t → Along t
  along t sound = kept_along running start Along first (λ t e _ m a. next t e m a) t sound

  -- what is seen is a history of the machine
  pub is_history : (t : List (Entry Call)) → IsSound running start t → IsHistory setup (trace_of setup t)
  is_history t sound = made_histories setup setting (trace_of setup t) (along t sound).made

  -- a core whose program has no active call is between calls
  pub is_out : (t : List (Entry Call)) → IsSound running start t → (c : ℕ) (p : CoreRun) → program_after running start t c ≡ Some p
      → p.state.active ≡ None → phase (trace_of setup t) c ≡ Out
  is_out t sound c p runs none =
      let a = along t sound in
      (made_phases setup setting (trace_of setup t) a.made c (here t c p runs)).out (ap (λ x. x.active) (sym (a.runs c p runs)) ∙ none)
