-- What a machine shows and tells of its steps is what its traces have.
use Rattle.flight_laws.specs.flight.specs.step_ways.proofs as low
use low.{◌≡◌, ℕ, ◌<◌, List, ◌∷◌, get_or, Option, Some, map, sym, ◌∙◌, ap, subst, refl, Setting, IsSetting, Call, Decision, place_in, Shape}
use low.{IsIn, place_of, Move, word_of, op_of, left_of, Trace, shape_of, Absorbed, decided_in, returned_in, Core, IsCore, move_of}
use Rattle.lone_kernel.specs.{CanTake, core_in, seat_at, core_at, turn_of, turn_at, found_by, IsFit, StandsFor}
use Rattle.lone_kernel.specs.{declared.seats.Seat.Seat, declared.seats.Turn.Turn, Machine.Machine, Machine.enters_as, Machine.step_in}
use Rattle.lone_kernel.specs.{Shown.IsNextView, Shown.ShowsNext, Shown.Steps, Shown.TellsStep}
use Rattle.lone_kernel.proofs.{OneStep.seat_is, OneStep.fit_here, OneStep.calls_here, OneStep.turn_here, Fits.turn_is, Advance.word_next}
use Rattle.lone_kernel.proofs.{Advance.step_made, Advance.stands_on, Advance.not_idle}
use Rattle.{step_views.specs.named, step_views.specs.IsShown, flight_laws.specs.flight.proofs.place_is}
use Rattle.{flight_laws.specs.flight.proofs.left_is, spk_nums.specs.declared.steps.WordOp.WordOp, spk_nums.specs.WordSteps.left_by}
use Rattle.{flight_laws.specs.flight.specs.Made.step_of, step_views.specs.declared.names.WordName.WordName}
use Rattle.{step_views.specs.declared.views.StepView.StepView}

some_inj : {A : Type 0} (x y : A) → Some x ≡ Some y → x ≡ y
some_inj x y h = cc

-- the step of a turn is that of the machine's turn
pub steps_as : {m m0 m' : Machine} {n c : ℕ} {f g : Turn} {said : Absorbed} → m0 ≡ m → n ≡ c → Steps m0 m' n g said
    → turn_at m0 n ≡ Some g → turn_at m c ≡ Some f → Steps m m' c f said
steps_as {m} {m0} {m'} {n} {c} {f} {g} {said} old core steps was is =
    let same : turn_at m0 n ≡ turn_at m c = ap (λ x. turn_at x n) old ∙ ap (λ (k : ℕ). turn_at m k) core in
    let turn : g ≡ f = some_inj g f (sym was ∙ same ∙ is) in
    subst (λ h. Steps m m' c h said) turn (subst (λ (k : ℕ). Steps m m' k g said) core (subst (λ x. Steps x m' n g said) old steps))

-- the next step of a core that takes its turn is on a word of this layout
pub word_on : (shape : Shape) (core : Core) (f : Turn) → shape ≡ core.own.layout → IsCore core → CanTake f core
    → IsIn shape (word_of (move_of (core_in core f)))
word_on shape core f same fits can =
    subst (λ s. IsIn s (word_of (move_of (core_in core f)))) (sym same) (word_next core f fits can)

-- the word at the place of a step is the step's
pub word_is : (shape : Shape) (m : Move) (name : WordName) (place : ℕ) → IsIn shape (word_of m)
    → place ≡ place_in (op_of shape m) → (IsIn shape (word_of m) → place_of shape (word_of m) ≡ place → named name ≡ word_of m)
    → named name ≡ word_of m
word_is shape m name place is_in at only = only is_in (sym (at ∙ place_is shape m))

pub found_is : (shape : Shape) (words : List ℕ) (op : WordOp) (m : Move) (place found : ℕ) → op ≡ op_of shape m → place ≡ place_in op
    → found ≡ get_or words place 0 → found ≡ get_or words (place_of shape (word_of m)) 0
found_is shape words op m place found is at here =
    here ∙ ap (λ (n : ℕ). get_or words n 0) (at ∙ ap place_in is ∙ place_is shape m)

pub leaves_as : (shape : Shape) (op : WordOp) (m : Move) (found left : ℕ) → op ≡ op_of shape m → left ≡ left_by op found
    → left ≡ left_of m found
leaves_as shape op m found left is leaves = leaves ∙ ap (λ o. left_by o found) is ∙ left_is shape m found

module _ (m : Machine) (fit : IsFit m) (setting : IsSetting m.setup) (c : ℕ) (here : c < m.setup.cores) where
  -- the view of the step at the machine's turn shows the next one
  pub shows_next : (v : StepView) (f : Turn) → turn_at m c ≡ Some f → IsShown (shape_of m.setup) v (step_in m c f) → ShowsNext m c v
  shows_next v f begins shown = record {
    turn = f;
    begins = begins;
    shown = shown;
    made = λ t stands. step_made m t c f fit setting here begins stands;
  }

  -- each trace goes on by the step that was shown before it was made
  pub tells_step : (m' : Machine) (v : StepView) (said : Absorbed) (decides returns : Option _) → ShowsNext m c v
      → ((f : Turn) → turn_at m c ≡ Some f → Steps m m' c f said) → decides ≡ decided_in said → returns ≡ returned_in said
      → (t : Trace) → StandsFor m t
      → TellsStep m m' c (record { view = v; decides = decides; returns = returns }) t
  tells_step m' v said decides returns shows steps decides_is returns_is t stands =
      let f = shows.turn in
      let made = steps f shows.begins in
      record {
        busy = not_idle m t c f fit setting here shows.begins stands;
        step = step_in m c f;
        own = refl;
        told = record {
          shown = shows.shown;
          decides = decides_is ∙ ap decided_in made.told;
          returns = returns_is ∙ ap returned_in made.told;
        };
        stands = subst (λ x. StandsFor x (step_in m c f ∷ t)) (sym made.after) (stands_on m t c f fit setting here shows.begins stands);
      }

-- the view of a seat's next step, where the seat is read from a machine's, shows the next step of its core
module _ {V : Type 0} (items : V → List Call) (setup : Setting) (words : List ℕ) (lists : List V) (seats : List Seat)
    (decisions : List Decision)
    (n : ℕ) (v : V) (k : Seat)
    (fit : IsFit (record { setup = setup; words = words; lists = map items lists; seats = seats; decisions = decisions }))
    (here : n < setup.cores) (v_is : v ≡ get_or lists n v) (k_is : k ≡ get_or seats n k) where
  abbrev m0 : Machine
  m0 = record { setup = setup; words = words; lists = map items lists; seats = seats; decisions = decisions }

  pub can_here : (f : Turn) → turn_of (items v) k ≡ Some f → CanTake f k.state
  can_here f begins = (turn_is setup (items v) n k f
      (fit_here items setup words lists seats decisions n v k fit here v_is k_is)
      (calls_here items setup words lists seats decisions n v k fit here v_is k_is) begins).can

  pub next_shown : (layout : Shape) (f : Turn) (view : StepView) (m : Machine) (c : ℕ) → layout ≡ shape_of setup
      → turn_of (items v) k ≡ Some f → IsNextView layout k f words view → IsSetting setup → m0 ≡ m → n ≡ c → ShowsNext m c view
  next_shown layout f view m c layout_is begins shown setting same core =
      let seat = seat_is items setup words lists seats decisions n v k fit here v_is k_is in
      let at_seat : IsNextView (shape_of setup) (seat_at m0 n) f words view =
      subst (λ s. IsNextView s (seat_at m0 n) f words view) layout_is (subst (λ s. IsNextView layout s f words view) (sym seat) shown) in
      let mine : IsShown (shape_of setup) view (step_in m0 n f) =
      subst (λ (i : ℕ). IsShown (shape_of setup) view (step_of i (enters_as f) (core_in (core_at m0 n) f) (found_by m0 n f)))
      (fit.each n here).core at_seat in
      let turn = turn_here items setup words lists seats decisions n v k fit here v_is k_is f begins in
      subst (λ (i : ℕ). ShowsNext m i view) core
      (subst (λ x. ShowsNext x n view) same (shows_next m0 fit setting n here view f turn mine))
