-- What a page that has taken all steps of a trace knows of it.
use Rattle.page_drawing.specs.kernel_history.proofs as low
use low.{◌≡◌, ◌≢◌, inl, inr, ℕ, zero, suc, ◌+◌, ◌<◌, ◌++◌, ◌==◌, not, cond, Bool, true, false, List, [], ◌∷◌, length, get_or, Option, Some}
use low.{None, refl, sym, ◌∙◌, ap, subst, arith, length-set, length-append, is_some, option_to_list, get_or as slice_index_or}
use low.{set as slice_set, ltb as nat_lt, true≢false, get_or-set_same, get_or-set_other, Setting, IsSetting, Call, Reply, Word, IsShape}
use low.{IsIn, place_of, size_of, word_of, left_of, has_places, Step, calls_of, IsLegal, shape_of, cases_word, same_word-same}
use low.{same_word-other, calls_of-own, calls_of-other}
use Rattle.page_drawing.specs.page_layers.specs.{seen, no_call, lane_entered, lane_decided, lane_topped}
use Rattle.arrow_laws.specs.{newest, entered_at, returned_at, before_entry}
use Rattle.page_drawing.specs.{Page, blank, next_step, page_after}
use Rattle.page_drawing.specs.page_layers.specs.{Seen.Seen, Lanes.lane_returned, declared.lanes.Lane.Lane, declared.lanes.Change.Change}
use Rattle.page_drawing.specs.page_touches.specs.{declared.touches.Touch.Touch, Touches.untouched, Touches.touched}
use Rattle.page_drawing.specs.Pages.{lane_of, returns_of, turned, placed, tail_at, taken, turned_to}
use Rattle.arrow_laws.proofs.Calls.{entered_own, returned_own, before_own, entered_other, returned_other, before_other}
use Rattle.{std.proofs.lemmas.List.get_or-replicate, std.proofs.lemmas.List.length-replicate, page_drawing.specs.picture_rows.specs.is_full}
use Rattle.{page_drawing.specs.picture_rows.specs.rows_after, std.proofs.Common.replicate, std.proofs.lemmas.Bool.cases_eq}
use Rattle.{page_drawing.specs.word_map.specs.Places.HasPlaces, page_drawing.specs.kernel_history.specs.Trace.Trace}

-- The change tells of the newest one.
abbrev pub Says : Trace → Option Change → Type 0
Says [] None = Unit {0}
Says [] (Some c) = ⊥
Says (a ∷ u) None = ⊥
Says (a ∷ u) (Some c) = (c.core ≡ a.core) × (c.step ≡ suc (length u)) × (c.index ≡ length (calls_of (a ∷ u) a.core))

-- The list has for each of eight cores the step of its last return in the trace.
abbrev pub AreReturns : List ℕ → Trace → Type 0
AreReturns xs t = (d : ℕ) → d < 8 → get_or xs d 0 ≡ returned_at t d

-- What is known of a core's calls.
pub record KnownLane (t : Trace) (c : ℕ) (l : Lane) : Type 0 where
  pub index : l.index ≡ length (calls_of t c)
  pub entered : l.entered ≡ entered_at t c
  pub returned : l.returned ≡ returned_at t c
  pub others : AreReturns l.others (before_entry t c)

pub record Known (setup : Setting) (t : Trace) (p : Page) : Type 0 where
  pub count : p.first + p.rows.count ≡ length t
  pub table : length p.words ≡ size_of (shape_of setup)
  pub eight : length p.lanes ≡ 8
  pub lanes : (c : ℕ) → c < 8 → KnownLane t c (lane_of p.lanes c)
  pub words : (w : Word) → IsIn (shape_of setup) w
      → Says (newest t w) (slice_index_or p.words (place_of (shape_of setup) w) untouched).change

-- ---- a core's calls

-- A core's calls after its step, with its events.
abbrev lane_next : Option Call → Option Reply → Option Reply → ℕ → ℕ → List ℕ → Lane → Lane
lane_next enters decides returns n y others l =
    lane_returned returns n (lane_topped enters y (lane_decided decides n (lane_entered enters n others l)))

module _ (n y : ℕ) (others : List ℕ) where
  index_next : (enters : Option Call) (decides returns : Option Reply) (l : Lane)
      → (lane_next enters decides returns n y others l).index ≡ cond (is_some enters) (l.index + 1) l.index
  index_next None None None l = refl
  index_next None None (Some r) l = refl
  index_next None (Some d) None l = refl
  index_next None (Some d) (Some r) l = refl
  index_next (Some e) None None l = refl
  index_next (Some e) None (Some r) l = refl
  index_next (Some e) (Some d) None l = refl
  index_next (Some e) (Some d) (Some r) l = refl

  entered_next : (enters : Option Call) (decides returns : Option Reply) (l : Lane)
      → (lane_next enters decides returns n y others l).entered ≡ cond (is_some enters) n l.entered
  entered_next None None None l = refl
  entered_next None None (Some r) l = refl
  entered_next None (Some d) None l = refl
  entered_next None (Some d) (Some r) l = refl
  entered_next (Some e) None None l = refl
  entered_next (Some e) None (Some r) l = refl
  entered_next (Some e) (Some d) None l = refl
  entered_next (Some e) (Some d) (Some r) l = refl

  others_next : (enters : Option Call) (decides returns : Option Reply) (l : Lane)
      → (lane_next enters decides returns n y others l).others ≡ cond (is_some enters) others l.others
  others_next None None None l = refl
  others_next None None (Some r) l = refl
  others_next None (Some d) None l = refl
  others_next None (Some d) (Some r) l = refl
  others_next (Some e) None None l = refl
  others_next (Some e) None (Some r) l = refl
  others_next (Some e) (Some d) None l = refl
  others_next (Some e) (Some d) (Some r) l = refl

  returned_next : (enters : Option Call) (decides returns : Option Reply) (l : Lane)
      → (lane_next enters decides returns n y others l).returned ≡ cond (is_some returns) n l.returned
  returned_next None None None l = refl
  returned_next None None (Some r) l = refl
  returned_next None (Some d) None l = refl
  returned_next None (Some d) (Some r) l = refl
  returned_next (Some e) None None l = refl
  returned_next (Some e) None (Some r) l = refl
  returned_next (Some e) (Some d) None l = refl
  returned_next (Some e) (Some d) (Some r) l = refl

index_more : (enters : Option Call) (calls : List Call) → cond (is_some enters) (length calls + 1) (length calls)
    ≡ length (calls ++ option_to_list enters)
index_more None calls = omega (arith, length-append calls [])
index_more (Some call) calls = sym (length-append calls (call ∷ []))

pub returns_more : (b : Bool) (xs ys : List ℕ) (t u : Trace) → AreReturns xs t → AreReturns ys u → AreReturns (cond b xs ys) (cond b t u)
returns_more true xs ys t u h k = h
returns_more false xs ys t u h k = k

-- Of its own step a core's calls are known.
own_lane : (t : Trace) (e : Step) (l : Lane) (others : List ℕ) (n y : ℕ) → n ≡ suc (length t) → AreReturns others t → KnownLane t e.core l
    → KnownLane (e ∷ t) e.core (lane_next e.enters e.decides e.returns n y others l)
own_lane t e l others n y is now k = record {
  index = index_next n y others e.enters e.decides e.returns l
      ∙ ap (λ (i : ℕ). cond (is_some e.enters) (i + 1) i) k.index
      ∙ index_more e.enters (calls_of t e.core) ∙ sym (ap length (calls_of-own e.core e t refl));
  entered = entered_next n y others e.enters e.decides e.returns l ∙ ap (cond (is_some e.enters) n) k.entered
      ∙ ap (λ (i : ℕ). cond (is_some e.enters) i (entered_at t e.core)) is ∙ sym (entered_own e t);
  returned = returned_next n y others e.enters e.decides e.returns l ∙ ap (cond (is_some e.returns) n) k.returned
      ∙ ap (λ (i : ℕ). cond (is_some e.returns) i (returned_at t e.core)) is ∙ sym (returned_own e t);
  others = λ d lt. ap (λ (xs : List ℕ). get_or xs d 0) (others_next n y others e.enters e.decides e.returns l)
      ∙ returns_more (is_some e.enters) others l.others t (before_entry t e.core) now k.others d lt
      ∙ ap (λ (u : Trace). returned_at u d) (sym (before_own e t));
}

other_lane : (t : Trace) (e : Step) (c : ℕ) (l : Lane) → c ≢ e.core → KnownLane t c l → KnownLane (e ∷ t) c l
other_lane t e c l apart k = record {
  index = k.index ∙ sym (ap length (calls_of-other c e t apart));
  entered = k.entered ∙ sym (entered_other e t c apart);
  returned = k.returned ∙ sym (returned_other e t c apart);
  others = λ d lt. k.others d lt ∙ ap (λ (u : Trace). returned_at u d) (sym (before_other e t c apart));
}

-- The last returns of eight cores.
eight_returns : (a b c d e f g h : ℕ) (t : Trace) → a ≡ returned_at t 0 → b ≡ returned_at t 1 → c ≡ returned_at t 2 → d ≡ returned_at t 3
    → e ≡ returned_at t 4 → f ≡ returned_at t 5 → g ≡ returned_at t 6 → h ≡ returned_at t 7
    → AreReturns (a ∷ b ∷ c ∷ d ∷ e ∷ f ∷ g ∷ h ∷ []) t
eight_returns a b c d e f g h t la lb lc ld le lf lg lh zero lt = la
eight_returns a b c d e f g h t la lb lc ld le lf lg lh (suc zero) lt = lb
eight_returns a b c d e f g h t la lb lc ld le lf lg lh (suc (suc zero)) lt = lc
eight_returns a b c d e f g h t la lb lc ld le lf lg lh (suc (suc (suc zero))) lt = ld
eight_returns a b c d e f g h t la lb lc ld le lf lg lh (suc (suc (suc (suc zero)))) lt = le
eight_returns a b c d e f g h t la lb lc ld le lf lg lh (suc (suc (suc (suc (suc zero))))) lt = lf
eight_returns a b c d e f g h t la lb lc ld le lf lg lh (suc (suc (suc (suc (suc (suc zero)))))) lt = lg
eight_returns a b c d e f g h t la lb lc ld le lf lg lh (suc (suc (suc (suc (suc (suc (suc zero))))))) lt = lh
eight_returns a b c d e f g h t la lb lc ld le lf lg lh (suc (suc (suc (suc (suc (suc (suc (suc i)))))))) lt = absurd (omega (arith, lt))

pub returns_now : (t : Trace) (lanes : List Lane) → ((c : ℕ) → c < 8 → KnownLane t c (lane_of lanes c)) → AreReturns (returns_of lanes) t
returns_now t lanes known =
    let r : (c : ℕ) → c < 8 → (lane_of lanes c).returned ≡ returned_at t c = λ c lt. (known c lt).returned in
    eight_returns _ _ _ _ _ _ _ _ t (r 0 (omega arith)) (r 1 (omega arith)) (r 2 (omega arith)) (r 3 (omega arith)) (r 4 (omega arith))
    (r 5 (omega arith)) (r 6 (omega arith)) (r 7 (omega arith))

-- ---- words

says_here : (b : Bool) (t u : Trace) (c : Change) (o : Option Change) → Says t (Some c) → Says u o → Says (cond b t u) (cond b (Some c) o)
says_here true t u c o h k = h
says_here false t u c o h k = k

change_of : (b : Bool) (c : Change) (t : Touch) → (touched b c t).change ≡ cond b (Some c) t.change
change_of true c t = refl
change_of false c t = refl

-- ---- a step

module _ (setup : Setting) (setting : IsSetting setup) (t : Trace) (e : Step) (legal : IsLegal setup (e ∷ t)) where
  shape : IsShape (shape_of setup)
  shape = record {
    some_core = setting.some_core;
    most_cores = setting.most_cores;
    least_frames = setting.least_frames;
    most_frames = setting.most_frames;
  }

  places : HasPlaces (shape_of setup)
  places = has_places (shape_of setup) shape

  abbrev w : Word
  w = word_of e.move

  own_core : e.core < 8
  own_core = omega (arith, legal.1.is_core, setting.most_cores)

  -- The page has taken the trace, and takes the step: at a height, by its number.
  module _ (p : Page) (known : Known setup t p) (y n : ℕ) (is : n ≡ suc (length t)) where
    abbrev own : Lane
    own = lane_of p.lanes e.core

    -- the core's calls before it returns, and after that
    abbrev at_step : Lane
    at_step = lane_topped e.enters y (lane_decided e.decides n (lane_entered e.enters n (returns_of p.lanes) own))

    abbrev after_step : Lane
    after_step = lane_returned e.returns n at_step

    lanes_known : (c : ℕ) → c < 8 → KnownLane (e ∷ t) c (lane_of (slice_set p.lanes e.core after_step) c)
    lanes_known c lt = elim (cases_eq c e.core) [
      | inl mine ↦ subst (λ (d : ℕ). KnownLane (e ∷ t) d (lane_of (slice_set p.lanes e.core after_step) d)) (sym mine)
          (subst (KnownLane (e ∷ t) e.core)
          (sym (get_or-set_same p.lanes e.core after_step no_call (omega (arith, own_core, known.eight))))
          (own_lane t e own (returns_of p.lanes) n y is (returns_now t p.lanes known.lanes) (known.lanes e.core own_core)))
      | inr apart ↦ subst (KnownLane (e ∷ t) c) (sym (get_or-set_other p.lanes e.core c after_step no_call apart))
          (other_lane t e c (lane_of p.lanes c) apart (known.lanes c lt))
    ]

    abbrev tells : Bool
    tells = not (e.found == left_of e.move e.found)

    abbrev change : Change
    change = record { core = e.core; index = at_step.index; step = n; y = y }

    change_says : Says (e ∷ t) (Some change)
    change_says = (
      refl,
      is,
      index_next n y (returns_of p.lanes) e.enters e.decides None own
          ∙ ap (λ (i : ℕ). cond (is_some e.enters) (i + 1) i) (known.lanes e.core own_core).index
          ∙ index_more e.enters (calls_of t e.core) ∙ sym (ap length (calls_of-own e.core e t refl)),
    )

    abbrev at : ℕ
    at = place_of (shape_of setup) w

    abbrev touch : Touch
    touch = touched tells change (slice_index_or p.words at untouched)

    abbrev table : List Touch
    table = slice_set p.words at touch

    in_table : at < length p.words
    in_table = omega (arith, places.below w legal.1.is_in, known.table)

    newest_own : newest (e ∷ t) w ≡ cond tells (e ∷ t) (newest t w)
    newest_own = rw (same_word-same w w refl)

    newest_other : (v : Word) → v ≢ w → newest (e ∷ t) v ≡ newest t v
    newest_other v apart = rw (same_word-other v w apart)

    own_says : Says (newest (e ∷ t) w) touch.change
    own_says = subst (λ (u : Trace). Says u touch.change) (sym newest_own)
        (subst (Says (cond tells (e ∷ t) (newest t w))) (sym (change_of tells change (slice_index_or p.words at untouched)))
        (says_here tells (e ∷ t) (newest t w) change _ change_says (known.words w legal.1.is_in)))

    words_known : (v : Word) → IsIn (shape_of setup) v → Says (newest (e ∷ t) v)
        (slice_index_or table (place_of (shape_of setup) v) untouched).change
    words_known v is_in = elim (cases_word v w) [
      | inl here ↦ subst (λ (u : Word). Says (newest (e ∷ t) u) (slice_index_or table (place_of (shape_of setup) u) untouched).change)
          (sym here) (subst (λ (x : Touch). Says (newest (e ∷ t) w) x.change)
          (sym (get_or-set_same p.words at touch untouched in_table)) own_says)
      | inr apart ↦ subst (λ (u : Trace). Says u (slice_index_or table (place_of (shape_of setup) v) untouched).change)
          (sym (newest_other v apart)) (subst (λ (x : Touch). Says (newest t v) x.change)
          (sym (get_or-set_other p.words at (place_of (shape_of setup) v) touch untouched
          (λ same. apart (places.distinct v w is_in legal.1.is_in same)))) (known.words v is_in))
    ]

-- A page that has taken the trace takes one step more.
module _ (setup : Setting) (setting : IsSetting setup) (t : Trace) (e : Step) (legal : IsLegal setup (e ∷ t)) where
  taken_known : (p : Page) → Known setup t p → Known setup (e ∷ t) (taken p (seen (shape_of setup) e))
  taken_known p known =
      let s : Seen = seen (shape_of setup) e in
      let y : ℕ = (rows_after p.rows (placed p s (tail_at p s))).y in
      let is : next_step p ≡ suc (length t) = omega (arith, known.count) in
      record {
        count = omega (arith, known.count);
        table = length-set p.words _ _ ∙ known.table;
        eight = length-set p.lanes _ _ ∙ known.eight;
        lanes = lanes_known setup setting t e legal p known y (next_step p) is;
        words = words_known setup setting t e legal p known y (next_step p) is;
      }

  turned_known : (p : Page) → Known setup t p → Known setup t (turned p)
  turned_known p known = record {
    count = omega (arith, known.count);
    table = known.table;
    eight = known.eight;
    lanes = known.lanes;
    words = known.words;
  }

  turned_to_known : (b : Bool) (p : Page) → Known setup t p
      → (cond b (taken (turned p) (seen (shape_of setup) e)) (record p { is_cut = true })).is_cut ≡ false
      → Known setup (e ∷ t) (cond b (taken (turned p) (seen (shape_of setup) e)) (record p { is_cut = true }))
  turned_to_known true p known uncut = taken_known (turned p) (turned_known p known)
  turned_to_known false p known uncut = absurd (true≢false uncut)

  step_known : (cut full : Bool) (p : Page) → (cut ≡ false → Known setup t p)
      → (cond cut p (cond full (turned_to p (seen (shape_of setup) e)) (taken p (seen (shape_of setup) e)))).is_cut ≡ false
      → p.is_cut ≡ cut
      → Known setup (e ∷ t) (cond cut p (cond full (turned_to p (seen (shape_of setup) e)) (taken p (seen (shape_of setup) e))))
  step_known true full p known uncut is = absurd (true≢false (sym is ∙ uncut))
  step_known false true p known uncut is = turned_to_known (nat_lt p.page p.wanted) p (known refl) uncut
  step_known false false p known uncut is = taken_known p (known refl)

blank_lanes : (c : ℕ) → c < 8 → KnownLane [] c (lane_of (replicate 8 no_call) c)
blank_lanes c lt = subst (KnownLane [] c) (sym (get_or-replicate 8 c no_call no_call lt)) record {
  index = refl;
  entered = refl;
  returned = refl;
  others = λ d less. get_or-replicate 8 d 0 0 less;
}

blank_known : (page : ℕ) (setup : Setting) → Known setup [] (blank page setup)
blank_known page setup = record {
  count = refl;
  table = length-replicate (size_of (shape_of setup)) untouched;
  eight = refl;
  lanes = blank_lanes;
  words = λ w is_in. blank_word (place_of (shape_of setup) w);
} where
  blank_word : (i : ℕ) → Says [] (slice_index_or (replicate (size_of (shape_of setup)) untouched) i untouched).change
  blank_word i = subst (λ (x : Touch). Says [] x.change) (sym (replicate_same (size_of (shape_of setup)) i)) tt where
    replicate_same : (n i : ℕ) → get_or (replicate n untouched) i untouched ≡ untouched
    replicate_same zero i = refl
    replicate_same (suc n) zero = refl
    replicate_same (suc n) (suc i) = replicate_same n i

-- A page that is not cut has taken all steps of the trace.
pub page_known : (page : ℕ) (setup : Setting) → IsSetting setup → (t : Trace) → IsLegal setup t
    → (page_after page setup t).is_cut ≡ false → Known setup t (page_after page setup t)
page_known page setup setting [] legal uncut = blank_known page setup
page_known page setup setting (e ∷ t) legal uncut =
    step_known setup setting t e legal (page_after page setup t).is_cut (is_full (page_after page setup t).rows (is_some e.enters))
    (page_after page setup t) (λ h. page_known page setup setting t legal.0 h) uncut refl
