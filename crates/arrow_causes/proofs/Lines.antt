-- A step that is blamed, and whose word's newest change is another core's in its present call, has a line from that.
use Rattle.flight_laws.specs.flight.proofs.{◌≡◌, ◌≢◌, ℕ, suc, ◌<◌, true, false, ◌∷◌, length, Option, Some, None, refl, sym, ◌∙◌, ap, subst}
use Rattle.flight_laws.specs.flight.proofs.{arith, get_or as slice_index_or, Setting, IsSetting, place_of, word_of, Step, Trace, Out, phase}
use Rattle.flight_laws.specs.flight.proofs.{calls_of, IsLegal, shape_of}
use Rattle.arrow_laws.specs.page_layers.specs.{Seen.Seen, Seen.seen, Layers.is_blamed, declared.lanes.Change.Change}
use Rattle.arrow_laws.specs.page_drawing.specs.page_touches.specs.{declared.touches.Touch.Touch, Touches.untouched, Touches.is_clock}
use Rattle.arrow_laws.proofs.{Calls.before_returns, Calls.returned_other, Calls.in_call_since, Heads.newest_core, Known.Says}
use Rattle.{arrow_laws.specs.returned_at, arrow_laws.specs.before_entry, arrow_laws.specs.page_drawing.specs.Pages.page_after}
use Rattle.{arrow_laws.specs.Arrows.HasTaken, arrow_laws.proofs.Known.page_known, arrow_laws.proofs.Lines.line_from}
use Rattle.{arrow_laws.specs.page_drawing.specs.page_touches.proofs.Blamed.blamed_are_met, arrow_causes.specs.Causes.IsLineFrom}
use Rattle.{arrow_causes.proofs.Holders.IsHolders}

module _ (page : ℕ) (setup : Setting) (setting : IsSetting setup) (t : Trace) (e : Step) (legal : IsLegal setup (e ∷ t))
    (taken : HasTaken page setup t) (blamed : is_blamed e.decides ≡ true) (word : is_clock (word_of e.move) ≡ false) (d : ℕ)
    (other : d ≢ e.core) (inside : phase t d ≢ Out) (holds : IsHolders t (word_of e.move) d) where
  abbrev s : Seen
  s = seen (shape_of setup) e

  abbrev touch : Touch
  touch = slice_index_or (page_after page setup t).words (place_of (shape_of setup) (word_of e.move)) untouched

  -- d's last return was before the entry of its call
  returned_early : (c : Change) → c.core ≡ d → c.step ≡ suc (length holds.before)
      → returned_at (before_entry (e ∷ t) e.core) c.core < c.step
  returned_early c core step =
      subst (λ (n : ℕ). returned_at (before_entry (e ∷ t) e.core) n < c.step) (sym core)
      (let h = before_returns (e ∷ t) e.core d in
      let same = returned_other e t d other in
      let g = in_call_since setup t legal.0 d inside in
      let since = holds.since in
      omega (arith, h, same, g, since, step))

  by_says : (o : Option Change) → touch.change ≡ o → Says (holds.tail ∷ holds.before) o
      → (l : IsLineFrom page setup t e d) × (l.change.step ≡ suc (length holds.before))
  by_says None there says = absurd says
  by_says (Some c) there says =
      let core : c.core ≡ d = says.0 ∙ holds.own in (
        record {
          change = c;
          arrow = blamed_are_met touch s c blamed word there (λ h. other (sym core ∙ h));
          line = line_from page setup t e (page_known page setup setting t legal.0 taken)
              (omega (arith, legal.1.is_core, setting.most_cores)) c
              (omega (
                arith,
                says.0,
                setting.most_cores,
                newest_core setup t legal.0 (word_of e.move) holds.tail holds.before holds.is_newest,
              ))
              (returned_early c core says.1);
          core = core;
          call = says.2 ∙ ap (λ (n : ℕ). length (calls_of (holds.tail ∷ holds.before) n)) holds.own ∙ holds.call;
          since = let h = holds.since in omega (arith, h, says.1);
          in_progress = inside;
        },
        says.1,
      )

  pub line_of : (l : IsLineFrom page setup t e d) × (l.change.step ≡ suc (length holds.before))
  line_of = by_says touch.change refl (subst (λ (u : Trace). Says u touch.change) holds.is_newest
      ((page_known page setup setting t legal.0 taken).words (word_of e.move) legal.1.is_in))
