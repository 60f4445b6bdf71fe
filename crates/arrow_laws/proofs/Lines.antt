-- An arrow is a line exactly where its two calls overlap.
use Rattle.page_drawing.specs as low
use low.kernel_history.proofs.{◌≡◌, ℕ, ◌<◌, cond, true, List, ◌∷◌, get_or, Option, Some, None, refl, sym, ◌∙◌, ap, arith, is_some}
use low.kernel_history.proofs.{ltb as nat_lt, lt-ltb, Setting, Call, Reply, Step}
use Rattle.arrow_laws.proofs.{Calls.before_own, Heads.heads_find_tails, Heads.newest_core, Known.Known, Known.page_known}
use low.{Page, page_after, next_step, page_layers.specs.lane_entered, page_layers.specs.lane_decided, kernel_history.specs.Trace.Trace}
use low.{page_layers.specs.declared.lanes.Lane.Lane, page_layers.specs.declared.lanes.Change.Change, Pages.lane_of, Pages.returns_of}
use Rattle.{arrow_laws.specs.returned_at, arrow_laws.specs.before_entry, arrow_laws.specs.Arrows.is_line}
use Rattle.{arrow_laws.specs.Arrows.LinesOverlap, arrow_laws.proofs.Known.returns_more, arrow_laws.proofs.Known.returns_now}

others_at : (enters : Option Call) (decides : Option Reply) (n : ℕ) (o : List ℕ) (l : Lane)
    → (lane_decided decides n (lane_entered enters n o l)).others ≡ cond (is_some enters) o l.others
others_at None None n o l = refl
others_at None (Some r) n o l = refl
others_at (Some c) None n o l = refl
others_at (Some c) (Some r) n o l = refl

module _ (page : ℕ) (setup : Setting) (t : Trace) (e : Step) (known : Known setup t (page_after page setup t)) (own_core : e.core < 8) where
  abbrev p : Page
  p = page_after page setup t

  pub line_is : (c : Change) → c.core < 8
      → is_line page setup t e c ≡ nat_lt (returned_at (before_entry (e ∷ t) e.core) c.core) c.step
  line_is c few =
      ap (λ (xs : List ℕ). nat_lt (get_or xs c.core 0) c.step)
      (others_at e.enters e.decides (next_step p) (returns_of p.lanes) (lane_of p.lanes e.core))
      ∙ ap (λ (n : ℕ). nat_lt n c.step) (
      returns_more (is_some e.enters) (returns_of p.lanes) (lane_of p.lanes e.core).others t (before_entry t e.core)
      (returns_now t p.lanes known.lanes) (known.lanes e.core own_core).others c.core few
      ∙ ap (λ (u : Trace). returned_at u c.core) (sym (before_own e t))
      )

  -- So it is one where the tail is later than its core's last return before the entry.
  pub line_from : (c : Change) → c.core < 8 → returned_at (before_entry (e ∷ t) e.core) c.core < c.step
      → is_line page setup t e c ≡ true
  line_from c few later = line_is c few ∙ lt-ltb (returned_at (before_entry (e ∷ t) e.core) c.core) c.step later

pub lines_overlap : LinesOverlap
lines_overlap page setup t e c setting legal uncut arrow =
    let from = heads_find_tails page setup t e c setting legal uncut arrow in
    let tail : from.tail.core < setup.cores = newest_core setup t legal.0 _ from.tail from.before from.is_newest in
    line_is page setup t e (page_known page setup setting t legal.0 uncut) (omega (arith, legal.1.is_core, setting.most_cores)) c
    (omega (arith, tail, from.core, setting.most_cores))
