-- A step of a scan for a place that is quiescing is good, whatever it scans and whatever is then done.
use Rattle.place_invariant.specs.step_ways.proofs as low
use low.{◌≡◌, ℕ, ◌<◌, ◌≤◌, false, Some, arith, refl, sym, ◌∙◌, ap, subst, false≢true, Setting, IsSetting, entry_of_word, CoreAt, FlushAt}
use low.{Move, LoadOf, word_of, told_of, PlaceOf, Trace, last_left, Quiet, AtCore, AtFlush, quiet_end, quiet_after, Outside, Scan}
use low.{stamp_shown, Undecided, ActiveCall, StageFits, landed, took_scan, Core, KnowsAct, KnowsUndecided, NamesAre, IsSpot, phase_at}
use low.{goes_on, Invariant, Fill as fill_act, Map as map_act, MakeComp as comp_act, is_active, GoodTook, plan_for}
use Rattle.place_invariant.specs.core_invariant.specs.{Make as make_act, scanned_for}
use Rattle.place_invariant.specs.act_states.specs.{quiet_move, ActFits, stamp_of_act}
use Rattle.place_invariant.specs.act_states.specs.declared.work.Act.{Act as ActOf}
use Rattle.place_invariant.proofs.{Outside.refused_outside, Starts.IsRefusedOutside as RefusedOutside}
use Rattle.scan_invariant.proofs.{CoreScans.core_good, FlushScans.flush_good}

-- What an act that is scanned for knows: the place, with the word that was read there, and that it knows the rest of its act still where
-- more was scanned; one that is out of range is refused so.
record ScansPlace (setup : Setting) (t : Trace) (c : ℕ) (a : ActiveCall) (flushes : ℕ) (act : ActOf) (move : Move) : Type 0 where
  node : ℕ
  index : ℕ
  word : ℕ
  small : index < 64
  thing : scanned_for act ≡ PlaceOf node index
  spot : IsSpot setup t c (plan_for a.call) a.found flushes node index word
  stamp : stamp_shown (entry_of_word word) ≡ stamp_of_act act
  again : (upto : ℕ) → IsSpot setup t c (plan_for a.call) a.found upto node index word
      → KnowsAct setup t c a.call (plan_for a.call) a.found upto act
  outside : goes_on act ≡ false → IsSpot setup t c (plan_for a.call) a.found setup.cores node index word
      → RefusedOutside setup t c a.call move

module _ (setup : Setting) (setting : IsSetting setup) (cores : ℕ → Core) (t : Trace) (stands : Invariant setup cores t) (c : ℕ)
    (here : c < setup.cores)
    (a : ActiveCall) (active : (cores c).active ≡ Some a) (q : Quiet) (x flushes : ℕ) (some : 1 ≤ x) (move : Move) where
  scans_place : (act : ActOf) → a.stage ≡ Undecided (Scan q act) → ActFits (cores c).own.layout act → stamp_of_act act ≡ x
      → NamesAre setup t c (cores c).own.table (plan_for a.call) a.found → KnowsAct setup t c a.call (plan_for a.call) a.found flushes act
      → ScansPlace setup t c a flushes act move
  scans_place (fill_act fill) is fits stamp names knows = record {
    node = fill.node;
    index = fill.entry;
    word = fill.word;
    small = fits.entry;
    thing = refl;
    spot = record { target = knows.target; next = knows.next; way = knows.way; own = knows.own; vacant = knows.vacant };
    stamp = refl;
    again = λ upto spot. record {
      target = spot.target;
      next = spot.next;
      way = spot.way;
      own = spot.own;
      vacant = spot.vacant;
      fits = knows.fits;
      read = knows.read;
      has_read = knows.has_read;
      puts = knows.puts;
      user = knows.user;
    };
    outside = λ out. absurd (false≢true (sym out));
  }
  scans_place (comp_act m) is fits stamp names knows = record {
    node = m.fill.node;
    index = m.fill.entry;
    word = m.fill.word;
    small = fits.fill.entry;
    thing = refl;
    spot = knows.spot;
    stamp = refl;
    again = λ upto spot. record {
      spot = spot;
      makes = knows.makes;
      core = knows.core;
      epochs = knows.epochs;
      cap = knows.cap;
      at = knows.at;
    };
    outside = λ out. absurd (false≢true (sym out));
  }
  scans_place (make_act m) is fits stamp names knows = record {
    node = m.fill.node;
    index = m.fill.entry;
    word = m.fill.word;
    small = fits.fill.entry;
    thing = refl;
    spot = knows.spot;
    stamp = refl;
    again = λ upto spot. record { spot = spot; makes = knows.makes; core = knows.core; cap = knows.cap; at = knows.at };
    outside = λ out. absurd (false≢true (sym out));
  }
  scans_place (map_act fill) is fits stamp names knows = record {
    node = fill.node;
    index = fill.entry;
    word = fill.word;
    small = fits.0.entry;
    thing = refl;
    spot = knows.spot;
    stamp = refl;
    again = λ upto spot. record { spot = spot; fits = knows.fits; puts = knows.puts; frame = knows.frame; maps = knows.maps };
    outside = λ out. absurd (false≢true (sym out));
  }
  scans_place (Outside node entry word) is fits stamp names knows = record {
    node = node;
    index = entry;
    word = word;
    small = fits.1;
    thing = refl;
    spot = knows.spot;
    stamp = refl;
    again = λ upto spot. record { spot = spot; outside = knows.outside };
    outside = λ out spot. refused_outside setup setting cores t stands c here a active (ap (phase_at a.call) is) names node entry word spot
        fits.1 knows.outside move;
  }
  scans_place act is fits stamp names knows = absurd (omega arith)

pub scan_good : (setup : Setting) → IsSetting setup → (cores : ℕ → Core) (t : Trace) → Invariant setup cores t → (c : ℕ) → c < setup.cores
    → (a : ActiveCall) → (cores c).active ≡ Some a
    → (q : Quiet) (act : ActOf) → a.stage ≡ Undecided (Scan q act) → KnowsUndecided setup t c (cores c).own.table a (Scan q act)
    → GoodTook setup cores t c (quiet_move q) (landed a (took_scan (cores c).own.core act
    (quiet_after (cores c).own.layout.cores q (told_of (quiet_move q) (last_left setup t (word_of (quiet_move q)))))
    (quiet_end (cores c).own.layout.cores q (told_of (quiet_move q) (last_left setup t (word_of (quiet_move q)))))))
scan_good setup setting cores t stands c here a active (AtFlush x at) act is knows = subst Goal
    (sym (ap (λ s. s.cores) (stands.each c here).shape))
    (flush_good setup setting cores t stands c here a active x at act place.node place.index place.word place.small is knows place.thing
    place.spot (place.stamp ∙ knows.knows.stamp) place.again place.outside)
  where
    Goal : ℕ → Type 0
    Goal n = GoodTook setup cores t c (LoadOf (FlushAt at)) (landed a (took_scan (cores c).own.core act
        (quiet_after n (AtFlush x at) (last_left setup t (FlushAt at)))
        (quiet_end n (AtFlush x at) (last_left setup t (FlushAt at)))))

    fits : StageFits (cores c).own.layout (Undecided (Scan (AtFlush x at) act))
    fits = subst (StageFits (cores c).own.layout) is (is_active setup setting cores t stands c here a active).stage

    place : ScansPlace setup t c a at act (LoadOf (FlushAt at))
    place = scans_place setup setting cores t stands c here a active (AtFlush x at) x at fits.1 (LoadOf (FlushAt at)) act is fits.2
        knows.knows.stamp knows.names knows.knows.knows
scan_good setup setting cores t stands c here a active (AtCore x by at page) act is knows = subst Goal
    (sym (ap (λ s. s.cores) (stands.each c here).shape))
    (core_good setup setting cores t stands c here a active x by at page act place.node place.index place.word is knows place.thing
    place.spot (place.stamp ∙ knows.knows.stamp) place.again place.outside)
  where
    Goal : ℕ → Type 0
    Goal n = GoodTook setup cores t c (LoadOf (CoreAt at)) (landed a (took_scan (cores c).own.core act
        (quiet_after n (AtCore x by at page) (last_left setup t (CoreAt at)))
        (quiet_end n (AtCore x by at page) (last_left setup t (CoreAt at)))))

    fits : StageFits (cores c).own.layout (Undecided (Scan (AtCore x by at page) act))
    fits = subst (StageFits (cores c).own.layout) is (is_active setup setting cores t stands c here a active).stage

    place : ScansPlace setup t c a 0 act (LoadOf (CoreAt at))
    place = scans_place setup setting cores t stands c here a active (AtCore x by at page) x 0 fits.1.1 (LoadOf (CoreAt at)) act is fits.2
        knows.knows.stamp knows.names knows.knows.knows
