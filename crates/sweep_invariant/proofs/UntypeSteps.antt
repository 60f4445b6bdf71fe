-- The step of a call that makes a frame untyped, wherever it stands.
use Rattle.freeze_invariant.specs.step_ways.proofs.{◌≡◌, ℕ, ◌<◌, List, Some, refl, sym, subst, Setting, IsSetting, CountWord, FrameWord}
use Rattle.freeze_invariant.specs.step_ways.proofs.{word_of, told_of, Shape, Trace, last_left, AtCore, AtFlush, Owned, SweepAt, Empty}
use Rattle.freeze_invariant.specs.step_ways.proofs.{Untyping, UntypingAt, Act, ActiveCall, Undecided, landed, Core, KnowsUndecided}
use Rattle.freeze_invariant.specs.step_ways.proofs.{Invariant, Untype as untype_act, GoodTook}
use Rattle.freeze_invariant.specs.act_states.specs.{Compare, Load as sweep_load, Scan}
use Rattle.freeze_invariant.proofs.{sweeping, untyping_by}
use Rattle.freeze_invariant.specs.act_states.specs.declared.untypings.UntypingAt.TheVariants.{Draw, Load, Mark, Sweep as sweep_at}
use Rattle.freeze_invariant.proofs.{Counters.counter_load_good, FrameCores.core_scan_good, FrameFlushes.flush_scan_good}
use Rattle.freeze_invariant.proofs.{Freezes.compare_good, Marking.load_good, Marking.mark_good}
use Rattle.sweep_invariant.proofs.{Objects.object_good, Untyped.untyped_good}
use Rattle.{freeze_invariant.specs.act_states.specs.Taking.took_untyping, freeze_invariant.specs.act_states.specs.Untypings.untyping_move}

module _ (setup : Setting) (setting : IsSetting setup) (cores : ℕ → Core) (t : Trace) (stands : Invariant setup cores t) (c : ℕ)
    (here : c < setup.cores)
    (a : ActiveCall) (active : (cores c).active ≡ Some a) where
  -- what its step leads to on a machine of this shape
  abbrev GoodOn : Shape → Untyping → Type 0
  GoodOn shape m = GoodTook setup cores t c (untyping_move m)
      (landed a (took_untyping shape m (told_of (untyping_move m) (last_left setup t (word_of (untyping_move m))))))

  abbrev IsAt : Untyping → Type 0
  IsAt m = a.stage ≡ Undecided (Act (untype_act m))

  abbrev Knows : Untyping → Type 0
  Knows m = KnowsUndecided setup t c (cores c).own.table a (Act (untype_act m))

  abbrev layout : Shape
  layout = (cores c).own.layout

  -- a sweep
  swept_good : (f core word g : ℕ) (v : FrameWord) (b : ℕ) (kept : List CountWord) (o : Owned) (at : SweepAt)
      → IsAt (untyping_by f core word (sweeping g v b kept o at)) → Knows (untyping_by f core word (sweeping g v b kept o at))
      → GoodOn layout (untyping_by f core word (sweeping g v b kept o at))
  swept_good f core word g v b kept o sweep_load is has =
      counter_load_good setup setting cores t stands c here a active f core word g v b kept o is has
  swept_good f core word g v b kept o (Compare count stamp) is has =
      compare_good setup setting cores t stands c here a active f core word g v b kept o count stamp is has
  swept_good f core word g v b kept o (Scan (AtCore x by at page)) is has =
      subst (λ shape. GoodOn shape (untyping_by f core word (sweeping g v b kept o (Scan (AtCore x by at page)))))
      (sym (stands.each c here).shape)
      (core_scan_good setup setting cores t stands c here a active f core word g v b kept o x by at page is has)
  swept_good f core word g v b kept o (Scan (AtFlush x at)) is has =
      subst (λ shape. GoodOn shape (untyping_by f core word (sweeping g v b kept o (Scan (AtFlush x at)))))
      (sym (stands.each c here).shape)
      (flush_scan_good setup setting cores t stands c here a active f core word g v b kept o x at is has)
  swept_good f core word g v b kept o (Empty i) is has =
      subst (λ shape. GoodOn shape (untyping_by f core word (sweeping g v b kept o (Empty i)))) (sym (stands.each c here).shape)
      (object_good setup setting cores t stands c here a active f core word g v b kept o i is has)

  at_good : (f core : ℕ) (at : UntypingAt) → IsAt (record { frame = f; core = core; at = at })
      → Knows (record { frame = f; core = core; at = at }) → GoodOn layout (record { frame = f; core = core; at = at })
  at_good f core Load is has =
      load_good setup setting cores t stands c here a active (record { frame = f; core = core; at = Load }) is has refl
  at_good f core (Mark word v) is has =
      mark_good setup setting cores t stands c here a active (record { frame = f; core = core; at = Mark word v }) is has word v refl
  at_good f core (sweep_at word w) is has = swept_good f core word w.frame w.word w.core w.kept w.owned w.at is has
  at_good f core (Draw word w) is has = untyped_good setup setting cores t stands c here a active f core word w is has

  pub untype_good : (m : Untyping) → IsAt m → Knows m → GoodOn layout m
  untype_good m is has = at_good m.frame m.core m.at is has
