-- Where the steps of a touch lead to fits its machine, and leaves fewer steps.
use Rattle.call_stages.specs as low
use low.act_states.proofs.{◌≡◌, ℕ, ◌+◌, ◌<◌, ◌≤◌, Bool, true, false, length, Option, Some, None, IfSome, refl, sym, subst, arith}
use low.act_states.proofs.{Capability, Translation, Entry, CapNames, shown_in, is_link, look_end, look_after, place_end, end_by_link, Look}
use low.act_states.proofs.{AtRoot, AtLeaf, AtEntry, touch_end, touched, refuse, Reply}
use Rattle.act_fits.proofs.Common.{EntryNames, Own, Caches, Refusal, touch_act, Nothing, Act, Goes, Answers, Changes, ActiveCall, landed}
use low.stage_look.specs.{LookFits, after_link}
use low.stage_look.proofs.LookLemmas.{shown_names, leaf_below}
use low.act_states.specs.Touches.{TouchFits, fault_of, mapping_of, took_touch, touch_left}
use Rattle.act_fits.proofs.LandsFit.{TookFits, Facts, landed_fits}
use low.{kernel_rules.specs.MemoryCalls.translated, act_states.specs.declared.touches.Touching.Touching}

module _ (own : Own) (a : ActiveCall) (facts : Facts own a) (room : own.made < own.limit) (none : length a.counts ≡ 0) where
  refused : (left : ℕ) (r : Refusal) → 2 + length a.counts < left → TookFits own left a (landed a (refuse r))
  refused left r some =
      landed_fits own a a refl refl facts.found facts.acquired room 0 left (refuse r) (omega arith, tt) (omega arith)

  -- the entry of the page
  page_fits : (m : Touching) (left : ℕ) (look : Look) (node index word : ℕ) (shown : Option Entry) → 2 + length a.counts < left
      → TookFits own left a (landed a (touch_end m look (place_end node index word shown)))
  page_fits m left look node index word None some = refused left (fault_of Reply.Raced) some
  page_fits m left look node index word (Some (Entry.Held k)) some =
      landed_fits own a a refl refl facts.found facts.acquired room 0 left
      (Changes (Reply.Ok (translated (mapping_of m k))) (Caches (mapping_of m k)) None Nothing) (omega arith, tt, tt) (omega arith)
  page_fits m left look node index word (Some (Entry.Closing by)) some = refused left (fault_of (Reply.Busy by)) some
  page_fits m left look node index word _ some = refused left Refusal.Fault some

  link_fits : (m : Touching) (linked : Bool) (top number : ℕ) (k : Capability) → linked ≡ is_link k.kind → CapNames own.layout.frames k
      → m.frames ≡ own.layout.frames
      → TookFits own (2 + length a.counts + 2) a (landed a (touch_end m (after_link linked top number k.frame) (end_by_link linked)))
  link_fits m true top number k is names all =
      landed_fits own a a refl refl facts.found facts.acquired room 1 (2 + length a.counts + 2)
      (Goes (Act (touch_act (record m { look = AtLeaf k.frame number }))))
      (record { look = leaf_below own.layout.frames k.kind k.frame k.arg (sym is) names; all = all }, omega arith, none) (omega arith)
  link_fits m false top number k is names all = refused (2 + length a.counts + 2) (fault_of Reply.NoSlot) (omega arith)

  shown_fits : (m : Touching) (look : Look) (word : ℕ) (shown : Option Entry) → LookFits own.layout look
      → IfSome shown (EntryNames own.layout.frames) → m.frames ≡ own.layout.frames
      → TookFits own (2 + length a.counts + touch_left look) a (landed a (touch_end m (look_after look shown) (look_end look word shown)))
  shown_fits m (AtRoot top number) word None fits names all = refused _ (fault_of Reply.Raced) (omega arith)
  shown_fits m (AtRoot top number) word (Some Entry.Free) fits names all = refused _ (fault_of Reply.NoSlot) (omega arith)
  shown_fits m (AtRoot top number) word (Some (Entry.Held k)) fits names all = link_fits m _ top number k refl names all
  shown_fits m (AtRoot top number) word (Some (Entry.Closing by)) fits names all = refused _ (fault_of (Reply.Busy by)) (omega arith)
  shown_fits m (AtRoot top number) word (Some (Entry.Quiescing stamp)) fits names all = refused _ (fault_of Reply.NoSlot) (omega arith)
  shown_fits m (AtLeaf leaf number) word shown fits names all = page_fits m _ _ _ _ word shown (omega arith)
  shown_fits m (AtEntry top index) word shown fits names all = page_fits m _ _ _ _ word shown (omega arith)

  some_left : (look : Look) → 1 ≤ touch_left look
  some_left (AtRoot top number) = omega arith
  some_left _ = omega arith

  pub touch_fits : (m : Touching) (word : ℕ) → TouchFits own.layout m
      → TookFits own (2 + length a.counts + touch_left m.look) a (landed a (took_touch m word))
  touch_fits m word fits = by m.cached
    where
      by : (cached : Option Translation) → TookFits own (2 + length a.counts + touch_left m.look) a (landed a (touched m word cached))
      by (Some item) =
          landed_fits own a a refl refl facts.found facts.acquired room 0 (2 + length a.counts + touch_left m.look)
          (Answers (translated item) None Nothing) (omega arith, tt) (let some = some_left m.look in omega arith)
      by None = shown_fits m m.look word (shown_in m.frames word) fits.look
          (subst (λ (n : ℕ). IfSome (shown_in n word) (EntryNames own.layout.frames)) (sym fits.all)
          (shown_names own.layout.frames word)) fits.all
