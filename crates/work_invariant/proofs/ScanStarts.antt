-- What a call knows that has found its target quiescing: since which stamp, and what is known of it before a core or a flush is scanned, or
-- where there is none to be scanned.
use Rattle.comp_invariant.specs.step_ways.proofs as low
use low.{◌≡◌, ◌≢◌, ℕ, ◌<◌, ◌≤◌, false, [], ◌∷◌, Some, None, arith, refl, ◌∙◌, Setting, IsSetting, entry_of_word, EntryAt, LoadOf, Thing}
use low.{PlaceOf, Slot, IsRemoved, clock, stamp, Step, Trace, Open, phase, state_after, last_left, WasAt, was_now, plan_for, Leads, LeadsIn}
use low.{NextFree, next_of, ActiveCall, Core, HasFlushed, Invariant, Target as place, step_to, Entry}
use Rattle.comp_invariant.specs.place_invariant.proofs.{Paging.paging_by, Vacancy.unpaged_flushed}
use Rattle.comp_invariant.specs.scan_invariant.proofs.Scans.{ShowsSince, since_is}
use Rattle.{comp_invariant.specs.act_states.specs.Acts.fills_page, comp_invariant.specs.core_invariant.specs.Reaching.IsScanned}
use Rattle.{comp_invariant.specs.count_invariant.proofs.Lookups.Arrives, work_invariant.proofs.AtTarget.was_while_open}

pub record ScanStarts (setup : Setting) (t : Trace) (c : ℕ) (a : ActiveCall) (at : Slot) (x : ℕ) : Type 0 where
  pub drawn : 1 ≤ x
  pub past : x < clock setup t
  -- where flush words are not scanned, the place waits for no flush
  pub unpaged : fills_page a.call a.found ≡ false → (d : ℕ) → HasFlushed setup t (PlaceOf at.node at.index) x d
  -- now, and after the load that has found this word
  pub now : (upto : ℕ) → ((d : ℕ) → d < upto → d ≢ c → ⊥) → ((d : ℕ) → d < upto → HasFlushed setup t (PlaceOf at.node at.index) x d)
      → IsScanned setup t c (PlaceOf at.node at.index) x upto
  pub loaded : (word upto : ℕ) → ((d : ℕ) → d < upto → d ≢ c → ⊥)
      → ((d : ℕ) → d < upto → HasFlushed setup t (PlaceOf at.node at.index) x d)
      → IsScanned setup (step_to c None (LoadOf (EntryAt at.node at.index)) word None None ∷ t) c (PlaceOf at.node at.index) x upto

module _ (setup : Setting) (setting : IsSetting setup) (cores : ℕ → Core) (t : Trace) (stands : Invariant setup cores t) (c : ℕ)
    (here : c < setup.cores)
    (a : ActiveCall) (active : (cores c).active ≡ Some a) (is_open : phase t c ≡ Open a.call)
    (leads : Leads (LeadsIn (state_after setup t) c) (plan_for a.call).names [] a.found) (target : place)
    (next_free : next_of (plan_for a.call) a.found ≡ NextFree target) (at : Slot) (arrives : Arrives setup t c target at) (x : ℕ)
    (reads : entry_of_word (last_left setup t (EntryAt at.node at.index)) ≡ Some (Entry.Quiescing x)) where
  abbrev removed : Thing
  removed = PlaceOf at.node at.index

  since : ShowsSince ((state_after setup t).place at.node at.index) (stamp setup t removed) x
  since = since_is setup.frames ((state_after setup t).place at.node at.index) (stamp setup t removed) x _ arrives.plain.says reads

  scanned : (u : Trace) → stamp setup u removed ≡ stamp setup t removed → clock setup u ≡ clock setup t
      → WasAt (IsRemoved removed) setup u c → (upto : ℕ) → ((d : ℕ) → d < upto → d ≢ c → ⊥)
      → ((d : ℕ) → d < upto → HasFlushed setup u removed x d) → IsScanned setup u c removed x upto
  scanned u stamp_is clock_is was upto none flushed = record {
    some = since.drawn;
    past = (let p = (stands.graces removed).past in let q = since.same in omega (arith, p, q, clock_is));
    rises = (let q = since.same in omega (arith, q, stamp_is));
    was_removed = was;
    passed = λ d below other. absurd (none d below other);
    flushed = flushed;
  }

  pub scan_starts : ScanStarts setup t c a at x
  scan_starts = record {
    drawn = since.drawn;
    past = (let p = (stands.graces removed).past in let q = since.same in omega arith);
    unpaged = λ is. unpaged_flushed setup setting t stands.legal stands.graces at.node at.index x arrives.leaf.node
        (paging_by setup setting t stands.legal c target at arrives.reached a.call is_open a.found
        leads
        next_free ∙ is) since.drawn;
    now = scanned t refl refl (was_while_open (IsRemoved removed) setup t c a.call is_open since.removed);
    loaded = λ word. let e : Step = step_to c None (LoadOf (EntryAt at.node at.index)) word None None in
        scanned (e ∷ t) refl refl (was_now (IsRemoved removed) setup t e c since.removed);
  }
