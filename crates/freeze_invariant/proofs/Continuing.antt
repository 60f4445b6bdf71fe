-- Where a sweep goes on when its counters are frozen and its scans are over: its object is looked at, or, where it has none, its draw
-- comes.
use Rattle.scan_invariant.specs.step_ways.proofs as low
use low.{◌≡◌, ℕ, ◌==◌, ◌++◌, map, length, Bool, true, false, List, [], Option, Some, None, arith, refl, sym, ◌∙◌, ap, subst, eqb-true}
use low.{Setting, Obj, CountWord, FrameWord, Blank, Table, Leaf, Pages, Pleaf, Comp, Thread, Tcap, Frame, Untyped, User, Kernel, State}
use low.{frame_names, frame_value, Trace, state_after, Acquired, loads_of, at_after, end_by, swept_of, Owned, Sweep, SweepAt, Empty, Swept}
use low.{next_work, took_sweep, release_of, Untyping, Work, Act, WorkStep, Goes, ActiveCall, Undecided, holds_release, Holding}
use low.{AreDuesApart, due_of, KnowsWork, holds_work, IsLookedAt, UntypesBy, names_of, if◌then◌else◌, Untype as untype_act, next_at}
use Rattle.scan_invariant.specs.core_invariant.specs.{AreKept, KnowsSwept, SaysTyped, IsSwept}
use Rattle.scan_invariant.specs.act_states.specs.{OwnedBy, released_dues, owned_dues}
use Rattle.scan_invariant.specs.count_invariant.proofs.{knows_next, next_holds}
use Rattle.scan_invariant.specs.stage_sweep.specs.Freeze.{empty_next}
use Rattle.scan_invariant.specs.act_states.specs.declared.untypings.UntypingAt.TheVariants.{Draw}
use Rattle.freeze_invariant.proofs.Counters.{sweeping, untyping_by}

-- Before its first word was looked at nothing is known of an object.
pub looked_none : (s : State) (f : ℕ) (x : Frame) (o : Owned) → IsLookedAt s f x 0 o
looked_none s f (Kernel Table) o = λ i below. absurd (omega (arith, below))
looked_none s f (Kernel Leaf) o = λ i below. absurd (omega (arith, below))
looked_none s f (Kernel Pages) o = λ i below. absurd (omega (arith, below))
looked_none s f (Kernel Pleaf) o = λ i below. absurd (omega (arith, below))
looked_none s f (Kernel (Comp k)) o = record { first = λ h. absurd (omega (arith, h)); second = λ h. absurd (omega (arith, h)) }
looked_none s f (Kernel (Thread k)) o = record {
  single = λ h. absurd (omega (arith, h));
  bottom = 0;
  first = λ h. absurd (omega (arith, h));
  stack = λ h. absurd (omega (arith, h));
}
looked_none s f (Kernel (Tcap q)) o = λ h. absurd (omega (arith, h))
looked_none s f (Kernel Blank) o = tt
looked_none s f User o = tt
looked_none s f Untyped o = tt

-- A frame without an object names none.
blank_names : (x : Frame) → (frame_value x).object ≡ Obj.Blank → frame_names x ≡ []
blank_names Untyped is = refl
blank_names User is = refl
blank_names (Kernel Blank) is = refl
blank_names (Kernel Table) is = refl
blank_names (Kernel Leaf) is = refl
blank_names (Kernel Pages) is = refl
blank_names (Kernel Pleaf) is = refl
blank_names (Kernel (Comp k)) is = absurd (cc)
blank_names (Kernel (Thread k)) is = absurd (cc)
blank_names (Kernel (Tcap q)) is = refl

-- An object of which no word is looked at is none.
no_loads : (o : Obj) → loads_of o ≡ 0 → o ≡ Obj.Blank
no_loads Obj.Blank is = refl
no_loads Obj.Table is = absurd (omega (arith, is))
no_loads Obj.Leaf is = absurd (omega (arith, is))
no_loads Obj.Pages is = absurd (omega (arith, is))
no_loads Obj.Pleaf is = absurd (omega (arith, is))
no_loads Obj.Comp is = absurd (omega (arith, is))
no_loads Obj.Thread is = absurd (omega (arith, is))
no_loads Obj.Tcap is = absurd (omega (arith, is))

none_owned : (o : Obj) (owned : Owned) → o ≡ Obj.Blank → OwnedBy o owned → (owned.first ≡ None) × (owned.second ≡ None)
none_owned Obj.Blank owned is has = has
none_owned Obj.Table owned is has = absurd (cc)
none_owned Obj.Leaf owned is has = absurd (cc)
none_owned Obj.Pages owned is has = absurd (cc)
none_owned Obj.Pleaf owned is has = absurd (cc)
none_owned Obj.Comp owned is has = absurd (cc)
none_owned Obj.Thread owned is has = absurd (cc)
none_owned Obj.Tcap owned is has = absurd (cc)

-- The call knows then what it is to know where its draw comes, and acquires the first of the counts that are due.
module _ (setup : Setting) (c table : ℕ) (a : ActiveCall) (no_counts : a.counts ≡ []) (f core word : ℕ) (own : core ≡ c)
    (untypes : (m : Untyping) → m.frame ≡ f → UntypesBy a.call a.found m) where
  abbrev draws : Swept → Untyping
  draws swept = record { frame = f; core = core; at = Draw word swept }

  pub done_holds : (swept : Swept) (h : Holding)
      → holds_work (next_work core 0 (untype_act (draws swept))) h ≡ holds_release (release_of f word swept false) h
  done_holds swept h = next_holds core 0 (untype_act (draws swept)) h

  pub done_knows : (u : Trace) (swept : Swept) → KnowsSwept setup u c f word swept → AreDuesApart (owned_dues swept.owned)
      → KnowsWork setup u c table (next_at a a.found (Undecided (next_work core 0 (untype_act (draws swept)))))
      (next_work core 0 (untype_act (draws swept)))
  done_knows u swept knows apart = knows_next setup u c table
      (next_at a a.found (Undecided (next_work core 0 (untype_act (draws swept)))))
      core (untype_act (draws swept)) (owned_dues swept.owned) own
      (record { untypes = untypes (draws swept) refl; core = own; at = knows })
      (ap (λ (xs : List Acquired). map due_of xs ++ owned_dues swept.owned) (sym no_counts)) apart 0
      (ap (λ (xs : List Acquired). length xs) (sym no_counts)) refl refl

  -- What comes after the scans.
  module _ (g : ℕ) (v : FrameWord) (b : ℕ) (same_core : b ≡ c) (kept : List CountWord)
      (o : Owned) (at : SweepAt) (same : g ≡ f) (met : SaysTyped word v)
      (fits : AreKept kept) (owned_by : OwnedBy v.object o) where
    abbrev after : Sweep
    after = sweeping g v b kept o (at_after at None (empty_next v.object))

    abbrev step : WorkStep
    step = took_sweep (untyping_by f core word after) word after (end_by None (empty_next v.object) (swept_of after))

    -- it goes on so, and holds what it held
    pub record Continues (ws : WorkStep) : Type 0 where
      pub work : Work
      pub goes : ws ≡ Goes work
      pub holds : (h : Holding)
          → holds_work work h ≡ holds_release (release_of f word (swept_of (sweeping g v b kept o at)) false) h
      pub knows : (u : Trace) → v ≡ frame_value ((state_after setup u).frame f) → IsSwept setup u c f kept 0 o
          → KnowsWork setup u c table (next_at a a.found (Undecided work)) work

    pub continues : Continues step
    continues = by (loads_of v.object == 0) refl
      where
        After : Option SweepAt → WorkStep
        After next = took_sweep (untyping_by f core word after) word (sweeping g v b kept o (at_after at None next))
            (end_by None next (swept_of (sweeping g v b kept o (at_after at None next))))

        by : (none : Bool) → (loads_of v.object == 0) ≡ none → Continues (After (if none then None else Some (Empty 0)))
        by false is = record {
          work = Act (untype_act (untyping_by f core word (sweeping g v b kept o (Empty 0))));
          goes = refl;
          holds = λ h. refl;
          knows = λ u shown swept. record {
            knows = record {
              untypes = untypes (untyping_by f core word (sweeping g v b kept o (Empty 0))) refl;
              core = own;
              at = record { frame = same; core = same_core; met = met; kept = fits; at = swept };
            };
            all = ap (λ (xs : List Acquired). map due_of xs) (sym no_counts);
            goes = refl;
          };
        }
        by true is =
            let blank : v.object ≡ Obj.Blank = no_loads v.object (eqb-true (loads_of v.object) 0 is) in
            let none = none_owned v.object o blank owned_by in
            let swept : Swept = swept_of (sweeping g v b kept o at) in record {
              work = next_work core 0 (untype_act (draws swept));
              goes = refl;
              holds = λ h. done_holds swept h;
              knows = λ u shown is_swept. done_knows u swept (record {
                frame = same;
                shown = v;
                met = met;
                kept = fits;
                swept = record {
                  frozen = is_swept.frozen;
                  quiet = is_swept.quiet;
                  looked = subst (λ (n : ℕ). IsLookedAt (state_after setup u) f ((state_after setup u).frame f) n o)
                      (sym (eqb-true (loads_of v.object) 0 is)) is_swept.looked;
                };
                names = ap (λ x. names_of x o.second) none.0 ∙ ap (names_of None) none.1
                    ∙ sym (blank_names ((state_after setup u).frame f) (ap (λ x. x.object) (sym shown) ∙ blank));
              }) (subst AreDuesApart (sym (ap (λ x. released_dues x o.second) none.0 ∙ ap (released_dues None) none.1)) tt);
            }
