-- The counts of a call that switches, and the frames that it names.
use Rattle.step_ways.proofs.{All, flat_map, ◌≡◌, ◌+◌, inl, inr, refl, ℕ, Bool, true, false, sym, ◌∙◌, [], ◌∷◌, ◌++◌, map, ap, subst}
use Rattle.step_ways.proofs.{IsTrue, ◌||◌, ◌==◌, arith, eq-eqb, Setting, Capability, Kind, Call, to_use, only, EntryAt, rule_of, counted}
use Rattle.step_ways.proofs.{named_by, frame_names, IsGuarded, State, thread_of, comp_of, only_is, core_same_refs, counts_references}
use Rattle.step_ways.proofs.{changes_threads, IsInFootprint, footprint_frames, frames_own, is_one_of, Step, Trace, Open, Out, WasAt, phase}
use Rattle.step_ways.proofs.{state_after, wide_ways, was_now, was_stays, Acquired, First, Second, plan_for, Leads, LeadsIn, Switching}
use Rattle.step_ways.proofs.{SwitchAt, Due, KnowsTail, claimed_by, List, pos, negsuc, Claimed}
use Rattle.step_ways.specs.act_states.specs.{Switch, AtStack, tcap_dues, switching_dues, switch_due_list, switching_undo}
use Rattle.step_ways.specs.core_invariant.specs.{HasThread, SwitchesBy, KnowsIdle}
use Rattle.plan_ways.proofs.{footprint_found, one_left}
use Rattle.std.proofs.lemmas.List.Elements.{All-nil, All-cons, All-head, All-tail}
use Rattle.step_ways.specs.act_states.specs.declared.switches.SwitchAt.TheVariants.{LoadTable, Claim, LoadPages, Leave, Draw}
use Rattle.{plan_ways.specs.kernel_history.specs.Footprint.frames_about, step_ways.specs.core_invariant.specs.Threads.LeavesOwn}
use Rattle.{step_ways.proofs.Refusals.IsRefusing, count_invariant.proofs.MakingCounts.named_kind}

-- The call that goes on as this thread, with this temporal capability.
pub record IsSwitch (call : Call) (ks : List Capability) (f q : ℕ) : Type 0 where
  pub name : ℕ
  pub other : ℕ
  pub thread : Capability
  pub tcap : Capability
  pub call_is : call ≡ Switch name other
  pub found_is : ks ≡ thread ∷ tcap ∷ []
  pub thread_is : f ≡ thread.frame
  pub tcap_is : q ≡ tcap.frame

pub switch_of : (call : Call) (ks : List Capability) (f q : ℕ) → SwitchesBy call ks f q → IsSwitch call ks f q
switch_of (Switch h b) (thread ∷ tcap ∷ []) f q is = record {
  name = h;
  other = b;
  thread = thread;
  tcap = tcap;
  call_is = refl;
  found_is = refl;
  thread_is = is.thread;
  tcap_is = is.tcap;
}
switch_of (Switch h b) [] f q is = absurd is
switch_of (Switch h b) (k ∷ []) f q is = absurd is
switch_of (Switch h b) (k ∷ j ∷ i ∷ ks) f q is = absurd is
switch_of call ks f q is = absurd is

pub switch_counts : (call : Call) (ks : List Capability) (f q : ℕ) → SwitchesBy call ks f q → IsTrue (counts_references call)
switch_counts call ks f q is = subst (λ x. IsTrue (counts_references x)) (sym (switch_of call ks f q is).call_is) refl

-- What its names have led to is of their kinds, and in its footprint.
module _ (s : State) (c : ℕ) (call : Call) (ks : List Capability) (f q : ℕ) (is : IsSwitch call ks f q)
    (lead : Leads (LeadsIn s c) (plan_for call).names [] ks) where
  abbrev whole : Call
  whole = Switch is.name is.other

  abbrev all : List Capability
  all = is.thread ∷ is.tcap ∷ []

  leads : Leads (LeadsIn s c) (plan_for whole).names [] all
  leads = subst (λ x. Leads (LeadsIn s c) (plan_for x).names [] all) is.call_is
      (subst (λ x. Leads (LeadsIn s c) (plan_for call).names [] x) is.found_is lead)

  pub thread_kind : is.thread.kind ≡ Kind.Thread
  thread_kind = only_is Kind.Thread is.thread.kind (named_kind s c is.name (to_use (only Kind.Thread)) is.thread leads.0)

  pub tcap_kind : is.tcap.kind ≡ Kind.Tcap
  tcap_kind = only_is Kind.Tcap is.tcap.kind (named_kind s c is.other (to_use (only Kind.Tcap)) is.tcap leads.1.0)

  names_it : (k : Capability) (want : Kind) → named_by want k.frame ≡ k.frame ∷ [] → k.kind ≡ want → (g : ℕ) → k.frame ≡ g
      → is_one_of g (named_by k.kind k.frame) ≡ true
  names_it k want one wanted g same =
      ap (λ (j : Kind). is_one_of g (named_by j k.frame)) wanted ∙ ap (is_one_of g) one ∙ ap (λ b. b || false) (eq-eqb k.frame g same)

  pub thread_footprint : is_one_of f (footprint_frames s c call) ≡ true
  thread_footprint = ap (λ x. is_one_of f (footprint_frames s c x)) is.call_is
      ∙ footprint_found s c whole all leads First is.thread refl f (names_it is.thread Kind.Thread refl thread_kind f (sym is.thread_is))

  pub tcap_footprint : is_one_of q (footprint_frames s c call) ≡ true
  tcap_footprint = ap (λ x. is_one_of q (footprint_frames s c x)) is.call_is
      ∙ footprint_found s c whole all leads Second is.tcap refl q (names_it is.tcap Kind.Tcap refl tcap_kind q (sym is.tcap_is))

-- The frame of its own thread is in its footprint, and that of its own temporal capability.
own_footprint : (s : State) (c : ℕ) (call : Call) (f : ℕ) → is_one_of f (frames_own s c) ≡ true → is_one_of f
    (footprint_frames s c call) ≡ true
own_footprint s c call f is = one_left f (frames_own s c) (map (λ at. at.node) (wide_ways s c (rule_of s c call))
    ++ (frames_about s c call ++ flat_map (λ g. frame_names (s.frame g)) (frames_about s c call))) is

pub old_footprint : (s : State) (c : ℕ) (call : Call) (m : Switching) → LeavesOwn s c m → is_one_of m.old (footprint_frames s c call) ≡ true
old_footprint s c call m leaves = own_footprint s c call m.old
    (ap (λ b. b || is_one_of m.old ((s.core c).tcap ∷ ((thread_of s c).stack ++ ((comp_of s c).table ∷ (comp_of s c).pages ∷ []))))
    (eq-eqb (s.core c).thread m.old (sym leaves.thread)))

pub old_tcap_footprint : (s : State) (c : ℕ) (call : Call) (m : Switching) → LeavesOwn s c m → is_one_of m.old_tcap
    (footprint_frames s c call) ≡ true
old_tcap_footprint s c call m leaves = own_footprint s c call m.old_tcap (or_true ((s.core c).thread == m.old_tcap)
    (ap (λ b. b || is_one_of m.old_tcap ((thread_of s c).stack ++ ((comp_of s c).table ∷ (comp_of s c).pages ∷ [])))
    (eq-eqb (s.core c).tcap m.old_tcap (sym leaves.tcap))))
  where
    or_true : (b : Bool) {x : Bool} → x ≡ true → (b || x) ≡ true
    or_true true h = refl
    or_true false h = h

-- What all dues have, each has.
each_due : (P : Due → Type 0) (xs : List Due) (d : Due) (rest : List Due) → All P (xs ++ d ∷ rest) → P d
each_due P [] d rest all = All-head P d rest all
each_due P (x ∷ xs) d rest all = each_due P xs d rest (All-tail P x (xs ++ d ∷ rest) all)

-- The frames of the counts that it changes are in its footprint.
module _ (s : State) (c : ℕ) (call : Call) (ks : List Capability) (m : Switching) (leaves : LeavesOwn s c m) where
  abbrev IsFootprint : Due → Type 0
  IsFootprint d = is_one_of d.frame (footprint_frames s c call) ≡ true

  tcaps_footprint : (b : Bool) → is_one_of m.tcap (footprint_frames s c call) ≡ true → All IsFootprint (tcap_dues b m.tcap m.old_tcap)
  tcaps_footprint true footprint = All-nil IsFootprint
  tcaps_footprint false footprint =
      All-cons IsFootprint (record { frame = m.tcap; change = pos 1 }) (record { frame = m.old_tcap; change = negsuc 0 } ∷ []) footprint
      (All-cons IsFootprint (record { frame = m.old_tcap; change = negsuc 0 }) [] (old_tcap_footprint s c call m leaves)
      (All-nil IsFootprint))

  all_footprint : (to : Claimed) → is_one_of to.thread (footprint_frames s c call) ≡ true → is_one_of m.tcap (footprint_frames s c call)
      ≡ true
      → All IsFootprint (switch_due_list m to)
  all_footprint to thread tcap =
      All-cons IsFootprint (record { frame = to.thread; change = pos 1 })
      (record { frame = m.old; change = negsuc 0 } ∷ tcap_dues (m.tcap == m.old_tcap) m.tcap m.old_tcap) thread
      (All-cons IsFootprint (record { frame = m.old; change = negsuc 0 }) (tcap_dues (m.tcap == m.old_tcap) m.tcap m.old_tcap)
      (old_footprint s c call m leaves) (tcaps_footprint (m.tcap == m.old_tcap) tcap))

  dues_footprint : (at : SwitchAt) → IsSwitch call ks (claimed_by at) m.tcap → Leads (LeadsIn s c) (plan_for call).names [] ks
      → All IsFootprint (switching_dues m at)
  dues_footprint (Leave to table pages) is lead =
      all_footprint to (thread_footprint s c call ks to.thread m.tcap is lead) (tcap_footprint s c call ks to.thread m.tcap is lead)
  dues_footprint (Draw to table pages) is lead =
      all_footprint to (thread_footprint s c call ks to.thread m.tcap is lead) (tcap_footprint s c call ks to.thread m.tcap is lead)
  dues_footprint _ is lead = All-nil IsFootprint

  pub switch_due_footprint : (at : SwitchAt) → IsSwitch call ks (claimed_by at) m.tcap → Leads (LeadsIn s c) (plan_for call).names [] ks
      → (xs : List Due) (d : Due) (rest : List Due) → switching_dues m at ≡ xs ++ d ∷ rest → IsFootprint d
  switch_due_footprint at is lead xs d rest same = each_due IsFootprint xs d rest (subst (All IsFootprint) same (dues_footprint at is lead))

-- What is said now is said at a moment of the call.
pub was_here : (P : State → Type 0) (setup : Setting) (t : Trace) (c : ℕ) (call : Call) → phase t c ≡ Open call → P (state_after setup t)
    → WasAt P setup t c
was_here P setup [] c call is now = absurd (not_out is)
  where
    not_out : Out ≡ Open call → ⊥
    not_out h = cc
was_here P setup (e ∷ t) c call is now = was_now P setup t e c now

-- A thread that is guarded stays so where a call is counted.
pub counted_thread : (s : State) (c f : ℕ) → HasThread s c f → HasThread (counted s c) c f
counted_thread s c f has = record {
  thread = has.thread;
  guarded = guarded has.guarded;
}
  where
    guarded : IsGuarded s c f → IsGuarded (counted s c) c f
    guarded (inl some) = inl (let same = core_same_refs s c (record (s.core c) { counted = (s.core c).counted + 1 }) refl refl f in
        omega (arith, same, some))
    guarded (inr waits) = inr waits

-- What a refused switch has to store, where it has claimed the thread.
pub switch_left : (setup : Setting) (t : Trace) (e : Step) (c : ℕ)
    (call : Call) (ks : List Capability) (counts : List Acquired) (m : Switching)
    (at : SwitchAt) (is : IsSwitch call ks (claimed_by at) m.tcap) → Leads (LeadsIn (state_after setup t) c) (plan_for call).names [] ks
    → phase t c ≡ Open call → IsRefusing setup t c e → HasThread (state_after setup t) c (claimed_by at)
    → KnowsTail setup (e ∷ t) c call counts (switching_undo at)
switch_left setup t e c call ks counts m at is lead opens by has = left at is has
  where
    idle : (f : ℕ) → IsSwitch call ks f m.tcap → HasThread (state_after setup t) c f → KnowsIdle setup (e ∷ t) c call f
    idle f of thread = record {
      threads = subst (λ x. changes_threads x ≡ true) (sym of.call_is) refl;
      footprint = was_stays (IsInFootprint c call (EntryAt f 0)) setup t e c (λ own. by.entry)
          (was_here (IsInFootprint c call (EntryAt f 0)) setup t c call opens (thread_footprint
          (state_after setup t) c call ks f m.tcap of lead));
      thread = subst (λ s. HasThread s c f) (sym by.state) (counted_thread (state_after setup t) c f thread);
    }

    left : (at : SwitchAt) → IsSwitch call ks (claimed_by at) m.tcap → HasThread (state_after setup t) c (claimed_by at)
        → KnowsTail setup (e ∷ t) c call counts (switching_undo at)
    left (Claim (AtStack f depth)) of thread = idle f of thread
    left (LoadTable to) of thread = idle to.thread of thread
    left (LoadPages to table) of thread = idle to.thread of thread
    left (Leave to table pages) of thread = idle to.thread of thread
    left (Draw to table pages) of thread = idle to.thread of thread
    left _ of thread = tt
