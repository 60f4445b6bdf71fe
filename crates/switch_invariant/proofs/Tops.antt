-- A thread that is claimed is idle, and the loads of the table and of the pages of the component at the top of its stack are good: then the
-- counts are acquired.
use Rattle.thread_invariant.specs.step_ways.proofs.{◌≡◌, ◌≢◌, ◌<◌, ◌≤◌, ◌++◌, ◌==◌, ◌||◌, ℕ, map, length, Bool, true, false, List, [], ◌∷◌}
use Rattle.thread_invariant.specs.step_ways.proofs.{Option, Some, None, IsTrue, pos, negsuc, arith, refl, sym, ◌∙◌, ap, subst, eq-eqb}
use Rattle.thread_invariant.specs.step_ways.proofs.{eqb-false, Setting, IsSetting, word_of_thread, thread_of_word, Idle, Running, EntryAt}
use Rattle.thread_invariant.specs.step_ways.proofs.{LoadOf, State, comp_in, first_of_stack, thread_in, fits, frame_names, is_one_of}
use Rattle.thread_invariant.specs.step_ways.proofs.{footprint_frames, marked_by, thread_value, Step, Trace, state_after, last_left}
use Rattle.thread_invariant.specs.step_ways.proofs.{Acquired, dues, next_work, Switching, Due, Act, Goes, Undecided, ActiveCall, landed}
use Rattle.thread_invariant.specs.step_ways.proofs.{Core, holds_counts, AreDuesApart, due_of, KnowsUndecided, holds, holds_in, Invariant}
use Rattle.thread_invariant.specs.step_ways.proofs.{claimed_by, holds_switching, names_on, runs_on_own, Claimed as ClaimedOf}
use Rattle.thread_invariant.specs.step_ways.proofs.{Switch as switch_act, next_at, step_to, loads_on, GoodTook, plan_for, Kind}
use Rattle.thread_invariant.specs.act_states.specs.{frame_in, tcap_dues, switch_pages, switch_due_list, switch_table}
use Rattle.thread_invariant.specs.core_invariant.specs.{is_claimed, IsTop}
use Rattle.thread_invariant.specs.count_invariant.proofs.{knows_next, next_holds}
use Rattle.std.proofs.lemmas.List.Elements.{All-nil, All-cons}
use Rattle.thread_invariant.specs.act_states.specs.declared.switches.SwitchAt.TheVariants.{LoadTable, LoadPages, Leave}
use Rattle.thread_invariant.specs.act_states.specs.declared.work.Act.{Act as ActOf}
use Rattle.thread_invariant.specs.core_invariant.specs.Threads.{HasTable}
use Rattle.thread_invariant.specs.core_invariant.proofs.ThreadHolds.{IsIdleIn, claimed_idle}
use Rattle.thread_invariant.proofs.CompWords.{comp_says, table_below, pages_below}
use Rattle.switch_invariant.proofs.{ThreadWords.frame_shown, ThreadWords.tcap_no_thread, Words.marked_says}
use Rattle.thread_invariant.specs.tcap_words.proofs.ThreadLemmas as words
use Rattle.switch_invariant.proofs.Calls as calls

-- Where a word says both that a thread runs somewhere and that it is idle, there is none.
unlike : (depth d n : ℕ) → word_of_thread (Running d n) ≡ word_of_thread (Idle depth) → ⊥
unfolding word_of_thread
unlike depth d n same = omega (arith, same)

-- A thread that runs nowhere has a stack that is not empty.
pub record IsIdle (r : Option ℕ) (n : ℕ) : Type 0 where
  pub none : r ≡ None
  pub some : 1 ≤ n

says_idle : (depth : ℕ) (r : Option ℕ) (n : ℕ) → thread_of_word (word_of_thread (Idle depth)) ≡ Some (thread_value r n) → IsIdle r n
says_idle depth None n says = record {
  none = refl;
  some = (words.spelling.spells (word_of_thread (Idle depth)) (Idle n) says).0.0;
}
says_idle depth (Some d) n says =
    absurd (unlike depth d n (words.spelling.spells (word_of_thread (Idle depth)) (Running d n) says).1)

first_in : (fs : List ℕ) (f : ℕ) → first_of_stack fs ≡ f → 1 ≤ length fs → is_one_of f fs ≡ true
first_in [] f is some = absurd (omega (arith, some))
first_in (g ∷ gs) f is some = ap (λ b. b || is_one_of f gs) (eq-eqb g f is)

-- The thread, the core's own, and the temporal capabilities are apart.
dues_apart : (f old q p : ℕ) (same : Bool) → (q == p) ≡ same → f ≢ old → f ≢ q → f ≢ p → old ≢ q → old ≢ p
    → AreDuesApart (record { frame = f; change = pos 1 } ∷ record { frame = old; change = negsuc 0 } ∷ tcap_dues same q p)
dues_apart f old q p true test f_old f_q f_p old_q old_p = (
  All-cons (λ (x : Due). f ≢ x.frame) (record { frame = old; change = negsuc 0 }) [] f_old (All-nil (λ (x : Due). f ≢ x.frame)),
  (All-nil (λ (x : Due). old ≢ x.frame), tt),
)
dues_apart f old q p false test f_old f_q f_p old_q old_p = (
  All-cons (λ (x : Due). f ≢ x.frame) (record { frame = old; change = negsuc 0 })
      (record { frame = q; change = pos 1 } ∷ record { frame = p; change = negsuc 0 } ∷ []) f_old
      (All-cons (λ (x : Due). f ≢ x.frame) (record { frame = q; change = pos 1 }) (record { frame = p; change = negsuc 0 } ∷ []) f_q
      (All-cons (λ (x : Due). f ≢ x.frame) (record { frame = p; change = negsuc 0 }) [] f_p (All-nil (λ (x : Due). f ≢ x.frame)))),
  (
    All-cons (λ (x : Due). old ≢ x.frame) (record { frame = q; change = pos 1 }) (record { frame = p; change = negsuc 0 } ∷ []) old_q
        (All-cons (λ (x : Due). old ≢ x.frame) (record { frame = p; change = negsuc 0 }) [] old_p (All-nil (λ (x : Due). old ≢ x.frame))),
    (
      All-cons (λ (x : Due). q ≢ x.frame) (record { frame = p; change = negsuc 0 }) [] (eqb-false q p test)
          (All-nil (λ (x : Due). q ≢ x.frame)),
      (All-nil (λ (x : Due). p ≢ x.frame), tt),
    ),
  ),
)

module _ (setup : Setting) (setting : IsSetting setup) (cores : ℕ → Core) (t : Trace) (stands : Invariant setup cores t) (c : ℕ)
    (here : c < setup.cores)
    (a : ActiveCall) (active : (cores c).active ≡ Some a) (m : Switching) (stage_is : a.stage ≡ Undecided (Act (switch_act m)))
    (has : KnowsUndecided setup t c (cores c).own.table a (Act (switch_act m))) where
  abbrev s : State
  s = state_after setup t

  held : holds (cores c) ≡ holds_switching m m.at (holds_counts None a.counts)
  held = ap holds_in active ∙ calls.held_at setup setting cores t stands c here a active m stage_is has m.at refl

  -- a thread that is claimed is idle
  pub is_idle : is_claimed m.at ≡ true
      → IsIdle (thread_in ((state_after setup t).frame (claimed_by m.at))).runs_on
      (length (thread_in ((state_after setup t).frame (claimed_by m.at))).stack)
  is_idle claimed = says_idle idle.depth (thread_in (s.frame (claimed_by m.at))).runs_on
      (length (thread_in (s.frame (claimed_by m.at))).stack)
      (ap thread_of_word (sym (ap (λ h. h.stands (EntryAt (claimed_by m.at) 0)) held ∙ idle.stands))
      ∙ marked_says setup setting cores t stands (claimed_by m.at) has.knows.knows.thread.thread 0 c mark)
    where
      idle : IsIdleIn (holds_switching m m.at (holds_counts None a.counts)) (claimed_by m.at)
      idle = claimed_idle m m.at (holds_counts None a.counts) claimed

      mark : marked_by setup t (EntryAt (claimed_by m.at) 0) ≡ Some c
      mark = (stands.marks (EntryAt (claimed_by m.at) 0) c).kept (ap (λ h. h.marks (EntryAt (claimed_by m.at) 0)) held ∙ idle.marks)

  -- it is another than the core's own
  pub apart_own : is_claimed m.at ≡ true → claimed_by m.at ≢ m.old
  apart_own claimed same =
      not_some c (sym (is_idle claimed).none ∙ ap (λ (g : ℕ). (thread_in (s.frame g)).runs_on) (same ∙ has.knows.knows.leaves.thread)
      ∙ runs_on_own setup setting cores t stands c here)
    where
      not_some : (d : ℕ) → None ≡ Some d → ⊥
      not_some d h = cc

  -- the second name has led to a temporal capability
  pub to_tcap : IsTrue (fits Kind.Tcap ((state_after setup t).frame m.tcap))
  to_tcap = calls.named_tcap setup setting cores t stands c here a active m stage_is has

  pub apart_tcap : (f q : ℕ) → IsTrue (fits Kind.Thread ((state_after setup t).frame f))
      → IsTrue (fits Kind.Tcap ((state_after setup t).frame q)) → f ≢ q
  apart_tcap f q thread tcap same = tcap_no_thread (s.frame q) tcap (subst (λ (g : ℕ). IsTrue (fits Kind.Thread (s.frame g))) same thread)

  -- the frames of the dues are apart
  pub all_apart : is_claimed m.at ≡ true → (to : ClaimedOf) → to.thread ≡ claimed_by m.at → AreDuesApart (switch_due_list m to)
  all_apart claimed to same =
      let thread : IsTrue (fits Kind.Thread (s.frame to.thread)) = subst (λ (g : ℕ). IsTrue (fits Kind.Thread (s.frame g))) (sym same)
      has.knows.knows.thread.thread in
      let own = calls.own_thread setup setting cores t stands c here a active m stage_is has in
      let own_tcap = calls.own_tcap setup setting cores t stands c here a active m stage_is has in
      dues_apart to.thread m.old m.tcap m.old_tcap (m.tcap == m.old_tcap) refl (λ is. apart_own claimed (sym same ∙ is))
      (apart_tcap to.thread m.tcap thread to_tcap) (apart_tcap to.thread m.old_tcap thread own_tcap)
      (apart_tcap m.old m.tcap own to_tcap) (apart_tcap m.old m.old_tcap own own_tcap)

  -- the component at the top of its stack is in the footprint
  pub footprint_top : is_claimed m.at ≡ true → (to : ClaimedOf) → to.thread ≡ claimed_by m.at → IsTop (state_after setup t) c to
      → is_one_of to.comp (footprint_frames (state_after setup t) c a.call) ≡ true
  footprint_top claimed to same at = calls.footprint_stack setup setting cores t stands c here a active m stage_is has to.comp
      (ap (λ x. is_one_of to.comp (frame_names x)) (calls.holds_thread setup setting cores t stands c here a active m stage_is has)
      ∙ first_in (thread_in (s.frame (claimed_by m.at))).stack to.comp
      (ap (λ (g : ℕ). first_of_stack (thread_in (s.frame g)).stack) (sym same) ∙ at.top) (is_idle claimed).some)

  none_of : (xs : List Acquired) → [] ≡ map due_of xs → xs ≡ []
  none_of [] h = refl
  none_of (x ∷ xs) h = absurd (cc)

  -- the load of the table
  pub table_good : (to : ClaimedOf) → m.at ≡ LoadTable to
      → GoodTook setup cores t c (LoadOf (EntryAt to.comp 0))
      (landed a (switch_table m to (frame_in m.frames (last_left setup t (EntryAt to.comp 0)))))
  table_good to is =
      let at : IsTop s c to = calls.known_at setup setting cores t stands c here a active m stage_is has (LoadTable to) is in
      let table = (comp_in (s.frame to.comp)).table in
      subst (λ o. GoodTook setup cores t c (LoadOf (EntryAt to.comp 0)) (landed a (switch_table m to o)))
      (sym (frame_shown m.frames (last_left setup t (EntryAt to.comp 0)) (comp_in (s.frame to.comp)).table
      (comp_says setup setting cores t stands to.comp at.comp.comp 0)
      (let low = table_below setup setting cores t stands to.comp at.comp.comp in
      let same = calls.frames_are setup setting cores t stands c here a active m stage_is has in omega (arith, low, same))))
      (calls.goes_on_to setup setting cores t stands c here a active m stage_is has to.comp 0
      (footprint_top (ap is_claimed is) to (sym (ap claimed_by is)) at) (LoadPages to (comp_in (s.frame to.comp)).table)
      (sym (ap claimed_by is))
      (sym (calls.held_at setup setting cores t stands c here a active m stage_is has (LoadTable to) is))
      (record { top = at; table = refl })
      (calls.dues_at setup setting cores t stands c here a active m stage_is has (LoadTable to) is))

  -- the load of the pages
  module _ (to : ClaimedOf) (table : ℕ) (is : m.at ≡ LoadPages to table) where
    abbrev pages : ℕ
    pages = (comp_in ((state_after setup t).frame to.comp)).pages

    abbrev act : ActOf
    act = switch_act (record m { at = Leave to table (comp_in ((state_after setup t).frame to.comp)).pages })

    at_table : HasTable s c to table
    at_table = calls.known_at setup setting cores t stands c here a active m stage_is has (LoadPages to table) is

    no_counts : a.counts ≡ []
    no_counts = none_of a.counts (calls.dues_at setup setting cores t stands c here a active m stage_is has (LoadPages to table) is)

    counts_next : GoodTook setup cores t c (LoadOf (EntryAt to.comp 1)) (landed a (Goes (next_work m.core 0 act)))
    counts_next lands =
        let e : Step = step_to c None (LoadOf (EntryAt to.comp 1)) (last_left setup t (EntryAt to.comp 1)) None None in
        loads_on setup setting cores t stands c here a active (LoadOf (EntryAt to.comp 1)) a.found (Undecided (next_work m.core 0 act))
        (calls.looks_at setup setting cores t stands c here a active m stage_is has to.comp 1
        (footprint_top (ap is_claimed is) to (sym (ap claimed_by is)) at_table.top)) lands
        (next_holds m.core 0 act (holds_counts None a.counts)
        ∙ sym (calls.held_at setup setting cores t stands c here a active m stage_is has (LoadPages to table) is))
        (calls.opens setup setting cores t stands c here a active m stage_is has)
        (λ carries. record {
          acts = has.acts;
          names = names_on setup setting t e stands.legal c a.call
              (calls.is_open setup setting cores t stands c here a active m stage_is has)
              carries (cores c).own.table (plan_for a.call) a.found has.names;
          knows = knows_next setup (e ∷ t) c (cores c).own.table
              (next_at a a.found (Undecided (next_work m.core 0 act))) m.core act (dues act)
              has.knows.knows.leaves.core
              (calls.carried setup setting cores t stands c here a active m stage_is has (LoadOf (EntryAt to.comp 1))
              (Leave to table (comp_in (s.frame to.comp)).pages) (sym (ap claimed_by is))
              (record { has_table = at_table; pages = refl }))
              (ap (λ (xs : List Acquired). map due_of xs ++ dues act) (sym no_counts))
              (all_apart (ap is_claimed is) to (sym (ap claimed_by is))) 0
              (ap (λ (xs : List Acquired). length xs) (sym no_counts)) refl refl;
        })

    pub pages_good : GoodTook setup cores t c (LoadOf (EntryAt to.comp 1))
        (landed a (switch_pages m to table (frame_in m.frames (last_left setup t (EntryAt to.comp 1)))))
    pages_good = subst (λ o. GoodTook setup cores t c (LoadOf (EntryAt to.comp 1)) (landed a (switch_pages m to table o)))
        (sym (frame_shown m.frames (last_left setup t (EntryAt to.comp 1)) (comp_in (s.frame to.comp)).pages
        (comp_says setup setting cores t stands to.comp at_table.top.comp.comp 1)
        (let low = pages_below setup setting cores t stands to.comp at_table.top.comp.comp in
        let same = calls.frames_are setup setting cores t stands c here a active m stage_is has in omega (arith, low, same))))
        counts_next
