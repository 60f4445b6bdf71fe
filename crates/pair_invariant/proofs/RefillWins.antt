-- The compare that finds the head as it was read, with a list that covers the grant: it puts the ticks into the budget, and the core has
-- had so many more back.
use Rattle.count_invariant.specs.step_ways.proofs.{Want, ◌≡◌, ◌≢◌, inl, inr, ℕ, zero, suc, ◌+◌, ◌-◌, ◌^◌, ◌<◌, ◌≤◌, ◌==◌, Bool, true, false}
use Rattle.count_invariant.specs.step_ways.proofs.{List, [], ◌∷◌, length, Option, Some, None, arith, refl, sym, ◌∙◌, ap, subst, eqb-true}
use Rattle.count_invariant.specs.step_ways.proofs.{false≢true, Setting, IsSetting, left_if, Capability, HeadFits, word_of_head}
use Rattle.count_invariant.specs.step_ways.proofs.{head_of_word, HeadWord, spelling, Word, EntryAt, FrameAt, CountAt, CoreAt, FlushAt}
use Rattle.count_invariant.specs.step_ways.proofs.{LiveAt, ClockAt, Move, left_of, Slot, own, Kernel, Tcap, TcapFields, PlaceOf, NumberOf}
use Rattle.count_invariant.specs.step_ways.proofs.{State, tcap_in, put, with_frame, thread_in, comp_in, thread_of, comp_of, first_of_stack}
use Rattle.count_invariant.specs.step_ways.proofs.{refs, frame_names, times, Found, IsFoundAnd, tcap_at, rule_of, change_of, changed}
use Rattle.count_invariant.specs.step_ways.proofs.{counted, MayReply, frame_refs, sum_one, core_same_refs, put_same, put_other, mark_of}
use Rattle.count_invariant.specs.step_ways.proofs.{mark_in_frame, head_mark, marked_by, frame_value, way_to, ways, HasReached, IsJustified}
use Rattle.count_invariant.specs.step_ways.proofs.{ends_in, flushes_in, stamp, Step, Trace, phase, state_after, last_left, state_decided_in}
use Rattle.count_invariant.specs.step_ways.proofs.{own_left, ok_first, decided-inside, leads_by, LeadsIn, own_pages, Own, own_changed, Act}
use Rattle.count_invariant.specs.step_ways.proofs.{Undecided, Decided, ActiveCall, landed, own_decided, Core, holds_counts, settled}
use Rattle.count_invariant.specs.step_ways.proofs.{IsFrameWord, WordIs, HasFound, own_in, KnowsUndecided, WorksIn, untypes, holds_in, holds}
use Rattle.count_invariant.specs.step_ways.proofs.{held_by, times_of, counted_in, Invariant, IsUntimed, plain_begins, plain_stamp}
use Rattle.count_invariant.specs.step_ways.proofs.{plain_flush, plain_exit, counted_refs, list_changed, TurnsHead, SparesTcap, limits_of}
use Rattle.count_invariant.specs.step_ways.proofs.{sums_keep, SameFor, ReadsAlike, StaysSaid, marks_own, word_stays, carry_marks}
use Rattle.count_invariant.specs.step_ways.proofs.{others_settled, own_kept, TcapOf, counts_bare, not_exclusive_head_value}
use Rattle.count_invariant.specs.step_ways.proofs.{not_exclusive_head_word, exclusive_none, exclusive_free, Acquired, HeadIs, Open, Reply}
use Rattle.count_invariant.specs.step_ways.proofs.{phase_at, ends, flushes, IsSome, min, rank, begins_in, credited, took_refilled}
use Rattle.count_invariant.specs.step_ways.proofs.{Refill as refill_act, Nothing as no_tail, Spared, SparesBlanks, next_at, inner}
use Rattle.count_invariant.specs.step_ways.proofs.{decides_changing, GoodTook, not_spent, same_marks, plan_for, Value}
use Rattle.count_invariant.specs.act_states.specs.{Core as CoreFields, begins_in as begun_by, refill_after, Refill, took_refill}
use Rattle.count_invariant.proofs.{found_named, own_is, way_gone}
use Rattle.count_invariant.specs.kernel_history.specs.{with_core, with_tcap}
use Rattle.std.proofs.{lemmas.Bool.cases_eq, lemmas.List.Elements.All-nil}
use Rattle.count_invariant.specs.kept_facts.proofs.WordFrames.{carry_words}
use Rattle.count_invariant.specs.boot_words.specs.kernel_rules.specs.Edits.{given_back}
use Rattle.count_invariant.specs.plan_ways.proofs.Ways.{all_ways}
use Rattle.count_invariant.specs.stage_tcap.specs.{Refilling.won, declared.refill.RefillAt.TheVariants.Compare}
use Rattle.count_invariant.specs.act_states.specs.declared.own.OwnChange.TheVariants.{GivesBack}
use Rattle.pair_invariant.proofs.RefillEnds.{compare, of_call, compare_lost}
use Rattle.pair_invariant.proofs.RefillCalls as calls
use Rattle.pair_invariant.proofs.RefillLists as lists

-- A core that has counted one call more.
abbrev one_more : CoreFields → CoreFields
one_more k = record k { counted = k.counted + 1 }

module _ (setup : Setting) (setting : IsSetting setup) (cores : ℕ → Core) (t : Trace) (stands : Invariant setup cores t) (c : ℕ)
    (here : c < setup.cores)
    (a : ActiveCall) (active : (cores c).active ≡ Some a) (r : Refill)
    (stage_is : a.stage ≡ Undecided (Act (refill_act (record r { at = Compare }))))
    (has : KnowsUndecided setup t c (cores c).own.table a (Act (refill_act (record r { at = Compare })))) where
  abbrev now_r : Refill
  now_r = record r { at = Compare }

  abbrev s : State
  s = state_after setup t

  abbrev f : ℕ
  f = r.tcap

  abbrev at : Word
  at = EntryAt f 0

  abbrev was : ℕ
  was = last_left setup t at

  abbrev giving : Move
  giving = compare setup setting cores t stands c here a active r stage_is has

  abbrev is : calls.IsRefillCall s c a.call a.found now_r
  is = calls.is setup setting cores t stands c here a active now_r stage_is has

  abbrev tcap : TcapOf (s.frame f)
  tcap = calls.tcap setup setting cores t stands c here a active now_r stage_is has

  abbrev q : TcapFields
  q = tcap.fields

  opens : phase_at a.call a.stage ≡ Open a.call
  opens = calls.opens setup setting cores t stands c here a active now_r stage_is has

  is_open : phase t c ≡ Open a.call
  is_open = calls.is_open setup setting cores t stands c here a active now_r stage_is has

  held_is : holds_in (Some a) ≡ holds_counts None a.counts
  held_is = calls.held_is setup setting cores t stands c here a active now_r stage_is has

  room : (cores c).own.made < (cores c).own.limit
  room = calls.room setup setting cores t stands c here a active now_r stage_is has

  bare_counts : (fate : Option (Option ℕ)) (w : Word) → (holds_counts fate a.counts).marks w ≡ false
  bare_counts fate w = ap (λ (xs : List Acquired). (holds_counts fate xs).marks w)
      (calls.no_counts setup setting cores t stands c here a active now_r stage_is has)

  none_some : (d : ℕ) → None ≡ Some d → ⊥
  none_some d h = cc

  -- It is won.
  module _ (equal : (was == word_of_head r.head) ≡ true) where
    abbrev more : HeadWord
    more = credited r.head r.ticks

    abbrev done : Reply
    done = Reply.Ok Value.Nothing

    abbrev e_won : Step
    e_won = inner setup setting cores t stands c here a active giving (Some done) None

    abbrev s_won : State
    s_won = state_after setup (e_won ∷ t)

    abbrev own_won : Own
    own_won = own_decided (own_changed (cores c).own (GivesBack r.ticks)) done

    abbrev after_won : Core
    after_won = record { own = own_won; active = Some (next_at a a.found (Decided done None no_tail)) }

    leaves_it : left_of giving was ≡ word_of_head more
    leaves_it = ap (λ b. left_if b was (word_of_head more)) equal

    same : was ≡ word_of_head r.head
    same = eqb-true was (word_of_head r.head) equal

    shown_is : head_of_word was ≡ Some r.head
    shown_is = lists.shown setup setting cores t stands f q tcap.is r.head
        has.knows.knows.at.read.head.fits has.knows.knows.at.read.head.bare same

    unmarked : marked_by setup t at ≡ None
    unmarked = lists.unmarked setup setting cores t stands f q tcap.is r.head
        has.knows.knows.at.read.head.fits has.knows.knows.at.read.head.bare same

    abbrev says : HeadIs q (Some r.head)
    says = lists.says setup setting cores t stands f q tcap.is r.head
        has.knows.knows.at.read.head.fits has.knows.knows.at.read.head.bare same

    mark_is : (x : ℕ) → mark_of s at x ≡ head_mark (head_of_word x)
    mark_is x = ap (λ y. mark_in_frame y 0 x) tcap.is

    head_is : r.head ≡ record { budget = q.budget; mark = None; version = says.version }
    head_is = lists.head_is setup setting cores t stands f q tcap.is r.head
        has.knows.knows.at.read.head.fits has.knows.knows.at.read.head.bare same

    budget_is : r.head.budget ≡ q.budget
    budget_is = ap (λ v. v.budget) head_is

    version_within : r.head.version ≤ rank q.qualities
    version_within = subst (λ (n : ℕ). n ≤ rank q.qualities) (sym (ap (λ v. v.version) head_is)) says.within

    -- the list was read at this moment, and nothing refuses the call
    listed : r.list ≡ Some q.qualities
    listed =
        let read = has.knows.knows.at.read in
        lists.as_read setup setting cores t stands f q tcap.is r.head read.head.fits read.head.bare same r.list 8 read.seen
        ∙ lists.whole setup setting cores t stands f q tcap.is r.head read.head.fits read.head.bare same

    found_is : change_of s c a.call ≡ Found (calls.change setup setting cores t stands c here a active now_r stage_is has)
    found_is = calls.goes setup setting cores t stands c here a active now_r stage_is has
        (sym (calls.covered_is setup setting cores t stands c here a active now_r stage_is has r.list listed) ∙ has.knows.knows.at.is)
        (has.knows.knows.at.enough refl)

    -- the ticks fit into the budget
    budget_now : q.budget + r.ticks < 2 ^ 32
    budget_now =
        let small = calls.budget_small setup setting cores t stands c here a active now_r stage_is has in
        let budget : (tcap_at s f).budget ≡ q.budget = ap (λ x. (tcap_in x).budget) tcap.is in
        let left = calls.same_left setup setting cores t stands c here a active now_r stage_is has in
        let enough = has.knows.knows.at.enough refl in
        omega (arith, small, budget, left, enough)

    more_budget : more.budget ≡ q.budget + r.ticks
    more_budget = let low = budget_now in let head = budget_is in omega (arith, low, head)

    more_fits : HeadFits more
    more_fits = (let low = budget_now in let now = more_budget in omega (arith, low, now), tt, has.knows.knows.at.read.head.fits.2)

    bare_now : mark_of s at (left_of giving was) ≡ None
    bare_now = ap (mark_of s at) leaves_it ∙ mark_is (word_of_head more) ∙ ap head_mark (spelling.reads more more_fits)

    -- the state after it
    abbrev q_more : TcapFields
    q_more = record q { budget = q.budget + r.ticks }

    abbrev k_won : CoreFields
    k_won = record (s.core c) { back = (s.core c).back + r.ticks }

    abbrev s_given : State
    s_given = with_core (with_frame s f (Kernel (Tcap q_more))) c k_won

    now_won : s_won ≡ counted s_given c
    now_won = ap (λ p. state_decided_in p done s c) is_open
        ∙ ap (λ x. counted (changed s x) c) found_is
        ∙ ap (λ (g : ℕ). counted (given_back s c g is.amount) c) (sym is.refill.tcap)
        ∙ ap (λ (m : ℕ). counted (given_back s c f m) c) (sym is.refill.ticks)
        ∙ ap (λ x. counted (with_core (with_frame s f (with_tcap x (record (tcap_in x) { budget = (tcap_in x).budget + r.ticks })))
        c k_won) c) tcap.is

    frame_here : (g : ℕ) → g ≡ f → s_won.frame g ≡ Kernel (Tcap q_more)
    frame_here g same = ap (λ x. x.frame g) now_won ∙ put_same s.frame f (Kernel (Tcap q_more)) g same

    frame_there : (g : ℕ) → g ≢ f → s_won.frame g ≡ s.frame g
    frame_there g other = ap (λ x. x.frame g) now_won ∙ put_other s.frame f (Kernel (Tcap q_more)) g other

    was_tcap : (g : ℕ) → g ≡ f → s.frame g ≡ Kernel (Tcap q)
    was_tcap g same = ap s.frame same ∙ tcap.is

    core_won : s_won.core c ≡ record k_won { counted = (s.core c).counted + 1 }
    core_won = ap (λ x. x.core c) now_won ∙ put_same s_given.core c _ c refl
        ∙ ap one_more (put_same s.core c k_won c refl)

    core_won_other : (d : ℕ) → d ≢ c → s_won.core d ≡ s.core d
    core_won_other d other = ap (λ x. x.core d) now_won ∙ put_other s_given.core c _ d other ∙ put_other s.core c k_won d other

    limits_won : s_won.limits ≡ s.limits
    limits_won = ap (λ x. x.limits) now_won

    threads_won : (g : ℕ) → thread_in (s_won.frame g) ≡ thread_in (s.frame g)
    threads_won g = elim (cases_eq g f) [
      | inl same ↦ ap thread_in (frame_here g same) ∙ ap thread_in (sym (was_tcap g same))
      | inr other ↦ ap thread_in (frame_there g other)
    ]

    comps_won : (g : ℕ) → comp_in (s_won.frame g) ≡ comp_in (s.frame g)
    comps_won g = elim (cases_eq g f) [
      | inl same ↦ ap comp_in (frame_here g same) ∙ ap comp_in (sym (was_tcap g same))
      | inr other ↦ ap comp_in (frame_there g other)
    ]

    rises_more : 1 + counted_in setup s ≤ counted_in setup s_won
    rises_more =
        let sum = sum_one (λ d. (s.core d).counted) (λ d. (s_won.core d).counted) setup.cores c here
        (λ d other. ap (λ k. k.counted) (core_won_other d other)) in
        let more : (s_won.core c).counted ≡ (s.core c).counted + 1 = ap (λ k. k.counted) core_won in
        omega arith

    rises_won : counted_in setup s ≤ counted_in setup s_won
    rises_won = let more = rises_more in omega arith

    whose_won : thread_of s_won c ≡ thread_of s c
    whose_won = threads_won (s_won.core c).thread ∙ ap (λ k. thread_in (s.frame k.thread)) core_won

    comp_won : comp_of s_won c ≡ comp_of s c
    comp_won = comps_won (first_of_stack (thread_of s_won c).stack) ∙ ap (λ k. comp_in (s.frame (first_of_stack k.stack))) whose_won

    works_won : WorksIn own_won s_won c
    works_won =
        let was_in = (stands.each c here).works in record {
          thread = was_in.thread ∙ ap (λ k. k.thread) (sym core_won);
          depth = was_in.depth ∙ ap (λ k. length k.stack) (sym whose_won);
          comp = was_in.comp ∙ ap (λ k. first_of_stack k.stack) (sym whose_won);
          table = was_in.table ∙ ap (λ k. k.table) (sym comp_won);
          pages = was_in.pages ∙ ap (λ k. k.pages) (sym comp_won);
          tcap = was_in.tcap ∙ ap (λ k. k.tcap) (sym core_won);
          cached = was_in.cached ∙ ap (λ k. k.cached) (sym core_won);
          owed = was_in.owed ∙ ap (λ k. k.owed) (sym core_won);
          spent = was_in.spent ∙ ap (λ k. k.spent) (sym core_won);
          back = back_won;
          grant = was_in.grant ∙ ap (λ k. k.grant) (sym core_won);
          made = made_won;
        }
      where
        back_won : min ((cores c).own.back + r.ticks) (2 ^ 64 - 1) ≡ (s_won.core c).back
        back_won =
            let own : (cores c).own.back ≡ (s.core c).back = (stands.each c here).works.back in
            let now : (s_won.core c).back ≡ (s.core c).back + r.ticks = ap (λ k. k.back) core_won in
            let left = calls.same_left setup setting cores t stands c here a active now_r stage_is has in
            let enough = has.knows.knows.at.enough refl in
            let small = calls.spent_small setup setting cores t stands c here a active now_r stage_is has in
            let most : (s.core c).back ≤ (s.core c).spent =
            (calls.numbers setup setting cores t stands c here a active now_r stage_is has).back in
            omega (arith, own, now, left, enough, small, most)

        made_won : (cores c).own.made + 1 ≡ (s_won.core c).counted
        made_won =
            let own = (stands.each c here).works.made in
            let more : (s_won.core c).counted ≡ (s.core c).counted + 1 = ap (λ k. k.counted) core_won in
            omega arith

    plain_won : IsUntimed setup t e_won
    plain_won = record {
      begins = λ x. ap (λ p. begins_in (Some done) p s c x) is_open ∙ ap (λ j. begun_by j x) found_is;
      ends = λ x. ap (λ p. ends_in (Some done) p x) is_open ∙ ap (λ y. ends y done x) is.call_is;
      flushes = ap (flushes_in (Some done)) is_open ∙ ap (λ y. flushes y done) is.call_is;
      apart = λ d. refl;
      same = refl;
    }

    alike_won : ReadsAlike setup t e_won
    alike_won (EntryAt g i) = elim (cases_eq g f) [
      | inl same ↦ ap (λ x. mark_in_frame x i (last_left setup (e_won ∷ t) (EntryAt g i))) (frame_here g same)
          ∙ ap (λ x. mark_in_frame x i (last_left setup (e_won ∷ t) (EntryAt g i))) (sym (was_tcap g same))
      | inr other ↦ ap (λ x. mark_in_frame x i (last_left setup (e_won ∷ t) (EntryAt g i))) (frame_there g other)
    ]
    alike_won (FrameAt g) = refl
    alike_won (CountAt g d) = refl
    alike_won (CoreAt d) = refl
    alike_won (FlushAt d) = refl
    alike_won (LiveAt l) = refl
    alike_won ClockAt = refl

    -- what is said of each other word stays
    said_won : (w : Word) → SameFor s s_won (times_of setup t) (times_of setup (e_won ∷ t)) w → StaysSaid setup cores t e_won w
    said_won w same = word_stays s s_won (times_of setup t) (times_of setup (e_won ∷ t)) w (settled setup (held_by cores) t w) same

    list_stays : (i x : ℕ) → i ≢ 0
        → IsFrameWord s.limits.frames (Kernel (Tcap q)) (s.place f i) (stamp setup t (PlaceOf f i)) i x
        → IsFrameWord s_won.limits.frames (Kernel (Tcap q_more))
        (s_won.place f i) (stamp setup (e_won ∷ t) (PlaceOf f i)) i x
    list_stays zero x some h = absurd (some refl)
    list_stays (suc j) x some h = h

    stays_won : (w : Word) → w ≢ at → marked_by setup t w ≢ Some c → StaysSaid setup cores t e_won w
    stays_won (EntryAt g i) there free = elim (cases_eq g f) [
      | inl same ↦ subst (λ (m : ℕ). StaysSaid setup cores t e_won (EntryAt m i)) (sym same)
          (λ h. subst (λ x. IsFrameWord s_won.limits.frames x (s_won.place f i) (stamp setup (e_won ∷ t) (PlaceOf f i)) i
          (settled setup (held_by cores) t (EntryAt f i))) (sym (frame_here f refl))
          (list_stays i (settled setup (held_by cores) t (EntryAt f i))
          (λ first. there (ap (λ (m : ℕ). EntryAt m i) same ∙ ap (λ (m : ℕ). EntryAt f m) first))
          (subst (λ x. IsFrameWord s.limits.frames x (s.place f i) (stamp setup t (PlaceOf f i)) i
          (settled setup (held_by cores) t (EntryAt f i))) tcap.is h)))
      | inr other ↦ said_won (EntryAt g i) (record {
        frames = ap (λ l. l.frames) limits_won;
        frame = frame_there g other;
        place = ap (λ x. x.place g i) now_won;
        stamp = plain_stamp setup t e_won plain_won (PlaceOf g i);
      })
    ]
    stays_won (FrameAt g) there free = elim (cases_eq g f) [
      | inl same ↦ λ h. h ∙ ap (λ x. Some (frame_value x)) (was_tcap g same)
          ∙ ap (λ x. Some (frame_value x)) (sym (frame_here g same))
      | inr other ↦ said_won (FrameAt g) (frame_there g other)
    ]
    stays_won (CountAt g d) there free = said_won (CountAt g d) tt
    stays_won (CoreAt d) there free = said_won (CoreAt d) (record {
      inside = decided-inside (Some done) (phase t c) s c d;
      exit = plain_exit t e_won refl d;
    })
    stays_won (FlushAt d) there free = said_won (FlushAt d) (plain_flush setup t e_won plain_won d)
    stays_won (LiveAt l) there free = said_won (LiveAt l) (record {
      number = ap (λ x. x.number l) now_won;
      stamp = plain_stamp setup t e_won plain_won (NumberOf l);
    })
    stays_won ClockAt there free = λ h. tt

    now_says : WordIs s_won (times_of setup (e_won ∷ t)) at (left_of giving was)
    now_says = subst (WordIs s_won (times_of setup (e_won ∷ t)) at) (sym leaves_it)
        (subst (λ x. IsFrameWord s_won.limits.frames x
        (s_won.place f 0) (stamp setup (e_won ∷ t) (PlaceOf f 0)) 0 (word_of_head more))
        (sym (frame_here f refl))
        (record {
          version = r.head.version;
          says = spelling.reads more more_fits
              ∙ ap (λ (m : ℕ). Some (record { budget = m; mark = None; version = r.head.version })) more_budget;
          within = version_within;
          most = says.most;
        }))

    -- the core holds nothing
    free_of : (w : Word) → marked_by setup t w ≡ Some c → ⊥
    free_of w own =
        false≢true (sym (ap (λ h. h.marks w) (ap holds_in active ∙ held_is) ∙ bare_counts None w) ∙ (stands.marks w c).owned own)

    still_won : (w : Word) → (holds after_won).marks w ≡ (holds (cores c)).marks w
    still_won w = same_marks (Some None) None a.counts w ∙ sym (ap (λ h. h.marks w) (ap holds_in active ∙ held_is))

    -- no reference changes
    below : f < s.limits.frames
    below = subst (λ (m : ℕ). f < m) (ap (λ x. x.frames) (stands.each c here).shape ∙ sym (ap (λ l. l.frames) (limits_of setup t)))
        (calls.fits setup setting cores t stands c here a active now_r stage_is has).tcap

    refs_won : (g : ℕ) → refs s_won g ≡ refs s g
    refs_won g = ap (λ x. refs x g) now_won ∙ counted_refs s_given c g
        ∙ core_same_refs (with_frame s f (Kernel (Tcap q_more))) c k_won refl refl g ∙ same_refs
      where
        same_refs : refs (with_frame s f (Kernel (Tcap q_more))) g ≡ refs s g
        same_refs =
            let sum = frame_refs s f (Kernel (Tcap q_more)) g below in
            let old : times g (frame_names (s.frame f)) ≡ times g (frame_names (Kernel (Tcap q))) =
            ap (λ x. times g (frame_names x)) tcap.is in
            let fresh : times g (frame_names (Kernel (Tcap q_more))) ≡ times g (frame_names (Kernel (Tcap q))) = refl in
            omega (arith, sum, old, fresh)

    no_count : (g d : ℕ) → CountAt g d ≢ at
    no_count g d h = cc

    spares : SparesBlanks setup t e_won
    spares g i on = subst (λ (m : ℕ). Spared setup t e_won m i (s.frame m)) (sym (frame_is g i on))
        (subst (Spared setup t e_won f i) (sym tcap.is)
        (subst (λ (m : ℕ). SparesTcap setup t e_won f m) (sym (index_is g i on)) turns))
      where
        frame_is : (g i : ℕ) → at ≡ EntryAt g i → g ≡ f
        frame_is g i h = cc

        index_is : (g i : ℕ) → at ≡ EntryAt g i → i ≡ 0
        index_is g i h = cc

        turns : SparesTcap setup t e_won f 0
        turns = inr (subst (λ o. TurnsHead c (list_changed t f) (head_of_word was) o)
            (sym (ap head_of_word leaves_it ∙ spelling.reads more more_fits))
            (subst (λ o. TurnsHead c (list_changed t f) o (Some more)) (sym shown_is)
            (inl has.knows.knows.at.read.head.bare, inr (refl, inl has.knows.knows.at.read.head.bare))))

    permitted_won : MayReply s c a.call done
    permitted_won = (
      not_spent setup (cores c) t c (stands.each c here) room,
      (has.acts, subst (λ x. IsFoundAnd x (λ y. y.value ≡ Value.Nothing)) (sym found_is) refl),
    )

    -- the call has stepped on each place through which its name is reached
    table_is : (cores c).own.table ≡ (comp_of s c).table
    table_is = (stands.each c here).works.table

    reached_all : IsJustified setup t e_won a.call done
    reached_all = all_ways s c (own_pages s c) (e_won ∷ t) (plan_for a.call) (rule_of s c a.call) a.found
        (calls.by_plan setup setting cores t stands c here a active now_r stage_is has)
        (leads_by (λ n wanted k. HasFound setup t c (own_in (cores c).own.table n) wanted k)
        (λ n wanted k. LeadsIn s c n wanted k × HasReached (e_won ∷ t) c (way_to s c (own s c n)))
        own_gone (plan_for a.call).names [] a.found has.names)
        (subst (λ x. HasReached (e_won ∷ t) c (ways s c x))
        (sym (calls.left setup setting cores t stands c here a active now_r stage_is has))
        (All-nil (λ (x : Slot). IsSome (own_left (e_won ∷ t) c (EntryAt x.node x.index)))))
      where
        own_gone : (n : ℕ) (wanted : Want) (k : Capability) → HasFound setup t c (own_in (cores c).own.table n) wanted k
            → LeadsIn s c n wanted k × HasReached (e_won ∷ t) c (way_to s c (own s c n))
        own_gone n wanted k had = (
          found_named setup t c (cores c).own.table n wanted k table_is had,
          subst (λ x. HasReached (e_won ∷ t) c (way_to s c x)) (own_is s c (cores c).own.table n table_is)
              (way_gone setup t (e_won ∷ t) c (own_in (cores c).own.table n) had.at had.way.reached
              (λ m d h. own_kept t e_won c refl refl _ (had.way.stepped m d h))),
        )

    compare_won : GoodTook setup cores t c giving (landed a (took_refilled (refill_after now_r was) (won true)))
    compare_won lands =
        let marks = carry_marks setup cores t e_won after_won still_won alike_won unmarked bare_now stands.marks in
        decides_changing setup setting cores t stands c here a active giving done own_won
        (Decided done None no_tail) (record { core = refl; layout = refl; limit = refl; epochs = refl; exit = refl })
        (subst (λ (m : ℕ). m < 2 ^ 64) (sym leaves_it) (spelling.small more more_fits))
        (of_call setup setting cores t stands c here a active r stage_is has) lands opens refl
        (marks_own setup cores t e_won after_won (λ w there. still_won w) stands.marks marks)
        (λ d m other. absurd (none_some d (sym unmarked ∙ m)))
        (plain_begins setup t e_won plain_won) spares (inl (ap untypes is.call_is)) rises_won works_won marks
        (carry_words setup cores t e_won after_won still_won alike_won unmarked bare_now
        (λ g i. counts_bare (Some None) a.counts g i
        ∙ sym (ap (λ h. h.bare g i) (ap holds_in active ∙ held_is) ∙ counts_bare None a.counts g i))
        (not_exclusive_head_value setup cores t stands f q tcap.is) stays_won now_says
        (λ w own. absurd (free_of w own)) stands.words)
        (exclusive_none setup (e_won ∷ t) c after_won (counts_bare (Some None) a.counts))
        (exclusive_free cores e_won (not_exclusive_head_word setup cores t stands f q tcap.is))
        (sums_keep setup t e_won (held_by cores) (held_by (put cores c after_won))
        (λ g d. others_settled setup cores t e_won after_won still_won alike_won unmarked bare_now (CountAt g d) (no_count g d)
        (free_of (CountAt g d)) refl)
        plain_won limits_won refs_won stands.sums)
        (record { call = a.call; is_open = is_open; permitted = permitted_won; justified = reached_all })
        (λ is_alone. ok_first s c a.call Value.Nothing permitted_won)
        tt

  -- the compare, whatever it finds
  pub compare_good : GoodTook setup cores t c giving (landed a (took_refill now_r was))
  compare_good = by (was == word_of_head r.head) refl
    where
      by : (same : Bool) → (was == word_of_head r.head) ≡ same
          → GoodTook setup cores t c giving (landed a (took_refilled (refill_after now_r was) (won same)))
      by true is = compare_won is
      by false is = compare_lost setup setting cores t stands c here a active r stage_is has is
