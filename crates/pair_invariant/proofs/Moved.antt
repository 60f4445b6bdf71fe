-- A decision by which two temporal capabilities have other budgets, or another list: what else of the state it leaves, and what is said of
-- the other words then.
use Rattle.count_invariant.specs.step_ways.proofs.{◌≡◌, ◌≢◌, ◌⊎◌, inl, inr, ℕ, zero, suc, ◌+◌, ◌-◌, ◌<◌, ◌≤◌, ◌==◌, Bool, true, false}
use Rattle.count_invariant.specs.step_ways.proofs.{if◌then◌else◌, List, ◌∷◌, length, slice_get, Some, None, IsTrue, arith, refl, sym, ◌∙◌}
use Rattle.count_invariant.specs.step_ways.proofs.{ap, subst, Setting, IsSetting, Word, EntryAt, FrameAt, CountAt, CoreAt, FlushAt, LiveAt}
use Rattle.count_invariant.specs.step_ways.proofs.{ClockAt, Move, Frame, Kernel, Tcap, TcapFields, PlaceOf, FrameOf, NumberOf, State, put}
use Rattle.count_invariant.specs.step_ways.proofs.{tcap_in, with_frame, thread_in, comp_in, thread_of, comp_of, first_of_stack, refs}
use Rattle.count_invariant.specs.step_ways.proofs.{frame_names, times, IsGuarded, tcap_at, counted, frame_refs, sum_one, put_same}
use Rattle.count_invariant.specs.step_ways.proofs.{put_other, mark_in_frame, frame_value, stamp, Step, Trace, phase, state_after, last_left}
use Rattle.count_invariant.specs.step_ways.proofs.{decided-inside, ActiveCall, Core, settled, WorksIn, HasTcap, held_by, times_of}
use Rattle.count_invariant.specs.step_ways.proofs.{counted_in, Invariant, IsFrameWord, IsUntimed, plain_stamp, plain_flush, plain_exit}
use Rattle.count_invariant.specs.step_ways.proofs.{counted_refs, SameFor, ReadsAlike, StaysSaid, word_stays, fits, inner, Reply, Value}
use Rattle.count_invariant.specs.boot_words.specs.kernel_rules.specs.{moved, Core as CoreFields, with_tcap, with_budget, with_qualities}
use Rattle.std.proofs.lemmas.Bool.{cases_eq}
use Rattle.count_invariant.specs.quality_lists.specs.spk_nums.specs.declared.kinds.Kind.TheVariants.{Tcap as KindTcap}

-- A frame is the first, the second, or another.
pub record Away (a b g : ℕ) : Type 0 where
  pub first : g ≢ a
  pub second : g ≢ b

pub which : (a b g : ℕ) → (g ≡ a) ⊎ ((g ≡ b) ⊎ Away a b g)
which a b g = elim (cases_eq g a) [
  | inl same ↦ inl same
  | inr other ↦ elim (cases_eq g b) [
    | inl same ↦ inr (inl same)
    | inr another ↦ inr (inr (record { first = other; second = another }))
  ]
]

-- A core that has counted one call more.
abbrev one_more : CoreFields → CoreFields
one_more k = record k { counted = k.counted + 1 }

-- The state in which two frames have these temporal capabilities.
abbrev pub with_both : State → ℕ → TcapFields → ℕ → TcapFields → State
with_both s f q g r = with_frame (with_frame s f (Kernel (Tcap q))) g (Kernel (Tcap r))

-- A frame that is given two things, one after the other, has the second.
put_twice : {A : Type 0} (h : ℕ → A) (k : ℕ) (x y : A) → put (put h k x) k y ≡ put h k y
put_twice {A} h k x y = λ i j. at j (j == k) i
  where
    at : (j : ℕ) (b : Bool) → (if b then y else (if b then x else h j)) ≡ (if b then y else h j)
    at j true = refl
    at j false = refl

-- So many ticks moved, and another list of the second.
module _ (s : State) (f g m : ℕ) (q r : TcapFields) (differ : f ≢ g) (first : s.frame f ≡ Kernel (Tcap q))
    (second : s.frame g ≡ Kernel (Tcap r)) where
  abbrev less : TcapFields
  less = record q { budget = q.budget - m }

  abbrev more : TcapFields
  more = record r { budget = r.budget + m }

  abbrev s_less : State
  s_less = with_frame s f (Kernel (Tcap less))

  pub moved_both : moved s f g m ≡ with_both s f less g more
  moved_both =
      ap (λ x. with_budget (with_frame s f (with_tcap x (record (tcap_in x) { budget = (tcap_in x).budget - m }))) g
      ((tcap_at s g).budget + m)) first
      ∙ ap (λ x. with_budget s_less g ((tcap_in x).budget + m)) second
      ∙ ap (λ x. with_frame s_less g (with_tcap x (record (tcap_in x) { budget = r.budget + m })))
      (put_other s.frame f (Kernel (Tcap less)) g (λ h. differ (sym h)) ∙ second)

  pub listed_both : (list : List (ℕ × ℕ)) → with_qualities (moved s f g m) g list ≡ with_both s f less g (record more { qualities = list })
  listed_both list =
      ap (λ x. with_qualities x g list) moved_both
      ∙ ap (λ x. with_frame (with_both s f less g more) g (with_tcap x (record (tcap_in x) { qualities = list })))
      (put_same s_less.frame g (Kernel (Tcap more)) g refl)
      ∙ ap (λ h. record s { frame = h }) (put_twice s_less.frame g (Kernel (Tcap more)) (Kernel (Tcap (record more { qualities = list }))))

-- After the step e two frames have other temporal capabilities than before, and its core has counted its call.
pub record IsMoved (setup : Setting) (t : Trace) (e : Step) (f g : ℕ) (q r q' r' : TcapFields) : Type 0 where
  pub differ : f ≢ g
  pub first : (state_after setup t).frame f ≡ Kernel (Tcap q)
  pub second : (state_after setup t).frame g ≡ Kernel (Tcap r)
  pub below_first : f < (state_after setup t).limits.frames
  pub below_second : g < (state_after setup t).limits.frames
  pub now : state_after setup (e ∷ t) ≡ counted (with_both (state_after setup t) f q' g r') e.core
  pub plain : IsUntimed setup t e

module _ (setup : Setting) (setting : IsSetting setup) (cores : ℕ → Core) (t : Trace) (stands : Invariant setup cores t) (c : ℕ)
    (here : c < setup.cores)
    (a : ActiveCall) (active : (cores c).active ≡ Some a) (move : Move) (f g : ℕ) (q r q' r' : TcapFields)
    (is : IsMoved setup t (inner setup setting cores t stands c here a active move (Some (Reply.Ok Value.Nothing)) None) f g q r q'
    r') where
  abbrev e : Step
  e = inner setup setting cores t stands c here a active move (Some (Reply.Ok Value.Nothing)) None

  abbrev s : State
  s = state_after setup t

  abbrev s' : State
  s' = state_after setup (e ∷ t)

  abbrev s_one : State
  s_one = with_frame s f (Kernel (Tcap q'))

  abbrev s_both : State
  s_both = with_both s f q' g r'

  pub frame_first : (h : ℕ) → h ≡ f → s'.frame h ≡ Kernel (Tcap q')
  frame_first h first = ap (λ x. x.frame h) is.now
      ∙ put_other s_one.frame g (Kernel (Tcap r')) h (λ h. is.differ (sym first ∙ h))
      ∙ put_same s.frame f (Kernel (Tcap q')) h first

  pub frame_second : (h : ℕ) → h ≡ g → s'.frame h ≡ Kernel (Tcap r')
  frame_second h second = ap (λ x. x.frame h) is.now ∙ put_same s_one.frame g (Kernel (Tcap r')) h second

  frame_there : (h : ℕ) → Away f g h → s'.frame h ≡ s.frame h
  frame_there h away = ap (λ x. x.frame h) is.now
      ∙ put_other s_one.frame g (Kernel (Tcap r')) h away.second
      ∙ put_other s.frame f (Kernel (Tcap q')) h away.first

  -- what is alike of each temporal capability is as it was
  still_so : (X : Type 0) (of_frame : Frame → X) → ((y z : TcapFields) → of_frame (Kernel (Tcap y)) ≡ of_frame (Kernel (Tcap z)))
      → (h : ℕ) → of_frame (s'.frame h) ≡ of_frame (s.frame h)
  still_so X of_frame alike_of h = elim (which f g h) [
    | inl first ↦ ap of_frame (frame_first h first) ∙ alike_of q' q ∙ ap of_frame (sym (ap s.frame first ∙ is.first))
    | inr rest ↦ elim rest [
      | inl second ↦ ap of_frame (frame_second h second) ∙ alike_of r' r ∙ ap of_frame (sym (ap s.frame second ∙ is.second))
      | inr away ↦ ap of_frame (frame_there h away)
    ]
  ]

  core_now : s'.core c ≡ one_more (s.core c)
  core_now = ap (λ x. x.core c) is.now ∙ put_same s_both.core c _ c refl

  core_other : (d : ℕ) → d ≢ c → s'.core d ≡ s.core d
  core_other d other = ap (λ x. x.core d) is.now ∙ put_other s_both.core c _ d other

  pub limits : s'.limits ≡ s.limits
  limits = ap (λ x. x.limits) is.now

  rises_more : 1 + counted_in setup s ≤ counted_in setup s'
  rises_more =
      let sums = sum_one (λ d. (s.core d).counted) (λ d. (s'.core d).counted) setup.cores c here
      (λ d other. ap (λ k. k.counted) (core_other d other)) in
      let more : (s'.core c).counted ≡ (s.core c).counted + 1 = ap (λ k. k.counted) core_now in
      omega (arith, sums, more)

  pub rises : counted_in setup s ≤ counted_in setup s'
  rises = let more = rises_more in omega (arith, more)

  whose : thread_of s' c ≡ thread_of s c
  whose = still_so _ thread_in (λ y z. refl) (s'.core c).thread ∙ ap (λ k. thread_in (s.frame k.thread)) core_now

  comp_same : comp_of s' c ≡ comp_of s c
  comp_same = still_so _ comp_in (λ y z. refl) (first_of_stack (thread_of s' c).stack)
      ∙ ap (λ k. comp_in (s.frame (first_of_stack k.stack))) whose

  pub works : WorksIn (record (cores c).own { made = (cores c).own.made + 1 }) s' c
  works =
      let was_in = (stands.each c here).works in record {
        thread = was_in.thread ∙ ap (λ k. k.thread) (sym core_now);
        depth = was_in.depth ∙ ap (λ k. length k.stack) (sym whose);
        comp = was_in.comp ∙ ap (λ k. first_of_stack k.stack) (sym whose);
        table = was_in.table ∙ ap (λ k. k.table) (sym comp_same);
        pages = was_in.pages ∙ ap (λ k. k.pages) (sym comp_same);
        tcap = was_in.tcap ∙ ap (λ k. k.tcap) (sym core_now);
        cached = was_in.cached ∙ ap (λ k. k.cached) (sym core_now);
        owed = was_in.owed ∙ ap (λ k. k.owed) (sym core_now);
        spent = was_in.spent ∙ ap (λ k. k.spent) (sym core_now);
        back = was_in.back ∙ ap (λ k. k.back) (sym core_now);
        grant = was_in.grant ∙ ap (λ k. k.grant) (sym core_now);
        made = made_now;
      }
    where
      made_now : (cores c).own.made + 1 ≡ (s'.core c).counted
      made_now =
          let own = (stands.each c here).works.made in
          let more : (s'.core c).counted ≡ (s.core c).counted + 1 = ap (λ k. k.counted) core_now in
          omega (arith, own, more)

  pub alike : ReadsAlike setup t e
  alike (EntryAt h i) = still_so _ (λ x. mark_in_frame x i (last_left setup (e ∷ t) (EntryAt h i))) (λ y z. refl) h
  alike (FrameAt h) = refl
  alike _ = refl

  -- what is said of each other word stays
  said : (w : Word) → SameFor s s' (times_of setup t) (times_of setup (e ∷ t)) w → StaysSaid setup cores t e w
  said w so = word_stays s s' (times_of setup t) (times_of setup (e ∷ t)) w (settled setup (held_by cores) t w) so

  -- where the list says so
  abbrev SayAlike : TcapFields → TcapFields → ℕ → Type 0
  SayAlike y z i = (j : ℕ) → i ≡ suc j → j < 8 → slice_get z.qualities j ≡ slice_get y.qualities j

  list_stays : (y z : TcapFields) (h i x : ℕ) → i ≢ 0 → SayAlike y z i
      → IsFrameWord s.limits.frames (Kernel (Tcap y)) (s.place h i) (stamp setup t (PlaceOf h i)) i x
      → IsFrameWord s'.limits.frames (Kernel (Tcap z)) (s'.place h i) (stamp setup (e ∷ t) (PlaceOf h i)) i x
  list_stays y z h zero x some same before = absurd (some refl)
  list_stays y z h (suc j) x some same before = λ low. before low ∙ ap (λ o. Some (record { 0 = o })) (sym (same j refl low))

  entry_stays : (h : ℕ) (y z : TcapFields) → s.frame h ≡ Kernel (Tcap y) → s'.frame h ≡ Kernel (Tcap z) → (i : ℕ) → i ≢ 0 → SayAlike y z i
      → StaysSaid setup cores t e (EntryAt h i)
  entry_stays h y z before now_is i some same said_before =
      subst (λ x. IsFrameWord s'.limits.frames x (s'.place h i) (stamp setup (e ∷ t) (PlaceOf h i)) i
      (settled setup (held_by cores) t (EntryAt h i))) (sym now_is)
      (list_stays y z h i (settled setup (held_by cores) t (EntryAt h i)) some same
      (subst (λ x. IsFrameWord s.limits.frames x (s.place h i) (stamp setup t (PlaceOf h i)) i
      (settled setup (held_by cores) t (EntryAt h i))) before said_before))

  -- the first keeps its list, and so does the second where its word says the same
  pub stays : q'.qualities ≡ q.qualities → (w : Word) → w ≢ EntryAt f 0 → w ≢ EntryAt g 0
      → ((j : ℕ) → w ≡ EntryAt g (suc j) → j < 8 → slice_get r'.qualities j ≡ slice_get r.qualities j)
      → StaysSaid setup cores t e w
  stays lists (EntryAt h i) first second same = elim (which f g h) [
    | inl at ↦ subst (λ (n : ℕ). StaysSaid setup cores t e (EntryAt n i)) (sym at)
        (entry_stays f q q' is.first (frame_first f refl) i
        (λ zero_is. first (ap (λ (n : ℕ). EntryAt n i) at ∙ ap (λ (j : ℕ). EntryAt f j) zero_is))
        (λ j index low. ap (λ xs. slice_get xs j) lists))
    | inr rest ↦ elim rest [
      | inl at ↦ subst (λ (n : ℕ). StaysSaid setup cores t e (EntryAt n i)) (sym at)
          (entry_stays g r r' is.second (frame_second g refl) i
          (λ zero_is. second (ap (λ (n : ℕ). EntryAt n i) at ∙ ap (λ (j : ℕ). EntryAt g j) zero_is))
          (λ j index low. same j (ap (λ (n : ℕ). EntryAt n i) at ∙ ap (λ (n : ℕ). EntryAt g n) index) low))
      | inr away ↦ said (EntryAt h i) (record {
        frames = ap (λ l. l.frames) limits;
        frame = frame_there h away;
        place = ap (λ x. x.place h i) is.now;
        stamp = plain_stamp setup t e is.plain (PlaceOf h i);
      })
    ]
  ]
  stays lists (FrameAt h) first second same = λ before. before ∙ sym (ap (λ v. Some v) (still_so _ frame_value (λ y z. refl) h))
  stays lists (CountAt h d) first second same = said (CountAt h d) tt
  stays lists (CoreAt d) first second same = said (CoreAt d) (record {
    inside = decided-inside (Some (Reply.Ok Value.Nothing)) (phase t c) s c d;
    exit = plain_exit t e refl d;
  })
  stays lists (FlushAt d) first second same = said (FlushAt d) (plain_flush setup t e is.plain d)
  stays lists (LiveAt l) first second same = said (LiveAt l) (record {
    number = ap (λ x. x.number l) is.now;
    stamp = plain_stamp setup t e is.plain (NumberOf l);
  })
  stays lists ClockAt first second same = λ before. tt

  -- no reference changes
  pub refs_same : (h : ℕ) → refs s' h ≡ refs s h
  refs_same h = ap (λ x. refs x h) is.now ∙ counted_refs s_both c h ∙ second_same ∙ first_same
    where
      first_same : refs s_one h ≡ refs s h
      first_same =
          let all = frame_refs s f (Kernel (Tcap q')) h is.below_first in
          let old_names : times h (frame_names (s.frame f)) ≡ times h (frame_names (Kernel (Tcap q))) =
          ap (λ x. times h (frame_names x)) is.first in
          let new_names : times h (frame_names (Kernel (Tcap q'))) ≡ times h (frame_names (Kernel (Tcap q))) = refl in
          omega (arith, all, old_names, new_names)

      second_same : refs s_both h ≡ refs s_one h
      second_same =
          let all = frame_refs s_one g (Kernel (Tcap r')) h is.below_second in
          let old_names : times h (frame_names (s_one.frame g)) ≡ times h (frame_names (Kernel (Tcap r))) =
          ap (λ x. times h (frame_names x)) (put_other s.frame f (Kernel (Tcap q')) g (λ h. is.differ (sym h)) ∙ is.second) in
          let new_names : times h (frame_names (Kernel (Tcap r'))) ≡ times h (frame_names (Kernel (Tcap r))) = refl in
          omega (arith, all, old_names, new_names)

  -- each of the two is as guarded as it was
  pub tcap_left : (h : ℕ) (y : TcapFields) → s'.frame h ≡ Kernel (Tcap y) → HasTcap s c h → HasTcap s' c h
  tcap_left h y now_is has = record {
    tcap = subst (λ x. IsTrue (fits KindTcap x))
        (sym now_is) refl;
    guarded = by has.guarded;
  }
    where
      by : IsGuarded s c h → IsGuarded s' c h
      by (inl some) = inl (subst (λ (n : ℕ). 0 < n) (sym (refs_same h)) some)
      by (inr waits) = inr (subst (λ x. IsTrue ((x.grace (FrameOf h)).waits c)) (sym is.now) waits)
