-- A killing draws its stamp and is decided: the number is dead, its reference to the component's frame is released, and the grace periods
-- of both begin at the stamp. And the store of the dead number's word is good.
use Rattle.count_invariant.specs.step_ways.proofs.{Want, as_none, counts_bare, exclusive_elsewhere, IsSome, ◌≡◌, ◌≢◌, inl, inr, ℕ, pos}
use Rattle.count_invariant.specs.step_ways.proofs.{negsuc, ◌+ℤ◌, max, length, ◌+◌, ◌^◌, ◌<◌, ◌≤◌, ◌==◌, ◌||◌, true, false, if◌then◌else◌}
use Rattle.count_invariant.specs.step_ways.proofs.{List, [], ◌∷◌, Option, Some, None, arith, refl, sym, ◌∙◌, ap, subst, eq-eqb, ne_eqb}
use Rattle.count_invariant.specs.step_ways.proofs.{Capability, Setting, IsSetting, Call, Reply, word_of_live, live_of_word, CompWord, Word}
use Rattle.count_invariant.specs.step_ways.proofs.{EntryAt, FrameAt, CountAt, CoreAt, FlushAt, LiveAt, ClockAt, same_word, Move, AddOf}
use Rattle.count_invariant.specs.step_ways.proofs.{StoreOf, word_of, told_of, same_same, Liveness, Live, Dead, Thing, PlaceOf, FrameOf}
use Rattle.count_invariant.specs.step_ways.proofs.{NumberOf, Grace, State, put, comp_in, thread_in, Slot, own, Change, Found, IsFoundAnd}
use Rattle.count_invariant.specs.step_ways.proofs.{frames_of, times, refs, is_live_in, MayReply, rule_of, ends_by, flushes_by, changed}
use Rattle.count_invariant.specs.step_ways.proofs.{change_of, counted, same_thing, new_grace, calls_counted, grace_refs, put_same}
use Rattle.count_invariant.specs.step_ways.proofs.{put_other, IsInFootprint, HasReached, marked_by, ends_in, flushes_in, begins_at, ends_at}
use Rattle.count_invariant.specs.step_ways.proofs.{flushes_at, stamp, clock, flush_stored, Step, Trace, Out, Open, WasAt, phase}
use Rattle.count_invariant.specs.step_ways.proofs.{state_after, state_decided_in, last_left, own_left, way_to, ways, ok_first, was_now}
use Rattle.count_invariant.specs.step_ways.proofs.{was_stays, decided-inside, cases_word, same_word-other, stamp-begins, stamp-kept}
use Rattle.count_invariant.specs.step_ways.proofs.{flush_stored-own, flush_stored-other, drawn_stamp, later, own_pages, LeadsIn, leads_by}
use Rattle.count_invariant.specs.step_ways.proofs.{KillingAt, LoadComp, LoadLive, Act, Nothing, StoreDead, Stage, Undecided, Decided}
use Rattle.count_invariant.specs.step_ways.proofs.{ActiveCall, GoesOn, landed, went_with, Core, Holding, holds_counts, settled_by, settled}
use Rattle.count_invariant.specs.step_ways.proofs.{NumberIs, WordIs, HasFound, KnowsUndecided, WorksIn, own_in, phase_at, done_by, holds_at}
use Rattle.count_invariant.specs.step_ways.proofs.{holds_in, holds, held_by, times_of, counted_in, Invariant, counts, calm_counted}
use Rattle.count_invariant.specs.step_ways.proofs.{plain_exit, own_kept, counts_on, counted_refs, limits_of, SameFor, ReadsAlike, StaysSaid}
use Rattle.count_invariant.specs.step_ways.proofs.{word_stays, begins_in as begins_then, Close, Draw, Kill as kill_act, spares_other}
use Rattle.count_invariant.specs.step_ways.proofs.{call_is, core_in_call, inner, GoodTook, not_spent, clock_small, same_marks, plan_for}
use Rattle.count_invariant.specs.step_ways.proofs.{Value, LiveWord}
use Rattle.count_invariant.proofs.{counts_commit, counts_sum, dues_of, own_is, found_named, way_gone}
use Rattle.state_laws.specs.kernel_rules.specs.{Kill, with_grace, begins_in, with_number, number_names}
use Rattle.count_invariant.specs.act_states.specs.{killing_at, took_killing_at}
use Rattle.count_invariant.specs.kept_facts.proofs.{reads_alike, counted_grows}
use Rattle.std.proofs.{lemmas.Bool.cases_eq, lemmas.List.Elements.All-nil, Math.IntN.pos-+ℤ-pos, Math.IntN.+ℤ_assoc, Math.IntN.+ℤ_invr}
use Rattle.count_invariant.proofs.KillingCounts.{kill_numbers, kill_raises, kill_types}
use Rattle.live_invariant.proofs.Numbers.{IsSpelled, spelled, no_number, number_is, lives_for}
use Rattle.live_invariant.proofs.Kills.{load_comp_good, load_live_good, close_good}
use Rattle.{std.specs.List.list_any, std.proofs.Math.IntN.+ℤ_idr, count_invariant.specs.frame_words.specs.Live.LiveFits}
use Rattle.{state_laws.specs.kernel_invariant.proofs.Refs.number_refs, count_invariant.specs.plan_ways.proofs.Ways.all_ways}
use Rattle.{count_invariant.specs.act_states.specs.Taking.drawn_dead, count_invariant.specs.core_invariant.specs.Knows.KnowsDead}
use Rattle.{count_invariant.specs.kept_facts.proofs.Calm.own_works}
use Rattle.count_invariant.specs.frame_words.proofs.LiveLemmas as lives
use Rattle.state_laws.specs.kernel_invariant.proofs.Sums as sums
use Rattle.count_invariant.specs.step_ways.proofs.Counting as counters
use Rattle.count_invariant.specs.step_ways.proofs.Draws as drawing
use Rattle.live_invariant.proofs.KillCalls as calls

-- A count that falls by one.
one_less : (m n : ℕ) → n + 1 ≡ m → pos n ≡ pos m +ℤ negsuc 0
one_less m n is = sym (ap (λ (k : ℕ). pos k +ℤ negsuc 0) (sym is) ∙ ap (λ z. z +ℤ negsuc 0) (sym (pos-+ℤ-pos n 1)) ∙ +ℤ_assoc (pos n)
    (pos 1) (negsuc 0) ∙ ap (λ z. pos n +ℤ z) (+ℤ_invr (pos 1)) ∙ +ℤ_idr (pos n))

-- What is now of an open call is at a moment of it.
was_here : (P : State → Type 0) (setup : Setting) (t : Trace) (c : ℕ) (call : Call) → phase t c ≡ Open call → P (state_after setup t)
    → WasAt P setup t c
was_here P setup [] c call is now = absurd (not_out is)
  where
    not_out : Out ≡ Open call → ⊥
    not_out h = cc
was_here P setup (e ∷ t) c call is now = was_now P setup t e c now

-- How often a frame is named alone.
once : (f : ℕ) → times f (f ∷ []) ≡ 1
once f = sums.times_cons f f [] ∙ ap (λ b. (if b then 1 else 0) + 0) (eq-eqb f f refl)

never : (g f : ℕ) → g ≢ f → times g (f ∷ []) ≡ 0
never g f other = sums.times_cons g f [] ∙ ap (λ b. (if b then 1 else 0) + 0) (ne_eqb f g (λ h. other (sym h)))

-- A kill ends no grace period, and flushes nothing.
kill_ends : (call : Call) (name : ℕ) → call ≡ Kill name → (y : Thing) → ends_by call y ≡ false
kill_ends call name is y = ap (λ x. ends_by x y) is

kill_flushes : (call : Call) (name : ℕ) → call ≡ Kill name → flushes_by call ≡ false
kill_flushes call name is = ap flushes_by is

-- The change of a kill of this component.
abbrev kills_in : State → ℕ → ℕ → Liveness → Change
kills_in s l e live = record {
  value = Value.Nothing;
  next = with_number s l (Dead e);
  takes = [];
  begins = NumberOf l ∷ frames_of (number_names live);
}

module _ (setup : Setting) (setting : IsSetting setup) (cores : ℕ → Core) (t : Trace) (stands : Invariant setup cores t) (c : ℕ)
    (here : c < setup.cores)
    (a : ActiveCall) (active : (cores c).active ≡ Some a) (f by : ℕ) (life : CompWord) (word : ℕ)
    (stage_is : a.stage ≡ Undecided (Act (kill_act (record { comp = f; core = by; at = Draw life word }))))
    (has : KnowsUndecided setup t c (cores c).own.table a (Act (kill_act (record { comp = f; core = by; at = Draw life word })))) where
  abbrev s : State
  s = state_after setup t

  abbrev at : Word
  at = LiveAt life.number

  abbrev x : ℕ
  x = clock setup t

  abbrev r : Reply
  r = Reply.Ok Value.Nothing

  abbrev fs : List ℕ
  fs = f ∷ []

  abbrev held_counts : Option (Option ℕ) → Holding
  held_counts finished = holds_counts finished a.counts

  opens : phase_at a.call a.stage ≡ Open a.call
  opens = calls.opens setup setting cores t stands c here a active f by (Draw life word) stage_is has

  is_open : phase t c ≡ Open a.call
  is_open = calls.is_open setup setting cores t stands c here a active f by (Draw life word) stage_is has

  call_so : a.call ≡ Kill (calls.is setup setting cores t stands c here a active f by (Draw life word) stage_is has).name
  call_so = (calls.is setup setting cores t stands c here a active f by (Draw life word) stage_is has).call_is

  -- what it holds: the number that it has closed, which stands for what it is, and its counts
  before : (w : Word) → ((holds (cores c)).marks w ≡ (if same_word w at then true else (held_counts None).marks w))
      × ((holds (cores c)).stands w ≡ (if same_word w at then word else (held_counts None).stands w))
  before w = (
    ap (λ h. h.marks w) (ap holds_in active ∙ ap (λ stage. holds_at stage a.counts) stage_is),
    ap (λ h. h.stands w) (ap holds_in active ∙ ap (λ stage. holds_at stage a.counts) stage_is),
  )

  own_mark : marked_by setup t at ≡ Some c
  own_mark = (stands.marks at c).kept ((before at).0 ∙ ap (λ b. if b then true else (held_counts None).marks at) (same_same at))

  stood_for : settled setup (held_by cores) t at ≡ word
  stood_for = ap (λ o. settled_by o (held_by cores) at (last_left setup t at)) own_mark ∙ (before at).1
      ∙ ap (λ b. if b then word else (held_counts None).stands at) (same_same at)

  -- the number lives, for this component
  lives_now : s.number life.number ≡ Live life.epoch has.knows.knows.at.live.frame
  lives_now = number_is (s.number life.number) (stamp setup t (NumberOf life.number)) life.epoch has.knows.knows.at.live.frame
      (live_of_word word)
      (subst (λ (n : ℕ). NumberIs (s.number life.number) (stamp setup t (NumberOf life.number)) (live_of_word n)) stood_for
      (stands.words at)) has.knows.knows.at.live.says

  same_frame : has.knows.knows.at.live.frame ≡ f
  same_frame = lives_for setup setting t stands.legal f life.number life.epoch has.knows.knows.at.live.frame has.knows.knows.comp.comp
      has.knows.knows.at.has_life.number has.knows.knows.at.has_life.epoch lives_now

  number_live : s.number life.number ≡ Live life.epoch f
  number_live = lives_now ∙ ap (λ (g : ℕ). Live life.epoch g) same_frame

  lives_so : is_live_in (s.number (comp_in (s.frame f)).number) (comp_in (s.frame f)).epoch ≡ true
  lives_so =
      ap (λ (n : ℕ). is_live_in (s.number n) (comp_in (s.frame f)).epoch) has.knows.knows.at.has_life.number
      ∙ ap (is_live_in (s.number life.number)) has.knows.knows.at.has_life.epoch
      ∙ ap (λ y. is_live_in y life.epoch) number_live ∙ eq-eqb life.epoch life.epoch refl

  change : change_of s c a.call ≡ Found (kills_in s life.number life.epoch (Live life.epoch f))
  change =
      calls.by_life setup setting cores t stands c here a active f by (Draw life word) stage_is has true lives_so
      ∙ ap (λ (n : ℕ). Found (kills_in s n (comp_in (s.frame f)).epoch (s.number n))) has.knows.knows.at.has_life.number
      ∙ ap (λ (n : ℕ). Found (kills_in s life.number n (s.number life.number))) has.knows.knows.at.has_life.epoch
      ∙ ap (λ y. Found (kills_in s life.number life.epoch y)) number_live

  abbrev things : List Thing
  things = NumberOf life.number ∷ FrameOf f ∷ []

  abbrev graces : Thing → Grace
  graces y = if list_any (same_thing y) things then new_grace s y else s.grace y

  abbrev killed : State
  killed = counted (with_grace (with_number s life.number (Dead life.epoch)) graces) c

  abbrev made : ℕ
  made = (cores c).own.made + calls_counted r

  -- the stage is that after the draw
  module _ (now_at : ℕ) (drawn_is : now_at ≡ x) where
    abbrev stage : Stage
    stage = Decided r (Some now_at) (StoreDead life now_at)

    abbrev e : Step
    e = drawing.e setup setting cores t stands c here a active r stage made

    abbrev after : Core
    after = drawing.after setup setting cores t stands c here a active r stage made

    abbrev s' : State
    s' = state_after setup (e ∷ t)

    abbrev stored : ℕ
    stored = word_of_live (LiveWord.Dead life.epoch now_at)

    now : s' ≡ killed
    now = ap (λ p. state_decided_in p r s c) is_open ∙ ap (λ y. counted (changed s y) c) change

    frames : (g : ℕ) → s'.frame g ≡ s.frame g
    frames g = ap (λ y. y.frame g) now

    limits : s'.limits ≡ s.limits
    limits = ap (λ y. y.limits) now

    alike : ReadsAlike setup t e
    alike = reads_alike setup t e frames

    begins : (y : Thing) → begins_at setup t e y ≡ list_any (same_thing y) things
    begins y = ap (λ p. begins_then (Some r) p s c y) is_open ∙ ap (λ z. begins_in z y) change

    ends : (y : Thing) → ends_at t e y ≡ false
    ends y = ap (λ p. ends_in (Some r) p y) is_open ∙ kill_ends a.call _ call_so y

    no_flush : flushes_at t e ≡ false
    no_flush = ap (flushes_in (Some r)) is_open ∙ kill_flushes a.call _ call_so

    stamp_begins : (y : Thing) → list_any (same_thing y) things ≡ true → stamp setup (e ∷ t) y ≡ x
    stamp_begins y is = stamp-begins setup e t y (begins y ∙ is)

    stamp_stays : (y : Thing) → list_any (same_thing y) things ≡ false → stamp setup (e ∷ t) y ≡ stamp setup t y
    stamp_stays y is = stamp-kept setup e t y (begins y ∙ is) (ends y)

    one_more : (s'.core c).counted ≡ (s.core c).counted + 1
    one_more = ap (λ y. (y.core c).counted) now ∙ counted_one
      where
        counted_one : ((counted s c).core c).counted ≡ (s.core c).counted + 1
        counted_one = ap (λ k. k.counted) (put_same s.core c (record (s.core c) { counted = (s.core c).counted + 1 }) c refl)

    one_counted : ((counted s c).core c).counted ≡ (s.core c).counted + 1
    one_counted = ap (λ k. k.counted) (put_same s.core c (record (s.core c) { counted = (s.core c).counted + 1 }) c refl)

    counts_are : made ≡ (s'.core c).counted
    counts_are = let own = (stands.each c here).works.made in let more = one_more in omega arith

    own_stays : s'.core c ≡ counts (s.core c) (s'.core c).inside (s'.core c).counted
    own_stays = subst (λ y. y.core c ≡ counts (s.core c) (y.core c).inside (y.core c).counted) (sym now) (calm_counted s c).own

    works : WorksIn (record (cores c).own { made = made }) s' c
    works = own_works s s' c (cores c).own (record (cores c).own { made = made }) (λ g. ap thread_in (frames g))
        (λ g. ap comp_in (frames g)) own_stays (ap (λ (n : ℕ). record (cores c).own { made = n }) counts_are) (stands.each c here).works

    grows : counted_in setup s + 1 ≤ counted_in setup s'
    grows = subst (λ y. counted_in setup s + 1 ≤ counted_in setup y) (sym now)
        (counted_grows setup s (counted s c) c (calm_counted s c) here one_counted)

    core_below : c < s.limits.cores
    core_below = subst (λ (n : ℕ). c < n) (sym (ap (λ l. l.cores) (limits_of setup t))) here

    -- the number that was killed, and any other
    dead_here : s'.number life.number ≡ Dead life.epoch
    dead_here = ap (λ y. y.number life.number) now ∙ put_same s.number life.number (Dead life.epoch) life.number refl

    there : (l : ℕ) → l ≢ life.number → s'.number l ≡ s.number l
    there l other = ap (λ y. y.number l) now ∙ put_other s.number life.number (Dead life.epoch) l other

    itself : list_any (same_thing (NumberOf life.number)) things ≡ true
    itself = ap (λ b. b || false) (eq-eqb life.number life.number refl)

    another : (l : ℕ) → l ≢ life.number → list_any (same_thing (NumberOf l)) things ≡ false
    another l other = ap (λ b. b || false) (ne_eqb l life.number other)

    the_frame : list_any (same_thing (FrameOf f)) things ≡ true
    the_frame = ap (λ b. b || false) (eq-eqb f f refl)

    a_frame : (g : ℕ) → g ≢ f → list_any (same_thing (FrameOf g)) things ≡ false
    a_frame g other = ap (λ b. b || false) (ne_eqb g f other)

    stored_same : (d : ℕ) → flush_stored (e ∷ t) d ≡ flush_stored t d
    stored_same d = elim (cases_eq d c) [
      | inl own ↦ flush_stored-own d e t own
      | inr other ↦ flush_stored-other d e t other
    ]

    -- all words but the clock and those that the call holds say what they said
    same : (w : Word) → w ≢ ClockAt → marked_by setup t w ≢ Some c → SameFor s s' (times_of setup t) (times_of setup (e ∷ t)) w
    same (EntryAt g i) no_clock bare = record {
      frames = ap (λ l. l.frames) limits;
      frame = frames g;
      place = ap (λ y. y.place g i) now;
      stamp = stamp_stays (PlaceOf g i) refl;
    }
    same (FrameAt g) no_clock bare = frames g
    same (CountAt g d) no_clock bare = tt
    same (CoreAt d) no_clock bare = record { inside = decided-inside (Some r) (phase t c) s c d; exit = plain_exit t e refl d }
    same (FlushAt d) no_clock bare = stored_same d
    same (LiveAt l) no_clock bare = elim (cases_eq l life.number) [
      | inl is ↦ absurd (bare (ap (λ (n : ℕ). marked_by setup t (LiveAt n)) is ∙ own_mark))
      | inr other ↦ record { number = there l other; stamp = stamp_stays (NumberOf l) (another l other) }
    ]
    same ClockAt no_clock bare = absurd (no_clock refl)

    stays : (w : Word) → w ≢ ClockAt → marked_by setup t w ≢ Some c → StaysSaid setup cores t e w
    stays w no_clock bare = word_stays s s' (times_of setup t) (times_of setup (e ∷ t)) w (settled setup (held_by cores) t w)
        (same w no_clock bare)

    -- the number's word stands for the dead one
    small : x < 2 ^ 43
    small = clock_small setup setting cores t stands

    stored_fits : LiveFits (LiveWord.Dead life.epoch now_at)
    stored_fits =
        let fits = (calls.fits setup setting cores t stands c here a active f by (Draw life word) stage_is has).at in
        let some = stands.some_time in
        let low = small in
        (fits.1, fits.2, omega (arith, drawn_is, some), omega (arith, drawn_is, low))

    number_now : WordIs s' (times_of setup (e ∷ t)) at stored
    number_now = subst (λ y. NumberIs y (stamp setup (e ∷ t) (NumberOf life.number)) (live_of_word stored)) (sym dead_here)
        (record {
          drawn = (let some = stands.some_time in let is = stamp_begins (NumberOf life.number) itself in omega arith);
          says = lives.spelling.reads (LiveWord.Dead life.epoch now_at) stored_fits ∙ ap (λ (n : ℕ). Some (LiveWord.Dead life.epoch n))
              (drawn_is ∙ sym (stamp_begins (NumberOf life.number) itself));
        })

    -- what it makes of the counts
    still : (w : Word) → (holds after).marks w ≡ (holds (cores c)).marks w
    still w = ap (λ b. if same_word w at then true else b) (same_marks (Some (Some now_at)) None a.counts w) ∙ sym (before w).0

    number_small : life.number < 64
    number_small = (calls.fits setup setting cores t stands c here a active f by (Draw life word) stage_is has).at.0

    falls : (g : ℕ) → refs s' g + times g fs ≡ refs s g
    falls g =
        let names : times g (number_names (s.number life.number)) ≡ times g fs = ap (λ y. times g (number_names y)) number_live in
        let none : times g (number_names (Dead life.epoch)) ≡ times g [] = refl in
        let one = number_refs s life.number (Dead life.epoch) g number_small in
        let two = grace_refs (with_number s life.number (Dead life.epoch)) graces g in
        let three = counted_refs (with_grace (with_number s life.number (Dead life.epoch)) graces) c g in
        let four : refs s' g ≡ refs killed g = ap (λ y. refs y g) now in
        omega (arith, names, none, one, two, three, four)

    few : length (dues_of (negsuc 0) fs) ≤ 1
    few = omega arith

    drawn_small : later 0 (Some now_at) < 2 ^ 43
    drawn_small = let low = small in let is = drawn_is in omega arith

    no_count : (g d : ℕ) → CountAt g d ≢ ClockAt
    no_count g d h = cc

    kept : (g : ℕ) → times g fs ≡ 0 → (refs s' g ≡ refs s g) × (stamp setup (e ∷ t) (FrameOf g) ≡ stamp setup t (FrameOf g))
    kept g none = ((let less = falls g in omega arith), stamp_stays (FrameOf g) (a_frame g apart))
      where
        apart : g ≢ f
        apart is = let one : times g fs ≡ 1 = ap (λ (n : ℕ). times n fs) is ∙ once f in omega arith

    changes : (g : ℕ) → times g fs ≡ 1
        → (pos (refs s' g) ≡ pos (refs s g) +ℤ negsuc 0) × (stamp setup (e ∷ t) (FrameOf g) ≡ max (stamp setup t (FrameOf g))
        (later 0 (Some now_at)))
    changes g one = (
      one_less (refs s g) (refs s' g) (let less = falls g in omega arith),
      ap (λ (n : ℕ). stamp setup (e ∷ t) (FrameOf n)) its ∙ stamp_begins (FrameOf f) the_frame
          ∙ latest (stamp setup t (FrameOf g)) (stands.graces (FrameOf g)).past,
    )
      where
        its : g ≡ f
        its = elim (cases_eq g f) [
          | inl is ↦ is
          | inr other ↦ absurd (let none = never g f other in omega arith)
        ]

        latest : (y : ℕ) → y < x → x ≡ max y (max 0 now_at)
        latest y past = let is = drawn_is in omega arith

    commits : (w : Word) → (held_counts None).marks w ≡ true
        → WordIs s' (times_of setup (e ∷ t)) w ((held_counts (Some (Some now_at))).stands w)
    commits = counts_commit setup setting cores t stands c here a active (negsuc 0) (Some now_at) drawn_small fs few
        has.knows.all (AddOf ClockAt 1) r after still
        (λ g d. before (CountAt g d)) (λ g d. refl) alike refl refl no_count

    held_now : (w : Word) → marked_by setup t w ≡ Some c → WordIs s' (times_of setup (e ∷ t)) w ((holds after).stands w)
    held_now w mark = elim (cases_word w at) [
      | inl is ↦ subst (λ v. WordIs s' (times_of setup (e ∷ t)) v ((holds after).stands v)) (sym is)
          (subst (WordIs s' (times_of setup (e ∷ t)) at) (sym (ap
          (λ b. if b then stored else (held_counts (Some (Some now_at))).stands at) (same_same at))) number_now)
      | inr other ↦ subst (WordIs s' (times_of setup (e ∷ t)) w)
          (sym (ap (λ b. if b then stored else (held_counts (Some (Some now_at))).stands w) (same_word-other w at other)))
          (commits w (sym (ap (λ b. if b then true else (held_counts None).marks w) (same_word-other w at other)) ∙ sym (before w).0 ∙
          (stands.marks w c).owned mark))
    ]

    -- the places of the name are gone
    gone : HasReached (e ∷ t) c (ways s c (rule_of s c a.call))
    gone = all_ways s c (own_pages s c) (e ∷ t) (plan_for a.call) (rule_of s c a.call) a.found
        (calls.by_plan setup setting cores t stands c here a active f by (Draw life word) stage_is has)
        (leads_by (λ n wanted q. HasFound setup t c (own_in (cores c).own.table n) wanted q)
        (λ n wanted q. LeadsIn s c n wanted q × HasReached (e ∷ t) c (way_to s c (own s c n)))
        own_gone (plan_for a.call).names [] a.found has.names)
        (subst (λ y. HasReached (e ∷ t) c (ways s c y))
        (sym (calls.left setup setting cores t stands c here a active f by (Draw life word) stage_is has))
        (All-nil (λ (y : Slot). IsSome (own_left (e ∷ t) c (EntryAt y.node y.index)))))
      where
        own_gone : (n : ℕ) (wanted : Want) (q : Capability) → HasFound setup t c (own_in (cores c).own.table n) wanted q
            → LeadsIn s c n wanted q × HasReached (e ∷ t) c (way_to s c (own s c n))
        own_gone n wanted q had = (
          found_named setup t c (cores c).own.table n wanted q (stands.each c here).works.table had,
          subst (λ y. HasReached (e ∷ t) c (way_to s c y)) (own_is s c (cores c).own.table n (stands.each c here).works.table)
              (way_gone setup t (e ∷ t) c (own_in (cores c).own.table n) had.at had.way.reached
              (λ m d h. own_kept t e c refl refl _ (had.way.stepped m d h))),
        )

    permitted : MayReply s c a.call r
    permitted = (
      not_spent setup (cores c) t c (stands.each c here)
          (calls.room setup setting cores t stands c here a active f by (Draw life word) stage_is has),
      (has.acts, subst (λ y. IsFoundAnd y (λ z. z.value ≡ Value.Nothing)) (sym change) refl),
    )

    draw_at : GoodTook setup cores t c (AddOf ClockAt 1) (landed a (drawn_dead life now_at))
    draw_at lands = drawing.draws_on setup setting cores t stands c here a active r stage made
        (kill_raises a.call a.found f has.knows.knows.kills) lands still
        (λ g i. counts_bare (Some (Some now_at)) a.counts g i ∙ sym (ap (λ h. h.bare g i)
        (ap holds_in active ∙ ap (λ stage. holds_at stage a.counts) stage_is) ∙ counts_bare None a.counts g i))
        opens refl alike (inl (kill_types a.call a.found f has.knows.knows.kills)) grows works
        no_flush stays held_now
        (counts_sum setup setting cores t stands c here a active (negsuc 0) (Some now_at) drawn_small fs few has.knows.all
        (AddOf ClockAt 1) r after still
        (λ g d. before (CountAt g d)) (λ g d. refl) alike refl refl no_count (ap (λ l. l.cores) limits) kept changes)
        (record { call = a.call; is_open = is_open; permitted = permitted; justified = gone })
        (λ is_alone. ok_first s c a.call Value.Nothing permitted)
        (record {
          numbers = kill_numbers a.call a.found f has.knows.knows.kills;
          footprint = was_stays (IsInFootprint c a.call at) setup t e c (λ own. refl)
              (was_here (IsInFootprint c a.call at) setup t c a.call is_open
              (calls.number_footprint setup setting cores t stands c here a active f by (Draw life word) stage_is has life.number
              has.knows.knows.at.has_life.number));
        })

  drawn : drawn_stamp x ≡ x
  drawn = let low = clock_small setup setting cores t stands in let some = stands.some_time in omega arith

  pub draw_good : GoodTook setup cores t c (AddOf ClockAt 1) (landed a (drawn_dead life (drawn_stamp x)))
  draw_good = draw_at (drawn_stamp x) drawn

-- The step of a killing.
pub killing_good : (setup : Setting) → IsSetting setup
    → (cores : ℕ → Core) (t : Trace) → Invariant setup cores t → (c : ℕ) → c < setup.cores
    → (a : ActiveCall) → (cores c).active ≡ Some a → (f by : ℕ) (at : KillingAt)
    → a.stage ≡ Undecided (Act (kill_act (record { comp = f; core = by; at = at })))
    → KnowsUndecided setup t c (cores c).own.table a (Act (kill_act (record { comp = f; core = by; at = at })))
    → GoodTook setup cores t c (killing_at f by at)
    (landed a (took_killing_at (record { comp = f; core = by; at = at }) at
    (told_of (killing_at f by at) (last_left setup t (word_of (killing_at f by at))))))
killing_good setup setting cores t stands c here a active f by LoadComp is has =
    load_comp_good setup setting cores t stands c here a active f by is has
killing_good setup setting cores t stands c here a active f by (LoadLive life) is has =
    load_live_good setup setting cores t stands c here a active f by life is has
killing_good setup setting cores t stands c here a active f by (Close life word) is has =
    close_good setup setting cores t stands c here a active f by life word is has
killing_good setup setting cores t stands c here a active f by (Draw life word) is has =
    draw_good setup setting cores t stands c here a active f by life word is has

-- The store of the word of a number that was killed.
module _ (setup : Setting) (setting : IsSetting setup) (cores : ℕ → Core) (t : Trace) (stands : Invariant setup cores t) (c : ℕ)
    (here : c < setup.cores)
    (a : ActiveCall) (active : (cores c).active ≡ Some a) (r : Reply) (drawn : Option ℕ) (life : CompWord) (x : ℕ)
    (stage_is : a.stage ≡ Decided r drawn (StoreDead life x)) (has : KnowsDead setup t c a.call life) where
  abbrev dead_at : Word
  dead_at = LiveAt life.number

  abbrev dead_word : ℕ
  dead_word = word_of_live (LiveWord.Dead life.epoch x)

  abbrev store : Move
  store = StoreOf dead_at dead_word

  abbrev rest : Holding
  rest = holds_counts (done_by r drawn) a.counts

  holds_is : (w : Word)
      → ((holds (cores c)).marks w ≡ (if same_word w dead_at then true else rest.marks w)) ×
      ((holds (cores c)).stands w ≡ (if same_word w dead_at then dead_word else rest.stands w))
  holds_is w = (
    ap (λ h. h.marks w) (ap holds_in active ∙ ap (λ stage. holds_at stage a.counts) stage_is),
    ap (λ h. h.stands w) (ap holds_in active ∙ ap (λ stage. holds_at stage a.counts) stage_is),
  )

  its_mark : marked_by setup t dead_at ≡ Some c
  its_mark = (stands.marks dead_at c).kept ((holds_is dead_at).0 ∙ ap (λ b. if b then true else rest.marks dead_at) (same_same dead_at))

  settles : settled setup (held_by cores) t dead_at ≡ dead_word
  settles = ap (λ o. settled_by o (held_by cores) dead_at (last_left setup t dead_at)) its_mark ∙ (holds_is dead_at).1
      ∙ ap (λ b. if b then dead_word else rest.stands dead_at) (same_same dead_at)

  says : IsSpelled dead_word
  says = spelled ((state_after setup t).number life.number) (stamp setup t (NumberOf life.number)) dead_word
      (subst (λ (n : ℕ). NumberIs ((state_after setup t).number life.number) (stamp setup t (NumberOf life.number)) (live_of_word n))
      settles (stands.words dead_at))

  some_inj : (n m : ℕ) → Some n ≡ Some m → n ≡ m
  some_inj n m h = cc

  pub dead_good : GoodTook setup cores t c store (GoesOn (went_with a a.counts (Decided r drawn Nothing)))
  dead_good lands =
      let next : ActiveCall = went_with a a.counts (Decided r drawn Nothing) in
      let e : Step = inner setup setting cores t stands c here a active store None None in
      let after : Core = core_in_call (cores c) (cores c).own.made next in
      counters.holds_on setup setting cores t stands c here a active store next (λ b. refl) (λ h. cc) refl
      (record { moves = has.numbers; footprint = inr has.footprint }) lands says.small
      (λ w there. (
        sym ((holds_is w).0 ∙ ap (λ b. if b then true else rest.marks w) (same_word-other w dead_at there)),
        sym ((holds_is w).1 ∙ ap (λ b. if b then dead_word else rest.stands w) (same_word-other w dead_at there)),
      ))
      (as_none (holds (cores c)) (holds after) dead_at
      (λ f i. ap (λ h. h.bare f i) (ap holds_in active ∙ ap (λ stage. holds_at stage a.counts) stage_is)
      ∙ counts_bare (done_by r drawn) a.counts f i) (counts_bare (done_by r drawn) a.counts))
      (says.unmarked ∙ sym (ap (λ b. if b then Some c else None) (no_number (done_by r drawn) a.counts life.number)))
      (λ b other is. other (sym (some_inj c b (sym its_mark ∙ is))))
      (ap (λ b. settled_by (if b then Some c else None) (held_by (put cores c after)) dead_at dead_word)
      (no_number (done_by r drawn) a.counts life.number) ∙ sym settles)
      (ap (phase_at a.call) stage_is)
      (λ carries. tt)
      (counts_on setup t e c a.call (λ own. refl) a.counts (call_is setup setting cores t stands c here a active).counts)
      (call_is setup setting cores t stands c here a active).apart
      (spares_other setup t e (λ g i h. cc)) (exclusive_elsewhere cores e (λ g i h. cc))
