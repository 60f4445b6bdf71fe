-- The ways in which a core makes a step that writes its word: a decided call writes an entry; a call enters or leaves, and the
-- core's own word is stored.
use Rattle.kept_facts.proofs.{◌≡◌, ◌≢◌, ℕ, zero, suc, ◌+◌, ◌-◌, ◌*◌, ◌^◌, ◌<◌, ◌≤◌, Bool, true, false, if◌then◌else◌, List, [], ◌∷◌, Option}
use Rattle.kept_facts.proofs.{Some, None, arith, refl, sym, ◌∙◌, ap, subst, inl, inr, eq-eqb, Capability, InLimits, Setting, IsSetting}
use Rattle.kept_facts.proofs.{Call, Reply, core_of_word, Word, EntryAt, CountAt, CoreAt, same_word, FlushAt, ClockAt, Move, StoreOf}
use Rattle.kept_facts.proofs.{word_of, left_of, FrameOf, put, alone, put_same, Step, Trace, Out, Open, phase, after_decide, state_after}
use Rattle.kept_facts.proofs.{last_left, IsAlone, IsFirst, MayDecide, MayFollow, mark_of, clock, exit_of, decided-inside, phase-own}
use Rattle.kept_facts.proofs.{steps_in_call-own, last_left-there, Stage, Leave, ActiveCall, Core, fresh, marked_by, WordIs, limits_of}
use Rattle.kept_facts.proofs.{phase_at, KnowsAt, Knows, IsCount, CallIs, WorksIn, CoreIs, flushing_in, is_done, holds_at, holds_in, holds}
use Rattle.kept_facts.proofs.{held_by, times_of, counted_in, SumIs, Invariant, marks_own, settled_on, ReadsAlike, reads_alike, StaysSaid}
use Rattle.kept_facts.proofs.{word_stays, carry_marks, carry_words, sums_stay, counts_bare, exclusive_open, exclusive_none, exclusive_free}
use Rattle.kept_facts.proofs.{exclusive_elsewhere, count_of, holds_counts, settled, Acquired, CountsAt, IsCalm, calm_words, counted_rises}
use Rattle.kept_facts.proofs.{none_stored, IsUntimed, plain_time, plain_exit, BeginsNone, plain_begins, exclusive_still, none_time}
use Rattle.kept_facts.specs.kernel_history.specs.{sum_below, Decided, bound_of, steps_in_call, IsLeave}
use Rattle.kept_facts.proofs.{WordFrames.write_marks, WordFrames.write_words, Exclusive.keeps_there, Calm.calm_returned, Calm.calm_own}
use Rattle.step_ways.proofs.Good.{IsGood, SparesBlanks, spares_other}
use Rattle.step_ways.proofs.Users.{SparesBy, spared, spares_none}
use Rattle.step_ways.proofs.Loads.{Lands, IsOfCall, step_to, next_at, core_in_call, some_left, core_is, call_is, in_call, inner}
use Rattle.step_ways.proofs.Loads.{inner_within, inner_disciplined, inner_footprint, inner_works, inner_own, is_active}
use Rattle.{kept_facts.proofs.calm_same, kept_facts.specs.core_invariant.specs.is_flushing, kept_facts.specs.core_invariant.specs.nothing}
use Rattle.{kept_facts.specs.core_invariant.proofs.IsNotKept, kept_facts.specs.core_invariant.proofs.free_value}
use Rattle.{kept_facts.specs.kernel_history.proofs.exit_of-own, kept_facts.specs.kernel_history.proofs.exit_of-other}
use Rattle.{kept_facts.specs.trace_laws.proofs.Carries.Carries, kept_facts.specs.trace_laws.proofs.Carries.carries_own}
use Rattle.{std.proofs.lemmas.Bool.cases_eq, std.proofs.lemmas.List.Elements.All-nil, kept_facts.specs.call_stages.specs.Steps.core_word}
use Rattle.{kept_facts.specs.frame_words.proofs.CoreLemmas.spelling, kept_facts.specs.kernel_rules.specs.GracePeriods.returned}
use Rattle.{kept_facts.specs.kernel_history.proofs.Inside.inside-own, kept_facts.specs.kernel_history.proofs.Inside.inside-other}
use Rattle.{kept_facts.proofs.Calm.plain_flushed, step_ways.proofs.Flushing.still_flushed, step_ways.proofs.Flushing.open_flushed}

-- The clock fits a stamp: each stamp was drawn by a call that was counted.

sum_most : (f : ℕ → ℕ) (n : ℕ) → ((i : ℕ) → i < n → f i ≤ 2 ^ 40 - 1) → sum_below f n ≤ n * (2 ^ 40 - 1)
unfolding sum_below
sum_most f zero most = omega arith
sum_most f (suc n) most = let a = sum_most f n (λ i h. most i (omega arith)) in let b = most n (omega arith) in omega arith

made_most : (setup : Setting) (cores : ℕ → Core) (t : Trace) → Invariant setup cores t → (c : ℕ) → c < setup.cores
    → ((state_after setup t).core c).counted ≤ 2 ^ 40 - 1
made_most setup cores t stands c here =
    let is = stands.each c here in
    let made = is.works.made in
    let most = is.fits.own.made in
    let limit = is.fits.own.most_calls in
    omega arith

pub clock_small : (setup : Setting) → IsSetting setup → (cores : ℕ → Core) (t : Trace) → Invariant setup cores t → clock setup t < 2 ^ 43
clock_small setup setting cores t stands =
    let most = sum_most (λ c. ((state_after setup t).core c).counted) setup.cores (made_most setup cores t stands) in
    let draws = stands.draws in
    let few = setting.most_cores in
    omega arith

-- The word of a core reads as what was stored.
pub core_reads : (inside : Bool) (stamp : ℕ) → stamp < 2 ^ 43
    → core_of_word (core_word inside stamp) ≡ Some (record { inside = inside; stamp = stamp })
core_reads inside stamp small = spelling.reads (record { inside = inside; stamp = stamp }) small

pub core_small : (inside : Bool) (stamp : ℕ) → stamp < 2 ^ 43 → core_word inside stamp < 2 ^ 64
core_small inside stamp small = spelling.small (record { inside = inside; stamp = stamp }) small

none_some : (d : ℕ) → None ≡ Some d → ⊥
none_some d h = cc

-- An entry is no core's word, and nor is a count.
no_entry_word : (f i c : ℕ) → CoreAt c ≡ EntryAt f i → ⊥
no_entry_word f i c h = cc

count_apart : (f d c : ℕ) → CountAt f d ≢ CoreAt c
count_apart f d c h = cc

-- What counts are held does not depend on whether the call is carried out.
pub same_marks : (fate fate' : Option (Option ℕ)) (xs : List Acquired) (w : Word)
    → (holds_counts fate xs).marks w ≡ (holds_counts fate' xs).marks w
same_marks fate fate' [] w = refl
same_marks fate fate' (x ∷ xs) w = ap (λ b. if same_word w (count_of x) then true else b) (same_marks fate fate' xs w)

module _ (setup : Setting) (setting : IsSetting setup) (cores : ℕ → Core) (t : Trace) (stands : Invariant setup cores t) (c : ℕ)
    (here : c < setup.cores) where
  -- A decision that writes a word, which carried no mark and carries none. The words that the call holds it holds still, and each stands
  -- for what the call will store there. The step may change the state in any part, so long as what is said of each other word holds of it.
  module _ (a : ActiveCall) (active : (cores c).active ≡ Some a) where
    pub decides_writing : (move : Move) (made : ℕ) (r : Reply) (found : List Capability) (stage : Stage)
        → marked_by setup t (word_of move) ≡ None
        → mark_of (state_after setup t) (word_of move) (left_of move (last_left setup t (word_of move))) ≡ None
        → left_of move (last_left setup t (word_of move)) < 2 ^ 64 → IsOfCall setup t c a.call move
        → Lands setup (core_in_call (cores c) made (next_at a found stage)) (word_of move)
        → phase_at a.call a.stage ≡ Open a.call → phase_at a.call stage ≡ Decided a.call r
        → ((w : Word) → (holds_at stage a.counts).marks w ≡ (holds_in (Some a)).marks w)
        → ((f i : ℕ) → (holds_at stage a.counts).bare f i ≡ (holds_in (Some a)).bare f i)
        → IsNotKept (held_by cores) (word_of move)
        → (let e : Step = inner setup setting cores t stands c here a active move (Some r) None in
        ReadsAlike setup t e → BeginsNone setup t e → SparesBlanks setup t e → SparesBy setup t e a.call
        → counted_in setup (state_after setup t) ≤ counted_in setup (state_after setup (e ∷ t))
        → WorksIn (record (cores c).own { made = made }) (state_after setup (e ∷ t)) c
        → ((w : Word) → w ≢ word_of move → marked_by setup t w ≢ Some c → StaysSaid setup cores t e w)
        → WordIs (state_after setup (e ∷ t)) (times_of setup (e ∷ t)) (word_of move) (left_of move (last_left setup t (word_of move)))
        → ((w : Word) → marked_by setup t w ≡ Some c
        → WordIs (state_after setup (e ∷ t)) (times_of setup (e ∷ t)) w ((holds_at stage a.counts).stands w))
        → ((f : ℕ) → SumIs setup (held_by (put cores c (core_in_call (cores c) made (next_at a found stage)))) (e ∷ t) f)
        → MayDecide setup t e (Some r) (phase t c)
        → (IsAlone t e → r ≡ alone (state_after setup t) c a.call)
        → Knows setup (e ∷ t) c (cores c).own.table (next_at a found stage)
        → IsGood setup cores t e (core_in_call (cores c) made (next_at a found stage)))
    decides_writing move made r found stage was now small of_call lands
        opens closes same_held same_bare not_exclusive alike plain blanks counted rises
        works same
        new commits sums may first knows =
        let e : Step = inner setup setting cores t stands c here a active move (Some r) None in
        let after : Core = core_in_call (cores c) made (next_at a found stage) in
        let still : (w : Word) → (holds after).marks w ≡ (holds (cores c)).marks w =
        λ w. same_held w ∙ ap (λ o. (holds_in o).marks w) (sym active) in
        let bares : (f i : ℕ) → (holds after).bare f i ≡ (holds (cores c)).bare f i =
        λ f i. same_bare f i ∙ ap (λ o. (holds_in o).bare f i) (sym active) in
        let marks = carry_marks setup cores t e after still alike was now stands.marks in
        record {
          follows = record {
            is_core = here;
            is_in = lands.is_in;
            found = refl;
            small = small;
            enters = tt;
            in_call = in_call setup setting cores t stands c here a active;
            decides = may;
            returns = tt;
          };
          within = inner_within setup setting cores t stands c here a active move (Some r) None;
          alone = λ is_alone. subst (IsFirst setup t e (Some r))
              (sym ((call_is setup setting cores t stands c here a active).phase ∙ opens)) (first is_alone);
          disciplined = inner_disciplined setup setting cores t stands c here a active move (Some r) None of_call
              (marks_own setup cores t e after (λ w there. still w) stands.marks marks)
              (λ d m other. absurd (none_some d (sym was ∙ m)));
          footprint = inner_footprint setup setting cores t stands c here a active move (Some r) None of_call;
          blanks = blanks;
          counted = spared setup t e a.call ((call_is setup setting cores t stands c here a active).phase ∙ opens) counted;
          marks = marks;
          words = carry_words setup cores t e after still alike was now bares
              (λ x. free_value (held_by cores) (word_of move) x not_exclusive) same new commits stands.words;
          exclusive = exclusive_open setup cores t e after a a.call active opens (λ f i v kept. sym (bares f i) ∙ kept);
          spares = exclusive_free cores e not_exclusive;
          sums = sums;
          draws = (let d = stands.draws in let b = plain.same in let g = rises in omega arith);
          time = none_time setup t e plain;
          leaves = tt;
          own = inner_own setup setting cores t stands c here a active move (Some r) None refl plain made found stage
              (λ done. open_flushed a.call a.stage opens) lands.fits works
              (ap (after_decide (Some r)) opens ∙ sym closes) knows;
        }

    -- The call holds its counts, and nothing else.
    pub writes_on : (move : Move) (made : ℕ) (r : Reply) (found : List Capability) (stage : Stage)
        → marked_by setup t (word_of move) ≡ None
        → mark_of (state_after setup t) (word_of move) (left_of move (last_left setup t (word_of move))) ≡ None
        → left_of move (last_left setup t (word_of move)) < 2 ^ 64 → IsOfCall setup t c a.call move
        → Lands setup (core_in_call (cores c) made (next_at a found stage)) (word_of move)
        → phase_at a.call a.stage ≡ Open a.call → phase_at a.call stage ≡ Decided a.call r
        → holds_at stage a.counts ≡ holds_counts (is_done stage) a.counts
        → IsNotKept (held_by cores) (word_of move)
        → (let e : Step = inner setup setting cores t stands c here a active move (Some r) None in
        ReadsAlike setup t e → BeginsNone setup t e → SparesBlanks setup t e → SparesBy setup t e a.call
        → counted_in setup (state_after setup t) ≤ counted_in setup (state_after setup (e ∷ t))
        → WorksIn (record (cores c).own { made = made }) (state_after setup (e ∷ t)) c
        → ((w : Word) → w ≢ word_of move → marked_by setup t w ≢ Some c → StaysSaid setup cores t e w)
        → WordIs (state_after setup (e ∷ t)) (times_of setup (e ∷ t)) (word_of move) (left_of move (last_left setup t (word_of move)))
        → holds_in (Some a) ≡ holds_counts None a.counts
        → ((w : Word) → marked_by setup t w ≡ Some c
        → WordIs (state_after setup (e ∷ t)) (times_of setup (e ∷ t)) w ((holds_counts (is_done stage) a.counts).stands w))
        → ((f : ℕ) → SumIs setup (held_by (put cores c (core_in_call (cores c) made (next_at a found stage)))) (e ∷ t) f)
        → MayDecide setup t e (Some r) (phase t c)
        → (IsAlone t e → r ≡ alone (state_after setup t) c a.call)
        → Knows setup (e ∷ t) c (cores c).own.table (next_at a found stage)
        → IsGood setup cores t e (core_in_call (cores c) made (next_at a found stage)))
    writes_on move made r found stage was now small of_call lands opens
        closes bare_stage not_exclusive alike plain blanks counted rises works same new
        held
        commits sums may first knows =
        let e : Step = inner setup setting cores t stands c here a active move (Some r) None in
        decides_writing move made r found stage was now small of_call lands opens closes
        (λ w. ap (λ h. h.marks w) bare_stage ∙ same_marks (is_done stage) None a.counts w ∙ sym (ap (λ h. h.marks w) held))
        (λ f i. ap (λ h. h.bare f i) bare_stage ∙ counts_bare (is_done stage) a.counts f i
        ∙ sym (ap (λ h. h.bare f i) held ∙ counts_bare None a.counts f i)) not_exclusive
        alike plain blanks counted rises works same new
        (λ w own. subst (λ h. WordIs (state_after setup (e ∷ t)) (times_of setup (e ∷ t)) w (h.stands w)) (sym bare_stage) (commits w own))
        sums may first knows

    -- It writes an entry, and changes the place alone.
    pub writes_entry : (move : Move) (node index made : ℕ) (r : Reply) (found : List Capability) (stage : Stage)
        → word_of move ≡ EntryAt node index
        → marked_by setup t (EntryAt node index) ≡ None
        → mark_of (state_after setup t) (EntryAt node index) (left_of move (last_left setup t (EntryAt node index))) ≡ None
        → left_of move (last_left setup t (EntryAt node index)) < 2 ^ 64 → IsOfCall setup t c a.call move
        → Lands setup (core_in_call (cores c) made (next_at a found stage)) (word_of move)
        → phase_at a.call a.stage ≡ Open a.call → phase_at a.call stage ≡ Decided a.call r
        → holds_at stage a.counts ≡ holds_counts (is_done stage) a.counts
        → IsNotKept (held_by cores) (EntryAt node index)
        → (let e : Step = inner setup setting cores t stands c here a active move (Some r) None in
        IsCalm (state_after setup t) (state_after setup (e ∷ t)) c → IsUntimed setup t e → SparesBlanks setup t e
        → made ≡ ((state_after setup (e ∷ t)).core c).counted
        → ((g i : ℕ) → EntryAt g i ≢ EntryAt node index → (state_after setup (e ∷ t)).place g i ≡ (state_after setup t).place g i)
        → WordIs (state_after setup (e ∷ t)) (times_of setup (e ∷ t)) (EntryAt node index)
        (left_of move (last_left setup t (EntryAt node index)))
        → holds_in (Some a) ≡ holds_counts None a.counts
        → ((w : Word) → marked_by setup t w ≡ Some c
        → WordIs (state_after setup (e ∷ t)) (times_of setup (e ∷ t)) w ((holds_counts (is_done stage) a.counts).stands w))
        → ((f : ℕ) → SumIs setup (held_by (put cores c (core_in_call (cores c) made (next_at a found stage)))) (e ∷ t) f)
        → MayDecide setup t e (Some r) (phase t c)
        → (IsAlone t e → r ≡ alone (state_after setup t) c a.call)
        → Knows setup (e ∷ t) c (cores c).own.table (next_at a found stage)
        → IsGood setup cores t e (core_in_call (cores c) made (next_at a found stage)))
    writes_entry move node index made r found stage at was now small of_call lands opens closes bare_stage not_exclusive calm plain blanks
        counts places
        new
        held commits sums may first knows =
        let e : Step = inner setup setting cores t stands c here a active move (Some r) None in
        writes_on move made r found stage (ap (marked_by setup t) at ∙ was)
        (ap (λ w. mark_of (state_after setup t) w (left_of move (last_left setup t w))) at ∙ now)
        (subst (λ w. left_of move (last_left setup t w) < 2 ^ 64) (sym at) small) of_call lands opens closes bare_stage
        (subst (IsNotKept (held_by cores)) (sym at) not_exclusive)
        (reads_alike setup t e calm.frame) (plain_begins setup t e plain) blanks
        (inr (spares_none setup t e (λ f. plain.ends (FrameOf f)))) (counted_rises setup (state_after setup t)
        (state_after setup (e ∷ t)) c calm)
        (inner_works setup setting cores t stands c here a active move (Some r) None made calm counts)
        (λ v there free. word_stays (state_after setup t) (state_after setup (e ∷ t)) (times_of setup t) (times_of setup (e ∷ t)) v
        (settled setup (held_by cores) t v) (calm_words setup t e calm plain v (λ g i h. places g i (λ q. there (h ∙ q ∙ sym at)))
        (λ d h. (decided-inside (Some r) (phase t c) (state_after setup t) c d, plain_exit t e refl d))))
        (subst (λ w. WordIs (state_after setup (e ∷ t)) (times_of setup (e ∷ t)) w (left_of move (last_left setup t w))) (sym at) new)
        held commits sums may first knows

    -- An undecided call stores a word of which nothing is said, and which carries no mark.
    pub stores_on : (move : Move) (found : List Capability) (stage : Stage)
        → marked_by setup t (word_of move) ≡ None
        → mark_of (state_after setup t) (word_of move) (left_of move (last_left setup t (word_of move))) ≡ None
        → left_of move (last_left setup t (word_of move)) < 2 ^ 64 → IsOfCall setup t c a.call move
        → ((b : ℕ) → same_word (FlushAt b) (word_of move) ≡ false) → ClockAt ≢ word_of move
        → ((f b : ℕ) → CountAt f b ≢ word_of move)
        → Lands setup (core_in_call (cores c) (cores c).own.made (next_at a found stage)) (word_of move)
        → holds_at stage a.counts ≡ holds_in (Some a)
        → IsNotKept (held_by cores) (word_of move)
        → phase_at a.call a.stage ≡ phase_at a.call stage
        → (let e : Step = inner setup setting cores t stands c here a active move None None in
        WordIs (state_after setup t) (times_of setup t) (word_of move) (left_of move (last_left setup t (word_of move)))
        → SparesBlanks setup t e
        → (Carries setup t e c → Knows setup (e ∷ t) c (cores c).own.table (next_at a found stage))
        → IsGood setup cores t e (core_in_call (cores c) (cores c).own.made (next_at a found stage)))
    stores_on move found stage was now small of_call flushes not_clock no_count lands same not_exclusive at new blanks knows =
        let e : Step = inner setup setting cores t stands c here a active move None None in
        let after : Core = core_in_call (cores c) (cores c).own.made (next_at a found stage) in
        let still : holds after ≡ holds (cores c) = same ∙ ap holds_in (sym active) in
        let plain : IsUntimed setup t e = record {
          begins = λ x. refl;
          ends = λ x. refl;
          flushes = refl;
          apart = λ b. none_stored t c b _ (flushes b);
          same = last_left-there setup ClockAt e t not_clock;
        } in
        let follows : MayFollow setup t e = record {
          is_core = here;
          is_in = lands.is_in;
          found = refl;
          small = small;
          enters = tt;
          in_call = in_call setup setting cores t stands c here a active;
          decides = tt;
          returns = tt;
        } in
        let marks = write_marks setup cores t e after still (λ g. refl) was now stands.marks in
        record {
          follows = follows;
          within = inner_within setup setting cores t stands c here a active move None None;
          alone = λ is_alone. tt;
          disciplined = inner_disciplined setup setting cores t stands c here a active move None None of_call
              (marks_own setup cores t e after (λ w there. ap (λ h. h.marks w) still) stands.marks marks)
              (λ d m other. absurd (none_some d (sym was ∙ m)));
          footprint = inner_footprint setup setting cores t stands c here a active move None None of_call;
          blanks = blanks;
          counted = spares_none setup t e (λ f. plain.ends (FrameOf f));
          marks = marks;
          words = write_words setup cores t e after still (λ g. refl) was now
              (λ x. free_value (held_by cores) (word_of move) x not_exclusive)
              (λ v there. calm_words setup t e (calm_same (state_after setup t) c) plain v (λ g i h. refl)
              (λ d h. (refl, plain_exit t e refl d)))
              (word_stays (state_after setup t) (state_after setup (e ∷ t)) (times_of setup t) (times_of setup (e ∷ t)) (word_of move)
              (left_of move (last_left setup t (word_of move)))
              (calm_words setup t e (calm_same (state_after setup t) c) plain (word_of move) (λ g i h. refl)
              (λ d h. (refl, plain_exit t e refl d))) new) stands.words;
          exclusive = exclusive_still setup cores t stands e after (keeps_there setup cores t e after still not_exclusive) refl marks;
          spares = exclusive_free cores e not_exclusive;
          sums = sums_stay setup t e (held_by cores) (held_by (put cores c after))
              (λ f d. settled_on setup cores t e after still (λ g. refl) (CountAt f d)
              (last_left-there setup (CountAt f d) e t (no_count f d)))
              (calm_same (state_after setup t) c) plain (λ g i. refl) stands.sums;
          draws = (let d = stands.draws in let b = plain.same in omega arith);
          time = plain_time setup t e plain;
          leaves = tt;
          own = inner_own setup setting cores t stands c here a active move None None refl (plain_begins setup t e plain)
              (cores c).own.made found stage (still_flushed setup t c (cores c).own.table a stage a.counts
              (call_is setup setting cores t stands c here a active).knows (ap (λ h. h.stands (FlushAt c)) same))
              lands.fits (core_is setup setting cores t stands c here a active).works at
              (knows (carries_own setup setting t stands.legal e follows (plain_time setup t e plain) stands.graces refl refl refl));
        }

    -- The call returns: the core's word says that it is outside, with the clock that it has loaded.
    pub leaves_on : (r : Reply) (x : ℕ) → a.stage ≡ Leave r x
        → Lands setup (record { own = record (cores c).own { exit = x }; active = None }) (CoreAt c)
        → IsGood setup cores t (step_to c None (StoreOf (CoreAt c) (core_word false x)) (last_left setup t (CoreAt c)) None (Some r))
        (record { own = record (cores c).own { exit = x }; active = None })
    leaves_on r x at lands =
        let e : Step = step_to c None (StoreOf (CoreAt c) (core_word false x)) (last_left setup t (CoreAt c)) None (Some r) in
        let after : Core = record { own = record (cores c).own { exit = x }; active = None } in
        let now : CoreIs setup (cores c) t c = core_is setup setting cores t stands c here a active in
        let in_flight = call_is setup setting cores t stands c here a active in
        let leave : IsLeave setup t c x = subst (KnowsAt setup t c (cores c).own.table a) at in_flight.knows in
        let was_decided : phase t c ≡ Decided a.call r = in_flight.phase ∙ ap (phase_at a.call) at in
        let none : a.counts ≡ [] = subst (CountsAt a.counts) at (is_active setup setting cores t stands c here a active).counts in
        let still : holds after ≡ holds (cores c) = sym (ap holds_in active ∙ ap (λ s. holds_at s a.counts) at ∙ ap (holds_counts None)
        none) in
        let calm : IsCalm (state_after setup t) (state_after setup (e ∷ t)) c = calm_returned (state_after setup t) c in
        let plain : IsUntimed setup t e = record { begins = λ y. refl; ends = λ y. refl; flushes = refl; apart = λ d. refl; same = refl } in
        let out : exit_of (e ∷ t) c ≡ x = exit_of-own c e t refl ∙ leave.seen in
        let small = clock_small setup setting cores t stands in
        let low = leave.low in
        let inside : ((state_after setup (e ∷ t)).core c).inside ≡ false = inside-own setup e t c refl in
        let marks = write_marks setup cores t e after still calm.frame refl refl stands.marks in
        record {
          follows = record {
            is_core = here;
            is_in = lands.is_in;
            found = refl;
            small = core_small false x (omega arith);
            enters = tt;
            in_call = in_call setup setting cores t stands c here a active;
            decides = tt;
            returns = record { call = a.call; was_decided = was_decided };
          };
          within = inner_within setup setting cores t stands c here a active (StoreOf (CoreAt c) (core_word false x)) None (Some r);
          alone = λ is_alone. tt;
          disciplined = inner_disciplined setup setting cores t stands c here a active (StoreOf (CoreAt c) (core_word false x)) None
              (Some r) own_word
              (marks_own setup cores t e after (λ w there. ap (λ h. h.marks w) still) stands.marks marks)
              (λ d m other. absurd (none_some d m));
          footprint = inner_footprint setup setting cores t stands c here a active (StoreOf (CoreAt c) (core_word false x)) None
              (Some r) own_word;
          blanks = spares_other setup t e (λ f i h. cc);
          counted = spares_none setup t e (λ f. plain.ends (FrameOf f));
          marks = marks;
          words = write_words setup cores t e after still calm.frame refl refl (λ y. refl)
              (λ v there. calm_words setup t e calm plain v (λ g i h. refl)
              (λ d h. elim (cases_eq d c) [
                | inl own ↦ absurd (there (h ∙ ap CoreAt own))
                | inr other ↦ (inside-other setup e t d other, exit_of-other d e t other)
              ]))
              (core_reads false x (omega arith) ∙ ap (λ b. Some (record { inside = b; stamp = x })) (sym inside)
              ∙ ap (λ (y : ℕ). Some (record { inside = ((state_after setup (e ∷ t)).core c).inside; stamp = y })) (sym out))
              stands.words;
          exclusive = exclusive_none setup (e ∷ t) c after (λ f i. refl);
          spares = exclusive_elsewhere cores e (λ f i h. cc);
          sums = sums_stay setup t e (held_by cores) (held_by (put cores c after))
              (λ f d. settled_on setup cores t e after still calm.frame (CountAt f d)
              (last_left-there setup (CountAt f d) e t (count_apart f d c)))
              calm plain (λ g i. refl) stands.sums;
          draws = (let d = stands.draws in let g = counted_rises setup (state_after setup t) (state_after setup (e ∷ t)) c calm in omega
              arith);
          time = plain_time setup t e plain;
          leaves = record {
            at = x;
            knows = leave;
            stored = now.flushed (ap flushing_in active ∙ ap is_flushing at);
            no_entry = refl;
            no_decision = refl;
          };
          own = record {
            fits = lands.fits;
            number = now.number;
            shape = now.shape;
            limit = now.limit;
            epochs = now.epochs;
            works = calm_own (state_after setup t) (state_after setup (e ∷ t)) c (cores c).own after.own calm
                (ap (λ (m : ℕ). record after.own { made = m }) (counts now)) now.works;
            exit = sym out;
            flushed = λ done. plain_flushed setup t e plain c (now.flushed (ap flushing_in active ∙ ap is_flushing at));
            active = phase-own c e t refl;
          };
        }
      where
        own_word : IsOfCall setup t c a.call (StoreOf (CoreAt c) (core_word false x))
        own_word = record { moves = eq-eqb c c refl; footprint = inl tt }

        counts : CoreIs setup (cores c) t c → (cores c).own.made ≡ ((returned (state_after setup t) c).core c).counted
        counts now = now.works.made ∙ sym (ap (λ k. k.counted) (put_same (state_after setup t).core c _ c refl))

  -- A call enters, and may be decided at once: the core's word says that it is inside, with the stamp of its last exit.
  pub enters_on : (made : ℕ) (call : Call) (d : Option Reply) (stage : Stage) → (cores c).active ≡ None
      → InLimits call → Lands setup (core_in_call (cores c) made (next_at (fresh call) [] stage)) (CoreAt c) → holds_at stage [] ≡ nothing
      → after_decide d (Open call) ≡ phase_at call stage
      → (let e : Step = step_to c (Some call) (StoreOf (CoreAt c) (core_word true (cores c).own.exit)) (last_left setup t (CoreAt c)) d
      None in
      IsCalm (state_after setup t) (state_after setup (e ∷ t)) c → IsUntimed setup t e
      → made ≡ ((state_after setup (e ∷ t)).core c).counted
      → ((g i : ℕ) → (state_after setup (e ∷ t)).place g i ≡ (state_after setup t).place g i)
      → MayDecide setup t e d (Open call)
      → IsFirst setup t e d (Open call)
      → Knows setup (e ∷ t) c (cores c).own.table (next_at (fresh call) [] stage)
      → IsGood setup cores t e (core_in_call (cores c) made (next_at (fresh call) [] stage)))
  enters_on made call d stage between limits lands bare at calm plain counts places may first knows =
      let e : Step = step_to c (Some call) (StoreOf (CoreAt c) (core_word true (cores c).own.exit)) (last_left setup t (CoreAt c)) d None
      in
      let after : Core = core_in_call (cores c) made (next_at (fresh call) [] stage) in
      let now : CoreIs setup (cores c) t c = stands.each c here in
      let out : phase t c ≡ Out = subst (CallIs setup t c (cores c).own.table) between now.active in
      let still : holds after ≡ holds (cores c) = bare ∙ sym (ap holds_in between) in
      let last : exit_of (e ∷ t) c ≡ (cores c).own.exit = plain_exit t e refl c ∙ sym now.exit in
      let inside : ((state_after setup (e ∷ t)).core c).inside ≡ true = inside-own setup e t c refl in
      let small = clock_small setup setting cores t stands in
      let low = (stands.times c).exit in
      let exit = now.exit in
      let marks = write_marks setup cores t e after still calm.frame refl refl stands.marks in
      record {
        follows = record {
          is_core = here;
          is_in = lands.is_in;
          found = refl;
          small = core_small true (cores c).own.exit (omega arith);
          enters = (out, limits);
          in_call = not_out;
          decides = may;
          returns = tt;
        };
        within = record {
          call = call;
          is_of = refl;
          steps = (let most = lands.fits.active.steps in
              let left = some_left (cores c).own.layout.cores (next_at (fresh call) [] stage) stage in
              let b : steps_in_call (e ∷ t) c ≡ 1 = steps_in_call-own c e t refl in
              let g : bound_of call (cores c).own.layout.cores ≡ bound_of call setup.cores = ap (λ s. bound_of call s.cores) now.shape in
              omega arith);
        };
        alone = λ is_alone. first;
        disciplined = record {
          call = call;
          is_of = refl;
          moves = eq-eqb c c refl;
          marks = marks_own setup cores t e after (λ w there. ap (λ h. h.marks w) still) stands.marks marks;
          keeps = λ b m other. absurd (none_some b m);
        };
        footprint = record { call = call; is_of = refl; footprint = inl tt };
        blanks = spares_other setup t e (λ f i h. cc);
        counted = spares_none setup t e (λ f. plain.ends (FrameOf f));
        marks = marks;
        words = write_words setup cores t e after still calm.frame refl refl (λ y. refl)
            (λ v there. calm_words setup t e calm plain v (λ g i h. places g i)
            (λ b h. elim (cases_eq b c) [
              | inl own ↦ absurd (there (h ∙ ap CoreAt own))
              | inr other ↦ (inside-other setup e t b other, exit_of-other b e t other)
            ]))
            (core_reads true (cores c).own.exit (omega arith) ∙ ap (λ b. Some (record { inside = b; stamp = (cores c).own.exit }))
            (sym inside)
            ∙ ap (λ (y : ℕ). Some (record { inside = ((state_after setup (e ∷ t)).core c).inside; stamp = y })) (sym last))
            stands.words;
        exclusive = exclusive_none setup (e ∷ t) c after (λ f i. ap (λ h. h.bare f i) bare);
        spares = exclusive_elsewhere cores e (λ f i h. cc);
        sums = sums_stay setup t e (held_by cores) (held_by (put cores c after))
            (λ f d. settled_on setup cores t e after still calm.frame (CountAt f d)
            (last_left-there setup (CountAt f d) e t (count_apart f d c)))
            calm plain places stands.sums;
        draws = (let d = stands.draws in let b = plain.same in let g = counted_rises setup (state_after setup t)
            (state_after setup (e ∷ t)) c calm in omega arith);
        time = plain_time setup t e plain;
        leaves = tt;
        own = record {
          fits = lands.fits;
          number = now.number;
          shape = now.shape;
          limit = now.limit;
          epochs = now.epochs;
          works = calm_own (state_after setup t) (state_after setup (e ∷ t)) c (cores c).own after.own calm
              (ap (λ (m : ℕ). record (cores c).own { made = m }) counts) now.works;
          exit = sym last;
          flushed = λ done. plain_flushed setup t e plain c (now.flushed (ap flushing_in between));
          active = record {
            phase = phase-own c e t refl ∙ at;
            steps = steps_in_call-own c e t refl;
            knows = knows;
            counts = All-nil (IsCount setup (e ∷ t) c call);
            apart = tt;
          };
        };
      }
    where
      not_out : Open call ≡ Out → ⊥
      not_out h = cc
