-- The store of the core's own thread as claimed is good: no other core has marked or keeps its word, and the core holds it then.
use Rattle.thread_invariant.specs.step_ways.proofs as low
use low.{◌≡◌, ◌≢◌, ◌<◌, ◌≤◌, ◌+◌, ◌^◌, inl, inr, ℕ, length, true, false, if◌then◌else◌, Some, None, IsTrue, arith, refl, sym, ◌∙◌, ap}
use low.{subst, Setting, IsSetting, ThreadFits, word_of_thread, thread_of_word, Idle, Running, Word, EntryAt, same_word, Move, StoreOf}
use low.{same_same, State, put, thread_in, fits, put_same, thread_mark, marked_by, thread_value, Step, Trace, state_after, last_left}
use low.{same_word-other, Switching, Act, Undecided, ActiveCall, landed, went, Core, Holding, holds_counts, settled_by, KnowsUndecided}
use low.{holds, holds_in, held_by, Invariant, claimed_by, as_none, counts_bare, none_kept, names_on, counts_on, exclusive_free, runs_on_own}
use low.{Claimed as ClaimedOf, Switch as switch_act, core_in_call, inner, call_is, GoodTook, plan_for, Kind}
use Rattle.thread_invariant.specs.core_invariant.specs.{holds_idle, is_claimed}
use Rattle.thread_invariant.specs.act_states.specs.declared.switches.SwitchAt.TheVariants.{Leave, Draw}
use Rattle.thread_invariant.proofs.EntryMarks.{counts_apart, thread_unmarked}
use Rattle.switch_invariant.proofs.{Claims.not_kept, Claims.spares_thread, ThreadWords.first_mark, ThreadWords.none_some}
use Rattle.switch_invariant.proofs.{ThreadWords.same_some, Tops.apart_own, Words.no_keeper, Words.plain_says}
use Rattle.{std.proofs.lemmas.Bool.cases_eq, thread_invariant.specs.tcap_words.specs.declared.thread_word.ThreadWord.TheVariants.Claimed}
use Rattle.{thread_invariant.specs.act_states.specs.Switches.switch_goes}
use Rattle.thread_invariant.specs.tcap_words.proofs.ThreadLemmas as words
use Rattle.thread_invariant.specs.step_ways.proofs.Counting as counters
use Rattle.switch_invariant.proofs.Calls as calls

module _ (setup : Setting) (setting : IsSetting setup) (cores : ℕ → Core) (t : Trace) (stands : Invariant setup cores t) (c : ℕ)
    (here : c < setup.cores)
    (a : ActiveCall) (active : (cores c).active ≡ Some a) (m : Switching) (stage_is : a.stage ≡ Undecided (Act (switch_act m)))
    (has : KnowsUndecided setup t c (cores c).own.table a (Act (switch_act m))) (to : ClaimedOf) (table pages : ℕ)
    (is : m.at ≡ Leave to table pages) where
  abbrev s : State
  s = state_after setup t

  abbrev at : Word
  at = EntryAt m.old 0

  abbrev new : Word
  new = EntryAt to.thread 0

  abbrev was : ℕ
  was = last_left setup t (EntryAt m.old 0)

  abbrev running_word : ℕ
  running_word = word_of_thread (Running m.core m.old_depth)

  abbrev claimed_word : ℕ
  claimed_word = word_of_thread (Claimed m.core m.old_depth)

  abbrev store : Move
  store = StoreOf (EntryAt m.old 0) (word_of_thread (Claimed m.core m.old_depth))

  abbrev rest : Holding
  rest = holds_counts None a.counts

  own : IsTrue (fits Kind.Thread (s.frame m.old))
  own = calls.own_thread setup setting cores t stands c here a active m stage_is has

  held_is : holds (cores c) ≡ holds_idle to.thread to.depth (holds_counts None a.counts)
  held_is = ap holds_in active ∙ calls.held_at setup setting cores t stands c here a active m stage_is has (Leave to table pages) is

  there : EntryAt m.old 0 ≢ EntryAt to.thread 0
  there same = apart_own setup setting cores t stands c here a active m stage_is has (ap is_claimed is)
      (ap claimed_by is ∙ same_frame to.thread m.old (sym same))
    where
      same_frame : (f g : ℕ) → EntryAt f 0 ≡ EntryAt g 0 → f ≡ g
      same_frame f g h = cc

  mine : (holds (cores c)).marks (EntryAt m.old 0) ≡ false
  mine = ap (λ h. h.marks at) held_is ∙ ap (λ b. if b then true else rest.marks at) (same_word-other at new there)
      ∙ counts_apart None a.counts m.old 0

  bare : marked_by setup t (EntryAt m.old 0) ≡ None
  bare = subst (λ (g : ℕ). marked_by setup t (EntryAt g 0) ≡ None) (sym has.knows.knows.leaves.thread)
      (thread_unmarked setup setting cores t stands c here 0
      (subst (λ (g : ℕ). (holds (cores c)).marks (EntryAt g 0) ≡ false) has.knows.knows.leaves.thread mine))

  runs : (thread_in (s.frame m.old)).runs_on ≡ Some c
  runs = ap (λ (g : ℕ). (thread_in (s.frame g)).runs_on) has.knows.knows.leaves.thread ∙ runs_on_own setup setting cores t stands c here

  unkept : (d : ℕ) → (held_by cores d).bare m.old 0 ≡ None
  unkept d = elim (cases_eq d c) [
    | inl same ↦ ap (λ (n : ℕ). (held_by cores n).bare m.old 0) same
        ∙ calls.none_kept setup setting cores t stands c here a active m stage_is has m.old 0
    | inr other ↦ no_keeper setup setting cores t stands m.old own d 0 (λ theirs. other (same_some d c (sym theirs ∙ runs)))
  ]

  says : thread_of_word was ≡ Some (Running m.core m.old_depth)
  says = plain_says setup setting cores t stands m.old own 0 bare unkept
      ∙ ap (λ r. Some (thread_value r (length (thread_in (s.frame m.old)).stack))) runs
      ∙ ap (λ (n : ℕ). Some (Running n (length (thread_in (s.frame m.old)).stack))) (sym has.knows.knows.leaves.core)
      ∙ ap (λ (g : ℕ). Some (Running m.core (length (thread_in (s.frame g)).stack))) has.knows.knows.leaves.thread
      ∙ ap (λ (n : ℕ). Some (Running m.core n)) (sym has.knows.knows.leaves.depth)

  same : was ≡ running_word
  same = sym (words.spelling.spells was (Running m.core m.old_depth) says).1

  claimed_fits : ThreadFits (Claimed m.core m.old_depth)
  claimed_fits = (
    (let below : c < setup.cores = here in let most = setting.most_cores in let own_core = has.knows.knows.leaves.core in
        omega (arith, below, most, own_core)),
    (calls.fits_in setup setting cores t stands c here a active m stage_is has).old_depth,
  )

  abbrev next : ActiveCall
  next = went a (Undecided (Act (switch_act (record m { at = Draw to table pages }))))

  abbrev after : Core
  after = core_in_call (cores c) (cores c).own.made next

  marks_it : (holds after).marks (EntryAt m.old 0) ≡ true
  marks_it = ap (λ b. if b then true else if same_word at at then true else rest.marks at) (same_word-other at new there)
      ∙ ap (λ b. if b then true else rest.marks at) (same_same at)

  stands_it : (holds after).stands (EntryAt m.old 0) ≡ running_word
  stands_it = ap (λ b. if b then word_of_thread (Idle to.depth) else if same_word at at then running_word else rest.stands at)
      (same_word-other at new there) ∙ ap (λ b. if b then running_word else rest.stands at) (same_same at)

  pub leave_good : GoodTook setup cores t c store (landed a (switch_goes m (Draw to table pages)))
  leave_good lands =
      let e : Step = inner setup setting cores t stands c here a active store None None in
      let is_open = calls.is_open setup setting cores t stands c here a active m stage_is has in
      counters.holds_on setup setting cores t stands c here a active store next (λ b. refl) (λ h. cc) refl
      (record {
        moves = calls.changes_it setup setting cores t stands c here a active m stage_is has m.old own;
        footprint = inl (calls.footprint_own setup setting cores t stands c here a active m stage_is has);
      }) lands
      (words.spelling.small (Claimed m.core m.old_depth) claimed_fits)
      (λ w other. (
        ap (λ b. if same_word w new then true else if b then true else rest.marks w) (same_word-other w at other) ∙ sym
            (ap (λ h. h.marks w) held_is),
        ap (λ b. if same_word w new then word_of_thread (Idle to.depth) else if b then running_word else rest.stands w)
            (same_word-other w at other) ∙ sym (ap (λ h. h.stands w) held_is),
      ))
      (as_none (holds (cores c)) (holds after) at (calls.none_kept setup setting cores t stands c here a active m stage_is has)
      (counts_bare None a.counts))
      (first_mark (s.frame m.old) claimed_word own
      ∙ ap thread_mark (words.spelling.reads (Claimed m.core m.old_depth) claimed_fits)
      ∙ ap (λ (n : ℕ). Some n) has.knows.knows.leaves.core ∙ sym (ap (λ b. if b then Some c else None) marks_it))
      (λ b other mark. none_some b (sym bare ∙ mark))
      (ap (λ b. settled_by (if b then Some c else None) (held_by (put cores c after)) at claimed_word) marks_it
      ∙ ap (λ k. (holds k).stands at) (put_same cores c after c refl) ∙ stands_it
      ∙ sym same ∙ sym (ap (λ o. settled_by o (held_by cores) at was) bare ∙ none_kept 8 (held_by cores) m.old 0 was unkept))
      (calls.opens setup setting cores t stands c here a active m stage_is has)
      (λ carries. record {
        acts = has.acts;
        names = names_on setup setting t e stands.legal c a.call is_open carries (cores c).own.table (plan_for a.call) a.found has.names;
        knows = record {
          knows = calls.carried setup setting cores t stands c here a active m stage_is has store (Draw to table pages)
              (sym (ap claimed_by is))
              (calls.known_at setup setting cores t stands c here a active m stage_is has (Leave to table pages) is);
          all = calls.dues_at setup setting cores t stands c here a active m stage_is has (Leave to table pages) is;
          goes = refl;
        };
      })
      (counts_on setup t e c a.call (λ own. refl) a.counts (call_is setup setting cores t stands c here a active).counts)
      (call_is setup setting cores t stands c here a active).apart
      (spares_thread setup t e m.old 0 refl own)
      (exclusive_free cores e (not_kept cores m.old 0 unkept))
