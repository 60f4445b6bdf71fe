-- The steps of the making of a component from its number on: the compare that marks it, the stores of the words, a compare of the target
-- that is lost; and the store that gives the number's word back.
use Rattle.scan_invariant.specs.step_ways.proofs.{◌≡◌, ◌≤◌, Bool, true, false, Option, Some, None, refl, ℕ, ◌<◌, ◌^◌, arith, ◌≢◌, ◌+◌, sym}
use Rattle.scan_invariant.specs.step_ways.proofs.{ltb as nat_lt, ◌&&◌, ◌∷◌, ◌++◌, ap, ◌∙◌, subst, IsTrue, inl, inr, ◌⊎◌, eqb-true}
use Rattle.scan_invariant.specs.step_ways.proofs.{eqb-false, ltb-false, eq-eqb, Setting, IsSetting, left_if, Reply, word_of_entry}
use Rattle.scan_invariant.specs.step_ways.proofs.{same_same, left_of, Move, StoreOf, CompareOf, EntryAt, FrameAt, LiveAt, put_same, rule_of}
use Rattle.scan_invariant.specs.step_ways.proofs.{Blank, Kernel, State, put, PlaceOf, same_word-other, last_left-here, last_left-there}
use Rattle.scan_invariant.specs.step_ways.proofs.{own_read-there, changes_in_frame, marked_by, mark_in_frame, live_mark, stamp, Trace, Open}
use Rattle.scan_invariant.specs.step_ways.proofs.{phase, state_after, Step, last_left, own_pages, Unmark, StoreLive, Act, GoesOn, landed}
use Rattle.scan_invariant.specs.step_ways.proofs.{went_with, went, Core, ActiveCall, Undecided, Decided, names_on, counts_on, spot_on}
use Rattle.scan_invariant.specs.step_ways.proofs.{holds_counts, Holding, settled_by, settled, keeps, phase_at, KnowsUndecided, KnowsUnmark}
use Rattle.scan_invariant.specs.step_ways.proofs.{KnowsComp, KnowsCompAt, holds_at, holds_in, Invariant, done_by, holds, held_by}
use Rattle.scan_invariant.specs.step_ways.proofs.{holds_comp, IsFrameWord, comp_dues, comp_due_list, CompMaking, CompAt, live_of_word}
use Rattle.scan_invariant.specs.step_ways.proofs.{word_of_live, LiveWord, as_none, counts_bare, may_keep, not_exclusive_word}
use Rattle.scan_invariant.specs.step_ways.proofs.{exclusive_elsewhere, if◌then◌else◌, ◌==◌, ◌||◌, Make as make_call, MakeComp as comp_act}
use Rattle.scan_invariant.specs.step_ways.proofs.{spares_other, IsOfCall, core_in_call, inner, call_is, GoodTook, ticks_at, raced_leaving}
use Rattle.scan_invariant.specs.step_ways.proofs.{plan_for, Entry}
use Rattle.scan_invariant.specs.count_invariant.proofs.{footprint_way, blank_left, IsCompCall, makes_comp_on, comp_changes, comp_argument}
use Rattle.scan_invariant.specs.act_states.specs.{CompMakingFits, comp_goes, CompAtFits, comp_word_at, closes_number, comp_published}
use Rattle.scan_invariant.specs.core_invariant.specs.{SaysBlank, MayTake, KnowsLive}
use Rattle.scan_invariant.specs.kernel_history.specs.{changes_numbers, IsSlot}
use Rattle.scan_invariant.specs.frame_words.specs.{LiveFits, word_of_comp}
use Rattle.scan_invariant.specs.step_ways.proofs.{Good.spares_blank, Writes.stores_on}
use Rattle.scan_invariant.specs.core_invariant.specs.Acting.{TakesNumber, HasWords}
use Rattle.scan_invariant.specs.place_invariant.proofs.Fills.{target_way, changes_node}
use Rattle.scan_invariant.specs.act_states.specs.declared.comps.CompAt.TheVariants.{Close, Store, Fill}
use Rattle.scan_invariant.specs.count_invariant.proofs.CompCounts.{comp_places, comp_numbers, comp_footprint}
use Rattle.{scan_invariant.specs.count_invariant.proofs.number_footprint, std.proofs.lemmas.Bool.cases_eq}
use Rattle.{scan_invariant.specs.plan_ways.proofs.Ways.next_on_way, scan_invariant.specs.plan_ways.specs.Laws.NextPlace}
use Rattle.{scan_invariant.specs.kept_facts.proofs.Carries.takes_on, scan_invariant.specs.act_states.specs.Comps.comp_stored}
use Rattle.{scan_invariant.specs.act_states.specs.declared.comps.LastEpoch.LastEpoch}
use Rattle.{state_laws.specs.spk_nums.specs.declared.calls.Make.Make, comp_invariant.proofs.CompNumbers.no_number}
use Rattle.state_laws.specs.spk_nums.specs.declared.kinds.Obj.TheVariants as obj
use Rattle.state_laws.specs.spk_nums.specs.declared.replies.Reply.TheVariants as reply
use Rattle.scan_invariant.specs.frame_words.proofs.FrameLemmas as frames
use Rattle.scan_invariant.specs.act_states.specs.declared.refusals.Refusal.TheVariants as refusal
use Rattle.scan_invariant.specs.step_ways.proofs.Counting as counting
use Rattle.comp_invariant.proofs.CompCalls as calls
use Rattle.state_laws.specs.kernel_rules.specs.Rules as rules
use Rattle.scan_invariant.specs.frame_words.proofs.LiveLemmas as lives
use Rattle.scan_invariant.specs.frame_words.proofs.CompLemmas as comps

none_some : (d : ℕ) → None ≡ Some d → ⊥
none_some d h = cc

small_word : (w : ℕ) (v : LiveWord) → live_of_word w ≡ Some v → w < 2 ^ 64
small_word w v shown =
    let spells = lives.spelling.spells w v shown in subst (λ (n : ℕ). n < 2 ^ 64) spells.1 (lives.spelling.small v spells.0)

-- The compare that marks the number's word.
module _ (setup : Setting) (setting : IsSetting setup) (cores : ℕ → Core) (t : Trace) (stands : Invariant setup cores t) (c : ℕ)
    (here : c < setup.cores)
    (a : ActiveCall) (active : (cores c).active ≡ Some a) (m : CompMaking) (stage_is : a.stage ≡ Undecided (Act (comp_act m)))
    (has : KnowsUndecided setup t c (cores c).own.table a (Act (comp_act m))) (word : ℕ) (last : LastEpoch)
    (at_is : m.at ≡ Close word last) where
  abbrev s : State
  s = state_after setup t

  abbrev l : ℕ
  l = m.number

  abbrev knows : KnowsComp setup t c a.call (plan_for a.call) a.found setup.cores m
  knows = has.knows.knows

  abbrev was : ℕ
  was = last_left setup t (LiveAt l)

  abbrev closing : ℕ
  closing = word_of_live (LiveWord.Closing last.epoch m.core)

  abbrev close_it : Move
  close_it = CompareOf (LiveAt l) last.word closing

  at_knows : KnowsCompAt setup t c m (Close word last)
  at_knows = subst (KnowsCompAt setup t c m) at_is knows.at

  is : IsCompCall a.call a.found m
  is = calls.is setup setting cores t stands c here a active m stage_is has

  opens : phase_at a.call a.stage ≡ Open a.call
  opens = ap (phase_at a.call) stage_is

  is_open : phase t c ≡ Open a.call
  is_open = (call_is setup setting cores t stands c here a active).phase ∙ opens

  room : (cores c).own.made < (cores c).own.limit
  room = calls.room setup setting cores t stands c here a active m stage_is has

  held_is : holds_in (Some a) ≡ keeps (FrameAt m.frame) word (holds_counts None a.counts)
  held_is = ap (λ stage. holds_at stage a.counts) stage_is ∙ ap (λ x. holds_comp m x (holds_counts None a.counts)) at_is

  left : KnowsUnmark a.call m.frame word
  left = blank_left m.frame word a.call (comp_changes a.call a.found m is) (comp_argument a.call a.found m is) at_knows.0

  close_of_call : IsOfCall setup t c a.call close_it
  close_of_call = record {
    moves = subst (λ x. IsTrue (changes_numbers x)) (sym is.call_is) refl;
    footprint = inl (number_footprint a.call a.found m is s c);
  }

  close_lost : (was == last.word) ≡ false → GoodTook setup cores t c close_it (landed a (closes_number m word last false))
  close_lost other =
      raced_leaving setup setting cores t stands c here a active opens (Unmark m.frame word) (sym held_is) (λ e. left) room close_it
      (record { of_call = close_of_call; kept = kept; apart = λ d. refl }) (ap ticks_at stage_is)
      (record {
        at = tt;
        reads = eq-eqb (left_of close_it was) was kept;
        own = last.word;
        has_read = at_knows.1.own;
        changed = eqb-false was last.word other;
      })
    where
      kept : left_of close_it was ≡ was
      kept = ap (λ b. left_if b was closing) other

  module _ (equal : (was == last.word) ≡ true) where
    same : was ≡ last.word
    same = eqb-true was last.word equal

    leaves : left_of close_it was ≡ closing
    leaves = ap (λ b. left_if b was closing) equal

    unmarked_by : (o : Option LiveWord) → MayTake setup t c l last.epoch setup.cores o → live_mark o ≡ None
    unmarked_by None may = absurd may
    unmarked_by (Some LiveWord.Free) may = refl
    unmarked_by (Some (LiveWord.Live d f)) may = refl
    unmarked_by (Some (LiveWord.Closing d b)) may = absurd may
    unmarked_by (Some (LiveWord.Dead d x)) may = refl

    bare : marked_by setup t (LiveAt l) ≡ None
    bare = ap (λ (n : ℕ). live_mark (live_of_word n)) same ∙ unmarked_by (live_of_word last.word) at_knows.1.takes.may

    by_fits : LiveFits (LiveWord.Closing last.epoch m.core)
    by_fits = (
      (let low = at_knows.1.takes.more in let most = (calls.fits_in setup setting cores t stands c here a active m stage_is has).epochs in
          omega (arith, low, most)),
      (let below : c < setup.cores = here in let most = setting.most_cores in let own = knows.core in omega (arith, below, most, own)),
    )

    abbrev now_at : CompAt
    now_at = Store word last 0

    abbrev next : ActiveCall
    next = went a (Undecided (Act (comp_act (record m { at = now_at }))))

    abbrev after : Core
    after = core_in_call (cores c) (cores c).own.made next

    abbrev before_held : Holding
    before_held = keeps (FrameAt m.frame) word (holds_counts None a.counts)

    held_before : holds (cores c) ≡ before_held
    held_before = ap holds_in active ∙ held_is

    marks_number : (holds after).marks (LiveAt l) ≡ true
    marks_number = ap (λ b. if b then true else before_held.marks (LiveAt l)) (same_same (LiveAt l))

    close_won : GoodTook setup cores t c close_it (GoesOn next)
    close_won lands =
        let e : Step = inner setup setting cores t stands c here a active close_it None None in
        counting.holds_on setup setting cores t stands c here a active close_it next (λ b. refl) (λ h. cc) refl close_of_call lands
        (subst (λ (n : ℕ). n < 2 ^ 64) (sym leaves) (lives.spelling.small (LiveWord.Closing last.epoch m.core) by_fits))
        (λ w there. (
          ap (λ b. if b then true else before_held.marks w) (same_word-other w (LiveAt l) there) ∙ sym (ap (λ h. h.marks w) held_before),
          ap (λ b. if b then last.word else before_held.stands w) (same_word-other w (LiveAt l) there)
              ∙ sym (ap (λ h. h.stands w) held_before),
        ))
        (as_none (holds (cores c)) (holds after) (LiveAt l) (λ g i. ap (λ h. h.bare g i) held_before ∙ counts_bare None a.counts g i)
        (counts_bare None a.counts))
        (ap (λ (n : ℕ). live_mark (live_of_word n)) leaves
        ∙ ap live_mark (lives.spelling.reads (LiveWord.Closing last.epoch m.core) by_fits)
        ∙ ap (λ (n : ℕ). Some n) knows.core ∙ sym (ap (λ b. if b then Some c else None) marks_number))
        (λ b other is. none_some b (sym bare ∙ is))
        (ap (λ b. settled_by (if b then Some c else None) (held_by (put cores c after)) (LiveAt l) (left_of close_it was)) marks_number
        ∙ ap (λ k. (holds k).stands (LiveAt l)) (put_same cores c after c refl)
        ∙ ap (λ b. if b then last.word else before_held.stands (LiveAt l)) (same_same (LiveAt l))
        ∙ sym same ∙ sym (ap (λ o. settled_by o (held_by cores) (LiveAt l) was) bare))
        opens
        (λ carries. record {
          acts = has.acts;
          names = names_on setup setting t e stands.legal c a.call is_open carries (cores c).own.table (plan_for a.call) a.found has.names;
          knows = record {
            knows = record {
              spot = spot_on setup setting t e stands.legal c a.call is_open carries (plan_for a.call) a.found setup.cores m.fill.node
                  m.fill.entry
                  m.fill.word (own_read-there c e t refl (EntryAt m.fill.node m.fill.entry) (λ h. cc)) knows.spot;
              makes = makes_comp_on a.call a.found m now_at knows.makes;
              core = knows.core;
              epochs = knows.epochs;
              cap = knows.cap;
              at = (
                at_knows.0,
                takes_on setup setting t e stands.legal c a.call is_open carries l m.epochs last at_knows.1.takes,
                record { stored = λ i none. absurd (omega (arith, none)) },
              );
            };
            all = ap (comp_dues m) (sym at_is) ∙ has.knows.all;
            goes = refl;
          };
        })
        (counts_on setup t e c a.call (λ own. refl) a.counts (call_is setup setting cores t stands c here a active).counts)
        (call_is setup setting cores t stands c here a active).apart
        (spares_other setup t e (λ g i h. cc)) (exclusive_elsewhere cores e (λ g i h. cc))

  pub close_good : GoodTook setup cores t c close_it (landed a (closes_number m word last (was == last.word)))
  close_good = by_test (was == last.word) refl
    where
      by_test : (equal : Bool) → (was == last.word) ≡ equal
          → GoodTook setup cores t c close_it (landed a (closes_number m word last equal))
      by_test true won = close_won won
      by_test false lost = close_lost lost

-- Where both are marked.
module _ (setup : Setting) (setting : IsSetting setup) (cores : ℕ → Core) (t : Trace) (stands : Invariant setup cores t) (c : ℕ)
    (here : c < setup.cores)
    (a : ActiveCall) (active : (cores c).active ≡ Some a) (m : CompMaking) (stage_is : a.stage ≡ Undecided (Act (comp_act m)))
    (has : KnowsUndecided setup t c (cores c).own.table a (Act (comp_act m))) (word : ℕ) (last : LastEpoch)
    (held_both : holds_in (Some a) ≡ keeps (LiveAt m.number) last.word (keeps (FrameAt m.frame) word (holds_counts None a.counts)))
    (says : SaysBlank word) where
  abbrev st : State
  st = state_after setup t

  holds_both : holds (cores c) ≡ keeps (LiveAt m.number) last.word (keeps (FrameAt m.frame) word (holds_counts None a.counts))
  holds_both = ap holds_in active ∙ held_both

  pub frame_marked : (holds (cores c)).marks (FrameAt m.frame) ≡ true
  frame_marked = ap (λ h. h.marks (FrameAt m.frame)) holds_both
      ∙ ap (λ b. if b then true else (holds_counts None a.counts).marks (FrameAt m.frame)) (same_same (FrameAt m.frame))

  pub frame_stands : (holds (cores c)).stands (FrameAt m.frame) ≡ word
  frame_stands = ap (λ h. h.stands (FrameAt m.frame)) holds_both
      ∙ ap (λ b. if b then word else (holds_counts None a.counts).stands (FrameAt m.frame)) (same_same (FrameAt m.frame))

  pub number_marked : (holds (cores c)).marks (LiveAt m.number) ≡ true
  number_marked = ap (λ h. h.marks (LiveAt m.number)) holds_both
      ∙ ap (λ b. if b then true else (keeps (FrameAt m.frame) word (holds_counts None a.counts)).marks (LiveAt m.number))
      (same_same (LiveAt m.number))

  pub number_stands : (holds (cores c)).stands (LiveAt m.number) ≡ last.word
  number_stands = ap (λ h. h.stands (LiveAt m.number)) holds_both
      ∙ ap (λ b. if b then last.word else (keeps (FrameAt m.frame) word (holds_counts None a.counts)).stands (LiveAt m.number))
      (same_same (LiveAt m.number))

  pub still_blank : st.frame m.frame ≡ Kernel Blank
  still_blank = calls.blank setup setting cores t stands c here a active m stage_is has word frame_marked frame_stands says

  pub still_marked : marked_by setup t (FrameAt m.frame) ≡ Some c
  still_marked = calls.own_mark setup setting cores t stands c here a active m stage_is has word frame_marked frame_stands says

-- The store of a word.
module _ (setup : Setting) (setting : IsSetting setup) (cores : ℕ → Core) (t : Trace) (stands : Invariant setup cores t) (c : ℕ)
    (here : c < setup.cores)
    (a : ActiveCall) (active : (cores c).active ≡ Some a) (m : CompMaking) (stage_is : a.stage ≡ Undecided (Act (comp_act m)))
    (has : KnowsUndecided setup t c (cores c).own.table a (Act (comp_act m))) (word : ℕ) (last : LastEpoch) (n : ℕ)
    (at_is : m.at ≡ Store word last n) where
  abbrev now : State
  now = state_after setup t

  abbrev f : ℕ
  f = m.frame

  abbrev node : ℕ
  node = m.fill.node

  abbrev index : ℕ
  index = m.fill.entry

  abbrev words : ℕ → ℕ
  words = comp_word_at m (last.epoch + 1)

  abbrev store : Move
  store = StoreOf (EntryAt f n) (words n)

  abbrev e : Step
  e = inner setup setting cores t stands c here a active store None None

  abbrev known : KnowsComp setup t c a.call (plan_for a.call) a.found setup.cores m
  known = has.knows.knows

  at_store : KnowsCompAt setup t c m (Store word last n)
  at_store = subst (KnowsCompAt setup t c m) at_is known.at

  fits_in : CompMakingFits (cores c).own.layout m
  fits_in = calls.fits_in setup setting cores t stands c here a active m stage_is has

  at_fits : CompAtFits (cores c).own.layout (Store word last n)
  at_fits = subst (CompAtFits (cores c).own.layout) at_is fits_in.at

  of : IsCompCall a.call a.found m
  of = calls.is setup setting cores t stands c here a active m stage_is has

  opens_now : phase_at a.call a.stage ≡ Open a.call
  opens_now = ap (phase_at a.call) stage_is

  open_now : phase t c ≡ Open a.call
  open_now = (call_is setup setting cores t stands c here a active).phase ∙ opens_now

  held_store : holds_in (Some a) ≡ keeps (LiveAt m.number) last.word (keeps (FrameAt f) word (holds_counts None a.counts))
  held_store = ap (λ stage. holds_at stage a.counts) stage_is ∙ ap (λ x. holds_comp m x (holds_counts None a.counts)) at_is

  blank : now.frame f ≡ Kernel Blank
  blank = still_blank setup setting cores t stands c here a active m stage_is has word last held_store at_store.0

  own_mark : marked_by setup t (FrameAt f) ≡ Some c
  own_mark = still_marked setup setting cores t stands c here a active m stage_is has word last held_store at_store.0

  apart : f ≢ node
  apart = calls.apart setup setting cores t stands c here a active m stage_is has word
      (frame_marked setup setting cores t stands c here a active m stage_is has word last held_store at_store.0)
      (frame_stands setup setting cores t stands c here a active m stage_is has word last held_store at_store.0) at_store.0

  same_frame : (g i : ℕ) → EntryAt f n ≡ EntryAt g i → f ≡ g
  same_frame g i h = cc

  same_index : (g i : ℕ) → EntryAt g i ≡ EntryAt f n → i ≡ n
  same_index g i h = cc

  -- the words of a component are words
  word_small : words n < 2 ^ 64
  word_small = by (n == 0) (n == 1)
    where
      few : setup.frames ≤ 512
      few = setting.most_frames

      frames_are : (cores c).own.layout.frames ≡ setup.frames
      frames_are = ap (λ x. x.frames) (stands.each c here).shape

      by : (zero one : Bool) → (if zero then m.table else (if one then m.pages
          else word_of_comp (record { number = m.number; epoch = last.epoch + 1 }))) < 2 ^ 64
      by true one = let low = fits_in.table in omega (arith, low, few, frames_are)
      by false true = let low = fits_in.pages in omega (arith, low, few, frames_are)
      by false false = comps.spelling.small (record { number = m.number; epoch = last.epoch + 1 })
          (fits_in.number, omega arith, at_fits.0)

  stored_holds : (b : Bool) → holds_comp m (if b then Store word last (n + 1) else Fill word last) (holds_counts None a.counts)
      ≡ keeps (LiveAt m.number) last.word (keeps (FrameAt f) word (holds_counts None a.counts))
  stored_holds true = refl
  stored_holds false = refl

  stored_dues : (b : Bool) → comp_dues m (if b then Store word last (n + 1) else Fill word last) ≡ comp_due_list m
  stored_dues true = refl
  stored_dues false = refl

  stored_knows : (u : Trace) → TakesNumber setup u c m.number m.epochs last → HasWords setup u f words (n + 1)
      → (b : Bool) → nat_lt n 2 ≡ b → KnowsCompAt setup u c m (if b then Store word last (n + 1) else Fill word last)
  stored_knows u takes has_words true low = (at_store.0, takes, has_words)
  stored_knows u takes has_words false high =
      (at_store.0, takes, record { stored = λ i below. has_words.stored i (let q = ltb-false n 2 high in omega (arith, q, below)) })

  abbrev next_at_is : CompAt
  next_at_is = comp_stored word last n

  pub store_good : GoodTook setup cores t c store (landed a (comp_goes m (comp_stored word last n)))
  store_good lands =
      stores_on setup setting cores t stands c here a active store a.found
      (Undecided (Act (comp_act (record m { at = comp_stored word last n }))))
      (calls.no_mark setup setting cores t stands c here a active m stage_is has word
      (frame_marked setup setting cores t stands c here a active m stage_is has word last held_store at_store.0)
      (frame_stands setup setting cores t stands c here a active m stage_is has word last held_store at_store.0) at_store.0 n)
      (ap (λ x. mark_in_frame x n (words n)) blank)
      word_small
      (record {
        moves = subst (λ x. IsTrue (changes_in_frame x (now.frame f))) (sym of.call_is)
            (ap (changes_in_frame (make_call (Make.Comp of.x of.p m.number) of.name f of.root of.slot)) blank);
        footprint = inl (comp_footprint a.call a.found m of now c);
      })
      (λ b. refl) (λ h. cc) (λ g b h. cc) lands
      (stored_holds (nat_lt n 2) ∙ sym held_store) (not_exclusive_word setup cores t stands f n (ap may_keep blank)) opens_now
      (subst (λ x. IsFrameWord now.limits.frames x (now.place f n) (stamp setup t (PlaceOf f n)) n (words n))
      (sym blank) tt)
      (spares_blank setup t e f n refl blank own_mark)
      (λ carries. record {
        acts = has.acts;
        names = names_on setup setting t e stands.legal c a.call open_now carries (cores c).own.table (plan_for a.call) a.found has.names;
        knows = record {
          knows = record {
            spot = spot_on setup setting t e stands.legal c a.call open_now carries (plan_for a.call) a.found setup.cores node index
                m.fill.word
                (own_read-there c e t refl (EntryAt node index) (λ h. apart (same_frame node index (sym h)))) known.spot;
            makes = makes_comp_on a.call a.found m (comp_stored word last n) known.makes;
            core = known.core;
            epochs = known.epochs;
            cap = known.cap;
            at = stored_knows (e ∷ t) (takes_on setup setting t e stands.legal c a.call open_now carries m.number m.epochs last at_store.1)
                (record { stored = now_stored }) (nat_lt n 2) refl;
          };
          all = stored_dues (nat_lt n 2) ∙ ap (comp_dues m) (sym at_is) ∙ has.knows.all;
          goes = refl;
        };
      })
    where
      now_stored : (i : ℕ) → i < n + 1 → last_left setup (e ∷ t) (EntryAt f i) ≡ words i
      now_stored i below = elim (cases_eq i n) [
        | inl same ↦ ap (λ (j : ℕ). last_left setup (e ∷ t) (EntryAt f j)) same ∙ last_left-here setup (EntryAt f n) e t refl
            ∙ ap words (sym same)
        | inr other ↦ last_left-there setup (EntryAt f i) e t (λ h. other (same_index f i h))
            ∙ at_store.2.stored i (omega (arith, below, other))
      ]

-- The compare of the target, where it is lost.
module _ (setup : Setting) (setting : IsSetting setup) (cores : ℕ → Core) (t : Trace) (stands : Invariant setup cores t) (c : ℕ)
    (here : c < setup.cores)
    (a : ActiveCall) (active : (cores c).active ≡ Some a) (m : CompMaking) (stage_is : a.stage ≡ Undecided (Act (comp_act m)))
    (has : KnowsUndecided setup t c (cores c).own.table a (Act (comp_act m))) (word : ℕ) (last : LastEpoch)
    (at_is : m.at ≡ Fill word last) where
  abbrev st_now : State
  st_now = state_after setup t

  abbrev put_it : Move
  put_it = CompareOf (EntryAt m.fill.node m.fill.entry) m.fill.word (word_of_entry (Entry.Held m.fill.cap))

  abbrev found_there : ℕ
  found_there = last_left setup t (EntryAt m.fill.node m.fill.entry)

  abbrev so : KnowsComp setup t c a.call (plan_for a.call) a.found setup.cores m
  so = has.knows.knows

  pub at_fill : KnowsCompAt setup t c m (Fill word last)
  at_fill = subst (KnowsCompAt setup t c m) at_is so.at

  call_of : IsCompCall a.call a.found m
  call_of = calls.is setup setting cores t stands c here a active m stage_is has

  pub held_fill : holds_in (Some a) ≡ keeps (LiveAt m.number) last.word (keeps (FrameAt m.frame) word (holds_counts None a.counts))
  held_fill = ap (λ stage. holds_at stage a.counts) stage_is ∙ ap (λ x. holds_comp m x (holds_counts None a.counts)) at_is

  pub put_of_call : IsOfCall setup t c a.call put_it
  put_of_call = record {
    moves = changes_node a.call (st_now.frame m.fill.node) (comp_places a.call a.found m call_of)
        (calls.in_node setup setting cores t stands c here a active m stage_is has);
    footprint = inl (footprint_way st_now c a.call m.fill.node m.fill.entry
        (next_on_way st_now c (own_pages st_now c) (plan_for a.call) (rule_of st_now c a.call)
        a.found
        (calls.by_plan setup setting cores t stands c here a active m stage_is has)
        (calls.leads setup setting cores t stands c here a active m stage_is has) so.spot.target m.fill.node m.fill.entry
        (subst (λ x. NextPlace st_now c x so.spot.target) (sym so.spot.next) refl)
        (target_way st_now c so.spot.target (record { node = m.fill.node; index = m.fill.entry }) so.spot.way.reached)));
  }

  spelled : (o : Option LiveWord) → live_of_word last.word ≡ o → MayTake setup t c m.number last.epoch setup.cores o
      → (live_mark o ≡ None) × (last.word < 2 ^ 64)
  spelled None shown may = absurd may
  spelled (Some LiveWord.Free) shown may = (refl, small_word last.word LiveWord.Free shown)
  spelled (Some (LiveWord.Live d f)) shown may = absurd may
  spelled (Some (LiveWord.Closing d b)) shown may = absurd may
  spelled (Some (LiveWord.Dead d x)) shown may = (refl, small_word last.word (LiveWord.Dead d x) shown)

  pub gives_back : (e : Step) → KnowsLive setup (e ∷ t) c a.call m.number last.word m.frame word
  gives_back e = record {
    numbers = comp_numbers a.call a.found m call_of;
    footprint = inl (number_footprint a.call a.found m call_of (state_after setup (e ∷ t)) c);
    bare = (spelled (live_of_word last.word) refl at_fill.1.may).0;
    small = (spelled (live_of_word last.word) refl at_fill.1.may).1;
    unmark = blank_left m.frame word a.call (comp_changes a.call a.found m call_of) (comp_argument a.call a.found m call_of) at_fill.0;
  }

  pub put_lost : (found_there == m.fill.word) ≡ false → GoodTook setup cores t c put_it (landed a (comp_published m word last false))
  put_lost other =
      raced_leaving setup setting cores t stands c here a active (ap (phase_at a.call) stage_is)
      (StoreLive m.number last.word m.frame word) (sym held_fill) gives_back
      (calls.room setup setting cores t stands c here a active m stage_is has) put_it
      (record { of_call = put_of_call; kept = kept; apart = λ d. refl }) (ap ticks_at stage_is)
      (record {
        at = inl (subst (λ o. IsSlot o m.fill.node m.fill.entry)
            (sym (calls.target_slot setup setting cores t stands c here a active m stage_is has)) (refl, refl));
        reads = eq-eqb (left_of put_it found_there) found_there kept;
        own = m.fill.word;
        has_read = so.spot.own;
        changed = eqb-false found_there m.fill.word other;
      })
    where
      kept : left_of put_it found_there ≡ found_there
      kept = ap (λ b. left_if b found_there (word_of_entry (Entry.Held m.fill.cap))) other

-- The store that gives the number's word back; then the frame's is still to be stored.
module _ (setup : Setting) (setting : IsSetting setup) (cores : ℕ → Core) (t : Trace) (stands : Invariant setup cores t) (c : ℕ)
    (here : c < setup.cores)
    (a : ActiveCall) (active : (cores c).active ≡ Some a) (r : Reply) (drawn : Option ℕ) (l live f word : ℕ)
    (stage_is : a.stage ≡ Decided r drawn (StoreLive l live f word)) (has : KnowsLive setup t c a.call l live f word) where
  abbrev give_back : Move
  give_back = StoreOf (LiveAt l) live

  abbrev rest : Holding
  rest = keeps (FrameAt f) word (holds_counts (done_by r drawn) a.counts)

  was_held : holds (cores c) ≡ keeps (LiveAt l) live rest
  was_held = ap holds_in active ∙ ap (λ stage. holds_at stage a.counts) stage_is

  its_mark : marked_by setup t (LiveAt l) ≡ Some c
  its_mark = (stands.marks (LiveAt l) c).kept (ap (λ h. h.marks (LiveAt l)) was_held
      ∙ ap (λ b. if b then true else rest.marks (LiveAt l)) (same_same (LiveAt l)))

  its_value : settled setup (held_by cores) t (LiveAt l) ≡ live
  its_value = ap (λ o. settled_by o (held_by cores) (LiveAt l) (last_left setup t (LiveAt l))) its_mark
      ∙ ap (λ h. h.stands (LiveAt l)) was_held ∙ ap (λ b. if b then live else rest.stands (LiveAt l)) (same_same (LiveAt l))

  some_inj : (x y : ℕ) → Some x ≡ Some y → x ≡ y
  some_inj x y h = cc

  pub give_live_good : GoodTook setup cores t c give_back (GoesOn (went_with a a.counts (Decided r drawn (Unmark f word))))
  give_live_good lands =
      let next : ActiveCall = went_with a a.counts (Decided r drawn (Unmark f word)) in
      let e : Step = inner setup setting cores t stands c here a active give_back None None in
      let after : Core = core_in_call (cores c) (cores c).own.made next in
      counting.holds_on setup setting cores t stands c here a active give_back next (λ b. refl) (λ h. cc) refl
      (record { moves = has.numbers; footprint = inr has.footprint }) lands has.small
      (λ w there. (
        sym (ap (λ h. h.marks w) was_held ∙ ap (λ b. if b then true else rest.marks w) (same_word-other w (LiveAt l) there)),
        sym (ap (λ h. h.stands w) was_held ∙ ap (λ b. if b then live else rest.stands w) (same_word-other w (LiveAt l) there)),
      ))
      (as_none (holds (cores c)) (holds after) (LiveAt l)
      (λ g i. ap (λ h. h.bare g i) was_held ∙ counts_bare (done_by r drawn) a.counts g i)
      (counts_bare (done_by r drawn) a.counts))
      (has.bare ∙ sym (ap (λ b. if b then Some c else None) (no_number (done_by r drawn) a.counts l)))
      (λ b other is. other (sym (some_inj c b (sym its_mark ∙ is))))
      (ap (λ b. settled_by (if b then Some c else None) (held_by (put cores c after)) (LiveAt l) live)
      (no_number (done_by r drawn) a.counts l) ∙ sym its_value)
      (ap (phase_at a.call) stage_is)
      (λ carries. has.unmark)
      (counts_on setup t e c a.call (λ own. refl) a.counts (call_is setup setting cores t stands c here a active).counts)
      (call_is setup setting cores t stands c here a active).apart
      (spares_other setup t e (λ g i h. cc)) (exclusive_elsewhere cores e (λ g i h. cc))
