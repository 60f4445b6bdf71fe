-- The first steps by which a call makes something in a blank kernel frame, whatever this is: the load of the frame's word, and the compare
-- that marks it. The act is what it is now, what it is where the word was found blank, and what it is once the frame is marked.
use Rattle.place_invariant.specs as low
use low.step_ways.proofs.{as_none, counts_bare, exclusive_elsewhere, ◌≡◌, Bool, true, false, Option, Some, None, refl, ℕ, ◌<◌, ◌^◌, ◌==◌}
use low.step_ways.proofs.{arith, ◌≢◌, ◌+◌, sym, [], ◌∷◌, ◌++◌, length, ap, ◌∙◌, subst, IsTrue, inl, map, eqb-true, eqb-false, eq-eqb}
use low.step_ways.proofs.{false≢true, Setting, IsSetting, left_if, Call, FrameKind, Obj, Reply, frame_of_word, FrameFits, word_of_frame}
use low.step_ways.proofs.{FrameWord, same_same, left_of, word_of, LoadOf, Move, CompareOf, FrameAt, put_same, rule_of, change_of}
use low.step_ways.proofs.{are_calls_spent, is_blank, Refused, RuleMay, Untyped, Blank, Table, Pages, User, Kernel, State, put, Leaf, Pleaf}
use low.step_ways.proofs.{Comp, Thread, Tcap, Frame, refused_first, Carries, same_word-other, own_read-here, IsAlone, changes_frames}
use low.step_ways.proofs.{footprint_frames, is_one_of, marked_by, frame_mark, frame_value, Trace, Open, phase, state_after, Step, last_left}
use low.step_ways.proofs.{Acquired, dues, next_work, refuse, Act, Goes, landed, Core, ActiveCall, Undecided, names_on, counts_on}
use low.step_ways.proofs.{holds_counts, settled_by, keeps, phase_at, due_of, KnowsUndecided, holds_at, holds_in, Invariant, holds, held_by}
use low.step_ways.proofs.{if◌then◌else◌, List, spares_other, blank_is, decides_on, step_to, OnlyLooks, next_at, loads_on, IsOfCall}
use low.step_ways.proofs.{core_in_call, inner, call_is, core_is, GoodTook, ticks_at, refuses_busy, refuses_raced, not_spent, plan_for}
use low.step_ways.proofs.{Refusal}
use low.act_states.specs.{declared.work.WorkStep.WorkStep, Map}
use low.core_invariant.specs.{blank_word}
use low.count_invariant.proofs.{knows_next, next_holds}
use low.stage_tcap.specs.{Untyped as FrameUntyped, User as FrameUser, Kernel as FrameKernel}
use low.act_states.specs.{Makings.marked}
use low.{kernel_history.specs.looks_at_frames, act_states.specs.declared.work.Act.Act as ActOf, core_invariant.specs.Acting.HasBlank}
use Rattle.place_invariant.specs.frame_words.proofs.FrameLemmas as frames
use Rattle.place_invariant.specs.step_ways.proofs.Counting as counting
use low.act_states.specs.{KeepsWord, phases_of}
use low.core_invariant.specs.{is_counting, goes_on, KnowsAct, AreDuesApart, Frozen.holds_all}

-- A call that makes an object loads and changes the word of its frame.
pub made_looks : (call : Call) → changes_frames call ≡ true → IsTrue (looks_at_frames call)
made_looks (Map p v r f w) is = absurd (false≢true is)
made_looks call is = is

-- A frame that is no kernel frame, or has an object, is not blank.
pub not_blank_by : (x : Frame) (o : Obj) → (frame_value x).object ≡ o → (o ≡ Obj.Blank → ⊥) → is_blank x ≡ false
not_blank_by (Kernel Blank) o is other = absurd (other (sym is))
not_blank_by (Kernel Table) o is other = refl
not_blank_by (Kernel Leaf) o is other = refl
not_blank_by (Kernel Pages) o is other = refl
not_blank_by (Kernel Pleaf) o is other = refl
not_blank_by (Kernel (Comp k)) o is other = refl
not_blank_by (Kernel (Thread k)) o is other = refl
not_blank_by (Kernel (Tcap k)) o is other = refl
not_blank_by Untyped o is other = refl
not_blank_by User o is other = refl

pub not_kernel_by : (x : Frame) (k : FrameKind) → (frame_value x).kind ≡ k → (k ≡ FrameKernel → ⊥) → is_blank x ≡ false
not_kernel_by Untyped k is other = refl
not_kernel_by User k is other = refl
not_kernel_by (Kernel object) k is other = absurd (other (sym is))

pub marked_fits : (c : ℕ) → c < 8 → FrameFits (marked c)
marked_fits c small = (small, omega arith)

-- What the load of the frame's word leads to: where the frame is blank and not marked, it goes on with this.
abbrev pub goes_by_object : WorkStep → Obj → WorkStep
goes_by_object goes Obj.Blank = goes
goes_by_object goes o = refuse Refusal.FrameKind

abbrev pub goes_by_kind : WorkStep → FrameKind → Obj → WorkStep
goes_by_kind goes FrameKernel o = goes_by_object goes o
goes_by_kind goes k o = refuse Refusal.FrameKind

abbrev pub goes_by_mark : WorkStep → FrameKind → Obj → Option ℕ → WorkStep
goes_by_mark goes k o None = goes_by_kind goes k o
goes_by_mark goes k o (Some d) = refuse (Refusal.Busy d)

abbrev pub goes_by_word : WorkStep → Option FrameWord → WorkStep
goes_by_word goes None = refuse Refusal.Raced
goes_by_word goes (Some v) = goes_by_mark goes v.kind v.object v.mark

-- What is asked of a call that makes something in frame f, and of its act where the frame's word is met and where the frame is marked.
pub record MarksBlank (setup : Setting) (cores : ℕ → Core) (t : Trace) (c : ℕ) (a : ActiveCall) (f by : ℕ) (met marked_act : ℕ → ActOf) :
    Type 0 where
  -- the core marks the frame in its own name, and the frame is the call's
  pub own : by ≡ c
  pub room : (cores c).own.made < (cores c).own.limit
  pub changes : changes_frames a.call ≡ true
  pub footprint : is_one_of f (footprint_frames (state_after setup t) c a.call) ≡ true
  -- a frame that is not blank may refuse the call, and where it is decided alone, nothing before that does
  pub may : is_blank ((state_after setup t).frame f) ≡ false
      → RuleMay (state_after setup t) c (rule_of (state_after setup t) c a.call) Reply.FrameKind
  pub first : is_blank ((state_after setup t).frame f) ≡ false
      → IsAlone t (step_to c None (LoadOf (FrameAt f)) (last_left setup t (FrameAt f)) (Some Reply.FrameKind) None)
      → change_of (state_after setup t) c a.call ≡ Refused Reply.FrameKind
  -- the act that has met the word has marked nothing and changes no count; the one that has marked the frame keeps its word, and may
  -- acquire its counts
  pub met_keeps : (word : ℕ) → (phases_of (met word)).keeps ≡ []
  pub met_dues : (word : ℕ) → dues (met word) ≡ []
  pub met_goes : (word : ℕ) → goes_on (met word) ≡ true
  pub keeps : (word : ℕ) → (phases_of (marked_act word)).keeps ≡ KeepsWord (FrameAt f) word ∷ []
  pub counting : (word : ℕ) → is_counting (marked_act word) ≡ true
  pub goes : (word : ℕ) → goes_on (marked_act word) ≡ true
  pub apart : (state_after setup t).frame f ≡ Kernel Blank → (word : ℕ) → AreDuesApart (dues (marked_act word))
  -- what the call knows of each, after a step of its core on the frame's word
  pub knows_met : (e : Step) → e.core ≡ c → e.enters ≡ None → word_of e.move ≡ FrameAt f → Carries setup t e c → (word : ℕ)
      → HasBlank (e ∷ t) c f word → KnowsAct setup (e ∷ t) c a.call (plan_for a.call) a.found setup.cores (met word)
  pub knows_marked : (e : Step) → e.core ≡ c → e.enters ≡ None → word_of e.move ≡ FrameAt f → Carries setup t e c → (word : ℕ)
      → frame_of_word word ≡ Some blank_word
      → KnowsAct setup (e ∷ t) c a.call (plan_for a.call) a.found setup.cores (marked_act word)

module _ (setup : Setting) (setting : IsSetting setup) (cores : ℕ → Core) (t : Trace) (stands : Invariant setup cores t) (c : ℕ)
    (here : c < setup.cores) (a : ActiveCall) (active : (cores c).active ≡ Some a) (now : ActOf) (stage_is : a.stage ≡ Undecided (Act now))
    (has : KnowsUndecided setup t c (cores c).own.table a (Act now)) (keeps_none : (phases_of now).keeps ≡ []) (none_due : dues now ≡ [])
    (uncharged : (phases_of now).charges ≡ false) (f by : ℕ) (met marked_act : ℕ → ActOf)
    (x : MarksBlank setup cores t c a f by met marked_act) where
  abbrev s : State
  s = state_after setup t

  abbrev was : ℕ
  was = last_left setup t (FrameAt f)

  opens : phase_at a.call a.stage ≡ Open a.call
  opens = ap (phase_at a.call) stage_is

  is_open : phase t c ≡ Open a.call
  is_open = (call_is setup setting cores t stands c here a active).phase ∙ opens

  loading : OnlyLooks setup t c a.call (LoadOf (FrameAt f))
  loading = record {
    of_call = record { moves = made_looks a.call x.changes; footprint = inl x.footprint };
    kept = refl;
    apart = λ d. refl;
  }

  held_is : holds_in (Some a) ≡ holds_counts None a.counts
  held_is = ap (λ stage. holds_at stage a.counts) stage_is ∙ ap (λ ks. holds_all ks (holds_counts None a.counts)) keeps_none

  no_counts : a.counts ≡ []
  no_counts = none_of a.counts (sym none_due ∙ has.knows.all)
    where
      none_of : (xs : List Acquired) → [] ≡ map due_of xs → xs ≡ []
      none_of [] h = refl
      none_of (y ∷ ys) h = absurd (cc)

  frame_says : marked_by setup t (FrameAt f) ≡ None → frame_of_word was ≡ Some (frame_value (s.frame f))
  frame_says unmarked = subst (λ o. frame_of_word (settled_by o (held_by cores) (FrameAt f) was) ≡ Some (frame_value (s.frame f))) unmarked
      (stands.words (FrameAt f))

  some_word : (v u : FrameWord) → Some v ≡ Some u → v ≡ u
  some_word v u h = cc

  -- The load.
  marked_good : (d : ℕ) → marked_by setup t (FrameAt f) ≡ Some d
      → GoodTook setup cores t c (LoadOf (FrameAt f)) (landed a (refuse (Refusal.Busy d)))
  marked_good d mark = refuses_busy setup setting cores t stands c here a active opens held_is x.room (LoadOf (FrameAt f)) loading
      (ap ticks_at stage_is ∙ uncharged) d
      (ap (λ (xs : List Acquired). (holds_counts None xs).marks (FrameAt f)) no_counts) mark tt

  -- the frame is not blank
  kind_good : is_blank (s.frame f) ≡ false → GoodTook setup cores t c (LoadOf (FrameAt f)) (landed a (refuse Refusal.FrameKind))
  kind_good other lands =
      let unspent : are_calls_spent s c ≡ false = not_spent setup (cores c) t c
      (core_is setup setting cores t stands c here a active) x.room in
      decides_on setup setting cores t stands c here a active (LoadOf (FrameAt f)) Reply.FrameKind a.found loading lands (sym held_is)
      opens
      refl refl
      (λ y. refl) (λ y. refl) refl (unspent, x.may other) tt
      (λ is_alone. refused_first s c a.call Reply.FrameKind has.acts unspent (x.first other is_alone))

  -- it is blank
  blank_good : frame_of_word was ≡ Some blank_word → GoodTook setup cores t c (LoadOf (FrameAt f)) (landed a (Goes (Act (met was))))
  blank_good shown lands =
      let e : Step = step_to c None (LoadOf (FrameAt f)) was None None in
      loads_on setup setting cores t stands c here a active (LoadOf (FrameAt f)) a.found
      (Undecided (Act (met was))) loading lands (ap (λ ks. holds_all ks (holds_counts None a.counts)) (x.met_keeps was) ∙ sym held_is) opens
      (λ carries. record {
        acts = has.acts;
        names = names_on setup setting t e stands.legal c a.call is_open carries (cores c).own.table (plan_for a.call) a.found has.names;
        knows = record {
          knows = x.knows_met e refl refl refl carries was (record {
            own = own_read-here c e t refl (FrameAt f) refl ∙ ap (λ b. if b then Some was else None) (eq-eqb was was refl);
            says = shown;
          });
          all = x.met_dues was ∙ sym none_due ∙ has.knows.all;
          goes = x.met_goes was;
        };
      })

  pub load_good : GoodTook setup cores t c (LoadOf (FrameAt f)) (landed a (goes_by_word (Goes (Act (met was))) (frame_of_word was)))
  load_good = by_word (frame_of_word was) refl
    where
      not_none : (v : FrameWord) → None ≡ Some v → ⊥
      not_none v h = cc

      value : (v : FrameWord) → frame_of_word was ≡ Some v → v.mark ≡ None → frame_value (s.frame f) ≡ v
      value v shown no_mark = some_word (frame_value (s.frame f)) v (sym (frame_says (ap frame_mark shown ∙ no_mark)) ∙ shown)

      by_object : (v : FrameWord) → frame_of_word was ≡ Some v → v.mark ≡ None → v.kind ≡ FrameKernel → (o : Obj) → v.object ≡ o
          → GoodTook setup cores t c (LoadOf (FrameAt f)) (landed a (goes_by_object (Goes (Act (met was))) o))
      by_object v shown no_mark kind_is o object_is = blank_or o (word_blank v o kind_is object_is no_mark) (value v shown no_mark)
        where
          word_blank : (v : FrameWord) (o : Obj) → v.kind ≡ FrameKernel → v.object ≡ o → v.mark ≡ None
              → v ≡ record { kind = FrameKernel; object = o; mark = None }
          word_blank v o kind_is object_is no_mark =
              ap (λ x. record { kind = x; object = v.object; mark = v.mark }) kind_is
              ∙ ap (λ x. record { kind = FrameKernel; object = x; mark = v.mark }) object_is
              ∙ ap (λ x. record { kind = FrameKernel; object = o; mark = x }) no_mark

          blank_or : (o : Obj) → v ≡ record { kind = FrameKernel; object = o; mark = None } → frame_value (s.frame f) ≡ v
              → GoodTook setup cores t c (LoadOf (FrameAt f)) (landed a (goes_by_object (Goes (Act (met was))) o))
          blank_or Obj.Blank is same = blank_good (shown ∙ ap (λ (v : FrameWord). Some v) is)
          blank_or Obj.Table is same = kind_good (not_blank_by (s.frame f) Obj.Table (ap (λ v. v.object) (same ∙ is)) (λ h. cc))
          blank_or Obj.Leaf is same = kind_good (not_blank_by (s.frame f) Obj.Leaf (ap (λ v. v.object) (same ∙ is)) (λ h. cc))
          blank_or Obj.Pages is same = kind_good (not_blank_by (s.frame f) Obj.Pages (ap (λ v. v.object) (same ∙ is)) (λ h. cc))
          blank_or Obj.Pleaf is same = kind_good (not_blank_by (s.frame f) Obj.Pleaf (ap (λ v. v.object) (same ∙ is)) (λ h. cc))
          blank_or Obj.Comp is same = kind_good (not_blank_by (s.frame f) Obj.Comp (ap (λ v. v.object) (same ∙ is)) (λ h. cc))
          blank_or Obj.Thread is same = kind_good (not_blank_by (s.frame f) Obj.Thread (ap (λ v. v.object) (same ∙ is)) (λ h. cc))
          blank_or Obj.Tcap is same = kind_good (not_blank_by (s.frame f) Obj.Tcap (ap (λ v. v.object) (same ∙ is)) (λ h. cc))

      by_kind : (v : FrameWord) → frame_of_word was ≡ Some v → v.mark ≡ None → (k : FrameKind) → v.kind ≡ k
          → GoodTook setup cores t c (LoadOf (FrameAt f)) (landed a (goes_by_kind (Goes (Act (met was))) k v.object))
      by_kind v shown no_mark FrameKernel kind_is = by_object v shown no_mark kind_is v.object refl
      by_kind v shown no_mark FrameUntyped kind_is =
          kind_good (not_kernel_by (s.frame f) FrameUntyped (ap (λ v. v.kind) (value v shown no_mark) ∙ kind_is) (λ h. cc))
      by_kind v shown no_mark FrameUser kind_is =
          kind_good (not_kernel_by (s.frame f) FrameUser (ap (λ v. v.kind) (value v shown no_mark) ∙ kind_is) (λ h. cc))

      by_mark : (v : FrameWord) → frame_of_word was ≡ Some v → (mark : Option ℕ) → v.mark ≡ mark
          → GoodTook setup cores t c (LoadOf (FrameAt f)) (landed a (goes_by_mark (Goes (Act (met was))) v.kind v.object mark))
      by_mark v shown None no_mark = by_kind v shown no_mark v.kind refl
      by_mark v shown (Some d) mark = marked_good d (ap frame_mark shown ∙ mark)

      by_word : (o : Option FrameWord) → frame_of_word was ≡ o
          → GoodTook setup cores t c (LoadOf (FrameAt f)) (landed a (goes_by_word (Goes (Act (met was))) o))
      by_word None shown = absurd (not_none (frame_value (s.frame f)) (sym shown ∙ frame_says (ap frame_mark shown)))
      by_word (Some v) shown = by_mark v shown v.mark refl

  -- The compare that marks the frame.
  module _ (word : ℕ) (met_it : HasBlank t c f word) where
    abbrev new : ℕ
    new = word_of_frame (marked by)

    abbrev mark_it : Move
    mark_it = CompareOf (FrameAt f) word new

    abbrev act : ActOf
    act = marked_act word

    abbrev next : ActiveCall
    next = next_at a a.found (Undecided (next_work by 0 act))

    abbrev after : Core
    after = core_in_call (cores c) (cores c).own.made next

    mark_of_call : IsOfCall setup t c a.call mark_it
    mark_of_call = record { moves = x.changes; footprint = inl x.footprint }

    mark_lost : (was == word) ≡ false → GoodTook setup cores t c mark_it (landed a (refuse Refusal.Raced))
    mark_lost other =
        refuses_raced setup setting cores t stands c here a active opens held_is x.room mark_it
        (record { of_call = mark_of_call; kept = kept; apart = λ d. refl }) (ap ticks_at stage_is ∙ uncharged)
        (record {
          at = tt;
          reads = eq-eqb (left_of mark_it was) was kept;
          own = word;
          has_read = met_it.own;
          changed = eqb-false was word
              other;
        })
      where
        kept : left_of mark_it was ≡ was
        kept = ap (λ b. left_if b was new) other

    mark_won : (was == word) ≡ true → GoodTook setup cores t c mark_it (landed a (Goes (next_work by 0 act)))
    mark_won equal lands =
        let e : Step = inner setup setting cores t stands c here a active mark_it None None in
        counting.holds_on setup setting cores t stands c here a active mark_it next (λ b. refl) (λ h. cc) refl mark_of_call lands
        (subst (λ (n : ℕ). n < 2 ^ 64) (sym leaves_it) (frames.spelling.small (marked by) fits))
        (λ w there. (
          ap (λ h. h.marks w) held_now ∙ ap (λ b. if b then true else (holds_counts None a.counts).marks w) (same_word-other w (FrameAt f)
              there)
              ∙ sym (ap (λ h. h.marks w) held_before),
          ap (λ h. h.stands w) held_now ∙ ap (λ b. if b then word else (holds_counts None a.counts).stands w)
              (same_word-other w (FrameAt f) there)
              ∙ sym (ap (λ h. h.stands w) held_before),
        ))
        (as_none (holds (cores c)) (holds after) (FrameAt f)
        (λ g i. ap (λ h. h.bare g i) held_before ∙ counts_bare None a.counts g i)
        (λ g i. ap (λ h. h.bare g i) held_now ∙ counts_bare None a.counts g i))
        (ap (λ (n : ℕ). frame_mark (frame_of_word n)) leaves_it ∙ ap frame_mark (frames.spelling.reads (marked by) fits)
        ∙ ap (λ (n : ℕ). Some n) x.own ∙ ap (λ b. if b then Some c else None) (sym marks_it))
        (λ b other is. none_some b (sym bare ∙ is))
        (ap (λ b. settled_by (if b then Some c else None) (held_by (put cores c after)) (FrameAt f) (left_of mark_it was)) marks_it
        ∙ ap (λ k. (holds k).stands (FrameAt f)) (put_same cores c after c refl) ∙ ap (λ h. h.stands (FrameAt f)) held_now
        ∙ ap (λ b. if b then word else (holds_counts None a.counts).stands (FrameAt f)) (same_same (FrameAt f))
        ∙ sym (ap (λ o. settled_by o (held_by cores) (FrameAt f) was) bare ∙ eqb-true was word equal))
        opens
        (λ carries. record {
          acts = has.acts;
          names = names_on setup setting t e stands.legal c a.call is_open carries (cores c).own.table (plan_for a.call) a.found has.names;
          knows = knows_next setup (e ∷ t) c (cores c).own.table next by act (dues act) x.own
              (x.knows_marked e refl refl refl carries word met_it.says)
              (ap (λ (xs : List Acquired). map due_of xs ++ dues act) (sym no_counts)) (x.apart blank word) 0
              (ap (λ (xs : List Acquired). length xs) (sym no_counts)) (x.counting word) (x.goes word);
        })
        (counts_on setup t e c a.call (λ own. refl) a.counts (call_is setup setting cores t stands c here a active).counts)
        (call_is setup setting cores t stands c here a active).apart
        (spares_other setup t e (λ g i h. cc)) (exclusive_elsewhere cores e (λ g i h. cc))
      where
        none_some : (b : ℕ) → None ≡ Some b → ⊥
        none_some b h = cc

        leaves_it : left_of mark_it was ≡ new
        leaves_it = ap (λ b. left_if b was new) equal

        fits : FrameFits (marked by)
        fits = marked_fits by (let few = setting.most_cores in let own = x.own in omega (arith, few, own, here))

        held_before : holds (cores c) ≡ holds_counts None a.counts
        held_before = ap holds_in active ∙ held_is

        held_now : holds after ≡ keeps (FrameAt f) word (holds_counts None a.counts)
        held_now = next_holds by 0 act (holds_counts None a.counts) ∙ ap (λ ks. holds_all ks (holds_counts None a.counts)) (x.keeps word)

        marks_it : (holds after).marks (FrameAt f) ≡ true
        marks_it = ap (λ h. h.marks (FrameAt f)) held_now
            ∙ ap (λ b. if b then true else (holds_counts None a.counts).marks (FrameAt f)) (same_same (FrameAt f))

        bare : marked_by setup t (FrameAt f) ≡ None
        bare = ap (λ (n : ℕ). frame_mark (frame_of_word n)) (eqb-true was word equal) ∙ ap frame_mark met_it.says

        blank : s.frame f ≡ Kernel Blank
        blank = blank_is (s.frame f) (sym (frame_says bare) ∙ ap frame_of_word (eqb-true was word equal) ∙ met_it.says)

    pub mark_good : GoodTook setup cores t c mark_it (landed a (if was == word then Goes (next_work by 0 act) else refuse Refusal.Raced))
    mark_good = by_test (was == word) refl
      where
        by_test : (equal : Bool) → (was == word) ≡ equal
            → GoodTook setup cores t c mark_it (landed a (if equal then Goes (next_work by 0 act) else refuse Refusal.Raced))
        by_test true same = mark_won same
        by_test false other = mark_lost other
