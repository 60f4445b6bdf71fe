-- The steps by which a call that makes a frame untyped marks its word: the load, which finds another core's mark or a frame that is
-- untyped, and the compare, which is lost to another core or holds the word for the call.
use Rattle.scan_invariant.specs.step_ways.proofs as low
use low.{◌≡◌, ◌≢◌, inl, inr, ℕ, ◌^◌, ◌<◌, ◌==◌, ◌&&◌, Bool, true, false, List, [], Option, Some, None, arith, refl, sym, ◌∙◌, ap, subst}
use low.{eqb-true, eqb-false, eq-eqb, Setting, IsSetting, left_if, FrameKind, CountFits, FrameFits, word_of_frame, frame_of_word, FrameWord}
use low.{FrameAt, Move, LoadOf, CompareOf, left_of, same_same, Frame, Untyped, User, Kernel, State, put, is_frame, is_untyped, put_same}
use low.{frame_mark, marked_by, frame_value, Step, Trace, state_after, last_left, same_word-other, own_read-here, unheld, Acquired, refuse}
use low.{Untyping, Act, Goes, Undecided, ActiveCall, landed, Core, holds_counts, settled_by, KnowsUndecided, holds, holds_in, held_by}
use low.{Invariant, as_none, counts_bare, names_on, counts_on, exclusive_elsewhere, if◌then◌else◌, Untype as untype_act, spares_other}
use low.{IsOfCall, step_to, next_at, core_in_call, inner, call_is, loads_on, GoodTook, ticks_at, refuses_raced, refuses_busy, plan_for}
use Rattle.scan_invariant.specs.act_states.specs.{untyping_dues, meets_untyped, meets_untyping, sweeps_if}
use Rattle.scan_invariant.specs.act_states.specs.declared.untypings.UntypingAt.TheVariants.{Load, Mark, Sweep as sweep_at}
use low.{Reply, Refusal, Refusals.refuses_frame_kind}
use Rattle.{std.proofs.lemmas.List.Elements.All-nil, scan_invariant.specs.core_invariant.specs.Sweeps.KnowsUntyping}
use Rattle.{scan_invariant.specs.core_invariant.specs.Sweeps.HasMetTyped, scan_invariant.specs.act_states.specs.Taking.sweep_from}
use Rattle.{scan_invariant.specs.act_states.specs.Untypings.held_by as marked_word, freeze_invariant.proofs.UntypeCalls.untypes_on}
use Rattle.scan_invariant.specs.frame_words.proofs.FrameLemmas as frames
use Rattle.scan_invariant.specs.step_ways.proofs.Counting as counting
use Rattle.freeze_invariant.proofs.UntypeCalls as calls

none_some : (d : ℕ) → None ≡ Some d → ⊥
none_some d h = cc

not_none : (v : FrameWord) → None ≡ Some v → ⊥
not_none v h = cc

some_word : (v u : FrameWord) → Some v ≡ Some u → v ≡ u
some_word v u h = cc

untyped_by : (x : Frame) → (frame_value x).kind ≡ FrameKind.Untyped → is_untyped x ≡ true
untyped_by Untyped is = refl
untyped_by User is = absurd (cc)
untyped_by (Kernel object) is = absurd (cc)

module _ (setup : Setting) (setting : IsSetting setup) (cores : ℕ → Core) (t : Trace) (stands : Invariant setup cores t) (c : ℕ)
    (here : c < setup.cores)
    (a : ActiveCall) (active : (cores c).active ≡ Some a) (m : Untyping) (stage_is : a.stage ≡ Undecided (Act (untype_act m)))
    (has : KnowsUndecided setup t c (cores c).own.table a (Act (untype_act m))) where
  abbrev s : State
  s = state_after setup t

  abbrev f : ℕ
  f = m.frame

  abbrev was : ℕ
  was = last_left setup t (FrameAt f)

  abbrev knows : KnowsUntyping setup t c a.call a.found m
  knows = has.knows.knows

  abbrev load : Move
  load = LoadOf (FrameAt f)

  -- The load.
  module _ (at_is : m.at ≡ Load) where
    held_is : holds_in (Some a) ≡ holds_counts None a.counts
    held_is = calls.held_at setup setting cores t stands c here a active m stage_is has Load at_is

    no_counts : a.counts ≡ []
    no_counts = calls.none_acquired setup setting cores t stands c here a active m stage_is has Load at_is refl

    marked_good : (d : ℕ) → marked_by setup t (FrameAt f) ≡ Some d → GoodTook setup cores t c load (landed a (refuse (Refusal.Busy d)))
    marked_good d mark = refuses_busy setup setting cores t stands c here a active
        (calls.opens setup setting cores t stands c here a active m stage_is has) held_is
        (calls.room setup setting cores t stands c here a active m stage_is has) load
        (calls.loading setup setting cores t stands c here a active m stage_is has) (ap ticks_at stage_is) d
        (ap (λ (xs : List Acquired). (holds_counts None xs).marks (FrameAt f)) no_counts) mark tt

    kind_good : is_untyped (s.frame f) ≡ true → GoodTook setup cores t c load (landed a (refuse Refusal.FrameKind))
    kind_good untyped = refuses_frame_kind setup setting cores t stands c here a active
        (calls.opens setup setting cores t stands c here a active m stage_is has) held_is
        (calls.room setup setting cores t stands c here a active m stage_is has) load
        (calls.loading setup setting cores t stands c here a active m stage_is has) has.acts
        (calls.may_refuse setup setting cores t stands c here a active m stage_is has Reply.FrameKind (inr (inl (stands_so, refl))))
        (λ nobody. calls.by_causes setup setting cores t stands c here a active m stage_is has (Some Reply.FrameKind) _ _ _ _
        (ap (λ b. if b then Some Reply.FrameKind else None) stands_so) refl refl refl refl)
      where
        stands_so : (is_frame s f && is_untyped (s.frame f)) ≡ true
        stands_so = calls.kind_some setup setting cores t stands c here a active m stage_is has untyped

    typed_good : (v : FrameWord) → frame_of_word was ≡ Some v → v.mark ≡ None → v.kind ≢ FrameKind.Untyped
        → GoodTook setup cores t c load (landed a (Goes (Act (untype_act (record m { at = Mark was v })))))
    typed_good v shown no_mark other lands =
        let e : Step = step_to c None load was None None in
        let is_open = calls.is_open setup setting cores t stands c here a active m stage_is has in
        loads_on setup setting cores t stands c here a active load a.found (Undecided (Act (untype_act (record m { at = Mark was v }))))
        (calls.loading setup setting cores t stands c here a active m stage_is has) lands (sym held_is)
        (calls.opens setup setting cores t stands c here a active m stage_is has)
        (λ carries. record {
          acts = has.acts;
          names = names_on setup setting t e stands.legal c a.call is_open carries (cores c).own.table (plan_for a.call) a.found has.names;
          knows = record {
            knows = record {
              untypes = untypes_on a.call a.found m (record m { at = Mark was v }) refl knows.untypes;
              core = knows.core;
              at = record {
                own = own_read-here c e t refl (FrameAt f) refl ∙ ap (λ b. if b then Some was else None) (eq-eqb was was refl);
                met = record { says = shown; mark = no_mark; kind = other };
              };
            };
            all = ap untyping_dues (sym at_is) ∙ has.knows.all;
            goes = refl;
          };
        })

    pub load_good : GoodTook setup cores t c load (landed a (meets_untyping m was (frame_of_word was)))
    load_good = by_word (frame_of_word was) refl
      where
        value : (v : FrameWord) → frame_of_word was ≡ Some v → v.mark ≡ None → frame_value (s.frame f) ≡ v
        value v shown no_mark = some_word (frame_value (s.frame f)) v
            (sym (calls.frame_says setup setting cores t stands c here a active m stage_is has (ap frame_mark shown ∙ no_mark)) ∙ shown)

        by_kind : (v : FrameWord) → frame_of_word was ≡ Some v → v.mark ≡ None → (k : FrameKind) → v.kind ≡ k
            → GoodTook setup cores t c load (landed a (meets_untyped m was v k None))
        by_kind v shown no_mark FrameKind.Untyped kind_is =
            kind_good (untyped_by (s.frame f) (ap (λ x. x.kind) (value v shown no_mark) ∙ kind_is))
        by_kind v shown no_mark FrameKind.User kind_is = typed_good v shown no_mark (λ same. apart (sym kind_is ∙ same))
          where
            apart : FrameKind.User ≡ FrameKind.Untyped → ⊥
            apart h = cc
        by_kind v shown no_mark FrameKind.Kernel kind_is = typed_good v shown no_mark (λ same. apart (sym kind_is ∙ same))
          where
            apart : FrameKind.Kernel ≡ FrameKind.Untyped → ⊥
            apart h = cc

        by_mark : (v : FrameWord) → frame_of_word was ≡ Some v → (mark : Option ℕ) → v.mark ≡ mark
            → GoodTook setup cores t c load (landed a (meets_untyped m was v v.kind mark))
        by_mark v shown None no_mark = by_kind v shown no_mark v.kind refl
        by_mark v shown (Some d) mark = any_kind v.kind
          where
            any_kind : (k : FrameKind) → GoodTook setup cores t c load (landed a (meets_untyped m was v k (Some d)))
            any_kind FrameKind.Untyped = marked_good d (ap frame_mark shown ∙ mark)
            any_kind FrameKind.User = marked_good d (ap frame_mark shown ∙ mark)
            any_kind FrameKind.Kernel = marked_good d (ap frame_mark shown ∙ mark)

        by_word : (o : Option FrameWord) → frame_of_word was ≡ o → GoodTook setup cores t c load (landed a (meets_untyping m was o))
        by_word None shown = absurd (not_none (frame_value (s.frame f))
            (sym shown ∙ calls.frame_says setup setting cores t stands c here a active m stage_is has (ap frame_mark shown)))
        by_word (Some v) shown = by_mark v shown v.mark refl

  -- The compare that marks the frame.
  module _ (word : ℕ) (v : FrameWord) (at_is : m.at ≡ Mark word v) where
    abbrev new : ℕ
    new = word_of_frame (marked_word m.core v.kind v.object)

    abbrev mark_it : Move
    mark_it = CompareOf (FrameAt f) word new

    abbrev next_m : Untyping
    next_m = record m { at = sweep_at word (sweep_from f v m.core) }

    abbrev next : ActiveCall
    next = next_at a a.found (Undecided (Act (untype_act next_m)))

    abbrev after : Core
    after = core_in_call (cores c) (cores c).own.made next

    met : HasMetTyped t c f word v
    met = calls.knows_at setup setting cores t stands c here a active m stage_is has (Mark word v) at_is

    mark_held : holds_in (Some a) ≡ holds_counts None a.counts
    mark_held = calls.held_at setup setting cores t stands c here a active m stage_is has (Mark word v) at_is

    mark_of_call : IsOfCall setup t c a.call mark_it
    mark_of_call = record {
      moves = calls.untype_changes a.call a.found f (calls.is setup setting cores t stands c here a active m stage_is has);
      footprint = inl (calls.footprint setup setting cores t stands c here a active m stage_is has);
    }

    mark_lost : (was == word) ≡ false → GoodTook setup cores t c mark_it (landed a (sweeps_if m word v false))
    mark_lost other =
        refuses_raced setup setting cores t stands c here a active
        (calls.opens setup setting cores t stands c here a active m stage_is has) mark_held
        (calls.room setup setting cores t stands c here a active m stage_is has) mark_it
        (record { of_call = mark_of_call; kept = kept; apart = λ d. refl }) (ap ticks_at stage_is)
        (record {
          at = tt;
          reads = eq-eqb (left_of mark_it was) was kept;
          own = word;
          has_read = met.own;
          changed = eqb-false was word other;
        })
      where
        kept : left_of mark_it was ≡ was
        kept = ap (λ b. left_if b was new) other

    mark_won : (was == word) ≡ true → GoodTook setup cores t c mark_it (landed a (sweeps_if m word v true))
    mark_won equal lands =
        let e : Step = inner setup setting cores t stands c here a active mark_it None None in
        let is_open = calls.is_open setup setting cores t stands c here a active m stage_is has in
        counting.holds_on setup setting cores t stands c here a active mark_it next (λ b. refl) (λ h. cc) refl mark_of_call lands
        (subst (λ (n : ℕ). n < 2 ^ 64) (sym leaves_it) (frames.spelling.small (marked_word m.core v.kind v.object) fits))
        (λ w there. (
          ap (λ b. if b then true else (holds_counts None a.counts).marks w) (same_word-other w (FrameAt f) there)
              ∙ sym (ap (λ h. h.marks w) held_before),
          ap (λ b. if b then word else (holds_counts None a.counts).stands w) (same_word-other w (FrameAt f) there)
              ∙ sym (ap (λ h. h.stands w) held_before),
        ))
        (as_none (holds (cores c)) (holds after) (FrameAt f)
        (λ g i. ap (λ h. h.bare g i) held_before ∙ counts_bare None a.counts g i) (counts_bare None a.counts))
        (ap (λ (n : ℕ). frame_mark (frame_of_word n)) leaves_it
        ∙ ap frame_mark (frames.spelling.reads (marked_word m.core v.kind v.object) fits)
        ∙ ap (λ (n : ℕ). Some n) knows.core ∙ ap (λ b. if b then Some c else None) (sym marks_it))
        (λ b other is. none_some b (sym bare ∙ is))
        (ap (λ b. settled_by (if b then Some c else None) (held_by (put cores c after)) (FrameAt f) (left_of mark_it was)) marks_it
        ∙ ap (λ k. (holds k).stands (FrameAt f)) (put_same cores c after c refl)
        ∙ ap (λ b. if b then word else (holds_counts None a.counts).stands (FrameAt f)) (same_same (FrameAt f))
        ∙ sym (ap (λ o. settled_by o (held_by cores) (FrameAt f) was) bare ∙ eqb-true was word equal))
        (calls.opens setup setting cores t stands c here a active m stage_is has)
        (λ carries. record {
          acts = has.acts;
          names = names_on setup setting t e stands.legal c a.call is_open carries (cores c).own.table (plan_for a.call) a.found has.names;
          knows = record {
            knows = record {
              untypes = untypes_on a.call a.found m next_m refl knows.untypes;
              core = knows.core;
              at = record {
                frame = refl;
                core = knows.core;
                met = met.met;
                kept = All-nil (λ x. CountFits (unheld x.count x.stamp));
                at = tt;
              };
            };
            all = ap untyping_dues (sym at_is) ∙ has.knows.all;
            goes = refl;
          };
        })
        (counts_on setup t e c a.call (λ own. refl) a.counts (call_is setup setting cores t stands c here a active).counts)
        (call_is setup setting cores t stands c here a active).apart
        (spares_other setup t e (λ g i h. cc)) (exclusive_elsewhere cores e (λ g i h. cc))
      where
        held_before : holds (cores c) ≡ holds_counts None a.counts
        held_before = ap holds_in active ∙ mark_held

        leaves_it : left_of mark_it was ≡ new
        leaves_it = ap (λ b. left_if b was new) equal

        fits : FrameFits (marked_word m.core v.kind v.object)
        fits = (
          (let few = setting.most_cores in let own = knows.core in omega (arith, few, own, here)),
          (frames.spelling.spells word v met.met.says).0.1,
        )

        marks_it : (holds after).marks (FrameAt f) ≡ true
        marks_it = ap (λ b. if b then true else (holds_counts None a.counts).marks (FrameAt f)) (same_same (FrameAt f))

        bare : marked_by setup t (FrameAt f) ≡ None
        bare = ap (λ (n : ℕ). frame_mark (frame_of_word n)) (eqb-true was word equal) ∙ ap frame_mark met.met.says ∙ met.met.mark

    pub mark_good : GoodTook setup cores t c mark_it (landed a (sweeps_if m word v (was == word)))
    mark_good = by_test (was == word) refl
      where
        by_test : (equal : Bool) → (was == word) ≡ equal → GoodTook setup cores t c mark_it (landed a (sweeps_if m word v equal))
        by_test true same = mark_won same
        by_test false other = mark_lost other
