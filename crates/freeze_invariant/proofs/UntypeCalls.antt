-- What a call that makes a frame untyped knows of its rule: what is left of it after its name, and what refuses it.
use Rattle.scan_invariant.specs.step_ways.proofs as low
use low.{◌≡◌, ◌≢◌, inl, ℕ, ◌^◌, ◌<◌, ◌&&◌, ◌||◌, not, map, Bool, true, false, List, [], ◌∷◌, Option, Some, None, IsTrue, refl, sym, ◌∙◌, ap}
use low.{subst, eq-eqb, Capability, Setting, IsSetting, Call, Retype, Reply, frame_of_word, FrameWord, FrameAt, Frame, Untyped, User}
use low.{Kernel, FrameOf, State, found, refs, Cause, Change, Does, RuleMay, outcome, unless, first_of, first_cause, outside, is_frame}
use low.{has_frame, is_untyped, is_empty, rule_of, change_of, are_calls_spent, changes_frames, counts_references, raises_clock}
use low.{footprint_frames, frame_argument, is_one_of, marked_by, frame_value, Trace, Open, phase, state_after, last_left, GoesBy, own_pages}
use low.{rule_after, Leads, LeadsIn, outcome_left, left_may, Acquired, UntypingFits, Untyping, UntypingAt, Act, Undecided, ActiveCall}
use low.{StageFits, HasRoom, Core, holds_untyping, holds_counts, settled_by, due_of, KnowsUndecided, KnowsUnmark, phase_at, holds_at}
use low.{holds_in, holds, held_by, Invariant, UntypesBy, KnowsUntypingAt, limits_of, frame_mark, LoadOf, ltb as nat_lt, if◌then◌else◌}
use low.{lt-ltb, does, Untype as untype_act, OnlyLooks, call_is, core_is, is_active, not_spent, plan_for}
use Rattle.scan_invariant.specs.kernel_rules.specs.{waits_of, When, retypes, refusal_of, flushes_of, WaitedFor, Unflushed, is_untyped_now}
use Rattle.scan_invariant.specs.count_invariant.proofs.{plan_leads, goes_by, argument_footprint}
use Rattle.{scan_invariant.specs.kernel_rules.specs.Nothing as no_value, scan_invariant.specs.core_invariant.specs.SaysTyped}
use Rattle.{scan_invariant.specs.core_invariant.specs.KnowsUntyping, scan_invariant.specs.kernel_history.specs.Discipline.looks_at_frames}
use Rattle.{scan_invariant.specs.act_states.specs.Untypings.untyping_dues}
use Rattle.scan_invariant.specs.spk_nums.specs.declared.kinds.FrameKind.TheVariants as kind
use Rattle.scan_invariant.specs.frame_words.proofs.FrameLemmas as frames

-- The call that makes a frame untyped.
pub record IsUntype (call : Call) (ks : List Capability) (f : ℕ) : Type 0 where
  pub name : ℕ
  pub range : Capability
  pub call_is : call ≡ Retype name f kind.Untyped
  pub found_is : ks ≡ range ∷ []
  pub within : has_frame (found range) f ≡ true

pub untype_of : (call : Call) (ks : List Capability) (m : Untyping) → UntypesBy call ks m → IsUntype call ks m.frame
untype_of (Retype r f kind.Untyped) (range ∷ []) m is = record {
  name = r;
  range = range;
  call_is = ap (λ (n : ℕ). Retype r n kind.Untyped) (sym is.frame);
  found_is = refl;
  within = ap (has_frame (found range)) is.frame ∙ is.within;
}
untype_of (Retype r f kind.Untyped) [] m is = absurd is
untype_of (Retype r f kind.Untyped) (range ∷ k ∷ ks) m is = absurd is
untype_of (Retype r f kind.User) ks m is = absurd is
untype_of (Retype r f kind.Kernel) ks m is = absurd is
untype_of call ks m is = absurd is

-- Where it stands does not matter for that.
pub untypes_on : (call : Call) (ks : List Capability) (m n : Untyping) → n.frame ≡ m.frame → UntypesBy call ks m → UntypesBy call ks n
untypes_on (Retype r f kind.Untyped) (range ∷ []) m n same is = record { frame = same ∙ is.frame; within = is.within }
untypes_on (Retype r f kind.Untyped) [] m n same is = absurd is
untypes_on (Retype r f kind.Untyped) (range ∷ k ∷ ks) m n same is = absurd is
untypes_on (Retype r f kind.User) ks m n same is = absurd is
untypes_on (Retype r f kind.Kernel) ks m n same is = absurd is
untypes_on call ks m n same is = absurd is

-- What it may step on.
pub untype_changes : (call : Call) (ks : List Capability) (f : ℕ) → IsUntype call ks f → changes_frames call ≡ true
untype_changes call ks f is = ap changes_frames is.call_is

pub untype_looks : (call : Call) (ks : List Capability) (f : ℕ) → IsUntype call ks f → IsTrue (looks_at_frames call)
untype_looks call ks f is = subst (λ x. IsTrue (looks_at_frames x)) (sym is.call_is) refl

pub untype_counts : (call : Call) (ks : List Capability) (f : ℕ) → IsUntype call ks f → IsTrue (counts_references call)
untype_counts call ks f is = subst (λ x. IsTrue (counts_references x)) (sym is.call_is) refl

pub untype_raises : (call : Call) (ks : List Capability) (f : ℕ) → IsUntype call ks f → IsTrue (raises_clock call)
untype_raises call ks f is = subst (λ x. IsTrue (raises_clock x)) (sym is.call_is) refl

pub untype_argument : (call : Call) (ks : List Capability) (f : ℕ) → IsUntype call ks f → is_one_of f (frame_argument call) ≡ true
untype_argument call ks f is = ap (λ x. is_one_of f (frame_argument x)) is.call_is ∙ ap (λ b. b || false) (eq-eqb f f refl)

-- A frame that is something.
pub typed_is : (x : Frame) (v : FrameWord) → v ≡ frame_value x → v.kind ≢ kind.Untyped → is_untyped x ≡ false
typed_is Untyped v same other = absurd (other (ap (λ y. y.kind) same))
typed_is User v same other = refl
typed_is (Kernel object) v same other = refl

module _ (setup : Setting) (setting : IsSetting setup) (cores : ℕ → Core) (t : Trace) (stands : Invariant setup cores t) (c : ℕ)
    (here : c < setup.cores)
    (a : ActiveCall) (active : (cores c).active ≡ Some a) (m : Untyping) (stage_is : a.stage ≡ Undecided (Act (untype_act m)))
    (has : KnowsUndecided setup t c (cores c).own.table a (Act (untype_act m))) where
  abbrev s : State
  s = state_after setup t

  abbrev f : ℕ
  f = m.frame

  abbrev knows : KnowsUntyping setup t c a.call a.found m
  knows = has.knows.knows

  pub is : IsUntype a.call a.found f
  is = untype_of a.call a.found m knows.untypes

  pub opens : phase_at a.call a.stage ≡ Open a.call
  opens = ap (phase_at a.call) stage_is

  pub is_open : phase t c ≡ Open a.call
  is_open = (call_is setup setting cores t stands c here a active).phase ∙ opens

  pub room : (cores c).own.made < (cores c).own.limit
  room = subst (HasRoom (cores c).own.made (cores c).own.limit) stage_is (is_active setup setting cores t stands c here a active).room

  pub unspent : are_calls_spent s c ≡ false
  unspent = not_spent setup (cores c) t c (core_is setup setting cores t stands c here a active) room

  pub fits : UntypingFits (cores c).own.layout m
  fits = subst (StageFits (cores c).own.layout) stage_is (is_active setup setting cores t stands c here a active).stage

  pub below : f < s.limits.frames
  below = subst (λ (n : ℕ). f < n) (ap (λ x. x.frames) (stands.each c here).shape ∙ sym (ap (λ l. l.frames) (limits_of setup t))) fits.frame

  pub leads : Leads (LeadsIn s c) (plan_for a.call).names [] a.found
  leads = plan_leads setup setting cores t stands c here a active has.names

  pub by_plan : GoesBy (own_pages s c) (plan_for a.call) (rule_of s c a.call)
  by_plan = goes_by setup setting cores t stands c here a active has.names

  pub held_at : (at : UntypingAt) → m.at ≡ at → holds_in (Some a) ≡ holds_untyping f at (holds_counts None a.counts)
  held_at at at_is = ap (λ stage. holds_at stage a.counts) stage_is ∙ ap (λ x. holds_untyping f x (holds_counts None a.counts)) at_is

  pub holds_is : (at : UntypingAt) → m.at ≡ at → holds (cores c) ≡ holds_untyping f at (holds_counts None a.counts)
  holds_is at at_is = ap holds_in active ∙ held_at at at_is

  pub knows_at : (at : UntypingAt) → m.at ≡ at → KnowsUntypingAt setup t c f at
  knows_at at at_is = subst (KnowsUntypingAt setup t c f) at_is knows.at

  -- before its object is known to be empty it has acquired no count
  pub none_acquired : (at : UntypingAt) → m.at ≡ at → untyping_dues at ≡ [] → a.counts ≡ []
  none_acquired at at_is no_dues = none_of a.counts (sym no_dues ∙ ap untyping_dues (sym at_is) ∙ has.knows.all)
    where
      none_of : (xs : List Acquired) → [] ≡ map due_of xs → xs ≡ []
      none_of [] h = refl
      none_of (x ∷ xs) h = absurd (cc)

  -- its frame's words are in the footprint
  pub footprint : is_one_of f (footprint_frames s c a.call) ≡ true
  footprint = argument_footprint s c a.call f (untype_argument a.call a.found f is)

  -- what is left of the rule after its name
  abbrev pub causes : List Cause
  causes =
      outside (found is.range) f
      ∷ is_untyped_now s f
      ∷ When (nat_lt 0 (refs s f)) (Reply.Referenced (refs s f))
      ∷ WaitedFor (FrameOf f)
      ∷ Unflushed (FrameOf f)
      ∷ When (not (is_empty s f (s.frame f))) Reply.NotEmpty
      ∷ []

  abbrev pub change : Change
  change = does c s no_value (retypes f kind.Untyped ∷ [])

  pub left : rule_after (rule_of s c a.call) a.found ≡ Does causes no_value (retypes f kind.Untyped ∷ [])
  left = ap (λ x. rule_after (rule_of s c x) a.found) is.call_is
      ∙ ap (rule_after (rule_of s c (Retype is.name f kind.Untyped))) is.found_is

  pub may_refuse : (r : Reply) → RuleMay s c (Does causes no_value (retypes f kind.Untyped ∷ [])) r → RuleMay s c (rule_of s c a.call) r
  may_refuse r may = left_may s c (own_pages s c) (plan_for a.call) (rule_of s c a.call) a.found by_plan leads r
      (subst (λ x. RuleMay s c x r) (sym left) may)

  -- the first cause that stands, of those of its own: what the frame is, its references, who waits, who has not flushed, and its object
  pub by_causes : (kind_cause ref_cause wait_cause flush_cause empty_cause : Option Reply)
      → refusal_of s c (is_untyped_now s f) ≡ kind_cause
      → refusal_of s c (When (nat_lt 0 (refs s f)) (Reply.Referenced (refs s f))) ≡ ref_cause
      → waits_of s c (FrameOf f) ≡ wait_cause → flushes_of s (FrameOf f) ≡ flush_cause
      → refusal_of s c (When (not (is_empty s f (s.frame f))) Reply.NotEmpty) ≡ empty_cause
      → change_of s c a.call
      ≡ unless (first_of kind_cause (first_of ref_cause (first_of wait_cause (first_of flush_cause (first_of empty_cause None))))) change
  by_causes kind_cause ref_cause wait_cause flush_cause empty_cause kind_is ref_is wait_is flush_is empty_is =
      outcome_left s c (own_pages s c) (plan_for a.call) (rule_of s c a.call) a.found by_plan leads ∙ ap (outcome s c) left
      ∙ ap (λ b. unless (first_of (if not b then Some Reply.OutOfRange else None) (first_cause s c rest)) change) is.within
      ∙ ap (λ o. unless (first_of o (first_cause s c later)) change) kind_is
      ∙ ap (λ o. unless (first_of kind_cause (first_of o (first_cause s c latest))) change) ref_is
      ∙ ap (λ o. unless (first_of kind_cause (first_of ref_cause (first_of o (first_cause s c (Unflushed (FrameOf f) ∷ last))))) change)
      wait_is
      ∙ ap (λ o. unless (first_of kind_cause (first_of ref_cause (first_of wait_cause (first_of o (first_cause s c last))))) change)
      flush_is
      ∙ ap (λ o. unless (first_of kind_cause (first_of ref_cause (first_of wait_cause (first_of flush_cause (first_of o None))))) change)
      empty_is
    where
      last : List Cause
      last = When (not (is_empty s f (s.frame f))) Reply.NotEmpty ∷ []

      latest : List Cause
      latest = WaitedFor (FrameOf f) ∷ Unflushed (FrameOf f) ∷ When (not (is_empty s f (s.frame f))) Reply.NotEmpty ∷ []

      later : List Cause
      later = When (nat_lt 0 (refs s f)) (Reply.Referenced (refs s f)) ∷ WaitedFor (FrameOf f) ∷ Unflushed (FrameOf f)
          ∷ When (not (is_empty s f (s.frame f))) Reply.NotEmpty ∷ []

      rest : List Cause
      rest = is_untyped_now s f ∷ When (nat_lt 0 (refs s f)) (Reply.Referenced (refs s f)) ∷ WaitedFor (FrameOf f) ∷ Unflushed (FrameOf f)
          ∷ When (not (is_empty s f (s.frame f))) Reply.NotEmpty ∷ []

  pub kind_none : is_untyped (s.frame f) ≡ false → refusal_of s c (is_untyped_now s f) ≡ None
  kind_none typed = ap (λ b. if is_frame s f && b then Some Reply.FrameKind else None) typed ∙ by (is_frame s f)
    where
      by : (b : Bool) → (if b && false then Some Reply.FrameKind else None) ≡ None
      by true = refl
      by false = refl

  pub kind_some : is_untyped (s.frame f) ≡ true → (is_frame s f && is_untyped (s.frame f)) ≡ true
  kind_some untyped = ap (λ b. b && is_untyped (s.frame f)) (lt-ltb f s.limits.frames below) ∙ untyped

  pub refs_none : refs s f ≡ 0 → refusal_of s c (When (nat_lt 0 (refs s f)) (Reply.Referenced (refs s f))) ≡ None
  refs_none zero = ap (λ (n : ℕ). if nat_lt 0 n then Some (Reply.Referenced n) else None) zero

  -- what the frame's word shows, where no core has marked it
  pub frame_says : marked_by setup t (FrameAt f) ≡ None → frame_of_word (last_left setup t (FrameAt f)) ≡ Some (frame_value (s.frame f))
  frame_says unmarked =
      subst (λ o. frame_of_word (settled_by o (held_by cores) (FrameAt f) (last_left setup t (FrameAt f))) ≡ Some (frame_value (s.frame f)))
      unmarked (stands.words (FrameAt f))

  -- what a refusal has to store of the frame's word, as it was found
  pub leaves_word : (word : ℕ) (v : FrameWord) → SaysTyped word v → KnowsUnmark a.call f word
  leaves_word word v met = record {
    changes = untype_changes a.call a.found f is;
    argument = untype_argument a.call a.found f is;
    bare = ap frame_mark met.says ∙ met.mark;
    small =
        let spells = frames.spelling.spells word v met.says in
        subst (λ (n : ℕ). n < 2 ^ 64) spells.1 (frames.spelling.small v spells.0);
  }

  -- a load of the frame's word is one of the call, and so is a step on one of its counts
  pub loading : OnlyLooks setup t c a.call (LoadOf (FrameAt f))
  loading = record {
    of_call = record { moves = untype_looks a.call a.found f is; footprint = inl footprint };
    kept = refl;
    apart = λ d. refl;
  }
