-- A user frame stays one while a call holds its count of it: only a retype to untyped makes it another, and that by the core which holds
-- all counters of the frame.
use Rattle.kept_facts.proofs.{◌≡◌, ◌≢◌, ◌⊎◌, ◌<◌, ℕ, inl, inr, Bool, true, false, ◌∷◌, Option, Some, None, refl, sym, ◌∙◌, ap, subst}
use Rattle.kept_facts.proofs.{IsTrue, All, false≢true, Setting, IsSetting, Call, Retype, Reply, count_of_word, CountAt, word_of, Frame}
use Rattle.kept_facts.proofs.{User, Kernel, Blank, Pages, Pleaf, FrameOf, PlaceOf, State, is_node, MayReply, ends_by, ends, opened}
use Rattle.kept_facts.proofs.{counters, MayDecide, MayFollow, IsLegal, marked_by, count_mark, ends_at, ends_in, Step, Trace, Phase}
use Rattle.kept_facts.proofs.{Open, phase, after_enter, state_after, state_entered, state_decided, state_returned, state_before, last_left}
use Rattle.kept_facts.proofs.{cases_word, open_inj, last_left-here, last_left-there, untypes, Make as make_call, entered_events, KeepsUsers}
use Rattle.kept_facts.specs.kernel_invariant.proofs.{ends_by_rule, is_typed, TurnsIn, decided_turns}
use Rattle.kept_facts.specs.kernel_history.proofs.{KeepsMarked, counter_all, Make}
use Rattle.{kept_facts.proofs.FrameKind, kept_facts.specs.kernel_rules.specs.GracePeriods.is_translated}
use Rattle.{kept_facts.specs.trace_laws.proofs.Opens.opens}

-- A step that ends the grace period of a frame, and so makes it untyped, is by a core that holds all counters of the frame.
abbrev pub SparesCounted : Setting → Trace → Step → Type 0
SparesCounted setup t e =
    (f : ℕ) → ends_at t e (FrameOf f) ≡ true → All (λ k. marked_by setup t (CountAt f k) ≡ Some e.core) (counters setup.cores)

-- So is one that ends none.
pub spares_none : (setup : Setting) (t : Trace) (e : Step) → ((f : ℕ) → ends_at t e (FrameOf f) ≡ false) → SparesCounted setup t e
spares_none setup t e none f is = absurd (false≢true (sym (none f) ∙ is))

-- A call that makes no frame untyped ends the grace period of no frame.
ends_none : (call : Call) → untypes call ≡ false → (f : ℕ) → ends_by call (FrameOf f) ≡ false
ends_none (Retype r g FrameKind.Untyped) other f = absurd (false≢true (sym other))
ends_none (make_call Make.Table r g u b) other f = refl
ends_none _ other f = refl

ends_no_frame : (call : Call) (r : Reply) → untypes call ≡ false → (f : ℕ) → ends call r (FrameOf f) ≡ false
ends_no_frame call (Reply.Ok v) other f = ends_none call other f
ends_no_frame call r other f = refl

ends_nothing : (o : Option Reply) (call : Call) → untypes call ≡ false → (f : ℕ) → ends_in o (Open call) (FrameOf f) ≡ false
ends_nothing None call other f = refl
ends_nothing (Some r) call other f = ends_no_frame call r other f

entered_frame : (o : Option Call) (s : State) (c f : ℕ) → (state_entered o s c).frame f ≡ s.frame f
entered_frame None s c f = refl
entered_frame (Some call) s c f = refl

returned_frame : (q : Option Reply) (s : State) (c f : ℕ) → (state_returned q s c).frame f ≡ s.frame f
returned_frame None s c f = refl
returned_frame (Some r) s c f = refl

-- What a step of this call must show for that: the call makes no frame untyped, or its core holds the counters of the frame that it does.
abbrev pub SparesBy : Setting → Trace → Step → Call → Type 0
SparesBy setup t e call = (untypes call ≡ false) ⊎ SparesCounted setup t e

pub spared : (setup : Setting) (t : Trace) (e : Step) (call : Call) → after_enter e.enters (phase t e.core) ≡ Open call
    → SparesBy setup t e call → SparesCounted setup t e
spared setup t e call at by = elim by [
  | inl other ↦ spares_none setup t e (λ f. ap (λ p. ends_in e.decides p (FrameOf f)) at ∙ ends_nothing e.decides call other f)
  | inr spares ↦ spares
]

module _ (setup : Setting) (setting : IsSetting setup) (t : Trace) (legal : IsLegal setup t) (e : Step) (follows : MayFollow setup t e)
    (f : ℕ) where
  abbrev before : State
  before = state_before setup t e

  abbrev entered : Phase
  entered = after_enter e.enters (phase t e.core)

  -- a step that does not end its grace period leaves a user frame
  user_stays : ends_at t e (FrameOf f) ≡ false → (state_after setup t).frame f ≡ User → (state_after setup (e ∷ t)).frame f ≡ User
  user_stays none user = returned_frame e.returns (state_decided e.decides entered before e.core) e.core f
      ∙ by_phase e.decides refl entered refl follows.decides none
    where
      user_before : before.frame f ≡ User
      user_before = entered_frame e.enters (state_after setup t) e.core f ∙ user

      turned : (call : Call) (r : Reply) → ends call r (FrameOf f) ≡ false → (y : Frame) → TurnsIn call r f (before.frame f) y
          → (ends call r (PlaceOf f 0) ≡ true → before.frame f ≡ Kernel Blank) → y ≡ User
      turned call r ends_not y turns blank = elim (turns.typed (ap is_typed user_before)) [
        | inl ends ↦ absurd (false≢true (sym ends_not ∙ ends))
        | inr now ↦ by_kind y refl (now.1 ∙ ap is_translated user_before)
      ]
        where
          not_blank : User ≡ Kernel Blank → ⊥
          not_blank h = cc

          node_case : IsTrue (is_node y) → y ≡ User
          node_case n = elim (turns.node 0 n) [
            | inl ends ↦ absurd (not_blank (sym user_before ∙ blank ends))
            | inr same ↦ same ∙ user_before
          ]

          by_kind : (z : Frame) → y ≡ z → is_translated z ≡ true → y ≡ User
          by_kind User is h = is
          by_kind (Kernel Pages) is h = node_case (ap is_node is)
          by_kind (Kernel Pleaf) is h = node_case (ap is_node is)
          by_kind _ is h = absurd (false≢true h)

      by_phase : (o : Option Reply) → e.decides ≡ o → (q : Phase) → entered ≡ q → MayDecide setup t e o q
          → ends_in o q (FrameOf f) ≡ false
          → (state_decided o q before e.core).frame f ≡ User
      by_phase (Some r) is (Open call) at may ends_not =
          turned call r ends_not _
          (decided_turns before (opened (entered_events t e)) e.core (opens setup setting t legal e follows call at) call r f)
          (λ h. ends_by_rule before (opened (entered_events t e)) e.core (opens setup setting t legal e follows call at) call r
          (PlaceOf f 0)
          (subst (λ k. MayReply before e.core k r) (open_inj may.call call may.is_open) may.permitted) h)
      by_phase _ is _ at may ends_not = user_before

-- They stay at an own step that leaves the frames, and each count that the core has marked.
pub users_kept : (setup : Setting) (t : Trace) (e : Step) (c : ℕ)
    → ((f : ℕ) → (state_after setup (e ∷ t)).frame f ≡ (state_after setup t).frame f)
    → ((f k : ℕ) → marked_by setup t (CountAt f k) ≡ Some c → last_left setup (e ∷ t) (CountAt f k) ≡ last_left setup t (CountAt f k))
    → KeepsUsers setup t e c
users_kept setup t e c frames counts f had = record {
  user = frames f ∙ had.user;
  held = ap (λ (n : ℕ). count_mark (count_of_word n)) (counts f c had.held) ∙ had.held;
}

-- A user frame of which a core holds its count stays one at a step of another, which leaves the count held.
pub users_stay : (setup : Setting) → IsSetting setup → (t : Trace) → IsLegal setup t → (e : Step) → MayFollow setup t e
    → KeepsMarked setup t e → SparesCounted setup t e → (c : ℕ) → c < setup.cores → c ≢ e.core → KeepsUsers setup t e c
users_stay setup setting t legal e follows keeps spares c here other f had = record {
  user = by (ends_at t e (FrameOf f)) refl;
  held = ap (λ (n : ℕ). count_mark (count_of_word n)) (elim (cases_word (CountAt f c) (word_of e.move)) [
    | inl at ↦ last_left-here setup (CountAt f c) e t at ∙ keeps c (ap (marked_by setup t) (sym at) ∙ had.held) other
        ∙ follows.found ∙ ap (last_left setup t) (sym at)
    | inr there ↦ last_left-there setup (CountAt f c) e t there
  ]) ∙ had.held;
}
  where
    same_core : (x y : ℕ) → Some x ≡ Some y → x ≡ y
    same_core x y h = cc

    by : (b : Bool) → ends_at t e (FrameOf f) ≡ b → (state_after setup (e ∷ t)).frame f ≡ User
    by false is = user_stays setup setting t legal e follows f is had.user
    by true is = absurd (other (same_core c e.core (sym had.held ∙
        counter_all (λ k. marked_by setup t (CountAt f k) ≡ Some e.core) setup.cores c here (spares f is))))
