-- Worlds keep their ticks, but for what a core does that runs across.
use Rattle.authority_laws.specs as low
use low.kernel_laws.proofs.{◌≡◌, ◌⊎◌, inl, inr, ℕ, ◌+◌, ◌-◌, ◌<◌, ◌≤◌, min, arith, Bool, true, false, not, refl, sym, ◌∙◌, ap, subst}
use low.kernel_laws.proofs.{IsTrue, List, [], ◌∷◌, ◌++◌, Some, None, false≢true, true≢false, Setting, IsSetting, Kind, Call, Tick, Reply}
use low.kernel_laws.proofs.{ThreadFields, TcapFields, Blank, Comp, Thread, Tcap, Frame, Untyped, Kernel, Core, State, put, with_frame}
use low.kernel_laws.proofs.{with_core, tcap_in, outstanding, only, fits, with_thread, running, tcap_at, with_tcap, with_budget, charge}
use low.kernel_laws.proofs.{Edit, Fill, Node, Become, Untype, Component, Push, Pop, Cache, Charge, Move, Merge, Give, edited, after_edits}
use low.kernel_laws.proofs.{owed_by, state_by, MayReply, Event, Enters, Decides, Returns, after, IsRun, put_same, put_other, sum_one}
use low.kernel_laws.proofs.{put_all, only_is, IsOpen, opened, is_bare, AreLater, Calm}
use Rattle.world_laws.specs.{works_in, gates, OnlyGates, AreApart, counted_if, ticks_in, RunsAcross}
use Rattle.authority_laws.proofs.{LedTo, By, EachBy, used_at, decided_from}
use Rattle.world_laws.proofs.{Outside.sealed_for_gates, Outside.led_frame, Leaving.opened_call, Leaving.outside, Stretches.apart_for_good}
use low.{kernel_invariant.proofs.sum_same, kernel_invariant.proofs.usable_good, kernel_rules.specs.Edits.Switch}
use low.{kernel_rules.specs.Edits.Flush, kernel_invariant.proofs.SoundCalls.tcap_below, kernel_laws.proofs.Back.within_spent}
use Rattle.{world_laws.specs.Time.ActsAcross, world_laws.specs.Time.TimeOfWorlds}

abbrev budget : Frame → ℕ
budget x = (tcap_in x).budget

bare_budget : (x : Frame) → IsTrue (is_bare x) → budget x ≡ 0
bare_budget (Kernel Blank) h = refl
bare_budget Untyped h = refl
bare_budget _ h = absurd (false≢true h)

thread_budget : (x : Frame) (t : ThreadFields) → budget (with_thread x t) ≡ budget x
thread_budget (Kernel (Thread u)) t = refl
thread_budget _ t = refl

put_budget : (x : Frame) (q : TcapFields) → IsTrue (fits Kind.Tcap x) → budget (with_tcap x q) ≡ q.budget
put_budget (Kernel (Tcap p)) q h = refl
put_budget _ q h = absurd (false≢true h)

same_budget : (x : Frame) (qs : List (ℕ × ℕ)) → budget (with_tcap x (record (tcap_in x) { qualities = qs })) ≡ budget x
same_budget (Kernel (Tcap p)) qs = refl
same_budget _ qs = refl

-- ---- sums

module _ (w : ℕ → Bool) where
  frame_same : (u : State) (f : ℕ) (y : Frame) → budget y ≡ budget (u.frame f) → ticks_in w (with_frame u f y) ≡ ticks_in w u
  frame_same u f y e =
      let a = sum_same (λ g. counted_if (w g) (budget (u.frame g))) (λ g. counted_if (w g) (budget (put u.frame f y g))) u.limits.frames
      (λ g below. put_all (λ g x. counted_if (w g) (budget x) ≡ counted_if (w g) (budget (u.frame g))) u.frame f y g
      (λ same. ap (counted_if (w g)) (e ∙ ap (λ n. budget (u.frame n)) (sym same))) (λ other. refl)) in
      omega (arith, a)

  frame_put : (u : State) (f : ℕ) (y : Frame) → f < u.limits.frames
      → ticks_in w (with_frame u f y) + counted_if (w f) (budget (u.frame f)) ≡ ticks_in w u + counted_if (w f) (budget y)
  frame_put u f y below =
      let a = sum_one (λ g. counted_if (w g) (budget (u.frame g))) (λ g. counted_if (w g) (budget (put u.frame f y g)))
      u.limits.frames f below
      (λ g other. ap (λ x. counted_if (w g) (budget x)) (put_other u.frame f y g other)) in
      let b : counted_if (w f) (budget (put u.frame f y f)) ≡ counted_if (w f) (budget y) =
      ap (λ x. counted_if (w f) (budget x)) (put_same u.frame f y f refl) in
      omega (arith, a, b)

  core_same : (u : State) (c : ℕ) (k : Core) → w k.thread ≡ w (u.core c).thread → outstanding k ≡ outstanding (u.core c)
      → ticks_in w (with_core u c k) ≡ ticks_in w u
  core_same u c k side left =
      let a = sum_same (λ d. counted_if (w (u.core d).thread) (outstanding (u.core d)))
      (λ d. counted_if (w (put u.core c k d).thread) (outstanding (put u.core c k d))) u.limits.cores
      (λ d below. put_all (λ d x. counted_if (w x.thread) (outstanding x) ≡ counted_if (w (u.core d).thread) (outstanding (u.core d)))
      u.core c k d
      (λ same. ap (λ b. counted_if b (outstanding k)) side ∙ ap (counted_if (w (u.core c).thread)) left
      ∙ ap (λ n. counted_if (w (u.core n).thread) (outstanding (u.core n))) (sym same)) (λ other. refl)) in
      omega (arith, a)

  core_put : (u : State) (c : ℕ) (k : Core) → c < u.limits.cores
      → ticks_in w (with_core u c k) + counted_if (w (u.core c).thread) (outstanding (u.core c))
      ≡ ticks_in w u + counted_if (w k.thread) (outstanding k)
  core_put u c k below =
      let a = sum_one (λ d. counted_if (w (u.core d).thread) (outstanding (u.core d)))
      (λ d. counted_if (w (put u.core c k d).thread) (outstanding (put u.core c k d))) u.limits.cores c below
      (λ d other. ap (λ (x : Core). counted_if (w x.thread) (outstanding x)) (put_other u.core c k d other)) in
      let b : counted_if (w (put u.core c k c).thread) (outstanding (put u.core c k c)) ≡ counted_if (w k.thread) (outstanding k) =
      ap (λ (x : Core). counted_if (w x.thread) (outstanding x)) (put_same u.core c k c refl) in
      omega (arith, a, b)

-- Ticks that are charged on one side, and ticks that move on one side.
charged_sum : (b : Bool) (t u s all left spent m : ℕ) → u + counted_if b all ≡ s + counted_if b left
    → t + counted_if b spent ≡ u + counted_if b (spent + m) → left + m ≡ all → t ≡ s
charged_sum true t u s all left spent m p q r = omega (arith, p, q, r)
charged_sum false t u s all left spent m p q r = omega (arith, p, q)

moved_sum : (b : Bool) (t u s from left had m : ℕ) → u + counted_if b from ≡ s + counted_if b left
    → t + counted_if b had ≡ u + counted_if b (had + m) → left + m ≡ from → t ≡ s
moved_sum = charged_sum

given_sum : (b : Bool) (t u s all left m : ℕ) → u + counted_if b all ≡ s + counted_if b (all + m)
    → t + counted_if b left ≡ u + counted_if b (left - m) → m ≤ left → t ≡ s
given_sum true t u s all left m p q enough = omega (arith, p, q, enough)
given_sum false t u s all left m p q enough = omega (arith, p, q)

-- ---- edits

module _ (w : ℕ → Bool) (call : Call) (s : State) (c : ℕ) (o : ℕ → Bool) (h : IsOpen s o c) (b : Bool)
    (side : (j : Kind) (f : ℕ) → gates j ≡ false → only Kind.Range j ≡ false → LedTo call s c (only j) f → w f ≡ b)
    (of_thread : w (s.core c).thread ≡ b) (of_tcap : w (s.core c).tcap ≡ b) (within : (s.core c).back ≤ (s.core c).spent) where
  below : c < s.limits.cores
  below = (h.sound.inside c h.is).1

  tcap_fit : (f : ℕ) → LedTo call s c (only Kind.Tcap) f → IsTrue (fits Kind.Tcap (s.frame f))
  tcap_fit f l =
      let x = used_at s c l.cap l.may in
      subst (λ n. IsTrue (fits Kind.Tcap (s.frame n))) l.frame
      (subst (λ i. IsTrue (fits i (s.frame l.cap.frame))) (only_is Kind.Tcap l.cap.kind l.kind)
      (usable_good s o c x.at l.cap h.sound h.is x.from).fit)

  own_fit : IsTrue (fits Kind.Tcap (s.frame (s.core c).tcap))
  own_fit = (h.sound.cores c below).1

  least : (x y : ℕ) → min x y ≤ y
  least x y = omega arith

  charge_ticks : (n : ℕ) → ticks_in w (edited c s (Charge n)) ≡ ticks_in w s
  charge_ticks n =
      let q : ℕ = (s.core c).tcap in
      let due : ℕ = n + (s.core c).owed in
      let m : ℕ = charge s c due in
      let all : ℕ = (tcap_at s q).budget in
      let fields : TcapFields = record (tcap_at s q) { budget = all - m } in
      let u : State = with_budget s q (all - m) in
      let k : Core = record (s.core c) { spent = (s.core c).spent + m; owed = due - m } in
      let p = frame_put w s q (with_tcap (s.frame q) fields) (tcap_below s o q h.sound own_fit) in
      let r = core_put w u c k below in
      let small : m ≤ all = least due all in
      let e : budget (with_tcap (s.frame q) fields) ≡ all - m = put_budget (s.frame q) fields own_fit in
      let left : ℕ = outstanding (s.core c) in
      let more : outstanding k ≡ left + m = omega (arith, within) in
      charged_sum b (ticks_in w (with_core u c k)) (ticks_in w u) (ticks_in w s) all (all - m) left m
      (subst (λ x. ticks_in w u + counted_if x all ≡ ticks_in w s + counted_if x (all - m)) of_tcap
      (p ∙ ap (λ n. ticks_in w s + counted_if (w q) n) e))
      (subst (λ x. ticks_in w (with_core u c k) + counted_if x left ≡ ticks_in w u + counted_if x (left + m)) of_thread
      (r ∙ ap (λ n. ticks_in w u + counted_if (w (s.core c).thread) n) more))
      (omega (arith, small))

  give_ticks : (f m : ℕ) → By call s c (Give f m) → ticks_in w (edited c s (Give f m)) ≡ ticks_in w s
  give_ticks f m by =
      let all : ℕ = (tcap_at s f).budget in
      let fields : TcapFields = record (tcap_at s f) { budget = all + m } in
      let u : State = with_budget s f (all + m) in
      let k : Core = record (s.core c) { back = (s.core c).back + m } in
      let left : ℕ = outstanding (s.core c) in
      let fit = tcap_fit f by.0 in
      let p = frame_put w s f (with_tcap (s.frame f) fields) (tcap_below s o f h.sound fit) in
      let r = core_put w u c k below in
      let e : budget (with_tcap (s.frame f) fields) ≡ all + m = put_budget (s.frame f) fields fit in
      let enough = by.1 in
      let less : outstanding k ≡ left - m = omega (arith, enough) in
      given_sum b (ticks_in w (with_core u c k)) (ticks_in w u) (ticks_in w s) all left m
      (subst (λ x. ticks_in w u + counted_if x all ≡ ticks_in w s + counted_if x (all + m)) (side Kind.Tcap f refl refl by.0)
      (p ∙ ap (λ n. ticks_in w s + counted_if (w f) n) e))
      (subst (λ x. ticks_in w (with_core u c k) + counted_if x left ≡ ticks_in w u + counted_if x (left - m)) of_thread
      (r ∙ ap (λ n. ticks_in w u + counted_if (w (s.core c).thread) n) less))
      enough

  move_ticks : (a d m : ℕ) → By call s c (Move a d m) → ticks_in w (edited c s (Move a d m)) ≡ ticks_in w s
  move_ticks a d m by =
      let all : ℕ = (tcap_at s a).budget in
      let had : ℕ = (tcap_at s d).budget in
      let less : TcapFields = record (tcap_at s a) { budget = all - m } in
      let u : State = with_budget s a (all - m) in
      let more : TcapFields = record (tcap_at u d) { budget = had + m } in
      let same : u.frame d ≡ s.frame d = put_other s.frame a (with_tcap (s.frame a) less) d (λ e. by.2.apart (sym e)) in
      let from_fit = tcap_fit a by.0 in
      let onto_fit = tcap_fit d by.1 in
      let p = frame_put w s a (with_tcap (s.frame a) less) (tcap_below s o a h.sound from_fit) in
      let r = frame_put w u d (with_tcap (u.frame d) more) (tcap_below s o d h.sound onto_fit) in
      let e : budget (with_tcap (s.frame a) less) ≡ all - m = put_budget (s.frame a) less from_fit in
      let g : budget (with_tcap (u.frame d) more) ≡ had + m =
      put_budget (u.frame d) more (subst (λ x. IsTrue (fits Kind.Tcap x)) (sym same) onto_fit) in
      let was : budget (u.frame d) ≡ had = ap budget same in
      let enough = by.2.enough in
      let t : State = with_frame u d (with_tcap (u.frame d) more) in
      moved_sum b (ticks_in w t) (ticks_in w u) (ticks_in w s) all (all - m) had m
      (subst (λ x. ticks_in w u + counted_if x all ≡ ticks_in w s + counted_if x (all - m)) (side Kind.Tcap a refl refl by.0)
      (p ∙ ap (λ n. ticks_in w s + counted_if (w a) n) e))
      (subst (λ x. ticks_in w t + counted_if x had ≡ ticks_in w u + counted_if x (had + m)) (side Kind.Tcap d refl refl by.1)
      (ap (λ n. ticks_in w t + counted_if (w d) n) (sym was) ∙ r ∙ ap (λ n. ticks_in w u + counted_if (w d) n) g))
      (omega (arith, enough))

  edit_ticks : (e : Edit) → By call s c e → ticks_in w (edited c s e) ≡ ticks_in w s
  edit_ticks (Node f object) by = frame_same w s f (Kernel object) (by.2.poor ∙ sym (bare_budget (s.frame f) by.1))
  edit_ticks (Become f x) by = frame_same w s f x (by.2.poor ∙ sym (bare_budget (s.frame f) by.1))
  edit_ticks (Untype f) by = frame_same w s f Untyped (sym by.1)
  edit_ticks (Component f k) by = frame_same w s f (Kernel (Comp k)) (sym (bare_budget (s.frame f) by.1))
  edit_ticks (Push f) by = frame_same w s (s.core c).thread _ (thread_budget (s.frame (s.core c).thread) _)
  edit_ticks Pop by = frame_same w s (s.core c).thread _ (thread_budget (s.frame (s.core c).thread) _)
  edit_ticks (Switch f q) by =
      let idle : State = running s (s.core c).thread None in
      core_same w (running idle f (Some c)) c (record (s.core c) { thread = f; tcap = q })
      (side Kind.Thread f refl refl by.led ∙ sym of_thread) refl
      ∙ frame_same w idle f _ (thread_budget (idle.frame f) _)
      ∙ frame_same w s (s.core c).thread _ (thread_budget (s.frame (s.core c).thread) _)
  edit_ticks (Cache t) by = core_same w s c _ refl refl
  edit_ticks Flush by = core_same w s c _ refl refl
  edit_ticks (Charge n) by = charge_ticks n
  edit_ticks (Move a d m) by = move_ticks a d m by
  edit_ticks (Merge f qs) by = frame_same w s f _ (same_budget (s.frame f) qs)
  edit_ticks (Give f m) by = give_ticks f m by
  edit_ticks _ by = refl

  later_ticks : (t : State) (es : List Edit) → AreLater es → ticks_in w (after_edits c t es) ≡ ticks_in w t
  later_ticks t [] are = refl
  later_ticks t (Fill at k ∷ es) are = later_ticks (edited c t (Fill at k)) es are
  later_ticks t (Merge f qs ∷ es) are = later_ticks (edited c t (Merge f qs)) es are ∙ frame_same w t f _ (same_budget (t.frame f) qs)
  later_ticks t (_ ∷ es) are = absurd are

  edits_ticks : (es : List Edit) → Calm c s es → EachBy call s c es → ticks_in w (after_edits c s es) ≡ ticks_in w s
  edits_ticks [] calm by = refl
  edits_ticks (e ∷ es) calm by = later_ticks (edited c s e) es calm.2 ∙ edit_ticks e by.0

  pub decided_ticks : (r : Reply) → MayReply s c call r → ticks_in w (state_by s c call r) ≡ ticks_in w s
  decided_ticks = decided_from s c o h call (λ t. ticks_in w t ≡ ticks_in w s) refl
      (λ t k thread spent q. core_same w t c k (ap w thread) spent ∙ q) (λ t g q. q) (λ es calm by. edits_ticks es calm by)

-- ---- parts of runs

-- A refusal charges nothing.
owed_ticks : (w : ℕ → Bool) (s : State) (c : ℕ) (call : Call) → ticks_in w (owed_by s c call) ≡ ticks_in w s
owed_ticks w s c (Tick n) = core_same w s c _ refl refl
owed_ticks w s c _ = refl

not_false : (b : Bool) → not b ≡ false → b ≡ true
not_false true e = refl
not_false false e = absurd (true≢false e)

-- Two sides are one, or the one is not the other.
sides : (a b : Bool) → (a ≡ b) ⊎ (a ≡ not b)
sides true true = inl refl
sides true false = inr refl
sides false true = inr refl
sides false false = inl refl

module _ (setting : Setting) (lim : IsSetting setting) (events : List Event) (c : ℕ) (call : Call) (r : Reply)
    (run : IsRun setting (Decides c call r ∷ events)) (w : ℕ → Bool) (apart : AreApart w gates (after setting events)) where
  abbrev now : State
  now = after setting events

  side_of : (b : Bool) → w (works_in now c) ≡ b → (j : Kind) (f : ℕ) → gates j ≡ false → only Kind.Range j ≡ false
      → LedTo call now c (only j) f → w f ≡ b
  side_of false is j f crosses plain led =
      led_frame w now c (outside setting lim events c call r run w apart.inside is) j f crosses plain led
  side_of true is j f crosses plain led = not_false (w f)
      (led_frame (λ g. not (w g)) now c (outside setting lim events c call r run (λ g. not (w g)) apart.outside (ap not is)) j f crosses
      plain led)

  open_at : (b : Bool) → w (works_in now c) ≡ b → IsOpen now (opened events) c
  open_at false is = opened_call setting lim events c call r run w apart.inside is
  open_at true is = opened_call setting lim events c call r run (λ g. not (w g)) apart.outside (ap not is)

  -- a core that does not run across
  one_side : w (now.core c).thread ≡ w (works_in now c) → w (now.core c).tcap ≡ w (works_in now c)
      → ticks_in w (after setting (Decides c call r ∷ events)) ≡ ticks_in w now
  one_side thread tcap = decided_ticks w call now c (opened events) (open_at (w (works_in now c)) refl) (w (works_in now c))
      (side_of (w (works_in now c)) refl) thread tcap (within_spent setting lim events run.0 c) r run.1.permitted

more_across : (setting : Setting) (w : ℕ → Bool) (before later : List Event) (e : Event) → ActsAcross setting w before later
    → ActsAcross setting w before (e ∷ later)
more_across setting w before later e h = record {
  since = h.since;
  more = e ∷ h.more;
  core = h.core;
  call = h.call;
  value = h.value;
  is_part = ap (λ es. e ∷ es) h.is_part;
  across = h.across;
}

module _ (setting : Setting) (lim : IsSetting setting) (w : ℕ → Bool) (crosses : Kind → Bool) (only_gates : OnlyGates crosses)
    (before : List Event) (start : AreApart w crosses (after setting before)) where
  narrow : (s : State) → AreApart w crosses s → AreApart w gates s
  narrow s h = record {
    inside = sealed_for_gates w crosses s only_gates h.inside;
    outside = sealed_for_gates (λ f. not (w f)) crosses s only_gates h.outside;
  }

  by_across : (c : ℕ) (call : Call) (r : Reply) (later : List Event) → RunsAcross w (after setting (later ++ before)) c
      → ticks_in w (after setting (later ++ before)) ≡ ticks_in w (after setting before)
      → (ticks_in w (state_by (after setting (later ++ before)) c call r) ≡ ticks_in w (after setting before))
      ⊎ ActsAcross setting w before (Decides c call r ∷ later)
  by_across c call (Reply.Ok v) later across kept =
      inr (record { since = later; more = []; core = c; call = call; value = v; is_part = refl; across = across })
  by_across c call Reply.CallsSpent later across kept = inl kept
  by_across c call Reply.Raced later across kept = inl (
      core_same w (owed_by (after setting (later ++ before)) c call) c _ refl refl
      ∙ owed_ticks w (after setting (later ++ before)) c call ∙ kept
      )
  by_across c call (Reply.Busy d) later across kept = inl (
      core_same w (owed_by (after setting (later ++ before)) c call) c _ refl refl
      ∙ owed_ticks w (after setting (later ++ before)) c call ∙ kept
      )
  by_across c call _ later across kept = inl (core_same w (after setting (later ++ before)) c _ refl refl ∙ kept)

  part_ticks : (later : List Event) → IsRun setting (later ++ before)
      → (ticks_in w (after setting (later ++ before)) ≡ ticks_in w (after setting before)) ⊎ ActsAcross setting w before later
  part_ticks [] run = inl refl
  part_ticks (Enters c call ∷ later) run = elim (part_ticks later run.0) [
    | inl kept ↦ inl (core_same w (after setting (later ++ before)) c _ refl refl ∙ kept)
    | inr acts ↦ inr (more_across setting w before later (Enters c call) acts)
  ]
  part_ticks (Returns c ∷ later) run = elim (part_ticks later run.0) [
    | inl kept ↦ inl (core_same w (after setting (later ++ before)) c _ refl refl ∙ kept)
    | inr acts ↦ inr (more_across setting w before later (Returns c) acts)
  ]
  part_ticks (Decides c call r ∷ later) run = elim (part_ticks later run.0) [
    | inr acts ↦ inr (more_across setting w before later (Decides c call r) acts)
    | inl kept ↦
        let s : State = after setting (later ++ before) in
        let apart = narrow s (apart_for_good setting lim before later run.0 w crosses only_gates start) in
        elim (sides (w (s.core c).thread) (w (works_in s c))) [
          | inr across ↦ by_across c call r later (inl across) kept
          | inl thread ↦ elim (sides (w (s.core c).tcap) (w (works_in s c))) [
            | inr across ↦ by_across c call r later (inr across) kept
            | inl tcap ↦ inl (one_side setting lim (later ++ before) c call r run w apart thread tcap ∙ kept)
          ]
        ]
  ]

pub time_of_worlds : TimeOfWorlds
time_of_worlds setting lim before later run w crosses only_gates start =
    part_ticks setting lim w crosses only_gates before start later run
