-- The frame of a live number has its component; gates have their component's epoch; a dead epoch never lives again.
use Rattle.kernel_laws.proofs.{◌≡◌, ◌⊎◌, inl, inr, ℕ, ◌+◌, ◌<◌, ◌≤◌, arith, Bool, true, false, refl, sym, ◌∙◌, ap, subst, ◌==◌}
use Rattle.kernel_laws.proofs.{if◌then◌else◌, IsTrue, List, [], ◌∷◌, ◌++◌, false≢true, eqb-true, Setting, IsSetting, Call, Tick, Reply}
use Rattle.kernel_laws.proofs.{TcapFields, Tcap, Comp, Frame, Kernel, Liveness, Unused, Live, Dead, FrameOf, State, put, start}
use Rattle.kernel_laws.proofs.{number_names, times, refs, is_live, epoch_of, is_live_in, with_tcap, Edit, Fill, Component, Deaden, Merge}
use Rattle.kernel_laws.proofs.{edited, after_edits, owed_by, state_by, ends, MayReply, fits, Event, Enters, Decides, Returns, after}
use Rattle.kernel_laws.proofs.{is_open, IsRun, put_same, times_first, IsSound, put_all, IsOpen, opened, open_is, Tested, Each, AreLater}
use Rattle.kernel_laws.proofs.{Calm, after_ok, ends_by_rule, Kind}
use Rattle.kernel_laws.specs.kernel_invariant.proofs.{unnamed, later_number}
use Rattle.state_laws.specs.Lives.{IsCompOf, LiveNumbersFit, DeadStays}
use Rattle.state_laws.proofs.Kept.{is_kept, decided_kept}

-- An epoch e of a liveness number is past: the number is dead after e or later, or lives in a later one.
abbrev pub IsPast : ℕ → Liveness → Type 0
IsPast e Unused = ⊥
IsPast e (Live d f) = e < d
IsPast e (Dead d) = e ≤ d

-- What a change makes of liveness numbers: what is live was so, or is its new component's; what is past stays so.
pub record DecidedNumbers (s t : State) : Type 0 where
  pub live : (l e f : ℕ) → t.number l ≡ Live e f → (s.number l ≡ Live e f) ⊎ IsCompOf (t.frame f) l e
  pub past : (l e : ℕ) → IsPast e (s.number l) → IsPast e (t.number l)

live_inj : (e d f g : ℕ) → Live e f ≡ Live d g → (e ≡ d) × (f ≡ g)
live_inj e d f g q = (epochs q, frames q)
  where
    epochs : Live e f ≡ Live d g → e ≡ d
    epochs q = cc

    frames : Live e f ≡ Live d g → f ≡ g
    frames q = cc

dead_live : (e d f : ℕ) → Dead e ≡ Live d f → ⊥
dead_live e d f q = cc

-- A number that is not live gets a later epoch than any that is past.
later : (e : ℕ) (x : Liveness) (f : ℕ) → is_live x ≡ false → IsPast e x → IsPast e (Live (epoch_of x + 1) f)
later e Unused f none past = absurd past
later e (Live d g) f none past = absurd (false≢true (sym none))
later e (Dead d) f none past = omega (arith, past)

-- A number that is live in an epoch and dies has this epoch past, and what was.
killed : (e d : ℕ) (x : Liveness) → is_live_in x d ≡ true → IsPast e x → IsPast e (Dead d)
killed e d Unused is past = absurd past
killed e d (Live n f) is past = let same : n ≡ d = eqb-true n d is in omega (arith, same, past)
killed e d (Dead n) is past = absurd (false≢true is)

edit_numbers : (c : ℕ) (s : State) (e : Edit) → Tested c s e → DecidedNumbers s (edited c s e)
edit_numbers c s (Component f k) tested = record {
  live =
      λ l e g. put_all (λ l x. x ≡ Live e g
      → (s.number l ≡ Live e g) ⊎ IsCompOf (put s.frame f (Kernel (Comp k)) g) l e) s.number k.number (Live k.epoch f) l
      (λ same is. inr (made l e g same (live_inj k.epoch e f g is))) (λ other is. inl is);
  past = λ l e old. put_all (λ l x. IsPast e (s.number l) → IsPast e x) s.number k.number (Live k.epoch f) l
      (λ same past. subst (λ n. IsPast e (Live n f)) (sym tested.1)
      (later e (s.number k.number) f tested.0 (subst (λ m. IsPast e (s.number m)) same past))) (λ other past. past) old;
}
  where
    made : (l e g : ℕ) → l ≡ k.number → (k.epoch ≡ e) × (f ≡ g) → IsCompOf (put s.frame f (Kernel (Comp k)) g) l e
    made l e g same is = subst (λ x. IsCompOf x l e) (sym (put_same s.frame f (Kernel (Comp k)) g (sym is.1)))
        (record { comp = refl; number = sym same; epoch = is.0 })
edit_numbers c s (Deaden n d) tested = record {
  live =
      λ l e g. put_all (λ l x. x ≡ Live e g → (s.number l ≡ Live e g) ⊎ IsCompOf (s.frame g) l e) s.number n (Dead d) l
      (λ same q. absurd (dead_live d e g q)) (λ other q. inl q);
  past = λ l e old. put_all (λ l x. IsPast e (s.number l) → IsPast e x) s.number n (Dead d) l
      (λ same past. killed e d (s.number n) tested (subst (λ m. IsPast e (s.number m)) same past)) (λ other past. past) old;
}
edit_numbers c s _ tested = record { live = λ l e f is. inl is; past = λ l e p. p }

-- Later edits of a list keep components.
comp_put : (x : Frame) (q : TcapFields) (l e : ℕ) → IsCompOf x l e → IsCompOf (with_tcap x q) l e
comp_put (Kernel (Tcap p)) q l e comp = absurd (false≢true comp.comp)
comp_put _ q l e comp = comp

later_comp : (c : ℕ) (s : State) (es : List Edit) → AreLater es → (f l e : ℕ) → IsCompOf (s.frame f) l e
    → IsCompOf ((after_edits c s es).frame f) l e
later_comp c s [] are f l e comp = comp
later_comp c s (Fill at k ∷ es) are f l e comp = later_comp c (edited c s (Fill at k)) es are f l e comp
later_comp c s (Merge g qs ∷ es) are f l e comp = later_comp c (edited c s (Merge g qs)) es are f l e
    (put_all (λ f x. IsCompOf x l e) s.frame g _ f
    (λ same. comp_put (s.frame g) _ l e (subst (λ n. IsCompOf (s.frame n) l e) same comp)) (λ other. comp))
later_comp c s (_ ∷ es) are f l e comp = absurd are

pub edits_numbers : (c : ℕ) (s : State) (es : List Edit) → Calm c s es → Each Tested c s es → DecidedNumbers s (after_edits c s es)
edits_numbers c s [] calm tested = record { live = λ l e f is. inl is; past = λ l e p. p }
edits_numbers c s (e ∷ es) calm tested = record {
  live = λ l d f is. elim (n.live l d f (ap (λ (number : ℕ → Liveness). number l) (sym same) ∙ is)) [
    | inl old ↦ inl old
    | inr new ↦ inr (later_comp c (edited c s e) es calm.2 f l d new)
  ];
  past = λ l d p. subst (λ (number : ℕ → Liveness). IsPast d (number l)) (sym same) (n.past l d p);
}
  where
    n : DecidedNumbers s (edited c s e)
    n = edit_numbers c s e tested.0

    same : (after_edits c s (e ∷ es)).number ≡ (edited c s e).number
    same = later_number c (edited c s e) es calm.2

-- What a decision makes of them.
unchanged : (s t : State) → ((l : ℕ) → t.number l ≡ s.number l) → DecidedNumbers s t
unchanged s t same = record { live = λ l e f is. inl (sym (same l) ∙ is); past = λ l e p. subst (IsPast e) (sym (same l)) p }

pub owed_number : (s : State) (c : ℕ) (call : Call) (l : ℕ) → (owed_by s c call).number l ≡ s.number l
owed_number s c (Tick n) l = refl
owed_number s c _ l = refl

decided_numbers : (s : State) (c : ℕ) (call : Call) (r : Reply) → MayReply s c call r → DecidedNumbers s (state_by s c call r)
decided_numbers s c call (Reply.Ok v) may =
    let n = after_ok s c call v (DecidedNumbers s) may (λ es e.
    let n = edits_numbers c s es e.calm e.tested in record { live = n.live; past = n.past }) in
    record { live = n.live; past = n.past }
decided_numbers s c call Reply.CallsSpent may = unchanged s _ (λ l. refl)
decided_numbers s c call Reply.Raced may = unchanged s _ (owed_number s c call)
decided_numbers s c call (Reply.Busy e) may = unchanged s _ (owed_number s c call)
decided_numbers s c call _ may = unchanged s _ (λ l. refl)

-- The frames of live numbers are referenced, so they stay.
pub comp_kept : (x : Frame) → IsTrue (fits Kind.Comp x) → IsTrue (is_kept x)
comp_kept (Kernel (Comp k)) h = refl
comp_kept _ h = absurd (false≢true h)

number_named : (s : State) (o : ℕ → Bool) (l e f : ℕ) → IsSound s o → s.number l ≡ Live e f → refs s f ≡ 0 → ⊥
number_named s o l e f h is zero =
    let none : times f (number_names (s.number l)) ≡ 0 = (unnamed s f zero).numbers l (h.numbers l e f is).1 in
    let one : 1 ≤ times f (f ∷ []) = times_first f [] in
    let q : times f (f ∷ []) ≡ 0 = ap (λ x. times f (number_names x)) (sym is) ∙ none in
    omega (arith, one, q)

LivesAre : State → Type 0
LivesAre s = (l e f : ℕ) → s.number l ≡ Live e f → IsCompOf (s.frame f) l e

decided_lives : (s : State) (o : ℕ → Bool) (c : ℕ) (call : Call) (r : Reply) → IsOpen s o c → MayReply s c call r → LivesAre s
    → LivesAre (state_by s c call r)
unfolding LivesAre
decided_lives s o c call r h may lives l e f is = elim ((decided_numbers s c call r may).live l e f is) [
  | inr new ↦ new
  | inl old ↦
      let comp : IsCompOf (s.frame f) l e = lives l e f old in
      elim ((decided_kept s o c call r h may).frame f (comp_kept (s.frame f) comp.comp)) [
        | inl same ↦ subst (λ x. IsCompOf x l e) (sym same) comp
        | inr ends ↦ absurd (number_named s o l e f h.sound old (ends_by_rule s o c h call r (FrameOf f) may ends).0)
      ]
]

start_lives : (setting : Setting) → LivesAre (start setting)
unfolding LivesAre
start_lives setting l e f = by_number (l == 0) refl
  where
    by_number : (b : Bool) → (l == 0) ≡ b → (if b then Live 1 3 else Unused) ≡ Live e f → IsCompOf ((start setting).frame f) l e
    by_number true is at =
        let p = live_inj 1 e 3 f at in
        subst (λ n. IsCompOf ((start setting).frame n) l e) p.1 (record { comp = refl; number = sym (eqb-true l 0 is); epoch = p.0 })
    by_number false is at = absurd (unused at)
      where
        unused : Unused ≡ Live e f → ⊥
        unused q = cc

runs_lives : (setting : Setting) → IsSetting setting → (events : List Event) → IsRun setting events → LivesAre (after setting events)
unfolding LivesAre
runs_lives setting lim [] run = start_lives setting
runs_lives setting lim (Enters c call ∷ events) run = runs_lives setting lim events run.0
runs_lives setting lim (Returns c ∷ events) run = runs_lives setting lim events run.0
runs_lives setting lim (Decides c call r ∷ events) run =
    decided_lives (after setting events) (opened events) c call r
    (open_is setting lim events c run.0 (ap is_open run.1.is_open)) run.1.permitted (runs_lives setting lim events run.0)

pub live_numbers_fit : LiveNumbersFit
unfolding LivesAre
live_numbers_fit setting lim events run = runs_lives setting lim events run

-- A past epoch stays past.
pub past_stays : (setting : Setting) (later earlier : List Event) → IsRun setting (later ++ earlier) → (l e : ℕ)
    → IsPast e ((after setting earlier).number l)
    → IsPast e ((after setting (later ++ earlier)).number l)
past_stays setting [] earlier run l e past = past
past_stays setting (Enters c call ∷ later) earlier run l e past = past_stays setting later earlier run.0 l e past
past_stays setting (Returns c ∷ later) earlier run l e past = past_stays setting later earlier run.0 l e past
past_stays setting (Decides c call r ∷ later) earlier run l e past =
    (decided_numbers (after setting (later ++ earlier)) c call r run.1.permitted).past l e (past_stays setting later earlier run.0 l e past)

pub dead_stays : DeadStays
dead_stays setting later earlier run l e d f dead live =
    subst (IsPast e) live (past_stays setting later earlier run l e (subst (IsPast e) (sym dead) (omega arith)))
