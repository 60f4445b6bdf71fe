-- A component that was killed and whose core has left its call makes no further `ok` but `ret`, `flush` and `tick`: its epoch stays past,
-- and the core waits in the grace period of its liveness number no more while the number is dead in that epoch.
use Rattle.kernel_laws.proofs.{◌≡◌, ◌≢◌, inl, inr, ℕ, ◌<◌, Bool, true, false, not, ◌&&◌, ◌||◌, ◌==◌, refl, sym, ◌∙◌, ap, subst, arith}
use Rattle.kernel_laws.proofs.{if◌then◌else◌, IsFalse, List, [], ◌∷◌, ◌++◌, take, false≢true, true≢false, ne_eqb, eqb-true, Setting, Call}
use Rattle.kernel_laws.proofs.{Tick, Reply, CompFields, Liveness, Unused, Live, Dead, Grace, Thing, NumberOf, State, thread_of, comp_of}
use Rattle.kernel_laws.proofs.{place_names, frame_names, number_names, same_thing, new_grace, begun, is_live_in, asks_life, frames_of, Edit}
use Rattle.kernel_laws.proofs.{Node, Untype, Component, Deaden, Pop, edited, after_edits, change_of, changed, owed_by, state_by, MayReply}
use Rattle.kernel_laws.proofs.{Event, Enters, Decides, Returns, Out, after, is_in, phase_of, IsRun, put_same, put_other, waits_inside}
use Rattle.kernel_laws.proofs.{begins_all, inside_is, Tested, Each, Calm, after_ok}
use Rattle.std.proofs.lemmas.Bool.{cases_eq, or_from}
use Rattle.kernel_laws.specs.kernel_rules.specs.{Life.is_dead_in, Edits.Remove, Edits.Switch, Edits.begins_in}
use Rattle.state_laws.proofs.Lives.{IsPast, edits_numbers}
use Rattle.{std.specs.List.list_any, kernel_laws.specs.kernel_invariant.proofs.Edited.later_number, state_laws.specs.Looking.KilledStop}
use Rattle.kernel_laws.specs.spk_nums.specs.declared.replies.Reply.TheVariants as reply

-- The epoch e of a liveness number is over for core c: it is past, and while the number is dead after it, c does not wait.
record IsOver (s : State) (c l e : ℕ) : Type 0 where
  past : IsPast e (s.number l)
  left : s.number l ≡ Dead e → IsFalse ((s.grace (NumberOf l)).waits c)

frames_no_number : (l : ℕ) (fs : List ℕ) → list_any (same_thing (NumberOf l)) (frames_of fs) ≡ false
frames_no_number l [] = refl
frames_no_number l (f ∷ fs) = frames_no_number l fs

live_dead : (e d f : ℕ) → Live d f ≡ Dead e → ⊥
live_dead e d f q = cc

dead_inj : (d e : ℕ) → Dead d ≡ Dead e → d ≡ e
dead_inj d e q = cc

-- An epoch that is past is before one in which the number is live.
before_live : (e d : ℕ) (n : Liveness) → IsPast e n → is_live_in n d ≡ true → e < d
before_live e d Unused past is = absurd past
before_live e d (Live x f) past is = let same : x ≡ d = eqb-true x d is in omega (arith, same, past)
before_live e d (Dead x) past is = absurd (false≢true is)

module _ (d : ℕ) (s : State) (c l e : ℕ) (h : IsOver s c l e) where
  -- Where these things do not have the number, its grace period is what the edits leave.
  kept : (things : List Thing) (w : Grace) → list_any (same_thing (NumberOf l)) things ≡ false
      → w.waits c ≡ (s.grace (NumberOf l)).waits c → s.number l ≡ Dead e
      → IsFalse ((if list_any (same_thing (NumberOf l)) things then new_grace s (NumberOf l) else w).waits c)
  kept things w none same dead = ap (λ b. (if b then new_grace s (NumberOf l) else w).waits c) none ∙ same ∙ h.left dead

  edit_left : (x : Edit) (w : Grace) → Tested d s x → w.waits c ≡ (s.grace (NumberOf l)).waits c
      → (edited d s x).number l ≡ Dead e
      → IsFalse ((if list_any (same_thing (NumberOf l)) (begins_in d s x) then new_grace s (NumberOf l) else w).waits c)
  edit_left (Deaden n epoch) w tested same dead = elim (cases_eq l n) [
    | inl at ↦
        let last : epoch ≡ e = dead_inj epoch e (sym (put_same s.number n (Dead epoch) l at) ∙ dead) in
        let past : e < epoch = before_live e epoch (s.number n) (subst (λ m. IsPast e (s.number m)) at h.past) tested in
        absurd (omega (arith, last, past))
    | inr other ↦ kept (begins_in d s (Deaden n epoch)) w
        (or_from (l == n) (list_any (same_thing (NumberOf l)) (frames_of (number_names (s.number n)))) (ne_eqb l n other)
        (frames_no_number l (number_names (s.number n))))
        same (sym (put_other s.number n (Dead epoch) l other) ∙ dead)
  ]
  edit_left (Component f k) w tested same dead = elim (cases_eq l k.number) [
    | inl at ↦ absurd (live_dead e k.epoch f (sym (put_same s.number k.number (Live k.epoch f) l at) ∙ dead))
    | inr other ↦ kept [] w refl same (sym (put_other s.number k.number (Live k.epoch f) l other) ∙ dead)
  ]
  edit_left (Remove at k) w tested same dead =
      kept (begins_in d s (Remove at k)) w (frames_no_number l (place_names (Rattle.kernel_laws.specs.kernel_rules.specs.State.Holds k))) same dead
  edit_left (Untype f) w tested same dead = kept (begins_in d s (Untype f)) w (frames_no_number l (frame_names (s.frame f))) same dead
  edit_left Pop w tested same dead = kept (begins_in d s Pop) w (frames_no_number l (take 1 (thread_of s d).stack)) same dead
  edit_left (Switch f q) w tested same dead =
      kept (begins_in d s (Switch f q)) w
      (frames_no_number l ((s.core d).thread ∷ (if q == (s.core d).tcap then [] else (s.core d).tcap ∷ []))) same dead
  edit_left _ w tested same dead = kept [] w refl same dead

-- No edit changes who waits for a liveness number.
edit_waits : (d : ℕ) (s : State) (x : Edit) (l c : ℕ) → ((edited d s x).grace (NumberOf l)).waits c ≡ (s.grace (NumberOf l)).waits c
edit_waits d s (Node f object) l c = refl
edit_waits d s (Untype f) l c = refl
edit_waits d s _ l c = refl

edits_wait : (d : ℕ) (s : State) (es : List Edit) (l c : ℕ)
    → ((after_edits d s es).grace (NumberOf l)).waits c ≡ (s.grace (NumberOf l)).waits c
edits_wait d s [] l c = refl
edits_wait d s (x ∷ es) l c = edits_wait d (edited d s x) es l c ∙ edit_waits d s x l c

edits_over : (d : ℕ) (s : State) (es : List Edit) → Calm d s es → Each Tested d s es → (c l e : ℕ) → IsOver s c l e
    → IsOver (begun s (begins_all d s es) (after_edits d s es)) c l e
edits_over d s [] calm tested c l e h = record { past = h.past; left = h.left }
edits_over d s (x ∷ es) calm tested c l e h = record {
  past = (edits_numbers d s (x ∷ es) calm tested).past l e h.past;
  left = λ dead.
      let now : (edited d s x).number l ≡ Dead e = ap (λ (n : ℕ → Liveness). n l) (sym (later_number d (edited d s x) es calm.2)) ∙ dead in
      subst (λ (things : List Thing).
      IsFalse ((if list_any (same_thing (NumberOf l)) things then new_grace s (NumberOf l)
      else (after_edits d s (x ∷ es)).grace (NumberOf l)).waits c)) (sym calm.0)
      (edit_left d s c l e h x ((after_edits d s (x ∷ es)).grace (NumberOf l)) tested.0 (edits_wait d s (x ∷ es) l c) now);
}

owed_over : (s : State) (d : ℕ) (call : Call) (c l e : ℕ) → IsOver s c l e → IsOver (owed_by s d call) c l e
owed_over s d (Tick n) c l e h = record { past = h.past; left = h.left }
owed_over s d _ c l e h = h

decided_over : (s : State) (d : ℕ) (call : Call) (r : Reply) → MayReply s d call r → (c l e : ℕ) → IsOver s c l e
    → IsOver (state_by s d call r) c l e
decided_over s d call (reply.Ok v) may c l e h =
    let by : IsOver (changed s (change_of s d call)) c l e =
    after_ok s d call v (λ t. IsOver t c l e) may (λ es k. edits_over d s es k.calm k.tested c l e h) in
    record { past = by.past; left = by.left }
decided_over s d call reply.CallsSpent may c l e h = h
decided_over s d call reply.Raced may c l e h =
    let by : IsOver (owed_by s d call) c l e = owed_over s d call c l e h in record { past = by.past; left = by.left }
decided_over s d call (reply.Busy x) may c l e h =
    let by : IsOver (owed_by s d call) c l e = owed_over s d call c l e h in record { past = by.past; left = by.left }
decided_over s d call _ may c l e h = record { past = h.past; left = h.left }

over_stays : (setting : Setting) (later earlier : List Event) → IsRun setting (later ++ earlier) → (c l e : ℕ)
    → IsOver (after setting earlier) c l e → IsOver (after setting (later ++ earlier)) c l e
over_stays setting [] earlier run c l e h = h
over_stays setting (Enters d call ∷ later) earlier run c l e h =
    let by : IsOver (after setting (later ++ earlier)) c l e = over_stays setting later earlier run.0 c l e h in
    record { past = by.past; left = by.left }
over_stays setting (Returns d ∷ later) earlier run c l e h =
    let by : IsOver (after setting (later ++ earlier)) c l e = over_stays setting later earlier run.0 c l e h in
    let waits : ℕ → Bool = ((after setting (later ++ earlier)).grace (NumberOf l)).waits in record {
      past = by.past;
      left = λ dead. elim (cases_eq c d) [
        | inl same ↦ put_same waits d false c same
        | inr other ↦ put_other waits d false c other ∙ by.left dead
      ];
    }
over_stays setting (Decides d call r ∷ later) earlier run c l e h =
    decided_over (after setting (later ++ earlier)) d call r run.1.permitted c l e (over_stays setting later earlier run.0 c l e h)

runs_before : (setting : Setting) (later earlier : List Event) → IsRun setting (later ++ earlier) → IsRun setting earlier
runs_before setting [] earlier run = run
runs_before setting (x ∷ later) earlier run = runs_before setting later earlier run.0

-- A core that is out of its calls waits for nothing.
out_waits : (setting : Setting) (events : List Event) → IsRun setting events → (c : ℕ) (x : Thing) → phase_of events c ≡ Out
    → IsFalse (((after setting events).grace x).waits c)
out_waits setting events run c x out = by (((after setting events).grace x).waits c) refl
  where
    by : (b : Bool) → ((after setting events).grace x).waits c ≡ b → b ≡ false
    by false is = refl
    by true is = absurd (false≢true (sym (inside_is setting events run c ∙ ap is_in out) ∙ waits_inside setting events x c is))

-- Of an epoch that is over a core may not act.
not_live : (e : ℕ) (n : Liveness) → IsPast e n → is_live_in n e ≡ false
not_live e Unused past = absurd past
not_live e (Live d f) past = ne_eqb d e (λ same. omega (arith, same, past))
not_live e (Dead d) past = refl

not_waiting : (e : ℕ) (n : Liveness) (w : Bool) → (n ≡ Dead e → w ≡ false) → (is_dead_in n e && w) ≡ false
not_waiting e Unused w none = refl
not_waiting e (Live d f) w none = refl
not_waiting e (Dead d) w none = by (d == e) refl
  where
    by : (b : Bool) → (d == e) ≡ b → (b && w) ≡ false
    by false is = refl
    by true is = none (ap Dead (eqb-true d e is))

asks_not : (asks here there : Bool) → here ≡ false → there ≡ false → (not asks || (here || there)) ≡ true → asks ≡ false
asks_not false here there a b may = refl
asks_not true false false a b may = absurd (false≢true may)
asks_not true true there a b may = absurd (true≢false a)
asks_not true false true a b may = absurd (true≢false b)

pub killed_stop : KilledStop
killed_stop setting later earlier c call v run was =
    let s : State = after setting (later ++ earlier) in
    let k : CompFields = comp_of s c in
    let start : IsOver (after setting earlier) c k.number k.epoch = record {
      past = subst (IsPast k.epoch) (sym was.dead) (omega arith);
      left = λ dead. out_waits setting earlier (runs_before setting later earlier run.0) c (NumberOf k.number) was.out;
    } in
    let over : IsOver s c k.number k.epoch = over_stays setting later earlier run.0 c k.number k.epoch start in
    asks_not (asks_life call) (is_live_in (s.number k.number) k.epoch)
    (is_dead_in (s.number k.number) k.epoch && (s.grace (NumberOf k.number)).waits c)
    (not_live k.epoch (s.number k.number) over.past)
    (not_waiting k.epoch (s.number k.number) ((s.grace (NumberOf k.number)).waits c) over.left) run.1.permitted.1.0
