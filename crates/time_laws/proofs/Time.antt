-- The time of a machine is that of the sequential kernel, whose laws hold of each legal trace; and heads say it.
use Rattle.flight.specs.step_ways.proofs.{to_use, not_exclusive_head_value, ◌≡◌, ◌≤◌, ℕ, ◌+◌, ◌∷◌, [], ◌&&◌, ◌==◌, Bool, true, false, Some}
use Rattle.flight.specs.step_ways.proofs.{None, if◌then◌else◌, refl, sym, ◌∙◌, ap, subst, Setting, IsSetting, head_of_word, EntryAt}
use Rattle.flight.specs.step_ways.proofs.{PlaceOf, State, events_of, IsLegal, MayDecide, stamp, Trace, state_after, last_left, Step, Open}
use Rattle.flight.specs.step_ways.proofs.{phase, after_enter, state_before, state_is, run_of, settled_by, settled, held_by, Invariant}
use Rattle.flight.specs.step_ways.proofs.{HeadIs, IsFrameWord, Capability, Call, Test, Value, only, Judged, Found, IsFoundAnd}
use Rattle.flight.specs.step_ways.proofs.{named, and_then, unless, first_of, tcap_at, change_of, MayReply, Change, does, Kind, Reply}
use Rattle.history_laws.specs.{TicksAreCounted, BackIsCounted, HeadsSay, ListsSay, TestsTell}
use Rattle.flight.specs.kernel_history.specs.{ticks, preemption, preempts}
use Rattle.flight.specs.kernel_laws.proofs.{TicksLaw.ticks_kept, Spending.spending_sums, Back.back_sums}
use Rattle.{flight.specs.IsMade, flight.specs.cores_after, history_laws.specs.Time.TimeIsKept, history_laws.specs.Time.TellsOf}
use Rattle.{flight.proofs.Made.made_stands, flight.specs.pair_invariant.proofs.ShareSteps.list_plain}

legal_of : (setup : Setting) → IsSetting setup → (t : Trace) → IsMade setup t → IsLegal setup t
legal_of setup setting t made = (made_stands setup setting t made).legal

pub time_kept : (setup : Setting) → IsSetting setup → (t : Trace) → IsMade setup t → TimeIsKept setup t
time_kept setup setting t made =
    ap ticks (state_is setup t) ∙ ticks_kept setup setting (events_of t) (run_of setup t (legal_of setup setting t made))

pub ticks_counted : (setup : Setting) → IsSetting setup → (t : Trace) → IsMade setup t → TicksAreCounted setup t
ticks_counted setup setting t made c =
    ap (λ s. (s.core c).spent + (s.core c).owed) (state_is setup t)
    ∙ spending_sums setup (events_of t) (run_of setup t (legal_of setup setting t made)) c

pub back_counted : (setup : Setting) → IsSetting setup → (t : Trace) → IsMade setup t → BackIsCounted setup t
back_counted setup setting t made c =
    let has = back_sums setup setting (events_of t) (run_of setup t (legal_of setup setting t made)) c in record {
      is = ap (λ s. (s.core c).back) (state_is setup t) ∙ has.is;
      within = subst (λ s. (s.core c).back ≤ (s.core c).spent) (sym (state_is setup t)) has.within;
    }

pub heads_say : (setup : Setting) → IsSetting setup → (t : Trace) → IsMade setup t → HeadsSay setup t
heads_say setup setting t made f q is unmarked = record { version = says.version; says = says.says }
  where
    stands : Invariant setup (cores_after setup t) t
    stands = made_stands setup setting t made

    says : HeadIs q (head_of_word (last_left setup t (EntryAt f 0)))
    says = subst (λ (n : ℕ). HeadIs q (head_of_word n))
        (not_exclusive_head_value setup (cores_after setup t) t stands f q is (last_left setup t (EntryAt f 0)))
        (subst (λ o. HeadIs q
        (head_of_word (settled_by o (held_by (cores_after setup t)) (EntryAt f 0) (last_left setup t (EntryAt f 0)))))
        unmarked
        (subst (λ x. IsFrameWord (state_after setup t).limits.frames
        x ((state_after setup t).place f 0) (stamp setup t (PlaceOf f 0)) 0
        (settled setup (held_by (cores_after setup t)) t (EntryAt f 0))) is (stands.words (EntryAt f 0))))

pub lists_say : (setup : Setting) → IsSetting setup → (t : Trace) → IsMade setup t → ListsSay setup t
lists_say setup setting t made f q is unmarked j low =
    list_plain setup setting (cores_after setup t) t (made_stands setup setting t made) f q is unmarked j low

-- What is answered to a test is what its rule answers.
told_by : (s : State) (c x y : ℕ) (v : Value) → IsFoundAnd (change_of s c (Test x y)) (λ change. change.value ≡ v) → TellsOf s c x y v
told_by s c x y v h = by (named s c x (to_use (only Kind.Tcap))) (named s c y (to_use (only Kind.Tcap))) refl refl h
  where
    rest : Capability → Capability → Judged Change
    rest a b = unless (first_of (if true && (true && a.frame == b.frame) then Some Reply.Same else None) None)
        (does c s (preemption (preempts (tcap_at s a.frame) (tcap_at s b.frame))) [])

    last : (a b : Capability) → named s c x (to_use (only Kind.Tcap)) ≡ Found a → named s c y (to_use (only Kind.Tcap)) ≡ Found b
        → (same : Bool)
        → IsFoundAnd (unless (first_of (if same then Some Reply.Same else None) None)
        (does c s (preemption (preempts (tcap_at s a.frame) (tcap_at s b.frame))) [])) (λ change. change.value ≡ v) → TellsOf s c x y v
    last a b first second true h = absurd h
    last a b first second false h = record { first = a; second = b; first_named = first; second_named = second; answer = sym h }

    by : (j k : Judged Capability) → named s c x (to_use (only Kind.Tcap)) ≡ j → named s c y (to_use (only Kind.Tcap)) ≡ k
        → IsFoundAnd (and_then j λ a. and_then k λ b. rest a b) (λ change. change.value ≡ v) → TellsOf s c x y v
    by (Found a) (Found b) first second h = last a b first second (true && (true && a.frame == b.frame)) h
    by _ _ first second h = absurd h

pub tests_tell : (setup : Setting) → IsSetting setup → (e : Step) (t : Trace) → IsMade setup (e ∷ t) → TestsTell setup t e
tests_tell setup setting e t made x y v opens decides = told_by (state_before setup t e) e.core x y v
    (subst (λ (call : Call). MayReply (state_before setup t e) e.core call (Reply.Ok v)) (sym (same_call may.is_open)) may.permitted).1.1
  where
    legal : IsLegal setup (e ∷ t)
    legal = legal_of setup setting (e ∷ t) made

    may : MayDecide setup t e (Some (Reply.Ok v)) (Open (Test x y))
    may = subst (λ p. MayDecide setup t e (Some (Reply.Ok v)) p) opens
        (subst (λ o. MayDecide setup t e o (after_enter e.enters (phase t e.core))) decides legal.1.decides)

    same_call : {call : Call} → Open (Test x y) ≡ Open call → Test x y ≡ call
    same_call h = cc
