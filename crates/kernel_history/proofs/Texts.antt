-- Texts that no machine writes, though each reply in them is one that the call relation permits. The checker computes what
-- forbids each.
use Rattle.kernel_history.specs.{◌≡◌, ◌≢◌, ◌⊎◌, ℕ, ◌∷◌, [], Some, None, refl, IsTrue, whole_copy, Setting, Call, Reply, word_of_entry}
use Rattle.kernel_history.specs.{entry_of_word, EntryAt, CoreAt, LiveAt, Move, LoadOf, StoreOf, MayReply, rule_of, Step, Out, phase}
use Rattle.kernel_history.specs.{state_before, changes_numbers, looks_at_numbers, KeepsDiscipline, IsHeldUp, IsAlone, KeepsFirst}
use Rattle.kernel_rules.proofs.{inl, inr, sym, subst, arith, false≢true, ne_eqb}
use Rattle.kernel_history.specs.Trace.{Trace}

two_cores : Setting
two_cores = record {
  cores = 2;
  frames = 32;
  grants = record { budget = 100; sched = 0; quality = 1 } ∷ record { budget = 100; sched = 0; quality = 1 } ∷ [];
  calls = 4194304;
  epochs = 65535;
}

-- A step at which a call is entered, one within a call, and one at which it is decided.
abbrev enters : ℕ → Call → Step
enters c k = record { core = c; move = StoreOf (CoreAt c) 1; found = 0; enters = Some k; decides = None; returns = None }

abbrev makes : ℕ → Move → ℕ → Step
makes c move found = record { core = c; move = move; found = found; enters = None; decides = None; returns = None }

abbrev decides : ℕ → Move → ℕ → Reply → Step
decides c move found r = record { core = c; move = move; found = found; enters = None; decides = Some r; returns = None }

same_call : (j k : Call) → Some j ≡ Some k → j ≡ k
same_call j k h = cc

-- `raced` though only a `look` came between: core 0 loads liveness number 5, core 1's `look` stores 7 there, and core 0 loads it again.

looked : Trace
looked = enters 1 (Call.Look 0) ∷ makes 0 (LoadOf (LiveAt 5)) 0 ∷ enters 0 (Call.Tick 5) ∷ []

raced : Trace
raced = decides 0 (LoadOf (LiveAt 5)) 7 Reply.Raced ∷ makes 1 (StoreOf (LiveAt 5) 7) 0 ∷ looked

-- A look changes no liveness number,
no_look_stores : KeepsDiscipline two_cores raced → ⊥
unfolding looked raced
no_look_stores keeps =
    let step = keeps.0.1 in
    false≢true (subst (λ k. IsTrue (changes_numbers k)) (sym (same_call (Call.Look 0) step.call step.is_of)) step.moves)

-- and a tick, which asks of no component that it lives, does not even load one.
no_tick_loads : KeepsDiscipline two_cores raced → ⊥
unfolding looked raced
no_tick_loads keeps =
    let step = keeps.1 in
    false≢true (subst (λ k. IsTrue (looks_at_numbers k)) (sym (same_call (Call.Tick 5) step.call step.is_of)) step.moves)

-- `busy 1` though core 1 touched nothing: core 0 stores the mark of core 1 in place 20 while core 1 is in a `look`, and loads it.

inside : Trace
inside = enters 0 (whole_copy 0 1 20) ∷ enters 1 (Call.Look 0) ∷ []

marked : Trace
marked = makes 0 (StoreOf (EntryAt 1 20) 6) 0 ∷ inside

held_up : Step
held_up = decides 0 (LoadOf (EntryAt 1 20)) 6 (Reply.Busy 1)

-- No core puts the mark of another,
no_mark_of_another : KeepsDiscipline two_cores marked → ⊥
unfolding two_cores inside marked word_of_entry entry_of_word
no_mark_of_another keeps = neither (λ h. let was : None ≡ Some 1 = h in
    cc) (λ own. let other : 0 ≡ 1 = own.0 in omega (arith, other)) (keeps.1.marks (EntryAt 1 20) 1 refl)
  where
    neither : {A B : Type 0} → (A → ⊥) → (B → ⊥) → A ⊎ B → ⊥
    neither a b (inl x) = a x
    neither a b (inr y) = b y

-- and nobody is held up by a core that has put no mark.
not_held_up : IsHeldUp two_cores marked held_up (state_before two_cores marked held_up)
    (rule_of (state_before two_cores marked held_up) 0 (whole_copy 0 1 20)) 1 → ⊥
unfolding two_cores inside marked held_up
not_held_up held = never held.has_marked
  where
    never : Rattle.kernel_history.specs.Marking.HasMarked two_cores marked (EntryAt 1 20) 1 → ⊥
    never (inl puts) = let other : 0 ≡ 1 = puts.own in omega (arith, other)
    never (inr (inl puts)) = let other : 0 ≡ 1 = puts.own in omega (arith, other)
    never (inr (inr (inl puts))) = let at : CoreAt 1 ≡ EntryAt 1 20 = puts.here in cc
    never (inr (inr (inr past))) = past

-- `wrong-cap` of a copy that is made alone, and whose first name leads to nothing: both causes stand, so that the call relation
-- permits the second as well.

copied : Trace
copied = makes 0 (LoadOf (EntryAt 0 0)) 101 ∷ makes 0 (LoadOf (EntryAt 1 63)) 0
    ∷ makes 0 (LoadOf (EntryAt 0 0)) 101 ∷ enters 0 (whole_copy 63 0 20) ∷ []

wrong : Step
wrong = decides 0 (LoadOf (EntryAt 1 0)) 0 Reply.WrongCap

may_be_wrong : MayReply (state_before two_cores copied wrong) 0 (whole_copy 63 0 20) Reply.WrongCap
unfolding two_cores copied wrong
may_be_wrong = (refl, inr (inl refl))

is_alone : IsAlone copied wrong
unfolding copied wrong
is_alone = record { others_out = out; undisturbed = (refl, (refl, (refl, (refl, tt)))) }
  where
    out : (d : ℕ) → d ≢ 0 → phase copied d ≡ Out
    out d other = rw (ne_eqb d 0 other)

-- Made alone, it answers its first cause.
empty_comes_first : KeepsFirst two_cores (wrong ∷ copied) → ⊥
unfolding two_cores copied wrong
empty_comes_first keeps = let first : Reply.WrongCap ≡ Reply.Empty = keeps.1 is_alone in cc
