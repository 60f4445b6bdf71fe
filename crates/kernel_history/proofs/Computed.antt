-- Tests of worked traces, which the checker computes: a step may follow, is in the footprint of its call, keeps its call's bound; and
-- what a call
-- does out of the discipline, or far from its footprint, is refused.
use Rattle.kernel_history.specs.{◌≡◌, ◌≢◌, ◌⊎◌, ℕ, ◌^◌, ◌==◌, ◌&&◌, Bool, true, false, [], ◌∷◌, List, Option, Some, None, refl}
use Rattle.kernel_history.specs.{ltb as nat_lt, leb as nat_le, is_some, IsSome, bound_of, Setting, Call, Word, EntryAt, FrameAt, CountAt}
use Rattle.kernel_history.specs.{CoreAt, FlushAt, LiveAt, ClockAt, Shape, IsIn, Move, LoadOf, CompareOf, StoreOf, AddOf, word_of, left_of}
use Rattle.kernel_history.specs.{Slot, State, shape_of, call_in, IsWithin, KeepsBounds, raises_clock, MayMove, KeepsDiscipline}
use Rattle.kernel_history.specs.{footprint_frames, footprint_numbers, is_one_of, IsInFootprint, StepsInFootprint, KeepsFootprints}
use Rattle.kernel_history.specs.{HasReached, MayEnter, MayDecide, MayReturn, MayFollow, is_in, Step, Phase, Out, Decided, phase}
use Rattle.kernel_history.specs.{after_enter, after_decide, state_after, state_before, last_left, own_left, steps_in_call}
use Rattle.kernel_rules.proofs.{inl, inr, sym, ◌∙◌, subst, ltb-true, leb-true, false≢true}
use Rattle.std.proofs.{lemmas.Bool.and_parts, lemmas.List.Elements.All-nil, lemmas.List.Elements.All-cons}
use Rattle.kernel_history.specs.{Discipline.may_load, Discipline.may_change, Discipline.MayRaise, Trace.Trace, Trace.Open}

pub neither : {A B : Type 0} → (A → ⊥) → (B → ⊥) → A ⊎ B → ⊥
neither a b (inl x) = a x
neither a b (inr y) = b y

pub none : ⊥ → ⊥
none x = x

-- Whether the machine has a word by this name.
abbrev has_word : Shape → Word → Bool
has_word s (EntryAt f i) = nat_lt f s.frames && nat_lt i 64
has_word s (FrameAt f) = nat_lt f s.frames
has_word s (CountAt f d) = nat_lt f s.frames && nat_lt d s.cores
has_word s (CoreAt d) = nat_lt d s.cores
has_word s (FlushAt d) = nat_lt d s.cores
has_word s (LiveAt l) = nat_lt l 64
has_word s ClockAt = true

word_is_in : (s : Shape) (w : Word) → has_word s w ≡ true → IsIn s w
word_is_in s (EntryAt f i) has = let p = and_parts _ _ has in (ltb-true _ _ p.0, ltb-true _ _ p.1)
word_is_in s (FrameAt f) has = ltb-true _ _ has
word_is_in s (CountAt f d) has = let p = and_parts _ _ has in (ltb-true _ _ p.0, ltb-true _ _ p.1)
word_is_in s (CoreAt d) has = ltb-true _ _ has
word_is_in s (FlushAt d) has = ltb-true _ _ has
word_is_in s (LiveAt l) has = ltb-true _ _ has
word_is_in s ClockAt has = tt

in_call : (p : Phase) → is_in p ≡ true → p ≢ Out
in_call Out is out = false≢true is
in_call (Open call) is out = cc
in_call (Decided call r) is out = cc

-- Whether a step is of a core of the machine on a word of it, leaves 64 bits, and stands in a call.
abbrev pub fits : Setting → Trace → Step → Bool
fits setup t e =
    nat_lt e.core setup.cores
    && (has_word (shape_of setup) (word_of e.move)
    && (nat_lt (left_of e.move e.found) (2 ^ 64) && is_in (after_enter e.enters (phase t e.core))))

-- A step that fits, finds what was left, and enters, decides and returns by the rules, may follow.
pub may_follow : {setup : Setting} {t : Trace} {e : Step} → fits setup t e ≡ true → e.found ≡ last_left setup t (word_of e.move)
    → MayEnter e.enters (phase t e.core) → MayDecide setup t e e.decides (after_enter e.enters (phase t e.core))
    → MayReturn e.returns (after_decide e.decides (after_enter e.enters (phase t e.core))) → MayFollow setup t e
may_follow {setup} {t} {e} fit found enters decides returns =
    let core = and_parts (nat_lt e.core setup.cores) _ fit in
    let word = and_parts (has_word (shape_of setup) (word_of e.move)) _ core.1 in
    let left = and_parts (nat_lt (left_of e.move e.found) (2 ^ 64)) _ word.1 in
    record {
      is_core = ltb-true _ _ core.0;
      is_in = word_is_in (shape_of setup) (word_of e.move) word.0;
      found = found;
      small = ltb-true _ _ left.0;
      enters = enters;
      in_call = in_call (after_enter e.enters (phase t e.core)) left.1;
      decides = decides;
      returns = returns;
    }

-- Whether a step that may be in a call is within the call's bound.
abbrev within_of : ℕ → ℕ → Option Call → Bool
within_of n steps None = false
within_of n steps (Some call) = nat_le steps (bound_of call n)

abbrev pub is_within : ℕ → Trace → Bool
is_within n [] = true
is_within n (e ∷ t) = is_within n t && within_of n (steps_in_call (e ∷ t) e.core) (call_in (after_enter e.enters (phase t e.core)))

pub keeps_bounds : (n : ℕ) (t : Trace) → is_within n t ≡ true → KeepsBounds n t
keeps_bounds n [] is = tt
keeps_bounds n (e ∷ t) is = let p = and_parts (is_within n t) _ is in
    (keeps_bounds n t p.0, step (call_in (after_enter e.enters (phase t e.core))) refl p.1)
  where
    step : (o : Option Call) → call_in (after_enter e.enters (phase t e.core)) ≡ o
        → within_of n (steps_in_call (e ∷ t) e.core) o ≡ true → IsWithin n t e
    step None o is = absurd (false≢true is)
    step (Some call) o is = record { call = call; is_of = o; steps = leb-true _ _ is }

-- Whether a word is in the footprint of a call.
abbrev pub is_in_footprint : ℕ → Call → Word → State → Bool
is_in_footprint c call (EntryAt f i) s = is_one_of f (footprint_frames s c call)
is_in_footprint c call (FrameAt f) s = is_one_of f (footprint_frames s c call)
is_in_footprint c call (CountAt f d) s = is_one_of f (footprint_frames s c call)
is_in_footprint c call (CoreAt d) s = true
is_in_footprint c call (FlushAt d) s = true
is_in_footprint c call (LiveAt l) s = is_one_of l (footprint_numbers s c call)
is_in_footprint c call ClockAt s = true

in_footprint : (c : ℕ) (call : Call) (w : Word) (s : State) → is_in_footprint c call w s ≡ true → IsInFootprint c call w s
in_footprint c call (EntryAt f i) s is = is
in_footprint c call (FrameAt f) s is = is
in_footprint c call (CountAt f d) s is = is
in_footprint c call (CoreAt d) s is = tt
in_footprint c call (FlushAt d) s is = tt
in_footprint c call (LiveAt l) s is = is
in_footprint c call ClockAt s is = tt

abbrev footprint_of : Setting → Trace → Step → Option Call → Bool
footprint_of setup t e None = false
footprint_of setup t e (Some call) = is_in_footprint e.core call (word_of e.move) (state_before setup t e)

abbrev pub is_in_it : Setting → Trace → Bool
is_in_it setup [] = true
is_in_it setup (e ∷ t) = is_in_it setup t && footprint_of setup t e (call_in (after_enter e.enters (phase t e.core)))

pub keeps_footprints : (setup : Setting) (t : Trace) → is_in_it setup t ≡ true → KeepsFootprints setup t
keeps_footprints setup [] is = tt
keeps_footprints setup (e ∷ t) is = let p = and_parts (is_in_it setup t) _ is in
    (keeps_footprints setup t p.0, step (call_in (after_enter e.enters (phase t e.core))) refl p.1)
  where
    step : (o : Option Call) → call_in (after_enter e.enters (phase t e.core)) ≡ o → footprint_of setup t e o ≡ true
        → StepsInFootprint setup t e
    step None o is = absurd (false≢true is)
    step (Some call) o is =
        record { call = call; is_of = o; footprint = inl (in_footprint e.core call (word_of e.move) (state_before setup t e) is) }

pub some_call : (j k : Call) → Some j ≡ Some k → j ≡ k
some_call j k same = cc

-- A word that is not in the footprint of a call.
pub not_in_footprint : (c : ℕ) (call : Call) (w : Word) (s : State) → is_in_footprint c call w s ≡ false → IsInFootprint c call w s → ⊥
not_in_footprint c call (EntryAt f i) s not is = false≢true (sym not ∙ is)
not_in_footprint c call (FrameAt f) s not is = false≢true (sym not ∙ is)
not_in_footprint c call (CountAt f d) s not is = false≢true (sym not ∙ is)
not_in_footprint c call (CoreAt d) s not is = false≢true (sym not)
not_in_footprint c call (FlushAt d) s not is = false≢true (sym not)
not_in_footprint c call (LiveAt l) s not is = false≢true (sym not ∙ is)
not_in_footprint c call ClockAt s not is = false≢true (sym not)

-- Whether a call may make an operation.
abbrev raises_well : Call → Word → ℕ → Bool
raises_well call (EntryAt f i) by = false
raises_well call (FrameAt f) by = false
raises_well call (CountAt f d) by = false
raises_well call (CoreAt d) by = false
raises_well call (FlushAt d) by = false
raises_well call (LiveAt l) by = false
raises_well call ClockAt by = raises_clock call && by == 1

abbrev pub moves_well : State → ℕ → Call → Move → Bool
moves_well s c call (LoadOf w) = may_load c call w
moves_well s c call (CompareOf w expected new) = may_change s c call w
moves_well s c call (StoreOf w new) = may_change s c call w
moves_well s c call (AddOf w by) = raises_well call w by

may_raise : (call : Call) (w : Word) (by : ℕ) → MayRaise call w by → raises_well call w by ≡ true
may_raise call (EntryAt f i) by may = absurd may
may_raise call (FrameAt f) by may = absurd may
may_raise call (CountAt f d) by may = absurd may
may_raise call (CoreAt d) by may = absurd may
may_raise call (FlushAt d) by may = absurd may
may_raise call (LiveAt l) by may = absurd may
may_raise call ClockAt by may = rw (may.0, may.1)

may_move : (s : State) (c : ℕ) (call : Call) (m : Move) → MayMove s c call m → moves_well s c call m ≡ true
may_move s c call (LoadOf w) may = may
may_move s c call (CompareOf w expected new) may = may
may_move s c call (StoreOf w new) may = may
may_move s c call (AddOf w by) may = may_raise call w by may

-- A step that its call may not make breaks the discipline.
pub undisciplined : {setup : Setting} {t : Trace} {e : Step} (call : Call) → call_in (after_enter e.enters (phase t e.core)) ≡ Some call
    → moves_well (state_after setup t) e.core call e.move ≡ false → KeepsDiscipline setup (e ∷ t) → ⊥
undisciplined {setup} {t} {e} call is not keeps = false≢true (sym not
    ∙ may_move (state_after setup t) e.core call e.move
    (subst (λ k. MayMove (state_after setup t) e.core k e.move) (some_call keeps.1.call call (sym keeps.1.is_of ∙ is)) keeps.1.moves))

-- The places that a core's call has stepped on.
abbrev pub has_stepped : Trace → ℕ → List Slot → Bool
has_stepped t c [] = true
has_stepped t c (at ∷ slots) = is_some (own_left t c (EntryAt at.node at.index)) && has_stepped t c slots

pub has_reached : (t : Trace) (c : ℕ) (slots : List Slot) → has_stepped t c slots ≡ true → HasReached t c slots
has_reached t c [] is = All-nil (λ at. IsSome (own_left t c (EntryAt at.node at.index)))
has_reached t c (at ∷ slots) is = let p = and_parts (is_some (own_left t c (EntryAt at.node at.index))) _ is in
    All-cons (λ at. IsSome (own_left t c (EntryAt at.node at.index))) at slots p.0 (has_reached t c slots p.1)
