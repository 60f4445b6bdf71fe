-- A line is that of a `tick` only where its first word is `tick`.
use Rattle.sched_reader.specs as low
use low.call_reader.specs.{first_word, call_line, call_word, FirstWords.verb_of, FirstWords.verbs, declared.first_words.FirstWord.FirstWord}
use low.call_reader.specs.spk_nums.specs.{declared.verbs.Verb.Verb, Verbs.said}
use low.call_reader.proofs.{Forms.line_verb, Verbs.verb_found}
use Rattle.kernel_laws.specs.kernel_rules.proofs.{◌≡◌, ℕ, List, [], ◌∷◌, Bool, true, false, if◌then◌else◌, Option, Some, None, Result, Ok}
use Rattle.kernel_laws.specs.kernel_rules.proofs.{Err, IfOk, refl, sym, ◌∙◌, ap, slice_get, codes, option_and_then}
use low.line_reader.specs.{Arguments.is_word, ◌>>=◌, declared.cause.Cause.Cause}
use low.line_reader.specs.{declared.cause.Cause.TheVariants.S2, declared.cause.Cause.TheVariants.S7}
use low.script_reader.specs.{may_stand, line_by, line_of, declared.head.Head.Head, declared.head.Line.Line, Heads.goes_on}
use low.{Lines.is_name, Lines.begins}
use Rattle.{kernel_laws.specs.kernel_rules.proofs.false≢true, kernel_laws.specs.kernel_rules.proofs.Call, std.specs.Option.ok_or}
use Rattle.{sched_start.specs.Owing.IsNoTick}
use Rattle.sched_reader.specs.call_reader.specs.declared.first_words.FirstWord.TheVariants as first

-- ---- the first word

-- One test of a chain that finds another word.
passes : {A Q : Type 0} (t v : A) (b : Bool) (rest : Option A) → (v ≡ t → Q) → (rest ≡ Some t → Q)
    → (if b then Some v else rest) ≡ Some t → Q
passes t v true rest apart go e = apart (some_same v t e)
  where
    some_same : {A : Type 0} (x y : A) → Some x ≡ Some y → x ≡ y
    some_same x y e = cc
passes t v false rest apart go e = go e

module _ (version : ℕ) (word : List ℕ) where
  abbrev IsTick : Type 0
  IsTick = is_word word (codes "tick") ≡ true

  word_tick : (o : Option Verb) → call_word o ≡ Some (first.Call Verb.Tick) → o ≡ Some Verb.Tick
  word_tick None e = absurd (cc)
  word_tick (Some v) e = cc

  first_tick : first_word version word ≡ Some (first.Call Verb.Tick) → IsTick
  unfolding first_word
  first_tick = passes (first.Call Verb.Tick) first.Speck (is_word word (codes "speck")) _ (λ e. absurd (cc))
      (passes (first.Call Verb.Tick) first.Cores (is_word word (codes "cores")) _ (λ e. absurd (cc))
      (passes (first.Call Verb.Tick) first.Frames (is_word word (codes "frames")) _ (λ e. absurd (cc))
      (passes (first.Call Verb.Tick) first.Grant (is_word word (codes "grant")) _ (λ e. absurd (cc))
      (passes (first.Call Verb.Tick) first.Calls (is_word word (codes "calls")) _ (λ e. absurd (cc))
      (passes (first.Call Verb.Tick) first.Epochs (is_word word (codes "epochs")) _ (λ e. absurd (cc))
      (passes (first.Call Verb.Tick) first.Core (is_word word (codes "core")) _ (λ e. absurd (cc))
      (passes (first.Call Verb.Tick) first.Order (is_word word (codes "order")) _ (λ e. absurd (cc))
      (λ e. (verb_found version word verbs Verb.Tick (word_tick (verb_of version word) e)).0))))))))

-- ---- the calls of lines

abbrev Calm : Result Call Cause → Type 0
Calm r = IfOk r IsNoTick

no_tick : (v : Verb) (c : Call) → (said c).verb ≡ v → (v ≡ Verb.Tick → ⊥) → IsNoTick c
no_tick v (Call.Tick n) is other = absurd (other (sym is))
no_tick v _ is other = tt

calm_by : (words : List (List ℕ)) (version : ℕ) (v : Verb) → (v ≡ Verb.Tick → ⊥) → (r : Result Call Cause) → call_line version words v ≡ r → Calm r
calm_by words version v other (Ok c) is = no_tick v c (line_verb version words v c is) other
calm_by words version v other (Err e) is = tt

calm : (words : List (List ℕ)) (version : ℕ) (v : Verb) → (v ≡ Verb.Tick → ⊥) → Calm (call_line version words v)
calm words version v other = calm_by words version v other (call_line version words v) refl

-- ---- a line

abbrev pub IsCalm : Line → Type 0
IsCalm (Line.Head head) = Unit {0}
IsCalm (Line.Call call) = IsNoTick call

head_calm : (read : Result Head Cause) → IfOk (goes_on read) IsCalm
head_calm (Ok head) = tt
head_calm (Err e) = tt

call_calm : (read : Result Call Cause) → Calm read → IfOk (read >>= λ call. Ok (Line.Call call)) IsCalm
call_calm (Ok call) h = h
call_calm (Err e) h = tt

by_calm : (head : Head) (words : List (List ℕ)) (w : FirstWord) → (w ≡ first.Call Verb.Tick → ⊥) → IfOk (line_by head words w) IsCalm
unfolding line_by
by_calm head words (first.Call v) other = call_calm (call_line head.version words v)
    (calm words head.version v (λ same. other (ap (λ x. first.Call x) same)))
by_calm head words first.Speck other = head_calm _
by_calm head words first.Cores other = head_calm _
by_calm head words first.Frames other = head_calm _
by_calm head words first.Grant other = head_calm _
by_calm head words first.Calls other = head_calm _
by_calm head words first.Epochs other = head_calm _
by_calm head words first.Core other = head_calm _
by_calm head words first.Order other = head_calm _

by_stand : (head : Head) (words : List (List ℕ)) (w : FirstWord) → (w ≡ first.Call Verb.Tick → ⊥) → (b : Bool)
    → IfOk (if b then line_by head words w else Err S7) IsCalm
by_stand head words w other true = by_calm head words w other
by_stand head words w other false = tt

by_first : (head : Head) (words : List (List ℕ)) (o : Option FirstWord) → (o ≡ Some (first.Call Verb.Tick) → ⊥)
    → IfOk (ok_or o S2 >>= λ word. if may_stand head.section word then line_by head words word else Err S7) IsCalm
by_first head words None never = tt
by_first head words (Some w) never = by_stand head words w (λ same. never (ap (λ x. Some x) same)) (may_stand head.section w)

other_word : (version : ℕ) (word : List ℕ) → is_word word (codes "tick") ≡ false → first_word version word ≡ Some (first.Call Verb.Tick) → ⊥
other_word version word other is = false≢true (sym other ∙ first_tick version word is)

by_word : (head : Head) (words : List (List ℕ)) (o : Option (List ℕ)) → is_name (codes "tick") o ≡ false
    → IfOk (ok_or (option_and_then (first_word head.version) o) S2
    >>= λ word. if may_stand head.section word then line_by head words word else Err S7) IsCalm
by_word head words None other = tt
by_word head words (Some word) other = by_first head words (first_word head.version word) (other_word head.version word other)

-- A line whose first word is another than `tick` says no `tick`.
pub line_calm : (head : Head) (words : List (List ℕ)) → begins words (codes "tick") ≡ false → IfOk (line_of head words) IsCalm
unfolding line_of
line_calm head words other = by_word head words (slice_get words 0) other
