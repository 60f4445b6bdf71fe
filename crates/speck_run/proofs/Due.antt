-- What is due is the status that the input has.
use Rattle.speck_run.specs as low
use Rattle.std.proofs.Common.{◌≡◌, ◌⊎◌, ℕ, List, [], ◌∷◌, Option, Some, None, Result, Ok, Err, Bool, IfOk, refl, sym, ap, subst, ◌∙◌, arith}
use Rattle.std.proofs.Common.{inl, inr, eqb, get_or, ◌≤◌, if◌then◌else◌, length, codes, string_bytes}
use low.declared.words.Command.TheVariants.{Replay, Trace, Draw, Run, Plain, Print, Ends, Sched, Check, Origins, Worlds, Explain}
use low.declared.top.Status.TheVariants.{Done, Words, Script, ReadFault, WriteFault, Memory, TooLong, Stopped}
use low.Script.{read_by, MadeBy, IsFaultOf, AreInput}
use low.Top.{CommandLine, texts_of, Asked, Asks, AsksNumber, HasNumber, AsksMake, AsksLoad, IsReadingOf, IsExplainedAfter, IsCommand}
use low.Top.{IsMake, IsLoad, IsUnderstood, IsNumberOf, IsNumberIn, IsDue, IsPageOf, IsCommandOf, IsDueOf, IsSummary, IsDone, InputMakes}
use low.Top.{CarriesOut, IsStatusOf, Answers, IsAccepted, Writes, InputRuns, Finishes}
use Rattle.{load_maker.specs.script_reader.specs.line_reader.specs.number_of}
use Rattle.{load_maker.specs.script_reader.specs.line_reader.specs.First_fault}
use Rattle.{spk_nums.specs.declared.memory.Memory.Memory as Out_of_memory, byte_ends.specs.Ends.HasRisen, byte_ends.specs.Ends.Adds}
use Rattle.{load_maker.specs.script_reader.specs.line_reader.specs.declared.cause.Cause.Cause, load_maker.specs.Loads.load_text}
use Rattle.{explain_run.specs.line_forms.specs.declared.context.Reading.Reading, whole_ends.specs.Ends.GivesAll}
use low.{declared.words.Command.Command, declared.answers.Answer.Answer, declared.top.Status.Status}
use lib.Pointwise.{pointwise}

same_fault : {A : Type 0} (f g : First_fault) (r : Result A First_fault) → r ≡ Err f → r ≡ Err g → f ≡ g
same_fault f g r p q = cc

-- Words without a number are those of one command: the one that their text tells.
is_word : List (List ℕ) → List ℕ → Bool
is_word texts word = pointwise (λ x y. pointwise eqb x y) texts (word ∷ [])

is_pair : List (List ℕ) → List ℕ → Bool
is_pair texts subject = pointwise (λ x y. pointwise eqb x y) texts (codes "explain" ∷ subject ∷ [])

explained : List (List ℕ) → Option Command
explained texts = if is_pair texts (codes "print") then Some (Explain Reading.Script)
    else if is_pair texts (codes "ends") then Some (Explain Reading.Ends)
    else if is_pair texts (codes "sched") then Some (Explain Reading.Sched)
    else if is_pair texts (codes "check") then Some (Explain Reading.History) else None

told : List (List ℕ) → Option Command
told texts = if is_word texts (codes "replay") then Some Replay else if is_word texts (codes "trace") then Some Trace
    else if is_word texts (codes "draw") then Some (Draw 1)
    else if is_word texts (codes "run") then Some Run else if is_word texts (codes "plain") then Some Plain
    else if is_word texts (codes "print") then Some Print else if is_word texts (codes "ends") then Some Ends
    else if is_word texts (codes "sched") then Some Sched else if is_word texts (codes "check") then Some Check
    else if is_word texts (codes "origins") then Some Origins else if is_word texts (codes "worlds") then Some Worlds else explained texts

some_same : (a b : Command) → Some a ≡ Some b → a ≡ b
some_same a b e = cc

some_none : (a : Command) → Some a ≡ None → ⊥
some_none a e = cc

-- What words ask for: a command that their text tells, or a page of a drawing by its number.
data Asked_by (words : CommandLine) (command : Command) : Type 0 where
  By_text : told (texts_of words) ≡ Some command → Asked_by words command
  By_page : (page : ℕ) → command ≡ Draw page → AsksNumber (codes "draw") words page → Asked_by words command

by_text : (words : CommandLine) (command : Command) (texts : List (List ℕ)) → told texts ≡ Some command → texts_of words ≡ texts
    → Asked_by words command
by_text words command texts is p = By_text (ap told p ∙ is)

asked_by : (words : CommandLine) (command : Command) → Asks words command → Asked_by words command
unfolding told is_word explained is_pair
asked_by words (Draw page) (inl p) =
    by_text words (Draw page) (codes "draw" ∷ []) (ap (λ (n : ℕ). Some (Draw n)) (sym p.1)) p.0
asked_by words (Draw page) (inr p) = By_page page refl p.0
asked_by words Replay p = by_text words Replay (codes "replay" ∷ []) refl p
asked_by words Trace p = by_text words Trace (codes "trace" ∷ []) refl p
asked_by words Run p = by_text words Run (codes "run" ∷ []) refl p
asked_by words Plain p = by_text words Plain (codes "plain" ∷ []) refl p
asked_by words Print p = by_text words Print (codes "print" ∷ []) refl p
asked_by words Ends p = by_text words Ends (codes "ends" ∷ []) refl p
asked_by words Sched p = by_text words Sched (codes "sched" ∷ []) refl p
asked_by words Check p = by_text words Check (codes "check" ∷ []) refl p
asked_by words Origins p = by_text words Origins (codes "origins" ∷ []) refl p
asked_by words Worlds p = by_text words Worlds (codes "worlds" ∷ []) refl p
asked_by words (Explain Reading.Script) p = by_text words (Explain Reading.Script) (codes "explain" ∷ codes "print" ∷ []) refl p
asked_by words (Explain Reading.Ends) p = by_text words (Explain Reading.Ends) (codes "explain" ∷ codes "ends" ∷ []) refl p
asked_by words (Explain Reading.Sched) p = by_text words (Explain Reading.Sched) (codes "explain" ∷ codes "sched" ∷ []) refl p
asked_by words (Explain Reading.History) p = by_text words (Explain Reading.History) (codes "explain" ∷ codes "check" ∷ []) refl p

-- The text of such words of a number tells no command.
draw_untold : (digits : List ℕ) → told (codes "draw" ∷ digits ∷ []) ≡ None
unfolding told is_word explained is_pair
draw_untold digits = refl

make_untold : (digits : List ℕ) → told (codes "make" ∷ digits ∷ []) ≡ None
unfolding told is_word explained is_pair
make_untold digits = refl

load_untold : (digits : List ℕ) → told (codes "load" ∷ digits ∷ []) ≡ None
unfolding told is_word explained is_pair
load_untold digits = refl

untold : (words : CommandLine) (command : Command) (name digits : List ℕ) → told (name ∷ digits ∷ []) ≡ None
    → texts_of words ≡ name ∷ digits ∷ [] → told (texts_of words) ≡ Some command → ⊥
untold words command name digits none is p = some_none command (sym p ∙ ap told is ∙ none)

-- The letter with which the words begin.
first_letter : List (List ℕ) → ℕ
first_letter texts = get_or (get_or texts 0 []) 0 0

-- Words that ask for something of a number that is no page of a drawing ask for no command.
apart_by : (name : List ℕ) (words : CommandLine) (command : Command) → ((digits : List ℕ) → told (name ∷ digits ∷ []) ≡ None)
    → (get_or name 0 0 ≡ 100 → ⊥) → Asked_by words command → HasNumber name words → ⊥
unfolding first_letter
apart_by name words command none other (By_text p) m =
    untold words command name m.asks.digits (none m.asks.digits) m.asks.asks p
apart_by name words command none other (By_page page is asks) m =
    let named : first_letter (texts_of words) ≡ get_or name 0 0 = ap first_letter m.asks.asks in
    let drawn : first_letter (texts_of words) ≡ 100 = ap first_letter asks.asks in
    other (sym named ∙ drawn)

make_asks_none : (words : CommandLine) (command : Command) → Asks words command → IsMake words → ⊥
make_asks_none words command asks m =
    apart_by (codes "make") words command make_untold (λ e. omega (arith, e)) (asked_by words command asks) m

load_asks_none : (words : CommandLine) (command : Command) → Asks words command → IsLoad words → ⊥
load_asks_none words command asks l =
    apart_by (codes "load") words command load_untold (λ e. omega (arith, e)) (asked_by words command asks) l

-- They ask for one number.
second_same : (v w x y : List ℕ) → v ∷ x ∷ [] ≡ w ∷ y ∷ [] → x ≡ y
second_same v w x y e = cc

number_same : (o : Option ℕ) (m n : ℕ) → o ≡ Some m → o ≡ Some n → m ≡ n
number_same o m n p q = cc

-- The number of such words is that of their digits.
pub number_told : (name : List ℕ) (words : CommandLine) (digits : List ℕ) (o : Option ℕ)
    → texts_of words ≡ name ∷ digits ∷ [] → IsNumberIn digits o → IsNumberOf name words o
number_told name words digits (Some n) e h = record { digits = digits; asks = e; says = h.0; range = h.1 }
number_told name words digits None e h = λ m.
    let same : digits ≡ m.asks.digits = second_same _ _ _ _ (sym e ∙ m.asks.asks) in
    h m.number (ap number_of same ∙ m.asks.says) m.asks.range

-- What is to be explained of such words is told by the second.
pub reading_told : (name : List ℕ) (words : CommandLine) (subject : List ℕ) (o : Option Reading)
    → texts_of words ≡ name ∷ subject ∷ [] → IsReadingOf subject o → IsExplainedAfter name words o
reading_told name words subject (Some r) e h = e ∙ ap (λ x. name ∷ x ∷ []) h
reading_told name words subject None e h = λ r m. h r (second_same _ _ _ _ (sym e ∙ m))

numbers_same : (name : List ℕ) (words : CommandLine) (m n : ℕ) → AsksNumber name words m → AsksNumber name words n → m ≡ n
numbers_same name words m n p q =
    let digits : p.digits ≡ q.digits = second_same _ _ _ _ (sym p.asks ∙ q.asks) in
    number_same (number_of p.digits) m n p.says (ap number_of digits ∙ q.says)

same_by : (words : CommandLine) (a b : Command) → Asked_by words a → Asked_by words b → a ≡ b
same_by words a b (By_text p) (By_text q) = some_same a b (sym p ∙ q)
same_by words a b (By_text p) (By_page page is asks) =
    absurd (untold words a (codes "draw") asks.digits (draw_untold asks.digits) asks.asks p)
same_by words a b (By_page page is asks) (By_text q) =
    absurd (untold words b (codes "draw") asks.digits (draw_untold asks.digits) asks.asks q)
same_by words a b (By_page page is asks) (By_page page' is' asks') =
    is ∙ ap (λ (n : ℕ). Draw n) (numbers_same (codes "draw") words page page' asks asks') ∙ sym is'

pub asks_same : (words : CommandLine) (a b : Command) → Asks words a → Asks words b → a ≡ b
asks_same words a b p q = same_by words a b (asked_by words a p) (asked_by words b q)

-- The page of which words give the number.
pub no_page : (words : CommandLine) → (HasNumber (codes "draw") words → ⊥) → IsPageOf words None
no_page words none = λ page asks some. none (record { number = page; asks = asks })

pub page_zero : (words : CommandLine) (n : ℕ) → AsksNumber (codes "draw") words n → n ≡ 0 → IsPageOf words None
page_zero words n asks is = λ page other some.
    let same : page ≡ n = numbers_same (codes "draw") words page n other asks in omega (arith, same, is, some)

-- Words that are no command's words ask for no command.
pub no_words : (words : CommandLine) → (texts_of words ≡ codes "replay" ∷ [] → ⊥) → (texts_of words ≡ codes "trace" ∷ [] → ⊥)
    → (texts_of words ≡ codes "draw" ∷ [] → ⊥) → (texts_of words ≡ codes "run" ∷ [] → ⊥) → (texts_of words ≡ codes "plain" ∷ [] → ⊥)
    → (texts_of words ≡ codes "print" ∷ [] → ⊥) → (texts_of words ≡ codes "ends" ∷ [] → ⊥) → (texts_of words ≡ codes "sched" ∷ [] → ⊥)
    → (texts_of words ≡ codes "check" ∷ [] → ⊥) → (texts_of words ≡ codes "origins" ∷ [] → ⊥)
    → (texts_of words ≡ codes "worlds" ∷ [] → ⊥)
    → IsExplainedAfter (codes "explain") words None → IsPageOf words None → IsCommandOf words None
no_words words n1 n2 n3 n4 n5 n6 n7 n8 n9 n10 n11 explain page = λ c. by c.command c.asks
  where
    by : (command : Command) → Asks words command → ⊥
    by Replay asks = n1 asks
    by Trace asks = n2 asks
    by (Draw page_asked) (inl asks) = n3 asks.0
    by (Draw page_asked) (inr asks) = page page_asked asks.0 asks.1
    by Run asks = n4 asks
    by Plain asks = n5 asks
    by Print asks = n6 asks
    by Ends asks = n7 asks
    by Sched asks = n8 asks
    by Check asks = n9 asks
    by Origins asks = n10 asks
    by Worlds asks = n11 asks
    by (Explain r) asks = explain r asks

-- And for one thing.
make_apart : (words : CommandLine) → IsMake words → IsLoad words → ⊥
unfolding first_letter
make_apart words m l =
    let made : first_letter (texts_of words) ≡ 109 = ap first_letter m.asks.asks in
    let loaded : first_letter (texts_of words) ≡ 108 = ap first_letter l.asks.asks in
    omega arith

-- What a command takes has no fault, and what it does not take has one first fault.
no_fault : {I : Type 0} (i : I) (f : First_fault) (r : Result I First_fault) → r ≡ Ok i → r ≡ Err f → ⊥
no_fault i f r p q = let e = sym q ∙ p in cc

input_fault : (command : Command) (bytes : List ℕ) (line : ℕ) (cause : Cause) → AreInput command bytes
    → IsFaultOf command bytes line cause → ⊥
input_fault command bytes line cause p q = no_fault p.input _ (read_by command bytes) p.is_input q

status_of : First_fault → Status
status_of f = Script f.line f.cause

fault_same : (command : Command) (bytes : List ℕ) (line : ℕ) (cause : Cause) (line' : ℕ) (cause' : Cause)
    → IsFaultOf command bytes line cause → IsFaultOf command bytes line' cause' → Script line cause ≡ Script line' cause'
unfolding status_of
fault_same command bytes line cause line' cause' p q = ap status_of (same_fault _ _ (read_by command bytes) p q)

-- An input has one status under a command.
status_same : (command : Command) (bytes : List ℕ) (s s' : Status) → IsStatusOf command bytes s → IsStatusOf command bytes s' → s ≡ s'
status_same command bytes Done Done p q = refl
status_same command bytes Done Words p q = absurd q
status_same command bytes Done (Script line' cause') p q = absurd (input_fault command bytes line' cause' p.1 q.1)
status_same command bytes Done ReadFault p q = absurd q
status_same command bytes Done WriteFault p q = absurd q
status_same command bytes Done Memory p q = absurd q
status_same command bytes Done TooLong p q = absurd (omega (arith, p.0, q))
status_same command bytes Done Stopped p q = absurd q
status_same command bytes Words s' p q = absurd p
status_same command bytes (Script line cause) Done p q = absurd (input_fault command bytes line cause q.1 p.1)
status_same command bytes (Script line cause) Words p q = absurd q
status_same command bytes (Script line cause) (Script line' cause') p q = fault_same command bytes line cause line' cause' p.1 q.1
status_same command bytes (Script line cause) ReadFault p q = absurd q
status_same command bytes (Script line cause) WriteFault p q = absurd q
status_same command bytes (Script line cause) Memory p q = absurd q
status_same command bytes (Script line cause) TooLong p q = absurd (omega (arith, p.0, q))
status_same command bytes (Script line cause) Stopped p q = absurd q
status_same command bytes ReadFault s' p q = absurd p
status_same command bytes WriteFault s' p q = absurd p
status_same command bytes Memory s' p q = absurd p
status_same command bytes TooLong Done p q = absurd (omega (arith, p, q.0))
status_same command bytes TooLong Words p q = absurd q
status_same command bytes TooLong (Script line' cause') p q = absurd (omega (arith, p, q.0))
status_same command bytes TooLong ReadFault p q = absurd q
status_same command bytes TooLong WriteFault p q = absurd q
status_same command bytes TooLong Memory p q = absurd q
status_same command bytes TooLong TooLong p q = refl
status_same command bytes TooLong Stopped p q = absurd q
status_same command bytes Stopped s' p q = absurd p

-- What a command makes of bytes is due.
pub due_done : (command : Command) (bytes : List ℕ) (s : Status) (text text' : List ℕ) → s ≡ Done → text' ≡ text
    → MadeBy command bytes text → IsDueOf command bytes s text'
due_done command bytes s text text' is same d =
    subst (λ (x : Status). IsDueOf command bytes x text') (sym is) (subst (λ (t : List ℕ). MadeBy command bytes t) (sym same) d)

-- What is due for an input that was read to its end is due.
pub due_input : (words : CommandLine) (left left' : Option (List ℕ)) (f f' : ℕ)
    (command : Command) (bytes : List ℕ) (s : Status) (text : List ℕ) → Asks words command →
    GivesAll bytes left left' → length bytes ≤ 1048576 → IsDueOf command bytes s text
    → IsDue (record { words = words; left = left; left' = left'; faults = f; faults' = f' }) s text
due_input words left left' f f' command bytes Done text asks input small d = inl record {
  command = command;
  asks = asks;
  makes = record { bytes = bytes; input = input; small = small; made = d };
}
due_input words left left' f f' command bytes Words text asks input small d = absurd d
due_input words left left' f f' command bytes (Script line cause) text asks input small d = (
  record { command = command; asks = asks; bytes = bytes; input = input; small = small; fault = d.0 },
  d.1,
)
due_input words left left' f f' command bytes ReadFault text asks input small d = absurd d
due_input words left left' f f' command bytes WriteFault text asks input small d = absurd d
due_input words left left' f f' command bytes Memory text asks input small d = absurd d
due_input words left left' f f' command bytes TooLong text asks input small d = absurd d
due_input words left left' f f' command bytes Stopped text asks input small d = (
  record {
    command = command;
    asks = asks;
    threads = d.0;
    bytes = bytes;
    input = input;
    small = small;
    is_input = d.1;
  },
  d.2,
)

-- An answer is due whose status and text are.
pub answer_due : (a : Asked) (s : Status) (text : List ℕ) (r : Result Answer Out_of_memory) → IsDue a s text
    → IfOk r (λ answer. answer.status ≡ s) → IfOk r (λ answer. string_bytes answer.text ≡ text) →
    IfOk r (λ answer. IsDue a answer.status (string_bytes answer.text))
answer_due a s text (Ok answer) d is same =
    subst (λ (due : Status). IsDue a due (string_bytes answer.text)) (sym is) (subst (IsDue a s) (sym same) d)
answer_due a s text (Err e) d is same = tt

-- An answer that is due for an input is due.
pub answer_of_input : (words : CommandLine) (left left' : Option (List ℕ)) (f f' : ℕ) (command : Command)
    (given bytes : List ℕ) (r : Result Answer Out_of_memory) → Asks words command → GivesAll given left left' →
    length given ≤ 1048576 → bytes ≡ given → IfOk r (λ answer. IsDueOf command bytes answer.status (string_bytes answer.text)) →
    IfOk r (λ answer. IsDue (record { words = words; left = left; left' = left'; faults = f; faults' = f' })
    answer.status (string_bytes answer.text))
answer_of_input words left left' f f' command given bytes (Ok answer) asks input small same d =
    due_input words left left' f f' command given answer.status (string_bytes answer.text) asks
    input small (subst (λ b. IsDueOf command b answer.status (string_bytes answer.text)) same d)
answer_of_input words left left' f f' command given bytes (Err e) asks input small same d = tt

-- What a command makes of an input, it makes of one that it takes.
made_input : (command : Command) (bytes text : List ℕ) → MadeBy command bytes text → AreInput command bytes
made_input command bytes text d = record { input = d.input; is_input = d.is_input }

module _ (words : CommandLine) (command : Command) (asks : Asks words command) where
  -- With the command that the words are.
  makes_as : (left left' : Option (List ℕ)) (f f' : ℕ) (text : List ℕ)
      → IsDone (record { words = words; left = left; left' = left'; faults = f; faults' = f' }) text →
      InputMakes (MadeBy command) left left' text
  makes_as left left' f f' text (inl d) =
      subst (λ (c : Command). InputMakes (MadeBy c) left left' text) (asks_same words d.command command d.asks asks) d.makes
  makes_as left left' f f' text (inr (inl d)) =
      absurd (make_asks_none words command asks record { number = d.number; asks = d.asks })
  makes_as left left' f f' text (inr (inr d)) =
      absurd (load_asks_none words command asks record { number = d.number; asks = d.asks })

  -- What is due for an input that the source tells.
  status_due : (left : List ℕ) (left' : Option (List ℕ)) (f f' : ℕ) (s : Status) (text : List ℕ) →
      IsDue (record { words = words; left = Some left; left' = left'; faults = f; faults' = f' }) s text
      → IsStatusOf command left s ⊎ ((s ≡ Stopped) ⊎ (s ≡ ReadFault))
  status_due left left' f f' Done text d =
      let a = makes_as (Some left) left' f f' text d in
      inl (subst (λ (l : List ℕ). IsStatusOf command l Done) a.input.all (a.small, made_input command a.bytes text a.made))
  status_due left left' f f' Words text d = absurd (d.0 (inl (record { command = command; asks = asks })))
  status_due left left' f f' (Script line cause) text (d, t) =
      inl (subst (λ (l : List ℕ). IsStatusOf command l (Script line cause)) d.input.all (
        d.small,
        subst (λ (c : Command). IsFaultOf c d.bytes line cause) (asks_same words d.command command d.asks asks) d.fault,
      ))
  status_due left left' f f' ReadFault text d = inr (inr refl)
  status_due left left' f f' Stopped text d = inr (inl refl)
  status_due left left' f f' WriteFault text d = absurd d
  status_due left left' f f' Memory text d = absurd d
  status_due left left' f f' TooLong text (i, d, t) = inl (omega (arith, d.there))

  answers_of : (left : List ℕ) (s : Status) → IsStatusOf command left s ⊎ ((s ≡ Stopped) ⊎ (s ≡ ReadFault)) → Answers command (Some left) s
  answers_of left s (inl p) = λ due h. inl (status_same command left s due p h)
  answers_of left s (inr (inl e)) = λ due h. inr (inl e)
  answers_of left s (inr (inr e)) = λ due h. inr (inr (inl e))

  -- The answer with what is due, or with a fault.
  pub answers_due : (left left' : Option (List ℕ)) (f f' : ℕ) (s : Status) (text : List ℕ) →
      IsDue (record { words = words; left = left; left' = left'; faults = f; faults' = f' }) s text → Answers command left s
  answers_due None left' f f' s text d = tt
  answers_due (Some left) left' f f' s text d = answers_of left s (status_due left left' f f' s text d)

  -- An input that the command takes is done, where reading has not failed.
  pub completes : (left left' : Option (List ℕ)) (f f' : ℕ) (s : Status) (text : List ℕ) →
      IsDue (record { words = words; left = left; left' = left'; faults = f; faults' = f' }) s text
      → IsAccepted command left → (s ≡ Stopped → ⊥) → (HasRisen f f' → ⊥) → s ≡ Done
  completes None left' f f' s text d accepted goes sure = absurd accepted
  completes (Some left) left' f f' s text d accepted goes sure = elim (status_due left left' f f' s text d) [
    | inl p ↦ status_same command left s Done p accepted
    | inr (inl e) ↦ absurd (goes e)
    | inr (inr e) ↦ absurd (sure (subst
        (λ (due : Status). IsDue (record { words = words; left = Some left; left' = left'; faults = f; faults' = f' }) due text) e d).1)
  ]

  -- The text of a call that is done, and that the sink has taken.
  pub carried_out : (left left' : Option (List ℕ)) (f f' : ℕ) (s : Status) (text : List ℕ) (held held' : Option (List ℕ)) →
      IsDue (record { words = words; left = left; left' = left'; faults = f; faults' = f' }) s text → s ≡ Done → Adds text held held' →
      CarriesOut (MadeBy command) left left' held held'
  carried_out left left' f f' s text held held' d e written = record {
    text = text;
    makes = makes_as left left' f f' text
        (subst (λ (due : Status). IsDue (record { words = words; left = left; left' = left'; faults = f; faults' = f' }) due text) e d);
    written = written;
  }

  -- The text that the sink has taken where the call has ended with `Done`.
  pub carries : (left left' : Option (List ℕ)) (f f' : ℕ) (s : Status) (text : List ℕ) (faults faults' : ℕ) (held held' : Option (List ℕ))
      (status : Status) → IsDue (record { words = words; left = left; left' = left'; faults = f; faults' = f' }) s text
      → Finishes s text faults faults' held held' status → status ≡ Done → CarriesOut (MadeBy command) left left' held held'
  carries left left' f f' s text faults faults' held held' status d (inl p) done =
      carried_out left left' f f' s text held held' d (sym p.0 ∙ done) p.2
  carries left left' f f' s text faults faults' held held' status d (inr p) done = let wrong = sym p.0 ∙ done in cc

pub answers_fault : (command : Command) (left : Option (List ℕ)) (s : Status) → (s ≡ WriteFault) ⊎ (s ≡ Memory) → Answers command left s
answers_fault command None s e = tt
answers_fault command (Some left) s e = λ due h. inr (inr (inr e))

-- What is written with what is due.
pub writes_due : (a : Asked) (held held' : Option (List ℕ)) (s : Status) (text : List ℕ)
    → IsDue a s text → Adds text held held' → Writes a held held' s
writes_due a held held' Done text d w = (text, d, w)
writes_due a held held' Words text d w = subst (λ (t : List ℕ). Adds t held held') d.1 w
writes_due a held held' (Script line cause) text d w = subst (λ (t : List ℕ). Adds t held held') d.1 w
writes_due a held held' ReadFault text d w = subst (λ (t : List ℕ). Adds t held held') d.2 w
writes_due a held held' WriteFault text d w = absurd d
writes_due a held held' Memory text d w = absurd d
writes_due a held held' TooLong text d w = subst (λ (t : List ℕ). Adds t held held') d.2 w
writes_due a held held' Stopped text d w = subst (λ (t : List ℕ). Adds t held held') d.1 w

-- What is done was asked for, and words that ask for nothing are not understood.
understood_done : (a : Asked) (text : List ℕ) → IsDone a text → IsUnderstood a.words
understood_done a text (inl d) = inl (record { command = d.command; asks = d.asks })
understood_done a text (inr (inl d)) = inr (inl (record { number = d.number; asks = d.asks }))
understood_done a text (inr (inr d)) = inr (inr (record { number = d.number; asks = d.asks }))

pub done_asked : (a : Asked) (s : Status) (text : List ℕ) → IsDue a s text → s ≡ Done → IsUnderstood a.words
done_asked a s text d e = understood_done a text (subst (λ (due : Status). IsDue a due text) e d)

pub words_due : (a : Asked) (s : Status) (text : List ℕ) → IsDue a s text → (IsUnderstood a.words → ⊥) → s ≡ Words
words_due a Done text d other = absurd (other (understood_done a text d))
words_due a Words text d other = refl
words_due a (Script line cause) text d other = absurd (other (inl (record { command = d.0.command; asks = d.0.asks })))
words_due a ReadFault text d other = absurd (other (inl d.0))
words_due a WriteFault text d other = absurd d
words_due a Memory text d other = absurd d
words_due a TooLong text d other = absurd (other (inl d.0))
words_due a Stopped text d other = absurd (other (inl (record { command = d.0.command; asks = d.0.asks })))

-- A run that was stopped was asked for.
pub stops_run : (a : Asked) (s : Status) (text : List ℕ) → IsDue a s text → s ≡ Stopped → InputRuns a.words a.left a.left'
stops_run a s text d e = (subst (λ (due : Status). IsDue a due text) e d).0

-- ---- the script of a number, and its summary

-- Words that ask for no number's script and no number's summary, and for no command, ask for nothing.
pub nothing_asked : (words : CommandLine) → (IsCommand words → ⊥) → (IsMake words → ⊥) → (IsLoad words → ⊥) → IsUnderstood words → ⊥
nothing_asked words command make load (inl c) = command c
nothing_asked words command make load (inr (inl m)) = make m
nothing_asked words command make load (inr (inr l)) = load l

module _ (words : CommandLine) (number : ℕ) (asks : AsksMake words number) where
  understood : IsMake words
  understood = record { number = number; asks = asks }

  apart : IsCommand words → ⊥
  apart c = make_asks_none words c.command c.asks understood

  not_load : IsLoad words → ⊥
  not_load = make_apart words understood

  -- Nothing but its text is due.
  pub load_due : (left left' : Option (List ℕ)) (f f' : ℕ) (s : Status) (text : List ℕ) → IsDue
      (record { words = words; left = left; left' = left'; faults = f; faults' = f' }) s text → (s ≡ Done) × (text ≡ load_text number)
  load_due left left' f f' Done text (inl d) = absurd (apart record { command = d.command; asks = d.asks })
  load_due left left' f f' Done text (inr (inl d)) =
      (refl, d.is_text ∙ ap load_text (numbers_same (codes "make") words d.number number d.asks asks))
  load_due left left' f f' Done text (inr (inr d)) = absurd (not_load record { number = d.number; asks = d.asks })
  load_due left left' f f' Words text d = absurd (d.0 (inr (inl understood)))
  load_due left left' f f' (Script line cause) text d = absurd (apart record { command = d.0.command; asks = d.0.asks })
  load_due left left' f f' ReadFault text d = absurd (apart d.0)
  load_due left left' f f' WriteFault text d = absurd d
  load_due left left' f f' Memory text d = absurd d
  load_due left left' f f' TooLong text d = absurd (apart d.0)
  load_due left left' f f' Stopped text d = absurd (apart record { command = d.0.command; asks = d.0.asks })

module _ (words : CommandLine) (number : ℕ) (asks : AsksLoad words number) where
  sums_up : IsLoad words
  sums_up = record { number = number; asks = asks }

  no_script : IsCommand words → ⊥
  no_script c = load_asks_none words c.command c.asks sums_up

  same_load : (n : ℕ) → AsksLoad words n → n ≡ number
  same_load n other = numbers_same (codes "load") words n number other asks

  -- Nothing but its summary is due.
  pub summary_due : (left left' : Option (List ℕ)) (f f' : ℕ) (s : Status) (text : List ℕ)
      → IsDue (record { words = words; left = left; left' = left'; faults = f; faults' = f' }) s text → (s ≡ Done) × IsSummary number text
  summary_due left left' f f' Done text (inl d) = absurd (no_script record { command = d.command; asks = d.asks })
  summary_due left left' f f' Done text (inr (inl d)) = absurd (make_apart words record { number = d.number; asks = d.asks } sums_up)
  summary_due left left' f f' Done text (inr (inr d)) = (refl, subst (λ n. IsSummary n text) (same_load d.number d.asks) d.is_text)
  summary_due left left' f f' Words text d = absurd (d.0 (inr (inr sums_up)))
  summary_due left left' f f' (Script line cause) text d = absurd (no_script record { command = d.0.command; asks = d.0.asks })
  summary_due left left' f f' ReadFault text d = absurd (no_script d.0)
  summary_due left left' f f' WriteFault text d = absurd d
  summary_due left left' f f' Memory text d = absurd d
  summary_due left left' f f' TooLong text d = absurd (no_script d.0)
  summary_due left left' f f' Stopped text d = absurd (no_script record { command = d.0.command; asks = d.0.asks })

  -- An answer that is the summary is due.
  pub answer_of_load : (left left' : Option (List ℕ)) (f f' : ℕ) (r : Result Answer Out_of_memory)
      → IfOk r (λ answer. answer.status ≡ Done) → IfOk r (λ answer. IsSummary number (string_bytes answer.text)) →
      IfOk r (λ answer. IsDue (record { words = words; left = left; left' = left'; faults = f; faults' = f' })
      answer.status (string_bytes answer.text))
  answer_of_load left left' f f' (Ok answer) done is = subst (λ (due : Status).
      IsDue (record { words = words; left = left; left' = left'; faults = f; faults' = f' }) due (string_bytes answer.text)) (sym done)
      (inr (inr record { number = number; asks = asks; is_text = is }))
  answer_of_load left left' f f' (Err e) done is = tt
