-- No list of a script has more calls than the script has words.
use Rattle.script_reader.specs.{line_of, is_whole, items_of, Draft_of, Meaning, no_draft, calls_of, with_call, with_line, is_order}
use Rattle.script_reader.specs.{behind_line, draft_behind, draft_from, meaning_of, meaning_at, script_of, AtMost, script_view, lists_of}
use Rattle.std.proofs.Common.{◌≡◌, ℕ, ◌+◌, ◌≤◌, List, [], ◌∷◌, ◌++◌, length, All, IfOk, Result, Ok, Err, subst, arith, inl, inr}
use Rattle.line_reader.proofs.{judged_is, read_is, bind_ok, then_ok, at_line_ok, few_rows, lines_keep}
use Rattle.line_reader.specs.{Row, rows_of, First_fault, Gives}
use Rattle.std.proofs.lemmas.List.Elements.{All-set, All-get_or, All-weaker, All-take, All-replicate}
use Rattle.script_reader.specs.{declared.head.Line.Line, declared.reading.Script.Script, Readings.draft_step}
use Rattle.{std.proofs.lemmas.Bool.cases_Bool, std.proofs.lemmas.Bool.cases_lt, std.proofs.lemmas.List.get_or_past}
use Rattle.{std.proofs.lemmas.List.length_push, script_tokens.specs.words_of, script_tokens.specs.ending_of}
use Rattle.{spk_nums.specs.declared.calls.Call.Call, script_tokens.specs.declared.scanning.Ending.Ending}
use Rattle.{script_tokens.specs.declared.scanning.Ending.TheVariants.Whole, script_tokens.specs.declared.scanning.Ending.TheVariants.Fault}
use Rattle.{script_tokens.specs.declared.scanning.ByteFault.TheVariants.NotAscii}
use Rattle.{script_tokens.specs.declared.scanning.ByteFault.TheVariants.TooManyLines, line_reader.specs.declared.cause.ReadFault.ReadFault}
use Rattle.script_reader.specs.declared.head.Line.TheVariants as line

pub few_weaker : (m n : ℕ) (lists : List (List Call)) → m ≤ n → All (AtMost m) lists → All (AtMost n) lists
few_weaker m n lists le h = All-weaker (AtMost m) (AtMost n) (λ calls k. omega (arith, k)) lists h

few_call : (n core : ℕ) (call : Call) (lists : List (List Call)) → All (AtMost n) lists → All (AtMost (n + 1)) (with_call lists core call)
few_call n core call lists h =
    let old : length (calls_of lists core) ≤ n =
    elim (cases_lt core (length lists)) [
      | inl lt ↦ All-get_or (AtMost n) lists core [] lt h
      | inr le ↦ rw (get_or_past lists core [] le) (omega arith)
    ] in
    All-set (AtMost (n + 1)) lists core (calls_of lists core ++ call ∷ [])
    (omega (arith, length_push (calls_of lists core) call)) (few_weaker n (n + 1) lists (omega arith) h)

few_line : (n : ℕ) (d : Draft_of) (l : Line) → All (AtMost n) d.lists → All (AtMost (n + 1)) (with_line d l).lists
few_line n d (line.Head head) h = few_weaker n (n + 1) d.lists (omega arith) h
few_line n d (line.Call call) h = few_call n d.head.core call d.lists h

pub few_behind : (n : ℕ) (d e : Draft_of) (words : List (List ℕ))
    → draft_behind d words ≡ Ok e → All (AtMost n) d.lists → All (AtMost (n + 1)) e.lists
unfolding draft_behind behind_line
few_behind n d e words is h =
    elim (cases_Bool (is_order d.head.section)) [
      | inl order ↦
          let b = bind_ok (items_of d.head.version d.head.cores d.order words) (λ more. Ok (record d { order = more })) e (rw order at is) in
          let same : record d { order = b.0 } ≡ e = judged_is _ _ b.2 in
          subst (λ (x : Draft_of). All (AtMost (n + 1)) x.lists) same (few_weaker n (n + 1) d.lists (omega arith) h)
      | inr order ↦
          let b = bind_ok (line_of d.head words) (λ l. Ok (with_line d l)) e (rw order at is) in
          let same : with_line d b.0 ≡ e = judged_is _ _ b.2 in
          subst (λ (x : Draft_of). All (AtMost (n + 1)) x.lists) same (few_line n d b.0 h)
    ]

few_from : (n : ℕ) (d e : Draft_of) (rows : List Row) → draft_from d rows ≡ Ok e
    → All (AtMost n) d.lists → All (AtMost (n + length rows)) e.lists
few_from = lines_keep draft_step (λ n (x : Draft_of). All (AtMost n) x.lists)
    (λ n d e number words is h. few_behind n d e words (at_line_ok number (draft_behind d words) e is) h)

few_at : (n : ℕ) (d : Draft_of) (e : Ending) (m : Meaning) → meaning_at d e ≡ Ok m → All (AtMost n) d.lists → All (AtMost n) m.lists
few_at n d (Fault (NotAscii number)) m is h = absurd cc
few_at n d (Fault TooManyLines) m is h = absurd cc
few_at n d (Whole lines) m is h =
    elim (cases_Bool (is_whole d.head.section)) [
      | inl whole ↦ subst (λ (x : Meaning). All (AtMost n) x.lists)
          (read_is (meaning_of d) m (rw whole at is)) (All-take (AtMost n) d.head.cores d.lists h)
      | inr whole ↦ absurd (none_ok m (rw whole at is))
    ]
  where
    none_ok : {f : First_fault} (x : Meaning) → Err f ≡ Ok x → ⊥
    none_ok x k = cc

few_calls : (source : List ℕ) (m : Meaning) → script_of source ≡ Ok m → All (AtMost (length (words_of source))) m.lists
unfolding script_of
few_calls source m is =
    let b = then_ok (draft_from no_draft (rows_of (words_of source))) (λ d. meaning_at d (ending_of source)) m is in
    let none : All (AtMost 0) no_draft.lists = All-replicate (AtMost 0) 8 [] (omega arith) in
    let few = few_from 0 no_draft b.0 (rows_of (words_of source)) b.1 none in
    few_at (length (words_of source)) b.0 (ending_of source) m b.2 (few_weaker (0 + length (rows_of (words_of source)))
    (length (words_of source)) b.0.lists (omega (arith, few_rows (words_of source))) few)

-- what is read has no more calls than bytes
pub few_read : (source : List ℕ) (r : Result Script ReadFault)
    → Gives script_view r (script_of source) → IfOk r (λ s. length (words_of source) ≤ length source)
    → IfOk r (λ s. All (AtMost (length source)) (lists_of s.lists.items))
few_read source (Ok s) gives words =
    few_weaker (length (words_of source)) (length source) (lists_of s.lists.items) words (few_calls source (script_view s) gives)
few_read source (Err e) gives words = tt
