-- No list of what is read has more calls than the bytes have words.
use Rattle.std.proofs.Common.{◌≡◌, ℕ, ◌+◌, ◌≤◌, List, [], ◌∷◌, ◌++◌, length, take, All, IfOk, Result, Ok, Err, subst, arith, inl, inr}
use Rattle.line_reader.proofs.{judged_is, read_is, bind_ok, then_ok, at_line_ok, few_rows, lines_keep}
use Rattle.script_reader.specs.{Draft_of, draft_behind, meaning_of, AtMost, lists_of}
use Rattle.line_reader.specs.{◌>>=◌, Row, rows_of, Gives, First_fault}
use Rattle.std.proofs.lemmas.List.Elements.{All-set, All-get_or, All-weaker, All-take, All-replicate}
use Rattle.line_reader.specs.{declared.cause.Cause.Cause, declared.cause.Cause.TheVariants.S2, declared.cause.Cause.TheVariants.S7}
use Rattle.ends_reader.specs.{declared.part.PartWord.PartWord, declared.part.PartWord.TheVariants.Core}
use Rattle.ends_reader.specs.{declared.part.PartWord.TheVariants.Ask, declared.reading.EndsSection.TheVariants.Ends}
use Rattle.ends_reader.specs.{declared.reading.EndsSection.TheVariants.Calls, declared.reading.EndsInput.EndsInput, Parts.begins_ends}
use Rattle.ends_reader.specs.{Parts.part_word, Parts.core_in, Parts.ask_in, Inputs.Input_draft, Inputs.no_input, Inputs.asks_of}
use Rattle.ends_reader.specs.{Inputs.with_ask, Inputs.is_script, Inputs.is_calls, Inputs.may_end, Inputs.ends_line, Inputs.script_line}
use Rattle.ends_reader.specs.{Inputs.core_line, Inputs.ask_line, Inputs.part_by, Inputs.part_line, Inputs.input_behind, Inputs.input_step}
use Rattle.ends_reader.specs.{Inputs.input_from, Inputs.Input, Inputs.input_in, Inputs.input_at, Inputs.FewAsks}
use Rattle.{std.proofs.Common.slice_get, std.proofs.Common.ok_or, std.proofs.Common.option_and_then, ends_reader.specs.input_of}
use Rattle.{ends_reader.specs.input_view, ends_reader.specs.ask_lists, std.proofs.lemmas.Bool.cases_Bool, std.proofs.lemmas.Bool.cases_lt}
use Rattle.{std.proofs.lemmas.List.get_or_past, std.proofs.lemmas.List.length_push, script_tokens.specs.words_of}
use Rattle.{script_tokens.specs.ending_of, async_ends.specs.declared.endpoint.EndOp.EndOp, async_ends.specs.declared.asks.EndAsk.EndAsk}
use Rattle.{script_tokens.specs.declared.scanning.Ending.Ending, script_tokens.specs.declared.scanning.Ending.TheVariants.Whole}
use Rattle.{script_tokens.specs.declared.scanning.Ending.TheVariants.Fault}
use Rattle.{script_tokens.specs.declared.scanning.ByteFault.TheVariants.NotAscii}
use Rattle.{script_tokens.specs.declared.scanning.ByteFault.TheVariants.TooManyLines, line_reader.specs.declared.cause.ReadFault.ReadFault}
use Rattle.{line_reader.specs.Arguments.end_at, script_reader.proofs.Amounts.few_weaker, script_reader.proofs.Amounts.few_behind}

-- at most n calls in each list of calls and of endpoint calls
pub record AreFew (n : ℕ) (d : Input_draft) : Type 0 where
  pub calls : All (AtMost n) d.script.lists
  pub asks : All (FewAsks n) d.asks

few_asks_weaker : (m n : ℕ) (asks : List (List EndAsk)) → m ≤ n → All (FewAsks m) asks → All (FewAsks n) asks
few_asks_weaker m n asks le h = All-weaker (FewAsks m) (FewAsks n) (λ one k. omega (arith, k)) asks h

weaker : (m n : ℕ) (d : Input_draft) → m ≤ n → AreFew m d → AreFew n d
weaker m n d le h = record {
  calls = few_weaker m n d.script.lists le h.calls;
  asks = few_asks_weaker m n d.asks le h.asks;
}

few_ask : (n core : ℕ) (ask : EndAsk) (asks : List (List EndAsk)) → All (FewAsks n) asks → All (FewAsks (n + 1)) (with_ask asks core ask)
few_ask n core ask asks h =
    let old : length (asks_of asks core) ≤ n =
    elim (cases_lt core (length asks)) [
      | inl lt ↦ All-get_or (FewAsks n) asks core [] lt h
      | inr le ↦ rw (get_or_past asks core [] le) (omega arith)
    ] in
    All-set (FewAsks (n + 1)) asks core (asks_of asks core ++ ask ∷ [])
    (omega (arith, length_push (asks_of asks core) ask)) (few_asks_weaker n (n + 1) asks (omega arith) h)

few_ends : (n : ℕ) (d e : Input_draft) (words : List (List ℕ)) → ends_line d words ≡ Ok e → AreFew n d → AreFew (n + 1) e
unfolding ends_line
few_ends n d e words is h =
    let a = bind_ok (may_end d.script) (λ whole. end_at words 1 >>= λ done. Ok (record d { section = Ends })) e is in
    let b = bind_ok (end_at words 1) (λ done. Ok (record d { section = Ends })) e a.2 in
    subst (AreFew (n + 1)) (judged_is (record d { section = Ends }) e b.2) (let w = weaker n (n + 1) d (omega arith) h in
    record { calls = w.calls; asks = w.asks })

few_script : (n : ℕ) (d e : Input_draft) (words : List (List ℕ)) → script_line d words ≡ Ok e → AreFew n d → AreFew (n + 1) e
unfolding script_line
few_script n d e words is h =
    elim (cases_Bool (begins_ends words)) [
      | inl ends ↦ few_ends n d e words (rw ends at is) h
      | inr other ↦
          let b = bind_ok (draft_behind d.script words) (λ (s : Draft_of). Ok (record d { script = s })) e (rw other at is) in
          subst (AreFew (n + 1)) (judged_is (record d { script = b.0 }) e b.2) record {
            calls = few_behind n d.script b.0 words b.1 h.calls;
            asks = few_asks_weaker n (n + 1) d.asks (omega arith) h.asks;
          }
    ]

few_core : (n : ℕ) (d e : Input_draft) (words : List (List ℕ)) → core_line d words ≡ Ok e → AreFew n d → AreFew (n + 1) e
few_core n d e words is h =
    let b = bind_ok (core_in words d.script.head.cores) (λ core. Ok (record d { section = Calls; core = core })) e is in
    subst (AreFew (n + 1)) (judged_is (record d { section = Calls; core = b.0 }) e b.2) (let w = weaker n (n + 1) d (omega arith) h in
    record { calls = w.calls; asks = w.asks })

not_ok : {A : Type 0} (c : Cause) (e : A) → Err c ≡ Ok e → ⊥
not_ok c e is = cc

few_ask_line : (n : ℕ) (d e : Input_draft) (words : List (List ℕ)) (op : EndOp) → ask_line d words op ≡ Ok e → AreFew n d → AreFew (n + 1) e
few_ask_line n d e words op is h =
    elim (cases_Bool (is_calls d.section)) [
      | inl calls ↦
          let b = bind_ok (ask_in words op) (λ ask. Ok (record d { asks = with_ask d.asks d.core ask })) e (rw calls at is) in
          subst (AreFew (n + 1)) (judged_is (record d { asks = with_ask d.asks d.core b.0 }) e b.2) record {
            calls = few_weaker n (n + 1) d.script.lists (omega arith) h.calls;
            asks = few_ask n d.core b.0 d.asks h.asks;
          }
      | inr none ↦ absurd (not_ok S7 e (rw none at is))
    ]

few_by : (n : ℕ) (d e : Input_draft) (words : List (List ℕ)) (word : PartWord) → part_by d words word ≡ Ok e → AreFew n d → AreFew (n + 1) e
few_by n d e words Core is h = few_core n d e words is h
few_by n d e words (Ask op) is h = few_ask_line n d e words op is h

few_part : (n : ℕ) (d e : Input_draft) (words : List (List ℕ)) → part_line d words ≡ Ok e → AreFew n d → AreFew (n + 1) e
unfolding part_line
few_part n d e words is h =
    let b = bind_ok (ok_or (option_and_then part_word (slice_get words 0)) S2) (λ word. part_by d words word) e is in
    few_by n d e words b.0 b.2 h

few_in : (n : ℕ) (d e : Input_draft) (words : List (List ℕ)) → input_behind d words ≡ Ok e → AreFew n d → AreFew (n + 1) e
few_in n d e words is h =
    elim (cases_Bool (is_script d.section)) [
      | inl script ↦ few_script n d e words (rw script at is) h
      | inr part ↦ few_part n d e words (rw part at is) h
    ]

few_from : (n : ℕ) (d e : Input_draft) (rows : List Row) → input_from d rows ≡ Ok e → AreFew n d → AreFew (n + length rows) e
few_from = lines_keep input_step AreFew
    (λ n d e number words is h. few_in n d e words (at_line_ok number (input_behind d words) e is) h)

-- at most n calls in each list of what was read
record AreShort (n : ℕ) (i : Input) : Type 0 where
  calls : All (AtMost n) i.script.lists
  asks : All (FewAsks n) i.asks

no_input_ok : (f : First_fault) (i : Input) → Err f ≡ Ok i → ⊥
no_input_ok f i is = cc

-- what a draft with its line `ends` says
abbrev said : Input_draft → Input
said d = record { script = meaning_of d.script; asks = take d.script.head.cores d.asks }

short : (n : ℕ) (d : Input_draft) → AreFew n d → AreShort n (said d)
short n d h = record {
  calls = All-take (AtMost n) d.script.head.cores d.script.lists h.calls;
  asks = All-take (FewAsks n) d.script.head.cores d.asks h.asks;
}

few_end : (n : ℕ) (d : Input_draft) (lines : ℕ) (i : Input) → input_in d lines ≡ Ok i → AreFew n d → AreShort n i
few_end n d lines i is h =
    elim (cases_Bool (is_script d.section)) [
      | inl script ↦ absurd (no_input_ok (record { line = lines + 1; cause = S7 }) i (rw script at is))
      | inr part ↦ subst (AreShort n) (read_is (said d) i (rw part at is)) (short n d h)
    ]

few_at : (n : ℕ) (d : Input_draft) (e : Ending) (i : Input) → input_at d e ≡ Ok i → AreFew n d → AreShort n i
few_at n d (Fault (NotAscii number)) i is h = absurd cc
few_at n d (Fault TooManyLines) i is h = absurd cc
few_at n d (Whole lines) i is h = few_end n d lines i is h

few_calls : (source : List ℕ) (i : Input) → input_of source ≡ Ok i → AreShort (length (words_of source)) i
unfolding input_of
few_calls source i is =
    let b = then_ok (input_from no_input (rows_of (words_of source))) (λ d. input_at d (ending_of source)) i is in
    let none : AreFew 0 no_input = record {
      calls = All-replicate (AtMost 0) 8 [] (omega arith);
      asks = All-replicate (FewAsks 0) 8 [] (omega arith);
    } in
    let few = few_from 0 no_input b.0 (rows_of (words_of source)) b.1 none in
    few_at (length (words_of source)) b.0 (ending_of source) i b.2 (weaker (0 + length (rows_of (words_of source)))
    (length (words_of source)) b.0 (omega (arith, few_rows (words_of source))) few)

-- what is read has no more calls of a core than bytes
pub few_read : (source : List ℕ) (r : Result EndsInput ReadFault)
    → Gives input_view r (input_of source) → IfOk r (λ i. length (words_of source) ≤ length source)
    → IfOk r (λ i. All (AtMost (length source)) (lists_of i.script.lists.items))
few_read source (Ok i) gives words =
    few_weaker (length (words_of source)) (length source) (lists_of i.script.lists.items) words
    (few_calls source (input_view i) gives).calls
few_read source (Err e) gives words = tt

-- nor more endpoint calls
pub few_asks_read : (source : List ℕ) (r : Result EndsInput ReadFault)
    → Gives input_view r (input_of source) → IfOk r (λ i. length (words_of source) ≤ length source)
    → IfOk r (λ i. All (FewAsks (length source)) (ask_lists i.asks.items))
few_asks_read source (Ok i) gives words =
    few_asks_weaker (length (words_of source)) (length source) (ask_lists i.asks.items) words
    (few_calls source (input_view i) gives).asks
few_asks_read source (Err e) gives words = tt
