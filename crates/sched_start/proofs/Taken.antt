-- Line by line: a draft that has met no `tick` has none.
use Rattle.sched_reader.specs as low
use Rattle.kernel_laws.proofs.{◌≡◌, ℕ, ◌+◌, ◌==◌, List, [], ◌∷◌, ◌++◌, Bool, true, false, if◌then◌else◌, Option, Some, None, Result, Ok}
use Rattle.kernel_laws.proofs.{Err, IfOk, All, length, refl, sym, ◌∙◌, ap, subst, arith, inl, inr, codes, slice_get}
use Rattle.kernel_laws.proofs.{get_or as slice_index_or, false≢true, get_or_past, Call, Item}
use low.script_reader.specs.{is_whole, line_of, items_of, Draft_of, calls_of, with_call, with_line, is_order, behind_line, draft_behind}
use low.line_reader.specs.{◌>>=◌, Row, rows_of, First_fault, at_line, and_then}
use low.{Input, input_of}
use low.script_tokens.specs.{words_of, ending_of}
use Rattle.std.proofs.lemmas.List.Elements.{All-nil, All-push, All-set, All-get_or, All-take, All-replicate}
use low.script_tokens.specs.declared.scanning.ByteFault.TheVariants.{NotAscii, TooManyLines}
use low.script_tokens.specs.declared.scanning.Ending.TheVariants.{Whole, Fault as Faulty}
use low.line_reader.specs.declared.cause.Cause.TheVariants.{S5, S7, S9}
use low.sched_rules.specs.{declared.tasks.Rule.Rule, declared.tasks.Task.Task}
use low.Lines.{is_name, begins, rule_at, task_line}
use low.Inputs.{Sched_draft, no_input, first_line, noted, script_line, tick_fault, unfit, unless, script_end, sched_line, with_task}
use low.Inputs.{task_line_of, head_line, line_by, line_behind, lines_from, input_by, input_at}
use Rattle.sched_start.specs.Owing.{IsNoTick, TakesNoTick}
use Rattle.sched_start.proofs.Tickless.{IsCalm, line_calm}
use Rattle.{std.specs.Str.bytes_eq, std.proofs.lemmas.Slice.Eq.bytes_eq-Decides, std.proofs.lemmas.Bool.cases_lt}
use low.{script_tokens.specs.declared.scanning.Ending.Ending, line_reader.specs.declared.cause.Cause.Cause}
use low.{line_reader.specs.Arguments.is_word, script_reader.specs.declared.head.Line.Line}
use Rattle.sched_reader.specs.script_reader.specs.declared.head.Line.TheVariants as line

-- ---- the script

abbrev HasNone : Draft_of → Type 0
HasNone d = All (All IsNoTick) d.lists

call_added : (lists : List (List Call)) (core : ℕ) (call : Call) → All (All IsNoTick) lists → IsNoTick call
    → All (All IsNoTick) (with_call lists core call)
call_added lists core call none calm =
    let old : All IsNoTick (calls_of lists core) =
    elim (cases_lt core (length lists)) [
      | inl lt ↦ All-get_or (All IsNoTick) lists core [] lt none
      | inr le ↦ subst (All IsNoTick) (sym (get_or_past lists core [] le)) (All-nil IsNoTick)
    ] in
    All-set (All IsNoTick) lists core (calls_of lists core ++ call ∷ []) (All-push IsNoTick (calls_of lists core) call old calm) none

line_added : (d : Draft_of) (l : Line) → HasNone d → IsCalm l → HasNone (with_line d l)
line_added d (line.Head head) none calm = none
line_added d (line.Call call) none calm = call_added d.lists d.head.core call none calm

draft_none : (d : Draft_of) (words : List (List ℕ)) → HasNone d → begins words (codes "tick") ≡ false → IfOk (draft_behind d words) HasNone
unfolding draft_behind behind_line
draft_none d words none other = by_order (is_order d.head.section)
  where
    by_items : (r : Result (List Item) Cause) → IfOk (r >>= λ order. Ok (record d { order = order })) HasNone
    by_items (Ok order) = none
    by_items (Err e) = tt

    by_line : (r : Result Line Cause) → IfOk r IsCalm → IfOk (r >>= λ l. Ok (with_line d l)) HasNone
    by_line (Ok l) calm = line_added d l none calm
    by_line (Err e) calm = tt

    by_order : (b : Bool) → IfOk (if b then (items_of d.head.version d.head.cores d.order words >>= λ order. Ok (record d { order = order }))
        else (line_of d.head words >>= λ l. Ok (with_line d l))) HasNone
    by_order true = by_items (items_of d.head.version d.head.cores d.order words)
    by_order false = by_line (line_of d.head words) (line_calm d.head words other)

-- ---- the script and the tasks

-- Before the line `sched` a draft has no `tick` unless it has met one; after it, it has none.
abbrev Steady : Sched_draft → Option Rule → Type 0
Steady d None = d.tick_at ≡ None → HasNone d.script
Steady d (Some rule) = HasNone d.script

abbrev IsSteady : Sched_draft → Type 0
IsSteady d = Steady d d.rule

first_some : {Q : Type 0} (o : Option ℕ) (n : ℕ) → first_line o n ≡ None → Q
first_some None n e = absurd (cc)
first_some (Some m) n e = absurd (cc)

both_words : {Q : Type 0} (w : List ℕ) → bytes_eq w (codes "cores") ≡ true → bytes_eq w (codes "tick") ≡ true → Q
both_words w p q =
    let a : w ≡ codes "cores" = (bytes_eq-Decides w (codes "cores")).0 p in
    let b : w ≡ codes "tick" = (bytes_eq-Decides w (codes "tick")).0 q in
    let five : length w ≡ 5 = ap length a in
    let four : length w ≡ 4 = ap length b in
    absurd (omega (arith, five, four))

not_both : (w : List ℕ) → bytes_eq w (codes "cores") ≡ true → (b : Bool) → bytes_eq w (codes "tick") ≡ b → b ≡ false
not_both w cores true tick = both_words w cores tick
not_both w cores false tick = refl

name_no_tick : (o : Option (List ℕ)) → is_name (codes "cores") o ≡ true → is_name (codes "tick") o ≡ false
unfolding is_word
name_no_tick None cores = absurd (false≢true cores)
name_no_tick (Some w) cores = not_both w cores (bytes_eq w (codes "tick")) refl

-- A first word is not both `cores` and `tick`.
cores_no_tick : (words : List (List ℕ)) → begins words (codes "cores") ≡ true → begins words (codes "tick") ≡ false
cores_no_tick words cores = name_no_tick (slice_get words 0) cores

-- A line of the script keeps a draft steady that has not met the line `sched`.
module _ (d : Sched_draft) (number : ℕ) (words : List (List ℕ)) (rule : d.rule ≡ None) (before : d.tick_at ≡ None → HasNone d.script) where
  steady_as : (x : Sched_draft) → x.rule ≡ None → (x.tick_at ≡ None → HasNone x.script) → IsSteady x
  steady_as x e h = subst (Steady x) (sym e) h

  by_tick : (script : Draft_of) (b : Bool) → (d.tick_at ≡ None → b ≡ false → HasNone script)
      → IsSteady (if b then record (record d { script = script }) { tick_at = first_line d.tick_at number } else record d { script = script })
  by_tick script true h = steady_as (record (record d { script = script }) { tick_at = first_line d.tick_at number }) rule
      (λ none. first_some d.tick_at number none)
  by_tick script false h = steady_as (record d { script = script }) rule (λ none. h none refl)

  by_cores : (script : Draft_of) (b : Bool) → begins words (codes "cores") ≡ b
      → (d.tick_at ≡ None → begins words (codes "tick") ≡ false → HasNone script)
      → IsSteady (if b then record (record d { script = script }) { cores_at = number } else
      (if begins words (codes "tick") then record (record d { script = script }) { tick_at = first_line d.tick_at number }
      else record d { script = script }))
  by_cores script true cores h = steady_as (record (record d { script = script }) { cores_at = number }) rule
      (λ none. h none (cores_no_tick words cores))
  by_cores script false cores h = by_tick script (begins words (codes "tick")) h

  by_draft : (r : Result Draft_of Cause) → (d.tick_at ≡ None → begins words (codes "tick") ≡ false → IfOk r HasNone)
      → IfOk (at_line number (r >>= λ script. Ok (noted (record d { script = script }) number words))) IsSteady
  by_draft (Ok script) h = by_cores script (begins words (codes "cores")) refl h
  by_draft (Err e) h = tt

  script_steady : IfOk (script_line d number words) IsSteady
  unfolding script_line
  script_steady = by_draft (draft_behind d.script words) (λ none other. draft_none d.script words (before none) other)

  -- Where the line `sched` ends the script, it has met no `tick`.
  no_tick : (o : Option ℕ) → unless (tick_fault o) ≡ Ok tt → o ≡ None
  no_tick None e = refl
  no_tick (Some line) e = absurd (cc)

  fit : (b : Bool) → unless (if b then tick_fault d.tick_at else Some (record { line = d.cores_at; cause = S5 })) ≡ Ok tt → d.tick_at ≡ None
  fit true e = no_tick d.tick_at e
  fit false e = absurd (cc)

  ended : (b : Bool) → (if b then unless (unfit d) else Err (record { line = number; cause = S7 })) ≡ Ok tt → d.tick_at ≡ None
  ended true e = fit (d.script.head.cores == 1) e
  ended false e = absurd (cc)

  by_rule : (r : Result Rule Cause) → HasNone d.script → IfOk (at_line number (r >>= λ rule. Ok (record d { rule = Some rule }))) IsSteady
  by_rule (Ok rule) none = none
  by_rule (Err e) none = tt

  by_end : (r : Result Unit First_fault) → (r ≡ Ok tt → d.tick_at ≡ None)
      → IfOk (and_then r (λ done. at_line number (rule_at words >>= λ rule. Ok (record d { rule = Some rule })))) IsSteady
  by_end (Ok done) h = by_rule (rule_at words) (before (h refl))
  by_end (Err e) h = tt

  sched_steady : IfOk (sched_line d number words) IsSteady
  unfolding sched_line
  sched_steady = by_end (script_end d number) (ended (is_whole d.script.head.section))

  head_steady : IfOk (head_line d number words) IsSteady
  head_steady = by_name (begins words (codes "sched"))
    where
      by_name : (b : Bool) → IfOk (if b then sched_line d number words else script_line d number words) IsSteady
      by_name true = sched_steady
      by_name false = script_steady

-- After it, lines add tasks alone.
module _ (d : Sched_draft) (number : ℕ) (words : List (List ℕ)) (steady : IsSteady d) where
  by_count : (task : Task) (b : Bool) → IfOk (at_line number (if b then Err S9 else Ok (record d { tasks = d.tasks ++ task ∷ [] }))) IsSteady
  by_count task true = tt
  by_count task false = steady

  by_task : (r : Result Task Cause) → IfOk (at_line number (r >>= with_task d)) IsSteady
  by_task (Ok task) = by_count task (length d.tasks == 32)
  by_task (Err e) = tt

  by_rule_now : (o : Option Rule) → d.rule ≡ o → IfOk (line_by d number words o) IsSteady
  by_rule_now None e = head_steady d number words e (subst (Steady d) e steady)
  by_rule_now (Some rule) e = by_task (task_line d.script.head.version words)

  line_steady : IfOk (line_behind d number words) IsSteady
  line_steady = by_rule_now d.rule refl

lines_after : (rows : List Row) (r : Result Sched_draft First_fault) → IfOk r IsSteady
    → ((more : Sched_draft) → IsSteady more → IfOk (lines_from more rows) IsSteady)
    → IfOk (and_then r (λ more. lines_from more rows)) IsSteady
lines_after rows (Ok more) h go = go more h
lines_after rows (Err e) h go = tt

lines_steady : (d : Sched_draft) (rows : List Row) → IsSteady d → IfOk (lines_from d rows) IsSteady
lines_steady d [] steady = steady
lines_steady d (row ∷ rows) steady =
    lines_after rows (line_behind d row.number row.words) (line_steady d row.number row.words steady) (λ more h. lines_steady more rows h)

-- ---- the end

abbrev IsTickless : Input → Type 0
IsTickless input = All (All IsNoTick) input.script.lists

abbrev missing : ℕ → Result Input First_fault
missing lines = Err (record { line = lines + 1; cause = S7 })

none_read : (lines : ℕ) (r : Result Unit First_fault) → IfOk (and_then r (λ done. missing lines)) IsTickless
none_read lines (Ok done) = tt
none_read lines (Err e) = tt

ended_tickless : (d : Sched_draft) (lines : ℕ) (o : Option Rule) → Steady d o → IfOk (input_by d lines o) IsTickless
ended_tickless d lines None steady = none_read lines (script_end d (lines + 1))
ended_tickless d lines (Some rule) steady = All-take (All IsNoTick) d.script.head.cores d.script.lists steady

whole_tickless : (d : Sched_draft) (ending : Ending) → IsSteady d → IfOk (input_at d ending) IsTickless
whole_tickless d (Faulty (NotAscii number)) steady = tt
whole_tickless d (Faulty TooManyLines) steady = tt
whole_tickless d (Whole lines) steady = ended_tickless d lines d.rule steady

pub takes_no_tick : TakesNoTick
unfolding input_of
takes_no_tick source input is = subst (λ (r : Result Input First_fault). IfOk r IsTickless) is
    (by_lines (lines_from no_input (rows_of (words_of source)))
    (lines_steady no_input (rows_of (words_of source)) (λ none. All-replicate (All IsNoTick) 8 [] (All-nil IsNoTick))))
  where
    by_lines : (r : Result Sched_draft First_fault) → IfOk r IsSteady → IfOk (and_then r (λ d. input_at d (ending_of source))) IsTickless
    by_lines (Ok d) h = whole_tickless d (ending_of source) h
    by_lines (Err e) h = tt
