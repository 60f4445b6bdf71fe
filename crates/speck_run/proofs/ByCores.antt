-- Lists that are made by threads have the text of taken steps.
use Rattle.trace_run.specs.lone_kernel.specs.kernel_history.proofs.{◌≡◌, ℕ, zero, suc, ◌++◌, List, [], map, get_or, All, refl, sym, ◌∙◌, ap}
use Rattle.trace_run.specs.lone_kernel.specs.kernel_history.proofs.{arith, length-map, get_or-map, Setting, Call, list_of, tables_of}
use Rattle.trace_run.specs.lone_kernel.specs.kernel_history.proofs.{lines_below, state_after, calls_of}
use Rattle.ends_run.specs.core_runs.specs.{decisions_below, IsList, AreMade}
use Rattle.trace_run.specs.lone_kernel.specs.core_invariant.specs.{reply_lines, decisions_by, Trace}
use Rattle.std.proofs.Common.{Vec, Global}
use Rattle.ends_run.specs.core_runs.specs.{declared.whole.Ran.Ran, TakenSteps.TakenSteps}
use Rattle.{std.proofs.lemmas.Grind.flat_map-append, trace_run.specs.lone_kernel.specs.kernel_history.specs.Text.line_of}
use Rattle.{trace_run.specs.lone_kernel.specs.Machine.AreLists, speck_run.specs.Written.lines_of}

-- the reply lines of the decisions, core by core
pub lines_by_cores : (lists : List (List Call)) (t : Trace) → list_of lists ≡ calls_of t → (n : ℕ)
    → lines_of lists (decisions_below t n) ≡ lines_below (λ c. reply_lines (calls_of t) (decisions_by t c)) n
unfolding lines_below
lines_by_cores lists t same zero = refl
lines_by_cores lists t same (suc n) =
    flat_map-append (line_of (list_of lists)) (decisions_below t n) (decisions_by t n)
    ∙ (λ i. lines_by_cores lists t same n i ++ reply_lines (same i) (decisions_by t n))

-- whole lists that were made have the text of taken steps
pub taken : (setup : Setting) (lists : List (List Call)) (ran : Ran) (tables text : List ℕ) (m : AreMade setup lists ran)
    → tables ≡ tables_of (state_after setup m.trace) → text ≡ lines_of lists ran.decisions.items ++ tables → TakenSteps setup lists text
taken setup lists ran tables text m shown is =
    let same : list_of lists ≡ calls_of m.trace = λ i c. sym (m.calls c).finished i in
    let lines : List ℕ = lines_below (λ c. reply_lines (calls_of m.trace) (decisions_by m.trace c)) setup.cores in
    record {
      trace = m.trace;
      history = m.history;
      calls = m.calls;
      is_text = is ∙ ap (λ (x : List ℕ). x ++ tables) (ap (lines_of lists) m.decisions ∙ lines_by_cores lists m.trace same setup.cores)
          ∙ ap (λ (x : List ℕ). lines ++ x) shown;
    }

-- lists that can be run can be made by threads
pub lists_fit : (lists : List (Vec Call Global)) → AreLists (map (λ v. v.items) lists) → All (λ v. IsList v.items) lists
lists_fit lists are k d h =
    let size = length-map lists (λ (v : Vec Call Global). v.items) in
    let list = are k [] (omega arith) in
    let same : get_or (map (λ (v : Vec Call Global). v.items) lists) k [] ≡ (get_or lists k d).items =
    get_or-map (λ (v : Vec Call Global). v.items) lists k d [] h in
    rw (← same) record { fit = list.0; few = list.1 }
