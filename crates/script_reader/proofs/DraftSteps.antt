-- What a draft keeps, line by line.
use Rattle.std.proofs.Common.{◌≡◌, ℕ, zero, suc, ◌<◌, ◌≤◌, true, List, [], ◌∷◌, ◌++◌, length, get_or, take, All, Ok, refl, sym, ap, subst}
use Rattle.std.proofs.Common.{◌∙◌, arith, inl, inr, slice_set, slice_index_or, length-set, length-take-le}
use Rattle.script_reader.specs.{is_whole, lists_of, with_call, calls_of, setting_of, meaning_of, meaning_at, script_view, Draft_of, IsDraft}
use Rattle.std.proofs.lemmas.List.{map-set, length-map, get_or_past}
use Rattle.std.proofs.lemmas.List.Elements.{All-push, All-set, All-get_or, All-take, All-nil}
use Rattle.{script_reader.specs.IsScript, script_reader.specs.BelowCores, line_reader.specs.and_then, line_reader.specs.whole_lines}
use Rattle.{std.specs.Global.Vec, std.proofs.lemmas.Bool.cases_lt, spk_nums.specs.declared.calls.Call.Call}
use Rattle.{spk_nums.specs.CallLimits.InLimits, script_tokens.specs.declared.scanning.Ending.Ending}
use Rattle.{script_reader.specs.declared.reading.Script.Script, script_reader.specs.Readings.meaning_in}

-- ---- one more call

get_or_lists : (lists : List (Vec Call)) (i : ℕ) (d : Vec Call) → i < length lists
    → slice_index_or (lists_of lists) i [] ≡ (get_or lists i d).items
get_or_lists [] i d lt = absurd (omega arith)
get_or_lists (v ∷ vs) zero d lt = refl
get_or_lists (v ∷ vs) (suc i) d lt = get_or_lists vs i d (omega arith)

pub call_added : (lists : List (Vec Call)) (i core : ℕ) (call : Call) (old new : Vec Call) → i < length lists → i ≡ core
    → old ≡ get_or lists i old → new.items ≡ old.items ++ call ∷ []
    → lists_of (slice_set lists i new) ≡ with_call (lists_of lists) core call
call_added lists i core call old new lt at is more =
    let had : calls_of (lists_of lists) i ≡ old.items = get_or_lists lists i old lt ∙ ap (λ v. v.items) (sym is) in
    let same : lists_of (slice_set lists i new) ≡ slice_set (lists_of lists) i new.items = map-set (λ v. v.items) lists i new in
    let step : with_call (lists_of lists) i call ≡ slice_set (lists_of lists) i new.items =
    ap (λ l. slice_set (lists_of lists) i (l ++ call ∷ [])) had ∙ ap (slice_set (lists_of lists) i) (sym more) in
    same ∙ sym step ∙ ap (λ k. with_call (lists_of lists) k call) at

-- a call in range leaves the lists in range
pub calls_in_range : (d : Draft_of) (core : ℕ) (call : Call) → All (All InLimits) d.lists
    → InLimits call → All (All InLimits) (with_call d.lists core call)
calls_in_range d core call limits fits =
    let old : All InLimits (calls_of d.lists core) =
    elim (cases_lt core (length d.lists)) [
      | inl lt ↦ All-get_or (All InLimits) d.lists core [] lt limits
      | inr le ↦ subst (All InLimits) (sym (get_or_past d.lists core [] le)) (All-nil InLimits)
    ] in
    All-set (All InLimits) d.lists core (calls_of d.lists core ++ call ∷ [])
    (All-push InLimits (calls_of d.lists core) call old fits) limits

pub call_kept : (d : Draft_of) (lists : List (List Call)) (call : Call) → IsDraft d
    → InLimits call → lists ≡ with_call d.lists d.head.core call → IsDraft (record d { lists = lists })
call_kept d lists call h fits new =
    record {
      head = h.head;
      eight = ap length new ∙ length-set d.lists d.head.core (calls_of d.lists d.head.core ++ call ∷ []) ∙ h.eight;
      limits = subst (All (All InLimits)) (sym new) (calls_in_range d d.head.core call h.limits fits);
      below = h.below;
      before = h.before;
    }

-- ---- the end

pub finished : (d : Draft_of) (ending : Ending) (lines : ℕ) (s : Script) → whole_lines ending ≡ Ok lines → is_whole d.head.section ≡ true
    → s.version ≡ d.head.version → s.setup ≡ setting_of d.head → lists_of s.lists.items ≡ take d.head.cores d.lists
    → s.order.items ≡ d.order → meaning_at d ending ≡ Ok (script_view s)
finished d ending lines s end whole version setup lists order =
    let same : meaning_of d ≡ script_view s =
    λ i. record { version = sym version i; setup = sym setup i; lists = sym lists i; order = sym order i } in
    ap (λ r. and_then r (meaning_in d)) end ∙ rw whole (ap Ok same)

pub is_script : (d : Draft_of) (s : Script) → IsDraft d → s.version ≡ d.head.version → s.setup ≡ setting_of d.head
    → lists_of s.lists.items ≡ take d.head.cores d.lists → s.order.items ≡ d.order → IsScript s
is_script d s h version setup lists order =
    let cores : s.setup.cores ≡ d.head.cores = ap (λ x. x.cores) setup in
    let few : d.head.cores ≤ length d.lists = omega (arith, h.head.most_cores, h.eight) in
    let long : length (lists_of s.lists.items) ≡ d.head.cores = ap length lists ∙ length-take-le d.head.cores d.lists few in
    record {
      some_version = omega (arith, version, h.head.some_version);
      most_versions = omega (arith, version, h.head.most_versions);
      lists = sym (length-map s.lists.items (λ v. v.items)) ∙ long ∙ sym cores;
      limits = subst (All (All InLimits)) (sym lists) (All-take (All InLimits) d.head.cores d.lists h.limits);
      below = subst (λ n. BelowCores n s.order.items) (sym cores) (subst (BelowCores d.head.cores) (sym order) h.below);
    }
