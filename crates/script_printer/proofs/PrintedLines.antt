-- The printed form of a script is its lines of words, and is read as that script.
use Rattle.script_printer.proofs as low
use Rattle.std.proofs.Common.{◌≡◌, ℕ, ◌+◌, ◌-◌, ◌<◌, ◌≤◌, ◌^◌, true, List, [], ◌∷◌, ◌++◌, length, All, Ok, refl, ap}
use Rattle.std.proofs.Common.{subst, ◌∙◌, arith, append_assoc, codes, decimal, flat_map}
use Rattle.script_reader.specs.script_tokens.specs.{line_count, ending_of}
use Rattle.script_printer.specs.{setup_lines, call_line, list_lines, printed, line, IsCallWithin, IsWithin}
use Rattle.script_reader.specs.{Meaning, no_draft, draft_from, meaning_at, script_of, BelowCores}
use Rattle.std.proofs.{lemmas.Bool.and_from, lemmas.List.Elements.All-head, lemmas.List.Elements.All-tail, lemmas.List.Elements.All-weaker}
use Rattle.spk_nums.specs.{declared.calls.Call.Call, declared.grants.Grant.Grant, declared.steps.Item.Item, Setting.Setting}
use Rattle.script_printer.specs.Printing.{grant_line, size_lines, limit_lines, core_lines, order_lines}
use Rattle.script_reader.specs.call_reader.proofs.Judgements.{both_left}
use low.Spans.{is_line, are_lines, line_onto, lines_onto, rows_from, lines_scanned, lines_count}
use low.HeadLines.{speck_words, cores_words, frames_words, grant_words, calls_words, epochs_words}
use low.ReadingLines.{Says, grants_then, calls_then, core_then, lists_then, script_lines, script_says}
use Rattle.{script_reader.specs.line_reader.specs.and_then, spk_nums.specs.Setting.GrantFits, spk_nums.specs.Setting.IsSetting}
use Rattle.spk_nums.specs.{Texts.with_one}
use low.{NumberWords.number_text, CallWords.call_onto, CallWords.call_is_line, ItemWords.order_rows, ItemWords.order_onto}
use low.{ItemWords.rows_lines}

-- ---- the text is its lines

one_onto : (w : List ℕ) (n : ℕ) (rest : List ℕ) → line (with_one w n) ++ rest ≡ line_onto (w ∷ decimal n ∷ []) rest
one_onto w n rest = simp append_assoc

two_onto : (w v : List ℕ) (m n : ℕ) (rest : List ℕ)
    → (line (with_one w m) ++ line (with_one v n)) ++ rest ≡ line_onto (w ∷ decimal m ∷ []) (line_onto (v ∷ decimal n ∷ []) rest)
two_onto w v m n rest =
    append_assoc (line (with_one w m)) (line (with_one v n)) rest
    ∙ ap (λ t. line (with_one w m) ++ t) (one_onto v n rest)
    ∙ one_onto w m (line_onto (v ∷ decimal n ∷ []) rest)

grant_onto : (g : Grant) (rest : List ℕ) → grant_line g ++ rest ≡ line_onto (grant_words g) rest
grant_onto g rest = simp append_assoc

sizes_onto : (s : Setting) (rest : List ℕ) → size_lines s ++ rest ≡ line_onto (cores_words s.cores) (line_onto (frames_words s.frames) rest)
sizes_onto s rest = two_onto (codes "cores") (codes "frames") s.cores s.frames rest

limits_onto : (s : Setting) (rest : List ℕ)
    → limit_lines s ++ rest ≡ line_onto (calls_words s.calls) (line_onto (epochs_words s.epochs) rest)
limits_onto s rest = two_onto (codes "calls") (codes "epochs") s.calls s.epochs rest

grants_onto : (gs : List Grant) (lines : List (List (List ℕ)))
    → flat_map grant_line gs ++ lines_onto lines [] ≡ lines_onto (grants_then gs lines) []
grants_onto [] lines = refl
grants_onto (g ∷ gs) lines =
    append_assoc (grant_line g) (flat_map grant_line gs) (lines_onto lines [])
    ∙ ap (λ t. grant_line g ++ t) (grants_onto gs lines)
    ∙ grant_onto g (lines_onto (grants_then gs lines) [])

calls_onto : (cs : List Call) (lines : List (List (List ℕ)))
    → flat_map call_line cs ++ lines_onto lines [] ≡ lines_onto (calls_then cs lines) []
calls_onto [] lines = refl
calls_onto (c ∷ cs) lines =
    append_assoc (call_line c) (flat_map call_line cs) (lines_onto lines [])
    ∙ ap (λ t. call_line c ++ t) (calls_onto cs lines)
    ∙ call_onto c (lines_onto (calls_then cs lines) [])

core_onto : (core : ℕ) (cs : List Call) (lines : List (List (List ℕ)))
    → core_lines core cs ++ lines_onto lines [] ≡ lines_onto (core_then core cs lines) []
core_onto core [] lines = refl
core_onto core (c ∷ cs) lines =
    append_assoc (line (with_one (codes "core") core)) (flat_map call_line (c ∷ cs)) (lines_onto lines [])
    ∙ ap (λ t. line (with_one (codes "core") core) ++ t) (calls_onto (c ∷ cs) lines)
    ∙ one_onto (codes "core") core (lines_onto (calls_then (c ∷ cs) lines) [])

lists_onto : (core : ℕ) (lists : List (List Call)) (lines : List (List (List ℕ)))
    → list_lines core lists ++ lines_onto lines [] ≡ lines_onto (lists_then core lists lines) []
lists_onto core [] lines = refl
lists_onto core (l ∷ ls) lines =
    append_assoc (core_lines core l) (list_lines (core + 1) ls) (lines_onto lines [])
    ∙ ap (λ t. core_lines core l ++ t) (lists_onto (core + 1) ls lines)
    ∙ core_onto core l (lists_then (core + 1) ls lines)

setup_onto : (v : ℕ) (s : Setting) (lines : List (List (List ℕ))) → setup_lines v s ++ lines_onto lines []
    ≡ lines_onto (speck_words v ∷ cores_words s.cores ∷ frames_words s.frames
    ∷ grants_then s.grants (calls_words s.calls ∷ epochs_words s.epochs ∷ lines)) []
setup_onto v s lines =
    let first = line (with_one (codes "speck") v) in
    let sizes = size_lines s in
    let grants = flat_map grant_line s.grants in
    let limits = limit_lines s in
    let rest = lines_onto lines [] in
    let limited : List (List (List ℕ)) = calls_words s.calls ∷ epochs_words s.epochs ∷ lines in
    append_assoc first (sizes ++ (grants ++ limits)) rest
    ∙ ap (λ t. first ++ t) (append_assoc sizes (grants ++ limits) rest
    ∙ ap (λ t. sizes ++ t) (append_assoc grants limits rest
    ∙ ap (λ t. grants ++ t) (limits_onto s rest)
    ∙ grants_onto s.grants limited)
    ∙ sizes_onto s (lines_onto (grants_then s.grants limited) []))
    ∙ one_onto (codes "speck") v (lines_onto (cores_words s.cores ∷ frames_words s.frames ∷ grants_then s.grants limited) [])

pub printed_onto : (m : Meaning) → printed m ≡ lines_onto (script_lines m) []
unfolding printed
printed_onto m =
    let behind : list_lines 0 m.lists ++ order_lines m.order ≡ lines_onto (lists_then 0 m.lists (order_rows m.order)) [] =
    ap (λ t. list_lines 0 m.lists ++ t) (order_onto m.order) ∙ lists_onto 0 m.lists (order_rows m.order) in
    ap (λ t. setup_lines m.version m.setup ++ t) behind ∙ setup_onto m.version m.setup (lists_then 0 m.lists (order_rows m.order))

-- ---- its lines have words

one_is_line : (w : List ℕ) (n : ℕ) → is_line (w ∷ []) ≡ true → n < 2 ^ 64 → is_line (w ∷ decimal n ∷ []) ≡ true
one_is_line w n h fits = and_from _ _ (both_left _ _ h) (and_from _ _ (number_text n fits) refl)

grant_is_line : (g : Grant) → GrantFits g → is_line (grant_words g) ≡ true
grant_is_line g fits =
    let budget : g.budget ≤ 500000000 = fits.0 in
    let sched : g.sched < 64 = fits.1 in
    let quality : g.quality < 2 ^ 24 = fits.3 in
    rw (number_text g.budget (omega arith), number_text g.sched (omega arith), number_text g.quality (omega arith)) refl

grants_lines : (gs : List Grant) (lines : List (List (List ℕ))) → All GrantFits gs
    → are_lines lines ≡ true → are_lines (grants_then gs lines) ≡ true
grants_lines [] lines all h = h
grants_lines (g ∷ gs) lines all h =
    and_from _ _ (grant_is_line g (All-head GrantFits g gs all)) (grants_lines gs lines (All-tail GrantFits g gs all) h)

calls_lines : (v : ℕ) (cs : List Call) (lines : List (List (List ℕ))) → All (IsCallWithin v) cs
    → are_lines lines ≡ true → are_lines (calls_then cs lines) ≡ true
calls_lines v [] lines all h = h
calls_lines v (c ∷ cs) lines all h =
    and_from _ _ (call_is_line v c (All-head (IsCallWithin v) c cs all)) (calls_lines v cs lines (All-tail (IsCallWithin v) c cs all) h)

core_then_lines : (v core : ℕ) (cs : List Call) (lines : List (List (List ℕ))) → core < 8
    → All (IsCallWithin v) cs → are_lines lines ≡ true → are_lines (core_then core cs lines) ≡ true
core_then_lines v core [] lines fits all h = h
core_then_lines v core (c ∷ cs) lines fits all h =
    and_from _ _ (one_is_line (codes "core") core refl (omega arith)) (calls_lines v (c ∷ cs) lines all h)

lists_lines : (v core : ℕ) (lists : List (List Call)) (lines : List (List (List ℕ))) → core + length lists ≤ 8
    → All (All (IsCallWithin v)) lists → are_lines lines ≡ true → are_lines (lists_then core lists lines) ≡ true
lists_lines v core [] lines fits all h = h
lists_lines v core (l ∷ ls) lines fits all h = core_then_lines v core l (lists_then (core + 1) ls lines) (omega arith)
    (All-head (All (IsCallWithin v)) l ls all)
    (lists_lines v (core + 1) ls lines (omega arith) (All-tail (All (IsCallWithin v)) l ls all) h)

order_lines_are : (items : List Item) → All (λ (i : Item). i.core < 8) items → are_lines (order_rows items) ≡ true
order_lines_are [] all = refl
order_lines_are (i ∷ is) all =
    rows_lines 0 i is (All-head (λ (j : Item). j.core < 8) i is all) (All-tail (λ (j : Item). j.core < 8) i is all)

pub script_are_lines : (m : Meaning) → 1 ≤ m.version → m.version ≤ 3 → IsSetting m.setup → length m.lists ≡ m.setup.cores
    → All (All (IsCallWithin m.version)) m.lists → BelowCores m.setup.cores m.order → are_lines (script_lines m) ≡ true
script_are_lines m some most setting n calls_in below =
    let s = m.setup in
    let few : s.cores ≤ 8 = setting.most_cores in
    let frames : s.frames ≤ 512 = setting.most_frames in
    let calls : s.calls ≤ 2 ^ 40 - 1 = setting.most_calls in
    let epochs : s.epochs < 2 ^ 16 = setting.most_epochs in
    let order : are_lines (order_rows m.order) ≡ true = order_lines_are m.order
    (All-weaker (λ (i : Item). i.core < s.cores) (λ (i : Item). i.core < 8) (λ i h. omega arith) m.order below) in
    let lists : are_lines (lists_then 0 m.lists (order_rows m.order)) ≡ true =
    lists_lines m.version 0 m.lists (order_rows m.order) (omega arith) calls_in order in
    let limits : are_lines (calls_words s.calls ∷ epochs_words s.epochs ∷ lists_then 0 m.lists (order_rows m.order)) ≡ true =
    and_from _ _ (one_is_line (codes "calls") s.calls refl (omega arith))
    (and_from _ _ (one_is_line (codes "epochs") s.epochs refl (omega arith)) lists) in
    and_from _ _ (one_is_line (codes "speck") m.version refl (omega arith))
    (and_from _ _ (one_is_line (codes "cores") s.cores refl (omega arith))
    (and_from _ _ (one_is_line (codes "frames") s.frames refl (omega arith)) (grants_lines s.grants
    (calls_words s.calls ∷ epochs_words s.epochs ∷ lists_then 0 m.lists (order_rows m.order)) setting.grants_fit limits)))

-- ---- the law

lines_read : (lines : List (List (List ℕ))) (m : Meaning) → are_lines lines ≡ true
    → line_count (lines_onto lines []) ≤ 20000 → Says no_draft lines m → script_of (lines_onto lines []) ≡ Ok m
unfolding script_of
lines_read lines m are few says =
    let source = lines_onto lines [] in
    let scanned = lines_scanned lines are (omega (arith, few, lines_count lines are)) in
    ap (λ rs. and_then (draft_from no_draft rs) (λ d. meaning_at d (ending_of source))) scanned.rows
    ∙ ap (λ e. and_then (draft_from no_draft (rows_from 1 lines)) (λ d. meaning_at d e)) scanned.ending
    ∙ says.says 1 (line_count source)

pub printed_read : (m : Meaning) → IsWithin m → script_of (printed m) ≡ Ok m
printed_read m within =
    let same : printed m ≡ lines_onto (script_lines m) [] = printed_onto m in
    let few : line_count (lines_onto (script_lines m) []) ≤ 20000 = subst (λ t. line_count t ≤ 20000) same within.lines in
    ap script_of same ∙ lines_read (script_lines m) m (script_are_lines m within.some_version within.most_versions within.setup within.lists within.calls within.below)
    few (script_says m within.some_version within.most_versions within.setup within.limit within.lists within.calls within.below within.items)
