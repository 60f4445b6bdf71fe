-- The printed lines, read one after another from the first.
use Rattle.std.proofs.Common.{◌≡◌, ℕ, zero, suc, ◌+◌, ◌-◌, ◌%◌, ◌<◌, ◌≤◌, ◌^◌, true, false, List, [], ◌∷◌, ◌++◌, length, set, take}
use Rattle.std.proofs.Common.{replicate, All, Ok, refl, sym, ap, subst, ◌∙◌, arith, append_assoc, zero-add, inl, inr, ◌==◌, eq-eqb, ne_eqb}
use Rattle.script_reader.specs.{no_head, granted, is_whole, line_of, Draft_of, Meaning, no_draft, with_call, is_order, behind_line}
use Rattle.script_reader.specs.{draft_behind, draft_from, meaning_of, meaning_at, setting_of, BelowCores}
use Rattle.std.proofs.{lemmas.Bool.cases_Bool, lemmas.List.length_push, lemmas.List.Elements.All-head, lemmas.List.Elements.All-tail}
use Rattle.std.proofs.{Math.Seq.set-append_seam, Math.Seq.get_or-append_seam, Math.Seq.take-append_seam}
use Rattle.spk_nums.specs.{declared.calls.Call.Call, declared.grants.Grant.Grant, declared.steps.Item.Item}
use Rattle.spk_nums.specs.{Setting.Setting, Verbs.call_words}
use Rattle.script_printer.proofs.{Spans.rows_from, CallReading.call_back, HeadLines.speck_words}
use Rattle.script_printer.proofs.{HeadLines.cores_words, HeadLines.frames_words, HeadLines.grant_words, HeadLines.calls_words}
use Rattle.script_printer.proofs.{HeadLines.epochs_words, HeadLines.core_words, HeadLines.IsListing}
use Rattle.script_printer.proofs.{HeadLines.speck_back, HeadLines.cores_back, HeadLines.frames_back, HeadLines.grant_back}
use Rattle.script_printer.proofs.{HeadLines.calls_back, HeadLines.epochs_back, HeadLines.core_line_back, HeadLines.order_back}
use Rattle.script_printer.proofs.{ItemWords.in_front, ItemWords.item_rows, ItemWords.order_rows, ItemWords.item_read}
use Rattle.{std.proofs.Common.lt-ltb, std.proofs.Common.append-nil, script_printer.specs.item_text, script_printer.specs.IsCallWithin}
use Rattle.{spk_nums.specs.Setting.GrantFits, spk_nums.specs.Setting.IsSetting}
use Rattle.{script_reader.specs.script_tokens.specs.declared.scanning.Ending.TheVariants.Whole}
use Rattle.{script_reader.specs.declared.head.Section.Section, script_reader.specs.declared.head.Head.Head}
use Rattle.{script_reader.specs.line_reader.specs.Lines.and_then, script_reader.specs.call_reader.specs.Versions.most_calls}
use Rattle.script_reader.specs.declared.head.Section.TheVariants as section
use Rattle.script_reader.specs.declared.head.Line.TheVariants as line

-- after a draft, these lines say that script, wherever they stand
pub record Says (d : Draft_of) (lines : List (List (List ℕ))) (m : Meaning) : Type 0 where
  pub says : (n k : ℕ) → and_then (draft_from d (rows_from n lines)) (λ e. meaning_at e (Whole k)) ≡ Ok m

-- the draft that a head, lists and an order make
abbrev pub draft : Head → List (List Call) → List Item → Draft_of
draft h lists order = record { head = h; lists = lists; order = order }

says_end : (d : Draft_of) (m : Meaning) → is_whole d.head.section ≡ true → meaning_of d ≡ m → Says d [] m
says_end d m whole e = record { says = λ n k. rw whole (ap Ok e) }

says_line : (d e : Draft_of) (words : List (List ℕ)) (lines : List (List (List ℕ))) (m : Meaning)
    → draft_behind d words ≡ Ok e → Says e lines m → Says d (words ∷ lines) m
says_line d e words lines m one more = record { says = λ n k. rw one (more.says (n + 1) k) }

-- two drafts from which one line each leads to one draft
says_same : (d e : Draft_of) (words others : List (List ℕ)) (lines : List (List (List ℕ))) (m : Meaning)
    → draft_behind d words ≡ draft_behind e others → Says e (others ∷ lines) m → Says d (words ∷ lines) m
says_same d e words others lines m one more = record { says = λ n k. rw one (more.says n k) }

-- ---- lines of the head

listing_no_order : (s : Section) → IsListing s → is_order s ≡ false
listing_no_order s (inl e) = ap is_order e
listing_no_order s (inr e) = ap is_order e

listing_whole : (s : Section) → IsListing s → is_whole s ≡ true
listing_whole s (inl e) = ap is_whole e
listing_whole s (inr e) = ap is_whole e

head_behind : (h new : Head) (lists : List (List Call)) (order : List Item) (words : List (List ℕ)) → is_order h.section ≡ false
    → line_of h words ≡ Ok (line.Head new) → draft_behind (draft h lists order) words ≡ Ok (draft new lists order)
unfolding draft_behind behind_line
head_behind h new lists order words before e = rw (before, e) refl

head_says : {h new : Head} {lists : List (List Call)} {order : List Item} {words : List (List ℕ)} {lines : List (List (List ℕ))} {m : Meaning}
    → is_order h.section ≡ false → line_of h words ≡ Ok (line.Head new) → Says (draft new lists order) lines m
    → Says (draft h lists order) (words ∷ lines) m
head_says {h} {new} {lists} {order} {words} {lines} {m} before e more =
    says_line (draft h lists order) (draft new lists order) words lines m (head_behind h new lists order words before e) more

call_behind : (h : Head) (lists : List (List Call)) (order : List Item) (c : Call) → h.section ≡ section.List
    → 1 ≤ h.version → IsCallWithin h.version c
    → draft_behind (draft h lists order) (call_words c) ≡ Ok (draft h (with_call lists h.core c) order)
unfolding draft_behind behind_line
call_behind h lists order c e some within = rw (ap is_order e, call_back h c e some within) refl

-- ---- grants

-- lines of grants in front of lines
abbrev pub grants_then : List Grant → List (List (List ℕ)) → List (List (List ℕ))
grants_then [] lines = lines
grants_then (g ∷ gs) lines = grant_words g ∷ grants_then gs lines

-- a head after its last grant
abbrev all_granted : Head → List Grant → Head
all_granted h gs = record h { section = section.Calls; grants = h.grants ++ gs }

granted_last : (h : Head) (g : Grant) → length h.grants + 1 ≡ h.cores → granted h g ≡ all_granted h (g ∷ [])
granted_last h g e = rw (eq-eqb (length h.grants + 1) h.cores e) refl

granted_more : (h : Head) (g : Grant) → ¬ (length h.grants + 1 ≡ h.cores)
    → granted h g ≡ record h { section = section.Grants; grants = h.grants ++ g ∷ [] }
granted_more h g ne = rw (ne_eqb (length h.grants + 1) h.cores ne) refl

grants_say : (g : Grant) (gs : List Grant) (h : Head) (lists : List (List Call)) (lines : List (List (List ℕ))) (m : Meaning)
    → h.section ≡ section.Grants → length h.grants + suc (length gs) ≡ h.cores → GrantFits g → All GrantFits gs
    → Says (draft (all_granted h (g ∷ gs)) lists []) lines m → Says (draft h lists []) (grants_then (g ∷ gs) lines) m
grants_say g [] h lists lines m e n fits all more =
    let last : granted h g ≡ all_granted h (g ∷ []) = granted_last h g (omega arith) in
    head_says (ap is_order e) (grant_back h g e fits ∙ ap (λ x. Ok (line.Head x)) last) more
grants_say g (f ∷ fs) h lists lines m e n fits all more =
    let new : Head = record h { section = section.Grants; grants = h.grants ++ g ∷ [] } in
    let step : granted h g ≡ new = granted_more h g (λ k. omega arith) in
    let count : length (h.grants ++ g ∷ []) + suc (length fs) ≡ h.cores = omega (arith, length_push h.grants g) in
    let joined : h.grants ++ g ∷ (f ∷ fs) ≡ (h.grants ++ g ∷ []) ++ f ∷ fs = sym (append_assoc h.grants (g ∷ []) (f ∷ fs)) in
    let behind : Says (draft (all_granted new (f ∷ fs)) lists []) lines m =
    subst (λ (gs : List Grant). Says (draft (record h { section = section.Calls; grants = gs }) lists []) lines m) joined more in
    let rest : Says (draft new lists []) (grants_then (f ∷ fs) lines) m =
    grants_say f fs new lists lines m refl count (All-head GrantFits f fs all) (All-tail GrantFits f fs all) behind in
    head_says (ap is_order e) (grant_back h g e fits ∙ ap (λ x. Ok (line.Head x)) step) rest

-- ---- calls

-- lines of calls in front of lines
abbrev pub calls_then : List Call → List (List (List ℕ)) → List (List (List ℕ))
calls_then [] lines = lines
calls_then (c ∷ cs) lines = call_words c ∷ calls_then cs lines

-- the lines of a core in front of lines
abbrev pub core_then : ℕ → List Call → List (List (List ℕ)) → List (List (List ℕ))
core_then core [] lines = lines
core_then core (c ∷ cs) lines = core_words core ∷ calls_then (c ∷ cs) lines

-- the lines of the cores from that core on in front of lines
abbrev pub lists_then : ℕ → List (List Call) → List (List (List ℕ)) → List (List (List ℕ))
lists_then core [] lines = lines
lists_then core (calls ∷ lists) lines = core_then core calls (lists_then (core + 1) lists lines)

one_more : (done after : List (List Call)) (x : List Call) (core : ℕ) (c : Call)
    → core ≡ length done → with_call (done ++ x ∷ after) core c ≡ done ++ (x ++ c ∷ []) ∷ after
one_more done after x core c e =
    ap (λ n. with_call (done ++ x ∷ after) n c) e
    ∙ ap (λ (l : List Call). set (done ++ x ∷ after) (length done) (l ++ c ∷ [])) (get_or-append_seam done x after [])
    ∙ set-append_seam done x after (x ++ c ∷ [])

calls_say : (calls : List Call) (h : Head) (done after : List (List Call)) (x : List Call) (lines : List (List (List ℕ))) (m : Meaning)
    → h.section ≡ section.List → 1 ≤ h.version → h.core ≡ length done → All (IsCallWithin h.version) calls
    → Says (draft h (done ++ (x ++ calls) ∷ after) []) lines m → Says (draft h (done ++ x ∷ after) []) (calls_then calls lines) m
calls_say [] h done after x lines m e some at within more =
    subst (λ (l : List Call). Says (draft h (done ++ l ∷ after) []) lines m) (append-nil x) more
calls_say (c ∷ cs) h done after x lines m e some at within more =
    let joined : x ++ c ∷ cs ≡ (x ++ c ∷ []) ++ cs = sym (append_assoc x (c ∷ []) cs) in
    let behind : Says (draft h (done ++ ((x ++ c ∷ []) ++ cs) ∷ after) []) lines m =
    subst (λ (l : List Call). Says (draft h (done ++ l ∷ after) []) lines m) joined more in
    let rest : Says (draft h (done ++ (x ++ c ∷ []) ∷ after) []) (calls_then cs lines) m =
    calls_say cs h done after (x ++ c ∷ []) lines m e some at (All-tail (IsCallWithin h.version) c cs within) behind in
    let one : draft_behind (draft h (done ++ x ∷ after) []) (call_words c) ≡ Ok (draft h (done ++ (x ++ c ∷ []) ∷ after) []) =
    call_behind h (done ++ x ∷ after) [] c e some (All-head (IsCallWithin h.version) c cs within)
    ∙ ap (λ lists. Ok (draft h lists [])) (one_more done after x h.core c at) in
    says_line (draft h (done ++ x ∷ after) []) (draft h (done ++ (x ++ c ∷ []) ∷ after) []) (call_words c) (calls_then cs lines) m one rest

core_says : (calls : List Call) (h : Head) (done after : List (List Call)) (core : ℕ) (lines : List (List (List ℕ))) (m : Meaning)
    → IsListing h.section → 1 ≤ h.version → core ≡ length done → core < h.cores → h.cores ≤ 8
    → All (IsCallWithin h.version) calls
    → ((g : Head) → setting_of g ≡ setting_of h → g.version ≡ h.version → IsListing g.section → Says (draft g (done ++ calls ∷ after) []) lines m)
    → Says (draft h (done ++ [] ∷ after) []) (core_then core calls lines) m
core_says [] h done after core lines m e some at below few within more = more h refl refl e
core_says (c ∷ cs) h done after core lines m e some at below few within more =
    let g : Head = record h { section = section.List; core = core } in
    let rest : Says (draft g (done ++ [] ∷ after) []) (calls_then (c ∷ cs) lines) m =
    calls_say (c ∷ cs) g done after [] lines m refl some at within (more g refl refl (inr refl)) in
    head_says (listing_no_order h.section e) (core_line_back h core e below few) rest

-- as many lists, without calls
abbrev emptied : List (List Call) → List (List Call)
emptied [] = []
emptied (l ∷ ls) = [] ∷ emptied ls

lists_say : (lists : List (List Call)) (h : Head) (done after : List (List Call)) (core : ℕ) (lines : List (List (List ℕ))) (m : Meaning)
    → IsListing h.section → 1 ≤ h.version → core ≡ length done → core + length lists ≡ h.cores → h.cores ≤ 8
    → All (All (IsCallWithin h.version)) lists
    → ((g : Head) → setting_of g ≡ setting_of h → g.version ≡ h.version → IsListing g.section → Says (draft g (done ++ (lists ++ after)) []) lines m)
    → Says (draft h (done ++ (emptied lists ++ after)) []) (lists_then core lists lines) m
lists_say [] h done after core lines m e some at n few within more = more h refl refl e
lists_say (l ∷ ls) h done after core lines m e some at n few within more =
    core_says l h done (emptied ls ++ after) core (lists_then (core + 1) ls lines) m e some
    at (omega arith) few (All-head (All (IsCallWithin h.version)) l ls within) (λ g same version listing.
    let cores : g.cores ≡ h.cores = ap (λ (s : Setting). s.cores) same in
    let pushed : length (done ++ l ∷ []) ≡ length done + 1 = length_push done l in
    let joined : (done ++ l ∷ []) ++ (ls ++ after) ≡ done ++ l ∷ (ls ++ after) = append_assoc done (l ∷ []) (ls ++ after) in
    let emptier : (done ++ l ∷ []) ++ (emptied ls ++ after) ≡ done ++ l ∷ (emptied ls ++ after) =
    append_assoc done (l ∷ []) (emptied ls ++ after) in
    subst (λ (lists : List (List Call)). Says (draft g lists []) (lists_then (core + 1) ls lines) m) emptier
    (lists_say ls g (done ++ l ∷ []) after (core + 1) lines m listing (omega (arith, some, version))
    (omega arith) (omega arith) (omega arith)
    (subst (λ v. All (All (IsCallWithin v)) ls) (sym version) (All-tail (All (IsCallWithin h.version)) l ls within))
    (λ f again version' still.
    subst (λ (lists : List (List Call)). Says (draft f lists []) lines m) (sym joined) (more f (again ∙ same) (version' ∙ version) still))))

-- ---- the order

item_behind : (h : Head) (lists : List (List Call)) (order : List Item) (i : Item) (words : List (List ℕ))
    → h.section ≡ section.Order → i.core < h.cores → h.cores ≤ 8 → length order < 200000
    → draft_behind (draft h lists order) (item_text i ∷ words) ≡ draft_behind (draft h lists (order ++ i ∷ [])) words
unfolding draft_behind
item_behind h lists order i words e below few room = rw (e, item_read h.version h.cores i below few, lt-ltb (length order) 200000 room) refl

order_line_end : (h : Head) (lists : List (List Call)) (order : List Item)
    → h.section ≡ section.Order → draft_behind (draft h lists order) [] ≡ Ok (draft h lists order)
unfolding draft_behind
order_line_end h lists order e = rw e refl

front_says : (h : Head) (lists : List (List Call)) (order : List Item) (i : Item) (lines : List (List (List ℕ))) (m : Meaning)
    → h.section ≡ section.Order → i.core < h.cores → h.cores ≤ 8 → length order < 200000
    → Says (draft h lists (order ++ i ∷ [])) lines m → Says (draft h lists order) (in_front (item_text i) lines) m
front_says h lists order i [] m e below few room more =
    says_line (draft h lists order) (draft h lists (order ++ i ∷ [])) (item_text i ∷ []) [] m
    (item_behind h lists order i [] e below few room ∙ order_line_end h lists (order ++ i ∷ []) e) more
front_says h lists order i (words ∷ lines) m e below few room more =
    says_same (draft h lists order) (draft h lists (order ++ i ∷ [])) (item_text i ∷ words)
    words lines m (item_behind h lists order i words e below few room) more

line_says : (h : Head) (lists : List (List Call)) (order : List Item) (i : Item) (lines : List (List (List ℕ))) (m : Meaning)
    → h.section ≡ section.Order → i.core < h.cores → h.cores ≤ 8 → length order < 200000
    → Says (draft h lists (order ++ i ∷ [])) lines m → Says (draft h lists order) ((item_text i ∷ []) ∷ lines) m
line_says h lists order i lines m e below few room more =
    says_line (draft h lists order) (draft h lists (order ++ i ∷ [])) (item_text i ∷ []) lines m
    (item_behind h lists order i [] e below few room ∙ order_line_end h lists (order ++ i ∷ []) e) more

items_say : (is : List Item) (i : Item) (at : ℕ) (h : Head) (lists : List (List Call)) (order : List Item) (m : Meaning)
    → h.section ≡ section.Order → h.cores ≤ 8
    → i.core < h.cores → BelowCores h.cores is → length order + suc (length is) ≤ 200000
    → meaning_of (draft h lists (order ++ i ∷ is)) ≡ m → Says (draft h lists order) (item_rows at i is) m
items_say [] i at h lists order m e few below all room is_m =
    line_says h lists order i [] m e below few (omega arith) (says_end (draft h lists (order ++ i ∷ [])) m (ap is_whole e) is_m)
items_say (j ∷ js) i at h lists order m e few below all room is_m =
    let pushed : length (order ++ i ∷ []) ≡ length order + 1 = length_push order i in
    let joined : meaning_of (draft h lists ((order ++ i ∷ []) ++ j ∷ js)) ≡ m =
    ap (λ (o : List Item). meaning_of (draft h lists o)) (append_assoc order (i ∷ []) (j ∷ js)) ∙ is_m in
    let P : Item → Type 0 = λ (x : Item). x.core < h.cores in
    let more : Says (draft h lists (order ++ i ∷ [])) (item_rows (at + 1) j js) m =
    items_say js j (at + 1) h lists (order ++ i ∷ []) m e few (All-head P j js all) (All-tail P j js all) (omega arith) joined in
    elim (cases_Bool ((at + 1) % 10 == 0)) [
      | inl t ↦ rw t (line_says h lists order i (item_rows (at + 1) j js) m e below few (omega arith) more)
      | inr t ↦ rw t (front_says h lists order i (item_rows (at + 1) j js) m e below few (omega arith) more)
    ]

order_says : (items : List Item) (h : Head) (lists : List (List Call)) (m : Meaning)
    → IsListing h.section → h.cores ≤ 8 → BelowCores h.cores items → length items ≤ 200000
    → meaning_of (draft h lists items) ≡ m → Says (draft h lists []) (order_rows items) m
order_says [] h lists m e few all room is_m = says_end (draft h lists []) m (listing_whole h.section e) is_m
order_says (i ∷ is) h lists m e few all room is_m =
    let g : Head = record h { section = section.Order } in
    let P : Item → Type 0 = λ (x : Item). x.core < h.cores in
    let more : Says (draft g lists []) (item_rows 0 i is) m =
    items_say is i 0 g lists [] m refl few (All-head P i is all) (All-tail P i is all) (omega arith) is_m in
    head_says (listing_no_order h.section e) (order_back h e) more

-- ---- the whole

-- the lines of a script
abbrev pub script_lines : Meaning → List (List (List ℕ))
script_lines m = speck_words m.version ∷ cores_words m.setup.cores ∷ frames_words m.setup.frames
    ∷ grants_then m.setup.grants (calls_words m.setup.calls ∷ epochs_words m.setup.epochs ∷ lists_then 0 m.lists (order_rows m.order))

empty_lists : (lists : List (List Call)) (k n : ℕ) → length lists + k ≡ n → emptied lists ++ replicate k [] ≡ replicate n []
empty_lists [] k n e = ap (λ (j : ℕ). replicate j []) (sym (zero-add k) ∙ e)
empty_lists (l ∷ ls) k zero e = absurd (omega arith)
empty_lists (l ∷ ls) k (suc n) e = ap (λ (xs : List (List Call)). [] ∷ xs) (empty_lists ls k n (omega arith))

grants_all_say : (gs : List Grant) (h : Head) (lists : List (List Call)) (lines : List (List (List ℕ))) (m : Meaning)
    → h.section ≡ section.Grants → length h.grants + length gs ≡ h.cores → 1 ≤ length gs → All GrantFits gs
    → Says (draft (all_granted h gs) lists []) lines m → Says (draft h lists []) (grants_then gs lines) m
grants_all_say [] h lists lines m e n some all more = absurd (omega arith)
grants_all_say (g ∷ gs) h lists lines m e n some all more =
    grants_say g gs h lists lines m e n (All-head GrantFits g gs all) (All-tail GrantFits g gs all) more

-- the head of a setup before its grants, and after its last limit
abbrev sized : ℕ → Setting → Head
sized v s = record no_head { section = section.Grants; version = v; cores = s.cores; frames = s.frames; calls = most_calls v }

abbrev limited : ℕ → Setting → Head
limited v s = record (sized v s) { section = section.Lists; grants = s.grants; calls = s.calls; epochs = s.epochs }

setup_says : (v : ℕ) (s : Setting) (lists : List (List Call)) (lines : List (List (List ℕ))) (m : Meaning) → 1 ≤ v → v ≤ 3 → IsSetting s
    → s.calls ≤ most_calls v → Says (draft (limited v s) lists []) lines m
    → Says (draft no_head lists []) (speck_words v ∷ cores_words s.cores ∷ frames_words s.frames
    ∷ grants_then s.grants (calls_words s.calls ∷ epochs_words s.epochs ∷ lines)) m
setup_says v s lists lines m some most within limit more =
    let h1 : Head = record no_head { section = section.Cores; version = v; calls = most_calls v } in
    let h2 : Head = record no_head { section = section.Frames; version = v; cores = s.cores; calls = most_calls v } in
    let h3 : Head = sized v s in
    let h4 : Head = all_granted h3 s.grants in
    let h5 : Head = record h4 { section = section.Epochs; calls = s.calls } in
    let low : 1 ≤ s.cores = within.some_core in
    let granted_all : length s.grants ≡ s.cores = within.granted in
    let epochs : s.epochs < 2 ^ 16 = within.most_epochs in
    let rest : List (List (List ℕ)) = calls_words s.calls ∷ epochs_words s.epochs ∷ lines in
    let sizes : Says (draft h4 lists []) rest m = head_says refl (calls_back h4 s.calls refl limit)
    (head_says refl (epochs_back h5 s.epochs refl within.some_epoch (omega arith)) more) in
    let grants : Says (draft h3 lists []) (grants_then s.grants rest) m =
    grants_all_say s.grants h3 lists rest m refl (omega arith) (omega arith) within.grants_fit sizes in
    head_says refl (speck_back v some most) (head_says refl (cores_back h1 s.cores refl low within.most_cores)
    (head_says refl (frames_back h2 s.frames refl within.least_frames within.most_frames) grants))

meaning_back : (g : Head) (m : Meaning) (after : List (List Call)) → g.version ≡ m.version → setting_of g ≡ m.setup
    → length m.lists ≡ m.setup.cores → meaning_of (draft g (m.lists ++ after) m.order) ≡ m
meaning_back g m after version same n =
    let cores : g.cores ≡ length m.lists = ap (λ (s : Setting). s.cores) same ∙ sym n in
    let lists : take g.cores (m.lists ++ after) ≡ m.lists = ap (λ k. take k (m.lists ++ after)) cores ∙ take-append_seam m.lists after in
    λ i. record { version = version i; setup = same i; lists = lists i; order = m.order }

-- the lines of a script within the limits say that script
pub script_says : (m : Meaning) → 1 ≤ m.version → m.version ≤ 3 → IsSetting m.setup → m.setup.calls ≤ most_calls m.version
    → length m.lists ≡ m.setup.cores → All (All (IsCallWithin m.version)) m.lists
    → BelowCores m.setup.cores m.order → length m.order ≤ 200000 → Says no_draft (script_lines m) m
script_says m some most setup limit n calls below room =
    let few : m.setup.cores ≤ 8 = setup.most_cores in
    let after : List (List Call) = replicate (8 - length m.lists) [] in
    let blank : emptied m.lists ++ after ≡ replicate 8 [] = empty_lists m.lists (8 - length m.lists) 8 (omega arith) in
    let lines : List (List (List ℕ)) = order_rows m.order in
    let listed : Says (draft (limited m.version m.setup) (emptied m.lists ++ after) []) (lists_then 0 m.lists lines) m =
    lists_say m.lists (limited m.version m.setup) [] after 0 lines m (inl refl) some refl (omega arith) few calls
    (λ g same version listing.
    let cores : g.cores ≡ m.setup.cores = ap (λ (s : Setting). s.cores) same in
    let fits : BelowCores g.cores m.order = subst (λ k. BelowCores k m.order) (sym cores) below in
    order_says m.order g (m.lists ++ after) m listing (omega arith) fits room (meaning_back g m after version same n)) in
    let blank_says : Says (draft (limited m.version m.setup) (replicate 8 []) []) (lists_then 0 m.lists lines) m =
    subst (λ (lists : List (List Call)). Says (draft (limited m.version m.setup) lists []) (lists_then 0 m.lists lines) m) blank listed in
    setup_says m.version m.setup (replicate 8 []) (lists_then 0 m.lists lines) m some most setup limit blank_says
