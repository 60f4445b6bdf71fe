-- What bytes say is a script within the limits.
use Rattle.script_reader.specs as low
use Rattle.std.proofs.Common.{◌≡◌, ℕ, ◌+◌, ◌*◌, ◌^◌, ◌≤◌, ◌<◌, Bool, true, false, cond, eqb, ltb, List, [], ◌∷◌, ◌++◌, length, All, Option, Some}
use Rattle.std.proofs.Common.{None, Result, Ok, Err, refl, sym, ap, subst, ◌∙◌, arith, inl, inr, slice_get, ok_or, option_and_then}
use Rattle.std.proofs.Common.{eqb-true, ltb-true, length-set, length-take-le}
use low.{may_stand, granted, is_whole, line_of, line_by, core_line, order_line, item_of, items_of, Draft_of, Meaning, no_draft, calls_of}
use low.{with_call, with_line, is_order, behind_line, draft_behind, draft_from, meaning_of, meaning_at, script_of, BelowCores}
use low.line_reader.specs.{◌>>=◌, value_of, number_at, core_at, end_at, Row, First_fault, rows_of}
use low.line_reader.proofs.{read_is, then_ok, at_line_ok, lines_keep}
use Rattle.script_printer.specs.{printed, IsCallWithin, IsWithin}
use Rattle.std.proofs.lemmas.Bool.{cases_Bool, cases_lt, eqb-false}
use low.call_reader.specs.{first_word, call_line, most_calls}
use low.script_tokens.specs.{words_of, ending_of, line_count}
use Rattle.std.proofs.lemmas.List.{get_or_past, length_push}
use Rattle.std.proofs.lemmas.List.Elements.{All-push, All-set, All-weaker, All-get_or, All-take, All-nil, All-replicate}
use Rattle.spk_nums.specs.{declared.calls.Call.Call, declared.grants.Grant.Grant, declared.steps.Item.Item}
use Rattle.spk_nums.specs.{Setting.GrantFits}
use low.script_tokens.specs.declared.scanning.ByteFault.TheVariants.{NotAscii, TooManyLines}
use low.script_tokens.specs.declared.scanning.Ending.TheVariants.{Whole, Fault}
use low.line_reader.specs.declared.cause.Cause.TheVariants.{S2, S6, S7, S9}
use low.{declared.head.Section.Section, declared.head.Head.Head, declared.head.Line.Line, Heads.AreFrames, Heads.HasCome, Heads.IsHead}
use low.{Heads.speck_line, Heads.cores_line, Heads.frames_line, Heads.grant_line, Heads.calls_line, Heads.epochs_line, Orders.Parts, Readings.draft_step}
use low.{Orders.parts_of, Orders.no_item, Orders.judged, Orders.with_item}
use low.call_reader.proofs.Judgements.{judged_is, bind_ok, number_in}
use low.call_reader.proofs.Forms.{line_within}
use Rattle.script_printer.proofs.CallLimits.{args_none, args_one, args_three, later_version}
use Rattle.script_printer.proofs.KnownWords.{IsWordIn, word_known, most_machine}
use low.{script_tokens.specs.declared.scanning.Ending.Ending, line_reader.specs.declared.cause.Cause.Cause}
use low.{call_reader.specs.declared.first_words.FirstWord.FirstWord}
use Rattle.script_reader.specs.call_reader.specs.declared.first_words.FirstWord.TheVariants as first

-- ---- lines of the head

-- before the grants there are none
no_grants : (s : Section) (h : Head) → may_stand s first.Speck ≡ true → HasCome s h → h.grants ≡ []
no_grants Section.Version h t come = come.0
no_grants _ h t come = absurd cc

no_grants_cores : (s : Section) (h : Head) → may_stand s first.Cores ≡ true → HasCome s h → h.grants ≡ []
no_grants_cores Section.Cores h t come = come
no_grants_cores _ h t come = absurd cc

no_grants_frames : (s : Section) (h : Head) → may_stand s first.Frames ≡ true → HasCome s h → h.grants ≡ []
no_grants_frames Section.Frames h t come = come
no_grants_frames _ h t come = absurd cc

some_grants : (s : Section) (h : Head) → may_stand s first.Grant ≡ true → HasCome s h → AreFrames h × (length h.grants < h.cores)
some_grants Section.Grants h t come = come
some_grants _ h t come = absurd cc

all_grants_calls : (s : Section) (h : Head) → may_stand s first.Calls ≡ true → HasCome s h → AreFrames h × (length h.grants ≡ h.cores)
all_grants_calls Section.Calls h t come = come
all_grants_calls _ h t come = absurd cc

all_grants_epochs : (s : Section) (h : Head) → may_stand s first.Epochs ≡ true → HasCome s h → AreFrames h × (length h.grants ≡ h.cores)
all_grants_epochs Section.Calls h t come = come
all_grants_epochs Section.Epochs h t come = come
all_grants_epochs _ h t come = absurd cc

all_grants_core : (s : Section) (h : Head) → may_stand s first.Core ≡ true → HasCome s h → AreFrames h × (length h.grants ≡ h.cores)
all_grants_core Section.Calls h t come = come
all_grants_core Section.Epochs h t come = come
all_grants_core Section.Lists h t come = come
all_grants_core Section.List h t come = come
all_grants_core _ h t come = absurd cc

all_grants_order : (s : Section) (h : Head) → may_stand s first.Order ≡ true → HasCome s h → AreFrames h × (length h.grants ≡ h.cores)
all_grants_order Section.Calls h t come = come
all_grants_order Section.Epochs h t come = come
all_grants_order Section.Lists h t come = come
all_grants_order Section.List h t come = come
all_grants_order _ h t come = absurd cc

all_grants_whole : (s : Section) (h : Head) → is_whole s ≡ true → HasCome s h → AreFrames h × (length h.grants ≡ h.cores)
all_grants_whole Section.Version h t come = absurd cc
all_grants_whole Section.Cores h t come = absurd cc
all_grants_whole Section.Frames h t come = absurd cc
all_grants_whole Section.Grants h t come = absurd cc
all_grants_whole _ h t come = come

-- before its line the version is 1
first_version : (s : Section) (h : Head) → may_stand s first.Speck ≡ true → HasCome s h → h.version ≡ 1
first_version Section.Version h t come = come.1
first_version _ h t come = absurd cc

-- what a line makes of a head: a head, of version 1 only if it was so before, and from version 3 on if it was so before
abbrev Goes : Head → Head → Type 0
Goes h g = IsHead g × (g.version ≡ 1 → h.version ≡ 1) × (3 ≤ h.version → 3 ≤ g.version)

speck_in : (h g : Head) (words : List (List ℕ)) → IsHead h → may_stand h.section first.Speck ≡ true → speck_line h words ≡ Ok g → Goes h g
unfolding speck_line
speck_in h g words is t e =
    let r = args_one (number_at words 1 1 3) (end_at words 2)
    (λ n. record h { section = Section.Cores; version = n; calls = most_calls n }) g e in
    let n = number_in words 1 1 3 r.0 r.1 in
    subst (Goes h) r.2 (
      record {
        some_version = n.0;
        most_versions = n.1;
        some_core = is.some_core;
        most_cores = is.most_cores;
        fit = is.fit;
        most_calls = omega arith;
        machine_calls = most_machine r.0;
        some_epoch = is.some_epoch;
        most_epochs = is.most_epochs;
        come = no_grants h.section h t is.come;
      },
      λ v. first_version h.section h t is.come,
      λ v. let one : h.version ≡ 1 = first_version h.section h t is.come in absurd (omega arith),
    )

-- another head of the version, with values in range
abbrev made : Head → Section → ℕ → ℕ → ℕ → List Grant → ℕ → ℕ → Head
made h s cores frames core grants calls epochs = record {
  section = s;
  version = h.version;
  cores = cores;
  frames = frames;
  grants = grants;
  calls = calls;
  epochs = epochs;
  core = core;
}

goes : (h : Head) (s : Section) (cores frames core : ℕ) (grants : List Grant) (calls epochs : ℕ) → IsHead h → (1 ≤ cores) × (cores ≤ 8)
    → All GrantFits grants → calls ≤ most_calls h.version → (1 ≤ epochs) × (epochs < 2 ^ 16)
    → HasCome s (made h s cores frames core grants calls epochs) → Goes h (made h s cores frames core grants calls epochs)
goes h s cores frames core grants calls epochs is many fit few some come = (
  record {
    some_version = is.some_version;
    most_versions = is.most_versions;
    some_core = many.0;
    most_cores = many.1;
    fit = fit;
    most_calls = few;
    machine_calls = (let most = most_machine h.version in omega arith);
    some_epoch = some.0;
    most_epochs = some.1;
    come = come;
  },
  λ v. v,
  λ v. v,
)

cores_in : (h g : Head) (words : List (List ℕ)) → IsHead h → may_stand h.section first.Cores ≡ true → cores_line h words ≡ Ok g → Goes h g
unfolding cores_line
cores_in h g words is t e =
    let r = args_one (number_at words 1 1 8) (end_at words 2) (λ n. record h { section = Section.Frames; cores = n }) g e in
    subst (Goes h) r.2 (goes h Section.Frames r.0 h.frames h.core h.grants h.calls h.epochs is (number_in words 1 1 8 r.0 r.1) is.fit
    is.most_calls (is.some_epoch, is.most_epochs) (no_grants_cores h.section h t is.come))

-- a head that goes on with the same cores, grants and limits
module _ (h : Head) (is : IsHead h) where
  goes_on : (s : Section) (frames core : ℕ) → HasCome s (made h s h.cores frames core h.grants h.calls h.epochs)
      → Goes h (made h s h.cores frames core h.grants h.calls h.epochs)
  goes_on s frames core come = goes h s h.cores frames core h.grants h.calls h.epochs is (is.some_core, is.most_cores) is.fit
      is.most_calls (is.some_epoch, is.most_epochs) come

  with_grants : (s : Section) (grants : List Grant) → All GrantFits grants
      → HasCome s (made h s h.cores h.frames h.core grants h.calls h.epochs) → IsHead (made h s h.cores h.frames h.core grants h.calls h.epochs)
  with_grants s grants fit come = (goes h s h.cores h.frames h.core grants h.calls h.epochs is (is.some_core, is.most_cores) fit
      is.most_calls (is.some_epoch, is.most_epochs) come).0

frames_in : (h g : Head) (words : List (List ℕ)) → IsHead h
    → may_stand h.section first.Frames ≡ true → frames_line h words ≡ Ok g → Goes h g
unfolding frames_line
frames_in h g words is t e =
    let r = args_one (number_at words 1 (4 + 2 * h.cores) 512) (end_at words 2)
    (λ n. record h { section = Section.Grants; frames = n }) g e in
    let none : h.grants ≡ [] = no_grants_frames h.section h t is.come in
    let some : 1 ≤ h.cores = is.some_core in
    let few : length h.grants < h.cores = subst (λ (gs : List Grant). length gs < h.cores) (sym none) (omega arith) in
    subst (Goes h) r.2 (goes_on h is Section.Grants r.0 h.core (number_in words 1 (4 + 2 * h.cores) 512 r.0 r.1, few))

granted_in : (h : Head) (g : Grant) → IsHead h → AreFrames h × (length h.grants < h.cores) → GrantFits g → IsHead (granted h g)
granted_in h g is come fits =
    let few : length h.grants < h.cores = come.1 in
    let long : length (h.grants ++ g ∷ []) ≡ length h.grants + 1 = length_push h.grants g in
    let all : All GrantFits (h.grants ++ g ∷ []) = All-push GrantFits h.grants g is.fit fits in
    elim (cases_Bool (eqb (length h.grants + 1) h.cores)) [
      | inl e ↦
          let last : length h.grants + 1 ≡ h.cores = eqb-true _ _ e in
          rw e (with_grants h is Section.Calls (h.grants ++ g ∷ []) all (come.0, long ∙ last))
      | inr e ↦
          let more : ¬ (length h.grants + 1 ≡ h.cores) = eqb-false _ _ e in
          rw e (with_grants h is Section.Grants (h.grants ++ g ∷ []) all (come.0, omega arith))
    ]

grant_in : (h g : Head) (words : List (List ℕ)) → IsHead h → may_stand h.section first.Grant ≡ true → grant_line h words ≡ Ok g → Goes h g
unfolding grant_line
grant_in h g words is t e =
    let r = args_three (number_at words 1 0 500000000) (number_at words 2 0 63) (number_at words 3 1 16777215)
    (end_at words 4) (λ b s w. granted h (record { budget = b; sched = s; quality = w })) g e in
    let sched : r.b ≤ 63 = (number_in words 2 0 63 r.b r.second).1 in
    let quality = number_in words 3 1 16777215 r.d r.third in
    let most : r.d ≤ 16777215 = quality.1 in
    subst (Goes h) r.whole (
      granted_in h (record { budget = r.a; sched = r.b; quality = r.d }) is
          (some_grants h.section h t is.come) ((number_in words 1 0 500000000 r.a r.first).1, omega arith, quality.0, omega arith),
      λ v. v,
      λ v. v,
    )

calls_in : (h g : Head) (words : List (List ℕ)) → IsHead h → may_stand h.section first.Calls ≡ true → calls_line h words ≡ Ok g → Goes h g
unfolding calls_line
calls_in h g words is t e =
    let r = args_one (number_at words 1 0 (most_calls h.version)) (end_at words 2)
    (λ n. record h { section = Section.Epochs; calls = n }) g e in
    subst (Goes h) r.2 (goes h Section.Epochs h.cores h.frames h.core h.grants r.0 h.epochs is (is.some_core, is.most_cores) is.fit
    (number_in words 1 0 (most_calls h.version) r.0 r.1).1 (is.some_epoch, is.most_epochs) (all_grants_calls h.section h t is.come))

epochs_in : (h g : Head) (words : List (List ℕ)) → IsHead h
    → may_stand h.section first.Epochs ≡ true → epochs_line h words ≡ Ok g → Goes h g
unfolding epochs_line
epochs_in h g words is t e =
    let r = args_one (number_at words 1 1 65535) (end_at words 2) (λ n. record h { section = Section.Lists; epochs = n }) g e in
    let n = number_in words 1 1 65535 r.0 r.1 in
    let most : r.0 ≤ 65535 = n.1 in
    subst (Goes h) r.2 (goes h Section.Lists h.cores h.frames h.core h.grants h.calls r.0 is (is.some_core, is.most_cores) is.fit
    is.most_calls (n.0, omega arith) (all_grants_epochs h.section h t is.come))

core_in : (h g : Head) (words : List (List ℕ)) → IsHead h → may_stand h.section first.Core ≡ true → core_line h words ≡ Ok g → Goes h g
unfolding core_line
core_in h g words is t e =
    let r = args_one (core_at words 1 h.cores) (end_at words 2) (λ n. record h { section = Section.List; core = n }) g e in
    subst (Goes h) r.2 (goes_on h is Section.List h.frames r.0 (all_grants_core h.section h t is.come))

order_in : (h g : Head) (words : List (List ℕ)) → IsHead h → may_stand h.section first.Order ≡ true → order_line h words ≡ Ok g → Goes h g
unfolding order_line
order_in h g words is t e =
    subst (Goes h) (args_none (end_at words 1) (record h { section = Section.Order }) g e)
    (goes_on h is Section.Order h.frames h.core (all_grants_order h.section h t is.come))

-- what a line says is within the limits
abbrev IsLineWithin : Head → Line → Type 0
IsLineWithin h (Line.Head head) = Goes h head
IsLineWithin h (Line.Call call) = IsCallWithin h.version call

head_line : (h : Head) (r : Result Head Cause) (l : Line) → ((g : Head) → r ≡ Ok g → Goes h g)
    → (r >>= λ head. Ok (Line.Head head)) ≡ Ok l → IsLineWithin h l
head_line h (Ok g) l within e = subst (IsLineWithin h) (judged_is (Line.Head g) l e) (within g refl)
head_line h (Err k) l within e = absurd cc

line_by_in : (h : Head) (words : List (List ℕ)) (w : FirstWord) (l : Line)
    → IsHead h → may_stand h.section w ≡ true → IsWordIn h.version w → line_by h words w ≡ Ok l → IsLineWithin h l
unfolding line_by
line_by_in h words first.Speck l is t known e = head_line h (speck_line h words) l (λ g. speck_in h g words is t) e
line_by_in h words first.Cores l is t known e = head_line h (cores_line h words) l (λ g. cores_in h g words is t) e
line_by_in h words first.Frames l is t known e = head_line h (frames_line h words) l (λ g. frames_in h g words is t) e
line_by_in h words first.Grant l is t known e = head_line h (grant_line h words) l (λ g. grant_in h g words is t) e
line_by_in h words first.Calls l is t known e = head_line h (calls_line h words) l (λ g. calls_in h g words is t) e
line_by_in h words first.Epochs l is t known e = head_line h (epochs_line h words) l (λ g. epochs_in h g words is t) e
line_by_in h words first.Core l is t known e = head_line h (core_line h words) l (λ g. core_in h g words is t) e
line_by_in h words first.Order l is t known e = head_line h (order_line h words) l (λ g. order_in h g words is t) e
line_by_in h words (first.Call v) l is t known e =
    let r = bind_ok (call_line h.version words v) (λ call. Ok (Line.Call call)) l e in
    subst (IsLineWithin h) (judged_is (Line.Call r.0) l r.2) (line_within h.version words v r.0 known r.1)

abbrev failed : {A : Type 0} → Cause → Result A Cause
failed k = Err k

no_value : {A : Type 0} (x : A) (k : Cause) → failed {A = A} k ≡ Ok x → ⊥
no_value x k e = cc

line_in : (h : Head) (words : List (List ℕ)) (l : Line) → IsHead h → line_of h words ≡ Ok l → IsLineWithin h l
unfolding line_of
line_in h words l is e =
    let w = bind_ok (ok_or (option_and_then (first_word h.version) (slice_get words 0)) S2)
    (λ word. cond (may_stand h.section word) (line_by h words word) (Err S7)) l e in
    elim (cases_Bool (may_stand h.section w.0)) [
      | inl t ↦ line_by_in h words w.0 l is t (word_known h.version (slice_get words 0) w.0 w.1) (rw t at w.2)
      | inr t ↦ absurd (no_value l S7 (rw t at w.2))
    ]

-- ---- items

below_in : (b : Bool) (n m : ℕ) → cond b (Ok n) (failed S6) ≡ Ok m → (b ≡ true) × (n ≡ m)
below_in true n m e = (refl, judged_is n m e)
below_in false n m e = absurd (no_value m S6 e)

parts_in : (version cores : ℕ) (word : List ℕ) (o : Option Parts) (i : Item) → judged version cores word o ≡ Ok i → i.core < cores
parts_in version cores word None i e = absurd (no_value i (no_item version word) e)
parts_in version cores word (Some p) i e =
    let r = bind_ok (cond (ltb (value_of p.digits) cores) (Ok (value_of p.digits)) (failed S6))
    (λ core. Ok (record { core = core; how = p.how })) i e in
    let t = below_in (ltb (value_of p.digits) cores) (value_of p.digits) r.0 r.1 in
    let below : value_of p.digits < cores = ltb-true (value_of p.digits) cores t.0 in
    let same : value_of p.digits ≡ r.0 = t.1 in
    let core : r.0 ≡ i.core = ap (λ (x : Item). x.core) (judged_is (record { core = r.0; how = p.how }) i r.2) in
    omega arith

item_in : (version cores : ℕ) (word : List ℕ) (i : Item) → item_of version cores word ≡ Ok i → i.core < cores
unfolding item_of
item_in version cores word i e = parts_in version cores word (parts_of word) i e

-- an order of cores below their number, with at most 200,000 items
record IsOrder (cores : ℕ) (order : List Item) : Type 0 where
  below : BelowCores cores order
  room : length order ≤ 200000

with_in : (b : Bool) (o more : List Item) (i : Item) → cond b (Ok (o ++ i ∷ [])) (failed S9) ≡ Ok more → (b ≡ true) × (o ++ i ∷ [] ≡ more)
with_in true o more i e = (refl, judged_is (o ++ i ∷ []) more e)
with_in false o more i e = absurd (no_value more S9 e)

items_in : (version cores : ℕ) (o : List Item) (words : List (List ℕ)) (r : List Item)
    → IsOrder cores o → items_of version cores o words ≡ Ok r → IsOrder cores r
items_in version cores o [] r is e = subst (IsOrder cores) (judged_is o r e) is
items_in version cores o (word ∷ words) r is e =
    let i = bind_ok (item_of version cores word) (λ item. with_item o item >>= λ more. items_of version cores more words) r e in
    let m = bind_ok (with_item o i.0) (λ more. items_of version cores more words) r i.2 in
    let t = with_in (ltb (length o) 200000) o m.0 i.0 m.1 in
    let room : length o < 200000 = ltb-true (length o) 200000 t.0 in
    let long : length (o ++ i.0 ∷ []) ≡ length o + 1 = length_push o i.0 in
    let pushed : IsOrder cores (o ++ i.0 ∷ []) =
    record { below = All-push (λ (x : Item). x.core < cores) o i.0 is.below (item_in version cores word i.0 i.1); room = omega arith } in
    items_in version cores m.0 words r (subst (IsOrder cores) t.1 pushed) m.2

-- ---- drafts

-- a draft that lines lead to
record IsRead (d : Draft_of) : Type 0 where
  head : IsHead d.head
  eight : length d.lists ≡ 8
  calls : All (All (IsCallWithin d.head.version)) d.lists
  order : IsOrder d.head.cores d.order
  before : is_order d.head.section ≡ false → d.order ≡ []

no_order : (cores : ℕ) (order : List Item) → order ≡ [] → IsOrder cores order
no_order cores order e = subst (IsOrder cores) (sym e) (record { below = All-nil (λ (x : Item). x.core < cores); room = omega arith })

call_more : (v : ℕ) (lists : List (List Call)) (core : ℕ) (c : Call) → All (All (IsCallWithin v)) lists
    → IsCallWithin v c → All (All (IsCallWithin v)) (with_call lists core c)
call_more v lists core c h k =
    let old : All (IsCallWithin v) (calls_of lists core) =
    elim (cases_lt core (length lists)) [
      | inl lt ↦ All-get_or (All (IsCallWithin v)) lists core [] lt h
      | inr le ↦ rw (get_or_past lists core [] le) (All-nil (IsCallWithin v))
    ] in
    All-set (All (IsCallWithin v)) lists core (calls_of lists core ++ c ∷ []) (All-push (IsCallWithin v) (calls_of lists core) c old k) h

line_read : (d : Draft_of) (l : Line) → IsRead d → is_order d.head.section ≡ false → IsLineWithin d.head l → IsRead (with_line d l)
line_read d (Line.Head g) is none h =
    record {
      head = h.0;
      eight = is.eight;
      calls = All-weaker (All (IsCallWithin d.head.version)) (All (IsCallWithin g.version))
          (λ cs. All-weaker (IsCallWithin d.head.version) (IsCallWithin g.version) (later_version d.head.version g.version (h.1, h.2)) cs)
          d.lists is.calls;
      order = no_order g.cores d.order (is.before none);
      before = λ t. is.before none;
    }
line_read d (Line.Call c) is none h =
    record {
      head = is.head;
      eight = length-set d.lists d.head.core (calls_of d.lists d.head.core ++ c ∷ []) ∙ is.eight;
      calls = call_more d.head.version d.lists d.head.core c is.calls h;
      order = is.order;
      before = is.before;
    }

behind_read : (d e : Draft_of) (words : List (List ℕ)) → IsRead d → draft_behind d words ≡ Ok e → IsRead e
unfolding draft_behind behind_line
behind_read d e words is h =
    elim (cases_Bool (is_order d.head.section)) [
      | inl t ↦
          let r = bind_ok (items_of d.head.version d.head.cores d.order words) (λ order. Ok (record d { order = order })) e (rw t at h) in
          let order : IsOrder d.head.cores r.0 = items_in d.head.version d.head.cores d.order words r.0 is.order r.1 in
          subst IsRead (judged_is (record d { order = r.0 }) e r.2)
          (record { head = is.head; eight = is.eight; calls = is.calls; order = order; before = λ f. absurd (both t f) })
      | inr t ↦
          let r = bind_ok (line_of d.head words) (λ l. Ok (with_line d l)) e (rw t at h) in
          subst IsRead (judged_is (with_line d r.0) e r.2) (line_read d r.0 is t (line_in d.head words r.0 is.head r.1))
    ]
  where
    both : {b : Bool} → b ≡ true → b ≡ false → ⊥
    both t f = cc

from_read : (d e : Draft_of) (rows : List Row) → IsRead d → draft_from d rows ≡ Ok e → IsRead e
from_read d e rows is h = lines_keep draft_step (λ n x. IsRead x)
    (λ n d e number words taken read. behind_read d e words read (at_line_ok number (draft_behind d words) e taken)) 0 d e rows h is

none_read : IsRead no_draft
none_read =
    record {
      head = record {
        some_version = omega arith;
        most_versions = omega arith;
        some_core = omega arith;
        most_cores = omega arith;
        fit = All-nil GrantFits;
        most_calls = omega arith;
        machine_calls = omega arith;
        some_epoch = omega arith;
        most_epochs = omega arith;
        come = (refl, refl);
      };
      eight = refl;
      calls = All-replicate (All (IsCallWithin 1)) 8 [] (All-nil (IsCallWithin 1));
      order = no_order 1 [] refl;
      before = λ t. refl;
    }

-- ---- the whole

-- a script within the limits, where its printed form has few lines
abbrev IsInRange : Meaning → Type 0
IsInRange m = line_count (printed m) ≤ 20000 → IsWithin m

meaning_in : (d : Draft_of) → IsRead d → is_whole d.head.section ≡ true → IsInRange (meaning_of d)
meaning_in d is whole = λ lines.
    let come = all_grants_whole d.head.section d.head whole is.head.come in
    let few : d.head.cores ≤ 8 = is.head.most_cores in
    let eight : length d.lists ≡ 8 = is.eight in
    record {
      some_version = is.head.some_version;
      most_versions = is.head.most_versions;
      setup = record {
        some_core = is.head.some_core;
        most_cores = is.head.most_cores;
        least_frames = come.0.0;
        most_frames = come.0.1;
        granted = come.1;
        grants_fit = is.head.fit;
        most_calls = is.head.machine_calls;
        some_epoch = is.head.some_epoch;
        most_epochs = is.head.most_epochs;
      };
      limit = is.head.most_calls;
      lists = length-take-le d.head.cores d.lists (omega arith);
      calls = All-take (All (IsCallWithin d.head.version)) d.head.cores d.lists is.calls;
      below = is.order.below;
      items = is.order.room;
      lines = lines;
    }

at_in : (d : Draft_of) (e : Ending) (m : Meaning) → IsRead d → meaning_at d e ≡ Ok m → IsInRange m
at_in d (Fault (NotAscii number)) m is h = absurd cc
at_in d (Fault TooManyLines) m is h = absurd cc
at_in d (Whole lines) m is h =
    elim (cases_Bool (is_whole d.head.section)) [
      | inl whole ↦ subst IsInRange (read_is (meaning_of d) m (rw whole at h)) (meaning_in d is whole)
      | inr whole ↦ absurd (no_meaning m (rw whole at h))
    ]
  where
    no_meaning : {f : First_fault} (x : Meaning) → Err f ≡ Ok x → ⊥
    no_meaning x k = cc

-- what bytes say is within the limits, where its printed form has few lines
pub read_within : (source : List ℕ) (m : Meaning) → script_of source ≡ Ok m → line_count (printed m) ≤ 20000 → IsWithin m
unfolding script_of
read_within source m h =
    let d = then_ok (draft_from no_draft (rows_of (words_of source))) (λ d. meaning_at d (ending_of source)) m h in
    at_in d.0 (ending_of source) m (from_read no_draft d.0 (rows_of (words_of source)) none_read d.1) d.2
