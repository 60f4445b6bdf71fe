-- What lines of each form say. What is read by the form of a word is a call that the form may say, and that has this word.
use Rattle.std.proofs.Common.{◌≡◌, ℕ, ◌≤◌, ◌+◌, Bool, true, false, ◌&&◌, if◌then◌else◌, nat_le, nat_lt, leb-true, List, [], ◌∷◌, ◌++◌, length, arith}
use Rattle.std.proofs.Common.{Result, Ok, Err, refl, sym, ap, subst, ◌∙◌, append-nil, append_assoc}
use Rattle.line_reader.specs.{◌>>=◌, number_at, end_at, declared.cause.Cause.Cause}
use Rattle.spk_nums.specs.{Rights.both, declared.kinds.FrameKind.FrameKind, declared.calls.Call.Call, declared.calls.Make.Make}
use Rattle.spk_nums.specs.{declared.verbs.Verb.Verb, declared.verbs.Object.Object}
use Rattle.spk_nums.specs.Verbs.{Argument, said, with, rights_written}
use Rattle.call_reader.specs.CallLines.{Form, form_of, object_form, read_form, call_line, frame_kind_at, object_at}
use Rattle.call_reader.specs.{Within.MaySay, Within.IsVerbIn, Within.IsCallWithin}
use Rattle.call_reader.proofs.Judgements.{judged_is, bind_ok, both_left, number_in}

-- the places end there
abbrev pub IsLast : Form → Type 0
IsLast (Form.Says c) = Unit {0}
IsLast _ = ⊥

-- Each call that a form from a place on may say is said with this word and, before that place, with these arguments; its numbers are small; and
-- what may be left out stands last.
abbrev pub AllSay : Verb → Form → List Argument → Type 0
AllSay v (Form.Says c) before = said c ≡ with v before
AllSay v (Form.Number letter least most next) before = (most ≤ 4000000000) × ((n : ℕ) → AllSay v (next n) (before ++ Argument.Number n ∷ []))
AllSay v (Form.MayNumber letter next) before = (n : ℕ) → IsLast (next n) × AllSay v (next n) (before ++ rights_written n)
AllSay v (Form.Kind letter next) before = (k : FrameKind) → AllSay v (next k) (before ++ Argument.Kind k ∷ [])
AllSay v (Form.Made letter next) before = (o : Object) → AllSay v (next o) (before ++ Argument.Made o ∷ [])

few : 65535 ≤ 4000000000
few = omega arith

objects_say : (o : Object) (r f t b : ℕ) → AllSay Verb.Make (object_form o λ what. Form.Says (Call.Make what r f t b))
    (Argument.Made o ∷ Argument.Number r ∷ Argument.Number f ∷ Argument.Number t ∷ Argument.Number b ∷ [])
objects_say Object.Table r f t b = refl
objects_say Object.Leaf r f t b = refl
objects_say Object.Pages r f t b = refl
objects_say Object.Pleaf r f t b = refl
objects_say Object.Thread r f t b = (few, λ comp. refl)
objects_say Object.Tcap r f t b = (omega arith, λ sched. (omega arith, λ quality. refl))
objects_say Object.Comp r f t b = (few, λ table. (few, λ pages. (omega arith, λ live. refl)))

-- So it is of the form of each word.
pub forms_say : (v : Verb) → AllSay v (form_of v) []
forms_say Verb.Look = (few, λ a. refl)
forms_say Verb.Copy = (few, λ a. (few, λ t. (few, λ b. λ r. (tt, refl))))
forms_say Verb.Remove = (few, λ t. (few, λ b. refl))
forms_say Verb.Grow = (few, λ t. (few, λ i. (few, λ l. refl)))
forms_say Verb.Shrink = (few, λ t. (few, λ i. refl))
forms_say Verb.Retype = (few, λ r. (few, λ f. λ k. refl))
forms_say Verb.Make = λ o. (few, λ r. (few, λ f. (few, λ t. (few, λ b. objects_say o r f t b))))
forms_say Verb.Map = (few, λ p. (few, λ v. (few, λ r. (few, λ f. (omega arith, λ w. refl)))))
forms_say Verb.Unmap = (few, λ p. (few, λ v. refl))
forms_say Verb.Touch = (few, λ v. refl)
forms_say Verb.Flush = refl
forms_say Verb.Gate = (few, λ c. (few, λ t. (few, λ b. refl)))
forms_say Verb.Kill = (few, λ c. refl)
forms_say Verb.Call = (few, λ g. refl)
forms_say Verb.Ret = refl
forms_say Verb.Switch = (few, λ h. (few, λ q. refl))
forms_say Verb.Tick = (omega arith, λ n. refl)
forms_say Verb.Transfer = (few, λ a. (few, λ b. (omega arith, λ m. refl)))
forms_say Verb.Delegate = (few, λ a. (few, λ b. (omega arith, λ m. refl)))
forms_say Verb.Test = (few, λ a. (few, λ b. refl))
forms_say Verb.Part = (few, λ r. (few, λ f. (few, λ n. (few, λ t. (few, λ b. refl)))))
forms_say Verb.Replenish = (few, λ a. (omega arith, λ m. refl))

-- ---- what was said begins with what stands before a place

onto : (v : Verb) (c : Call) (before one more : List Argument) → said c ≡ with v ((before ++ one) ++ more)
    → (after : List Argument) × (said c ≡ with v (before ++ after))
onto v c before one more e = (one ++ more, e ∙ ap (λ l. with v l) (append_assoc before one more))

pub may_be_said : (v : Verb) (version : ℕ) (f : Form) (before : List Argument) (c : Call) → AllSay v f before → MaySay version f c
    → (more : List Argument) × (said c ≡ with v (before ++ more))
may_be_said v version (Form.Says d) before c all may = ([], ap said (sym may) ∙ all ∙ ap (λ l. with v l) (sym (append-nil before)))
may_be_said v version (Form.Number letter least most next) before c all may =
    let one = Argument.Number may.0 ∷ [] in
    let r = may_be_said v version (next may.0) (before ++ one) c (all.1 may.0) may.3 in
    onto v c before one r.0 r.1
may_be_said v version (Form.MayNumber letter next) before c all may =
    let one = rights_written may.0 in
    let r = may_be_said v version (next may.0) (before ++ one) c (all may.0).1 may.3 in
    onto v c before one r.0 r.1
may_be_said v version (Form.Kind letter next) before c all may =
    let one = Argument.Kind may.0 ∷ [] in
    let r = may_be_said v version (next may.0) (before ++ one) c (all may.0) may.1 in
    onto v c before one r.0 r.1
may_be_said v version (Form.Made letter next) before c all may =
    let one = Argument.Made may.0 ∷ [] in
    let r = may_be_said v version (next may.0) (before ++ one) c (all may.0) may.1 in
    onto v c before one r.0 r.1

-- The word of a call that the form of a word may say is that word.
pub verb_said : (v : Verb) (version : ℕ) (c : Call) → MaySay version (form_of v) c → (said c).verb ≡ v
verb_said v version c may = ap (λ s. s.verb) (may_be_said v version (form_of v) [] c (forms_say v) may).1

-- ---- what is read may be said

ended : (d : Result Unit Cause) (x c : Call) → (d >>= λ done. Ok x) ≡ Ok c → x ≡ c
ended (Ok done) x c e = judged_is x c e
ended (Err k) x c e = absurd cc

may_number : (version : ℕ) (words : List (List ℕ)) (place : ℕ) (letter : List ℕ) (next : ℕ → Form) (c : Call)
    → ((n p : ℕ) → read_form version words p (next n) ≡ Ok c → MaySay version (next n) c)
    → (b : Bool) → (nat_le 2 version && nat_lt place (length words)) ≡ b
    → (if b then (number_at words place 0 3 >>= λ n. read_form version words (place + 1) (next n))
    else read_form version words place (next both)) ≡ Ok c → MaySay version (Form.MayNumber letter next) c
may_number version words place letter next c go true is e =
    let r = bind_ok (number_at words place 0 3) (λ n. read_form version words (place + 1) (next n)) c e in
    let two : 2 ≤ version = leb-true 2 version (both_left (nat_le 2 version) (nat_lt place (length words)) is) in
    (r.0, (number_in words place 0 3 r.0 r.1).1, λ one. absurd (omega (arith, two, one)), go r.0 (place + 1) r.2)
may_number version words place letter next c go false is e = (both, omega arith, λ one. refl, go both place e)

pub read_may : (version : ℕ) (words : List (List ℕ)) (place : ℕ) (f : Form) (c : Call) → read_form version words place f ≡ Ok c → MaySay version f c
read_may version words place (Form.Says d) c e = ended (end_at words place) d c e
read_may version words place (Form.Number letter least most next) c e =
    let r = bind_ok (number_at words place least most) (λ n. read_form version words (place + 1) (next n)) c e in
    let range = number_in words place least most r.0 r.1 in
    (r.0, range.0, range.1, read_may version words (place + 1) (next r.0) c r.2)
read_may version words place (Form.MayNumber letter next) c e =
    may_number version words place letter next c (λ n p. read_may version words p (next n) c) (nat_le 2 version && nat_lt place (length words)) refl e
read_may version words place (Form.Kind letter next) c e =
    let r = bind_ok (frame_kind_at words place) (λ k. read_form version words (place + 1) (next k)) c e in
    (r.0, read_may version words (place + 1) (next r.0) c r.2)
read_may version words place (Form.Made letter next) c e =
    let r = bind_ok (object_at words place) (λ o. read_form version words (place + 1) (next o)) c e in
    (r.0, read_may version words (place + 1) (next r.0) c r.2)

-- The line of a word says a call of that word,
pub line_verb : (version : ℕ) (words : List (List ℕ)) (v : Verb) (c : Call) → call_line version words v ≡ Ok c → (said c).verb ≡ v
unfolding call_line
line_verb version words v c e = verb_said v version c (read_may version words 1 (form_of v) c e)

-- which is within the limits, where scripts of the version have the word.
pub line_within : (version : ℕ) (words : List (List ℕ)) (v : Verb) (c : Call) → IsVerbIn version v → call_line version words v ≡ Ok c
    → IsCallWithin version c
unfolding call_line
line_within version words v c known e =
    let may = read_may version words 1 (form_of v) c e in
    subst (λ w. IsVerbIn version w × MaySay version (form_of w) c) (sym (verb_said v version c may)) (known, may)

-- ---- what is made is read in the same way in each version

made_any : (v w : ℕ) (words : List (List ℕ)) (o : Object) (k : Make → Call)
    → read_form v words 6 (object_form o λ what. Form.Says (k what)) ≡ read_form w words 6 (object_form o λ what. Form.Says (k what))
made_any v w words Object.Table k = refl
made_any v w words _ k = refl

pub make_any : (v w : ℕ) (words : List (List ℕ)) → call_line v words Verb.Make ≡ call_line w words Verb.Make
unfolding call_line
make_any v w words = λ i. object_at words 1 >>= λ o. number_at words 2 0 65535 >>= λ r. number_at words 3 0 65535 >>= λ f.
    number_at words 4 0 65535 >>= λ t. number_at words 5 0 65535 >>= λ b. made_any v w words o (λ what. Call.Make what r f t b) i
