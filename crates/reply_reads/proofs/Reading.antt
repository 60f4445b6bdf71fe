-- Replies as words: the words of a reply in range are read as that reply.
use Rattle.kernel_history.proofs.{◌≡◌, ◌≢◌, ℕ, ◌<◌, ◌≤◌, ◌==◌, Bool, true, false, List, [], ◌∷◌, ◌^◌, length, Ok, refl, sym, ap}
use Rattle.kernel_history.proofs.{◌∙◌, arith, codes, and_from, eqb-true, eqb-false, lt-ltb, Kind, Value, Reply}
use Rattle.reply_reads.specs.{reply_words, IsReplyWithin}
use Rattle.kernel_history.specs.kernel_rules.specs.{decimal, least_rights}
use Rattle.kernel_history.specs.spk_nums.specs.{Limits.end_of_arg, Limits.least_arg, Names.kind_word}
use Rattle.script_printer.specs.line_reader.specs.{Lines.rows_of, Numerals.is_digits, Arguments.is_word, Arguments.word_at}
use Rattle.script_printer.proofs.Spans.{lines_scanned}
use Rattle.script_printer.proofs.NumberWords.{number_digits, number_back, core_back}
use Rattle.history_reader.specs.Replies.{kind_of, arg_at, rights_place, fewer_rights, both_rights, rights_at, cap_at, ticks_at, page_at}
use Rattle.history_reader.specs.Replies.{said_at, numbers_at, named_at, value_at, later_name, plain_name, reply_name, core_named}
use Rattle.history_reader.specs.Replies.{count_named, reply_by, reply_of}
use Rattle.reply_reads.specs.{Words.rights_words, Words.cap_words_by, Words.value_words, Laws.RepliesReadBack}
use Rattle.reply_reads.proofs.Texts.{reply_spaced, reply_onto, reply_is_line}
use Rattle.{script_printer.specs.script_tokens.specs.words_of, std.proofs.lemmas.Fmt.decimal_nonempty, reply_ranges.specs.Ranges.ValueFits}
use Rattle.{script_printer.specs.line_reader.specs.Arguments.end_at}

-- ---- capabilities

-- After a frame nothing comes, and both rights are meant; or the word `rights` and their number.
three_rights : (whole : Bool) (k : Kind) (x w f : List ℕ) (r : ℕ) → (r == 3) ≡ whole → least_rights k ≤ r → r ≤ 3
    → rights_at (x ∷ w ∷ f ∷ rights_words whole r) 3 k ≡ Ok r
unfolding rights_at fewer_rights both_rights end_at is_word
three_rights true k x w f r is least most = ap (λ (n : ℕ). Ok n) (sym (eqb-true r 3 is))
three_rights false k x w f r is least most =
    let other : r ≢ 3 = eqb-false r 3 is in
    let few : r ≤ 2 = omega (arith, most, other) in
    rw (number_back (x ∷ w ∷ f ∷ rights_words false r) 4 (least_rights k) 2 r refl least few (omega arith)) refl

-- The same after a frame and a number.
four_rights : (whole : Bool) (k : Kind) (x w f a : List ℕ) (r : ℕ) → (r == 3) ≡ whole → least_rights k ≤ r → r ≤ 3
    → rights_at (x ∷ w ∷ f ∷ a ∷ rights_words whole r) 4 k ≡ Ok r
unfolding rights_at fewer_rights both_rights end_at is_word
four_rights true k x w f a r is least most = ap (λ (n : ℕ). Ok n) (sym (eqb-true r 3 is))
four_rights false k x w f a r is least most =
    let other : r ≢ 3 = eqb-false r 3 is in
    let few : r ≤ 2 = omega (arith, most, other) in
    rw (number_back (x ∷ w ∷ f ∷ a ∷ rights_words false r) 5 (least_rights k) 2 r refl least few (omega arith)) refl

-- A capability of a kind with a number, and of one without.
numbered : (k : Kind) (whole : Bool) (f a r : ℕ) → arg_at (codes "ok" ∷ kind_word k ∷ decimal f ∷ decimal a ∷ rights_words whole r) k ≡ Ok a
    → rights_place k ≡ 4 → (r == 3) ≡ whole → f ≤ 511 → least_rights k ≤ r → r ≤ 3
    → cap_at (codes "ok" ∷ kind_word k ∷ decimal f ∷ decimal a ∷ rights_words whole r) k
    ≡ Ok (Value.Cap (record { kind = k; frame = f; arg = a; rights = r }))
unfolding cap_at
numbered k whole f a r arg place is frame least most =
    let ws = codes "ok" ∷ kind_word k ∷ decimal f ∷ decimal a ∷ rights_words whole r in
    rw (
      number_back ws 2 0 511 f refl (omega arith) frame (omega arith),
      arg,
      place,
      four_rights whole k (codes "ok") (kind_word k) (decimal f) (decimal a) r is least most,
    ) refl

bare : (k : Kind) (whole : Bool) (f a r : ℕ) → arg_at (codes "ok" ∷ kind_word k ∷ decimal f ∷ rights_words whole r) k ≡ Ok 0
    → a ≡ 0 → rights_place k ≡ 3 → (r == 3) ≡ whole → f ≤ 511 → least_rights k ≤ r → r ≤ 3
    → cap_at (codes "ok" ∷ kind_word k ∷ decimal f ∷ rights_words whole r) k
    ≡ Ok (Value.Cap (record { kind = k; frame = f; arg = a; rights = r }))
unfolding cap_at
bare k whole f a r arg none place is frame least most =
    let ws = codes "ok" ∷ kind_word k ∷ decimal f ∷ rights_words whole r in
    rw (
      number_back ws 2 0 511 f refl (omega arith) frame (omega arith),
      arg,
      none,
      place,
      three_rights whole k (codes "ok") (kind_word k) (decimal f) r is least most,
    ) refl

cap_back : (k : Kind) (whole : Bool) (f a r : ℕ) → (r == 3) ≡ whole → f ≤ 511 → least_arg k ≤ a → a < end_of_arg k
    → least_rights k ≤ r → r ≤ 3 → cap_at (codes "ok" ∷ cap_words_by k f a (rights_words whole r)) k
    ≡ Ok (Value.Cap (record { kind = k; frame = f; arg = a; rights = r }))
unfolding arg_at
cap_back Kind.Range whole f a r is frame low high least most =
    let ws = codes "ok" ∷ codes "range" ∷ decimal f ∷ decimal a ∷ rights_words whole r in
    let below : a < 16777216 = high in
    numbered Kind.Range whole f a r (number_back ws 3 0 16777215 a refl low (omega arith) (omega arith)) refl is frame least most
cap_back Kind.Gate whole f a r is frame low high least most =
    let ws = codes "ok" ∷ codes "gate" ∷ decimal f ∷ decimal a ∷ rights_words whole r in
    let below : a < 65536 = high in
    numbered Kind.Gate whole f a r (number_back ws 3 1 65535 a refl low (omega arith) (omega arith)) refl is frame least most
cap_back Kind.Page whole f a r is frame low high least most =
    let ws = codes "ok" ∷ codes "page" ∷ decimal f ∷ decimal a ∷ rights_words whole r in
    let below : a < 4 = high in
    numbered Kind.Page whole f a r (number_back ws 3 0 3 a refl low (omega arith) (omega arith)) refl is frame least most
cap_back k whole f a r is frame low high least most =
    let below : a < 1 = high in
    bare k whole f a r refl (omega arith) refl is frame least most

-- ---- values

-- After `ok` stands the word of a kind.
kind_back : (k : Kind) (more : List (List ℕ)) → value_at (codes "ok" ∷ kind_word k ∷ more) ≡ cap_at (codes "ok" ∷ kind_word k ∷ more) k
unfolding value_at named_at kind_of is_word
kind_back Kind.Range more = refl
kind_back _ more = refl

cap_first : (k : Kind) (f a : ℕ) (rights : List (List ℕ))
    → value_at (codes "ok" ∷ cap_words_by k f a rights) ≡ cap_at (codes "ok" ∷ cap_words_by k f a rights) k
cap_first Kind.Range f a rights = kind_back Kind.Range (decimal f ∷ decimal a ∷ rights)
cap_first Kind.Gate f a rights = kind_back Kind.Gate (decimal f ∷ decimal a ∷ rights)
cap_first Kind.Page f a rights = kind_back Kind.Page (decimal f ∷ decimal a ∷ rights)
cap_first k f a rights = kind_back k (decimal f ∷ rights)

-- A number is digits.
digits_are : (n : ℕ) → n ≤ 4294967295 → is_digits (decimal n) ≡ true
digits_are n few =
    let fits : n < 2 ^ 64 = omega arith in
    and_from _ _ (lt-ltb 0 (length (decimal n)) (decimal_nonempty n fits)) (number_digits n fits)

value_back : (v : Value) → ValueFits v → value_at (codes "ok" ∷ value_words v) ≡ Ok v
unfolding value_at numbers_at ticks_at page_at named_at said_at end_at is_word
value_back Value.Nothing h = refl
value_back (Value.Cap c) h =
    cap_first c.kind c.frame c.arg (rights_words (c.rights == 3) c.rights)
    ∙ cap_back c.kind (c.rights == 3) c.frame c.arg c.rights refl h.frame h.least h.below h.rights h.most
value_back (Value.Page frame flags) h =
    let f : frame ≤ 511 = h.0 in
    let ws = codes "ok" ∷ decimal frame ∷ decimal flags.0 ∷ [] in
    rw (
      digits_are frame (omega arith),
      number_back ws 1 0 511 frame refl (omega arith) h.0 (omega arith),
      number_back ws 2 0 3 flags.0 refl (omega arith) h.1 (omega arith),
    ) refl
value_back (Value.Amount n) h =
    rw (digits_are n h, number_back (codes "ok" ∷ decimal n ∷ []) 1 0 4294967295 n refl (omega arith) h (omega arith)) refl
value_back Value.Preempts h = refl
value_back Value.Stays h = refl

-- ---- replies

core_there : (cores e : ℕ) (w : List ℕ) → cores ≤ 8 → e < cores → core_named cores (w ∷ decimal e ∷ []) ≡ Ok e
unfolding core_named end_at
core_there cores e w most below = rw (core_back (w ∷ decimal e ∷ []) 1 cores e refl below most) refl

count_there : (n : ℕ) (w : List ℕ) → n ≤ 4294967295 → count_named (w ∷ decimal n ∷ []) ≡ Ok n
unfolding count_named end_at
count_there n w few = rw (number_back (w ∷ decimal n ∷ []) 1 0 4294967295 n refl (omega arith) few (omega arith)) refl

-- The words of a reply in range are read as that reply.
pub reply_read : (cores : ℕ) → cores ≤ 8 → (r : Reply) → IsReplyWithin cores r → reply_of cores (reply_words r) ≡ Ok r
unfolding reply_of reply_by reply_name plain_name later_name word_at end_at is_word
reply_read cores most (Reply.Ok v) h = rw (value_back v h) refl
reply_read cores most (Reply.Quiescing e) h = rw (core_there cores e (codes "quiescing") most h) refl
reply_read cores most (Reply.Unflushed e) h = rw (core_there cores e (codes "unflushed") most h) refl
reply_read cores most (Reply.Running e) h = rw (core_there cores e (codes "running") most h) refl
reply_read cores most (Reply.Busy d) h = rw (core_there cores d (codes "busy") most h) refl
reply_read cores most (Reply.Referenced k) h = rw (count_there k (codes "referenced") h) refl
reply_read cores most (Reply.Short b) h = rw (count_there b (codes "short") h) refl
reply_read cores most _ h = refl

-- ---- the law

pub replies_read_back : RepliesReadBack
replies_read_back cores most r h = record {
  text = reply_spaced r;
  row = ap (λ (bytes : List ℕ). rows_of (words_of bytes)) (reply_onto r [])
      ∙ (lines_scanned (reply_words r ∷ []) (and_from _ _ (reply_is_line cores most r h) refl) (omega arith)).rows;
  read = reply_read cores most r h;
}
