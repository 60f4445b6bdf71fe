-- The counts of decisions, as a list of words and numbers.
use Rattle.std.proofs.Common.{◌≡◌, ℕ, zero, suc, ◌+◌, ◌<◌, ◌≤◌, Bool, true, false, cond, eqb, List, [], ◌∷◌, ◌++◌, length, ◌⊎◌, inl, inr}
use Rattle.std.proofs.Common.{refl, sym, ap, subst, ◌∙◌, arith, append_assoc, All, Contains, codes, sum_by, eq-eqb, ne_eqb, eqb-true}
use Rattle.std.proofs.{lemmas.Bool.eqb-false, lemmas.List.Elements.All-nil, lemmas.List.Elements.All-cons, lemmas.List.Elements.All-append}
use Rattle.std.proofs.{lemmas.List.Elements.All-head, lemmas.List.Elements.Contains-append_left, lemmas.List.Elements.Contains-append_right}
use Rattle.spk_nums.specs.{declared.replies.Reply.Reply, declared.replies.Decision.Decision, Names.reply_code, Names.reply_word}
use Rattle.load_summary.specs.Laws.{Count, IsCount, TellsEach, count_of, count_lines, how_often}
use Rattle.load_summary.specs.Summaries.{counted, counts_below, counts_text, with_number}
use Rattle.{std.proofs.Common.append-nil, std.proofs.lemmas.List.Elements.filter_passes, std.proofs.lemmas.List.Sums.sum_by-append}
use Rattle.{spk_nums.specs.Texts.with_one, script_printer.specs.Printing.line, load_summary.proofs.ReplyWords.counted_once}

same_or_not : (m n : ℕ) → (m ≡ n) ⊎ (m ≡ n → ⊥)
same_or_not m n = by (eqb m n) refl where
  by : (b : Bool) → eqb m n ≡ b → (m ≡ n) ⊎ (m ≡ n → ⊥)
  by true e = inl (eqb-true m n e)
  by false e = inr (eqb-false m n e)

abbrev count : List ℕ → ℕ → Count
count word times = record { word = word; times = times }

abbrev times_of : Count → ℕ
times_of k = k.times

-- the counts of decisions of one number, and those of the numbers below n
abbrev group : List Decision → List Count
group [] = []
group (d ∷ ds) = count (reply_word d.reply) (1 + length ds) ∷ []

abbrev groups_below : ℕ → List Decision → List Count
groups_below zero ds = []
groups_below (suc n) ds = groups_below n ds ++ group (with_number n ds)

-- ---- the text is theirs

lines-append : (ks ls : List Count) → count_lines (ks ++ ls) ≡ count_lines ks ++ count_lines ls
lines-append [] ls = refl
lines-append (k ∷ ks) ls =
    let here = line (with_one k.word k.times) in
    ap (λ x. here ++ x) (lines-append ks ls) ∙ sym (append_assoc here (count_lines ks) (count_lines ls))

group_text : (ds : List Decision) → counted ds ≡ count_lines (group ds)
group_text [] = refl
group_text (d ∷ ds) = sym (append-nil (line (with_one (reply_word d.reply) (1 + length ds))))

text_below : (n : ℕ) (ds : List Decision) → counts_below n ds ≡ count_lines (groups_below n ds)
text_below zero ds = refl
text_below (suc n) ds =
    ap (λ x. x ++ counted (with_number n ds)) (text_below n ds)
    ∙ ap (λ x. count_lines (groups_below n ds) ++ x) (group_text (with_number n ds))
    ∙ sym (lines-append (groups_below n ds) (group (with_number n ds)))

-- ---- they sum to the calls

abbrev total_below : ℕ → List Decision → ℕ
total_below n ds = sum_by times_of (groups_below n ds)

group_total : (ds : List Decision) → sum_by times_of (group ds) ≡ length ds
group_total [] = refl
group_total (d ∷ ds) = omega arith

total_more : (n : ℕ) (ds : List Decision) → total_below (suc n) ds ≡ total_below n ds + length (with_number n ds)
total_more n ds = sum_by-append times_of (groups_below n ds) (group (with_number n ds))
    ∙ ap (λ (k : ℕ). total_below n ds + k) (group_total (with_number n ds))

module _ (d : Decision) (ds : List Decision) where
  abbrev number : ℕ
  number = reply_code d.reply

  one_of : (n : ℕ) → number ≡ n → length (with_number n (d ∷ ds)) ≡ 1 + length (with_number n ds)
  one_of n e = ap (λ b. length (cond b (d ∷ with_number n ds) (with_number n ds))) (eq-eqb number n e) ∙ omega arith

  none_of : (n : ℕ) → (number ≡ n → ⊥) → length (with_number n (d ∷ ds)) ≡ length (with_number n ds)
  none_of n e = ap (λ b. length (cond b (d ∷ with_number n ds) (with_number n ds))) (ne_eqb number n e)

  total_above : (n : ℕ) → n ≤ number → total_below n (d ∷ ds) ≡ total_below n ds
  total_above zero above = refl
  total_above (suc n) above =
      let same = none_of n (λ e. omega (arith, e, above)) in
      total_more n (d ∷ ds) ∙ omega (arith, same, total_above n (omega (arith, above)), total_more n ds)

  total_one : (n : ℕ) → number < n → total_below n (d ∷ ds) ≡ 1 + total_below n ds
  total_one zero under = absurd (omega (arith, under))
  total_one (suc n) under =
      elim (same_or_not number n) [
        | inl is ↦ total_more n (d ∷ ds) ∙ omega (arith, one_of n is, total_above n (omega (arith, is)), total_more n ds)
        | inr is_not ↦
            let less : number < n = omega (arith, is_not, under) in
            total_more n (d ∷ ds) ∙ omega (arith, none_of n is_not, total_one n less, total_more n ds)
      ]

total_all : (ds : List Decision) → total_below 25 ds ≡ length ds
total_all [] = refl
total_all (d ∷ ds) = total_one d ds 25 (counted_once d.reply).below ∙ omega (arith, total_all ds)

-- ---- each reply that was decided has its count, and there are no others

module _ (ds : List Decision) where
  -- decisions of its number have the word of a reply
  group_has : (r : Reply) (g : List Decision) → All (λ (d : Decision). eqb (reply_code d.reply) (reply_code r) ≡ true) g
      → 0 < length g → Contains (group g) (count (reply_word r) (length g))
  group_has r [] same some = absurd (omega (arith, some))
  group_has r (d ∷ g) same some =
      let number = eqb-true (reply_code d.reply) (reply_code r)
      (All-head (λ (x : Decision). eqb (reply_code x.reply) (reply_code r) ≡ true) d g same) in (
        0,
        omega arith,
        ap (λ w. count w (1 + length g)) ((counted_once d.reply).word r number)
            ∙ ap (λ (k : ℕ). count (reply_word r) k) (omega arith),
      )

  group_own : (n : ℕ) (g : List Decision) → g ≡ with_number n ds → All (λ (d : Decision). eqb (reply_code d.reply) n ≡ true) g
      → All (IsCount ds) (group g)
  group_own n [] is same = All-nil (IsCount ds)
  group_own n (d ∷ g) is same =
      let number = eqb-true (reply_code d.reply) n (All-head (λ (x : Decision). eqb (reply_code x.reply) n ≡ true) d g same) in
      let times : 1 + length g ≡ how_often ds d.reply = omega (arith, ap length is, ap (λ m. length (with_number m ds)) number) in
      All-cons (IsCount ds) (count (reply_word d.reply) (1 + length g)) []
      (record { reply = d.reply; is = ap (λ (k : ℕ). count (reply_word d.reply) k) times; came = omega arith }) (All-nil (IsCount ds))

  passes : (n : ℕ) → All (λ (d : Decision). eqb (reply_code d.reply) n ≡ true) (with_number n ds)
  passes n = filter_passes (λ (d : Decision). eqb (reply_code d.reply) n) ds

  own_below : (n : ℕ) → All (IsCount ds) (groups_below n ds)
  own_below zero = All-nil (IsCount ds)
  own_below (suc n) = All-append (IsCount ds) (groups_below n ds) (group (with_number n ds)) (own_below n)
      (group_own n (with_number n ds) refl (passes n))

  each_below : (n : ℕ) (r : Reply) → reply_code r < n → 0 < how_often ds r → Contains (groups_below n ds) (count_of ds r)
  each_below zero r under some = absurd (omega (arith, under))
  each_below (suc n) r under some =
      elim (same_or_not (reply_code r) n) [
        | inl is ↦ Contains-append_right (groups_below n ds) (group (with_number n ds)) (count_of ds r)
            (subst (λ m. Contains (group (with_number m ds)) (count_of ds r)) is
            (group_has r (with_number (reply_code r) ds) (passes (reply_code r)) some))
        | inr is_not ↦ Contains-append_left (groups_below n ds) (group (with_number n ds)) (count_of ds r)
            (each_below n r (omega (arith, is_not, under)) some)
      ]

pub tells_each : (ds : List Decision) → TellsEach ds (counts_text ds)
tells_each ds = record {
  counts = groups_below 25 ds;
  is_text = ap (λ x. x ++ line (with_one (codes "calls") (length ds))) (text_below 25 ds);
  own = own_below ds 25;
  each = λ r some. each_below ds 25 r (counted_once r).below some;
  sum = total_all ds;
}
