-- Lines, stacks and lists, one more at a time.
use Rattle.table_lines.specs.kernel_history.proofs.{◌≡◌, ℕ, suc, ◌+◌, ◌<◌, ◌++◌, List, [], Option, Some, None, refl, sym, ap, ◌∙◌, arith}
use Rattle.table_lines.specs.kernel_history.proofs.{reverse, length, get_or, option_to_list, CoreEnd, end_in, flat_map, reverse-append}
use Rattle.{table_lines.specs.kernel_history.proofs.stack_of_word, table_lines.specs.kernel_history.proofs.quality_of_word}
use Rattle.{table_report.specs.stack_shown, table_report.specs.qualities_shown, table_lines.specs.kernel_history.specs.number}
use Rattle.{table_lines.specs.kernel_history.specs.quality_line, std.specs.Prelude.unwrap_or, std.proofs.lemmas.Option.slice_get-get_or}
use Rattle.{std.proofs.lemmas.Grind.flat_map-append, table_lines.specs.kernel_history.specs.FinalWords.no_end}
use Rattle.{tcap_words.specs.declared.stack_word.StackWord.StackWord, table_report.specs.Shown.stacked, table_report.specs.Shown.listed}

pub stack_none : (word : ℕ → ℕ) → stack_shown word 0 ≡ []
unfolding stack_shown
stack_none word = refl

pub stack_more : (word : ℕ → ℕ) (n : ℕ) → stack_shown word (n + 1) ≡ stacked (stack_of_word (word (1 + n))) ++ stack_shown word n
unfolding stack_shown
stack_more word n = let e : n + 1 ≡ suc n = omega arith in rw e

pub qualities_none : (word : ℕ → ℕ) → qualities_shown word 0 ≡ []
unfolding qualities_shown
qualities_none word = refl

pub qualities_more : (word : ℕ → ℕ) (n : ℕ)
    → qualities_shown word (n + 1) ≡ qualities_shown word n ++ listed (quality_of_word (word (1 + n)))
unfolding qualities_shown
qualities_more word n = let e : n + 1 ≡ suc n = omega arith in rw e

-- At most one frame stands in one word, so it reads the same from both ends.
one_back : (o : Option StackWord) → reverse (stacked o) ≡ stacked o
one_back None = refl
one_back (Some v) = by_cases v.0 where
  by_cases : (p : Option ℕ) → reverse (option_to_list p) ≡ option_to_list p
  by_cases None = refl
  by_cases (Some f) = refl

-- The text of a stack from the bottom to one higher.
pub stack_text : (word : ℕ → ℕ) (n : ℕ) → flat_map number (reverse (stack_shown word (n + 1)))
    ≡ flat_map number (reverse (stack_shown word n)) ++ flat_map number (stacked (stack_of_word (word (1 + n))))
stack_text word n =
    let o = stack_of_word (word (1 + n)) in
    ap (λ fs. flat_map number (reverse fs)) (stack_more word n)
    ∙ ap (flat_map number) (reverse-append (stacked o) (stack_shown word n) ∙ ap (λ x. reverse (stack_shown word n) ++ x) (one_back o))
    ∙ flat_map-append number (reverse (stack_shown word n)) (stacked o)

pub qualities_text : (word : ℕ → ℕ) (n : ℕ) → flat_map quality_line (qualities_shown word (n + 1))
    ≡ flat_map quality_line (qualities_shown word n) ++ flat_map quality_line (listed (quality_of_word (word (1 + n))))
qualities_text word n =
    ap (flat_map quality_line) (qualities_more word n)
    ∙ flat_map-append quality_line (qualities_shown word n) (listed (quality_of_word (word (1 + n))))

pub stack_begins : (word : ℕ → ℕ) → flat_map number (reverse (stack_shown word 0)) ≡ []
stack_begins word = ap (λ fs. flat_map number (reverse fs)) (stack_none word)

pub qualities_begins : (word : ℕ → ℕ) → flat_map quality_line (qualities_shown word 0) ≡ []
qualities_begins word = ap (flat_map quality_line) (qualities_none word)

-- The end of a core as it is read off the list.
pub ends_read : (ends : List CoreEnd) (c : ℕ) (e : CoreEnd) → c < length ends → e ≡ get_or ends c e → end_in ends c ≡ e
ends_read ends c e below is = ap (λ o. unwrap_or o no_end) (slice_get-get_or ends c e below) ∙ sym is
