-- A summary, of its parts.
use Rattle.std.proofs.Common.{◌≡◌, ℕ, List, [], ◌++◌, ap, ◌∙◌}
use Rattle.spk_nums.specs.declared.replies.Decision.{Decision}
use Rattle.load_summary.specs.Summaries.{counts_text, total_text, summary_text}

-- counts appended to an empty text, and then a total, are a summary
pub summary_is : (ds : List Decision) (total : ℕ) (none counts whole : List ℕ) → none ≡ []
    → counts ≡ none ++ counts_text ds → whole ≡ counts ++ total_text total → whole ≡ summary_text ds total
unfolding summary_text
summary_is ds total none counts whole empty first second =
    second ∙ ap (λ x. x ++ total_text total) (first ∙ ap (λ x. x ++ counts_text ds) empty)
