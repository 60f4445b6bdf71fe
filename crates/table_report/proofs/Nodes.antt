-- A word of a node is that of its place in the table.
use Rattle.std.proofs.Common.{◌≡◌, ℕ, ◌*◌, ◌<◌, List, take, drop, slice_index, ◌∙◌, get_or-take, get_or-drop}
use Rattle.table_lines.specs.kernel_history.specs.{Shape, place_of}
use Rattle.table_report.specs.Shown.{words_of}

pub node_word : (shape : Shape) (words : List ℕ) (f i : ℕ) → i < 64 → slice_index (take 64 (drop (64 * f) words)) i ≡ words_of shape words f i
unfolding place_of
node_word shape words f i h = get_or-take 64 (drop (64 * f) words) i 0 h ∙ get_or-drop (64 * f) words i 0
