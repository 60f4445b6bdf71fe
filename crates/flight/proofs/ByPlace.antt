-- A step by the place of its word is the step by the word's name, and words of different names have different places.
use Rattle.work_invariant.specs.boot_words.specs.kernel_history.proofs.{◌≡◌, ◌≢◌, ℕ, refl, Word, Shape, Move, LoadOf, word_of, left_of}
use Rattle.work_invariant.specs.boot_words.specs.kernel_history.proofs.{told_of, place_in, IsShape, IsIn, place_of, op_of, has_places}
use Rattle.call_fits.specs.call_stages.specs.spk_nums.specs.WordSteps.{left_by, told_by}

pub place_is : (shape : Shape) (m : Move) → place_in (op_of shape m) ≡ place_of shape (word_of m)
place_is shape (LoadOf w) = refl
place_is shape _ = refl

pub left_is : (shape : Shape) (m : Move) (found : ℕ) → left_by (op_of shape m) found ≡ left_of m found
left_is shape (LoadOf w) found = refl
left_is shape _ found = refl

pub told_is : (shape : Shape) (m : Move) (found : ℕ) → told_by (op_of shape m) found ≡ told_of m found
told_is shape (LoadOf w) found = refl
told_is shape _ found = refl

-- different words have different places
pub apart_places : (shape : Shape) (w u : Word) → IsShape shape → IsIn shape w → IsIn shape u → w ≢ u
    → place_of shape w ≢ place_of shape u
apart_places shape w u is h k other same = other ((has_places shape is).distinct w u h k same)
