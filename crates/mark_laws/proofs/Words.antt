-- Words by which kinds of frames and objects are named.
use Rattle.std.proofs.Common.{◌≡◌, ℕ, Bool, true, false, ◌||◌, List, Option, Some, None, refl, ◌∙◌, ap, if◌then◌else◌, codes, is_some}
use Rattle.std.proofs.Common.{option_and_then, unwrap_or}
use Rattle.fault_texts.specs.{call_reader.specs.frame_kind_of, call_reader.specs.object_of, line_reader.specs.Arguments.is_word}
use Rattle.fault_texts.specs.line_forms.specs.{Fitting.is_frame_kind, Fitting.is_object}

or_some : {X : Type 0} (a : Bool) (x : X) (b : Bool) (r : Option X) → b ≡ is_some r → (a || b) ≡ is_some (if a then Some x else r)
or_some true x b r e = refl
or_some false x b r e = e

last_some : {X : Type 0} (a : Bool) (x : X) → a ≡ is_some (if a then Some x else None)
last_some true x = refl
last_some false x = refl

pub kinds_same : (word : List ℕ) → is_frame_kind word ≡ is_some (frame_kind_of word)
unfolding is_frame_kind frame_kind_of
kinds_same word =
    or_some (is_word word (codes "untyped")) _ _ _ (or_some (is_word word (codes "user")) _ _ _ (last_some (is_word word (codes "kernel")) _))

pub objects_same : (word : List ℕ) → is_object word ≡ is_some (object_of word)
unfolding is_object object_of
objects_same word =
    or_some (is_word word (codes "table")) _ _ _ (or_some (is_word word (codes "leaf")) _ _ _
    (or_some (is_word word (codes "pages")) _ _ _ (or_some (is_word word (codes "pleaf")) _ _ _
    (or_some (is_word word (codes "thread")) _ _ _ (or_some (is_word word (codes "tcap")) _ _ _
    (last_some (is_word word (codes "comp")) _))))))

-- what is read of the word at a place
pub worth : {X : Type 0} (read : List ℕ → Option X) (d : X) (w : List ℕ) (x : X) (o : Option (List ℕ)) → o ≡ Some w → read w ≡ Some x
    → unwrap_or (option_and_then read o) d ≡ x
worth read d w x o is meant =
    ap (λ (p : Option (List ℕ)). unwrap_or (option_and_then read p) d) is ∙ ap (λ (r : Option _). unwrap_or r d) meant
