-- One spelling for each frame word.
use Rattle.std.proofs.Common.{◌≡◌, ℕ, ◌+◌, ◌*◌, ◌/◌, ◌%◌, ◌^◌, ◌<◌, nat_lt, Option, Some, IfSome, refl, subst, arith, lt-ltb, ltb-true}
use Rattle.frame_words.specs.{FrameFits, word_of_frame, frame_of_word}
use Rattle.spk_nums.proofs.{Choices.kept, MarkLemmas.IsMarkNumber, MarkLemmas.mark_numbered, MarkLemmas.MarkFrom, MarkLemmas.mark_from}
use Rattle.spk_nums.specs.declared.kinds.FrameKind.TheVariants.{Untyped, User, Kernel}
use Rattle.spk_nums.specs.declared.kinds.Obj.TheVariants.{Blank, Table, Leaf, Pages, Pleaf, Comp, Thread, Tcap}
use Rattle.frame_words.specs.FrameKinds.{number_of_frame_kind, frame_kind_of_number, number_of_object, object_of_number, end_of_object}
use Rattle.{std.proofs.lemmas.Bool.Decides.nat_tests, spk_nums.proofs.OneSpelling.spelling_reads}
use Rattle.{spk_nums.proofs.OneSpelling.spelling_spells, spk_nums.specs.Marks.number_of_mark, spk_nums.specs.Marks.mark_of_number}
use Rattle.{spk_nums.specs.Spelling.IsOneSpelling, spk_nums.specs.declared.kinds.FrameKind.FrameKind, spk_nums.specs.declared.kinds.Obj.Obj}
use Rattle.{frame_words.specs.Frame.frame_of, frame_words.specs.declared.frame_word.FrameWord.FrameWord}

-- a frame's kind has a number below 4, and is found again from it
record IsNumbered (k : FrameKind) : Type 0 where
  below : number_of_frame_kind k < 4
  back : frame_kind_of_number (number_of_frame_kind k) ≡ Some k

numbered : (k : FrameKind) → IsNumbered k
numbered Untyped = record { below = omega arith; back = refl }
numbered User = record { below = omega arith; back = refl }
numbered Kernel = record { below = omega arith; back = refl }

number_of_frame_kind_of : (n : ℕ) (k : FrameKind) → frame_kind_of_number n ≡ Some k → number_of_frame_kind k ≡ n
number_of_frame_kind_of n k h = grind (arith, nat_tests)

-- an object has a number below 8, and is found again from it
record IsObjectNumbered (o : Obj) : Type 0 where
  below : number_of_object o < 8
  back : object_of_number (number_of_object o) ≡ Some o

object_numbered : (o : Obj) → IsObjectNumbered o
object_numbered Blank = record { below = omega arith; back = refl }
object_numbered Table = record { below = omega arith; back = refl }
object_numbered Leaf = record { below = omega arith; back = refl }
object_numbered Pages = record { below = omega arith; back = refl }
object_numbered Pleaf = record { below = omega arith; back = refl }
object_numbered Comp = record { below = omega arith; back = refl }
object_numbered Thread = record { below = omega arith; back = refl }
object_numbered Tcap = record { below = omega arith; back = refl }

number_of_object_of : (n : ℕ) (o : Obj) → object_of_number n ≡ Some o → number_of_object o ≡ n
number_of_object_of n o h = grind (arith, nat_tests)

reads : (v : FrameWord) → FrameFits v → frame_of_word (word_of_frame v) ≡ Some v
unfolding word_of_frame frame_of_word
reads v h =
    let k : ℕ = number_of_frame_kind v.kind in
    let o : ℕ = number_of_object v.object in
    let m : ℕ = number_of_mark v.mark in
    let k_is : IsNumbered v.kind = numbered v.kind in
    let o_is : IsObjectNumbered v.object = object_numbered v.object in
    let m_is : IsMarkNumber v.mark = mark_numbered v.mark h.0 in
    let w : ℕ = k + 2 ^ 2 * o + 2 ^ 6 * m in
    let kind : w % 2 ^ 2 ≡ k = omega arith in
    let object : w / 2 ^ 2 % 2 ^ 4 ≡ o = omega arith in
    let mark : w / 2 ^ 6 ≡ m = omega arith in
    rw (kind, object, mark, k_is.back, o_is.back, m_is.back, lt-ltb o (end_of_object v.kind) h.1)

-- a frame word within its ranges, whose word is this one
Spells : ℕ → FrameWord → Type 0
Spells w v = FrameFits v × (word_of_frame v ≡ w)

spells_fields : (a : Option FrameKind) (b : Option Obj) (c : Option (Option ℕ)) (w : ℕ) (v : FrameWord)
    → frame_kind_of_number (w % 2 ^ 2) ≡ a → object_of_number (w / 2 ^ 2 % 2 ^ 4) ≡ b
    → mark_of_number (w / 2 ^ 6) ≡ c → frame_of a b c ≡ Some v → Spells w v
unfolding Spells word_of_frame
spells_fields (Some k) (Some o) (Some m) w v of_kind of_object of_mark h =
    let (holds, value) = kept (nat_lt (number_of_object o) (end_of_object k)) (record { kind = k; object = o; mark = m }) v h in
    let kind : number_of_frame_kind k ≡ w % 2 ^ 2 = number_of_frame_kind_of (w % 2 ^ 2) k of_kind in
    let object : number_of_object o ≡ w / 2 ^ 2 % 2 ^ 4 = number_of_object_of (w / 2 ^ 2 % 2 ^ 4) o of_object in
    let mark : MarkFrom (w / 2 ^ 6) m = mark_from (w / 2 ^ 6) m of_mark in
    let number : number_of_mark m ≡ w / 2 ^ 6 = mark.number in
    subst (Spells w) value ((mark.in_range, ltb-true (number_of_object o) (end_of_object k) holds), omega arith)
spells_fields a b c w v of_kind of_object of_mark h = absurd (cc)

spells : (w : ℕ) (v : FrameWord) → frame_of_word w ≡ Some v → Spells w v
unfolding frame_of_word
spells w v h = spells_fields _ _ _ w v refl refl refl h

small : (v : FrameWord) → FrameFits v → word_of_frame v < 2 ^ 64
unfolding word_of_frame
small v h =
    let k_is : IsNumbered v.kind = numbered v.kind in
    let o_is : IsObjectNumbered v.object = object_numbered v.object in
    let m_is : IsMarkNumber v.mark = mark_numbered v.mark h.0 in
    omega arith

pub spelling : IsOneSpelling FrameFits word_of_frame frame_of_word
unfolding Spells
spelling = record { reads = reads; spells = spells; small = small }

-- what `unpack` says of the value read from a word
pub frame_reads : (o : Option FrameWord) (w : ℕ) → o ≡ frame_of_word w → (v : FrameWord) → FrameFits v → word_of_frame v ≡ w → o ≡ Some v
frame_reads = spelling_reads spelling

pub frame_spells : (o : Option FrameWord) (w : ℕ) → o ≡ frame_of_word w → IfSome o (λ v. FrameFits v × (word_of_frame v ≡ w))
frame_spells = spelling_spells spelling
