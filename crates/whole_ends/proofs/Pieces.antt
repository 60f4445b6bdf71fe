-- One read or one write more.
use Rattle.std.proofs.Common.{◌≡◌, ℕ, ◌+◌, ◌-◌, ◌<◌, ◌≤◌, ◌++◌, List, [], length, take, drop, Option, Some, None, refl, sym, ◌∙◌, ap, subst}
use Rattle.std.proofs.Common.{arith, append_assoc, length-append, length-drop, take_all, length-take-le, drop-drop}
use Rattle.{whole_ends.specs.Gives, whole_ends.specs.GivesAll, std.proofs.Math.Seq.take-add, byte_ends.specs.Ends.Moves}
use Rattle.{byte_ends.specs.Ends.Takes, byte_ends.specs.Ends.Adds, whole_ends.specs.Ends.GivesAtMost, whole_ends.specs.Ends.AddsFirst}

-- The bytes are the first that the source has given.
pub record HasRead (bytes left : List ℕ) (left' : Option (List ℕ)) : Type 0 where
  pub within : length bytes ≤ length left
  pub front : bytes ≡ take (length bytes) left
  pub rest : left' ≡ Some (drop (length bytes) left)

abbrev pub Reads : List ℕ → Option (List ℕ) → Option (List ℕ) → Type 0
Reads bytes None left' = Unit {0}
Reads bytes (Some left) left' = HasRead bytes left left'

pub reads_none : (left : Option (List ℕ)) → Reads [] left left
reads_none None = tt
reads_none (Some left) = record { within = omega arith; front = refl; rest = refl }

pub reads_given : (bytes : List ℕ) (left left' : Option (List ℕ)) → Reads bytes left left' → Gives (length bytes) left left'
reads_given bytes None left' read = tt
reads_given bytes (Some left) left' read = record { there = read.within; rest = read.rest }

pub reads_most : (n : ℕ) (bytes : List ℕ) (left left' left'' : Option (List ℕ)) → length bytes ≤ n → Reads bytes left left' → left'' ≡ left'
    → GivesAtMost n left left''
reads_most n bytes left left' left'' small read same = record {
  given = length bytes;
  most = small;
  gives = subst (λ l. Gives (length bytes) left l) (sym same) (reads_given bytes left left' read);
}

reads_some : (bytes left piece buf buf' : List ℕ) (left1 left2 : Option (List ℕ)) (k : ℕ) →
    HasRead bytes left left1 → Takes k left1 left2 buf buf' → piece ≡ take k buf' → HasRead (bytes ++ piece) left left2
reads_some bytes left piece buf buf' left1 left2 k read takes is =
    let moves : Moves k (drop (length bytes) left) left2 buf buf' = subst (λ o. Takes k o left2 buf buf') read.rest takes in
    let piece_is : piece ≡ take k (drop (length bytes) left) = is ∙ moves.front in
    let size : length piece ≡ k = ap length piece_is ∙ length-take-le k (drop (length bytes) left) moves.there in
    let all : length (bytes ++ piece) ≡ length bytes + k = length-append bytes piece ∙ ap (λ (n : ℕ). length bytes + n) size in
    let room = moves.there in
    let short = read.within in
    record {
      within = omega (arith, length-drop (length bytes) left);
      front = ap (λ x. x ++ piece) read.front ∙ ap (λ x. take (length bytes) left ++ x) piece_is ∙ sym (take-add (length bytes) k left)
          ∙ ap (λ (n : ℕ). take n left) (sym all);
      rest = moves.rest ∙ ap Some (drop-drop k (length bytes) left) ∙ ap (λ (n : ℕ). Some (drop n left)) (sym all);
    }

pub reads_more : (bytes piece buf buf' : List ℕ) (left left1 left2 : Option (List ℕ)) (k : ℕ) →
    Reads bytes left left1 → Takes k left1 left2 buf buf' → piece ≡ take k buf' → Reads (bytes ++ piece) left left2
reads_more bytes piece buf buf' None left1 left2 k read takes is = tt
reads_more bytes piece buf buf' (Some left) left1 left2 k read takes is = reads_some bytes left piece buf buf' left1 left2 k read takes is

-- A read whose bytes were not kept.
pub reads_lost : (bytes buf buf' : List ℕ) (left left1 left2 : Option (List ℕ)) (k n : ℕ) → Reads bytes left left1
    → Takes k left1 left2 buf buf' → length bytes + length (take k buf') ≤ n →
    GivesAtMost n left left2
reads_lost bytes buf buf' left left1 left2 k n read takes small =
    let piece = take k buf' in
    reads_most n (bytes ++ piece) left left2 left2 (omega (arith, length-append bytes piece))
    (reads_more bytes piece buf buf' left left1 left2 k read takes refl) refl

-- A read that moves nothing into a buffer with room.
moved_none : (bytes left buf buf' : List ℕ) (left1 left2 : Option (List ℕ)) (k : ℕ) →
    HasRead bytes left left1 → Takes k left1 left2 buf buf' → k ≡ 0 → 0 < length buf → (bytes ≡ left) × (left2 ≡ Some [])
moved_none bytes left buf buf' left1 left2 k read takes none room =
    let moves : Moves k (drop (length bytes) left) left2 buf buf' = subst (λ o. Takes k o left2 buf buf') read.rest takes in
    let nothing : drop (length bytes) left ≡ [] = moves.at_end none room in
    let over = ap length nothing in (
      read.front ∙ take_all (length bytes) left (omega (arith, length-drop (length bytes) left, over)),
      moves.rest ∙ ap (λ (n : ℕ). Some (drop n (drop (length bytes) left))) none ∙ ap Some nothing,
    )

pub reads_end : (bytes buf buf' : List ℕ) (left left1 left2 : Option (List ℕ)) (k : ℕ) →
    Reads bytes left left1 → Takes k left1 left2 buf buf' → k ≡ 0 → 0 < length buf → GivesAll bytes left left2
reads_end bytes buf buf' None left1 left2 k read takes none room = tt
reads_end bytes buf buf' (Some left) left1 left2 k read takes none room =
    let moved = moved_none bytes left buf buf' left1 left2 k read takes none room in
    record { all = moved.0; end = moved.1 }

adds_more : (n k : ℕ) (text : List ℕ) (held held1 held2 : Option (List ℕ)) →
    AddsFirst n text held held1 → Adds (take k (drop n text)) held1 held2 → AddsFirst (n + k) text held held2
adds_more n k text None held1 held2 adds more = tt
adds_more n k text (Some held) held1 held2 adds more =
    subst (λ o. Adds (take k (drop n text)) o held2) adds more
    ∙ ap Some (append_assoc held (take n text) (take k (drop n text)) ∙ ap (λ x. held ++ x) (sym (take-add n k text)))

pub adds_piece : (n k : ℕ) (text piece : List ℕ) (held held1 held2 : Option (List ℕ)) → n ≤ length text
    → piece ≡ take (length text - n) (drop n text) →
    AddsFirst n text held held1 → Adds (take k piece) held1 held2 → AddsFirst (n + k) text held held2
adds_piece n k text piece held held1 held2 within is adds more =
    adds_more n k text held held1 held2 adds
    (subst (λ p. Adds (take k p) held1 held2) (is ∙ take_all (length text - n) (drop n text) (omega (arith, length-drop n text))) more)
