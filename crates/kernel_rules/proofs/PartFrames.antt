-- What it means that a range has the frames of a part.
use Rattle.std.proofs.Common.{◌≡◌, ℕ, ◌+◌, ◌-◌, ◌<◌, ◌≤◌, Bool, true, false, ◌&&◌, nat_le, nat_lt, refl, ap, ◌∙◌, arith, leb-true, ltb-true}
use Rattle.kernel_rules.specs.{Named, has_frame, has_frames}
use Rattle.{std.proofs.Common.le-leb, std.proofs.Common.lt-ltb, std.proofs.lemmas.Bool.and_parts}

-- The frames are some, begin at the range's first or after it, and end by its last.
pub record HasFrames (range : Named) (f n : ℕ) : Type 0 where
  pub some : 1 ≤ n
  pub first : range.frame ≤ f
  pub last : f + n ≤ range.frame + range.arg

three : (x y z : Bool) → (x && y && z) ≡ true → (x ≡ true) × (y ≡ true) × (z ≡ true)
three true true true h = (refl, refl, refl)
three true true false h = absurd (cc)
three true false z h = absurd (cc)
three false y z h = absurd (cc)

pub frames_in : (range : Named) (f n : ℕ) → has_frames range f n ≡ true → HasFrames range f n
frames_in range f n h =
    let p = three (nat_le 1 n) (nat_le range.frame f) (nat_le (f + n) (range.frame + range.arg)) h in
    record {
      some = leb-true 1 n p.0;
      first = leb-true range.frame f p.1;
      last = leb-true (f + n) (range.frame + range.arg) p.2;
    }

-- So the range has the first of them.
pub first_in : (range : Named) (f n : ℕ) → has_frames range f n ≡ true → has_frame range f ≡ true
first_in range f n h =
    let p = frames_in range f n h in
    let below : f < range.frame + range.arg = (let some = p.some in let last = p.last in omega arith) in
    ap (λ b. b && nat_lt f (range.frame + range.arg)) (le-leb range.frame f p.first) ∙ lt-ltb f (range.frame + range.arg) below

-- And a range has each frame of a part of it.
pub frame_in : (range part : Named) (f : ℕ) → has_frames range part.frame part.arg ≡ true → has_frame part f ≡ true
    → has_frame range f ≡ true
frame_in range part f all one =
    let p = frames_in range part.frame part.arg all in
    let q = and_parts (nat_le part.frame f) (nat_lt f (part.frame + part.arg)) one in
    let low = leb-true part.frame f q.0 in
    let high = ltb-true f (part.frame + part.arg) q.1 in
    let above : range.frame ≤ f = (let first = p.first in omega arith) in
    let below : f < range.frame + range.arg = (let last = p.last in omega arith) in
    ap (λ b. b && nat_lt f (range.frame + range.arg)) (le-leb range.frame f above) ∙ lt-ltb f (range.frame + range.arg) below

-- Its last frame is one that the range has.
pub last_in : (range : Named) (f n : ℕ) → has_frames range f n ≡ true → has_frame range (f + n - 1) ≡ true
last_in range f n h =
    let p = frames_in range f n h in
    let some = p.some in
    let above : range.frame ≤ f + n - 1 = (let first = p.first in omega arith) in
    let below : f + n - 1 < range.frame + range.arg = (let last = p.last in omega arith) in
    ap (λ b. b && nat_lt (f + n - 1) (range.frame + range.arg)) (le-leb range.frame (f + n - 1) above)
    ∙ lt-ltb (f + n - 1) (range.frame + range.arg) below
