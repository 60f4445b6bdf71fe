-- A page that is not full has room for a step, and for the call that begins with it.
use Rattle.std.proofs.Common.{◌≡◌, ◌+◌, ◌<◌, ◌≤◌, cond, Bool, true, false, ℕ, List, refl, arith, ◌||◌, ◌&&◌, nat_le, leb-false}
use Rattle.picture_rows.specs.{is_full, no_rows, declared.rows.Placed.Placed, declared.rows.Rows.Rows, Rows.calls_after}

left : (a b : Bool) → (a || b) ≡ false → a ≡ false
left true b e = e
left false b e = refl

right : (a b : Bool) → (a || b) ≡ false → b ≡ false
right true b e = absurd (cc)
right false b e = e

pub steps_room : (p : Rows) (enters : Bool) → is_full p enters ≡ false → p.count < 2000
steps_room p enters room = leb-false 2000 p.count (left (nat_le 2000 p.count) _ room)

-- A step more leaves at most 60 calls on the page.
calls_left : (enters : Bool) (n : ℕ) → n ≤ 60 → (enters && nat_le 60 n) ≡ false → cond enters (n + 1) n ≤ 60
calls_left true n few room = let h = leb-false 60 n room in omega arith
calls_left false n few room = few

pub calls_most : (p : Rows) (s : Placed) → p.calls ≤ 60 → is_full p s.enters ≡ false → calls_after p s ≤ 60
calls_most p s few room = calls_left s.enters p.calls few (right (nat_le 2000 p.count) _ room)

-- A page without steps has room for the first.
pub none_room : (due : List ℕ) (enters : Bool) → is_full (no_rows due) enters ≡ false
none_room due true = refl
none_room due false = refl
