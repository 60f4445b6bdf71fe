-- Seats that are taken from the end of all seats of a kernel, and stand as ports in the opposite order; ports that come back.
use Rattle.std.proofs.Common.{◌≡◌, ◌<◌, ◌≤◌, ◌⊎◌, ℕ, zero, suc, ◌+◌, List, [], ◌∷◌, ◌++◌, length, slice_get, Option, Some, None, ◌-◌, refl}
use Rattle.std.proofs.Common.{sym, ap, ◌∙◌, subst, ⊎_elim, inl, inr, arith, append-nil, option_to_list, IfSome, length-append}
use Rattle.core_machine.specs.Seats.{IsDealtAfter, IsLeft, IsBack, HasSeats}
use Rattle.{core_machine.specs.SeatsValue, core_machine.specs.IsDealt, core_kernel.specs.KernelValue, core_kernel.specs.CoreSeatValue}
use Rattle.{spk_nums.specs.Setting.Setting}

-- The first seats of the kernel are still there, and the others stand in the opposite order.
pub record AreTurned (of : KernelValue) (seats ports : List CoreSeatValue) : Type 0 where
  pub count : length seats + length ports ≡ of.setup.cores
  pub kernel : (k : ℕ) (s : CoreSeatValue) → slice_get seats k ≡ Some s → s.kernel ≡ of
  pub core : (k : ℕ) (s : CoreSeatValue) → slice_get seats k ≡ Some s → s.core ≡ k
  pub fresh : (k : ℕ) (s : CoreSeatValue) → slice_get seats k ≡ Some s → s.seen ≡ []
  pub left : (k : ℕ) (s : CoreSeatValue) → slice_get ports k ≡ Some s → IsLeft of k s

module _ {A : Type 0} where
  pushed : (xs : List A) (x y : A) (k : ℕ) → slice_get (xs ++ x ∷ []) k ≡ Some y → (slice_get xs k ≡ Some y) ⊎ ((k ≡ length xs) × (x ≡ y))
  pushed [] x y zero e = inr (refl, cc)
  pushed [] x y (suc k) e = absurd (cc)
  pushed (z ∷ xs) x y zero e = inl e
  pushed (z ∷ xs) x y (suc k) e = ⊎_elim (λ (t : slice_get xs k ≡ Some y). inl t)
      (λ (t : (k ≡ length xs) × (x ≡ y)). let same = t.0 in inr (omega arith, t.1)) (pushed xs x y k e)

  -- an element stays at its place after a push, and the one pushed stands last
  pub stays : (xs : List A) (x y : A) (k : ℕ) → slice_get xs k ≡ Some y → slice_get (xs ++ x ∷ []) k ≡ Some y
  stays [] x y k e = absurd (cc)
  stays (z ∷ xs) x y zero e = e
  stays (z ∷ xs) x y (suc k) e = stays xs x y k e

  pub stands_last : (xs : List A) (x : A) → slice_get (xs ++ x ∷ []) (length xs) ≡ Some x
  stands_last [] x = refl
  stands_last (z ∷ xs) x = stands_last xs x

  -- a fact of each element and its place, after a push
  pub each_pushed : (F : ℕ → A → Type 0) (xs : List A) (x : A) (l : List A) → l ≡ xs ++ x ∷ []
      → ((k : ℕ) (y : A) → slice_get xs k ≡ Some y → F k y) → F (length xs) x → (k : ℕ) (y : A) → slice_get l k ≡ Some y → F k y
  each_pushed F xs x l is before here k y e = ⊎_elim (λ (t : slice_get xs k ≡ Some y). before k y t)
      (λ (t : (k ≡ length xs) × (x ≡ y)). subst (λ (z : ℕ × A). F z.0 z.1) (λ i. (sym (t.0) i, t.1 i)) here)
      (pushed xs x y k (subst (λ (m : List A). slice_get m k ≡ Some y) is e))

  -- the same before it
  pub each_front : (F : ℕ → A → Type 0) (xs : List A) (x : A) (l : List A) → l ≡ xs ++ x ∷ []
      → ((k : ℕ) (y : A) → slice_get l k ≡ Some y → F k y) → (k : ℕ) (y : A) → slice_get xs k ≡ Some y → F k y
  each_front F xs x l is all k y e = all k y (subst (λ (m : List A). slice_get m k ≡ Some y) (sym is) (stays xs x y k e))

  pub the_last : (F : ℕ → A → Type 0) (xs : List A) (x : A) (l : List A) → l ≡ xs ++ x ∷ []
      → ((k : ℕ) (y : A) → slice_get l k ≡ Some y → F k y) → F (length xs) x
  the_last F xs x l is all = all (length xs) x (subst (λ (m : List A). slice_get m (length xs) ≡ Some x) (sym is) (stands_last xs x))

-- one more
pub turned_on : (of : KernelValue) (seats left ports now : List CoreSeatValue) (s : CoreSeatValue) → seats ≡ left ++ s ∷ []
    → now ≡ ports ++ s ∷ [] → AreTurned of seats ports → AreTurned of left now
turned_on of seats left ports now s is on t =
    let size = ap length is ∙ length-append left (s ∷ []) in
    let more = ap length on ∙ length-append ports (s ∷ []) in
    let own = the_last (λ k x. x.kernel ≡ of) left s seats is t.kernel in
    let core = the_last (λ k x. x.core ≡ k) left s seats is t.core in
    let fresh = the_last (λ k x. x.seen ≡ []) left s seats is t.fresh in
    let count = t.count in record {
      count = omega arith;
      kernel = each_front (λ k x. x.kernel ≡ of) left s seats is t.kernel;
      core = each_front (λ k x. x.core ≡ k) left s seats is t.core;
      fresh = each_front (λ k x. x.seen ≡ []) left s seats is t.fresh;
      left = each_pushed (IsLeft of) ports s now on t.left (record { kernel = own; core = omega arith; fresh = fresh });
    }

-- one more that is back
pub back_on : (of : KernelValue) (here back now : List CoreSeatValue) (s : CoreSeatValue) → now ≡ back ++ s ∷ [] → s.kernel ≡ of
    → s.core ≡ length back → HasSeats of here back → HasSeats of here now
back_on of here back now s on own core h = record {
  few = h.few;
  left = h.left;
  back_in_order = each_pushed (IsBack of) back s now on h.back_in_order (record { kernel = own; core = core });
}

-- the ports that are left once the last of them is dealt, if there was one
pub left_after : (of : KernelValue) (here left back : List CoreSeatValue) (o : Option CoreSeatValue) → here ≡ left ++ option_to_list o
    → HasSeats of here back → HasSeats of left back
left_after of here left back (Some s) is h =
    let size = ap length is ∙ length-append left (s ∷ []) in
    let few = h.few in
    record { few = omega arith; left = each_front (IsLeft of) left s here is h.left; back_in_order = h.back_in_order }
left_after of here left back None is h = subst (λ (l : List CoreSeatValue). HasSeats of l back) (is ∙ append-nil left) h

-- the port that is dealt, if there was one
pub dealt_port : (of : KernelValue) (setup : Setting) (here left back : List CoreSeatValue) (o : Option CoreSeatValue) → of.setup ≡ setup
    → here ≡ left ++ option_to_list o → HasSeats of here back
    → IfSome o (λ (p : CoreSeatValue). IsDealt (record { kernel = of; dealt = setup.cores - length here; back = back }) p)
dealt_port of setup here left back (Some s) same is h =
    let size = ap length is ∙ length-append left (s ∷ []) in
    let cores = ap (λ (x : Setting). x.cores) same in
    let last = the_last (IsLeft of) left s here is h.left in
    let core = last.core in
    record { kernel = last.kernel; core = omega arith; fresh = last.fresh }
dealt_port of setup here left back None same is h = tt

module _ {A : Type 0} where
  -- The first of the ports that were not dealt at the start are dealt, of so many that there were.
  pub record AreFirst (of : A → CoreSeatValue) (start now : SeatsValue) (room : ℕ) (ports : List A) : Type 0 where
    pub all : start.dealt + room ≡ start.kernel.setup.cores
    pub kernel : now.kernel ≡ start.kernel
    pub back : now.back ≡ start.back
    pub dealt : now.dealt ≡ start.dealt + length ports
    pub few : length ports ≤ room
    pub each : (k : ℕ) (p : A) → slice_get ports k ≡ Some p → IsDealtAfter k start (of p)

  -- none yet
  pub none_yet : (of : A → CoreSeatValue) (start : SeatsValue) (room left : ℕ) (ports : List A) → ports ≡ [] → room ≡ left
      → start.dealt + left ≡ start.kernel.setup.cores → AreFirst of start start room ports
  none_yet of start room left ports is size all = record {
    all = omega arith;
    kernel = refl;
    back = refl;
    dealt = let len = ap length is in omega arith;
    few = let len = ap length is in omega arith;
    each = λ k p e. absurd (none_there k p (subst (λ l. slice_get l k ≡ Some p) is e));
  } where
    none_there : (k : ℕ) (p : A) → slice_get [] k ≡ Some p → ⊥
    none_there k p e = cc

  -- one more
  pub one_more : (of : A → CoreSeatValue) (start now next : SeatsValue) (room : ℕ) (ports more : List A) (p : A) → more ≡ ports ++ p ∷ []
      → next.kernel ≡ now.kernel → next.back ≡ now.back → next.dealt ≡ now.dealt + 1 → now.dealt < now.kernel.setup.cores
      → IsDealt now (of p) → AreFirst of start now room ports → AreFirst of start next room more
  one_more of start now next room ports more p is same back on inside dealt a =
      let size = ap length is ∙ length-append ports (p ∷ []) in
      let cores = ap (λ k. k.setup.cores) a.kernel in
      let all = a.all in let kernel = a.kernel in let before = a.dealt in let core = dealt.core in record {
        all = all;
        kernel = same ∙ kernel;
        back = back ∙ a.back;
        dealt = omega arith;
        few = omega arith;
        each = each_pushed (λ k q. IsDealtAfter k start (of q)) ports p more is a.each
            (record { kernel = dealt.kernel ∙ kernel; core = core ∙ before; fresh = dealt.fresh });
      }

  -- there is room for one more
  pub room_left : (of : A → CoreSeatValue) (start now : SeatsValue) (room : ℕ) (ports : List A) → now.dealt < now.kernel.setup.cores
      → AreFirst of start now room ports → length ports < room
  room_left of start now room ports inside a =
      let all = a.all in let cores = ap (λ k. k.setup.cores) a.kernel in let dealt = a.dealt in omega arith

  pub fewer_left : (room now : ℕ) (ports more : List A) (p : A) → more ≡ ports ++ p ∷ [] → now ≡ room → length ports < room
      → now - length more < room - length ports
  fewer_left room now ports more p is same inside = let size = ap length is ∙ length-append ports (p ∷ []) in omega arith

  -- all of them
  pub all_dealt : (of : A → CoreSeatValue) (start now next : SeatsValue) (room : ℕ) (ports : List A) → ¬ now.dealt < now.kernel.setup.cores
      → next.dealt ≡ now.dealt → AreFirst of start now room ports
      → (start.dealt + length ports ≡ start.kernel.setup.cores) × (next.dealt ≡ start.kernel.setup.cores)
  all_dealt of start now next room ports none same a =
      let all = a.all in let cores = ap (λ k. k.setup.cores) a.kernel in let dealt = a.dealt in let few = a.few in (omega arith, omega arith)
