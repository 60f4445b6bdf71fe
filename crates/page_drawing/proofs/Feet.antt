-- No more calls stand below a page than cores are finished.
use Rattle.page_touches.specs.step_views.specs.kernel_history.proofs.{◌≡◌, ◌≤◌, ℕ, ◌+◌, Option, Some, None, refl, arith, Call, Reply}
use Rattle.page_touches.specs.page_layers.specs.Layers.{Layers, with_core, with_progress, with_open, with_ground}
use Rattle.page_touches.specs.page_layers.specs.declared.lanes.Lane.{Lane}

feet_in_progress : (cores core : ℕ) (l : Lane) (call : Option Call) (reply : Option Reply) (y : ℕ) (p : Layers)
    → (with_progress cores core l call reply y p).feet ≤ p.feet + 1
feet_in_progress cores core l None reply y p = omega arith
feet_in_progress cores core l (Some c) None y p = omega arith
feet_in_progress cores core l (Some c) (Some r) y p = omega arith

feet_open : (core : ℕ) (l : Lane) (call : Option Call) (first y : ℕ) (p : Layers) → (with_open core l call first y p).feet ≡ p.feet
feet_open core l None first y p = refl
feet_open core l (Some c) first y p = refl

pub feet_of_core : (cores core : ℕ) (l : Lane) (first y : ℕ) (p : Layers) → (with_core cores core l first y p).feet ≤ p.feet + 1
feet_of_core cores core l first y p =
    omega (
      arith,
      feet_in_progress cores core l l.call l.reply y (with_open core l l.call first y (with_ground core y p)),
      feet_open core l l.call first y (with_ground core y p),
    )
