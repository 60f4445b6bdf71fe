use Rattle.std.proofs.Common.{◌≡◌, ◌<◌, ◌≤◌, ℕ, length, slice_get, option_map}
use Rattle.world_parts.specs.Partitions.{moved}
use Rattle.world_parts.proofs.parts.move_all.Given as goal

abbrev pub invariant-frames : goal.invariant-frames
invariant-frames l = record {
  done : (f : ℕ) → f < l.frame → slice_get l.least f ≡ option_map (moved l.from l.to) (slice_get l.initial.least f);
  left : (f : ℕ) → l.frame ≤ f → slice_get l.least f ≡ slice_get l.initial.least f;
  size : length l.least ≡ 512;
}
