-- The references to each frame, as the lists have them.
use Rattle.std.specs.Prelude.{◌≡◌, ◌<◌, ◌+◌, ◌*◌}
use Rattle.kernel_invariant.specs.kernel_rules.specs.{ℕ, List, length, place_names, frame_names, number_names}
use Rattle.kernel_invariant.specs.kernel_rules.specs.{core_names, sum_below, times}
use Rattle.seq_state.specs.{declared.parts.Place.Place, declared.parts.Frame.Frame, declared.parts.Liveness.Liveness}
use Rattle.seq_state.specs.{declared.parts.Core.Core, Maps.at, Maps.count_at, Maps.place_or_free, Maps.frame_or_untyped}
use Rattle.seq_state.specs.{Maps.number_or_unused, Maps.core_or_none}

-- The references of what is at the keys: places, then frames, cores and liveness numbers.
abbrev pub counted_at : ℕ → ℕ → List Place → List Frame → List Liveness → List Core → ℕ → ℕ
counted_at frames cores ps fs ns cs f =
    sum_below (λ k. times f (place_names (place_or_free (at ps k)))) (64 * frames)
    + sum_below (λ g. times f (frame_names (frame_or_untyped (at fs g)))) frames
    + sum_below (λ c. times f (core_names (core_or_none (at cs c)))) cores
    + sum_below (λ l. times f (number_names (number_or_unused (at ns l)))) 64

-- The count of each frame is that of its references.
pub record IsCounted (frames cores : ℕ) (ps : List Place) (fs : List Frame) (ns : List Liveness) (cs : List Core)
    (found : List ℕ) : Type 0 where
  pub all : length found ≡ 512
  pub counts : (f : ℕ) → f < 512 → count_at found f ≡ counted_at frames cores ps fs ns cs f
