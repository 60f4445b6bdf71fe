use Rattle.std.proofs.Common.{◌≡◌, ◌<◌, ◌≤◌, ◌-◌, length}
use Rattle.{word_map.specs.Places.size_of, machine_image.specs.Views.counts_from}
use Rattle.machine_image.proofs.image.Counts.step.Given as goal

abbrev pub invariant-cores : goal.invariant-cores
invariant-cores l = record {
  left : counts_from l.self-inside.layout l.self-inside.words.now l.self-inside.frame l.self-inside.at ≡ l.fn.self;
  size : length l.self-inside.words.now ≡ size_of l.self-inside.layout;
  frame_in : l.self-inside.frame < l.self-inside.layout.frames;
  within : l.self-inside.at ≤ l.self-inside.layout.cores;
}

abbrev pub decreases-cores : goal.decreases-cores
decreases-cores l = l.self-inside.layout.cores - l.self-inside.at
