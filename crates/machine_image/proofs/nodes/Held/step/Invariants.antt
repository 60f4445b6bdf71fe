use Rattle.std.proofs.Common.{◌≡◌, ◌<◌, ◌≤◌, ◌-◌, length}
use Rattle.{word_map.specs.Places.size_of, machine_image.specs.Views.held_from}
use Rattle.machine_image.proofs.nodes.Held.step.Given as goal

abbrev pub invariant-numbers : goal.invariant-numbers
invariant-numbers l = record {
  left : held_from l.self-inside.layout l.self-inside.words.now l.self-inside.root l.self-inside.at ≡ l.fn.self;
  size : length l.self-inside.words.now ≡ size_of l.self-inside.layout;
  frame_in : l.self-inside.root < l.self-inside.layout.frames;
  within : l.self-inside.at ≤ 4096;
}

abbrev pub decreases-numbers : goal.decreases-numbers
decreases-numbers l = 4096 - l.self-inside.at
