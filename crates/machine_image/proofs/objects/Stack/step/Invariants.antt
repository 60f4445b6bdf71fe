use Rattle.std.proofs.Common.{◌≡◌, ◌<◌, ◌≤◌, ◌-◌, length}
use Rattle.{word_map.specs.Places.size_of, machine_image.specs.Views.stack_from}
use Rattle.machine_image.proofs.objects.Stack.step.Given as goal

abbrev pub invariant-heights : goal.invariant-heights
invariant-heights l = record {
  left : stack_from l.self-inside.layout l.self-inside.words.now l.self-inside.frame l.self-inside.at ≡ l.fn.self;
  size : length l.self-inside.words.now ≡ size_of l.self-inside.layout;
  frame_in : l.self-inside.frame < l.self-inside.layout.frames;
  within : l.self-inside.at ≤ 16;
}

abbrev pub decreases-heights : goal.decreases-heights
decreases-heights l = 16 - l.self-inside.at
