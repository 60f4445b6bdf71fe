use Rattle.std.proofs.Common.{◌≡◌, ◌<◌, ◌≤◌, ◌-◌, length}
use Rattle.{word_map.specs.Places.size_of, machine_image.specs.Views.pairs_from}
use Rattle.machine_image.proofs.objects.Qualities.step.Given as goal

abbrev pub invariant-places : goal.invariant-places
invariant-places l = record {
  left : pairs_from l.self-inside.layout l.self-inside.words.now l.self-inside.frame l.self-inside.at ≡ l.fn.self;
  size : length l.self-inside.words.now ≡ size_of l.self-inside.layout;
  frame_in : l.self-inside.frame < l.self-inside.layout.frames;
  within : l.self-inside.at ≤ 8;
}

abbrev pub decreases-places : goal.decreases-places
decreases-places l = 8 - l.self-inside.at
