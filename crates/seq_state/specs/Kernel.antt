-- The kernel's fields as its maps.
use Rattle.seq_state.specs.{declared.kernel.SeqKernel.TheInside.Inside, Maps.Maps, Maps.IsWhole}

-- The maps, the times and the limits.
abbrev pub maps_of : Inside → Maps
maps_of k = record {
  places = k.places.items;
  frames = k.frames.items;
  numbers = k.numbers.items;
  cores = k.cores.items;
  place_graces = k.place_graces.items;
  frame_graces = k.frame_graces.items;
  number_graces = k.number_graces.items;
  times = k.times;
  clock = k.clock;
  counts = k.counts.items;
  limits = record { cores = k.core_count; frames = k.frame_count; calls = k.calls; epochs = k.epochs };
}

-- Each key stands, no time lies ahead, and the references are counted.
abbrev pub IsKernel : Inside → Type 0
IsKernel k = IsWhole (maps_of k)
