-- Machines that can be closed.
use Rattle.std.specs.Prelude.{◌≡◌, ◌<◌, ℕ, None}
use Rattle.lone_kernel.specs.Machine.{Machine, core_at}

-- No core of the machine is in a call.
abbrev pub AreOut : Machine → Type 0
AreOut m = (c : ℕ) → c < m.setup.cores → (core_at m c).active ≡ None
