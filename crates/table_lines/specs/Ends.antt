-- A core as its end shows it.
use Rattle.kernel_history.specs.{false, CoreEnd, Core}

-- What the end of a core shows.
abbrev pub core_shown : CoreEnd → Core
core_shown e = record {
  inside = false;
  thread = e.thread;
  tcap = e.tcap;
  cached = e.cached;
  spent = e.spent;
  back = e.back;
  owed = e.owed;
  counted = 0;
  grant = (0, 0);
}
