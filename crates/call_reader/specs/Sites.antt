-- Where a `make` puts its object.
use Rattle.spk_nums.specs.{declared.calls.Call.Call, declared.calls.Make.Make}
use Rattle.call_reader.specs.{declared.call_lines.Site.Site}

-- the call that makes this there
abbrev pub made : Site → Make → Call
made site what = Call.Make what site.range site.frame site.table site.slot
