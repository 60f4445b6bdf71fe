-- What the words make of a core whose call scans before its act.
use Rattle.std.proofs.Common.{◌≡◌, ℕ, ◌+◌, true, List, refl}
use Rattle.spk_nums.specs.Capability.{Capability}
use Rattle.spk_nums.specs.declared.calls.Call.{Call}
use Rattle.spk_nums.specs.declared.steps.StageEnd.TheVariants.{Done, Going}
use Rattle.straight_looks.specs.step_starts.specs as low
use low.act_states.specs.Acts.{next_work, phases_of}
use low.act_states.specs.declared.own.Own.{Own}
use low.act_states.specs.declared.work.Act.{Act}
use low.stage_quiet.specs.Scan.{QuietFits, quiet_after, quiet_end}
use low.stage_quiet.specs.declared.quiet.Quiet.{Quiet}
use low.call_stages.specs.View.{Core}
use low.call_stages.specs.Cores.{absorbed}
use low.call_stages.specs.Fits.{IsCore}
use low.call_stages.specs.declared.stages.Stage.TheVariants.{Undecided}
use Rattle.straight_looks.proofs.Fitting.{fits_as}
use Rattle.straight_looks.specs.Standing.{stands}
use Rattle.straight_maps.specs.Mapping.{scanning}

-- the core that is scanned is one of the machine
pub quiet_fits : (own : Own) (call : Call) (steps : ℕ) (q : Quiet) (act : Act) (ks : List Capability) (c : Core)
    → c ≡ scanning own call steps q act ks → IsCore c → QuietFits own.layout q
quiet_fits own call steps q act ks c is fits = (fits_as c (scanning own call steps q act ks) is fits).active.stage.0

-- the scan goes on
pub scan_goes : (own : Own) (call : Call) (w steps : ℕ) (q next : Quiet) (act : Act) (ks : List Capability) (b c : Core)
    → b ≡ scanning own call steps q act ks → c ≡ absorbed b w → Going ≡ quiet_end own.layout.cores q w
    → next ≡ quiet_after own.layout.cores q w
    → c ≡ scanning own call (steps + 1) next act ks
scan_goes own call w steps q next act ks b c at goes is after = rw (goes, at, after, ← is) refl

-- no core is waited for: the act starts
pub scan_ends : (own : Own) (call : Call) (w steps : ℕ) (q : Quiet) (act : Act) (ks : List Capability) (b c : Core)
    → b ≡ scanning own call steps q act ks → c ≡ absorbed b w → Done tt ≡ quiet_end own.layout.cores q w → (phases_of act).within ≡ true
    → c ≡ stands own call (steps + 1) (Undecided (next_work own.core 0 act)) ks
scan_ends own call w steps q act ks b c at goes is within = rw (goes, at, ← is, within) refl
