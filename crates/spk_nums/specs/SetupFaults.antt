-- Why parts are no setup.
use Rattle.std.specs.Prelude.{◌≡◌, ◌≢◌, ℕ, ◌+◌, ◌-◌, ◌*◌, ◌^◌, ◌<◌, ◌≤◌, ◌⊎◌, List, codes, length, replicate, All, Result, Ok, Err}
use Rattle.spk_nums.specs.declared.grants.Grant.{Grant}
use Rattle.spk_nums.specs.Setting.{Setting, IsSetting, GrantFits}
use Rattle.spk_nums.specs.declared.setup_fault.SetupFault.{SetupFault}
use Rattle.spk_nums.specs.declared.setup_fault.SetupFault.TheVariants as fault

-- the word of a fault
abbrev pub fault_text : SetupFault → List ℕ
fault_text fault.Cores = codes "not 1 to 8 cores"
fault_text fault.Frames = codes "not 4 + 2 * cores to 512 frames"
fault_text fault.GrantCount = codes "not one grant for each core"
fault_text fault.Grant = codes "a grant out of range"
fault_text fault.Calls = codes "more than 1099511627775 calls of a core"
fault_text fault.Epochs = codes "no epoch of a liveness number"

-- there are 1 to 8 cores
abbrev pub CoresFit : Setting → Type 0
CoresFit s = (1 ≤ s.cores) × (s.cores ≤ 8)

-- and the frames fit them
abbrev pub FramesFit : Setting → Type 0
FramesFit s = CoresFit s × (4 + 2 * s.cores ≤ s.frames) × (s.frames ≤ 512)

-- and there is a grant for each of them
abbrev pub GrantsFit : Setting → Type 0
GrantsFit s = FramesFit s × (length s.grants ≡ s.cores)

-- a part is outside its limits, and those before it are within theirs
abbrev pub FaultOf : Setting → SetupFault → Type 0
FaultOf s fault.Cores = (s.cores < 1) ⊎ (8 < s.cores)
FaultOf s fault.Frames = CoresFit s × ((s.frames < 4 + 2 * s.cores) ⊎ (512 < s.frames))
FaultOf s fault.GrantCount = FramesFit s × (length s.grants ≢ s.cores)
FaultOf s fault.Grant = GrantsFit s × (All GrantFits s.grants → ⊥)
FaultOf s fault.Calls = GrantsFit s × All GrantFits s.grants × (2 ^ 40 - 1 < s.calls)
FaultOf s fault.Epochs = GrantsFit s × All GrantFits s.grants × (s.calls ≤ 2 ^ 40 - 1) × (s.epochs < 1)

-- the answer is the setup, where it is within the limits, else its first fault
abbrev pub TellsSetup : Setting → Result Setting SetupFault → Type 0
TellsSetup s (Ok made) = IsSetting s × (made ≡ s)
TellsSetup s (Err f) = FaultOf s f

-- what each core is granted where all are granted the same
abbrev pub equal_grant : ℕ → Grant
equal_grant budget = record { budget = budget; sched = 0; quality = 1 }

-- the setup of cores that are granted the same, with the most calls and epochs
abbrev pub equal_setting : ℕ → ℕ → ℕ → Setting
equal_setting cores frames budget =
    record { cores = cores; frames = frames; grants = replicate cores (equal_grant budget); calls = 2 ^ 40 - 1; epochs = 65535 }
