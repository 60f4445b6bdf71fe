use Rattle.std.specs.Prelude.{◌≡◌, ℕ, ◌+◌, ◌-◌, ◌*◌, ◌<◌, ◌≤◌, ◌^◌, List, length, All}
use Rattle.spk_nums.specs.declared.grants.Grant.{Grant}

-- a setup as contracts see it: cores, frames, core by core what it is granted, and the limits on calls and epochs
pub record Setting : Type 0 where
  pub cores : ℕ
  pub frames : ℕ
  pub grants : List Grant
  pub calls : ℕ
  pub epochs : ℕ

-- a grant is in range
abbrev pub GrantFits : Grant → Type 0
GrantFits g = (g.budget ≤ 500000000) × (g.sched < 64) × (1 ≤ g.quality) × (g.quality < 2 ^ 24)

-- a setup is within the limits of the machine
pub record IsSetting (s : Setting) : Type 0 where
  pub some_core : 1 ≤ s.cores
  pub most_cores : s.cores ≤ 8
  pub least_frames : 4 + 2 * s.cores ≤ s.frames
  pub most_frames : s.frames ≤ 512
  pub granted : length s.grants ≡ s.cores
  pub grants_fit : All GrantFits s.grants
  pub most_calls : s.calls ≤ 2 ^ 40 - 1
  pub some_epoch : 1 ≤ s.epochs
  pub most_epochs : s.epochs < 2 ^ 16
