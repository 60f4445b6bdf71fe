-- The scans of the other cores' words and of flush words.
use Rattle.std.specs.Prelude.{◌+◌, ◌-◌, ◌<◌, ◌≤◌, ◌≡◌, if◌then◌else◌}
use Rattle.stage_tcap.specs.{ℕ, false, ltb as nat_lt, Shape}
use Rattle.stage_sweep.specs.stage_quiet.specs.declared.quiet.Quiet.{Quiet}
use Rattle.stage_sweep.specs.stage_quiet.specs.declared.quiet.Quiet.TheVariants.{AtCore, AtFlush}

-- a scan is of the other cores' words, from the first on, and for a place of a page table then of all flush words
abbrev pub ScanFits : Shape → Quiet → Type 0
ScanFits s (AtCore stamp core at page) = (core < s.cores) × (1 ≤ stamp)
ScanFits s (AtFlush stamp at) = 1 ≤ stamp

-- a scan of the other cores' words alone
abbrev pub IsUnpaged : Quiet → Type 0
IsUnpaged (AtCore stamp core at page) = page ≡ false
IsUnpaged (AtFlush stamp at) = ⊥

-- the loads of a scan that are still to come: of the other cores' words, from this on, and of flush words
abbrev pub left_of_cores : ℕ → ℕ → ℕ → ℕ
left_of_cores cores core at = if nat_lt at core then cores - at - 1 else cores - at

abbrev pub left_of_scan : ℕ → Quiet → ℕ
left_of_scan cores (AtCore stamp core at page) = left_of_cores cores core at + (if page then cores else 0)
left_of_scan cores (AtFlush stamp at) = cores - at
