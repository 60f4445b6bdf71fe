-- What C grants each core.
use Rattle.end_ports.specs.core_machine.specs.core_kernel.specs.kernel_history.specs.{ℕ, List, length, map, Grant, Setting}
use Rattle.speck_c.specs.declared.boots.SpeckGrant.{SpeckGrant}

abbrev pub granted : SpeckGrant → Grant
granted g = record { budget = g.budget; sched = g.sched; quality = g.quality }

-- the setup of as many cores as there are grants
abbrev pub setting_of : ℕ → ℕ → ℕ → List SpeckGrant → Setting
setting_of frames calls epochs grants =
    record { cores = length grants; frames = frames; grants = map granted grants; calls = calls; epochs = epochs }
