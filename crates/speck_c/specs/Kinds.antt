-- The kinds of frame by number.
use Rattle.end_ports.specs.core_machine.specs.core_kernel.specs.flight_laws.specs.core_invariant.specs.stage_tcap.specs as low
use Rattle.std.specs.Prelude.{◌==◌, if◌then◌else◌}
use low.{ℕ, Option, Some, None, MatchOption, Retype, FrameKind, Untyped, User, Kernel}
use Rattle.speck_c.specs.{declared.held.Held.Held, declared.reply.SpeckReply.SpeckReply, Slots.IsCalled, Slots.IsOutside}

-- the kind of this number
abbrev pub frame_kinds : ℕ → Option FrameKind
frame_kinds k = if k == 0 then Some Untyped else (if k == 1 then Some User else (if k == 2 then Some Kernel else None))

-- A retype to a kind, where there is one.
abbrev pub IsKindCalled : Option Held → ℕ → ℕ → Option FrameKind → SpeckReply → Option Held → Type 0
IsKindCalled held r f k answer now = MatchOption k (IsOutside held answer now) (λ kind. IsCalled held (Retype r f kind) answer now)
