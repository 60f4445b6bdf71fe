use Rattle.std.proofs.Common.{◌≡◌, ◌∙◌, [], ◌∷◌, ap, sym, subst}
use Rattle.core_kernel.specs.{seat_value, IsSeat, GoesOn, MakesCall}
use Rattle.core_kernel.proofs.{Seats.has_seen, Seats.still_seat, Seats.makes_call}
use Rattle.core_kernel.proofs.kernel.Kernel.call.Goals as goal

pub go-requires-clause-seat : goal.go-requires-clause-seat
go-requires-clause-seat c =
    let same = ap (λ s. s.kernel.setup) c.seat.view_is ∙ ap (λ k. k.setup) c.requires.kernel in
    subst (λ s. IsSeat s c.seat.inside.seat) same c.seat.invariant

pub returns-clause-makes : goal.returns-clause-makes
returns-clause-makes c =
    let v = c.seat.inside.setup in
    let old = c.seat.inside.seat in
    let new = c.go.new.seat in
    let call = c.args.call in
    let same : v ≡ c.args.self.now.setup = ap (λ s. s.kernel.setup) c.seat.view_is ∙ ap (λ k. k.setup) c.requires.kernel in
    let all = subst (λ s. GoesOn s old (call ∷ []) new) (sym same) c.go.ensures.goes in
    subst (λ s. MakesCall s call c.in-Some.reply (seat_value v new)) c.seat.view_is
    (makes_call v old new call c.in-Some.reply c.seat.invariant all c.go.ensures.between (ap (λ p. p.last) (sym c.program.ensures.program)
    ∙ c.in-Some.is))

pub returns-clause-seen : goal.returns-clause-seen
returns-clause-seen c =
    let v = c.seat.inside.setup in
    let old = c.seat.inside.seat in
    let new = c.go.new.seat in
    let call = c.args.call in
    let same : v ≡ c.args.self.now.setup = ap (λ s. s.kernel.setup) c.seat.view_is ∙ ap (λ k. k.setup) c.requires.kernel in
    let all = subst (λ s. GoesOn s old (call ∷ []) new) (sym same) c.go.ensures.goes in
    has_seen v new (still_seat v old new (call ∷ []) c.seat.invariant all c.go.ensures.between)
