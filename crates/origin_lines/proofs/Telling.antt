-- The lines of what is known are those of the definitions.
use Rattle.confinement.specs.seq_state.proofs.{◌≡◌, ℕ, ◌++◌, List, ◌∙◌, ap, Limits, limits_stay, state_of}
use Rattle.origin_lines.specs.Lines.{chain_line, node_lines, lines_known, TellsOrigins}
use Rattle.{table_lines.proofs.Lines.lines_same, confinement.specs.origin_rules.specs.Chains.chain_of, confinement.specs.Known.Known}
use Rattle.{confinement.specs.Known.chain_known, confinement.proofs.Standing.known_chain}

pub tells : (o : Known) (old new : List ℕ) → new ≡ old ++ lines_known (chain_known o) (state_of o.kernel).limits.frames
    → TellsOrigins o old new
tells o old new is setting lim events run stands =
    is
    ∙ ap (λ (l : Limits). old ++ lines_known (chain_known o) l.frames) (stands.kernel.limits ∙ limits_stay setting events)
    ∙ ap (λ lines. old ++ lines) (lines_same (node_lines (chain_known o)) (node_lines (chain_of setting events)) setting.frames
    (λ f below. lines_same (λ i. chain_line f i (chain_known o f i)) (λ i. chain_line f i (chain_of setting events f i)) 64
    (λ i small. ap (chain_line f i) (known_chain o f i setting lim events run stands))))
