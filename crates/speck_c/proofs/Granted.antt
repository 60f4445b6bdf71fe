-- What C grants, one core after another.
use Rattle.end_ports.specs.core_machine.specs.core_kernel.specs.kernel_rules.proofs.{◌≡◌, ℕ, ◌+◌, ◌<◌, ◌≤◌, List, [], ◌∷◌, ◌++◌, Bool, true}
use Rattle.end_ports.specs.core_machine.specs.core_kernel.specs.kernel_rules.proofs.{false, length, map, take, get_or, sym, ap, ◌∙◌, arith}
use Rattle.end_ports.specs.core_machine.specs.core_kernel.specs.kernel_rules.proofs.{length-map, length-take-le, Grant}
use Rattle.speck_c.specs.{declared.boots.SpeckGrant.SpeckGrant, Grants.granted}
use Rattle.{std.specs.Prelude.MatchBool, std.proofs.lemmas.List.map_more}

-- one more grant, for which there is room
pub granted_more : (given : List SpeckGrant) (i : ℕ) (d : SpeckGrant) (item : Grant) (grants now : List Grant) (added : Bool) → i < length given
    → length given ≤ 8 → item ≡ granted (get_or given i d) → grants ≡ map granted (take i given)
    → MatchBool added ((length grants < 8) × (now ≡ grants ++ item ∷ [])) ((length grants ≡ 8) × (now ≡ grants))
    → now ≡ map granted (take (i + 1) given)
granted_more given i d item grants now true lt few told have h =
    h.1 ∙ ap (λ (x : Grant). grants ++ x ∷ []) told ∙ ap (λ (l : List Grant). l ++ granted (get_or given i d) ∷ []) have
    ∙ sym (map_more granted given i d lt)
granted_more given i d item grants now false lt few told have h =
    let size : length grants ≡ length (take i given) = ap length have ∙ length-map (take i given) granted in
    let below : i ≤ length given = omega arith in
    let least = length-take-le i given below in
    let full = h.0 in
    absurd (omega arith)
