-- Rights only fall along a chain of copies.
use Rattle.kernel_invariant.specs.kernel_rules.proofs.{◌≡◌, ℕ, true, refl, sym, ◌∙◌, ap, subst, IsTrue, eqb-true, eq-eqb, Capability, both}
use Rattle.kernel_invariant.specs.kernel_rules.proofs.{right_to_use, has_rights, Kind, any, only, to_copy, to_part, to_use, found}
use Rattle.std.specs.Int.Bits.{bit_and, and_self}
use Rattle.kernel_invariant.specs.spk_nums.specs.Rights.{right_to_copy, kept_rights}
use Rattle.origin_rules.specs.declared.chains.Step.TheVariants.{Copied, Made, Gated, Parted}
use Rattle.{kernel_invariant.specs.kernel_rules.proofs.has_frames, std.proofs.lemmas.Nat.and_assoc, kernel_invariant.proofs.Sound.only_is}
use Rattle.{origin_rules.specs.Derived.RightsOnlyFall, origin_rules.proofs.Placed.named_at}
use Rattle.kernel_invariant.specs.spk_nums.specs.declared.kinds.Kind.TheVariants as kind
use Rattle.kernel_invariant.specs.spk_nums.specs.declared.calls.Call.TheVariants as call

-- What has rights after some are withheld had them before.
fewer : (own these needs : ℕ) → bit_and (bit_and own these) needs ≡ needs → bit_and own needs ≡ needs
fewer own these needs e =
    let whole : bit_and own (bit_and these needs) ≡ needs = sym (and_assoc needs own these) ∙ e in
    ap (bit_and own) (sym whole) ∙ sym (and_assoc (bit_and these needs) own own) ∙ ap (λ x. bit_and x (bit_and these needs)) (and_self own)
    ∙ whole

kept_fewer : (k : Kind) (own these needs : ℕ) → IsTrue (has_rights (kept_rights k own these) needs) → IsTrue (has_rights own needs)
kept_fewer kind.Link own these needs h = h
kept_fewer kind.Page own these needs h = h
kept_fewer _ own these needs h = eq-eqb (bit_and own needs) needs (fewer own these needs (eqb-true (bit_and (bit_and own these) needs) needs h))

-- What has both rights has each.
part_right : (own needs : ℕ) → bit_and both needs ≡ needs → IsTrue (has_rights own both) → IsTrue (has_rights own needs)
part_right own needs is h =
    eq-eqb (bit_and own needs) needs (fewer own both needs (ap (λ x. bit_and x needs) (eqb-true (bit_and own both) both h) ∙ is))

pub rights_only_fall : RightsOnlyFall
rights_only_fall s c (call.Copy a t b rights) Copied parent k g =
    let x = named_at s c a (to_copy any) parent g.names in
    record {
      kind = ap (λ (j : Capability). j.kind) g.is;
      frame = ap (λ (j : Capability). j.frame) g.is;
      arg = ap (λ (j : Capability). j.arg) g.is;
      rights = λ needs h. kept_fewer parent.kind parent.rights rights.0 needs
          (subst (λ (j : Capability). IsTrue (has_rights j.rights needs)) g.is h);
      may_copy = x.rights;
    }
rights_only_fall s c (call.Make what r f t b) Made parent k g =
    let x = named_at s c r (to_use (only kind.Range)) parent g.names in
    record { kind = only_is kind.Range parent.kind x.kind; may_use = x.rights }
rights_only_fall s c (call.Gate comp t b) Gated parent k g =
    let x = named_at s c comp (to_use (only kind.Comp)) parent g.names in
    record {
      kind = only_is kind.Comp parent.kind x.kind;
      may_use = x.rights;
      frame = ap (λ (j : Capability). j.frame) g.is;
    }
rights_only_fall s c (call.Part r f n t b) Parted parent k g =
    let x = named_at s c r (to_part (only kind.Range)) parent g.names in
    record {
      parent_kind = only_is kind.Range parent.kind x.kind;
      kind = ap (λ (j : Capability). j.kind) g.is;
      frames = subst (λ (j : Capability). has_frames (found parent) j.frame j.arg ≡ true) (sym g.is) g.frames;
      rights = ap (λ (j : Capability). j.rights) g.is;
      may_copy = part_right parent.rights right_to_copy refl x.rights;
      may_use = part_right parent.rights right_to_use refl x.rights;
    }
rights_only_fall s c call what parent k g = absurd g
