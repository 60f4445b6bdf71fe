-- A component that is made of what was looked up.
use Rattle.seq_lookups.specs.seq_state.proofs.{◌≡◌, ℕ, ◌+◌, Some, refl, subst, Capability, Make as make_call, Nothing, Comp, Live, State}
use Rattle.seq_lookups.specs.seq_state.proofs.{Slot, epoch_of}
use Rattle.{seq_lookups.specs.seq_state.proofs.rule_of, seq_lookups.specs.seq_state.proofs.Represents}
use Rattle.{seq_lookups.specs.seq_state.proofs.Kind, seq_lookups.specs.seq_state.specs.kernel_rules.specs.CompFields}
use Rattle.{seq_lookups.specs.seq_state.specs.kernel_rules.specs.with_number, seq_lookups.specs.seq_state.specs.kernel_rules.specs.Make}
use Rattle.{seq_plans.specs.left_of}
use Rattle.{seq_plans.specs.change_in, seq_lookups.specs.spk_nums.specs.declared.replies.Reply.TheVariants.Ok as ok}
use Rattle.{seq_lookups.specs.seq_state.specs.Maps.Maps}
use Rattle.{seq_lookups.specs.Carried.IsCarriedOut, seq_plans.specs.declared.walking.Looked.Looked, seq_caps.specs.Holding.holding}

pub comp_made_of : (s : State) (core r f t b x p live : ℕ) (l : Looked) (table pages : Capability) (at : Slot) (k : Maps)
    (g h e : ℕ) → l.third ≡ Some table → l.fourth ≡ Some pages → l.at ≡ Some at
    → g ≡ table.frame → h ≡ pages.frame → e ≡ epoch_of (s.number live) + 1
    → Represents k (holding (with_number s live (Live e f)) f (Comp (record { table = g; pages = h; number = live; epoch = e })) Kind.Comp
    at)
    → IsCarriedOut s (change_in s core (left_of (rule_of s core (make_call (Make.Comp x p live) r f t b)) l)) (ok Nothing) k
comp_made_of s core r f t b x p live l table pages at k g h e third fourth is_at is_table is_pages is_epoch made =
    let comp : CompFields =
    record { table = table.frame; pages = pages.frame; number = live; epoch = epoch_of (s.number live) + 1 } in
    let put : Represents k (holding (with_number s live (Live comp.epoch f)) f (Comp comp) Kind.Comp at) =
    subst (λ (x : CompFields). Represents k (holding (with_number s live (Live x.epoch f)) f (Comp x) Kind.Comp at))
    (λ i. record { table = is_table i; pages = is_pages i; number = live; epoch = is_epoch i }) made in
    rw (third, fourth, is_at) (record { reply = refl; state = put })
