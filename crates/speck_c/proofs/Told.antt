-- What is told of what the endpoints replied.
use Rattle.std.proofs.Common.{◌≡◌, ℕ, Option, Some, None, sym, ap, ◌∙◌, subst, MatchOption}
use Rattle.end_ports.specs.async_ends.specs.{declared.endpoint.EndOp.EndOp, declared.endpoint.EndReply.EndReply}
use Rattle.end_ports.specs.Ports.{EndPortValue}
use Rattle.speck_c.specs.{declared.held.Held.Held, declared.reply.SpeckReply.SpeckReply, Asks.HasReplied, Asks.IsAsked, Asks.IsTold}
use Rattle.speck_c.specs.{Asks.flat_end, Flat.blank, Slots.port_of}

abbrev reply_in : EndReply → Option EndReply → EndReply
reply_in d None = d
reply_in d (Some r) = r

told_by : (op : EndOp) (number : ℕ) (port now : Option EndPortValue) (held new : Held) (before after : Option Held) (reply : EndReply)
    (answer : SpeckReply)
    → MatchOption port ((◌≡◌ {A = Option EndReply} (Some reply) None) × (new ≡ held)) (λ p. HasReplied op number p (Some reply) now)
    → answer ≡ flat_end reply
    → MatchOption port ((answer ≡ blank 254) × (after ≡ before)) (λ p. IsTold op number p answer now)
told_by op number None now held new before after reply answer h told = absurd (cc)
told_by op number (Some p) now held new before after reply answer h told =
    let same : reply ≡ h.reply = ap (reply_in reply) h.is_told in
    record { reply = h.reply; made = h.made; asks = h.asks; spent = h.spent; is_told = told ∙ ap flat_end same; still = h.still }

-- the port that is held was asked, and its reply is told
pub told_asked : (op : EndOp) (number asked : ℕ) (before : Option Held) (held new : Held) (told : Option EndReply) (reply : EndReply)
    (answer : SpeckReply) (after : Option Held) → number ≡ asked → Some held ≡ before → Some new ≡ after → Some reply ≡ told
    → MatchOption (port_of held.what) ((told ≡ None) × (new ≡ held)) (λ p. HasReplied op number p told (port_of new.what))
    → answer ≡ flat_end reply → IsAsked op before asked answer after
told_asked op number asked before held new told reply answer after number_is held_is new_is reply_is h is =
    subst (λ (o : Option Held). IsAsked op o asked answer after) held_is
    (subst (λ (o : Option Held). IsAsked op (Some held) asked answer o) new_is
    (told_by op asked (port_of held.what) (port_of new.what) held new (Some held) (Some new) reply answer
    (subst (λ (o : Option EndReply). MatchOption (port_of held.what) ((o ≡ None) × (new ≡ held))
    (λ p. HasReplied op asked p o (port_of new.what))) (sym reply_is)
    (subst (λ (n : ℕ). MatchOption (port_of held.what) ((told ≡ None) × (new ≡ held))
    (λ p. HasReplied op n p told (port_of new.what))) number_is h)) is))
