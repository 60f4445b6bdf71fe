-- The worked histories that are not legal; the checker computes what each core may do.
use Rattle.std.proofs.Common.{◌≡◌, ℕ, refl, sym, ap, arith, Some, Result, Ok}
use Rattle.async_ends.specs.{reached, receive_at}
use Rattle.async_ends.specs.{declared.endpoint.EndOp.TheVariants.Send, Events.Receiving, Refusals.gate_look, Refusals.HistoriesRefuse}
use Rattle.{std.proofs.lemmas.Option.none-some, spk_nums.specs.declared.replies.Reply.Reply}

same_receive : (a b : Receiving) → Some a ≡ Some b → a ≡ b
same_receive a b e = cc

seen_of : (f n k : ℕ) → Some (receive_at f n) ≡ Some (receive_at f k) → n ≡ k
seen_of f n k e = ap (λ r. r.seen) (same_receive (receive_at f n) (receive_at f k) e)

frame_of : (r : Result ℕ Reply) (n k : ℕ) → r ≡ Ok n → r ≡ Ok k → n ≡ k
frame_of r n k a b = cc

pub histories_refuse : HistoriesRefuse
histories_refuse = record {
  misses = (
    (
      ((tt, record { between = refl; leads = refl }), (record { between = refl; leads = refl }, refl)),
      record { between = refl; leads = refl },
    ),
    record { seen = 1; receives = refl; count = refl; another = λ e. omega arith },
  );
  nothing_between = λ k. let seen = seen_of 3 1 k.1.seen k.1.receives in let other = k.1.another in other seen;
  another_count = λ k. let seen = seen_of 3 1 2 k.1.0 in omega arith;
  takes = (((tt, record { between = refl; leads = refl }), (record { between = refl; leads = refl }, refl)), (refl, refl));
  not_loaded = λ k. none-some (receive_at 3 k.1.seen) k.1.receives;
  none_loaded = λ k. none-some (receive_at 3 0) k.1.0;
  more_loaded = λ k. let same : 2 ≡ 1 = k.1.1 in omega arith;
  within = λ k. none-some (receive_at 3 1) (sym k.1.between);
  elsewhere = λ k. let same = frame_of (reached Send gate_look.reply) 3 4 refl k.1.leads in omega arith;
  another_kind = λ k. absurd (cc);
}
