use Rattle.std.proofs.Common.{◌≡◌, ◌++◌, ◌∷◌, [], ap, sym, ◌∙◌, Some}
use Rattle.stage_sweep.specs.{frozen_at, kept_with}
use Rattle.stage_sweep.proofs.SweepLemmas.{room_for, added_so}
use Rattle.stage_sweep.proofs.sweep.Sweep.keep.Goals as goal

pub returns-in-Some : goal.returns-in-Some
returns-in-Some c =
    let w = c.args.self.now in
    let is : frozen_at w.at c.args.found ≡ Some c.in-Some.word = cc in
    let kept : c.add.new.self ≡ w.kept ++ c.in-Some.word ∷ [] = added_so c.add.result w.kept c.add.new.self
    c.in-Some.word c.add.ensures (room_for w.kept w.at c.args.found c.in-Some.word is c.requires) in
    let all : c.add.new.self ≡ kept_with w.kept (frozen_at w.at c.args.found) = kept ∙ ap (λ o. kept_with w.kept o) (sym is) in
    λ i. record { frame = w.frame; word = w.word; core = w.core; kept = all i; owned = w.owned; at = w.at }
