use Rattle.std.proofs.Common.{rules, arith, ◌≡◌, ◌∙◌, ℕ, ◌<◌, ◌++◌, length, get_or, take, drop, ap, subst, sym, append-nil, take_all}
use Rattle.ends_runners.specs.{EndRunnerValue, MakesAsks}
use Rattle.{std.specs.List.AllZip, std.proofs.lemmas.List.drop_all, ends_runners.proofs.Runs.all_zip_from}
use Rattle.ends_runners.proofs.run.run_asks.Goals as goal

pub returns : goal.returns
returns g c =
    let xs = c.args.runners.now.items in
    let ys = c.for_each_mut.new.s in
    let free = g.G.Gate.is_free c.args.gate.now in
    let lent = c.as_mut_slice.ensures.value in
    let kept = c.for_each_mut.auto.s in
    let whole = ap length lent in
    let room = c.args.runners.now.ok.0 in
    let size : length ys ≡ length xs = omega arith in
    let each : (i : ℕ) (d : EndRunnerValue) → i < length xs → MakesAsks free (get_or xs i d) (get_or ys i d) = λ i d h.
    let made = (c.for_each_mut.ensures i d (omega arith)).1 in
    let before : made.argument.now ≡ get_or xs i d = made.argument_is ∙ ap (λ l. get_or l i d) lent in
    let does : MakesAsks free made.argument.now made.after_call.now = search rules in
    subst (λ (y : EndRunnerValue). MakesAsks free (get_or xs i d) y) made.left
    (subst (λ (x : EndRunnerValue). MakesAsks free x made.after_call.now) before does) in
    let same : take c.args.runners.now.len (ys ++ drop (length ys) xs) ≡ ys =
    ap (λ z. take c.args.runners.now.len (ys ++ z)) (drop_all (length ys) xs (omega arith))
    ∙ ap (take c.args.runners.now.len) (append-nil ys)
    ∙ take_all c.args.runners.now.len ys (omega arith) in
    subst (AllZip (MakesAsks free) xs) (sym same) (all_zip_from (MakesAsks free) xs ys size each)
