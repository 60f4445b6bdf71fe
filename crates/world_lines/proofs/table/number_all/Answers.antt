use Rattle.std.proofs.Common.{◌≡◌, inl, inr, ℕ, ◌+◌, ◌<◌, ◌≤◌, Some, sym, ◌∙◌, ap, subst, arith, List, length, slice_get, slice_set}
use Rattle.world_lines.proofs.Numbers.{set_here, set_apart, number_more, number_from, more_most}
use Rattle.{std.proofs.Common.if◌then◌else◌, std.proofs.Common.length-set, std.proofs.lemmas.Bool.cases_lt, world_parts.specs.Seen.seen}
use Rattle.{world_parts.specs.Partitions.world_in, world_lines.specs.Lines.is_told, world_lines.specs.Lines.number_at}
use Rattle.world_lines.proofs.table.number_all.Goals as goal

pub frames-preserved : goal.frames-preserved
frames-preserved c =
    let x = seen c.args.image.now in
    let w = world_in c.args.parts.now in
    let rs = c.args.ranges.now.items in
    let n : ℕ = c.frames.frame in
    let old : List ℕ = c.frames.numbers in
    let size = c.frames.invariant.size in
    let below : n < length old = omega (arith, size) in
    record {
      done = λ r low.
          ap (λ i. slice_get (slice_set old i c.frames.told) r) c.from.ensures
          ∙ elim (cases_lt r n) [
            | inl less ↦ set_apart old n r c.frames.told (λ e. omega (arith, e, less)) ∙ c.frames.invariant.done r less
            | inr more ↦
                let same : r ≡ n = omega (arith, low, more) in
                ap (slice_get (slice_set old n c.frames.told)) same ∙ set_here old n c.frames.told below
                ∙ ap (λ k. Some k) (c.frames.invariant.told ∙ ap (number_at x w rs) (sym same))
          ];
      told = c.more-told.ensures
          ∙ ap (λ b. if b then c.frames.told + 1 else c.frames.told) (rw c.new.ensures at c.is_told.ensures)
          ∙ ap (λ t. if is_told x w rs n then t + 1 else t) c.frames.invariant.told
          ∙ sym (number_more x w rs n);
      most = subst (λ k. k ≤ n + 1) (sym c.more-told.ensures) (more_most c.is_told.result c.frames.told n c.frames.invariant.most);
      size = length-set old c.from.result c.frames.told ∙ size;
    }

pub returns-clause-told : goal.returns-clause-told
returns-clause-told c = λ r past.
    let x = seen c.args.image.now in
    let w = world_in c.args.parts.now in
    let rs = c.args.ranges.now.items in
    let e : c.frames.frame ≡ 512 = omega arith in
    let few = c.frames-frames.ensures.limits.most_frames in
    let most : c.args.image.now.shape.frames ≤ 512 = omega (arith, few) in
    c.frames.invariant.told ∙ ap (number_at x w rs) e ∙ sym (number_from x w rs r 512 most past)
