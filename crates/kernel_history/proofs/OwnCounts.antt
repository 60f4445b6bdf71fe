-- A call that counts references may step on its own core's count words, and a retype to untyped on each count word of its frame.
use Rattle.kernel_rules.proofs.{◌≡◌, ℕ, ◌==◌, ◌&&◌, ◌||◌, ◌∙◌, ap, IsTrue, eq-eqb, or_left, or_right, Call, Retype}
use Rattle.kernel_history.specs.{counts_references, may_count}
use Rattle.{entry_words.specs.spk_nums.specs.declared.kinds.FrameKind.TheVariants.Untyped, kernel_history.specs.Discipline.untypes_frame}

pub own_counts : (call : Call) (f c d : ℕ) → d ≡ c → IsTrue (counts_references call) → IsTrue (may_count c call f d)
own_counts call f c d own counts =
    ap (λ b. b && (d == c || untypes_frame call f)) counts ∙ or_left (d == c) (untypes_frame call f) (eq-eqb d c own)

pub untype_counts : (r f g c d : ℕ) → g ≡ f → IsTrue (may_count c (Retype r f Untyped) g d)
untype_counts r f g c d same = or_right (d == c) (g == f) (eq-eqb g f same)
