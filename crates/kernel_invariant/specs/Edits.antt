-- What the laws ask of a list of edits besides: the grace periods that it ends, whether it flushes, and the ticks that it charges.
use Rattle.std.specs.Prelude.{◌+◌, ◌||◌, if◌then◌else◌, ◌∷◌}
use Rattle.kernel_rules.specs.{ℕ, Bool, true, false, List, [], Call, Tick, Replenish, Grace, Thing, FrameOf}
use Rattle.kernel_rules.specs.{put, no_grace, same_thing, Edit, Node, Untype, Charge, Give, is_place_of}
use Rattle.kernel_rules.specs.Edits.{Flush}

-- The things whose grace periods an edit ends.
abbrev pub ends_in : Edit → Thing → Bool
ends_in (Node f object) x = is_place_of f x
ends_in (Untype f) x = same_thing x (FrameOf f)
ends_in _ x = false

-- Whether it empties the translations of its core.
abbrev pub is_flush : Edit → Bool
is_flush Flush = true
is_flush _ = false

-- The ticks that a call charges, beside those that are owed, with those that it gives back; and those of an edit.
abbrev pub charged_by : Call → ℕ × ℕ
charged_by (Tick n) = (n, 0)
charged_by (Replenish a m) = (0, m)
charged_by _ = (0, 0)

abbrev pub charged_in : Edit → ℕ × ℕ
charged_in (Charge n) = (n, 0)
charged_in (Give f m) = (0, m)
charged_in _ = (0, 0)

abbrev pub charged_both : ℕ × ℕ → ℕ × ℕ → ℕ × ℕ
charged_both p q = (p.0 + q.0, p.1 + q.1)

-- What it leaves of the grace period of a thing.
abbrev pub kept_in : ℕ → Edit → Thing → Grace → Grace
kept_in c (Node f object) x g = if is_place_of f x then no_grace else g
kept_in c (Untype f) x g = if same_thing x (FrameOf f) then no_grace else g
kept_in c Flush x g = record g { unflushed = put g.unflushed c false }
kept_in c _ x g = g

-- The same of a list of edits, the first first.
abbrev pub ends_all : List Edit → Thing → Bool
ends_all [] x = false
ends_all (e ∷ es) x = ends_all es x || ends_in e x

abbrev pub flush_in : List Edit → Bool
flush_in [] = false
flush_in (e ∷ es) = is_flush e || flush_in es

abbrev pub charged_all : List Edit → ℕ × ℕ
charged_all [] = (0, 0)
charged_all (e ∷ []) = charged_in e
charged_all (e ∷ (x ∷ es)) = charged_both (charged_in e) (charged_all (x ∷ es))

abbrev pub kept_all : ℕ → List Edit → Thing → Grace → Grace
kept_all c [] x g = g
kept_all c (e ∷ es) x g = kept_all c es x (kept_in c e x g)
