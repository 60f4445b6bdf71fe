-- The calls on capabilities. Each rule reads: what the call names, in order; its target; its own causes, the value that it
-- answers, and its edits.
use Rattle.std.specs.Prelude.{ℕ, ◌+◌, Bool, true, false, not, ◌&&◌, ◌==◌, nat_lt, nat_le, if◌then◌else◌, List, [], ◌∷◌, None}
use Rattle.spk_nums.specs.{Rights.kept, Rights.part_of, declared.kinds.Kind.Kind, declared.calls.Make.Make}
use Rattle.spk_nums.specs.{declared.replies.Value.TheVariants.Nothing, declared.replies.Value.TheVariants.Cap, declared.replies.Reply.Reply}
use Rattle.kernel_rules.specs.State.{Object, Blank, Table, Leaf, Pages, Pleaf, Thread, Tcap, Frame, Kernel, Liveness, Unused, Live, Dead}
use Rattle.kernel_rules.specs.Access.{Named, capability, Under, InRoot, any, only, root, to_look, to_copy, to_part, to_use}
use Rattle.kernel_rules.specs.Edits.{Fill, Remove, Node, Become, Component}
use Rattle.kernel_rules.specs.Rules.{Cause, When, WaitedFor, Rule, Name, Vacant, Held, Does}
use Rattle.{kernel_rules.specs.State.NumberOf, kernel_rules.specs.State.State, kernel_rules.specs.Start.plain_cap}

-- `look A` names any capability A, and answers it, whatever its rights.
abbrev pub look_rule : ℕ → Rule
look_rule a =
    Name a (to_look any) λ cap.
    Does [] (Cap (capability cap)) []

-- `copy A T B R` names any capability A that may be copied, and a table T; the free place B of T then holds A's capability with those
-- of its rights that are in R.
abbrev pub copy_rule : ℕ → ℕ → ℕ → ℕ → Rule
copy_rule a t b rights =
    Name a (to_copy any) λ cap.
    Name t (to_use (only Kind.Table)) λ table.
    Vacant (Under table b) λ at.
    Does [] Nothing (Fill at (kept (capability cap) rights) ∷ [])

-- `remove T B` names a table T; what its place B holds is removed.
abbrev pub remove_rule : ℕ → ℕ → Rule
remove_rule t b =
    Name t (to_use (only Kind.Table)) λ table.
    Held (Under table b) λ at cap.
    Does [] Nothing (Remove at cap ∷ [])

-- The kind of the leaf that a root takes.
abbrev pub leaf_of : Kind → Kind
leaf_of Kind.Table = Kind.Leaf
leaf_of _ = Kind.Pleaf

-- The leaf that a named root takes; any, where no root was found.
abbrev pub leaf_for : Named → Kind → Bool
leaf_for table = if table.found then only (leaf_of table.kind) else any

-- `grow T I L` names a root T and a leaf L of its kind; the free root entry I of T then holds a link to L's frame.
abbrev pub grow_rule : ℕ → ℕ → ℕ → Rule
grow_rule t i l =
    Name t (to_use root) λ table.
    Name l (to_use (leaf_for table)) λ leaf.
    Vacant (InRoot table i) λ at.
    Does [] Nothing (Fill at (plain_cap Kind.Link leaf.frame) ∷ [])

-- `shrink T I` names a root T; the link in its root entry I is removed, and the leaf keeps its entries.
abbrev pub shrink_rule : ℕ → ℕ → Rule
shrink_rule t i =
    Name t (to_use root) λ table.
    Held (InRoot table i) λ at link.
    Does [] Nothing (Remove at link ∷ [])

-- Whether a range has a frame.
abbrev pub has_frame : Named → ℕ → Bool
has_frame range f = nat_le range.frame f && nat_lt f (range.frame + range.arg)

-- `out-of-range`: the frame is not in the range.
abbrev pub outside : Named → ℕ → Cause
outside range f = When (range.found && not (has_frame range f)) Reply.OutOfRange

-- Whether a range has the n frames from f on, and these are some.
abbrev pub has_frames : Named → ℕ → ℕ → Bool
has_frames range f n = nat_le 1 n && nat_le range.frame f && nat_le (f + n) (range.frame + range.arg)

-- `out-of-range` of a part: it is empty, or not within the range.
abbrev pub beyond : Named → ℕ → ℕ → Cause
beyond range f n = When (range.found && not (has_frames range f n)) Reply.OutOfRange

-- `part R F N T B` names a range R that may be copied and used, and a table T; the free place B of T then holds the range of the N
-- frames from F on, which are within R, with R's rights.
abbrev pub part_rule : ℕ → ℕ → ℕ → ℕ → ℕ → Rule
part_rule r f n t b =
    Name r (to_part (only Kind.Range)) λ range.
    Name t (to_use (only Kind.Table)) λ table.
    Vacant (Under table b) λ at.
    Does (beyond range f n ∷ []) Nothing (Fill at (part_of (capability range) f n) ∷ [])

-- Whether a number is that of a frame of the machine.
abbrev pub is_frame : State → ℕ → Bool
is_frame s f = nat_lt f s.limits.frames

-- Whether a frame is a blank kernel frame.
abbrev pub is_blank : Frame → Bool
is_blank (Kernel Blank) = true
is_blank _ = false

-- `frame-kind` of a `make`: the frame is one of the machine's, and no blank kernel frame.
abbrev pub not_blank : State → ℕ → Cause
not_blank s f = When (is_frame s f && not (is_blank (s.frame f))) Reply.FrameKind

-- `make` of an empty node: every place of it is free.
abbrev pub make_node : State → Object → Kind → ℕ → ℕ → ℕ → ℕ → Rule
make_node s object k r f t b =
    Name r (to_use (only Kind.Range)) λ range.
    Name t (to_use (only Kind.Table)) λ table.
    Vacant (Under table b) λ at.
    Does (outside range f ∷ not_blank s f ∷ []) Nothing (Node f object ∷ Fill at (plain_cap k f) ∷ [])

-- `make thread R F T B C`: F is an idle thread whose stack holds C's frame.
abbrev pub make_thread : State → ℕ → ℕ → ℕ → ℕ → ℕ → Rule
make_thread s r f t b c =
    Name r (to_use (only Kind.Range)) λ range.
    Name t (to_use (only Kind.Table)) λ table.
    Name c (to_use (only Kind.Comp)) λ comp.
    Vacant (Under table b) λ at.
    Does (outside range f ∷ not_blank s f ∷ []) Nothing
    (Become f (Kernel (Thread (record { stack = comp.frame ∷ []; runs_on = None }))) ∷ Fill at (plain_cap Kind.Thread f) ∷ [])

-- `make tcap R F T B S W`: F is a temporal capability without budget, with the list of the one pair (S, W).
abbrev pub make_tcap : State → ℕ → ℕ → ℕ → ℕ → ℕ → ℕ → Rule
make_tcap s r f t b sched quality =
    Name r (to_use (only Kind.Range)) λ range.
    Name t (to_use (only Kind.Table)) λ table.
    Vacant (Under table b) λ at.
    Does (outside range f ∷ not_blank s f ∷ []) Nothing
    (Become f (Kernel (Tcap (record { budget = 0; qualities = (sched, quality) ∷ [] }))) ∷ Fill at (plain_cap Kind.Tcap f) ∷ [])

-- Whether a liveness number is live.
abbrev pub is_live : Liveness → Bool
is_live Unused = false
is_live (Live epoch f) = true
is_live (Dead epoch) = false

-- The last epoch of a liveness number: 0 where it was never used.
abbrev pub epoch_of : Liveness → ℕ
epoch_of Unused = 0
epoch_of (Live epoch f) = epoch
epoch_of (Dead epoch) = epoch

-- The causes for which a liveness number is not taken: it is live, another core still waits for it, or its epochs are spent.
abbrev pub not_taken : State → ℕ → List Cause
not_taken s l =
    When (is_live (s.number l)) Reply.Occupied
    ∷ WaitedFor (NumberOf l)
    ∷ When (epoch_of (s.number l) == s.limits.epochs) Reply.EpochsSpent
    ∷ []

-- `make comp R F T B X P L`: F is a component with the table X, the pages P and the liveness number L, whose epoch rises by 1.
abbrev pub make_comp : State → ℕ → ℕ → ℕ → ℕ → ℕ → ℕ → ℕ → Rule
make_comp s r f t b x p l =
    Name r (to_use (only Kind.Range)) λ range.
    Name t (to_use (only Kind.Table)) λ table.
    Name x (to_use (only Kind.Table)) λ own_table.
    Name p (to_use (only Kind.Pages)) λ own_pages.
    Vacant (Under table b) λ at.
    Does (outside range f ∷ not_blank s f ∷ not_taken s l) Nothing
    (Component f (record { table = own_table.frame; pages = own_pages.frame; number = l; epoch = epoch_of (s.number l) + 1 })
    ∷ Fill at (plain_cap Kind.Comp f) ∷ [])

-- `make O R F T B ..` names a range R and a table T; the blank kernel frame F of R becomes an O, and the free place B of T
-- holds its capability.
abbrev pub make_rule : State → Make → ℕ → ℕ → ℕ → ℕ → Rule
make_rule s Make.Table r f t b = make_node s Table Kind.Table r f t b
make_rule s Make.Leaf r f t b = make_node s Leaf Kind.Leaf r f t b
make_rule s Make.Pages r f t b = make_node s Pages Kind.Pages r f t b
make_rule s Make.Pleaf r f t b = make_node s Pleaf Kind.Pleaf r f t b
make_rule s (Make.Thread comp) r f t b = make_thread s r f t b comp
make_rule s (Make.Tcap sched quality) r f t b = make_tcap s r f t b sched quality
make_rule s (Make.Comp table pages live) r f t b = make_comp s r f t b table pages live
