-- The calls on memory: retyping frames, and mapping, touching and flushing pages.
use Rattle.std.specs.Prelude.{ℕ, Bool, true, false, not, ◌&&◌, ◌==◌, nat_lt, nat_le, List, [], ◌∷◌, length, Option, Some, None, is_some}
use Rattle.spk_nums.specs.{Capability.cap_of, declared.kinds.FrameKind.FrameKind, declared.kinds.PageFlags.PageFlags}
use Rattle.spk_nums.specs.{declared.translations.Translation.Translation, declared.replies.Value.Value}
use Rattle.spk_nums.specs.{declared.replies.Value.TheVariants.Nothing, declared.replies.Value.TheVariants.Page, declared.kinds.Kind.Kind}
use Rattle.kernel_rules.specs.{State.Object, State.Blank, State.Comp, State.Thread, State.Tcap, State.Frame, State.Untyped, State.User}
use Rattle.kernel_rules.specs.{State.Kernel, State.FrameOf, State.State, State.comp_of, References.refs, Access.Under, Access.only}
use Rattle.kernel_rules.specs.{Access.to_use, Access.held_in, Edits.Edit, Edits.Fill, Edits.Remove, Edits.Become, Edits.Untype, Edits.Cache}
use Rattle.kernel_rules.specs.{Edits.Flush, Rules.Cause, Rules.When, Rules.WaitedFor, Rules.Unflushed, Rules.Rule, Rules.Name, Rules.Vacant}
use Rattle.kernel_rules.specs.{Rules.Held, Rules.Mapped, Rules.Does, CapabilityCalls.outside, CapabilityCalls.is_frame}
use Rattle.{std.specs.Prelude.find, std.specs.List.list_any, std.specs.List.range_with_len, spk_nums.specs.declared.replies.Reply.Reply}

-- Whether a frame is untyped.
abbrev pub is_untyped : Frame → Bool
is_untyped Untyped = true
is_untyped User = false
is_untyped (Kernel object) = false

-- Whether a frame is a user frame.
abbrev pub is_user : Frame → Bool
is_user Untyped = false
is_user User = true
is_user (Kernel object) = false

-- Whether no place of a node holds anything.
unfoldable pub holds_nothing : State → ℕ → Bool
holds_nothing s f = not (list_any (λ i. is_some (held_in (s.place f i))) (range_with_len 0 64))

-- Whether an object is empty: a node holds nothing, a thread is at depth 1, a temporal capability has no budget.
abbrev pub is_empty_object : State → ℕ → Object → Bool
is_empty_object s f Blank = true
is_empty_object s f (Comp k) = true
is_empty_object s f (Thread t) = nat_le (length t.stack) 1
is_empty_object s f (Tcap q) = q.budget == 0
is_empty_object s f _ = holds_nothing s f

-- Whether a frame has no object that is not empty.
abbrev pub is_empty : State → ℕ → Frame → Bool
is_empty s f (Kernel object) = is_empty_object s f object
is_empty s f _ = true

-- `frame-kind` of a retype to untyped: the frame is one of the machine's, and untyped.
abbrev pub is_untyped_now : State → ℕ → Cause
is_untyped_now s f = When (is_frame s f && is_untyped (s.frame f)) Reply.FrameKind

-- `frame-kind` of a retype to user or kernel: the frame is one of the machine's, and not untyped.
abbrev pub not_untyped : State → ℕ → Cause
not_untyped s f = When (is_frame s f && not (is_untyped (s.frame f))) Reply.FrameKind

-- The causes against a retype of a frame: to untyped it is none from untyped, and the frame must have no reference, no core
-- that waits for it or has not flushed, and an empty object; to user or kernel it must be untyped.
abbrev pub not_retyped : State → ℕ → FrameKind → List Cause
not_retyped s f FrameKind.Untyped =
    is_untyped_now s f
    ∷ When (nat_lt 0 (refs s f)) (Reply.Referenced (refs s f))
    ∷ WaitedFor (FrameOf f)
    ∷ Unflushed (FrameOf f)
    ∷ When (not (is_empty s f (s.frame f))) Reply.NotEmpty
    ∷ []
not_retyped s f _ = not_untyped s f ∷ []

-- The edit of a retype: to untyped it ends the frame's grace period and releases the references of its object.
abbrev pub retypes : ℕ → FrameKind → Edit
retypes f FrameKind.Untyped = Untype f
retypes f FrameKind.User = Become f User
retypes f FrameKind.Kernel = Become f (Kernel Blank)

-- `retype R F K` names a range R; its frame F becomes one of the kind K.
abbrev pub retype_rule : State → ℕ → ℕ → FrameKind → Rule
retype_rule s r f k =
    Name r (to_use (only Kind.Range)) λ range.
    Does (outside range f ∷ not_retyped s f k) Nothing (retypes f k ∷ [])

-- `frame-kind` of a `map`: the frame is one of the machine's, and no user frame.
abbrev pub not_user : State → ℕ → Cause
not_user s f = When (is_frame s f && not (is_user (s.frame f))) Reply.FrameKind

-- `map P V R F W` names pages P and a range R; the free page V of P then maps the user frame F of R with the flags W.
abbrev pub map_rule : State → ℕ → ℕ → ℕ → ℕ → PageFlags → Rule
map_rule s p v r f w =
    Name p (to_use (only Kind.Pages)) λ pages.
    Name r (to_use (only Kind.Range)) λ range.
    Vacant (Under pages v) λ at.
    Does (outside range f ∷ not_user s f ∷ []) Nothing (Fill at (cap_of Kind.Page f w.0) ∷ [])

-- `unmap P V` names pages P; the mapping of its page V is removed.
abbrev pub unmap_rule : ℕ → ℕ → Rule
unmap_rule p v =
    Name p (to_use (only Kind.Pages)) λ pages.
    Held (Under pages v) λ at mapping.
    Does [] Nothing (Remove at mapping ∷ [])

-- The translation of a page of a page root that a list has, if it has one.
abbrev pub translation_of : List Translation → ℕ → ℕ → Option Translation
translation_of cached pages v = find (λ t. t.pages == pages && t.page == v) cached

-- The answer that a translation gives.
abbrev pub translated : Translation → Value
translated t = Page t.frame t.flags

-- A `touch` that walked the table answers the translation found, and caches it.
abbrev pub caches : Translation → Rule
caches t = Does [] (translated t) (Cache t ∷ [])

-- A `touch` answers the cached translation, or else the mapping found in the table.
abbrev pub touch_by : ℕ → ℕ → Option Translation → Rule
touch_by pages v (Some t) = Does (When (nat_lt 4095 v) Reply.NoSlot ∷ []) (translated t) []
touch_by pages v None =
    Mapped pages v λ mapping.
    caches (record { pages = pages; page = v; frame = mapping.frame; flags = record { 0 = mapping.arg } })

-- `touch V` answers the frame and flags of the page V of the pages of the component that core c works in.
abbrev pub touch_rule : State → ℕ → ℕ → Rule
touch_rule s c v = touch_by (comp_of s c).pages v (translation_of (s.core c).cached (comp_of s c).pages v)

-- `flush` empties the translations of its core.
abbrev pub flush_rule : Rule
flush_rule = Does [] Nothing (Flush ∷ [])
