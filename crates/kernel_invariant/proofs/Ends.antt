-- A grace period ends only of a frame that nothing names and for which no other core waits, and of the places of a blank frame.
use Rattle.kernel_rules.proofs.{◌≡◌, ◌≢◌, ℕ, ◌<◌, Bool, true, false, sym, ◌∙◌, ap, subst, List, [], ◌∷◌, false≢true, eqb-true, Call, Reply}
use Rattle.kernel_rules.proofs.{Blank, Kernel, Thing, PlaceOf, FrameOf, NumberOf, refs, Judged, Refused, Found, IsFoundAnd, change_of, ends}
use Rattle.kernel_rules.proofs.{MayReply, IfFound, Edit, Node, Untype}
use Rattle.kernel_invariant.proofs.{Edited.Known, Edited.Each, Edited.Calm, Edited.found_by, SoundCalls.IsOpen}
use Rattle.{kernel_invariant.specs.ends_in, kernel_invariant.specs.ends_all, kernel_rules.specs.State.State}

-- What is known of a thing whose grace period core d ends: the frame of a place is blank; a frame is not referenced, and no other
-- core waits for it; a liveness number's grace period ends never.
abbrev pub MayEnd : State → ℕ → Thing → Type 0
MayEnd s d (PlaceOf f i) = s.frame f ≡ Kernel Blank
MayEnd s d (FrameOf f) = (refs s f ≡ 0) × ((c : ℕ) → c < s.limits.cores → c ≢ d → (s.grace (FrameOf f)).waits c ≡ false)
MayEnd s d (NumberOf l) = ⊥

pub found_fact : {A P : Type 0} (x : Judged A) (Q : A → Type 0) → IfFound x (λ a. P) → IsFoundAnd x Q → P
found_fact (Refused r) Q fact ok = absurd ok
found_fact (Found a) Q fact ok = fact

edit_end : (d : ℕ) (s : State) (e : Edit) → Known d s e → (x : Thing) → ends_in e x ≡ true → MayEnd s d x
edit_end d s (Node f object) k (PlaceOf g i) is = ap s.frame (eqb-true g f is) ∙ k.0
edit_end d s (Untype f) k (FrameOf g) is =
    subst (λ (n : ℕ). MayEnd s d (FrameOf n)) (sym (eqb-true g f is)) (k.unnamed, λ c below other. k.unwaited c below other)
edit_end d s _ k x is = absurd (false≢true is)

edits_end : (d : ℕ) (s : State) (es : List Edit) → Calm d s es → Each Known d s es → (x : Thing) → ends_all es x ≡ true → MayEnd s d x
edits_end d s [] calm k x is = absurd (false≢true is)
edits_end d s (e ∷ es) calm k x is = edit_end d s e k.0 x (sym (calm.1 x) ∙ is)

-- What is known where a decision ends a grace period.
pub ends_by_rule : (s : State) (o : ℕ → Bool) (d : ℕ) → IsOpen s o d
    → (call : Call) (r : Reply) (x : Thing) → MayReply s d call r → ends call r x ≡ true → MayEnd s d x
ends_by_rule s o d opens call (Reply.Ok v) x may h =
    found_fact (change_of s d call) (λ k. k.value ≡ v) (found_by s d call (λ change. MayEnd s d x)
    (λ v es e. edits_end d s es e.calm (e.known o opens) x (sym (e.agrees.0 x) ∙ h))) may.1.1
ends_by_rule s o d opens call _ x may h = absurd (false≢true h)
