-- A core that decides its call relies on the nodes on which it relied, but for a frame that the call makes untyped.
use Rattle.kernel_laws.proofs.{◌≡◌, inl, inr, ℕ, Bool, true, false, cond, refl, sym, ◌∙◌, ap, subst, IsTrue, false≢true, InLimits, Call}
use Rattle.kernel_laws.proofs.{Reply, Table, Leaf, Pages, Pleaf, Frame, Kernel, Grace, FrameOf, State, no_grace, new_grace, is_node}
use Rattle.kernel_laws.proofs.{IsGuarded, Relies, MayReply, state_by, begins, ends, flushes, flushed_by, grace_is, IsOpen}
use Rattle.state_laws.proofs.{Flushes.decided_refs, Kept.is_kept, Kept.decided_kept}

node_kept : (x : Frame) → IsTrue (is_node x) → IsTrue (is_kept x)
node_kept (Kernel Table) is = refl
node_kept (Kernel Leaf) is = refl
node_kept (Kernel Pages) is = refl
node_kept (Kernel Pleaf) is = refl
node_kept x is = absurd (false≢true is)

module _ (s : State) (o : ℕ → Bool) (c : ℕ) (call : Call) (r : Reply) (h : IsOpen s o c) (lim : InLimits call) (may : MayReply s c call r)
    (f : ℕ) (not_ends : ends call r (FrameOf f) ≡ false) where
  abbrev t : State
  t = state_by s c call r

  grace_at : (b : Bool) → begins s c call r (FrameOf f) ≡ b
      → t.grace (FrameOf f)
      ≡ cond b (new_grace s (FrameOf f)) (cond (flushes call r) (flushed_by c (s.grace (FrameOf f))) (s.grace (FrameOf f)))
  grace_at b is = grace_is s c call r may (FrameOf f)
      ∙ ap (λ b. cond b (new_grace s (FrameOf f)) (cond (ends call r (FrameOf f)) no_grace
      (cond (flushes call r) (flushed_by c (s.grace (FrameOf f))) (s.grace (FrameOf f))))) is
      ∙ ap (λ e. cond b (new_grace s (FrameOf f)) (cond e no_grace
      (cond (flushes call r) (flushed_by c (s.grace (FrameOf f))) (s.grace (FrameOf f))))) not_ends

  begun : begins s c call r (FrameOf f) ≡ true → IsTrue ((t.grace (FrameOf f)).waits c)
  begun is = ap (λ (g : Grace). g.waits c) (grace_at true is) ∙ (h.sound.inside c h.is).0

  waits : IsTrue ((s.grace (FrameOf f)).waits c) → IsTrue ((t.grace (FrameOf f)).waits c)
  waits had = by (begins s c call r (FrameOf f)) refl
    where
      by_flush : (b : Bool) → (cond b (flushed_by c (s.grace (FrameOf f))) (s.grace (FrameOf f))).waits c ≡ (s.grace (FrameOf f)).waits c
      by_flush true = refl
      by_flush false = refl

      by : (b : Bool) → begins s c call r (FrameOf f) ≡ b → IsTrue ((t.grace (FrameOf f)).waits c)
      by true is = begun is
      by false is = ap (λ (g : Grace). g.waits c) (grace_at false is) ∙ by_flush (flushes call r) ∙ had

  guarded : IsGuarded s c f → IsGuarded t c f
  guarded (inl some) = elim (decided_refs s o c call r h lim may f some) [ inl more ↦ inl more | inr begins ↦ inr (begun begins) ]
  guarded (inr had) = inr (waits had)

  pub own_frame : IsTrue (is_node (s.frame f)) → t.frame f ≡ s.frame f
  own_frame node = elim ((decided_kept s o c call r h may).frame f (node_kept (s.frame f) node)) [
    | inl same ↦ same
    | inr ends ↦ absurd (false≢true (sym not_ends ∙ ends))
  ]

  pub own_relies : Relies s c f → Relies t c f
  own_relies relies = record {
    node = subst (λ x. IsTrue (is_node x)) (sym (own_frame relies.node)) relies.node;
    guarded = guarded relies.guarded;
  }
