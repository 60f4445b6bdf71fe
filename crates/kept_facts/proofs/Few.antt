-- After a legal trace a frame has at most 32,848 references, so their number modulo 2 ^ 16 is the number itself.
use Rattle.core_invariant.proofs.{◌≡◌, ◌≤◌, ◌<◌, ◌^◌, ℕ, pos, arith, sym, subst, Setting, IsSetting, residue, refs, events_of, IsLegal}
use Rattle.core_invariant.proofs.{Trace, state_after, state_is, run_of}
use Rattle.{kernel_laws.proofs.FewRefs.references_few, thread_laws.specs.frame_words.proofs.ResidueLemmas.residue_pos}

pub few_after : (setup : Setting) → IsSetting setup → (t : Trace) → IsLegal setup t → (f : ℕ) → refs (state_after setup t) f ≤ 32848
few_after setup setting t legal f =
    subst (λ s. refs s f ≤ 32848) (sym (state_is setup t)) (references_few setup setting (events_of t) (run_of setup t legal) f)

pub refs_residue : (setup : Setting) → IsSetting setup → (t : Trace) → IsLegal setup t → (f : ℕ)
    → residue (pos (refs (state_after setup t) f)) ≡ refs (state_after setup t) f
refs_residue setup setting t legal f =
    residue_pos (refs (state_after setup t) f) (let few = few_after setup setting t legal f in omega (arith, few))
