-- What a switch holds beside its counts: words of threads.
use Rattle.core_invariant.specs.{◌≡◌, ℕ, true, not, if◌then◌else◌, refl, word_of_thread, Idle, Running, EntryAt, Switching, SwitchAt, keeps}
use Rattle.core_invariant.specs.{holds_tail, holds_idle, holds_switching, claimed_by, is_claimed}
use Rattle.act_fits.specs.act_states.proofs.{ap, false≢true, AtStack, same_same}
use Rattle.act_fits.specs.act_states.specs.{is_switching, switching_undo}
use Rattle.act_fits.specs.stage_thread.specs.declared.claim.Claim.TheVariants.{AtLoad}
use Rattle.act_fits.specs.act_states.specs.declared.switches.SwitchAt.TheVariants.{Claim, LoadTable, LoadPages, Leave, Draw}
use Rattle.core_invariant.specs.Holding.{Holding}

-- Before the core's own thread is stored as claimed, it holds what a refused call has to store.
pub switching_undo_holds : (m : Switching) (at : SwitchAt) (h : Holding) → not (is_switching at) ≡ true
    → holds_tail (switching_undo at) h ≡ holds_switching m at h
switching_undo_holds m (Claim (AtLoad f core)) h is = refl
switching_undo_holds m (Draw to table pages) h is = absurd (false≢true is)
switching_undo_holds m _ h is = refl

-- A thread that is claimed is held, and stands for an idle one.
pub record IsIdleIn (h : Holding) (f : ℕ) : Type 0 where
  pub depth : ℕ
  pub marks : h.marks (EntryAt f 0) ≡ true
  pub stands : h.stands (EntryAt f 0) ≡ word_of_thread (Idle depth)

idle_here : (f depth : ℕ) (h : Holding) → IsIdleIn (holds_idle f depth h) f
idle_here f depth h = record {
  depth = depth;
  marks = ap (λ b. if b then true else h.marks (EntryAt f 0)) (same_same (EntryAt f 0));
  stands = ap (λ b. if b then word_of_thread (Idle depth) else h.stands (EntryAt f 0)) (same_same (EntryAt f 0));
}

pub claimed_idle : (m : Switching) (at : SwitchAt) (h : Holding) → is_claimed at ≡ true → IsIdleIn (holds_switching m at h) (claimed_by at)
claimed_idle m (Claim (AtStack f depth)) h is = idle_here f depth h
claimed_idle m (LoadTable to) h is = idle_here to.thread to.depth h
claimed_idle m (LoadPages to table) h is = idle_here to.thread to.depth h
claimed_idle m (Leave to table pages) h is = idle_here to.thread to.depth h
claimed_idle m (Draw to table pages) h is =
    idle_here to.thread to.depth (keeps (EntryAt m.old 0) (word_of_thread (Running m.core m.old_depth)) h)
claimed_idle m _ h is = absurd (false≢true is)
