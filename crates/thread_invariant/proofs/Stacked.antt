-- The state in which the current thread of a core has another stack, after a call that is carried out.
use Rattle.live_invariant.specs.kept_facts.specs.kernel_laws.proofs as low
use low.{◌≡◌, ◌≢◌, ◌<◌, ◌+◌, ℕ, List, refl, ◌∙◌, ap, arith, Grace, Thing, ThreadFields, Kernel, Thread, State, thread_in, thread_of}
use low.{with_grace, times, frame_names, refs, counted, frame_refs, grace_refs, put_same, put_other, with_thread}
use Rattle.{live_invariant.specs.kept_facts.proofs.CountSums.counted_refs, live_invariant.specs.kernel_rules.specs.Edits.with_stack}

abbrev pub stacked : State → ℕ → List ℕ → (Thing → Grace) → State
stacked s c fs graces = counted (with_grace (with_stack s c fs) graces) c

module _ (s : State) (c : ℕ) (fs : List ℕ) (graces : Thing → Grace)
    (own : s.frame (s.core c).thread ≡ Kernel (Thread (thread_of s c))) where
  abbrev restacked : ThreadFields
  restacked = record (thread_of s c) { stack = fs }

  pub frame_here : (g : ℕ) → g ≡ (s.core c).thread
      → (stacked s c fs graces).frame g ≡ Kernel (Thread (record (thread_of s c) { stack = fs }))
  frame_here g is =
      put_same s.frame (s.core c).thread (with_thread (s.frame (s.core c).thread) restacked) g is ∙ ap (λ x. with_thread x restacked) own

  pub frame_there : (g : ℕ) → g ≢ (s.core c).thread → (stacked s c fs graces).frame g ≡ s.frame g
  frame_there g other = put_other s.frame (s.core c).thread (with_thread (s.frame (s.core c).thread) restacked) g other

  pub core_own : (stacked s c fs graces).core c ≡ record (s.core c) { counted = (s.core c).counted + 1 }
  core_own = put_same s.core c (record (s.core c) { counted = (s.core c).counted + 1 }) c refl

  pub core_other : (d : ℕ) → d ≢ c → (stacked s c fs graces).core d ≡ s.core d
  core_other d other = put_other s.core c (record (s.core c) { counted = (s.core c).counted + 1 }) d other

  pub thread_now : thread_of (stacked s c fs graces) c ≡ record (thread_of s c) { stack = fs }
  thread_now = ap (λ k. thread_in ((stacked s c fs graces).frame k.thread)) core_own ∙ ap thread_in (frame_here (s.core c).thread refl)

  -- the references change by what leaves the stack and what comes onto it
  pub stack_refs : (s.core c).thread < s.limits.frames → (g : ℕ)
      → refs (stacked s c fs graces) g + times g (thread_of s c).stack ≡ refs s g + times g fs
  stack_refs below g =
      let a = frame_refs s (s.core c).thread (with_thread (s.frame (s.core c).thread) restacked) g below in
      let b : times g (frame_names (with_thread (s.frame (s.core c).thread) restacked)) ≡ times g fs =
      ap (λ x. times g (frame_names (with_thread x restacked))) own in
      let d : times g (frame_names (s.frame (s.core c).thread)) ≡ times g (thread_of s c).stack = ap (λ x. times g (frame_names x)) own in
      let e = grace_refs (with_stack s c fs) graces g in
      let k = counted_refs (with_grace (with_stack s c fs) graces) c g in
      omega (arith, a, b, d, e, k)
