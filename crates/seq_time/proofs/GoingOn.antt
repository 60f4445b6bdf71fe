-- Going on as another thread: the two frames are written from what stood there before.
use Rattle.seq_lookups.specs.seq_state.proofs.{◌≡◌, ℕ, ◌==◌, Bool, true, false, if◌then◌else◌, refl, sym, ap, ◌∙◌, Some, None, eqb-true}
use Rattle.seq_lookups.specs.seq_state.proofs.{put, Blank, Thread}
use Rattle.seq_lookups.specs.seq_state.proofs.{Untyped, User, State, with_frame, with_core, thread_in, begun, SameState, same_by}
use Rattle.seq_lookups.specs.seq_state.proofs.{same_grace_by, same_then}
use Rattle.seq_lookups.specs.seq_state.specs.kernel_rules.specs.{Object, Frame, Kernel, Core, switched}
use Rattle.{seq_lookups.specs.seq_state.proofs.same_frame, seq_lookups.specs.seq_state.proofs.same_core, seq_time.specs.Left.run_by}
use Rattle.{seq_time.specs.Left.left_by}

idle_in : (x : Object) → (thread_in (Kernel x)).runs_on ≡ None → run_by (Kernel x) None ≡ Kernel x
idle_in Blank h = refl
idle_in (Thread t) h = λ i. Kernel (Thread (record { stack = t.stack; runs_on = sym h i }))
idle_in _ h = refl

-- An idle thread that is made idle stays as it is.
idle_stays : (x : Frame) → (thread_in x).runs_on ≡ None → run_by x None ≡ x
idle_stays Untyped h = refl
idle_stays User h = refl
idle_stays (Kernel x) h = idle_in x h

-- So the frame of an idle thread is the same after the old thread's.
taken_stays : (s : State) (old h : ℕ) → (thread_in (s.frame h)).runs_on ≡ None → put s.frame old (run_by (s.frame old) None) h ≡ s.frame h
taken_stays s old h idle = by_test (h == old) refl
  where
    by_test : (t : Bool) → (h == old) ≡ t → (if t then run_by (s.frame old) None else s.frame h) ≡ s.frame h
    by_test true is =
        let one : s.frame h ≡ s.frame old = ap s.frame (eqb-true h old is) in
        ap (λ x. run_by x None) (sym one) ∙ idle_stays (s.frame h) idle
    by_test false is = refl

pub gone_on : (s t1 t2 t3 t4 : State) (c h q : ℕ) (idle taken : Frame) (core : Core) → (thread_in (s.frame h)).runs_on ≡ None
    → idle ≡ run_by (s.frame (s.core c).thread) None → taken ≡ run_by (s.frame h) (Some c) → core
    ≡ record (s.core c) { thread = h; tcap = q }
    → SameState t1 (begun s (left_by (s.core c).thread (s.core c).tcap q) s)
    → SameState t2 (with_frame t1 (s.core c).thread idle) → SameState t3 (with_frame t2 h taken) → t4 ≡ with_core t3 c core
    → SameState t4 (begun s (left_by (s.core c).thread (s.core c).tcap q) (switched s c h q))
gone_on s t1 t2 t3 t4 c h q idle taken core is_idle idle_is taken_is core_is one two three four =
    let old = (s.core c).thread in
    let left = begun s (left_by old (s.core c).tcap q) s in
    let second = same_then t2 (with_frame t1 old idle) (with_frame left old idle) two (same_frame t1 left old idle one) in
    let third = same_then t3 (with_frame t2 h taken) (with_frame (with_frame left old idle) h taken) three
    (same_frame t2 (with_frame left old idle) h taken second) in
    let fourth = same_then t4 (with_core t3 c core) (with_core (with_frame (with_frame left old idle) h taken) c core)
    (same_by t4 (with_core t3 c core) four)
    (same_core t3 (with_frame (with_frame left old idle) h taken) c core third) in
    let goal = begun s (left_by old (s.core c).tcap q) (switched s c h q) in
    let next : taken ≡ run_by (put s.frame old (run_by (s.frame old) None) h) (Some c) = taken_is
    ∙ ap (λ x. run_by x (Some c)) (sym (taken_stays s old h is_idle)) in
    same_then t4 (with_core (with_frame (with_frame left old idle) h taken) c core) goal fourth
    (record {
      limits = refl;
      place = λ f i _ _. refl;
      frame = λ g _. λ i. put (put s.frame old (idle_is i)) h (next i) g;
      number = λ l _. refl;
      core = λ d _. ap (λ x. put s.core c x d) core_is;
      grace = λ x _. same_grace_by s.limits.cores (left.grace x) (left.grace x) refl;
    })
