-- The words of threads: what a thread's first word shows, and the word of the top of its stack.
-- The words of threads: what a thread's first word shows, and the word of the top of its stack.
use Rattle.thread_invariant.specs.kernel_history.proofs as low
use low.{◌≡◌, ◌∙◌, ◌<◌, ◌+◌, cond, if◌then◌else◌, ℕ, suc, refl, List, [], ◌∷◌, length, Option, Some, None, IsTrue, arith, ap, false≢true}
use low.{lt-ltb, ne_eqb, thread_of_word, ThreadWord, Idle, Running, Claimed, Thread, Tcap, Frame, Kernel, thread_in, first_of_stack, fits}
use low.{is_node, HasRacedHead, mark_in_frame, thread_mark, thread_value, at_height, Kind}
use Rattle.{thread_invariant.specs.act_states.specs.Invocations.frame_in, thread_invariant.proofs.Heights.at_top}

pub none_some : (d : ℕ) → None ≡ Some d → ⊥
none_some d h = cc

pub same_some : (x y : ℕ) → Some x ≡ Some y → x ≡ y
same_some x y h = cc

-- A frame with a thread.
pub thread_is : (x : Frame) → IsTrue (fits Kind.Thread x) → x ≡ Kernel (Thread (thread_in x))
thread_is (Kernel (Thread t)) h = refl
thread_is _ h = absurd (false≢true h)

-- It is no node, and calls race for its first word.
pub no_node : (x : Frame) → IsTrue (fits Kind.Thread x) → IsTrue (is_node x) → ⊥
no_node (Kernel (Thread t)) h node = false≢true node
no_node _ h node = false≢true h

pub raced_head : (x : Frame) → IsTrue (fits Kind.Thread x) → HasRacedHead x
raced_head (Kernel (Thread t)) h = tt
raced_head _ h = absurd (false≢true h)

-- The mark in a thread's first word, and in those of its stack.
pub first_mark : (x : Frame) (w : ℕ) → IsTrue (fits Kind.Thread x) → mark_in_frame x 0 w ≡ thread_mark (thread_of_word w)
first_mark (Kernel (Thread t)) w h = refl
first_mark _ w h = absurd (false≢true h)

pub stack_mark : (x : Frame) (i w : ℕ) → IsTrue (fits Kind.Thread x) → mark_in_frame x (suc i) w ≡ None
stack_mark (Kernel (Thread t)) i w h =
    ap (λ b. cond b (thread_mark (thread_of_word w)) None) (ne_eqb (suc i) 0 (λ is. absurd (omega (arith, is))))
stack_mark _ i w h = absurd (false≢true h)

-- What a thread's value is.
pub idle_value : (r : Option ℕ) (n depth : ℕ) → thread_value r n ≡ Idle depth → (r ≡ None) × (n ≡ depth)
idle_value None n depth h = (refl, same n depth h)
  where
    same : (n m : ℕ) → Idle n ≡ Idle m → n ≡ m
    same n m h = cc
idle_value (Some d) n depth h = absurd (cc)

pub running_value : (r : Option ℕ) (n e depth : ℕ) → thread_value r n ≡ Running e depth → (r ≡ Some e) × (n ≡ depth)
running_value None n e depth h = absurd (cc)
running_value (Some d) n e depth h = (ap (λ (m : ℕ). Some m) (same d n e depth h).0, (same d n e depth h).1)
  where
    same : (d n e m : ℕ) → Running d n ≡ Running e m → (d ≡ e) × (n ≡ m)
    same d n e m h = (cc, cc)

pub claimed_value : (r : Option ℕ) (n e depth : ℕ) → thread_value r n ≡ Claimed e depth → ⊥
claimed_value None n e depth h = cc
claimed_value (Some d) n e depth h = cc

pub same_value : (v u : ThreadWord) → Some v ≡ Some u → v ≡ u
same_value v u h = cc

-- The component at the top of a stack is at the height of what is below it.
pub top_height : (stack : List ℕ) (h : ℕ) → length stack ≡ suc h → at_height stack h ≡ Some (first_of_stack stack)
top_height [] h long = absurd (cc)
top_height (x ∷ xs) h long = ap (at_height (x ∷ xs)) height ∙ at_top x xs
  where
    height : h ≡ length xs
    height = omega (arith, long)

-- A temporal capability is no thread.
pub tcap_no_thread : (x : Frame) → IsTrue (fits Kind.Tcap x) → IsTrue (fits Kind.Thread x) → ⊥
tcap_no_thread (Kernel (Tcap q)) tcap thread = false≢true thread
tcap_no_thread _ tcap thread = false≢true tcap

-- A word that names a frame of the machine.
pub frame_shown : (frames word f : ℕ) → word ≡ f → f < frames → frame_in frames word ≡ Some f
frame_shown frames word f is below =
    ap (λ (n : ℕ). frame_in frames n) is ∙ ap (λ b. if b then Some f else None) (lt-ltb f frames below)
