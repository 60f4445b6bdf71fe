-- What the words of an object show is the object, where they represent it.
use Rattle.table_lines.specs.kernel_history.proofs.{◌≡◌, ℕ, zero, suc, ◌+◌, ◌<◌, ◌≤◌, ◌++◌, List, [], ◌∷◌, Option, Some, None, refl, sym}
use Rattle.table_lines.specs.kernel_history.proofs.{ap, ◌∙◌, arith, length, take, reverse, option_to_list, slice_get, reverse-append}
use Rattle.table_lines.specs.kernel_history.proofs.{stack_of_word, quality_of_word, ThreadFits, comp_of_word, Place, CompFields}
use Rattle.table_lines.specs.kernel_history.proofs.{ThreadFields, TcapFields, Blank, Table, Leaf, Pages, Pleaf, Comp, Thread, Tcap, Frame}
use Rattle.table_lines.specs.kernel_history.proofs.{Untyped, User, Kernel, thread_value, frame_value, AreFrame}
use Rattle.table_report.specs.{stack_shown, qualities_shown}
use Rattle.std.proofs.lemmas.List.{length-reverse, reverse-reverse}
use Rattle.table_lines.specs.kernel_history.specs.FinalWords.{AreComp, AreThread, AreTcap}
use Rattle.table_report.specs.Shown.{stacked, listed, comp_shown, budget_shown, frame_shown}
use Rattle.tcap_words.proofs.ThreadLemmas as threads

-- One more of a list, if it has one more.
take_option : {A : Type 0} (xs : List A) (n : ℕ) → take (suc n) xs ≡ take n xs ++ option_to_list (slice_get xs n)
take_option [] zero = refl
take_option [] (suc n) = refl
take_option (x ∷ xs) zero = refl
take_option (x ∷ xs) (suc n) = ap (λ ys. x ∷ ys) (take_option xs n)

take_whole : {A : Type 0} (xs : List A) (n : ℕ) → length xs ≤ n → take n xs ≡ xs
take_whole [] zero h = refl
take_whole [] (suc n) h = refl
take_whole (x ∷ xs) zero h = absurd (omega arith)
take_whole (x ∷ xs) (suc n) h = ap (λ ys. x ∷ ys) (take_whole xs n (omega arith))

back_one : (o : Option ℕ) → reverse (option_to_list o) ≡ option_to_list o
back_one None = refl
back_one (Some f) = refl

-- The stack that the first n words show.
stack_taken : (bottom_up : List ℕ) (word : ℕ → ℕ) (n : ℕ)
    → ((h : ℕ) → h < n → stack_of_word (word (1 + h)) ≡ Some (record { 0 = slice_get bottom_up h }))
    → stack_shown word n ≡ reverse (take n bottom_up)
unfolding stack_shown
stack_taken xs word zero says = refl
stack_taken xs word (suc n) says =
    ap (λ o. stacked o ++ stack_shown word n) (says n (omega arith))
    ∙ ap (λ fs. option_to_list (slice_get xs n) ++ fs) (stack_taken xs word n (λ h k. says h (omega arith)))
    ∙ ap (λ o. o ++ reverse (take n xs)) (sym (back_one (slice_get xs n)))
    ∙ sym (reverse-append (take n xs) (option_to_list (slice_get xs n)))
    ∙ ap reverse (sym (take_option xs n))

qualities_taken : (qs : List (ℕ × ℕ)) (word : ℕ → ℕ) (n : ℕ)
    → ((j : ℕ) → j < n → quality_of_word (word (1 + j)) ≡ Some (record { 0 = slice_get qs j }))
    → qualities_shown word n ≡ take n qs
unfolding qualities_shown
qualities_taken qs word zero says = refl
qualities_taken qs word (suc n) says =
    ap (λ o. qualities_shown word n ++ listed o) (says n (omega arith))
    ∙ ap (λ ps. ps ++ option_to_list (slice_get qs n)) (qualities_taken qs word n (λ j k. says j (omega arith)))
    ∙ sym (take_option qs n)

depth_most : (o : Option ℕ) (depth : ℕ) → ThreadFits (thread_value o depth) → depth ≤ 16
depth_most None depth h = h.1
depth_most (Some c) depth h = h.1.1

stack_is : (t : ThreadFields) (word : ℕ → ℕ) → AreThread t word → stack_shown word 16 ≡ t.stack
stack_is t word h =
    let fits = (threads.spelling.spells (word 0) (thread_value t.runs_on (length t.stack)) h.runs).0 in
    let most : length (reverse t.stack) ≤ 16 =
    (let n = depth_most t.runs_on (length t.stack) fits in let e = length-reverse t.stack in omega (arith, n, e)) in
    stack_taken (reverse t.stack) word 16 h.stack ∙ ap reverse (take_whole (reverse t.stack) 16 most) ∙ reverse-reverse t.stack

qualities_is : (q : TcapFields) (word : ℕ → ℕ) → AreTcap q word → qualities_shown word 8 ≡ q.qualities
qualities_is q word h = qualities_taken q.qualities word 8 h.list ∙ take_whole q.qualities 8 h.most

comp_is : (k : CompFields) (word : ℕ → ℕ) → AreComp k word → comp_shown (comp_of_word (word 2)) (word 0) (word 1) ≡ k
comp_is k word h =
    ap (λ o. comp_shown o (word 0) (word 1)) h.live
    ∙ ap (λ x. comp_shown (Some (record { number = k.number; epoch = k.epoch })) x (word 1)) h.table
    ∙ ap (λ x. comp_shown (Some (record { number = k.number; epoch = k.epoch })) k.table x) h.pages

-- A frame as words show it: where a thread runs is not shown.
abbrev pub told : Frame → Frame
told Untyped = Untyped
told User = User
told (Kernel Blank) = Kernel Blank
told (Kernel Table) = Kernel Table
told (Kernel Leaf) = Kernel Leaf
told (Kernel Pages) = Kernel Pages
told (Kernel Pleaf) = Kernel Pleaf
told (Kernel (Comp k)) = Kernel (Comp k)
told (Kernel (Thread t)) = Kernel (Thread (record { stack = t.stack; runs_on = None }))
told (Kernel (Tcap q)) = Kernel (Tcap q)

pub frame_is : (x : Frame) (place : ℕ → Place) (word : ℕ → ℕ) → AreFrame x place word → frame_shown (Some (frame_value x)) word ≡ told x
frame_is (Kernel (Comp k)) place word h = ap (λ k. Kernel (Comp k)) (comp_is k word h)
frame_is (Kernel (Thread t)) place word h = ap (λ fs. Kernel (Thread (record { stack = fs; runs_on = None }))) (stack_is t word h)
frame_is (Kernel (Tcap q)) place word h =
    ap (λ b. Kernel (Tcap (record { budget = b; qualities = qualities_shown word 8 }))) (ap budget_shown h.head)
    ∙ ap (λ ps. Kernel (Tcap (record { budget = q.budget; qualities = ps }))) (qualities_is q word h)
frame_is _ place word h = refl
