-- Lines, one more at a time.
use Rattle.kernel_history.proofs.{◌≡◌, ℕ, zero, suc, ◌+◌, ◌<◌, ◌++◌, List, [], refl, sym, ap, ◌∙◌, arith, append_assoc, append-nil}
use Rattle.kernel_history.proofs.{lines_below}

pub lines_none : (line : ℕ → List ℕ) → lines_below line 0 ≡ []
unfolding lines_below
lines_none line = refl

pub lines_more : (line : ℕ → List ℕ) (n : ℕ) → lines_below line (n + 1) ≡ lines_below line n ++ line n
unfolding lines_below
lines_more line n = let e : n + 1 ≡ suc n = omega arith in rw e

-- Lines that are the same below n.
pub lines_same : (a b : ℕ → List ℕ) (n : ℕ) → ((i : ℕ) → i < n → a i ≡ b i) → lines_below a n ≡ lines_below b n
unfolding lines_below
lines_same a b zero same = refl
lines_same a b (suc n) same = ap (λ x. x ++ a n) (lines_same a b n (λ i h. same i (omega arith)))
    ∙ ap (λ x. lines_below b n ++ x) (same n (omega arith))

-- A text goes on by one more piece.
pub goes_on : (new mid begun seen one next : List ℕ) → new ≡ mid ++ one → mid ≡ begun ++ seen → next ≡ seen ++ one → new ≡ begun ++ next
goes_on new mid begun seen one next p q r = p ∙ ap (λ t. t ++ one) q ∙ append_assoc begun seen one ∙ ap (λ t. begun ++ t) (sym r)

-- A text begins with no piece.
pub begins : (text seen : List ℕ) → seen ≡ [] → text ≡ text ++ seen
begins text seen none = sym (ap (λ s. text ++ s) none ∙ append-nil text)
