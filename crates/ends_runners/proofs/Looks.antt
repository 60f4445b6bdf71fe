-- A look more of a core is one more of its looks.
use Rattle.core_kernel.specs.kernel_history.proofs.{◌≡◌, ℕ, List, [], ◌∷◌, ◌++◌, length, refl, sym, ◌∙◌, ap, subst, arith, append_assoc}
use Rattle.core_kernel.specs.kernel_history.proofs.{Call, Look as look_of, Reply, calls_of}
use Rattle.core_kernel.specs.{replies_of, CoreSeatValue, HasSeen, MakesCall}
use Rattle.ends_runners.specs.Looks.{look_if, looks_among, looks_in}
use Rattle.{core_kernel.proofs.calls_of-append, core_kernel.proofs.replies_of-append, core_kernel.proofs.Balance.balanced}
use Rattle.{core_kernel.proofs.Balance.AreBalanced, async_ends.specs.Looks.look}

among_more : (cs : List Call) (rs : List Reply) (n : ℕ) (r : Reply) → length cs ≡ length rs
    → looks_among (cs ++ look_of n ∷ []) (rs ++ r ∷ []) ≡ looks_among cs rs ++ look n r ∷ []
among_more [] [] n r even = refl
among_more [] (q ∷ rs) n r even = absurd (omega arith)
among_more (c ∷ cs) [] n r even = absurd (omega arith)
among_more (c ∷ cs) (q ∷ rs) n r even =
    ap (λ l. look_if c q ++ l) (among_more cs rs n r (omega arith)) ∙ sym (append_assoc (look_if c q) (looks_among cs rs) (look n r ∷ []))

-- a core between calls has a reply to each
even_calls : (s : CoreSeatValue) → HasSeen s → length (calls_of s.seen s.core) ≡ length (replies_of s.seen s.core)
even_calls s h = subst (λ x. AreBalanced x (calls_of s.seen s.core) (replies_of s.seen s.core)) h.between
    (balanced s.kernel.setup s.core s.seen h.history.legal)

pub looks_more : (s made : CoreSeatValue) (n : ℕ) (r : Reply) → HasSeen s → MakesCall s (look_of n) r made
    → looks_in made ≡ looks_in s ++ look n r ∷ []
looks_more s made n r seen m =
    let c : ℕ = s.core in
    let calls : calls_of made.seen made.core ≡ calls_of s.seen c ++ look_of n ∷ [] =
    (λ i. calls_of (m.begins i) (m.core i)) ∙ calls_of-append c m.since s.seen ∙ ap (λ l. calls_of s.seen c ++ l) m.calls in
    let replies : replies_of made.seen made.core ≡ replies_of s.seen c ++ r ∷ [] =
    (λ i. replies_of (m.begins i) (m.core i)) ∙ replies_of-append c m.since s.seen ∙ ap (λ l. replies_of s.seen c ++ l) m.replies in
    (λ i. looks_among (calls i) (replies i)) ∙ among_more (calls_of s.seen c) (replies_of s.seen c) n r (even_calls s seen)
