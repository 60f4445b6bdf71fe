-- In a legal trace the decisions of a core are its calls with their replies, numbered from 1.
use Rattle.core_kernel.specs.flight_laws.specs.flight.proofs as low
use low.{◌≡◌, ◌≢◌, ◌⊎◌, inl, inr, ℕ, ◌+◌, ◌==◌, suc, Bool, true, false, List, [], ◌∷◌, ◌++◌, length, Option, Some, None, option_to_list}
use low.{refl, sym, ◌∙◌, ap, arith, append-nil, eq-eqb, ne_eqb, Decision, Reply, Setting, IsLegal, Trace, calls_of, decision_at}
use Rattle.core_kernel.specs.flight_laws.specs.core_invariant.specs.{decisions_by, decisions_of}
use Rattle.std.proofs.{lemmas.Bool.cases_eq, lemmas.List.Elements.filter-append}
use Rattle.core_kernel.proofs.{Balance.one_more, Lists.replies_of-own, Lists.replies_of-other}
use Rattle.{std.specs.List.filter, core_kernel.specs.Replies.replies_of, core_runs.specs.Whole.numbered}

pub numbered-push : (c i : ℕ) (rs : List Reply) (r : Reply)
    → numbered c i (rs ++ r ∷ []) ≡ numbered c i rs ++ record { core = c; index = i + length rs; reply = r } ∷ []
numbered-push c i [] r = let same : i ≡ i + 0 = omega arith in ap (λ (n : ℕ). record { core = c; index = n; reply = r } ∷ []) same
numbered-push c i (q ∷ rs) r =
    let same : (i + 1) + length rs ≡ i + length (q ∷ rs) = omega arith in
    ap (λ l. record { core = c; index = i; reply = q } ∷ l) (numbered-push c (i + 1) rs r
    ∙ ap (λ (n : ℕ). numbered c (i + 1) rs ++ record { core = c; index = n; reply = r } ∷ []) same)

filter_one : (p : Decision → Bool) (x : Decision) → p x ≡ true → filter p (x ∷ []) ≡ x ∷ []
filter_one p x is = rw is

filter_no : (p : Decision → Bool) (x : Decision) → p x ≡ false → filter p (x ∷ []) ≡ []
filter_no p x is = rw is

module _ (setup : Setting) (c : ℕ) where
  of_other : (o : Option Reply) (d i : ℕ) → d ≢ c → filter (λ x. x.core == c) (decision_at o d i) ≡ []
  of_other None d i apart = refl
  of_other (Some r) d i apart = filter_no (λ x. x.core == c) (record { core = d; index = i; reply = r }) (ne_eqb d c apart)

  of_own : (o : Option Reply) (d i : ℕ) (rs : List Reply) → d ≡ c → ((r : Reply) → o ≡ Some r → i ≡ 1 + length rs)
      → numbered c 1 rs ++ filter (λ x. x.core == c) (decision_at o d i) ≡ numbered c 1 (rs ++ option_to_list o)
  of_own None d i rs same at = append-nil (numbered c 1 rs) ∙ ap (numbered c 1) (sym (append-nil rs))
  of_own (Some r) d i rs same at =
      ap (λ l. numbered c 1 rs ++ l) (filter_one (λ x. x.core == c) (record { core = d; index = i; reply = r }) (eq-eqb d c same))
      ∙ ap (λ (z : ℕ × ℕ). numbered c 1 rs ++ record { core = z.0; index = z.1; reply = r } ∷ []) (λ j. (same j, at r refl j))
      ∙ sym (numbered-push c 1 rs r)

  pub decisions_numbered : (t : Trace) → IsLegal setup t → decisions_by t c ≡ numbered c 1 (replies_of t c)
  decisions_numbered [] legal = refl
  decisions_numbered (e ∷ t) legal = elim (cases_eq c e.core) [
    | inl own ↦
        let i : ℕ = length (calls_of (e ∷ t) e.core) in
        let index : (r : Reply) → e.decides ≡ Some r → i ≡ 1 + length (replies_of t c) =
        λ r is. ap (λ (k : ℕ). length (calls_of (e ∷ t) k)) (sym own) ∙ (let more = one_more setup c e t r legal own is in omega arith) in
        filter-append (λ x. x.core == c) (decisions_of t) (decision_at e.decides e.core i)
        ∙ ap (λ l. l ++ filter (λ x. x.core == c) (decision_at e.decides e.core i)) (decisions_numbered t legal.0)
        ∙ of_own e.decides e.core i (replies_of t c) (sym own) index
        ∙ ap (numbered c 1) (sym (replies_of-own c e t own))
    | inr other ↦
        let i : ℕ = length (calls_of (e ∷ t) e.core) in
        filter-append (λ x. x.core == c) (decisions_of t) (decision_at e.decides e.core i)
        ∙ ap (λ l. filter (λ x. x.core == c) (decisions_of t) ++ l) (of_other e.decides e.core i (λ same. other (sym same)))
        ∙ append-nil (filter (λ x. x.core == c) (decisions_of t))
        ∙ decisions_numbered t legal.0 ∙ ap (numbered c 1) (sym (replies_of-other c e t other))
  ]
