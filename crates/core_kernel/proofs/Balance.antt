-- In a legal trace each call of a core is answered once, with the reply that it returns.
use Rattle.flight_laws.specs.flight.specs.kept_facts.proofs as low
use low.{◌≡◌, inl, inr, ℕ, ◌+◌, List, [], ◌∷◌, ◌++◌, length, Option, Some, None, option_to_list, refl, sym, ◌∙◌, ap, subst, arith}
use low.{append-nil, length-append, Call, Reply, Setting, Step, Trace, Phase, Out, Open, phase, after_enter, after_decide, after_return}
use low.{calls_of, MayEnter, MayDecide, IsLegal, phase-own, phase-other, calls_of-own, calls_of-other}
use Rattle.core_kernel.proofs.Lists.{replies_of-own, replies_of-other, calls_of-append, replies_of-append, same_last, one_of}
use Rattle.{core_kernel.specs.replies_of, core_kernel.specs.EndsWith, boot_words.specs.kernel_history.specs.Decided}
use Rattle.{boot_words.specs.kernel_history.specs.MayReturn, std.proofs.lemmas.Bool.cases_eq}

-- the replies of a core in a decided call end with that call's
pub record IsAnswered (r : Reply) (calls : List Call) (replies : List Reply) : Type 0 where
  pub count : length calls ≡ length replies
  pub before : List Reply
  pub whole : replies ≡ before ++ r ∷ []

-- each call but an open one has a reply
abbrev pub AreBalanced : Phase → List Call → List Reply → Type 0
AreBalanced Out calls replies = length calls ≡ length replies
AreBalanced (Open call) calls replies = length calls ≡ length replies + 1
AreBalanced (Decided call r) calls replies = IsAnswered r calls replies

entered : (o : Option Call) (p : Phase) (calls : List Call) (replies : List Reply) → MayEnter o p → AreBalanced p calls replies
    → AreBalanced (after_enter o p) (calls ++ option_to_list o) replies
entered None p calls replies may bal = subst (λ (l : List Call). AreBalanced p l replies) (sym (append-nil calls)) bal
entered (Some call) p calls replies may bal =
    let was : length calls ≡ length replies = subst (λ x. AreBalanced x calls replies) may.0 bal in
    let more = length-append calls (call ∷ []) in
    omega arith

decided : (setup : Setting) (t : Trace) (e : Step) (o : Option Reply) (p : Phase) (calls : List Call) (replies : List Reply)
    → MayDecide setup t e o p → AreBalanced p calls replies
    → AreBalanced (after_decide o p) calls (replies ++ option_to_list o)
decided setup t e None p calls replies may bal = subst (λ (l : List Reply). AreBalanced p calls l) (sym (append-nil replies)) bal
decided setup t e (Some r) p calls replies may bal =
    let was : length calls ≡ length replies + 1 = subst (λ x. AreBalanced x calls replies) may.is_open bal in
    let more = length-append replies (r ∷ []) in
    let now : AreBalanced (after_decide (Some r) (Open may.call)) calls (replies ++ r ∷ []) =
    record { count = omega arith; before = replies; whole = refl } in
    subst (λ x. AreBalanced (after_decide (Some r) x) calls (replies ++ r ∷ [])) (sym may.is_open) now

returned : (o : Option Reply) (p : Phase) (calls : List Call) (replies : List Reply) → MayReturn o p → AreBalanced p calls replies
    → AreBalanced (after_return o p) calls replies
returned None p calls replies may bal = bal
returned (Some r) p calls replies may bal = (subst (λ x. AreBalanced x calls replies) may.was_decided bal).count

module _ (setup : Setting) (c : ℕ) where
  -- the calls and replies of a core with the decision of its step, before it returns
  before_return : (e : Step) (t : Trace) → IsLegal setup (e ∷ t) → c ≡ e.core → AreBalanced (phase t c) (calls_of t c) (replies_of t c)
      → AreBalanced (after_decide e.decides (after_enter e.enters (phase t e.core))) (calls_of (e ∷ t) c) (replies_of (e ∷ t) c)
  before_return e t legal own bal =
      let m = legal.1 in
      let at : AreBalanced (phase t e.core) (calls_of t c) (replies_of t c) =
      subst (λ (i : ℕ). AreBalanced (phase t i) (calls_of t c) (replies_of t c)) own bal in
      let one = entered e.enters (phase t e.core) (calls_of t c) (replies_of t c) m.enters at in
      let two = decided setup t e e.decides (after_enter e.enters (phase t e.core)) (calls_of t c ++ option_to_list e.enters)
      (replies_of t c) m.decides one in
      subst (λ (l : List Call). AreBalanced (after_decide e.decides (after_enter e.enters (phase t e.core))) l (replies_of (e ∷ t) c))
      (sym (calls_of-own c e t own))
      (subst (λ (l : List Reply). AreBalanced (after_decide e.decides (after_enter e.enters (phase t e.core)))
      (calls_of t c ++ option_to_list e.enters) l) (sym (replies_of-own c e t own)) two)

  pub balanced : (t : Trace) → IsLegal setup t → AreBalanced (phase t c) (calls_of t c) (replies_of t c)
  balanced [] legal = refl
  balanced (e ∷ t) legal = elim (cases_eq c e.core) [
    | inl own ↦
        let three = returned e.returns (after_decide e.decides (after_enter e.enters (phase t e.core))) (calls_of (e ∷ t) c)
        (replies_of (e ∷ t) c) legal.1.returns
        (before_return e t legal own (balanced t legal.0)) in
        subst (λ x. AreBalanced x (calls_of (e ∷ t) c) (replies_of (e ∷ t) c))
        (sym (phase-own c e t own
        ∙ ap (λ (i : ℕ). after_return e.returns (after_decide e.decides (after_enter e.enters (phase t i)))) own)) three
    | inr other ↦
        subst (λ x. AreBalanced x (calls_of (e ∷ t) c) (replies_of (e ∷ t) c)) (sym (phase-other c e t other))
        (subst (λ (l : List Call). AreBalanced (phase t c) l (replies_of (e ∷ t) c)) (sym (calls_of-other c e t other))
        (subst (λ (l : List Reply). AreBalanced (phase t c) (calls_of t c) l) (sym (replies_of-other c e t other)) (balanced t legal.0)))
  ]

  -- a call that is decided is the one after those answered
  pub one_more : (e : Step) (t : Trace) (r : Reply) → IsLegal setup (e ∷ t) → c ≡ e.core → e.decides ≡ Some r
      → length (calls_of (e ∷ t) c) ≡ length (replies_of t c) + 1
  one_more e t r legal own is =
      let m = legal.1 in
      let at : AreBalanced (phase t e.core) (calls_of t c) (replies_of t c) =
      subst (λ (i : ℕ). AreBalanced (phase t i) (calls_of t c) (replies_of t c)) own (balanced t legal.0) in
      let one = entered e.enters (phase t e.core) (calls_of t c) (replies_of t c) m.enters at in
      let may = subst (λ o. MayDecide setup t e o (after_enter e.enters (phase t e.core))) is m.decides in
      ap length (calls_of-own c e t own) ∙ subst (λ x. AreBalanced x (calls_of t c ++ option_to_list e.enters)
      (replies_of t c)) may.is_open one

  -- a trace that ends where core c returns r has r as the last of its replies, one for each call
  ends_answered : (e : Step) (t : Trace) (r : Reply) → IsLegal setup (e ∷ t) → c ≡ e.core → e.returns ≡ Some r
      → IsAnswered r (calls_of (e ∷ t) c) (replies_of (e ∷ t) c)
  ends_answered e t r legal own is =
      let may = subst (λ o. MayReturn o (after_decide e.decides (after_enter e.enters (phase t e.core)))) is legal.1.returns in
      subst (λ x. AreBalanced x (calls_of (e ∷ t) c) (replies_of (e ∷ t) c)) may.was_decided
      (before_return e t legal own (balanced t legal.0))

  -- steps from between calls to a return, in which core c begins one call, decide the reply that it returns, and no other
  pub one_reply : (s t u : Trace) (call : Call) (r : Reply) → IsLegal setup u → u ≡ s ++ t → IsLegal setup t → phase t c ≡ Out
      → calls_of s c ≡ call ∷ [] → EndsWith c r u → replies_of s c ≡ r ∷ []
  one_reply s t u call r legal begins legal_before out one ends =
      let legal_end : IsLegal setup (ends.step ∷ ends.older) = subst (IsLegal setup) ends.whole legal in
      let now = ends_answered ends.step ends.older r legal_end (sym ends.own) ends.returns in
      let same : ends.step ∷ ends.older ≡ s ++ t = sym ends.whole ∙ begins in
      let calls_are : calls_of (ends.step ∷ ends.older) c ≡ calls_of t c ++ call ∷ [] = ap (λ x. calls_of x c) same ∙ calls_of-append c s t
      ∙ ap (λ l. calls_of t c ++ l) one in
      let replies_are : replies_of (ends.step ∷ ends.older) c ≡ replies_of t c ++ replies_of s c = ap (λ x. replies_of x c) same
      ∙ replies_of-append c s t in
      let was : length (calls_of t c) ≡ length (replies_of t c) =
      subst (λ x. AreBalanced x (calls_of t c) (replies_of t c)) out (balanced t legal_before) in
      let n1 = ap length calls_are in
      let n2 = length-append (calls_of t c) (call ∷ []) in
      let n3 = ap length replies_are in
      let n4 = length-append (replies_of t c) (replies_of s c) in
      let n5 = now.count in
      let only = one_of (replies_of s c) (omega arith) in
      let last : only.0 ≡ r = same_last (replies_of t c) now.before only.0 r (ap (λ l. replies_of t c ++ l) (sym only.1) ∙ sym replies_are
      ∙ now.whole) in
      only.1 ∙ ap (λ x. x ∷ []) last
