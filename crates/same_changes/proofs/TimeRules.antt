-- The calls of invocation and of time come to the same on a region.
use Rattle.kernel_laws.specs.kernel_rules.proofs as low
use low.{◌≡◌, ℕ, ◌<◌, Bool, true, not, ◌&&◌, ◌||◌, refl, sym, ◌∙◌, ap, subst, leb as nat_le, ltb as nat_lt, [], ◌∷◌, length, Option, Some}
use low.{None, IsTrue, false≢true, merged, covers, Capability, cap_of, Kind, Call, Amount, Frame, Kernel, Comp, CompFields, ThreadFields}
use low.{TcapFields, NumberOf, Core, outstanding, comp_of, comp_in, thread_in, tcap_in, to_use, found, only, tcap_at, Fill, Move, Merge}
use low.{Found, named, is_live_in, is_dead_in, asks_life, acts, switch_to, merged_list, are_alike, preemption, preempts, fits, is_node}
use low.{FrameInRange, Reply}
use Rattle.kernel_laws.specs.kernel_rules.specs.{call_rule, switch_rule, replenish_rule}
use Rattle.kernel_laws.proofs.{State, named_fit}
use Rattle.kernel_laws.specs.kernel_rules.specs.InvocationCalls.{gate_rule, kill_rule, ret_rule}
use Rattle.kernel_laws.specs.kernel_rules.specs.TimeCalls.{tick_rule, transfer_rule, delegate_rule, test_rule}
use Rattle.same_changes.proofs.Reaching.{Twins, TwinsOn, is_some_kind, fit_below, table_node, core_agree, thread_agree, comp_agree}
use Rattle.same_changes.proofs.Reaching.{comp_parts, number_in, below_cores, named_at, named_agrees, table_at}
use Rattle.{same_changes.specs.Region.Region, same_changes.proofs.EditsAgree.charge_agree, same_changes.proofs.Alike.SameRule}

pub gate_comp : (x : Frame) → IsTrue (fits Kind.Gate x) → IsTrue (fits Kind.Comp x)
gate_comp (Kernel (Comp k)) fit = refl
gate_comp _ fit = absurd (false≢true fit)

module _ {r : Region} {t s : State} {o : ℕ → Bool} {c : ℕ} (w : TwinsOn r t s o c) where
  -- The liveness number of a component of the region is the same.
  pub life_agree : (f : ℕ) → r.frame f ≡ true → IsTrue (fits Kind.Comp (s.frame f))
      → t.number (comp_in (s.frame f)).number ≡ s.number (comp_in (s.frame f)).number
  life_agree f is fit = w.agree.number (comp_in (s.frame f)).number (comp_parts w f is fit).2

  -- Whether a core may make a call is the same.
  pub acts_agree : (call : Call) → acts t c call ≡ acts s c call
  acts_agree call =
      let k : CompFields = comp_of s c in
      ap (λ (x : CompFields). not (asks_life call) || (is_live_in (t.number x.number) x.epoch
      || (is_dead_in (t.number x.number) x.epoch && (t.grace (NumberOf x.number)).waits c))) (comp_agree w)
      ∙ ap (λ n. not (asks_life call) || (is_live_in n k.epoch || (is_dead_in n k.epoch && (t.grace (NumberOf k.number)).waits c)))
      (w.agree.number k.number (number_in w))
      ∙ ap (λ b. not (asks_life call) || (is_live_in (s.number k.number) k.epoch || (is_dead_in (s.number k.number) k.epoch && b)))
      ((w.agree.grace (NumberOf k.number) (number_in w)).waits c (below_cores w))

  -- ---- gates and killing

  pub gate_same : (k x b : ℕ) → SameRule r s c (gate_rule t k x b) (gate_rule s k x b)
  gate_same k x b = (
    refl,
    refl,
    λ comp is. (
      refl,
      refl,
      λ table is_table. (
        refl,
        (λ on. table_at w x table is_table),
        λ at is_free. (
          tt,
          λ none. (
            refl,
            ap (λ (x : Frame). Fill at (cap_of Kind.Gate comp.frame (comp_in x).epoch) ∷ []) (named_agrees w k Kind.Comp comp refl is),
            (tt, tt),
          ),
        ),
      ),
    ),
  )

  pub kill_same : (k : ℕ) → SameRule r s c (kill_rule t k) (kill_rule s k)
  kill_same k = (
    refl,
    refl,
    λ comp is.
        let frame = named_agrees w k Kind.Comp comp refl is in
        let fit = named_fit s o c k Kind.Comp comp w.sound w.is_open is in
        let inside = named_at w k Kind.Comp comp refl is in
        let number = life_agree comp.frame inside fit in
        let fields = comp_in (s.frame comp.frame) in
        subst (λ x. SameRule r s c (Rattle.kernel_laws.specs.kernel_rules.specs.InvocationCalls.kill_comp t (found comp) (comp_in x))
        (Rattle.kernel_laws.specs.kernel_rules.specs.InvocationCalls.kill_comp s (found comp) fields)) (sym frame) (
          ((ap (λ n. not (is_live_in n fields.epoch)) number, λ on. refl), λ calm. tt),
          λ none. (refl, refl, ((comp_parts w comp.frame inside fit).2, tt)),
        ),
  )

  -- ---- calling and returning

  pub call_same : (g : ℕ) → SameRule r s c (call_rule t c g) (call_rule s c g)
  call_same g = (
    refl,
    refl,
    λ gate is.
        let frame = named_agrees w g Kind.Gate gate refl is in
        let fit = gate_comp (s.frame gate.frame) (named_fit s o c g Kind.Gate gate w.sound w.is_open is) in
        let number : t.number (comp_in (t.frame gate.frame)).number ≡ s.number (comp_in (s.frame gate.frame)).number =
        ap (λ x. t.number (comp_in x).number) frame ∙ life_agree gate.frame (named_at w g Kind.Gate gate refl is) fit in (
          (
            (ap (λ (k : ThreadFields). nat_le 16 (length k.stack)) (thread_agree w), λ on. refl),
            λ calm. ((ap (λ n. not (is_live_in n gate.arg)) number, λ on. refl), λ calm. tt),
          ),
          λ none. (refl, refl, (tt, tt)),
        ),
  )

  pub ret_same : SameRule r s c (ret_rule t c) (ret_rule s c)
  ret_same = (
    ((ap (λ (k : ThreadFields). nat_le (length k.stack) 1) (thread_agree w), λ on. refl), λ calm. tt),
    λ none. (refl, refl, (tt, tt)),
  )

  -- ---- switching

  pub switch_same : (h q : ℕ) → SameRule r s c (switch_rule t h q) (switch_rule s h q)
  switch_same h q = (
    refl,
    refl,
    λ thread is. (
      refl,
      refl,
      λ tcap is_tcap.
          let frame = named_agrees w h Kind.Thread thread refl is in
          subst (λ x. SameRule r s c (switch_to (found thread) tcap.frame (thread_in x).runs_on)
          (switch_to (found thread) tcap.frame (thread_in (s.frame thread.frame)).runs_on)) (sym frame)
          (by_core thread tcap (named_at w h Kind.Thread thread refl is) (thread_in (s.frame thread.frame)).runs_on),
    ),
  )
    where
      by_core : (thread tcap : Capability) → r.frame thread.frame ≡ true → (e : Option ℕ)
          → SameRule r s c (switch_to (found thread) tcap.frame e) (switch_to (found thread) tcap.frame e)
      by_core thread tcap is None = (tt, λ none. (refl, refl, (is, tt)))
      by_core thread tcap is (Some e) = (((refl, λ on. refl), λ calm. tt), λ none. (refl, refl, (is, tt)))

  -- ---- ticks

  pub tick_same : (n : ℕ) → SameRule r s c (tick_rule t c n) (tick_rule s c n)
  tick_same n = (tt, λ none. (ap Amount (charge_agree w n), refl, (tt, tt)))

  -- ---- moving budgets, and preemption

  -- The temporal capability that a name leads to is the same.
  tcap_agree : (n : ℕ) (k : Capability) → named s c n (to_use (only Kind.Tcap)) ≡ Found k → tcap_at t k.frame ≡ tcap_at s k.frame
  tcap_agree n k is = ap tcap_in (named_agrees w n Kind.Tcap k refl is)

  pub transfer_same : (a b m : ℕ) → SameRule r s c (transfer_rule t a b m) (transfer_rule s a b m)
  transfer_same a b m = (
    refl,
    refl,
    λ x is. (
      refl,
      refl,
      λ y is_other.
          let one : tcap_at t x.frame ≡ tcap_at s x.frame = tcap_agree a x is in
          let other : tcap_at t y.frame ≡ tcap_at s y.frame = tcap_agree b y is_other in (
            (
              (refl, λ on. refl),
              λ calm. (
                (ap (λ (q : TcapFields). nat_lt q.budget m) one, λ on. ap (λ (q : TcapFields). Reply.Short q.budget) one),
                λ calm. (((λ i. not (are_alike (one i).qualities (other i).qualities)), λ on. refl), λ calm. tt),
              ),
            ),
            λ none. (refl, refl, ((named_at w a Kind.Tcap x refl is, named_at w b Kind.Tcap y refl is_other), tt)),
          ),
    ),
  )

  pub delegate_same : (a b m : ℕ) → SameRule r s c (delegate_rule t a b m) (delegate_rule s a b m)
  delegate_same a b m = (
    refl,
    refl,
    λ x is. (
      refl,
      refl,
      λ y is_other.
          let one : tcap_at t x.frame ≡ tcap_at s x.frame = tcap_agree a x is in
          let other : tcap_at t y.frame ≡ tcap_at s y.frame = tcap_agree b y is_other in
          let list : merged_list t x.frame y.frame ≡ merged_list s x.frame y.frame = λ i. merged (one i).qualities (other i).qualities in
          let first = named_at w a Kind.Tcap x refl is in
          let second = named_at w b Kind.Tcap y refl is_other in (
            (
              (refl, λ on. refl),
              λ calm. (
                (ap (λ (q : TcapFields). nat_lt q.budget m) one, λ on. ap (λ (q : TcapFields). Reply.Short q.budget) one),
                λ calm. ((ap (λ l. nat_lt 8 (length l)) list, λ on. refl), λ calm. tt),
              ),
            ),
            λ none. (refl, ap (λ l. Move x.frame y.frame m ∷ Merge y.frame l ∷ []) list, ((first, second), (second, tt))),
          ),
    ),
  )

  pub test_same : (a b : ℕ) → SameRule r s c (test_rule t a b) (test_rule s a b)
  test_same a b = (
    refl,
    refl,
    λ x is. (
      refl,
      refl,
      λ y is_other.
          let one : tcap_at t x.frame ≡ tcap_at s x.frame = tcap_agree a x is in
          let other : tcap_at t y.frame ≡ tcap_at s y.frame = tcap_agree b y is_other in (
            ((refl, λ on. refl), λ calm. tt),
            λ none. ((λ i. preemption (preempts (one i) (other i))), refl, tt),
          ),
    ),
  )

  -- ---- giving back

  pub replenish_same : (a m : ℕ) → SameRule r s c (replenish_rule t c a m) (replenish_rule s c a m)
  replenish_same a m = (
    refl,
    refl,
    λ x is.
        let one : tcap_at t x.frame ≡ tcap_at s x.frame = tcap_agree a x is in
        let core = core_agree w in (
          (
            ((λ i. not (covers (one i).qualities (core i).grant)), λ on. refl),
            λ calm. (
              (
                ap (λ (k : Core). nat_lt (outstanding k) m) core,
                λ on. ap (λ (k : Core). Reply.Short (Rattle.std.specs.Prelude.min (outstanding k) m)) core,
              ),
              λ calm. tt,
            ),
          ),
          λ none. (refl, refl, (named_at w a Kind.Tcap x refl is, tt)),
        ),
  )

-- ---- the whole machine

-- A component's liveness number is one of the machine's.
number_small : (epochs : ℕ) (x : Frame) → IsTrue (fits Kind.Comp x) → FrameInRange epochs x → (comp_in x).number < 64
number_small epochs (Kernel (Comp k)) fit range = range.number
number_small epochs _ fit range = absurd (false≢true fit)

module _ {t s : State} {o : ℕ → Bool} {c : ℕ} (w : Twins t s o c) where
  pub named_frame : (n : ℕ) (j : Kind) (k : Capability) → is_some_kind j ≡ true → named s c n (to_use (only j)) ≡ Found k
      → t.frame k.frame ≡ s.frame k.frame
  named_frame n j k some is = w.same.frame k.frame (fit_below s o j k.frame w.sound some (named_fit s o c n j k w.sound w.is_open is))

  -- A named table is a node.
  pub named_table : (n : ℕ) (k : Capability) → named s c n (to_use (only Kind.Table)) ≡ Found k → IsTrue (is_node (s.frame k.frame))
  named_table n k is = table_node (s.frame k.frame) (named_fit s o c n Kind.Table k w.sound w.is_open is)

  -- The liveness number of a component is the same.
  pub alive_same : (f : ℕ) → IsTrue (fits Kind.Comp (s.frame f))
      → t.number (comp_in (s.frame f)).number ≡ s.number (comp_in (s.frame f)).number
  alive_same f fit = w.same.number (comp_in (s.frame f)).number (number_small s.limits.epochs (s.frame f) fit (w.ranges.frames f))
