-- Every call may be refused alike in two states that are one for the machine, one of them reached.
use Rattle.plain_kernel.specs.kernel_laws.proofs as low
use low.{◌≡◌, ℕ, ◌<◌, ◌==◌, Bool, true, false, not, ◌&&◌, refl, sym, ◌∙◌, ap, subst, leb as nat_le, ltb as nat_lt, if◌then◌else◌}
use low.{arith, [], length, Option, Some, None, IsTrue, min, false≢true, ltb-true, Capability, covers, InLimits, Kind, Translation}
use low.{Call, Retype, Make as make_call, Map, Touch, Gate, Kill, Ret, Switch}
use low.{Transfer, Delegate, Replenish, Limits, CompFields, ThreadFields, TcapFields, Object, State, comp_in, comp_of}
use low.{thread_in, tcap_in, Core, outstanding, to_use, Named, found, only, root, Judged, Refused, Found, named, name_of, is_live, epoch_of}
use low.{is_blank, not_blank, is_untyped, is_user, is_empty, translation_of, touch_by, retype_rule, switch_to, is_live_in, are_alike}
use low.{tcap_at, rule_of, fits, is_node, named_fit, FrameKind, Reply}
use Rattle.plain_kernel.specs.same_changes.proofs.{Twins, is_some_kind, fit_below, core_below, comp_same}
use Rattle.plain_kernel.specs.kernel_rules.specs.{merged, Make, not_found}
use Rattle.plain_kernel.specs.seq_plans.specs.{retype_beyond, judged_rule}
use Rattle.spk_nums.specs.{CallLimits.MakeInLimits, declared.calls.Call.TheVariants.Call as call_gate}
use Rattle.plain_kernel.specs.same_changes.proofs.Reaching.{pages_good, core_same, thread_same}
use Rattle.plain_kernel.specs.same_changes.proofs.CapabilityRules.{root_named, frame_test}
use Rattle.plain_kernel.specs.same_changes.proofs.MemoryRules.{named_pages, empty_same}
use Rattle.plain_kernel.specs.same_changes.proofs.TimeRules.{named_frame, named_table, alive_same, gate_comp}
use Rattle.call_judge.proofs.SameMay.{SameMayCause, SameMayRule}
use Rattle.{plain_kernel.specs.kernel_rules.specs.InvocationCalls.kill_comp}
use Rattle.{plain_kernel.specs.seq_state.proofs.Same.same_refs}

-- P holds of what a name leads to, where it holds of what was found and of what was not.
name_all : (P : Named → Type 0) (j : Judged Capability) → ((k : Capability) → j ≡ Found k → P (found k)) → P not_found → P (name_of j)
name_all P (Refused r) of_found of_none = of_none
name_all P (Found k) of_found of_none = of_found k refl

module _ {t s : State} {o : ℕ → Bool} {c : ℕ} (w : Twins t s o c) where
  table_root : (n : ℕ) → (let k : Named = name_of (named s c n (to_use (only Kind.Table))) in
      k.found ≡ true → IsTrue (is_node (s.frame k.frame)))
  table_root n = name_all (λ k. k.found ≡ true → IsTrue (is_node (s.frame k.frame))) (named s c n (to_use (only Kind.Table)))
      (λ k is on. named_table w n k is) (λ no. absurd (false≢true no))

  pages_root : (n : ℕ) → (let k : Named = name_of (named s c n (to_use (only Kind.Pages))) in
      k.found ≡ true → IsTrue (is_node (s.frame k.frame)))
  pages_root n = name_all (λ k. k.found ≡ true → IsTrue (is_node (s.frame k.frame))) (named s c n (to_use (only Kind.Pages)))
      (λ k is on. named_pages w n k is) (λ no. absurd (false≢true no))

  root_root : (n : ℕ) → (let k : Named = name_of (named s c n (to_use root)) in k.found ≡ true → IsTrue (is_node (s.frame k.frame)))
  root_root n = name_all (λ k. k.found ≡ true → IsTrue (is_node (s.frame k.frame))) (named s c n (to_use root))
      (λ k is on. root_named w n k is) (λ no. absurd (false≢true no))

  -- The machine has a frame 0, which stands for what was not found.
  some_frame : 0 < s.limits.frames
  some_frame =
      let below = fit_below s o Kind.Thread (s.core c).thread w.sound refl (w.sound.cores c (core_below w)).0 in
      omega (arith, below)

  -- The frame of what a name of this kind leads to is the same in both states.
  name_frame : (n : ℕ) (j : Kind) → is_some_kind j ≡ true
      → (let k : Named = name_of (named s c n (to_use (only j))) in t.frame k.frame ≡ s.frame k.frame)
  name_frame n j some = name_all (λ k. t.frame k.frame ≡ s.frame k.frame) (named s c n (to_use (only j)))
      (λ k is. named_frame w n j k some is) (w.same.frame 0 some_frame)

  blank_may : (f : ℕ) → SameMayCause w (not_blank t f) (not_blank s f)
  blank_may f = (frame_test w f (λ x. not (is_blank x)), λ on. refl)

  -- ---- capabilities

  make_node_may : (object : Object) (k : Kind) (r f x b : ℕ)
      → SameMayRule w (Rattle.plain_kernel.specs.kernel_rules.specs.CapabilityCalls.make_node t object k r f x b)
      (Rattle.plain_kernel.specs.kernel_rules.specs.CapabilityCalls.make_node s object k r f x b)
  make_node_may object k r f x b =
      (refl, refl, (refl, refl, (refl, table_root x, ((refl, λ on. refl), (blank_may f, tt)))))

  make_may : (what : Make) (r f x b : ℕ) → MakeInLimits what
      → SameMayRule w (Rattle.plain_kernel.specs.kernel_rules.specs.CapabilityCalls.make_rule t what r f x b)
      (Rattle.plain_kernel.specs.kernel_rules.specs.CapabilityCalls.make_rule s what r f x b)
  make_may Make.Table r f x b fit = make_node_may Rattle.plain_kernel.specs.kernel_rules.specs.State.Table Kind.Table r f x b
  make_may Make.Leaf r f x b fit = make_node_may Rattle.plain_kernel.specs.kernel_rules.specs.State.Leaf Kind.Leaf r f x b
  make_may Make.Pages r f x b fit = make_node_may Rattle.plain_kernel.specs.kernel_rules.specs.State.Pages Kind.Pages r f x b
  make_may Make.Pleaf r f x b fit = make_node_may Rattle.plain_kernel.specs.kernel_rules.specs.State.Pleaf Kind.Pleaf r f x b
  make_may (Make.Thread comp) r f x b fit =
      (refl, refl, (refl, refl, (refl, refl, (refl, table_root x, ((refl, λ on. refl), (blank_may f, tt))))))
  make_may (Make.Tcap sched quality) r f x b fit =
      (refl, refl, (refl, refl, (refl, table_root x, ((refl, λ on. refl), (blank_may f, tt)))))
  make_may (Make.Comp y p l) r f x b fit =
      let number = w.same.number l fit in (
        refl,
        refl,
        (
          refl,
          refl,
          (
            refl,
            refl,
            (
              refl,
              refl,
              (
                refl,
                table_root x,
                (
                  (refl, λ on. refl),
                  (
                    blank_may f,
                    (
                      (ap is_live number, λ on. refl),
                      ((refl, fit), (((λ i. epoch_of (number i) == (w.same.limits i).epochs), λ on. refl), tt)),
                    ),
                  ),
                ),
              ),
            ),
          ),
        ),
      )

  -- ---- memory

  retype_may : (r f : ℕ) → f < s.limits.frames
      → SameMayRule w (retype_rule t r f FrameKind.Untyped) (retype_rule s r f FrameKind.Untyped)
  retype_may r f below = (
    refl,
    refl,
    (
      (refl, λ on. refl),
      (
        (frame_test w f is_untyped, λ on. refl),
        (
          (ap (nat_lt 0) (same_refs t s f w.same), λ on. ap Reply.Referenced (same_refs t s f w.same)),
          (
            (refl, below),
            (
              (refl, below),
              (
                (ap not (ap (is_empty t f) (w.same.frame f below) ∙ empty_same w f (s.frame f) below), λ on. refl),
                tt,
              ),
            ),
          ),
        ),
      ),
    ),
  )

  user_may : (r f : ℕ) → SameMayRule w (retype_rule t r f FrameKind.User) (retype_rule s r f FrameKind.User)
  user_may r f = (refl, refl, ((refl, λ on. refl), ((frame_test w f (λ x. not (is_untyped x)), λ on. refl), tt)))

  kernel_may : (r f : ℕ) → SameMayRule w (retype_rule t r f FrameKind.Kernel) (retype_rule s r f FrameKind.Kernel)
  kernel_may r f = (refl, refl, ((refl, λ on. refl), ((frame_test w f (λ x. not (is_untyped x)), λ on. refl), tt)))

  touched_may : (v : ℕ) (tr : Option Translation)
      → SameMayRule w (touch_by (comp_of s c).pages v tr) (touch_by (comp_of s c).pages v tr)
  touched_may v (Some tr) = ((refl, λ on. refl), tt)
  touched_may v None = (refl, refl, pages_good w, λ mapping. tt)

  touch_may : (v : ℕ) → SameMayRule w (rule_of t c (Touch v)) (rule_of s c (Touch v))
  touch_may v =
      let pages : (comp_of t c).pages ≡ (comp_of s c).pages = ap (λ (k : CompFields). k.pages) (comp_same w) in
      let tr : translation_of (t.core c).cached (comp_of t c).pages v ≡ translation_of (s.core c).cached (comp_of s c).pages v = λ i.
      translation_of (core_same w i).cached (pages i) v in
      subst (λ r. SameMayRule w r (rule_of s c (Touch v))) (λ i. touch_by (sym pages i) v (sym tr i))
      (touched_may v (translation_of (s.core c).cached (comp_of s c).pages v))

  -- ---- invocation

  kill_found : (comp : Capability) → t.frame comp.frame ≡ s.frame comp.frame
      → t.number (comp_in (s.frame comp.frame)).number ≡ s.number (comp_in (s.frame comp.frame)).number
      → SameMayRule w (kill_comp t (found comp) (comp_in (t.frame comp.frame))) (kill_comp s (found comp) (comp_in (s.frame comp.frame)))
  kill_found comp frame number =
      let fields = comp_in (s.frame comp.frame) in
      subst (λ x. SameMayRule w (kill_comp t (found comp) (comp_in x)) (kill_comp s (found comp) fields)) (sym frame)
      ((ap (λ n. not (is_live_in n fields.epoch)) number, λ on. refl), tt)

  kill_may : (k : ℕ) → SameMayRule w (rule_of t c (Kill k)) (rule_of s c (Kill k))
  kill_may k = (
    refl,
    refl,
    name_all
        (λ comp. SameMayRule w (kill_comp t comp (comp_in (t.frame comp.frame))) (kill_comp s comp (comp_in (s.frame comp.frame))))
        (named s c k (to_use (only Kind.Comp)))
        (λ comp is. kill_found comp (named_frame w k Kind.Comp comp refl is)
        (alive_same w comp.frame (named_fit s _ c k Kind.Comp comp w.sound w.is_open is)))
        ((refl, λ on. refl), tt),
  )

  deep_same : nat_le 16 (length (Rattle.plain_kernel.specs.kernel_rules.specs.State.thread_of t c).stack)
      ≡ nat_le 16 (length (Rattle.plain_kernel.specs.kernel_rules.specs.State.thread_of s c).stack)
  deep_same = ap (λ (k : ThreadFields). nat_le 16 (length k.stack)) (thread_same w)

  call_may : (g : ℕ) → SameMayRule w (rule_of t c (call_gate g)) (rule_of s c (call_gate g))
  call_may g = (
    refl,
    refl,
    (
      (deep_same, λ on. refl),
      (
        name_all
            (λ gate. (gate.found && not (is_live_in (t.number (comp_in (t.frame gate.frame)).number) gate.arg)
            ≡ gate.found && not (is_live_in (s.number (comp_in (s.frame gate.frame)).number) gate.arg))
            × (gate.found && not (is_live_in (t.number (comp_in (t.frame gate.frame)).number) gate.arg) ≡ true → Reply.Dead ≡ Reply.Dead))
            (named s c g (to_use (only Kind.Gate)))
            (λ gate is.
            let frame = named_frame w g Kind.Gate gate refl is in
            let fit = gate_comp (s.frame gate.frame) (named_fit s _ c g Kind.Gate gate w.sound w.is_open is) in
            let number : t.number (comp_in (t.frame gate.frame)).number ≡ s.number (comp_in (s.frame gate.frame)).number =
            ap (λ x. t.number (comp_in x).number) frame ∙ alive_same w gate.frame fit in
            (ap (λ n. not (is_live_in n gate.arg)) number, λ on. refl))
            (refl, λ on. refl),
        tt,
      ),
    ),
  )

  switch_found : (h : Named) (q : ℕ) (e : Option ℕ) → SameMayRule w (switch_to h q e) (switch_to h q e)
  switch_found h q None = tt
  switch_found h q (Some e) = ((refl, λ on. refl), tt)

  switch_may : (h q : ℕ) → SameMayRule w (rule_of t c (Switch h q)) (rule_of s c (Switch h q))
  switch_may h q =
      let thread : Named = name_of (named s c h (to_use (only Kind.Thread))) in
      let tcap : Named = name_of (named s c q (to_use (only Kind.Tcap))) in (
        refl,
        refl,
        (
          refl,
          refl,
          subst (λ x. SameMayRule w (switch_to thread tcap.frame (thread_in x).runs_on)
              (switch_to thread tcap.frame (thread_in (s.frame thread.frame)).runs_on)) (sym (name_frame h Kind.Thread refl))
              (switch_found thread tcap.frame (thread_in (s.frame thread.frame)).runs_on),
        ),
      )

  ret_may : SameMayRule w (rule_of t c Ret) (rule_of s c Ret)
  ret_may = ((ap (λ (k : ThreadFields). nat_le (length k.stack) 1) (thread_same w), λ on. refl), tt)

  -- ---- time

  two_tcaps : (a b : ℕ) → (let x : Named = name_of (named s c a (to_use (only Kind.Tcap))) in tcap_at t x.frame ≡ tcap_at s x.frame)
      × (let y : Named = name_of (named s c b (to_use (only Kind.Tcap))) in tcap_at t y.frame ≡ tcap_at s y.frame)
  two_tcaps a b = (ap tcap_in (name_frame a Kind.Tcap refl), ap tcap_in (name_frame b Kind.Tcap refl))

  transfer_may : (a b m : ℕ) → SameMayRule w (rule_of t c (Transfer a b m)) (rule_of s c (Transfer a b m))
  transfer_may a b m =
      let x : Named = name_of (named s c a (to_use (only Kind.Tcap))) in
      let y : Named = name_of (named s c b (to_use (only Kind.Tcap))) in
      let one : tcap_at t x.frame ≡ tcap_at s x.frame = (two_tcaps a b).0 in
      let other : tcap_at t y.frame ≡ tcap_at s y.frame = (two_tcaps a b).1 in (
        refl,
        refl,
        (
          refl,
          refl,
          (
            (refl, λ on. refl),
            (
              (ap (λ (q : TcapFields). x.found && nat_lt q.budget m) one, λ on. ap (λ (q : TcapFields). Reply.Short q.budget) one),
              (((λ i. x.found && (y.found && not (are_alike (one i).qualities (other i).qualities))), λ on. refl), tt),
            ),
          ),
        ),
      )

  replenish_may : (a m : ℕ) → SameMayRule w (rule_of t c (Replenish a m)) (rule_of s c (Replenish a m))
  replenish_may a m =
      let x : Named = name_of (named s c a (to_use (only Kind.Tcap))) in
      let one : tcap_at t x.frame ≡ tcap_at s x.frame = (two_tcaps a a).0 in
      let core : t.core c ≡ s.core c = core_same w in (
        refl,
        refl,
        (
          ((λ i. x.found && not (covers (one i).qualities (core i).grant)), λ on. refl),
          (
            (
              ap (λ (k : Core). nat_lt (outstanding k) m) core,
              λ on. ap (λ (k : Core). Reply.Short (min (outstanding k) m)) core,
            ),
            tt,
          ),
        ),
      )

  delegate_may : (a b m : ℕ) → SameMayRule w (rule_of t c (Delegate a b m)) (rule_of s c (Delegate a b m))
  delegate_may a b m =
      let x : Named = name_of (named s c a (to_use (only Kind.Tcap))) in
      let y : Named = name_of (named s c b (to_use (only Kind.Tcap))) in
      let one : tcap_at t x.frame ≡ tcap_at s x.frame = (two_tcaps a b).0 in
      let other : tcap_at t y.frame ≡ tcap_at s y.frame = (two_tcaps a b).1 in (
        refl,
        refl,
        (
          refl,
          refl,
          (
            (refl, λ on. refl),
            (
              (ap (λ (q : TcapFields). x.found && nat_lt q.budget m) one, λ on. ap (λ (q : TcapFields). Reply.Short q.budget) one),
              (((λ i. x.found && (y.found && nat_lt 8 (length (merged (one i).qualities (other i).qualities)))), λ on. refl), tt),
            ),
          ),
        ),
      )

retype_judged : {t s : State} {o : ℕ → Bool} {c : ℕ} (w : Twins t s o c) (r f : ℕ)
    → SameMayRule w (judged_rule t c (Retype r f FrameKind.Untyped)) (judged_rule s c (Retype r f FrameKind.Untyped))
retype_judged {t} {s} {o} {c} w r f =
    subst (λ (l : Limits). SameMayRule w
    (if nat_lt f l.frames then retype_rule t r f FrameKind.Untyped else retype_beyond r f)
    (judged_rule s c (Retype r f FrameKind.Untyped))) (sym w.same.limits) (by_frame (nat_lt f s.limits.frames) refl)
  where
    by_frame : (b : Bool) → nat_lt f s.limits.frames ≡ b
        → SameMayRule w (if b then retype_rule t r f FrameKind.Untyped else retype_beyond r f)
        (if b then retype_rule s r f FrameKind.Untyped else retype_beyond r f)
    by_frame true below = retype_may w r f (ltb-true f s.limits.frames below)
    by_frame false past = (refl, refl, ((refl, λ on. refl), tt))

pub every_may : {t s : State} {o : ℕ → Bool} {c : ℕ} (w : Twins t s o c) (call : Call) → InLimits call
    → SameMayRule w (judged_rule t c call) (judged_rule s c call)
every_may w (Retype r f FrameKind.Untyped) fits = retype_judged w r f
every_may w (Retype r f FrameKind.User) fits = user_may w r f
every_may w (Retype r f FrameKind.Kernel) fits = kernel_may w r f
every_may w (make_call what r f x b) fits = make_may w what r f x b fits
every_may w (Map p v r f flags) fits =
    (refl, refl, (refl, refl, (refl, pages_root w p, ((refl, λ on. refl), ((frame_test w f (λ x. not (is_user x)), λ on. refl), tt)))))
every_may w (Touch v) fits = touch_may w v
every_may w (Kill k) fits = kill_may w k
every_may w (call_gate g) fits = call_may w g
every_may w Ret fits = ret_may w
every_may w (Switch h q) fits = switch_may w h q
every_may w (Transfer a b m) fits = transfer_may w a b m
every_may w (Delegate a b m) fits = delegate_may w a b m
every_may w (Replenish a m) fits = replenish_may w a m
every_may w _ fits = search (table_root w, pages_root w, root_root w)
