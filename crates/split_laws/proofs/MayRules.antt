-- Each call of core c may be refused alike in a state in which it finds the same, but for a refusal that tells of a frame outside.
use Rattle.same_changes.specs.kernel_laws.proofs as low
use low.{◌≡◌, ℕ, ◌==◌, Bool, true, false, not, ◌&&◌, refl, sym, ◌∙◌, ap, subst, ltb as nat_lt, leb as nat_le, length, min, inl, inr, Option}
use low.{Some, None, IsTrue, false≢true, covers, Kind, FrameKind, PageFlags, Call, Retype}
use low.{Make as make_call, Map, Touch, Gate, Kill, Ret, Switch, Transfer, Delegate, Replenish, Translation}
use low.{Reply, CompFields, ThreadFields, TcapFields, Object, Table, Leaf, Pages, Pleaf, Frame, Core, Limits, outstanding, State, thread_in}
use low.{comp_in, tcap_in, comp_of, refs, only, root, to_use, Named, RuleMay, is_live_in, is_blank, make_rule, is_live, epoch_of}
use low.{is_untyped, is_user, is_empty, retype_rule, translation_of, touch_by, switch_to, are_alike, tcap_at, rule_of, fits, named_fit}
use Rattle.world_laws.specs.kernel_rules.specs.{merged, Make, capability, make_node, map_rule, call_rule, switch_rule}
use Rattle.world_laws.specs.kernel_rules.specs.CapabilityCalls.{make_thread, make_tcap}
use Rattle.world_laws.specs.kernel_rules.specs.InvocationCalls.{kill_rule, ret_rule}
use Rattle.world_laws.specs.kernel_rules.specs.TimeCalls.{transfer_rule, delegate_rule}
use Rattle.same_changes.proofs.{Reaching.core_agree, Reaching.thread_agree, Reaching.comp_agree, Reaching.comp_parts, Reaching.pages_in}
use Rattle.same_changes.proofs.{Reaching.named_at, Reaching.found_part, Reaching.number_part, Reaching.root_within, MemoryRules.empty_agree}
use Rattle.split_laws.proofs.MayAlike.{Led, RuleAlike, may_alike}
use Rattle.{world_laws.specs.kernel_rules.specs.replenish_rule, same_changes.proofs.TwinsOn, same_changes.proofs.is_some_kind}
use Rattle.{world_laws.specs.spk_nums.specs.declared.calls.Call.TheVariants.Call as call_gate}
use Rattle.{world_laws.specs.kernel_rules.specs.CapabilityCalls.make_comp}
use Rattle.{world_laws.specs.kernel_rules.specs.MemoryCalls.touch_rule, same_changes.specs.Region.Region, same_changes.specs.Region.NamesIn}
use Rattle.{same_changes.proofs.TimeRules.gate_comp, split_laws.specs.Split.TellsOwn}

-- What holds where something was found.
where_found : (f x y : Bool) → (f ≡ true → x ≡ y) → (f && y) ≡ true → (f && x) ≡ true
where_found true x y same on = same refl ∙ on
where_found false x y same on = absurd (false≢true on)

module _ {w : Region} {t s : State} {o : ℕ → Bool} {c : ℕ} (l : TwinsOn w t s o c) (r : Reply) where
  -- ---- what a name has led to

  led_frame : (n : ℕ) (j : Kind) (k : Named) → is_some_kind j ≡ true → Led s c n (to_use (only j)) k → k.found ≡ true
      → w.frame k.frame ≡ true
  led_frame n j k some is on = named_at l n j (capability k) some (is on)

  led_table : (n : ℕ) (k : Named) → Led s c n (to_use (only Kind.Table)) k → k.found ≡ true → w.frame k.frame ≡ true
  led_table n k is on = led_frame n Kind.Table k refl is on

  led_pages : (n : ℕ) (k : Named) → Led s c n (to_use (only Kind.Pages)) k → k.found ≡ true → w.frame k.frame ≡ true
  led_pages n k is on = led_frame n Kind.Pages k refl is on

  led_root : (n : ℕ) (k : Named) → Led s c n (to_use root) k → k.found ≡ true → w.frame k.frame ≡ true
  led_root n k is on = root_within l n (capability k) (is on)

  tcap_same : (n : ℕ) (k : Named) → Led s c n (to_use (only Kind.Tcap)) k → k.found ≡ true → tcap_at t k.frame ≡ tcap_at s k.frame
  tcap_same n k is on = ap tcap_in (l.agree.frame k.frame (led_frame n Kind.Tcap k refl is on))

  number_same : (n : ℕ) (j : Kind) (k : Named) → is_some_kind j ≡ true → ((x : Frame) → IsTrue (fits j x) → IsTrue (fits Kind.Comp x))
      → Led s c n (to_use (only j)) k → k.found ≡ true
      → t.number (comp_in (t.frame k.frame)).number ≡ s.number (comp_in (s.frame k.frame)).number
  number_same n j k some comp is on =
      let at = led_frame n j k some is on in
      let fit = comp (s.frame k.frame) (named_fit s o c n j (capability k) l.sound l.is_open (is on)) in
      ap (λ x. t.number (comp_in x).number) (l.agree.frame k.frame at)
      ∙ l.agree.number (comp_in (s.frame k.frame)).number (comp_parts l k.frame at fit).2

  -- a cause about one of the machine's frames
  frame_test : (f : ℕ) (test : Frame → Bool) → w.frame f ≡ true
      → (nat_lt f s.limits.frames && test (s.frame f)) ≡ true → (nat_lt f t.limits.frames && test (t.frame f)) ≡ true
  frame_test f test of on = ap (λ (m : Limits). nat_lt f m.frames && test (t.frame f)) l.agree.limits
      ∙ ap (λ x. nat_lt f s.limits.frames && test x) (l.agree.frame f of) ∙ on

  -- ---- capabilities

  -- ---- making

  module _ (what : Make) (range f x b : ℕ) (tells : TellsOwn w.frame true (make_call what range f x b) r) where
    blank_alike : (nat_lt f s.limits.frames && not (is_blank (s.frame f))) ≡ true → r ≡ Reply.FrameKind
        → ((nat_lt f t.limits.frames && not (is_blank (t.frame f))) ≡ true) × (Reply.FrameKind ≡ Reply.FrameKind)
    blank_alike on is =
        (frame_test f (λ y. not (is_blank y)) (subst (TellsOwn w.frame true (make_call what range f x b)) is tells) on, refl)

    node_alike : (object : Object) (j : Kind) → RuleAlike w s c r (make_node t object j range f x b) (make_node s object j range f x b)
    node_alike object j = (
      refl,
      refl,
      λ k is. (
        refl,
        refl,
        λ table led. (
          refl,
          led_frame x Kind.Table table refl led,
          λ at. ((λ on is. (on, refl)), (blank_alike, λ none. none)),
        ),
      ),
    )

    thread_alike : (n : ℕ) → RuleAlike w s c r (make_thread t range f x b n) (make_thread s range f x b n)
    thread_alike n = (
      refl,
      refl,
      λ k is. (
        refl,
        refl,
        λ table led. (
          refl,
          refl,
          λ comp is. (
            refl,
            led_frame x Kind.Table table refl led,
            λ at. ((λ on is. (on, refl)), (blank_alike, λ none. none)),
          ),
        ),
      ),
    )

    tcap_alike : (sched quality : ℕ) → RuleAlike w s c r (make_tcap t range f x b sched quality) (make_tcap s range f x b sched quality)
    tcap_alike sched quality = (
      refl,
      refl,
      λ k is. (
        refl,
        refl,
        λ table led. (
          refl,
          led_frame x Kind.Table table refl led,
          λ at. ((λ on is. (on, refl)), (blank_alike, λ none. none)),
        ),
      ),
    )

    comp_alike : (y p n : ℕ) → w.number n ≡ true → RuleAlike w s c r (make_comp t range f x b y p n) (make_comp s range f x b y p n)
    comp_alike y p n of = (
      refl,
      refl,
      λ k is. (
        refl,
        refl,
        λ table led. (
          refl,
          refl,
          λ own_table is. (
            refl,
            refl,
            λ own_pages is. (
              refl,
              led_frame x Kind.Table table refl led,
              λ at. (
                (λ on is. (on, refl)),
                (
                  blank_alike,
                  (
                    (λ on is. (ap is_live (l.agree.number n of) ∙ on, refl)),
                    (
                      (refl, λ e is. of),
                      ((λ on is. ((λ i. epoch_of (l.agree.number n of i) == (l.agree.limits i).epochs) ∙ on, refl)), λ none. none),
                    ),
                  ),
                ),
              ),
            ),
          ),
        ),
      ),
    )

  make_alike : (what : Make) (range f x b : ℕ) → NamesIn w (make_call what range f x b)
      → TellsOwn w.frame true (make_call what range f x b) r
      → RuleAlike w s c r (make_rule t what range f x b) (make_rule s what range f x b)
  make_alike Make.Table range f x b names tells = node_alike Make.Table range f x b tells Table Kind.Table
  make_alike Make.Leaf range f x b names tells = node_alike Make.Leaf range f x b tells Leaf Kind.Leaf
  make_alike Make.Pages range f x b names tells = node_alike Make.Pages range f x b tells Pages Kind.Pages
  make_alike Make.Pleaf range f x b names tells = node_alike Make.Pleaf range f x b tells Pleaf Kind.Pleaf
  make_alike (Make.Thread n) range f x b names tells = thread_alike (Make.Thread n) range f x b tells n
  make_alike (Make.Tcap sched quality) range f x b names tells = tcap_alike (Make.Tcap sched quality) range f x b tells sched quality
  make_alike (Make.Comp y p n) range f x b names tells = comp_alike (Make.Comp y p n) range f x b tells y p n names

  -- ---- memory

  retype_alike : (range f : ℕ) (k : FrameKind) → TellsOwn w.frame true (Retype range f k) r
      → RuleAlike w s c r (retype_rule t range f k) (retype_rule s range f k)
  retype_alike range f FrameKind.Untyped tells = (
    refl,
    refl,
    λ k is. (
      (λ on is. (on, refl)),
      (
        (λ on is. (frame_test f is_untyped (here Reply.FrameKind is tells) on, refl)),
        (
          (λ on is.
              let same = l.referred f (here (Reply.Referenced (refs s f)) is tells) in
              (ap (nat_lt 0) same ∙ on, ap Reply.Referenced same)),
          (
            (refl, λ e is. here (Reply.Quiescing e) is tells),
            (
              (refl, λ e is. here (Reply.Unflushed e) is tells),
              (
                (λ on is.
                    let of = here Reply.NotEmpty is tells in
                    (ap (λ x. not (is_empty t f x)) (l.agree.frame f of) ∙ ap not (empty_agree t s f (s.frame f) of l.agree) ∙ on, refl)),
                λ none. none,
              ),
            ),
          ),
        ),
      ),
    ),
  )
    where
      here : (q : Reply) → r ≡ q → TellsOwn w.frame true (Retype range f FrameKind.Untyped) r
          → TellsOwn w.frame true (Retype range f FrameKind.Untyped) q
      here q is tells = subst (TellsOwn w.frame true (Retype range f FrameKind.Untyped)) is tells
  retype_alike range f FrameKind.User tells = (
    refl,
    refl,
    λ k is. (
      (λ on is. (on, refl)),
      (
        (λ on is. (
          frame_test f (λ x. not (is_untyped x)) (subst (TellsOwn w.frame true (Retype range f FrameKind.User)) is tells) on,
          refl,
        )),
        λ none. none,
      ),
    ),
  )
  retype_alike range f FrameKind.Kernel tells = (
    refl,
    refl,
    λ k is. (
      (λ on is. (on, refl)),
      (
        (λ on is. (
          frame_test f (λ x. not (is_untyped x)) (subst (TellsOwn w.frame true (Retype range f FrameKind.Kernel)) is tells) on,
          refl,
        )),
        λ none. none,
      ),
    ),
  )

  map_alike : (p v range f : ℕ) (flags : PageFlags) → TellsOwn w.frame true (Map p v range f flags) r
      → RuleAlike w s c r (map_rule t p v range f flags) (map_rule s p v range f flags)
  map_alike p v range f flags tells = (
    refl,
    refl,
    λ pages led. (
      refl,
      refl,
      λ k is. (
        refl,
        led_frame p Kind.Pages pages refl led,
        λ at. (
          (λ on is. (on, refl)),
          (
            (λ on is. (frame_test f (λ x. not (is_user x)) (subst (TellsOwn w.frame true (Map p v range f flags)) is tells) on, refl)),
            λ none. none,
          ),
        ),
      ),
    ),
  )

  touched_alike : (v : ℕ) (x : Option Translation)
      → RuleAlike w s c r (touch_by (comp_of s c).pages v x) (touch_by (comp_of s c).pages v x)
  touched_alike v (Some x) = ((λ on is. (on, refl)), λ none. none)
  touched_alike v None = (refl, refl, pages_in l, λ k. λ none. none)

  touch_alike : (v : ℕ) → RuleAlike w s c r (touch_rule t c v) (touch_rule s c v)
  touch_alike v =
      let pages : (comp_of t c).pages ≡ (comp_of s c).pages = ap (λ (k : CompFields). k.pages) (comp_agree l) in
      let x : translation_of (t.core c).cached (comp_of t c).pages v ≡ translation_of (s.core c).cached (comp_of s c).pages v = λ i.
      translation_of (core_agree l i).cached (pages i) v in
      subst (λ y. RuleAlike w s c r y (touch_rule s c v)) (λ i. touch_by (sym pages i) v (sym x i))
      (touched_alike v (translation_of (s.core c).cached (comp_of s c).pages v))

  -- ---- invocation

  kill_alike : (k : ℕ) → RuleAlike w s c r (kill_rule t k) (kill_rule s k)
  kill_alike k = (
    refl,
    refl,
    λ comp led. (
      (λ on is. (
        where_found comp.found (not (is_live_in (t.number (comp_in (t.frame comp.frame)).number) (comp_in (t.frame comp.frame)).epoch))
            (not (is_live_in (s.number (comp_in (s.frame comp.frame)).number) (comp_in (s.frame comp.frame)).epoch))
            (λ f i. not (is_live_in (number_same k Kind.Comp comp refl (λ x fit. fit) led f i)
            (comp_in (l.agree.frame comp.frame (led_frame k Kind.Comp comp refl led f) i)).epoch)) on,
        refl,
      )),
      λ none. none,
    ),
  )

  call_alike : (g : ℕ) → RuleAlike w s c r (call_rule t c g) (call_rule s c g)
  call_alike g = (
    refl,
    refl,
    λ gate led. (
      (λ on is. (ap (λ (k : ThreadFields). nat_le 16 (length k.stack)) (thread_agree l) ∙ on, refl)),
      (
        (λ on is. (
          where_found gate.found (not (is_live_in (t.number (comp_in (t.frame gate.frame)).number) gate.arg))
              (not (is_live_in (s.number (comp_in (s.frame gate.frame)).number) gate.arg))
              (λ f i. not (is_live_in (number_same g Kind.Gate gate refl gate_comp led f i) gate.arg)) on,
          refl,
        )),
        λ none. none,
      ),
    ),
  )

  ret_alike : RuleAlike w s c r (ret_rule t c) (ret_rule s c)
  ret_alike = ((λ on is. (ap (λ (k : ThreadFields). nat_le (length k.stack) 1) (thread_agree l) ∙ on, refl)), λ none. none)

  to_found : (h : Named) (q : ℕ) (o p : Option ℕ) → o ≡ p → RuleAlike w s c r (switch_to h q o) (switch_to h q p)
  to_found h q o p same = subst (λ o. RuleAlike w s c r (switch_to h q o) (switch_to h q p)) (sym same) (by_core p)
    where
      by_core : (p : Option ℕ) → RuleAlike w s c r (switch_to h q p) (switch_to h q p)
      by_core None = λ none. none
      by_core (Some e) = ((λ on is. (on, refl)), λ none. none)

  to_lost : (h : Named) (q : ℕ) (o p : Option ℕ) → h.found ≡ false → RuleAlike w s c r (switch_to h q o) (switch_to h q p)
  to_lost h q None None lost = λ none. none
  to_lost h q (Some e) None lost = tt
  to_lost h q None (Some d) lost = λ one. elim one [
    | inl this ↦ absurd (false≢true (sym lost ∙ this.0))
    | inr none ↦ none
  ]
  to_lost h q (Some e) (Some d) lost = ((λ on is. absurd (false≢true (sym lost ∙ on))), λ none. none)

  switch_alike : (h q : ℕ) → RuleAlike w s c r (switch_rule t h q) (switch_rule s h q)
  switch_alike h q = (refl, refl, λ thread led. (refl, refl, λ tcap is. by_found thread tcap led (thread.found) refl))
    where
      by_found : (thread tcap : Named) → Led s c h (to_use (only Kind.Thread)) thread → (b : Bool) → thread.found ≡ b
          → RuleAlike w s c r (switch_to thread tcap.frame (thread_in (t.frame thread.frame)).runs_on)
          (switch_to thread tcap.frame (thread_in (s.frame thread.frame)).runs_on)
      by_found thread tcap led true on = to_found thread tcap.frame (thread_in (t.frame thread.frame)).runs_on
          (thread_in (s.frame thread.frame)).runs_on
          (ap (λ x. (thread_in x).runs_on) (l.agree.frame thread.frame (led_frame h Kind.Thread thread refl led on)))
      by_found thread tcap led false lost = to_lost thread tcap.frame _ _ lost

  -- ---- time

  -- the budget that is short
  module _ (a m : ℕ) (k : Named) (led : Led s c a (to_use (only Kind.Tcap)) k) where
    short_alike : (k.found && nat_lt (tcap_at s k.frame).budget m) ≡ true
        → ((k.found && nat_lt (tcap_at t k.frame).budget m) ≡ true)
        × (Reply.Short (tcap_at t k.frame).budget ≡ Reply.Short (tcap_at s k.frame).budget)
    short_alike on =
        let same = ap (λ (q : TcapFields). q.budget) (tcap_same a k led (found_part k.found (nat_lt (tcap_at s k.frame).budget m) on)) in
        (ap (λ n. k.found && nat_lt n m) same ∙ on, ap Reply.Short same)

    -- a test of the temporal capabilities that two names have led to
    both_alike : (b : ℕ) (j : Named) (other : Led s c b (to_use (only Kind.Tcap)) j) (test : TcapFields → TcapFields → Bool)
        → (k.found && (j.found && test (tcap_at s k.frame) (tcap_at s j.frame))) ≡ true
        → (k.found && (j.found && test (tcap_at t k.frame) (tcap_at t j.frame))) ≡ true
    both_alike b j other test on =
        let one = found_part k.found (j.found && test (tcap_at s k.frame) (tcap_at s j.frame)) on in
        let two = found_part j.found (test (tcap_at s k.frame) (tcap_at s j.frame))
        (number_part k.found (j.found && test (tcap_at s k.frame) (tcap_at s j.frame)) on) in
        (λ i. k.found && (j.found && test (tcap_same a k led one i) (tcap_same b j other two i))) ∙ on

  transfer_alike : (a b m : ℕ) → RuleAlike w s c r (transfer_rule t a b m) (transfer_rule s a b m)
  transfer_alike a b m = (
    refl,
    refl,
    λ x one. (
      refl,
      refl,
      λ y two. (
        (λ on is. (on, refl)),
        (
          (λ on is. short_alike a m x one on),
          ((λ on is. (both_alike a m x one b y two (λ p q. not (are_alike p.qualities q.qualities)) on, refl)), λ none. none),
        ),
      ),
    ),
  )

  delegate_alike : (a b m : ℕ) → RuleAlike w s c r (delegate_rule t a b m) (delegate_rule s a b m)
  delegate_alike a b m = (
    refl,
    refl,
    λ x one. (
      refl,
      refl,
      λ y two. (
        (λ on is. (on, refl)),
        (
          (λ on is. short_alike a m x one on),
          (
            (λ on is. (
              both_alike a m x one b y two (λ p q. nat_lt 8 (length (merged p.qualities q.qualities))) on,
              refl,
            )),
            λ none. none,
          ),
        ),
      ),
    ),
  )

  replenish_alike : (a m : ℕ) → RuleAlike w s c r (replenish_rule t c a m) (replenish_rule s c a m)
  replenish_alike a m = (
    refl,
    refl,
    λ x led. (
      (λ on is. (
        where_found x.found (not (covers (tcap_at t x.frame).qualities (t.core c).grant))
            (not (covers (tcap_at s x.frame).qualities (s.core c).grant))
            (λ f i. not (covers (tcap_same a x led f i).qualities (core_agree l i).grant)) on,
        refl,
      )),
      (
        (λ on is. (
          ap (λ (k : Core). nat_lt (outstanding k) m) (core_agree l) ∙ on,
          ap (λ (k : Core). Reply.Short (min (outstanding k) m)) (core_agree l),
        )),
        λ none. none,
      ),
    ),
  )

  pub rule_alike : (call : Call) → NamesIn w call → TellsOwn w.frame true call r → RuleAlike w s c r (rule_of t c call) (rule_of s c call)
  rule_alike (Retype range f k) names tells = retype_alike range f k tells
  rule_alike (make_call what range f x b) names tells = make_alike what range f x b names tells
  rule_alike (Map p v range f flags) names tells = map_alike p v range f flags tells
  rule_alike (Touch v) names tells = touch_alike v
  rule_alike (Kill k) names tells = kill_alike k
  rule_alike (call_gate g) names tells = call_alike g
  rule_alike Ret names tells = ret_alike
  rule_alike (Switch h q) names tells = switch_alike h q
  rule_alike (Transfer a b m) names tells = transfer_alike a b m
  rule_alike (Delegate a b m) names tells = delegate_alike a b m
  rule_alike (Replenish a m) names tells = replenish_alike a m
  rule_alike _ names tells = search (led_table, led_pages, led_root)

-- A refusal of core c's call by its rule comes of the same in both states.
pub rule_may : {w : Region} {t s : State} {o : ℕ → Bool} {c : ℕ} → TwinsOn w t s o c → (call : Call) (r : Reply) → NamesIn w call
    → TellsOwn w.frame true call r → RuleMay s c (rule_of s c call) r → RuleMay t c (rule_of t c call) r
rule_may {t = t} {s = s} {c = c} l call r names tells = may_alike l r (rule_of t c call) (rule_of s c call)
    (rule_alike l r call names tells)
