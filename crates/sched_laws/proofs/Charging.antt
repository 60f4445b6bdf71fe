-- What the calls `switch` and `tick` of core 0, made alone, do to budgets and to what the core has spent, has had back, and owes.
use Rattle.sched_laws.proofs.Common.{◌≡◌, ◌≢◌, ℕ, ◌+◌, ◌-◌, ◌<◌, ◌≤◌, Bool, true, false, ◌==◌, refl, sym, ◌∙◌, ap, subst, arith}
use Rattle.sched_laws.proofs.Common.{if◌then◌else◌, Option, Some, None, option_and_then, eqb-true, eq-eqb, ne_eqb, false≢true, true≢false}
use Rattle.sched_laws.proofs.Common.{Capability, has_rights, Call, Switch, Tick, Reply, ThreadFields, TcapFields, Frame, Kernel, Thread}
use Rattle.sched_laws.proofs.Common.{Tcap, State, tcap_in, thread_in, put, Slot, Want, only, to_use, usable, reached, own, found, entered}
use Rattle.sched_laws.proofs.Common.{returned, acts, Change, Judged, Found, named, of_kind, with_rights, and_then, or_refuse, outcome}
use Rattle.sched_laws.proofs.Common.{switch_to, switch_rule, with_thread, running, switched, tcap_at, with_tcap, charge, are_calls_spent}
use Rattle.sched_laws.proofs.Common.{change_of, changed, counted, state_by, reply_in, first_reply, plain_reply, IfFound, AllChanges}
use Rattle.sched_laws.proofs.Common.{outcome_all, reach, reply_to, state_past, is_done, Kind}
use Rattle.{sched_rules.specs.kernel_rules.specs.Rules.Refused, sched_laws.specs.Charging.Charges}

-- ---- frames

thread_tcap : (x : Frame) (t : ThreadFields) → tcap_in (with_thread x t) ≡ tcap_in x
thread_tcap (Kernel (Thread old)) t = refl
thread_tcap _ t = refl

put_thread : (f : ℕ → Frame) (i g : ℕ) (t : ThreadFields) → tcap_in (put f i (with_thread (f i) t) g) ≡ tcap_in (f g)
put_thread f i g t = by_test (g == i) refl
  where
    by_test : (b : Bool) → (g == i) ≡ b → tcap_in (if b then with_thread (f i) t else f g) ≡ tcap_in (f g)
    by_test true on = thread_tcap (f i) t ∙ ap (λ k. tcap_in (f k)) (sym (eqb-true g i on))
    by_test false off = refl

with_tcap_in : (x : Frame) (p : TcapFields) → 0 < (tcap_in x).budget → tcap_in (with_tcap x p) ≡ p
with_tcap_in (Kernel (Tcap q)) p some = refl
with_tcap_in _ p some = absurd (omega (arith, some))

-- ---- `switch`

-- No budget has changed, nor what core 0 has spent, has had back, and owes.
pub record Keeps (s new : State) : Type 0 where
  pub budgets : (g : ℕ) → (tcap_at new g).budget ≡ (tcap_at s g).budget
  pub spent : (new.core 0).spent ≡ (s.core 0).spent
  pub back : (new.core 0).back ≡ (s.core 0).back
  pub owed : (new.core 0).owed ≡ (s.core 0).owed

pub same_keeps : (s : State) → Keeps s s
same_keeps s = record { budgets = λ g. refl; spent = refl; back = refl; owed = refl }

switches_keep : (s : State) (h q : ℕ) → Keeps s (switched s 0 h q)
switches_keep s h q = record {
  budgets = λ g. ap (λ (x : TcapFields). x.budget)
      (put_thread (running s (s.core 0).thread None).frame h g
      (record (thread_in ((running s (s.core 0).thread None).frame h)) { runs_on = Some 0 })
      ∙ put_thread s.frame (s.core 0).thread g (record (thread_in (s.frame (s.core 0).thread)) { runs_on = None }));
  spent = refl;
  back = refl;
  owed = refl;
}

change_keeps : (s : State) (h q : ℕ) → IfFound (change_of s 0 (Switch h q)) (λ change. Keeps s change.next)
change_keeps s h q = outcome_all (λ change. Keeps s change.next) s 0 (switch_rule s h q)
    (λ k l. by_runner k l (thread_in (s.frame k.frame)).runs_on)
  where
    by_runner : (k l : Capability) (o : Option ℕ) → AllChanges s 0 (λ change. Keeps s change.next) (switch_to (found k) l.frame o)
    by_runner k l None = switches_keep s k.frame l.frame
    by_runner k l (Some e) = switches_keep s k.frame l.frame

found_keeps : (s : State) (j : Judged Change) → IfFound j (λ change. Keeps s change.next) → Keeps s (changed s j)
found_keeps s (Refused r) h = same_keeps s
found_keeps s (Found change) h = record { budgets = h.budgets; spent = h.spent; back = h.back; owed = h.owed }

-- Whatever the reply.
by_reply : (s : State) (h q : ℕ) (r : Reply) → Keeps s (state_by s 0 (Switch h q) r)
by_reply s h q (Reply.Ok v) =
    let k = found_keeps s (change_of s 0 (Switch h q)) (change_keeps s h q) in
    record { budgets = k.budgets; spent = k.spent; back = k.back; owed = k.owed }
by_reply s h q Reply.CallsSpent = same_keeps s
by_reply s h q Reply.Raced = record { budgets = λ g. refl; spent = refl; back = refl; owed = refl }
by_reply s h q (Reply.Busy d) = record { budgets = λ g. refl; spent = refl; back = refl; owed = refl }
by_reply s h q _ = record { budgets = λ g. refl; spent = refl; back = refl; owed = refl }

pub switch_keeps : (s : State) (h q : ℕ) → Keeps s (state_past s (Switch h q))
unfolding state_past
switch_keeps s h q =
    let k = by_reply (entered s 0) h q (plain_reply s 0 (Switch h q)) in
    record { budgets = k.budgets; spent = k.spent; back = k.back; owed = k.owed }

-- A name that reaches a capability leads to it.
named_is : (s : State) (n : ℕ) (want : Want) (k : Capability) → reach s 0 n ≡ Some k → named s 0 n want ≡ of_kind want k
unfolding reach
named_is s n want k e = by_slot (reached s 0 (own s 0 n)) e
  where
    by_cap : (o : Option Capability) → o ≡ Some k → and_then (or_refuse o Reply.Empty) (of_kind want) ≡ of_kind want k
    by_cap None e = absurd (cc)
    by_cap (Some j) e = let same : j ≡ k = cc in ap (of_kind want) same

    by_slot : (o : Option Slot) → option_and_then (usable s 0) o ≡ Some k
        → and_then (or_refuse o Reply.NoSlot) (λ at. and_then (or_refuse (usable s 0 at) Reply.Empty) (of_kind want)) ≡ of_kind want k
    by_slot None e = absurd (cc)
    by_slot (Some at) e = by_cap (usable s 0 at) e

-- What is looked up of a kind, and found, is that capability; what is refused is not done.
kind_found : (want : Want) (k j : Capability) → of_kind want k ≡ Found j → j ≡ k
kind_found want k j e = by_kind (want.kinds k.kind) e
  where
    by_right : (b : Bool) → (if b then Found k else Refused Reply.NoRight) ≡ Found j → j ≡ k
    by_right true e = cc
    by_right false e = absurd (cc)

    by_kind : (b : Bool) → (if b then with_rights want.needs k else Refused Reply.WrongCap) ≡ Found j → j ≡ k
    by_kind true e = by_right (has_rights k.rights want.needs) e
    by_kind false e = absurd (cc)

-- A reply that a look-up refuses with is not done.
pub name_refused : (s : State) (n : ℕ) (want : Want) (r : Reply) → named s 0 n want ≡ Refused r → is_done r ≡ false
name_refused s n want r e = by_slot (reached s 0 (own s 0 n)) e
  where
    done_not : (p : Reply) → is_done p ≡ false → (let j : Judged Capability = Refused p in j ≡ Refused r) → is_done r ≡ false
    done_not p off e = let same : p ≡ r = cc in subst (λ x. is_done x ≡ false) same off

    by_right : (k : Capability) (b : Bool) → (if b then Found k else Refused Reply.NoRight) ≡ Refused r → is_done r ≡ false
    by_right k true e = absurd (cc)
    by_right k false e = done_not Reply.NoRight refl e

    by_kind : (k : Capability) (b : Bool) → (if b then with_rights want.needs k else Refused Reply.WrongCap) ≡ Refused r → is_done r ≡ false
    by_kind k true e = by_right k (has_rights k.rights want.needs) e
    by_kind k false e = done_not Reply.WrongCap refl e

    by_cap : (o : Option Capability) → and_then (or_refuse o Reply.Empty) (of_kind want) ≡ Refused r → is_done r ≡ false
    by_cap None e = done_not Reply.Empty refl e
    by_cap (Some k) e = by_kind k (want.kinds k.kind) e

    by_slot : (o : Option Slot)
        → and_then (or_refuse o Reply.NoSlot) (λ at. and_then (or_refuse (usable s 0 at) Reply.Empty) (of_kind want)) ≡ Refused r
        → is_done r ≡ false
    by_slot None e = done_not Reply.NoSlot refl e
    by_slot (Some at) e = by_cap (usable s 0 at) e

-- The core's temporal capability after what is judged, where it is carried out.
abbrev Sets : State → ℕ → Judged Change → Type 0
Sets s f j = is_done (reply_in j) ≡ true → ((changed s j).core 0).tcap ≡ f

judged_sets : (s : State) (h q : ℕ) (k : Capability) → reach s 0 q ≡ Some k → Sets s k.frame (change_of s 0 (Switch h q))
judged_sets s h q k at = by_thread (named s 0 h (to_use (only Kind.Thread))) refl
  where
    by_runner : (t l : Capability) → l ≡ k → (o : Option ℕ) → Sets s k.frame (outcome s 0 (switch_to (found t) l.frame o))
    by_runner t l same None done = ap (λ (x : Capability). x.frame) same
    by_runner t l same (Some e) done = absurd (false≢true done)

    by_tcap : (t : Capability) (x : Judged Capability) → named s 0 q (to_use (only Kind.Tcap)) ≡ x
        → Sets s k.frame (and_then x (λ l. outcome s 0 (switch_to (found t) l.frame (thread_in (s.frame t.frame)).runs_on)))
    by_tcap t (Refused r) is done = absurd (false≢true (sym (name_refused s q (to_use (only Kind.Tcap)) r is) ∙ done))
    by_tcap t (Found l) is done = by_runner t l
        (kind_found (to_use (only Kind.Tcap)) k l (sym (named_is s q (to_use (only Kind.Tcap)) k at) ∙ is))
        (thread_in (s.frame t.frame)).runs_on done

    by_thread : (x : Judged Capability) → named s 0 h (to_use (only Kind.Thread)) ≡ x
        → Sets s k.frame (and_then x (λ t. and_then (named s 0 q (to_use (only Kind.Tcap)))
        (λ l. outcome s 0 (switch_to (found t) l.frame (thread_in (s.frame t.frame)).runs_on))))
    by_thread (Refused r) is done = absurd (false≢true (sym (name_refused s h (to_use (only Kind.Thread)) r is) ∙ done))
    by_thread (Found t) is done = by_tcap t (named s 0 q (to_use (only Kind.Tcap))) refl done

pub done_value : (r : Reply) → is_done r ≡ true → (s : State) (call : Call)
    → state_by s 0 call r ≡ counted (changed s (change_of s 0 call)) 0
done_value (Reply.Ok v) done s call = refl
done_value _ done s call = absurd (false≢true done)

-- A `switch` that is carried out puts the core on the temporal capability that its name reaches.
pub switch_sets : (s : State) (h q : ℕ) (k : Capability) → reach s 0 q ≡ Some k → is_done (reply_to s (Switch h q)) ≡ true
    → ((state_past s (Switch h q)).core 0).tcap ≡ k.frame
unfolding reach reply_to state_past
switch_sets s h q k at done =
    ap (λ x. ((returned x 0).core 0).tcap) (done_value (plain_reply s 0 (Switch h q)) done (entered s 0) (Switch h q))
    ∙ judged_sets (entered s 0) h q k at (by_spent (are_calls_spent (entered s 0) 0) done)
  where
    judged : Reply
    judged = reply_in (change_of (entered s 0) 0 (Switch h q))

    by_life : (b : Bool) → is_done (if b then judged else Reply.Dead) ≡ true → is_done judged ≡ true
    by_life true e = e
    by_life false e = absurd (false≢true e)

    by_spent : (b : Bool) → is_done (if b then Reply.CallsSpent else first_reply (entered s 0) 0 (Switch h q)) ≡ true
        → is_done judged ≡ true
    by_spent true e = absurd (false≢true e)
    by_spent false e = by_life (acts (entered s 0) 0 (Switch h q)) e

-- ---- `tick`

abbrev charged : State → ℕ → ℕ
charged s u = charge (entered s 0) 0 (u + (s.core 0).owed)

abbrev left : State → ℕ → TcapFields
left s u = record (tcap_at s (s.core 0).tcap) { budget = (tcap_at s (s.core 0).tcap).budget - charged s u }

here : (s : State) (u f : ℕ) → f ≡ (s.core 0).tcap → 0 < (tcap_at s (s.core 0).tcap).budget
    → (tcap_in (put s.frame (s.core 0).tcap (with_tcap (s.frame (s.core 0).tcap) (left s u)) f)).budget
    ≡ (tcap_at s (s.core 0).tcap).budget - charged s u
here s u f same some =
    ap (λ b. (tcap_in (if b then with_tcap (s.frame (s.core 0).tcap) (left s u) else s.frame f)).budget) (eq-eqb f (s.core 0).tcap same)
    ∙ ap (λ (x : TcapFields). x.budget) (with_tcap_in (s.frame (s.core 0).tcap) (left s u) some)

elsewhere : (s : State) (u g : ℕ) → g ≢ (s.core 0).tcap
    → (tcap_in (put s.frame (s.core 0).tcap (with_tcap (s.frame (s.core 0).tcap) (left s u)) g)).budget ≡ (tcap_at s g).budget
elsewhere s u g other =
    ap (λ b. (tcap_in (if b then with_tcap (s.frame (s.core 0).tcap) (left s u) else s.frame g)).budget) (ne_eqb g (s.core 0).tcap other)

-- A `tick` that is carried out, of ticks that the current temporal capability has, charges them to it.
pub tick_charges : (s : State) (u : ℕ) → (s.core 0).owed ≡ 0 → 0 < (tcap_at s (s.core 0).tcap).budget
    → u ≤ (tcap_at s (s.core 0).tcap).budget → is_done (reply_to s (Tick u)) ≡ true
    → Charges s (state_past s (Tick u)) (s.core 0).tcap u
unfolding reply_to state_past
tick_charges s u owes some most done =
    let all : charged s u ≡ u = omega (arith, owes, most) in
    subst (λ x. Charges s (returned x 0) (s.core 0).tcap u) (sym (done_value (plain_reply s 0 (Tick u)) done (entered s 0) (Tick u)))
    (record {
      budget = (let b = here s u (s.core 0).tcap refl some in omega (arith, b, all, most));
      others = elsewhere s u;
      spent = omega (arith, all);
      back = refl;
      owed = omega (arith, all, owes);
    })

-- One that is refused changes nothing of this: the core's calls are spent.
pub tick_keeps : (s : State) (u : ℕ) → is_done (reply_to s (Tick u)) ≡ false → Keeps s (state_past s (Tick u))
unfolding reply_to state_past
tick_keeps s u off = by_spent (are_calls_spent (entered s 0) 0) off
  where
    by_spent : (b : Bool) → is_done (if b then Reply.CallsSpent else first_reply (entered s 0) 0 (Tick u)) ≡ false
        → Keeps s (returned (state_by (entered s 0) 0 (Tick u) (if b then Reply.CallsSpent else first_reply (entered s 0) 0 (Tick u))) 0)
    by_spent true e = record { budgets = λ g. refl; spent = refl; back = refl; owed = refl }
    by_spent false e = absurd (true≢false e)
