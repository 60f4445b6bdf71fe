-- Every decision keeps the lengths, lists, epochs and counts of a state in range.
use Rattle.found_stays.specs.kernel_rules.proofs as low
use low.{◌≡◌, ◌≢◌, ℕ, ◌+◌, ◌-◌, ◌*◌, ◌<◌, ◌≤◌, Bool, true, false, refl, sym, ◌∙◌, ap, subst, arith, min, ltb as nat_lt, if◌then◌else◌}
use low.{IsTrue, List, [], ◌∷◌, ◌++◌, length, length-append, drop, Option, Some, None, false≢true, eqb-true, ltb-true, InLimits}
use low.{IsQualityList, Call, Tick, Translation, ThreadFields, TcapFields, Comp, Thread, Tcap, Frame, Untyped, Kernel, Liveness, Unused}
use low.{Live, Dead, Core, put, thread_in, tcap_in, thread_of, Value, Change, does, epoch_of, caching, with_thread, with_stack, running}
use low.{tcap_at, with_tcap, with_budget, charge, Edit, Fill, Node, is_live_in, Become, Untype, Component, Deaden, Push, Pop, Cache, Charge}
use low.{Move, Merge, Give, edited, after_edits, NumberInRange, fits, is_node, put_same, put_other, Kind}
use Rattle.found_stays.specs.kernel_invariant.proofs.{put_all, IsOpen, Tested, Known, Each}
use Rattle.found_stays.specs.kernel_invariant.specs.{charged_by, charged_in, charged_all}
use Rattle.found_stays.specs.kernel_rules.specs.{State.State, Edits.Switch, Edits.Flush, Ranges.EpochInRange, Ranges.CompInRange}
use Rattle.found_stays.specs.kernel_rules.specs.{Ranges.ThreadInRange}
use Rattle.found_stays.specs.kernel_invariant.proofs.Edited.{Limited, Edits}
use Rattle.kernel_laws.proofs.Lists.{merged_list_is, merged_some}

-- A list of qualities has 1 to 8 pairs, in order and in range.
pub record ListInRange (qs : List (ℕ × ℕ)) : Type 0 where
  pub least : 1 ≤ length qs
  pub most : length qs ≤ 8
  pub pairs : IsQualityList qs

-- What a frame has is in range, but for a budget.
abbrev pub FrameShape : ℕ → Frame → Type 0
FrameShape epochs (Kernel (Comp k)) = CompInRange epochs k
FrameShape epochs (Kernel (Thread t)) = ThreadInRange t
FrameShape epochs (Kernel (Tcap q)) = ListInRange q.qualities
FrameShape epochs _ = Unit {0}

-- What a core has counted, has spent and owes, and has cached is in range.
pub record CoreShape (calls : ℕ) (k : Core) : Type 0 where
  pub counted : k.counted ≤ calls
  pub charged : k.spent + k.owed ≤ 1000000 * k.counted
  pub cached : length k.cached ≤ 64

-- A state is in range but for its budgets and spent ticks.
pub record Shaped (s : State) : Type 0 where
  pub frames : (f : ℕ) → FrameShape s.limits.epochs (s.frame f)
  pub numbers : (l : ℕ) → NumberInRange s.limits.epochs (s.number l)
  pub cores : (c : ℕ) → CoreShape s.limits.calls (s.core c)

-- A core has spent and owes at most 1,000,000 ticks more than before, and has counted as many calls.
pub record Grows (k m : Core) : Type 0 where
  pub counted : m.counted ≡ k.counted
  pub charged : m.spent + m.owed ≤ k.spent + k.owed + 1000000
  pub cached : length m.cached ≤ 64

-- A change of core c, but for the count of its call.
pub record ShapedBy (s : State) (c : ℕ) (change : Change) : Type 0 where
  pub frames : (f : ℕ) → FrameShape s.limits.epochs (change.next.frame f)
  pub numbers : (l : ℕ) → NumberInRange s.limits.epochs (change.next.number l)
  pub own : Grows (s.core c) (change.next.core c)
  pub others : (d : ℕ) → d ≢ c → change.next.core d ≡ s.core d

-- Frames and numbers are in range.
record Fits (epochs : ℕ) (frame : ℕ → Frame) (number : ℕ → Liveness) : Type 0 where
  frames : (f : ℕ) → FrameShape epochs (frame f)
  numbers : (l : ℕ) → NumberInRange epochs (number l)

-- Core c has counted as many calls, and has spent and owes at most n ticks more.
record CoresBy (s : State) (c n : ℕ) (core : ℕ → Core) : Type 0 where
  counted : (core c).counted ≡ (s.core c).counted
  charged : (core c).spent + (core c).owed ≤ (s.core c).spent + (s.core c).owed + n
  cached : length (s.core c).cached ≤ 64 → length (core c).cached ≤ 64
  others : (d : ℕ) → d ≢ c → core d ≡ s.core d

-- One frame is put.
frame_put : (e : ℕ) (frame : ℕ → Frame) (f : ℕ) (y : Frame) → ((g : ℕ) → FrameShape e (frame g)) → FrameShape e y → (g : ℕ)
    → FrameShape e (put frame f y g)
frame_put e frame f y h new g = put_all (λ g x. FrameShape e x) frame f y g (λ same. new) (λ other. h g)

-- Frames by what they have.
thread_shape : (e : ℕ) (x : Frame) (t : ThreadFields) → FrameShape e x → (ThreadInRange (thread_in x) → ThreadInRange t)
    → FrameShape e (with_thread x t)
thread_shape e (Kernel (Thread u)) t h new = new h
thread_shape e _ t h new = h

tcap_shape : (e : ℕ) (x : Frame) (q : TcapFields) → FrameShape e x → (ListInRange (tcap_in x).qualities → ListInRange q.qualities)
    → FrameShape e (with_tcap x q)
tcap_shape e (Kernel (Tcap p)) q h new = new h
tcap_shape e _ q h new = h

node_shape : (e : ℕ) (x : Frame) → IsTrue (is_node x) → FrameShape e x
node_shape e (Kernel (Comp k)) h = absurd (false≢true h)
node_shape e (Kernel (Thread t)) h = absurd (false≢true h)
node_shape e (Kernel (Tcap q)) h = absurd (false≢true h)
node_shape e _ h = tt

fresh_shape : (c : ℕ) (s : State) (e f : ℕ) (x : Frame) → Limited c s (Become f x) → FrameShape e x
fresh_shape c s e f (Kernel (Comp k)) h = absurd h
fresh_shape c s e f (Kernel (Thread t)) h = record { least = omega (arith, h); most = omega (arith, h) }
fresh_shape c s e f (Kernel (Tcap q)) h = (let n = h.0 in record { least = omega (arith, n); most = omega (arith, n); pairs = h.1 })
fresh_shape c s e f _ h = tt

-- The list of a frame with a temporal capability.
list_shape : (e : ℕ) (x : Frame) → IsTrue (fits Kind.Tcap x) → FrameShape e x → ListInRange (tcap_in x).qualities
list_shape e (Kernel (Tcap q)) fit h = h
list_shape e _ fit h = absurd (false≢true fit)

-- A number's next epoch, and that of one that is live.
next_epoch : (epochs : ℕ) (x : Liveness) → NumberInRange epochs x → epoch_of x ≢ epochs → EpochInRange epochs (epoch_of x + 1)
next_epoch epochs x h other = let most = below x h in record { least = omega arith; most = omega (arith, other, most) }
  where
    below : (x : Liveness) → NumberInRange epochs x → epoch_of x ≤ epochs
    below Unused r = omega arith
    below _ r = r.most

live_shape : (epochs e : ℕ) (x : Liveness) → is_live_in x e ≡ true → NumberInRange epochs x → EpochInRange epochs e
live_shape epochs e (Live d f) is h = subst (EpochInRange epochs) (eqb-true d e is) h
live_shape epochs e _ is h = absurd (false≢true is)

-- The stack of a core's thread.
stack_fits : (s : State) (c : ℕ) (stack : List ℕ) → (ThreadInRange (thread_of s c) → (1 ≤ length stack) × (length stack ≤ 16))
    → Fits s.limits.epochs s.frame s.number → Fits s.limits.epochs (with_stack s c stack).frame s.number
stack_fits s c stack new h = record {
  frames = frame_put s.limits.epochs s.frame (s.core c).thread _ h.frames
      (thread_shape s.limits.epochs (s.frame (s.core c).thread) (record (thread_of s c) { stack = stack }) (h.frames (s.core c).thread)
      (λ t. let n = new t in record { least = n.0; most = n.1 }));
  numbers = h.numbers;
}

running_fits : (s : State) (f : ℕ) (core : Option ℕ) → Fits s.limits.epochs s.frame s.number
    → Fits s.limits.epochs (running s f core).frame s.number
running_fits s f core h = record {
  frames = frame_put s.limits.epochs s.frame f _ h.frames
      (thread_shape s.limits.epochs (s.frame f) (record (thread_in (s.frame f)) { runs_on = core })
      (h.frames f) (λ t. record { least = t.least; most = t.most }));
  numbers = h.numbers;
}

tcap_puts : (s : State) (f : ℕ) (q : TcapFields) → (ListInRange (tcap_at s f).qualities → ListInRange q.qualities)
    → Fits s.limits.epochs s.frame s.number → Fits s.limits.epochs (put s.frame f (with_tcap (s.frame f) q)) s.number
tcap_puts s f q list h = record {
  frames = frame_put s.limits.epochs s.frame f _ h.frames (tcap_shape s.limits.epochs (s.frame f) q (h.frames f) list);
  numbers = h.numbers;
}

edit_fits : (c : ℕ) (s : State) (e : Edit) → Tested c s e → Limited c s e → Known c s e → Fits s.limits.epochs s.frame s.number
    → Fits s.limits.epochs (edited c s e).frame (edited c s e).number
edit_fits c s (Node f object) tested lim k h = record {
  frames = frame_put s.limits.epochs s.frame f (Kernel object) h.frames (node_shape s.limits.epochs (Kernel object) lim);
  numbers = h.numbers;
}
edit_fits c s (Become f x) tested lim k h = record {
  frames = frame_put s.limits.epochs s.frame f x h.frames (fresh_shape c s s.limits.epochs f x lim);
  numbers = h.numbers;
}
edit_fits c s (Untype f) tested lim k h =
    record { frames = frame_put s.limits.epochs s.frame f Untyped h.frames tt; numbers = h.numbers }
edit_fits c s (Component f fields) tested lim k h =
    let l : ℕ = fields.number in
    let epoch : EpochInRange s.limits.epochs fields.epoch =
    subst (EpochInRange s.limits.epochs) (sym tested.1) (next_epoch s.limits.epochs (s.number l) (h.numbers l) tested.2) in
    record {
      frames = frame_put s.limits.epochs s.frame f _ h.frames (record { number = lim; epoch = epoch });
      numbers = λ m. put_all (λ l x. NumberInRange s.limits.epochs x) s.number l _ m (λ same. epoch) (λ other. h.numbers m);
    }
edit_fits c s (Deaden l e) tested lim k h = record {
  frames = h.frames;
  numbers = λ m. put_all (λ l x. NumberInRange s.limits.epochs x) s.number l (Dead e) m
      (λ same. live_shape s.limits.epochs e (s.number l) tested (h.numbers l)) (λ other. h.numbers m);
}
edit_fits c s (Push f) tested lim k h =
    stack_fits s c (f ∷ (thread_of s c).stack) (λ t. (omega arith, omega (arith, tested))) h
edit_fits c s Pop tested lim k h = stack_fits s c (drop 1 (thread_of s c).stack) (λ t. dropped (thread_of s c).stack tested t.most) h
  where
    dropped : (fs : List ℕ) → 1 < length fs → length fs ≤ 16 → (1 ≤ length (drop 1 fs)) × (length (drop 1 fs) ≤ 16)
    dropped [] more most = absurd (omega (arith, more))
    dropped (f ∷ fs) more most = (omega (arith, more), omega (arith, most))
edit_fits c s (Switch g q) tested lim k h =
    running_fits (running s (s.core c).thread None) g (Some c) (running_fits s (s.core c).thread None h)
edit_fits c s (Charge n) tested lim k h = tcap_puts s (s.core c).tcap _ (λ l. l) h
edit_fits c s (Move a b m) tested lim k h =
    tcap_puts (with_budget s a ((tcap_at s a).budget - m)) b _ (λ l. l) (tcap_puts s a _ (λ l. l) h)
edit_fits c s (Give f m) tested lim k h = tcap_puts s f _ (λ l. l) h
edit_fits c s (Merge f qs) tested lim k h = tcap_puts s f _ (λ l. subst ListInRange (sym k.is) list) h
  where
    first : ListInRange (tcap_at s k.other).qualities
    first = list_shape s.limits.epochs (s.frame k.other) k.from.fit (h.frames k.other)

    second : ListInRange (tcap_at s f).qualities
    second = list_shape s.limits.epochs (s.frame f) k.to.fit (h.frames f)

    list : ListInRange (Rattle.found_stays.specs.kernel_rules.specs.TimeCalls.merged_list s k.other f)
    list = record {
      least = merged_some (tcap_at s k.other).qualities (tcap_at s f).qualities first.least;
      most = (let n = ap (λ (l : List (ℕ × ℕ)). length l) k.is in let few = k.few in omega (arith, n, few));
      pairs = merged_list_is (tcap_at s k.other).qualities (tcap_at s f).qualities first.pairs second.pairs;
    }
edit_fits c s _ tested lim k h = h

edits_fit : (c : ℕ) (s : State) (es : List Edit) → Each Tested c s es → Each Limited c s es → Each Known c s es
    → Fits s.limits.epochs s.frame s.number → Fits s.limits.epochs (after_edits c s es).frame (after_edits c s es).number
edits_fit c s [] tested lim k h = h
edits_fit c s (e ∷ es) tested lim k h =
    subst (λ n. Fits n (after_edits c s (e ∷ es)).frame (after_edits c s (e ∷ es)).number) (stay e)
    (edits_fit c (edited c s e) es tested.1 lim.1 k.1
    (subst (λ n. Fits n (edited c s e).frame (edited c s e).number) (sym (stay e)) (edit_fits c s e tested.0 lim.0 k.0 h)))
  where
    stay : (e : Edit) → (edited c s e).limits.epochs ≡ s.limits.epochs
    stay (Fill at k) = refl
    stay _ = refl

-- A list of translations keeps at most 64.
caching_short : (cached : List Translation) (t : Translation) → length cached ≤ 64 → length (caching cached t) ≤ 64
caching_short cached t h = tested (nat_lt (length cached) 64) refl
  where
    tested : (b : Bool) → nat_lt (length cached) 64 ≡ b → length (if b then cached ++ t ∷ [] else cached) ≤ 64
    tested false is = h
    tested true is =
        let less : length cached < 64 = ltb-true (length cached) 64 is in
        let n : length (cached ++ t ∷ []) ≡ length cached + 1 = length-append cached (t ∷ []) in
        omega (arith, less, n)

-- The cores.
same : (s : State) (c : ℕ) → CoresBy s c 0 s.core
same s c = record { counted = refl; charged = omega arith; cached = λ h. h; others = λ d other. refl }

own : (s : State) (c n : ℕ) (k : Core) → k.counted ≡ (s.core c).counted
    → k.spent + k.owed ≤ (s.core c).spent + (s.core c).owed + n
    → (length (s.core c).cached ≤ 64 → length k.cached ≤ 64) → CoresBy s c n (put s.core c k)
own s c n k counted charged cached = record {
  counted = ap (λ (x : Core). x.counted) (put_same s.core c k c refl) ∙ counted;
  charged = subst (λ (x : Core). x.spent + x.owed ≤ (s.core c).spent + (s.core c).owed + n) (sym (put_same s.core c k c refl)) charged;
  cached = λ h. subst (λ (x : Core). length x.cached ≤ 64) (sym (put_same s.core c k c refl)) (cached h);
  others = λ d other. put_other s.core c k d other;
}

edit_cores : (c : ℕ) (s : State) (e : Edit) → CoresBy s c (charged_in e).0 (edited c s e).core
edit_cores c s (Switch g q) = own s c 0 (record (s.core c) { thread = g; tcap = q }) refl (omega arith) (λ h. h)
edit_cores c s (Cache t) = own s c 0 _ refl (omega arith) (caching_short (s.core c).cached t)
edit_cores c s Flush = own s c 0 (record (s.core c) { cached = [] }) refl (omega arith) (λ h. omega arith)
edit_cores c s (Charge n) =
    let m : ℕ = charge s c (n + (s.core c).owed) in
    own s c n (record (s.core c) { spent = (s.core c).spent + m; owed = (n + (s.core c).owed) - m }) refl
    (let small : m ≤ n + (s.core c).owed = least (n + (s.core c).owed) (tcap_at s (s.core c).tcap).budget in omega (arith, small)) (λ h. h)
  where
    least : (a b : ℕ) → min a b ≤ a
    least a b = omega arith
edit_cores c s (Give f m) = own s c 0 (record (s.core c) { back = (s.core c).back + m }) refl (omega arith) (λ h. h)
edit_cores c s _ = same s c

edits_cores : (c : ℕ) (s : State) (es : List Edit) → CoresBy s c (charged_all es).0 (after_edits c s es).core
edits_cores c s [] = same s c
edits_cores c s (e ∷ []) = edit_cores c s e
edits_cores c s (e ∷ (x ∷ es)) =
    let a = edit_cores c s e in
    let b = edits_cores c (edited c s e) (x ∷ es) in
    record {
      counted = b.counted ∙ a.counted;
      charged = (let p = a.charged in let q = b.charged in omega (arith, p, q));
      cached = λ h. b.cached (a.cached h);
      others = λ d other. b.others d other ∙ a.others d other;
    }

-- Every call that is carried out.
pub shaped_by : (s : State) (o : ℕ → Bool) (c : ℕ) → IsOpen s o c → Shaped s → (call : Call) → InLimits call
    → (v : Value) (es : List Edit) → Edits call c s es → ShapedBy s c (does c s v es)
shaped_by s o c turn h call lim v es e = record {
  frames = f.frames;
  numbers = f.numbers;
  own = record {
    counted = k.counted;
    charged = (let a = k.charged in let b = ap (λ (p : ℕ × ℕ). p.0) e.agrees.3 in let d = small call lim in omega (arith, a, b, d));
    cached = k.cached (h.cores c).cached;
  };
  others = k.others;
}
  where
    f : Fits s.limits.epochs (after_edits c s es).frame (after_edits c s es).number
    f = edits_fit c s es e.tested (e.limited lim) (e.known o turn) (record { frames = h.frames; numbers = h.numbers })

    k : CoresBy s c (charged_all es).0 (after_edits c s es).core
    k = edits_cores c s es

    small : (call : Call) → InLimits call → (charged_by call).0 ≤ 1000000
    small (Tick n) lim = lim
    small _ lim = omega arith
