-- What decisions make of who has to flush: whoever waits for a thing that translations reach, has not flushed it; and what is
-- referenced, or not yet flushed by a core, stays so until that core flushes.
use Rattle.kernel_laws.proofs.{◌≡◌, ◌≢◌, ◌⊎◌, inl, inr, ℕ, zero, suc, ◌<◌, arith, Bool, true, false, not, refl, sym, ◌∙◌, ap, subst, cond}
use Rattle.kernel_laws.proofs.{IsTrue, List, [], ◌∷◌, Option, Some, None, false≢true, eqb-true, Capability, InLimits, Call, Tick, Value}
use Rattle.kernel_laws.proofs.{Reply, Holds, Pages, Pleaf, Frame, User, Kernel, Grace, Thing, PlaceOf, FrameOf, NumberOf, State, put}
use Rattle.kernel_laws.proofs.{no_grace, refs, new_grace, begun, lowest, unflushed_by, is_paging, is_translated, Change, Unflushed, Judged}
use Rattle.kernel_laws.proofs.{Refused, Found, IsFoundAnd, flushes_of, change_of, changed, counted, owed_by, state_by, MayReply, begins}
use Rattle.kernel_laws.proofs.{begins_in, ends, flushes, is_node, IfFound, put_same, put_other, IsOpen, grace_refs, Edit, Untype, Tested}
use Rattle.kernel_laws.proofs.{Each, Calm, found_by, core_same_refs, grace_is, flushed_by, ends_by_rule}
use Rattle.kernel_laws.specs.kernel_invariant.proofs.{some_none, RefsBy, is_typed, TurnsIn, decided_turns, begins_typed}
use Rattle.kernel_laws.specs.kernel_invariant.specs.{ends_in, ends_all}
use Rattle.kernel_laws.specs.kernel_invariant.proofs.{SoundRemovals.find_not, Refs.refs_by, RefsLaw.counted_refs, GraceChanges.grace_by}
use Rattle.kernel_laws.specs.kernel_invariant.proofs.{Releases.ends_begins, Ends.found_fact}
use Rattle.state_laws.specs.Cached.{IsUnflushedBy, IsStillThere}
use Rattle.state_laws.proofs.{Kept.is_kept, Kept.Kept, Kept.decided_kept, Gates.waited}
use Rattle.{kernel_laws.specs.kernel_rules.specs.GracePeriods.needs_flush, kernel_laws.specs.found_stays.proofs.SparesRuns.among}

-- Where no core is found that has not flushed a thing, none has not.
none_unflushed : (s : State) (x : Thing) → flushes_of s x ≡ None → (d : ℕ) → d < s.limits.cores → (s.grace x).unflushed d ≡ false
none_unflushed s x h d below =
    find_not (s.grace x).unflushed 0 s.limits.cores d (not_found (lowest s (s.grace x).unflushed) h) (omega arith) (omega (arith, below))
  where
    not_found : (w : Option ℕ) → unflushed_by w ≡ None → w ≡ None
    not_found None e = refl
    not_found (Some e) q = absurd (some_none (Reply.Unflushed e) q)

-- A frame whose grace period a decision ends is flushed by all cores.
AreFlushed : State → Thing → Type 0
AreFlushed s x = (d : ℕ) → d < s.limits.cores → (s.grace x).unflushed d ≡ false

edit_flushed : (d : ℕ) (s : State) (e : Edit) → Tested d s e → (f : ℕ) → ends_in e (FrameOf f) ≡ true → AreFlushed s (FrameOf f)
unfolding AreFlushed
edit_flushed d s (Untype g) tested f is = none_unflushed s (FrameOf f)
    (subst (λ (n : ℕ). flushes_of s (FrameOf n) ≡ None) (sym (eqb-true f g is)) tested)
edit_flushed d s _ tested f is = absurd (false≢true is)

edits_flushed : (d : ℕ) (s : State) (es : List Edit) → Calm d s es → Each Tested d s es → (f : ℕ) → ends_all es (FrameOf f) ≡ true
    → AreFlushed s (FrameOf f)
edits_flushed d s [] calm tested f is = absurd (false≢true is)
edits_flushed d s (e ∷ es) calm tested f is = edit_flushed d s e tested.0 f (sym (calm.1 (FrameOf f)) ∙ is)

frame_ends : (s : State) (d : ℕ) (call : Call) (r : Reply) (f : ℕ) → MayReply s d call r → ends call r (FrameOf f) ≡ true
    → AreFlushed s (FrameOf f)
frame_ends s d call (Reply.Ok v) f may is =
    found_fact (change_of s d call) (λ k. k.value ≡ v) (found_by s d call (λ change. AreFlushed s (FrameOf f))
    (λ v es e. edits_flushed d s es e.calm e.tested f (sym (e.agrees.0 (FrameOf f)) ∙ is))) may.1.1
frame_ends s d call _ f may is = absurd (false≢true is)

pub frame_flushed : (s : State) (d : ℕ) (call : Call) (r : Reply) (f : ℕ) → MayReply s d call r → ends call r (FrameOf f) ≡ true
    → (e : ℕ) → e < s.limits.cores → (s.grace (FrameOf f)).unflushed e ≡ false
unfolding AreFlushed
frame_flushed s d call r f may is = frame_ends s d call r f may is

-- A frame that is referenced is referenced after a decision, or its grace period has begun.
found_refs : (s : State) (c : ℕ) (v : Value) (x : Judged Change) → IfFound x (RefsBy s) → IsFoundAnd x (λ k. k.value ≡ v) → (f : ℕ)
    → 0 < refs s f
    → (0 < refs (counted (changed s x) c) f) ⊎ (begins_in x (FrameOf f) ≡ true)
found_refs s c v (Refused r) by ok f some = absurd ok
found_refs s c v (Found change) by ok f some = by_number (refs (counted (changed s (Found change)) c) f) refl
  where
    by_number : (n : ℕ) → refs (counted (changed s (Found change)) c) f ≡ n
        → (0 < refs (counted (changed s (Found change)) c) f) ⊎ (begins_in (Found change) (FrameOf f) ≡ true)
    by_number (suc n) is = inl (omega (arith, is))
    by_number zero is =
        let a = grace_refs change.next (begun s change.begins change.next).grace f in
        let b = by f in
        let d = counted_refs (begun s change.begins change.next) c f in
        inr (among f change.begins (omega (arith, some, is, a, b, d)))

owed_refs : (s : State) (c : ℕ) (call : Call) (f : ℕ) → refs (owed_by s c call) f ≡ refs s f
owed_refs s c (Tick n) f = core_same_refs s c _ refl refl f
owed_refs s c _ f = refl

pub decided_refs : (s : State) (o : ℕ → Bool) (c : ℕ) (call : Call) (r : Reply)
    → IsOpen s o c → InLimits call → MayReply s c call r → (f : ℕ)
    → 0 < refs s f
    → (0 < refs (state_by s c call r) f) ⊎ (begins s c call r (FrameOf f) ≡ true)
decided_refs s o c call (Reply.Ok v) h lim may f some =
    found_refs s c v (change_of s c call) (found_by s c call (RefsBy s) (refs_by s o c h call lim)) may.1.1 f some
decided_refs s o c call Reply.CallsSpent h lim may f some = inl some
decided_refs s o c call Reply.Raced h lim may f some =
    let a = counted_refs (owed_by s c call) c f in let b = owed_refs s c call f in inl (omega (arith, some, a, b))
decided_refs s o c call (Reply.Busy e) h lim may f some =
    let a = counted_refs (owed_by s c call) c f in let b = owed_refs s c call f in inl (omega (arith, some, a, b))
decided_refs s o c call _ h lim may f some = let a = counted_refs s c f in inl (omega (arith, some, a))

-- The unflushed after a decision.
module _ (s : State) (o : ℕ → Bool) (c : ℕ) (call : Call) (r : Reply)
    (h : IsOpen s o c) (lim : InLimits call) (may : MayReply s c call r) where
  cases : (b : Bool) → (b ≡ true) ⊎ (b ≡ false)
  cases true = inl refl
  cases false = inr refl

  grace_at : (x : Thing) → (state_by s c call r).grace x ≡ grace_by s c call r x
  grace_at x = grace_is s c call r may x

  -- A thing that needs a flush, and whose grace period begins, is unflushed by every core.
  begun_unflushed : (x : Thing) (d : ℕ) → begins s c call r x ≡ true → IsTrue (needs_flush s x) → IsUnflushedBy (state_by s c call r) d x
  begun_unflushed x d is need =
      ap (λ (g : Grace). g.unflushed d) (grace_at x)
      ∙ ap (λ b. (cond b (new_grace s x)
      (cond (ends call r x) no_grace (cond (flushes call r) (flushed_by c (s.grace x)) (s.grace x)))).unflushed d) is ∙ need

  -- What core d has not flushed, it has not flushed after another core's decision that does not end the grace period.
  kept_unflushed : (x : Thing) (d : ℕ) → begins s c call r x ≡ false → ends call r x ≡ false → (flushes call r ≡ true → d ≢ c)
      → IsUnflushedBy s d x
      → IsUnflushedBy (state_by s c call r) d x
  kept_unflushed x d not not_end other un =
      ap (λ (g : Grace). g.unflushed d) (grace_at x)
      ∙ ap (λ b. (cond b (new_grace s x)
      (cond (ends call r x) no_grace (cond (flushes call r) (flushed_by c (s.grace x)) (s.grace x)))).unflushed d) not
      ∙ ap (λ b. (cond b no_grace (cond (flushes call r) (flushed_by c (s.grace x)) (s.grace x))).unflushed d) not_end
      ∙ by_flush (flushes call r) refl
    where
      by_flush : (b : Bool) → flushes call r ≡ b → IsTrue ((cond b (flushed_by c (s.grace x)) (s.grace x)).unflushed d)
      by_flush false is = un
      by_flush true is = put_other (s.grace x).unflushed c false d (other is) ∙ un

  pub unflushed_stays : (x : Thing) (d : ℕ) → IsTrue (needs_flush s x) → (ends call r x ≡ true → ⊥) → (flushes call r ≡ true → d ≢ c)
      → IsUnflushedBy s d x
      → IsUnflushedBy (state_by s c call r) d x
  unflushed_stays x d need not_end other un = elim (cases (begins s c call r x)) [
    | inl is ↦ begun_unflushed x d is need
    | inr not ↦ elim (cases (ends call r x)) [
      | inl ends ↦ absurd (not_end ends)
      | inr stays ↦ kept_unflushed x d not stays other un
    ]
  ]

  kept : Kept s c call r
  kept = decided_kept s o c call r h may

  translated_kept : (x : Frame) → IsTrue (is_translated x) → IsTrue (is_kept x)
  translated_kept User n = refl
  translated_kept (Kernel Pages) n = refl
  translated_kept (Kernel Pleaf) n = refl
  translated_kept _ n = absurd (false≢true n)

  -- A frame that translations reach, and that is still there for core d, is not ended.
  not_ended : (d f : ℕ) → d < s.limits.cores → IsStillThere s d f → ends call r (FrameOf f) ≡ true → ⊥
  unfolding AreFlushed
  not_ended d f below (inl some) is = let zero = (ends_by_rule s o c h call r (FrameOf f) may is).0 in omega (arith, some, zero)
  not_ended d f below (inr un) is = false≢true (sym (frame_ends s c call r f may is d below) ∙ un)

  pub frame_stays : (d f : ℕ) → d < s.limits.cores → IsTrue (is_translated (s.frame f)) → IsStillThere s d f
      → (state_by s c call r).frame f ≡ s.frame f
  frame_stays d f below is there = elim (kept.frame f (translated_kept (s.frame f) is)) [
    | inl same ↦ same
    | inr ends ↦ absurd (not_ended d f below there ends)
  ]

  pub there_stays : (d f : ℕ) → d < s.limits.cores → IsTrue (is_translated (s.frame f)) → (flushes call r ≡ true → d ≢ c)
      → IsStillThere s d f → IsStillThere (state_by s c call r) d f
  there_stays d f below is other (inl some) = elim (decided_refs s o c call r h lim may f some) [
    | inl more ↦ inl more
    | inr begins ↦ inr (begun_unflushed (FrameOf f) d begins is)
  ]
  there_stays d f below is other (inr un) = inr (unflushed_stays (FrameOf f) d is (not_ended d f below (inr un)) other un)

  -- The end of a place's grace period is that of a blank frame.
  paging_ends : (f i : ℕ) → IsTrue (is_paging (s.frame f)) → ends call r (PlaceOf f i) ≡ true → ⊥
  paging_ends f i is ends = false≢true (ap is_paging (sym (ends_by_rule s o c h call r (PlaceOf f i) may ends)) ∙ is)

  pub place_unflushed : (d f i : ℕ) → IsTrue (is_paging (s.frame f)) → (flushes call r ≡ true → d ≢ c) → IsUnflushedBy s d (PlaceOf f i)
      → IsUnflushedBy (state_by s c call r) d (PlaceOf f i)
  place_unflushed d f i is other un = unflushed_stays (PlaceOf f i) d is (paging_ends f i is) other un

  pub place_holds : (d f i : ℕ) (k : Capability) → IsTrue (is_paging (s.frame f)) → s.place f i ≡ Holds k
      → ((state_by s c call r).place f i ≡ Holds k) ⊎ IsUnflushedBy (state_by s c call r) d (PlaceOf f i)
  place_holds d f i k is at = elim (kept.holds f i k at) [
    | inl same ↦ inl same
    | inr (inl begins) ↦ inr (begun_unflushed (PlaceOf f i) d begins is)
    | inr (inr ends) ↦ absurd (paging_ends f i is ends)
  ]

-- Who waits, and is in an open call, has not flushed; and nobody waits for a frame that is nothing.
pub record IsWaited (s : State) (o : ℕ → Bool) : Type 0 where
  pub unflushed : (x : Thing) (d : ℕ) → o d ≡ true → IsTrue ((s.grace x).waits d) → IsTrue (needs_flush s x) → IsUnflushedBy s d x
  pub bare : (f d : ℕ) → is_typed (s.frame f) ≡ false → (s.grace (FrameOf f)).waits d ≡ false

module _ (s : State) (o : ℕ → Bool) (c : ℕ) (call : Call) (r : Reply) (h : IsOpen s o c)
    (lim : InLimits call) (may : MayReply s c call r) (w : IsWaited s o) where
  two : (b : Bool) → (b ≡ true) ⊎ (b ≡ false)
  two true = inl refl
  two false = inr refl

  turns : (f : ℕ) → TurnsIn call r f (s.frame f) ((state_by s c call r).frame f)
  turns f = decided_turns s o c h call r f

  paging_node : (x : Frame) → IsTrue (is_paging x) → IsTrue (is_node x)
  paging_node (Kernel Pages) n = refl
  paging_node (Kernel Pleaf) n = refl
  paging_node _ n = absurd (false≢true n)

  -- What needs a flush after the decision needed one before, where its grace period is not ended, and somebody waits for it.
  needed : (x : Thing) (d : ℕ) → ends call r x ≡ false → (begins s c call r x ≡ true) ⊎ IsTrue ((s.grace x).waits d)
      → IsTrue (needs_flush (state_by s c call r) x) → IsTrue (needs_flush s x)
  needed (PlaceOf f i) d not why need = elim ((turns f).node i (paging_node _ need)) [
    | inl ends ↦ absurd (false≢true (sym not ∙ ends))
    | inr same ↦ subst (λ x. IsTrue (is_paging x)) same need
  ]
  needed (NumberOf l) d not why need = absurd (false≢true need)
  needed (FrameOf f) d not why need = elim ((turns f).typed (typed why)) [
    | inl ends ↦ absurd (false≢true (sym not ∙ ends))
    | inr is ↦ sym is.1 ∙ need
  ]
    where
      by_typed : (b : Bool) → is_typed (s.frame f) ≡ b → IsTrue ((s.grace (FrameOf f)).waits d) → IsTrue b
      by_typed true is wait = refl
      by_typed false is wait = absurd (false≢true (sym (w.bare f d is) ∙ wait))

      typed : (begins s c call r (FrameOf f) ≡ true) ⊎ IsTrue ((s.grace (FrameOf f)).waits d) → IsTrue (is_typed (s.frame f))
      typed (inl begins) = begins_typed s o c h call r f begins
      typed (inr wait) = by_typed (is_typed (s.frame f)) refl wait

  no_wait : (x : Thing) (d : ℕ) → begins s c call r x ≡ false → ends call r x ≡ true → (grace_by s c call r x).waits d ≡ false
  no_wait x d not is =
      ap (λ b. (cond b (new_grace s x) (cond (ends call r x) no_grace (cond (flushes call r) (flushed_by c (s.grace x)) (s.grace x)))).waits
      d) not
      ∙ ap (λ b. (cond b no_grace (cond (flushes call r) (flushed_by c (s.grace x)) (s.grace x))).waits d) is

  kept_waits : (x : Thing) (d : ℕ) → o d ≡ true → d ≢ c → begins s c call r x ≡ false → IsTrue ((grace_by s c call r x).waits d)
      → IsTrue (needs_flush (state_by s c call r) x)
      → IsUnflushedBy (state_by s c call r) d x
  kept_waits x d q other not wait need = elim (two (ends call r x)) [
    | inl ends ↦ absurd (false≢true (sym (no_wait x d not ends) ∙ wait))
    | inr stays ↦
        let was : IsTrue ((s.grace x).waits d) = waited s c call r x d not wait in
        let need' : IsTrue (needs_flush s x) = needed x d stays (inr was) need in
        unflushed_stays s o c call r h lim may x d need' (λ e. false≢true (sym stays ∙ e)) (λ f. other) (w.unflushed x d q was need')
  ]

  pub decided_waited : IsWaited (state_by s c call r) (put o c false)
  decided_waited = record {
    unflushed = λ x d q wait need.
        let other : d ≢ c = λ same. false≢true (sym (put_same o c false d same) ∙ q) in
        let was : o d ≡ true = sym (put_other o c false d other) ∙ q in
        let wait' : IsTrue ((grace_by s c call r x).waits d) = subst (λ (g : Grace). IsTrue (g.waits d)) (grace_is s c call r may x) wait in
        elim (two (begins s c call r x)) [
          | inl is ↦ begun_unflushed s o c call r h lim may x d is (needed x d (no_end x is) (inl is) need)
          | inr not ↦ kept_waits x d was other not wait' need
        ];
    bare = λ f d none. elim (two (begins s c call r (FrameOf f))) [
      | inl is ↦ elim ((turns f).typed (begins_typed s o c h call r f is)) [
        | inl ends ↦ absurd (false≢true (sym (ends_begins s o c call r (FrameOf f) h may ends) ∙ is))
        | inr typed ↦ absurd (false≢true (sym none ∙ typed.0))
      ]
      | inr not ↦ bare_waits f d none not (two (is_typed (s.frame f)))
    ];
  }
    where
      no_end : (x : Thing) → begins s c call r x ≡ true → ends call r x ≡ false
      no_end x is = by_end (ends call r x) refl
        where
          by_end : (b : Bool) → ends call r x ≡ b → b ≡ false
          by_end true e = absurd (false≢true (sym (ends_begins s o c call r x h may e) ∙ is))
          by_end false e = refl

      nobody : (b : Bool) → (IsTrue b → ⊥) → b ≡ false
      nobody true f = absurd (f refl)
      nobody false f = refl

      bare_waits : (f d : ℕ) → is_typed ((state_by s c call r).frame f) ≡ false → begins s c call r (FrameOf f) ≡ false
          → (is_typed (s.frame f) ≡ true) ⊎ (is_typed (s.frame f) ≡ false) → ((state_by s c call r).grace (FrameOf f)).waits d ≡ false
      bare_waits f d none not (inr old) =
          nobody (((state_by s c call r).grace (FrameOf f)).waits d) (λ wait.
          false≢true (sym (w.bare f d old)
          ∙ waited s c call r (FrameOf f) d not (subst (λ (g : Grace). IsTrue (g.waits d)) (grace_is s c call r may (FrameOf f)) wait)))
      bare_waits f d none not (inl typed) = elim ((turns f).typed typed) [
        | inl ends ↦ ap (λ (g : Grace). g.waits d) (grace_is s c call r may (FrameOf f)) ∙ no_wait (FrameOf f) d not ends
        | inr is ↦ absurd (false≢true (sym none ∙ is.0))
      ]
