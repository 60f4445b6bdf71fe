-- How a core comes to work in another component: by a gate, by a return, or as another thread.
use Rattle.authority_laws.specs.kernel_laws.proofs as low
use low.{◌≡◌, ◌⊎◌, inl, inr, ℕ, ◌+◌, ◌-◌, ◌<◌, Bool, true, false, refl, sym, ◌∙◌, ap, subst, IsTrue, List, [], ◌∷◌, drop, Option, Some}
use low.{None, false≢true, Setting, IsSetting, Call, Reply, Blank, Thread, Tcap, Comp, Frame, Untyped, Kernel, ThreadFields, TcapFields}
use low.{Core, State, put, with_frame, comp_in, thread_in, thread_of, first_of_stack, fits, is_live_in, with_thread, tcap_at, with_tcap}
use low.{charge, Edit, Fill, Node, Become, Untype, Component, Push, Pop, Cache, Charge, Move, Merge, Give, edited, Event, Decides, after}
use low.{is_open, IsRun, put_same, after_edits, put_all, IsOpen, opened, open_is, runs_sound, limits_stay, is_bare, AreLater, Calm, Kind}
use Rattle.authority_laws.proofs.{By, EachBy, used_at, decided_from}
use Rattle.world_laws.specs.{works_in, lives_at, EntersBy}
use Rattle.authority_laws.specs.kernel_rules.specs.Edits.{Switch, Flush}
use Rattle.authority_laws.proofs.Acts.{Enters, GoesOn}
use Rattle.{authority_laws.specs.state_laws.proofs.Gates.gates_fit, authority_laws.specs.Authority.Stays, world_laws.specs.Laws.EnteredBy}

abbrev stack_at : State → ℕ → List ℕ
stack_at t f = (thread_in (t.frame f)).stack

-- From s to t core c stays where it works, while its thread stays one; it enters a component; it leaves one; it goes on as a thread.
record Remains (s : State) (c : ℕ) (t : State) : Type 0 where
  thread : (t.core c).thread ≡ (s.core c).thread
  stack : Stays Kind.Thread (s.frame (s.core c).thread) (t.frame (s.core c).thread) → stack_at t (s.core c).thread ≡ (thread_of s c).stack

record Enter (act : Call) (s : State) (c : ℕ) (t : State) : Type 0 where
  comp : ℕ
  by_gate : Enters act s c comp
  thread : (t.core c).thread ≡ (s.core c).thread
  stack : stack_at t (s.core c).thread ≡ comp ∷ (thread_of s c).stack

record Leave (act : Call) (s : State) (c : ℕ) (t : State) : Type 0 where
  is : act ≡ Call.Ret
  thread : (t.core c).thread ≡ (s.core c).thread
  stack : stack_at t (s.core c).thread ≡ drop 1 (thread_of s c).stack

record GoOn (act : Call) (s : State) (c : ℕ) (t : State) : Type 0 where
  next : ℕ
  tcap : ℕ
  goes : GoesOn act s c next tcap
  thread : (t.core c).thread ≡ next
  stack : stack_at t next ≡ stack_at s next

abbrev Goes : Call → State → ℕ → State → Type 0
Goes act s c t = Remains s c t ⊎ (Enter act s c t ⊎ (Leave act s c t ⊎ GoOn act s c t))

-- ---- frames

no_thread : (x : Frame) → IsTrue (is_bare x) → IsTrue (fits Kind.Thread x) → ⊥
no_thread (Kernel Blank) b h = false≢true h
no_thread Untyped b h = false≢true h
no_thread _ b h = false≢true b

tcap_stack : (x : Frame) (q : TcapFields) → (thread_in (with_tcap x q)).stack ≡ (thread_in x).stack
tcap_stack (Kernel (Tcap p)) q = refl
tcap_stack _ q = refl

tcap_thread : (x : Frame) (q : TcapFields) → IsTrue (fits Kind.Thread (with_tcap x q)) → IsTrue (fits Kind.Thread x)
tcap_thread (Kernel (Tcap p)) q h = absurd (false≢true h)
tcap_thread _ q h = h

runs_stack : (x : Frame) (r : Option ℕ) → (thread_in (with_thread x (record (thread_in x) { runs_on = r }))).stack ≡ (thread_in x).stack
runs_stack (Kernel (Thread t)) r = refl
runs_stack _ r = refl

thread_stack : (x : Frame) (t : ThreadFields) → IsTrue (fits Kind.Thread x) → (thread_in (with_thread x t)).stack ≡ t.stack
thread_stack (Kernel (Thread u)) t h = refl
thread_stack _ t h = absurd (false≢true h)

-- A frame becomes another.
put_stack : (frames : ℕ → Frame) (f : ℕ) (y : Frame)
    → (Stays Kind.Thread (frames f) y → (thread_in y).stack ≡ (thread_in (frames f)).stack) → (g : ℕ)
    → Stays Kind.Thread (frames g) (put frames f y g) → (thread_in (put frames f y g)).stack ≡ (thread_in (frames g)).stack
put_stack frames f y h g = put_all (λ g x. Stays Kind.Thread (frames g) x → (thread_in x).stack ≡ (thread_in (frames g)).stack) frames f y g
    (λ same. subst (λ n. Stays Kind.Thread (frames n) y → (thread_in y).stack ≡ (thread_in (frames n)).stack) (sym same) h)
    (λ other stays. refl)

-- So they are where a temporal capability takes the place of one.
tcaps_stack : (frames : ℕ → Frame) (f : ℕ) (q : TcapFields) (g : ℕ)
    → (thread_in (put frames f (with_tcap (frames f) q) g)).stack ≡ (thread_in (frames g)).stack
tcaps_stack frames f q g = put_all (λ g x. (thread_in x).stack ≡ (thread_in (frames g)).stack) frames f (with_tcap (frames f) q) g
    (λ same. tcap_stack (frames f) q ∙ ap (λ n. (thread_in (frames n)).stack) (sym same)) (λ other. refl)

tcaps_thread : (frames : ℕ → Frame) (f : ℕ) (q : TcapFields) (g : ℕ)
    → IsTrue (fits Kind.Thread (put frames f (with_tcap (frames f) q) g)) → IsTrue (fits Kind.Thread (frames g))
tcaps_thread frames f q g = put_all (λ g x. IsTrue (fits Kind.Thread x) → IsTrue (fits Kind.Thread (frames g))) frames f
    (with_tcap (frames f) q) g
    (λ same fit. subst (λ n. IsTrue (fits Kind.Thread (frames n))) (sym same) (tcap_thread (frames f) q fit)) (λ other fit. fit)

module _ (act : Call) (s : State) (c : ℕ) (own : IsTrue (fits Kind.Thread (s.frame (s.core c).thread))) where
  frame_goes : (f : ℕ) (y : Frame) → (Stays Kind.Thread (s.frame f) y → (thread_in y).stack ≡ (thread_in (s.frame f)).stack)
      → Remains s c (with_frame s f y)
  frame_goes f y h = record { thread = refl; stack = put_stack s.frame f y h (s.core c).thread }

  bare_goes : (f : ℕ) (y : Frame) → IsTrue (is_bare (s.frame f)) → Remains s c (with_frame s f y)
  bare_goes f y bare = frame_goes f y (λ stays. absurd (no_thread (s.frame f) bare stays.0))

  tcap_goes : (f : ℕ) (q : TcapFields) → Remains s c (with_frame s f (with_tcap (s.frame f) q))
  tcap_goes f q = frame_goes f (with_tcap (s.frame f) q) (λ stays. tcap_stack (s.frame f) q)

  stack_put : (stack : List ℕ)
      → (thread_in (put s.frame (s.core c).thread
      (with_thread (s.frame (s.core c).thread) (record (thread_of s c) { stack = stack })) (s.core c).thread)).stack ≡ stack
  stack_put stack = ap (λ x. (thread_in x).stack) (put_same s.frame (s.core c).thread
      (with_thread (s.frame (s.core c).thread) (record (thread_of s c) { stack = stack })) (s.core c).thread refl)
      ∙ thread_stack (s.frame (s.core c).thread) (record (thread_of s c) { stack = stack }) own

  -- a state with the same core but for other fields
  core_goes : (t : State) (k : Core) → k.thread ≡ (t.core c).thread → (put t.core c k c).thread ≡ (t.core c).thread
  core_goes t k same = ap (λ x. x.thread) (put_same t.core c k c refl) ∙ same

  edit_goes : (e : Edit) → By act s c e → Goes act s c (edited c s e)
  edit_goes (Node f object) by =
      let r = bare_goes f (Kernel object) by.1 in
      inl (record { thread = r.thread; stack = r.stack })
  edit_goes (Become f x) by = inl (bare_goes f x by.1)
  edit_goes (Untype f) by =
      let r = frame_goes f Untyped (λ stays. absurd (false≢true stays.1)) in
      inl (record { thread = r.thread; stack = r.stack })
  edit_goes (Component f k) by =
      let r = bare_goes f (Kernel (Comp k)) by.1 in
      inl (record { thread = r.thread; stack = r.stack })
  edit_goes (Push f) by =
      inr (inl (record { comp = f; by_gate = by; thread = refl; stack = stack_put (f ∷ (thread_of s c).stack) }))
  edit_goes Pop by = inr (inr (inl (record { is = by; thread = refl; stack = stack_put (drop 1 (thread_of s c).stack) })))
  edit_goes (Switch h q) by =
      let old : ℕ = (s.core c).thread in
      let waits : Frame = with_thread (s.frame old) (record (thread_in (s.frame old)) { runs_on = None }) in
      let idle : ℕ → Frame = put s.frame old waits in
      let runs : Frame = with_thread (idle h) (record (thread_in (idle h)) { runs_on = Some c }) in
      inr (inr (inr (record {
        next = h;
        tcap = q;
        goes = by;
        thread = ap (λ x. x.thread) (put_same s.core c (record (s.core c) { thread = h; tcap = q }) c refl);
        stack = ap (λ x. (thread_in x).stack) (put_same idle h runs h refl) ∙ runs_stack (idle h) (Some c)
            ∙ put_all (λ g x. (thread_in x).stack ≡ (thread_in (s.frame g)).stack) s.frame old waits h
            (λ same. runs_stack (s.frame old) None ∙ ap (λ n. (thread_in (s.frame n)).stack) (sym same)) (λ other. refl);
      })))
  edit_goes (Cache t) by = inl (record { thread = core_goes s _ refl; stack = λ stays. refl })
  edit_goes Flush by = inl (record { thread = core_goes s _ refl; stack = λ stays. refl })
  edit_goes (Charge n) by =
      let q : ℕ = (s.core c).tcap in
      let r = tcap_goes q (record (tcap_at s q) { budget = (tcap_at s q).budget - charge s c (n + (s.core c).owed) }) in
      inl (record { thread = core_goes s _ refl; stack = r.stack })
  edit_goes (Move a b m) by =
      let q : TcapFields = record (tcap_at s a) { budget = (tcap_at s a).budget - m } in
      let u : State = with_frame s a (with_tcap (s.frame a) q) in
      inl (record {
        thread = refl;
        stack = λ stays. tcaps_stack u.frame b (record (tcap_at u b) { budget = (tcap_at s b).budget + m }) (s.core c).thread
            ∙ tcaps_stack s.frame a q (s.core c).thread;
      })
  edit_goes (Merge f qs) by = inl (tcap_goes f (record (tcap_at s f) { qualities = qs }))
  edit_goes (Give f m) by =
      let r = tcap_goes f (record (tcap_at s f) { budget = (tcap_at s f).budget + m }) in
      inl (record { thread = core_goes s _ refl; stack = r.stack })
  edit_goes _ by = inl (record { thread = refl; stack = λ stays. refl })

  -- what changes no core, and no stack
  goes_on : (u v : State) → (v.core c).thread ≡ (u.core c).thread → ((g : ℕ) → stack_at v g ≡ stack_at u g)
      → ((g : ℕ) → IsTrue (fits Kind.Thread (v.frame g)) → IsTrue (fits Kind.Thread (u.frame g))) → Goes act s c u → Goes act s c v
  goes_on u v core stack back (inl r) = inl (record {
    thread = core ∙ r.thread;
    stack = λ stays. stack (s.core c).thread ∙ r.stack (stays.0, back (s.core c).thread stays.1);
  })
  goes_on u v core stack back (inr (inl r)) = inr (inl (record {
    comp = r.comp;
    by_gate = r.by_gate;
    thread = core ∙ r.thread;
    stack = stack (s.core c).thread ∙ r.stack;
  }))
  goes_on u v core stack back (inr (inr (inl r))) =
      inr (inr (inl (record { is = r.is; thread = core ∙ r.thread; stack = stack (s.core c).thread ∙ r.stack })))
  goes_on u v core stack back (inr (inr (inr r))) = inr (inr (inr (record {
    next = r.next;
    tcap = r.tcap;
    goes = r.goes;
    thread = core ∙ r.thread;
    stack = stack r.next ∙ r.stack;
  })))

  later_goes : (t : State) (es : List Edit) → AreLater es → Goes act s c t → Goes act s c (after_edits c t es)
  later_goes t [] are h = h
  later_goes t (Fill at k ∷ es) are h = later_goes (edited c t (Fill at k)) es are
      (goes_on t (edited c t (Fill at k)) refl (λ g. refl) (λ g fit. fit) h)
  later_goes t (Merge f qs ∷ es) are h = later_goes (edited c t (Merge f qs)) es are
      (goes_on t (edited c t (Merge f qs)) refl
      (tcaps_stack t.frame f (record (tcap_at t f) { qualities = qs }))
      (tcaps_thread t.frame f (record (tcap_at t f) { qualities = qs })) h)
  later_goes t (_ ∷ es) are h = absurd are

  same_goes : Goes act s c s
  same_goes = inl (record { thread = refl; stack = λ stays. refl })

  edits_goes : (es : List Edit) → Calm c s es → EachBy act s c es → Goes act s c (after_edits c s es)
  edits_goes [] calm by = same_goes
  edits_goes (e ∷ es) calm by = later_goes (edited c s e) es calm.2 (edit_goes e by.0)

-- ---- the law

module _ (setting : Setting) (lim : IsSetting setting) (events : List Event) (c : ℕ) (act : Call) (r : Reply)
    (run : IsRun setting (Decides c act r ∷ events)) (w : ℕ → Bool) where
  abbrev s : State
  s = after setting events

  abbrev t : State
  t = after setting (Decides c act r ∷ events)

  open_call : IsOpen s (opened events) c
  open_call = open_is setting lim events c run.0 (ap is_open run.1.is_open)

  below : c < s.limits.cores
  below = (open_call.sound.inside c open_call.is).1

  own : IsTrue (fits Kind.Thread (s.frame (s.core c).thread))
  own = (open_call.sound.cores c below).0

  own_after : IsTrue (fits Kind.Thread (t.frame (t.core c).thread))
  own_after = ((runs_sound setting lim (Decides c act r ∷ events) run).cores c
      (subst (λ l. c < l.cores) (limits_stay setting events
      ∙ sym (limits_stay setting (Decides c act r ∷ events))) below)).0

  goes : Goes act s c t
  goes = decided_from s c (opened events) open_call act (Goes act s c) (same_goes act s c own)
      (λ u k same spent h. goes_on act s c own u _ (core_goes act s c own u k same) (λ g. refl) (λ g fit. fit) h)
      (λ u g h. goes_on act s c own u _ refl (λ g. refl) (λ g fit. fit) h)
      (λ es calm by. edits_goes act s c own es calm by) r run.1.permitted

  -- where core c works after, by its thread and that thread's stack
  top : (h : ℕ) (stack : List ℕ) → (t.core c).thread ≡ h → stack_at t h ≡ stack → works_in t c ≡ first_of_stack stack
  top h stack thread is = ap (λ n. first_of_stack (stack_at t n)) thread ∙ ap first_of_stack is

  gate_lives : (comp : ℕ) (e : Enters act s c comp) → lives_at s e.gate.frame ≡ true
  gate_lives comp e =
      let x = used_at s c e.gate e.may in
      let epoch : e.gate.arg ≡ (comp_in (s.frame e.gate.frame)).epoch =
      (gates_fit setting lim events run.0).used c x.at e.gate (ap is_open run.1.is_open) x.from e.kind in
      let live : is_live_in (s.number (comp_in (s.frame e.gate.frame)).number) e.gate.arg ≡ true =
      subst (λ n. is_live_in (s.number (comp_in (s.frame n)).number) e.gate.arg ≡ true) (sym e.frame) e.lives in
      subst (λ n. is_live_in (s.number (comp_in (s.frame e.gate.frame)).number) n ≡ true) epoch live

  by_way : w (works_in s c) ≡ false → w (works_in t c) ≡ true → Goes act s c t → EntersBy act w s c
  by_way out in_it (inl r) =
      let stays : Stays Kind.Thread (s.frame (s.core c).thread) (t.frame (s.core c).thread) =
      (own, subst (λ n. IsTrue (fits Kind.Thread (t.frame n))) r.thread own_after) in
      absurd (false≢true (sym out ∙ ap w (sym (top (s.core c).thread (thread_of s c).stack r.thread (r.stack stays))) ∙ in_it))
  by_way out in_it (inr (inl e)) =
      subst (λ a. EntersBy a w s c) (sym e.by_gate.is) (
        e.by_gate.gate,
        e.by_gate.names,
        ap w e.by_gate.frame ∙ ap w (sym (top (s.core c).thread (e.comp ∷ (thread_of s c).stack) e.thread e.stack)) ∙ in_it,
        gate_lives e.comp e.by_gate,
      )
  by_way out in_it (inr (inr (inl e))) =
      subst (λ a. EntersBy a w s c) (sym e.is)
      (ap w (sym (top (s.core c).thread (drop 1 (thread_of s c).stack) e.thread e.stack)) ∙ in_it)
  by_way out in_it (inr (inr (inr e))) =
      subst (λ a. EntersBy a w s c) (sym e.goes.is) (
        e.goes.thread,
        e.goes.names,
        ap (λ n. w (first_of_stack (stack_at s n))) e.goes.frame
            ∙ ap w (sym (top e.next (stack_at s e.next) e.thread e.stack)) ∙ in_it,
      )

pub entered_by : EnteredBy
entered_by setting lim events c call r run w out in_it =
    by_way setting lim events c call r run w out in_it (goes setting lim events c call r run w)
