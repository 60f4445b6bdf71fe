-- Frames and cores, each on one side with all that it names: a call that is carried out keeps them so.
use Rattle.same_changes.specs.kernel_laws.proofs as low
use low.{◌≡◌, ℕ, ◌+◌, ◌<◌, Bool, refl, sym, ◌∙◌, ap, subst, ltb as nat_lt, length, if◌then◌else◌, List, [], ◌∷◌, ◌++◌, drop, Option, Some}
use low.{None, true, false, Capability, FrameKind, Call, Translation, Nothing, CompFields, ThreadFields, TcapFields, Table, Leaf, Pages}
use low.{Pleaf, Comp, Thread, Tcap, Blank, Frame, Untyped, User, Kernel, Core, State, put, comp_of, thread_in, thread_of, found, Change}
use low.{does, not_blank, not_taken, epoch_of, make_rule, retype_rule, touch_by, translation_of, caching, with_thread, running, with_tcap}
use low.{switch_to, rule_of, put_all, IsOpen, ChangesFrom, IsFitted, mapped_page, Kind}
use Rattle.split_laws.proofs.Working.{WorksOn, named_frame, range_frame, mapped_on}
use Rattle.{split_laws.specs.World, split_laws.specs.MakesOwn, std.specs.List.AllByRecursion}
use Rattle.{world_laws.specs.spk_nums.specs.declared.calls.Make.Make, world_laws.specs.kernel_rules.specs.Edits.Switch}

-- A frame's object is on the frame's side, with all that it names.
abbrev pub FrameOn : World → ℕ → Frame → Type 0
FrameOn w f (Kernel (Comp k)) = (w.frame k.table ≡ w.frame f) × (w.frame k.pages ≡ w.frame f) × (w.number k.number ≡ w.frame f)
FrameOn w f (Kernel (Thread t)) = AllByRecursion (λ g. w.frame g ≡ w.frame f) t.stack
FrameOn w f _ = Unit {0}

-- What a core runs on is on one side, and so is each of its translations.
pub record CoreOn (w : World) (k : Core) : Type 0 where
  pub tcap : w.frame k.tcap ≡ w.frame k.thread
  pub cached : AllByRecursion (λ (x : Translation). w.frame x.frame ≡ w.frame x.pages) k.cached

pub record Sides (w : World) (frame : ℕ → Frame) (core : ℕ → Core) (n : ℕ) : Type 0 where
  pub frames : (f : ℕ) → FrameOn w f (frame f)
  pub cores : (c : ℕ) → c < n → CoreOn w (core c)

-- ---- one part changes

all_drop : (P : ℕ → Type 0) (xs : List ℕ) → AllByRecursion P xs → AllByRecursion P (drop 1 xs)
all_drop P [] h = tt
all_drop P (x ∷ xs) h = h.1

all_more : (P : Translation → Type 0) (xs : List Translation) (x : Translation) → AllByRecursion P xs → P x
    → AllByRecursion P (xs ++ x ∷ [])
all_more P [] x h new = (new, tt)
all_more P (y ∷ ys) x h new = (h.0, all_more P ys x h.1 new)

module _ (w : World) where
  stack_on : (f : ℕ) (x : Frame) → FrameOn w f x → AllByRecursion (λ g. w.frame g ≡ w.frame f) (thread_in x).stack
  stack_on f (Kernel (Thread t)) h = h
  stack_on f _ h = tt

  thread_on : (f : ℕ) (x : Frame) (u : ThreadFields) → FrameOn w f x → AllByRecursion (λ g. w.frame g ≡ w.frame f) u.stack
      → FrameOn w f (with_thread x u)
  thread_on f (Kernel (Thread t)) u h new = new
  thread_on f _ u h new = h

  tcap_on : (f : ℕ) (x : Frame) (q : TcapFields) → FrameOn w f x → FrameOn w f (with_tcap x q)
  tcap_on f (Kernel (Tcap p)) q h = tt
  tcap_on f _ q h = h

  module _ (frame : ℕ → Frame) (core : ℕ → Core) (n : ℕ) (h : Sides w frame core n) where
    frame_sides : (f : ℕ) (x : Frame) → FrameOn w f x → Sides w (put frame f x) core n
    frame_sides f x on = record {
      frames = λ g. put_all (FrameOn w) frame f x g (λ same. subst (λ m. FrameOn w m x) (sym same) on) (λ other. h.frames g);
      cores = h.cores;
    }

    core_sides : (c : ℕ) (k : Core) → (c < n → CoreOn w k) → Sides w frame (put core c k) n
    core_sides c k on = record {
      frames = h.frames;
      cores = λ d below. put_all (λ d x. CoreOn w x) core c k d (λ same. on (subst (λ m. m < n) same below)) (λ other. h.cores d below);
    }

    -- a core that runs on the same, and has the same translations
    pub core_same : (c : ℕ) (k : Core) → k.thread ≡ (core c).thread → k.tcap ≡ (core c).tcap → k.cached ≡ (core c).cached
        → Sides w frame (put core c k) n
    core_same c k thread tcap cached = core_sides c k (λ below. record {
      tcap = ap w.frame tcap ∙ (h.cores c below).tcap ∙ ap w.frame (sym thread);
      cached = subst (AllByRecursion _) (sym cached) (h.cores c below).cached;
    })

    -- a thread with another stack
    stack_sides : (f : ℕ) (stack : List ℕ) → AllByRecursion (λ g. w.frame g ≡ w.frame f) stack
        → Sides w (put frame f (with_thread (frame f) (record (thread_in (frame f)) { stack = stack }))) core n
    stack_sides f stack on = frame_sides f _ (thread_on f (frame f) _ (h.frames f) on)

    -- one that runs, or is idle
    running_sides : (f : ℕ) (runs : Option ℕ)
        → Sides w (put frame f (with_thread (frame f) (record (thread_in (frame f)) { runs_on = runs }))) core n
    running_sides f runs = frame_sides f _ (thread_on f (frame f) _ (h.frames f) (stack_on f (frame f) (h.frames f)))

    -- another temporal capability
    tcap_sides : (f : ℕ) (q : TcapFields) → Sides w (put frame f (with_tcap (frame f) q)) core n
    tcap_sides f q = frame_sides f _ (tcap_on f (frame f) q (h.frames f))

-- So is what a change leaves.
abbrev pub Next : World → State → Change → Type 0
Next w s change = Sides w change.next.frame change.next.core s.limits.cores

-- ---- the calls

module _ (w : World) (s : State) (c : ℕ) (o : ℕ → Bool) (open_call : IsOpen s o c) (fitted : IsFitted s o) (b : Bool) (on : WorksOn w s c b)
    (h : Sides w s.frame s.core s.limits.cores) where
  abbrev n : ℕ
  n = s.limits.cores

  becomes : (f : ℕ) (x : Frame) → FrameOn w f x → Sides w (put s.frame f x) s.core n
  becomes f x = frame_sides w s.frame s.core n h f x

  retype_sides : (r f : ℕ) (k : FrameKind) → ChangesFrom (Next w s) s c (retype_rule s r f k)
  retype_sides r f FrameKind.Untyped = λ range e calm. becomes f Untyped tt
  retype_sides r f FrameKind.User = λ range e calm. becomes f User tt
  retype_sides r f FrameKind.Kernel = λ range e calm. becomes f (Kernel Blank) tt

  make_sides : (what : Make) (r f t at : ℕ) → MakesOwn w b (Call.Make what r f t at)
      → ChangesFrom (Next w s) s c (make_rule s what r f t at)
  make_sides Make.Table r f t at own = λ range e table g slot v calm. becomes f (Kernel Table) tt
  make_sides Make.Leaf r f t at own = λ range e table g slot v calm. becomes f (Kernel Leaf) tt
  make_sides Make.Pages r f t at own = λ range e table g slot v calm. becomes f (Kernel Pages) tt
  make_sides Make.Pleaf r f t at own = λ range e table g slot v calm. becomes f (Kernel Pleaf) tt
  make_sides (Make.Thread comp) r f t at own = λ range e table g k j slot v calm.
      let here : w.frame f ≡ b = range_frame w s c b on r f range (not_blank s f ∷ []) e calm in
      becomes f (Kernel (Thread (record { stack = k.frame ∷ []; runs_on = None })))
      (named_frame w s c b on comp Kind.Comp k refl j ∙ sym here, tt)
  make_sides (Make.Tcap sched quality) r f t at own = λ range e table g slot v calm.
      becomes f (Kernel (Tcap (record { budget = 0; qualities = (sched, quality) ∷ [] }))) tt
  make_sides (Make.Comp x p l) r f t at own = λ range e table g own_table a own_pages d slot v calm.
      let here : w.frame f ≡ b = range_frame w s c b on r f range (not_blank s f ∷ not_taken s l) e calm in
      let fields : CompFields =
      record { table = own_table.frame; pages = own_pages.frame; number = l; epoch = epoch_of (s.number l) + 1 } in
      becomes f (Kernel (Comp fields)) (
        named_frame w s c b on x Kind.Table own_table refl a ∙ sym here,
        named_frame w s c b on p Kind.Pages own_pages refl d ∙ sym here,
        own ∙ sym here,
      )

  touch_sides : (v : ℕ) (t : Option Translation) → ChangesFrom (Next w s) s c (touch_by (comp_of s c).pages v t)
  touch_sides v (Some t) = λ calm. h
  touch_sides v None = λ k e calm.
      let t : Translation = record { pages = (comp_of s c).pages; page = v; frame = k.frame; flags = record { 0 = k.arg } } in
      let sided : w.frame k.frame ≡ w.frame (comp_of s c).pages =
      mapped_on w s c b on v k e (mapped_page s o c open_call fitted v k e) ∙ sym on.pages in
      core_sides w s.frame s.core n h c (record (s.core c) { cached = caching (s.core c).cached t }) (λ below. record {
        tcap = own.tcap;
        cached = by_room (nat_lt (length (s.core c).cached) 64) t sided;
      })
    where
      own : CoreOn w (s.core c)
      own = h.cores c on.is_core

      by_room : (room : Bool) (t : Translation) → w.frame t.frame ≡ w.frame t.pages
          → AllByRecursion (λ (x : Translation). w.frame x.frame ≡ w.frame x.pages)
          (if room then (s.core c).cached ++ t ∷ [] else (s.core c).cached)
      by_room true t sided = all_more _ (s.core c).cached t own.cached sided
      by_room false t sided = own.cached

  switched : (j k : Capability) → w.frame k.frame ≡ w.frame j.frame → (e : Option ℕ)
      → ChangesFrom (Next w s) s c (switch_to (found j) k.frame e)
  switched j k same = by_core
    where
      old : ℕ
      old = (s.core c).thread

      idle : Sides w (running s old None).frame s.core n
      idle = running_sides w s.frame s.core n h old None

      next : Next w s (does c s Nothing (Switch j.frame k.frame ∷ []))
      next = core_sides w (running (running s old None) j.frame (Some c)).frame s.core n
          (running_sides w (running s old None).frame s.core n idle j.frame (Some c)) c
          (record (s.core c) { thread = j.frame; tcap = k.frame }) (λ below. record { tcap = same; cached = (h.cores c below).cached })

      by_core : (e : Option ℕ) → ChangesFrom (Next w s) s c (switch_to (found j) k.frame e)
      by_core None = λ calm. next
      by_core (Some e) = λ calm. next

  -- What each call makes of the frames and the cores where it is carried out.
  pub rule_sides : (made : Call) → MakesOwn w b made → ChangesFrom (Next w s) s c (rule_of s c made)
  rule_sides (Call.Retype r f k) own = retype_sides r f k
  rule_sides (Call.Make what r f t at) own = make_sides what r f t at own
  rule_sides (Call.Touch v) own = touch_sides v (translation_of (s.core c).cached (comp_of s c).pages v)
  rule_sides Call.Flush own = λ calm.
      core_sides w s.frame s.core n h c (record (s.core c) { cached = [] }) (λ below. record { tcap = (h.cores c below).tcap; cached = tt })
  rule_sides (Call.Call g) own = λ gate e calm.
      stack_sides w s.frame s.core n h (s.core c).thread (gate.frame ∷ (thread_of s c).stack) (
        named_frame w s c b on g Kind.Gate gate refl e ∙ sym on.thread,
        stack_on w (s.core c).thread (s.frame (s.core c).thread) (h.frames (s.core c).thread),
      )
  rule_sides Call.Ret own = λ calm.
      stack_sides w s.frame s.core n h (s.core c).thread (drop 1 (thread_of s c).stack)
      (all_drop _ (thread_of s c).stack (stack_on w (s.core c).thread (s.frame (s.core c).thread) (h.frames (s.core c).thread)))
  rule_sides (Call.Switch a q) own = λ j e k g.
      switched j k (named_frame w s c b on q Kind.Tcap k refl g ∙ sym (named_frame w s c b on a Kind.Thread j refl e))
      (thread_in (s.frame j.frame)).runs_on
  rule_sides (Call.Tick m) own = λ calm.
      core_same w _ s.core n (tcap_sides w s.frame s.core n h (s.core c).tcap _) c _ refl refl refl
  rule_sides (Call.Transfer a d m) own = λ j e k f calm.
      tcap_sides w _ s.core n (tcap_sides w s.frame s.core n h j.frame _) k.frame _
  rule_sides (Call.Delegate a d m) own = λ j e k f calm.
      tcap_sides w _ s.core n (tcap_sides w _ s.core n (tcap_sides w s.frame s.core n h j.frame _) k.frame _) k.frame _
  rule_sides (Call.Replenish a m) own = λ j e calm.
      core_same w _ s.core n (tcap_sides w s.frame s.core n h j.frame _) c _ refl refl refl
  -- the others change no frame and no core
  rule_sides _ own = search h
