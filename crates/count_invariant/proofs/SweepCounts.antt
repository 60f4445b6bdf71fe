-- The counts that a call acquires which makes a frame untyped: of the frames that its object names itself. None of them is the frame, since
-- nothing refers to that; and they are in the call's footprint.
use Rattle.step_ways.proofs.{◌^◌, ◌≡◌, ◌≢◌, ℕ, ℤ, negsuc, ◌<◌, ◌≤◌, ◌+◌, ◌++◌, ◌||◌, ◌==◌, map, cond, Bool, true, false, IsTrue, List}
use Rattle.step_ways.proofs.{[], ◌∷◌, Option, Some, None, arith, refl, sym, ◌∙◌, ap, subst, All, flat_map, eq-eqb, eqb-true, false≢true}
use Rattle.step_ways.proofs.{Capability, Setting, IsSetting, Call, Retype, Word, CountAt, State, frame_names, times, refs, rule_of}
use Rattle.step_ways.proofs.{times_cons, counts_references, changes_frames, frame_mark, IsInFootprint, is_one_of, frames_named}
use Rattle.step_ways.proofs.{frame_at_slot, frame_argument, frames_own, Trace, state_after, last_left, wide_ways, target_of, Acquired, Pin}
use Rattle.step_ways.proofs.{thaw_of, Swept, dues, release_of, UntypingAt, Untyping, Due, Acquire, StageFits, ActiveCall, Undecided, Core}
use Rattle.step_ways.proofs.{holds_release, holds_untyping, Holding, holds_counts, settled, settled_by, KnowsTail, KnowsUnmark}
use Rattle.step_ways.proofs.{KnowsUndecided, due_of, Invariant, held_by, holds_at, holds_in, KnowsUntypingAt, UntypesBy, names_of}
use Rattle.step_ways.proofs.{limits_of, Untype as untype_act, is_active, FrameKind}
use Rattle.step_ways.specs.act_states.specs.{undo, released_dues, untyping_dues, is_drawing, untyping_undo}
use Rattle.step_ways.specs.core_invariant.specs.{KnowsSwept, KnowsUntyping, ThawsFrame, pin_frame}
use Rattle.count_invariant.proofs.{ActHolds.SparesAt, ActHolds.SparesSwept, MakingCounts.due_named}
use Rattle.{step_ways.specs.kept_facts.proofs.release_swept, step_ways.specs.kept_facts.proofs.no_refs, plan_ways.proofs.one_left}
use Rattle.{plan_ways.proofs.one_right, std.proofs.lemmas.List.Elements.All-nil, std.proofs.lemmas.List.Elements.All-cons}
use Rattle.{step_ways.specs.core_invariant.proofs.Freezing.thaws_own, plan_ways.specs.kernel_invariant.proofs.SoundRemovals.unnamed}
use Rattle.{plan_ways.specs.kernel_history.specs.Footprint.frames_about}
use Rattle.plan_ways.specs.frame_words.proofs.FrameLemmas as frames

-- The call, by its name and its frame.
record IsUntyping (call : Call) (f : ℕ) : Type 0 where
  name : ℕ
  call_is : call ≡ Retype name f FrameKind.Untyped

untyping_of : (call : Call) (ks : List Capability) (m : Untyping) → UntypesBy call ks m → IsUntyping call m.frame
untyping_of (Retype r f FrameKind.Untyped) (range ∷ []) m is =
    record { name = r; call_is = ap (λ (n : ℕ). Retype r n FrameKind.Untyped) (sym is.frame) }
untyping_of (Retype r f FrameKind.Untyped) [] m is = absurd is
untyping_of (Retype r f FrameKind.Untyped) (range ∷ k ∷ ks) m is = absurd is
untyping_of call ks m is = absurd is

-- What is one of a list occurs in it.
occurs : (f : ℕ) (fs : List ℕ) → is_one_of f fs ≡ true → 1 ≤ times f fs
occurs f [] is = absurd (false≢true is)
occurs f (g ∷ fs) is = by (g == f) refl is (occurs f fs)
  where
    by : (b : Bool) → (g == f) ≡ b → (b || is_one_of f fs) ≡ true → (is_one_of f fs ≡ true → 1 ≤ times f fs) → 1 ≤ times f (g ∷ fs)
    by true same h rest =
        let one : ℕ = 1 in
        let n = times_cons f g fs in
        let is_one : ◌≡◌ {A = ℕ} (cond (g == f) 1 0) one = ap {B = ℕ} (λ b. cond b 1 0) same in
        omega (arith, n, is_one)
    by false other h rest = let n = times_cons f g fs in let more = rest h in omega (arith, n, more)

-- A frame that an object of these frames names is one of those that they name.
of_many : (g : ℕ → List ℕ) (l f : ℕ) (fs : List ℕ) → is_one_of f fs ≡ true → is_one_of l (g f) ≡ true → is_one_of l (flat_map g fs) ≡ true
of_many g l f [] is here = absurd (false≢true is)
of_many g l f (x ∷ xs) is here = by (x == f) refl is (λ h. of_many g l f xs h here)
  where
    by : (b : Bool) → (x == f) ≡ b → (b || is_one_of f xs) ≡ true → (is_one_of f xs ≡ true → is_one_of l (flat_map g xs) ≡ true)
        → is_one_of l (flat_map g (x ∷ xs)) ≡ true
    by true same h rest = one_left l (g x) (flat_map g xs) (ap (λ (n : ℕ). is_one_of l (g n)) (eqb-true x f same) ∙ here)
    by false same h rest = one_right l (g x) (flat_map g xs) (rest h)

-- The counts that are due are of the frames named.
dues_are : (first second : Option ℕ)
    → released_dues first second ≡ map (λ f. record { frame = f; change = negsuc 0 }) (names_of first second)
dues_are None None = refl
dues_are None (Some g) = refl
dues_are (Some f) None = refl
dues_are (Some f) (Some g) = refl

-- What holds of each due of which counts are acquired holds of these.
each_acquired : (P : ℕ → Type 0) (before xs : List Acquired) (rest ds : List Due) → ds ≡ (map due_of before ++ map due_of xs) ++ rest
    → ((ys : List Due) (d : Due) (zs : List Due) → ds ≡ ys ++ d ∷ zs → P d.frame) → All (λ y. P y.pin.frame) xs
each_acquired P before [] rest ds is each = All-nil (λ y. P y.pin.frame)
each_acquired P before (x ∷ xs) rest ds is each = All-cons (λ y. P y.pin.frame) x xs
    (each (map due_of before) (due_of x) (map due_of xs ++ rest) (is ∙ assoc (map due_of before) (due_of x ∷ map due_of xs) rest))
    (each_acquired P (before ++ x ∷ []) xs rest ds (is ∙ ap (λ ys. ys ++ rest) (shift before x xs)) each)
  where
    assoc : (zs bs es : List Due) → (zs ++ bs) ++ es ≡ zs ++ (bs ++ es)
    assoc [] bs es = refl
    assoc (a ∷ zs) bs es = ap (λ (l : List Due). a ∷ l) (assoc zs bs es)

    shift : (zs : List Acquired) (y : Acquired) (ys : List Acquired)
        → map due_of zs ++ (due_of y ∷ map due_of ys) ≡ map due_of (zs ++ y ∷ []) ++ map due_of ys
    shift [] y ys = refl
    shift (a ∷ zs) y ys = ap (λ (l : List Due). due_of a ∷ l) (shift zs y ys)

-- What a call knows that acquires the counts of the object in the frame.
module _ (setup : Setting) (setting : IsSetting setup) (cores : ℕ → Core) (t : Trace) (stands : Invariant setup cores t) (c : ℕ)
    (here : c < setup.cores)
    (a : ActiveCall) (active : (cores c).active ≡ Some a) (pin : Pin) (change : ℤ) (m : Untyping)
    (stage_is : a.stage ≡ Undecided (Acquire pin change (untype_act m)))
    (has : KnowsUndecided setup t c (cores c).own.table a (Acquire pin change (untype_act m))) where
  abbrev s : State
  s = state_after setup t

  abbrev f : ℕ
  f = m.frame

  knows : KnowsUntyping setup t c a.call a.found m
  knows = has.knows.knows

  is : IsUntyping a.call f
  is = untyping_of a.call a.found m knows.untypes

  below : f < s.limits.frames
  below = subst (λ (n : ℕ). f < n) (ap (λ x. x.frames) (stands.each c here).shape ∙ sym (ap (λ l. l.frames) (limits_of setup t)))
      ((subst (StageFits (cores c).own.layout) stage_is (is_active setup setting cores t stands c here a active).stage).1.frame)

  pub sweep_counts : IsTrue (counts_references a.call)
  sweep_counts = subst (λ x. IsTrue (counts_references x)) (sym is.call_is) refl

  -- it draws next
  record Drawing : Type 0 where
    word : ℕ
    swept : Swept
    at_is : m.at ≡ UntypingAt.Draw word swept
    knows_it : KnowsSwept setup t c f word swept

  drawing : Drawing
  drawing = by m.at refl has.knows.starts
    where
      by : (at : UntypingAt) → m.at ≡ at → is_drawing at ≡ true → Drawing
      by (UntypingAt.Draw word w) at_is starts =
          record { word = word; swept = w; at_is = at_is; knows_it = subst (KnowsUntypingAt setup t c f) at_is knows.at }
      by _ at_is starts = absurd (false≢true starts)

  abbrev w : Swept
  w = drawing.swept

  abbrev before : Holding
  before = holds_counts None a.counts

  held_now : holds_in (cores c).active ≡ holds_release (release_of f drawing.word w false) before
  held_now = ap holds_in active ∙ ap (λ stage. holds_at stage a.counts) stage_is ∙ ap (λ at. holds_untyping f at before) drawing.at_is

  settles : (v : Word) → (holds_release (release_of f drawing.word w false) before).marks v ≡ true
      → settled setup (held_by cores) t v ≡ (holds_release (release_of f drawing.word w false) before).stands v
  settles v marks = ap (λ o. settled_by o (held_by cores) v (last_left setup t v))
      ((stands.marks v c).kept (ap (λ h. h.marks v) held_now ∙ marks)) ∙ ap (λ h. h.stands v) held_now

  unreferenced : refs s f ≡ 0
  unreferenced = no_refs setup cores t stands c f drawing.word w.words (holds_release (release_of f drawing.word w false) before) settles
      (release_swept f drawing.word w before drawing.knows_it.frame) drawing.knows_it.kept drawing.knows_it.swept.frozen setting

  -- the object does not name its own frame
  not_own : (g : ℕ) → is_one_of g (frame_names (s.frame f)) ≡ true → g ≢ f
  not_own g named same =
      let none : times f (frame_names (s.frame f)) ≡ 0 = (unnamed s f unreferenced).objects f below in
      let some : 1 ≤ times f (frame_names (s.frame f)) = subst (λ (n : ℕ). 1 ≤ times n (frame_names (s.frame f))) same
      (occurs g (frame_names (s.frame f)) named) in
      omega (arith, none, some)

  -- each count that is due is of a frame that it names
  due_is : dues (untype_act m) ≡ map (λ g. record { frame = g; change = negsuc 0 }) (frame_names (s.frame f))
  due_is = ap (λ at. untyping_dues at) drawing.at_is ∙ dues_are w.owned.first w.owned.second
      ∙ ap (λ (gs : List ℕ). map (λ g. record { frame = g; change = negsuc 0 }) gs) drawing.knows_it.names

  named : (xs : List Due) (d : Due) (ys : List Due) → dues (untype_act m) ≡ xs ++ d ∷ ys
      → is_one_of d.frame (frame_names (s.frame f)) ≡ true
  named xs d ys due = due_named (frame_names (s.frame f)) (negsuc 0) xs d ys (sym due_is ∙ due)

  pin_named : is_one_of (pin_frame pin) (frame_names (s.frame f)) ≡ true
  pin_named = named (map due_of a.counts) (record { frame = pin_frame pin; change = change }) has.knows.rest has.knows.due

  about : is_one_of f (frames_about s c a.call) ≡ true
  about = one_right f (frames_named s c (rule_of s c a.call)) _
      (one_right f (frame_at_slot s (target_of s c (rule_of s c a.call))) (frame_argument a.call)
      (subst (λ x. is_one_of f (frame_argument x) ≡ true) (sym is.call_is) (ap (λ b. b || false) (eq-eqb f f refl))))

  pub sweep_footprint : (b : ℕ) → IsInFootprint c a.call (CountAt (pin_frame pin) b) s
  sweep_footprint b = one_right (pin_frame pin) (frames_own s c) _
      (one_right (pin_frame pin) (map (λ at. at.node) (wide_ways s c (rule_of s c a.call))) _
      (one_right (pin_frame pin) (frames_about s c a.call) (flat_map (λ g. frame_names (s.frame g)) (frames_about s c a.call))
      (of_many (λ g. frame_names (s.frame g)) (pin_frame pin) f (frames_about s c a.call) about pin_named)))

  pub sweep_spares : SparesSwept (untype_act m) (pin_frame pin)
  sweep_spares = subst (λ at. SparesAt at (pin_frame pin)) (sym drawing.at_is)
      (λ same. not_own (pin_frame pin) pin_named (same ∙ drawing.knows_it.frame))

  -- the frame's word, as it was found, is still to be stored
  unmarks : KnowsUnmark a.call f drawing.word
  unmarks = record {
    changes = subst (λ x. changes_frames x ≡ true) (sym is.call_is) refl;
    argument = subst (λ x. is_one_of f (frame_argument x) ≡ true) (sym is.call_is) (ap (λ b. b || false) (eq-eqb f f refl));
    bare = ap frame_mark drawing.knows_it.met.says ∙ drawing.knows_it.met.mark;
    small =
        let spells = frames.spelling.spells drawing.word drawing.knows_it.shown drawing.knows_it.met.says in
        subst (λ (n : ℕ). n < 2 ^ 64) spells.1 (frames.spelling.small drawing.knows_it.shown spells.0);
  }

  pub sweep_left : (u : Trace) → KnowsTail setup u c a.call a.counts (undo (untype_act m))
  sweep_left u = subst (λ at. KnowsTail setup u c a.call a.counts (untyping_undo f at)) (sym drawing.at_is) (
    unmarks,
    record {
      range = is.name;
      retypes = is.call_is;
      counting = sweep_counts;
      thaws = subst (λ (n : ℕ). ThawsFrame n (thaw_of w false)) drawing.knows_it.frame
          (thaws_own w false);
      apart = each_acquired (λ (g : ℕ). g ≢ f) [] a.counts (record { frame = pin_frame pin; change = change } ∷ has.knows.rest)
          (dues (untype_act m)) has.knows.due (λ ys d zs due. not_own d.frame (named ys d zs due));
    },
  )
