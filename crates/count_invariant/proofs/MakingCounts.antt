-- The counts and the frame of a call that makes an object, and what it has still to store where it is refused.
use Rattle.step_ways.specs.kept_facts.proofs as low
use low.{Want, to_use, ◌≡◌, Bool, true, false, Option, Some, None, ◌∙◌, refl, ℕ, ◌<◌, ◌^◌, ◌==◌, sym, [], ◌∷◌, ◌++◌, ap, subst, IsTrue}
use low.{◌||◌, map, eqb-true, eq-eqb, false≢true, Capability, Setting, Call, Kind, only, own, reached, usable, Found, named, and_then}
use low.{or_refuse, only_is, frame_of_word, rule_of, named_by, State, counts_references, changes_frames, footprint_frames, is_one_of}
use low.{frames_named, frame_at_slot, frame_argument, frame_mark, Trace, target_of, at_place, plan_for, Leads, LeadsIn, Acquired}
use low.{object_dues, object_made, Making, MakingAt, Mark, Store, NewObject, Due, KnowsTail, KnowsUnmark, blank_word, untypes, List, ℤ, pos}
use low.{if◌then◌else◌, suits, Make as make_call, of_kind as of_kind_name, Load as making_load, Reply}
use Rattle.step_ways.specs.act_states.specs.{made_dues, Third, object_names, undo_at}
use Rattle.plan_ways.proofs.{one_right, footprint_about, footprint_found}
use Rattle.step_ways.specs.core_invariant.specs.{MakesBy, KnowsMakingAt}
use Rattle.plan_ways.specs.kernel_rules.specs.{Make, of_kind}
use Rattle.plan_ways.specs.kernel_invariant.proofs.{Suits, then_parts}
use Rattle.step_ways.specs.act_states.specs.Objects.{thread_on}
use Rattle.step_ways.specs.act_states.specs.declared.makings.MakingAt.TheVariants.{Fill as making_fill}
use Rattle.step_ways.specs.act_states.specs.declared.objects.NewObject.TheVariants.{Table, Leaf, Pages, Pleaf, Thread, Tcap}
use Rattle.plan_ways.specs.frame_words.proofs.FrameLemmas as frames

-- The frame of a count that is due is one that the capability names.
pub due_named : (fs : List ℕ) (z : ℤ) (xs : List Due) (d : Due) (rest : List Due)
    → map (λ f. record { frame = f; change = z }) fs ≡ xs ++ d ∷ rest → is_one_of d.frame fs ≡ true
due_named [] z [] d rest is = absurd (cc)
due_named [] z (x ∷ xs) d rest is = absurd (cc)
due_named (f ∷ fs) z [] d rest is =
    ap (λ b. b || is_one_of d.frame fs) (eq-eqb f d.frame (ap (λ (x : Due). x.frame) (head_same _ _ _ _ is)))
  where
    head_same : (x y : Due) (xs ys : List Due) → x ∷ xs ≡ y ∷ ys → x ≡ y
    head_same x y xs ys h = cc
due_named (f ∷ fs) z (x ∷ xs) d rest is = later (f == d.frame) (due_named fs z xs d rest (tail_same _ _ _ _ is))
  where
    tail_same : (x y : Due) (xs ys : List Due) → x ∷ xs ≡ y ∷ ys → xs ≡ ys
    tail_same x y xs ys h = cc

    later : (b : Bool) → is_one_of d.frame fs ≡ true → (b || is_one_of d.frame fs) ≡ true
    later true h = refl
    later false h = h

-- A call that makes an object changes references and frames, and its frame is its argument.
pub made_counts : (call : Call) (ks : List Capability) (m : Making) → MakesBy call ks m → IsTrue (counts_references call)
made_counts (make_call what r f u b) (range ∷ ks) m is = refl
made_counts (make_call what r f u b) [] m is = absurd is
made_counts call ks m is = absurd is

pub made_changes : (call : Call) (ks : List Capability) (m : Making) → MakesBy call ks m → changes_frames call ≡ true
made_changes (make_call what r f u b) (range ∷ ks) m is = refl
made_changes _ _ m is = absurd is

-- It makes no frame untyped.
pub made_types : (call : Call) (ks : List Capability) (m : Making) → MakesBy call ks m → untypes call ≡ false
made_types (make_call what r f u b) (range ∷ ks) m is = refl
made_types _ _ m is = absurd is

pub made_argument : (call : Call) (ks : List Capability) (m : Making) → MakesBy call ks m → is_one_of m.frame (frame_argument call) ≡ true
made_argument (make_call what r f u b) (range ∷ ks) m is = ap (λ b. b || false) (eq-eqb f m.frame (sym is.frame))
made_argument _ _ m is = absurd is

pub argument_footprint : (s : State) (c : ℕ) (call : Call) (f : ℕ) → is_one_of f (frame_argument call) ≡ true
    → is_one_of f (footprint_frames s c call) ≡ true
argument_footprint s c call f is = footprint_about s c call f
    (one_right f (frames_named s c (rule_of s c call)) (frame_at_slot s (target_of s c (rule_of s c call)) ++ frame_argument call)
    (one_right f (frame_at_slot s (target_of s c (rule_of s c call))) (frame_argument call) is))

pub made_footprint : (s : State) (c : ℕ) (call : Call) (ks : List Capability) (m : Making) → MakesBy call ks m
    → is_one_of m.frame (footprint_frames s c call) ≡ true
made_footprint s c call ks m is = argument_footprint s c call m.frame (made_argument call ks m is)

pub no_due : (xs : List Due) (d : Due) (rest : List Due) → [] ≡ xs ++ d ∷ rest → ⊥
no_due [] d rest h = cc
no_due (x ∷ xs) d rest h = cc

-- The frames of the counts that a making has due are its own, and those that the object names.
due_here : (object : NewObject) (f : ℕ) (xs : List Due) (d : Due) (rest : List Due) → object_dues object f ≡ xs ++ d ∷ rest
    → is_one_of d.frame (f ∷ object_names object) ≡ true
due_here object f xs d rest is = due_named (f ∷ object_names object) (pos 1) xs d rest is

pub made_due : (object : NewObject) (f : ℕ) (at : MakingAt) (xs : List Due) (d : Due) (rest : List Due)
    → made_dues object f at ≡ xs ++ d ∷ rest → is_one_of d.frame (f ∷ object_names object) ≡ true
made_due object f making_load xs d rest is = absurd (no_due xs d rest is)
made_due object f (Mark word) xs d rest is = absurd (no_due xs d rest is)
made_due object f (Store word entry) xs d rest is = due_here object f xs d rest is
made_due object f (making_fill word) xs d rest is = due_here object f xs d rest is

-- A name leads to a capability of a wanted kind.
pub named_kind : (s : State) (c n : ℕ) (wanted : Want) (k : Capability) → named s c n wanted ≡ Found k → wanted.kinds k.kind ≡ true
named_kind s c n wanted k e =
    let a = then_parts (or_refuse (reached s c (own s c n)) Reply.NoSlot)
    (λ at. and_then (or_refuse (usable s c at) Reply.Empty) λ k. of_kind wanted k) k e in
    let b = then_parts (or_refuse (usable s c a.0) Reply.Empty) (λ k. of_kind wanted k) k a.2 in
    let w : Suits wanted b.0 k = suits wanted b.0 k b.2 in
    ap (λ (x : Capability). wanted.kinds x.kind) (sym w.is) ∙ w.kind

same_object : (x y : NewObject) → Some x ≡ Some y → x ≡ y
same_object x y h = cc

same_cap : (x y : Capability) → Some x ≡ Some y → x ≡ y
same_cap x y h = cc

-- The frames of an object's counts are in the call's footprint: its own is its argument, and a name has led to a thread's component.
none_named : (object : NewObject) (g : ℕ) (R : Type 0) → object_names object ≡ [] → is_one_of g (object_names object) ≡ true → R
none_named object g R none names_it = absurd (false≢true (sym (ap (is_one_of g) none) ∙ names_it))

comp_named : (s : State) (c r u n : ℕ) (qs : List Capability) (k : Capability) → at_place qs Third ≡ Some k
    → Leads (LeadsIn s c) (of_kind_name Kind.Range r ∷ of_kind_name Kind.Table u ∷ of_kind_name Kind.Comp n ∷ []) [] qs
    → named_by k.kind k.frame ≡ k.frame ∷ []
comp_named s c r u n (x ∷ y ∷ z ∷ zs) k at lead =
    ap (λ (j : Kind). named_by j k.frame) (only_is Kind.Comp k.kind
    (ap (λ (q : Capability). only Kind.Comp q.kind) (sym (same_cap z k at)) ∙ named_kind s c n (to_use (only Kind.Comp)) z lead.1.1.0))
comp_named s c r u n _ k at lead = absurd (cc)

third_footprint : (s : State) (c r f u b n g : ℕ) (qs : List Capability) (o : Option Capability) → at_place qs Third ≡ o →
    (object : NewObject)
    → thread_on o ≡ Some object → Leads (LeadsIn s c) (plan_for (make_call (Make.Thread n) r f u b)).names [] qs
    → is_one_of g (object_names object) ≡ true → is_one_of g (footprint_frames s c (make_call (Make.Thread n) r f u b)) ≡ true
third_footprint s c r f u b n g qs None at object made lead names_it = absurd (cc)
third_footprint s c r f u b n g qs (Some k) at object made lead names_it =
    footprint_found s c (make_call (Make.Thread n) r f u b) qs lead Third k at g
    (ap (is_one_of g) (comp_named s c r u n qs k at lead) ∙ ap (λ (x : NewObject). is_one_of g (object_names x))
    (same_object (Thread k.frame) object made) ∙ names_it)

by_make : (s : State) (c r f u b g : ℕ) (what : Make) (qs : List Capability) (object : NewObject) → object_made what qs ≡ Some object
    → Leads (LeadsIn s c) (plan_for (make_call what r f u b)).names [] qs
    → is_one_of g (object_names object) ≡ true → is_one_of g (footprint_frames s c (make_call what r f u b)) ≡ true
by_make s c r f u b g Make.Table qs object made lead names_it =
    none_named object g (is_one_of g (footprint_frames s c (make_call Make.Table r f u b)) ≡ true)
    (ap object_names (sym (same_object Table object made))) names_it
by_make s c r f u b g Make.Leaf qs object made lead names_it =
    none_named object g (is_one_of g (footprint_frames s c (make_call Make.Leaf r f u b)) ≡ true)
    (ap object_names (sym (same_object Leaf object made))) names_it
by_make s c r f u b g Make.Pages qs object made lead names_it =
    none_named object g (is_one_of g (footprint_frames s c (make_call Make.Pages r f u b)) ≡ true)
    (ap object_names (sym (same_object Pages object made))) names_it
by_make s c r f u b g Make.Pleaf qs object made lead names_it =
    none_named object g (is_one_of g (footprint_frames s c (make_call Make.Pleaf r f u b)) ≡ true)
    (ap object_names (sym (same_object Pleaf object made))) names_it
by_make s c r f u b g (Make.Thread n) qs object made lead names_it =
    third_footprint s c r f u b n g qs (at_place qs Third) refl object made lead names_it
by_make s c r f u b g (Make.Tcap sched quality) qs object made lead names_it =
    none_named object g (is_one_of g (footprint_frames s c (make_call (Make.Tcap sched quality) r f u b)) ≡ true)
    (ap object_names (sym (same_object (Tcap sched quality) object made))) names_it
by_make s c r f u b g (Make.Comp table pages live) qs object made lead names_it = absurd (cc)

named_footprint : (s : State) (c : ℕ) (call : Call) (ks : List Capability) (m : Making) → MakesBy call ks m
    → Leads (LeadsIn s c) (plan_for call).names [] ks → (g : ℕ) → is_one_of g (object_names m.object) ≡ true
    → is_one_of g (footprint_frames s c call) ≡ true
named_footprint s c (make_call what r f u b) (range ∷ ks) m is lead g names_it =
    by_make s c r f u b g what (range ∷ ks) m.object is.object lead names_it
named_footprint s c (make_call what r f u b) [] m is lead g names_it = absurd is
named_footprint s c call ks m is lead g names_it = absurd is

pub due_footprint : (s : State) (c : ℕ) (call : Call) (ks : List Capability) (m : Making) → MakesBy call ks m
    → Leads (LeadsIn s c) (plan_for call).names [] ks → (xs : List Due) (d : Due) (rest : List Due)
    → made_dues m.object m.frame m.at ≡ xs ++ d ∷ rest → is_one_of d.frame (footprint_frames s c call) ≡ true
due_footprint s c call ks m is lead xs d rest due = by (m.frame == d.frame) refl (made_due m.object m.frame m.at xs d rest due)
  where
    by : (b : Bool) → (m.frame == d.frame) ≡ b → (b || is_one_of d.frame (object_names m.object)) ≡ true
        → is_one_of d.frame (footprint_frames s c call) ≡ true
    by true same one = subst (λ (g : ℕ). is_one_of g (footprint_frames s c call) ≡ true) (eqb-true m.frame d.frame same)
        (made_footprint s c call ks m is)
    by false other one = named_footprint s c call ks m is lead d.frame one

-- What a refused making has to store is the word of its frame, as it was found.
pub blank_left : (f word : ℕ) (call : Call) → changes_frames call ≡ true → is_one_of f (frame_argument call) ≡ true
    → frame_of_word word ≡ Some blank_word → KnowsUnmark call f word
blank_left f word call changes argument says = record {
  changes = changes;
  argument = argument;
  bare = ap frame_mark says;
  small =
      let spells = frames.spelling.spells word blank_word says in
      subst (λ (n : ℕ). n < 2 ^ 64) spells.1 (frames.spelling.small blank_word spells.0);
}

pub made_left : (setup : Setting) (t u : Trace) (c : ℕ) (counts : List Acquired) (f : ℕ) (object : NewObject) (at : MakingAt) (call : Call)
    → changes_frames call ≡ true → is_one_of f (frame_argument call) ≡ true → KnowsMakingAt setup t c f object at
    → KnowsTail setup u c call counts (undo_at f at)
made_left setup t u c counts f object making_load call changes argument knows = tt
made_left setup t u c counts f object (Mark word) call changes argument knows = tt
made_left setup t u c counts f object (Store word entry) call changes argument knows = blank_left f word call changes argument knows.says
made_left setup t u c counts f object (making_fill word) call changes argument knows = blank_left f word call changes argument knows.says
