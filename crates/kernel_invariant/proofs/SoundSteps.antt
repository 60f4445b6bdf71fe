-- Each part of a change keeps a state sound.
use Rattle.kernel_rules.proofs.{◌≡◌, ◌≢◌, ℕ, ◌<◌, Bool, true, sym, ◌∙◌, subst, ◌==◌, if◌then◌else◌, IsTrue, List, [], ◌∷◌, ne_eqb}
use Rattle.kernel_rules.proofs.{Capability, Place, Free, Holds, Quiescing, Live, Dead, Core, Grace, Thing, PlaceOf, FrameOf, put}
use Rattle.kernel_rules.proofs.{with_place, with_number, with_core, with_grace, no_grace, named_by, cleared, fits, IsGood, is_node, Kind}
use Rattle.kernel_rules.specs.State.{State}
use Rattle.kernel_invariant.proofs.Sound.{WaitsForAll, IsSound, put_all}

-- P holds of every place where it holds of the old places and of the new one.
pub place_all : (P : ℕ → ℕ → Place → Type 0) (s : State) (g j : ℕ) (p : Place) (f i : ℕ)
    → (f ≡ g → i ≡ j → P f i p) → P f i (s.place f i) → P f i (put s.place g (put (s.place g) j p) f i)
place_all P s g j p f i new old = put_all (λ f r. P f i (r i)) s.place g (put (s.place g) j p) f
    (λ same. put_all (λ i x. P f i x) (s.place g) j p i (λ at. new same at) (λ other. subst (λ m. P f i (s.place m i)) same old))
    (λ other. old)

pub free_holds : (k : Capability) → Free ≡ Holds k → ⊥
free_holds k e = cc

pub free_quiescing : (k : Capability) → Free ≡ Quiescing k → ⊥
free_quiescing k e = cc

pub holds_quiescing : (k j : Capability) → Holds k ≡ Quiescing j → ⊥
holds_quiescing k j e = cc

pub quiescing_holds : (k j : Capability) → Quiescing k ≡ Holds j → ⊥
quiescing_holds k j e = cc

pub holds_inj : (k j : Capability) → Holds k ≡ Holds j → k ≡ j
holds_inj k j e = cc

pub quiescing_inj : (k j : Capability) → Quiescing k ≡ Quiescing j → k ≡ j
quiescing_inj k j e = cc

-- What is said of frames and limits alone holds of every state with the same frames and limits.
pub record SameFrames (s t : State) : Type 0 where
  pub frame : t.frame ≡ s.frame
  pub limits : t.limits ≡ s.limits

pub waits_all : (s t : State) (c : ℕ) → ((f : ℕ) → IsTrue ((s.grace (FrameOf f)).waits c) → IsTrue ((t.grace (FrameOf f)).waits c))
    → (fs : List ℕ) → WaitsForAll s c fs → WaitsForAll t c fs
waits_all s t c more [] w = tt
waits_all s t c more (f ∷ fs) w = (more f w.0, waits_all s t c more fs w.1)

-- A place of a node is filled with a good capability.
pub fill_step : (s : State) (o : ℕ → Bool) (g j : ℕ) (k : Capability) → IsGood s k → IsTrue (is_node (s.frame g)) → j < 64
    → IsSound s o → IsSound (with_place s g j (Holds k)) o
fill_step s o g j k good node small h = record {
  held = λ f i m p. record { fit = (held f i m p).fit; within = (held f i m p).within };
  waiting = λ f i m c p q w. waiting f i m c p q w;
  objects = h.objects;
  cores = h.cores;
  numbers = h.numbers;
  beyond = h.beyond;
  bare = λ f i m. place_all (λ f i x. x ≡ Holds m → IsTrue (is_node (s.frame f)) × (i < 64)) s g j (Holds k) f i
      (λ same at e. (subst (λ n. IsTrue (is_node (s.frame n))) (sym same) node, subst (λ n. n < 64) (sym at) small))
      (h.bare f i m);
  inside = h.inside;
}
  where
    held : (f i : ℕ) (m : Capability) → put s.place g (put (s.place g) j (Holds k)) f i ≡ Holds m → IsGood s m
    held f i m = place_all (λ f i x. x ≡ Holds m → IsGood s m) s g j (Holds k) f i
        (λ same at e. subst (λ n. IsGood s n) (holds_inj k m e) good) (h.held f i m)

    waiting : (f i : ℕ) (m : Capability) (c : ℕ) → put s.place g (put (s.place g) j (Holds k)) f i ≡ Quiescing m → o c ≡ true
        → IsTrue ((s.grace (PlaceOf f i)).waits c)
        → IsGood (with_place s g j (Holds k)) m × WaitsForAll (with_place s g j (Holds k)) c (named_by m.kind m.frame)
    waiting f i m c = place_all (λ f i x. x ≡ Quiescing m → o c ≡ true → IsTrue ((s.grace (PlaceOf f i)).waits c)
        → IsGood (with_place s g j (Holds k)) m × WaitsForAll (with_place s g j (Holds k)) c (named_by m.kind m.frame)) s g j (Holds k) f i
        (λ same at e q w. absurd (holds_quiescing k m e))
        (λ e q w. let a : IsGood s m × WaitsForAll s c (named_by m.kind m.frame) = h.waiting f i m c e q w in (
          record { fit = a.0.fit; within = a.0.within },
          waits_all s (with_place s g j (Holds k)) c (λ f w. w) (named_by m.kind m.frame) a.1,
        ))

-- Another core that has the same kind of thread and temporal capability, and is in a call where it was.
pub core_step : (s : State) (o : ℕ → Bool) (c : ℕ) (k : Core) → k.inside ≡ (s.core c).inside
    → (c < s.limits.cores → IsTrue (fits Kind.Thread (s.frame k.thread)) × IsTrue (fits Kind.Tcap (s.frame k.tcap)))
    → IsSound s o → IsSound (with_core s c k) o
core_step s o c k inside good h = record {
  held = λ f i m p. let a : IsGood s m = h.held f i m p in record { fit = a.fit; within = a.within };
  waiting = λ f i m d p q w. let a : IsGood s m × WaitsForAll s d (named_by m.kind m.frame) = h.waiting f i m d p q w in
      (record { fit = a.0.fit; within = a.0.within }, waits_all s (with_core s c k) d (λ f w. w) (named_by m.kind m.frame) a.1);
  objects = h.objects;
  cores = λ d m. put_all (λ d x. IsTrue (fits Kind.Thread (s.frame x.thread)) × IsTrue (fits Kind.Tcap (s.frame x.tcap))) s.core c k d
      (λ same. good (subst (λ n. n < s.limits.cores) same m)) (λ other. h.cores d m);
  numbers = h.numbers;
  beyond = h.beyond;
  bare = h.bare;
  inside = λ d q. (
    put_all (λ d x. IsTrue x.inside) s.core c k d
        (λ same. inside ∙ subst (λ n. IsTrue (s.core n).inside) same (h.inside d q).0) (λ other. (h.inside d q).0),
    (h.inside d q).1,
  );
}

-- A liveness number is live for a component.
pub live_step : (s : State) (o : ℕ → Bool) (l e f : ℕ) → IsTrue (fits Kind.Comp (s.frame f)) → l < 64
    → IsSound s o → IsSound (with_number s l (Live e f)) o
live_step s o l e f comp small h = record {
  held = λ g i m p. let a : IsGood s m = h.held g i m p in record { fit = a.fit; within = a.within };
  waiting = λ g i m d p q w. let a : IsGood s m × WaitsForAll s d (named_by m.kind m.frame) = h.waiting g i m d p q w in
      (record { fit = a.0.fit; within = a.0.within }, waits_all s (with_number s l (Live e f)) d (λ f w. w) (named_by m.kind m.frame) a.1);
  objects = h.objects;
  cores = h.cores;
  numbers = λ n d g. put_all (λ n x. x ≡ Live d g → IsTrue (fits Kind.Comp (s.frame g)) × (n < 64)) s.number l (Live e f) n
      (λ same is. (subst (λ m. IsTrue (fits Kind.Comp (s.frame m))) (live_inj e d f g is) comp, subst (λ m. m < 64) (sym same) small))
      (λ other. h.numbers n d g);
  beyond = h.beyond;
  bare = h.bare;
  inside = h.inside;
}
  where
    live_inj : (e d f g : ℕ) → Live e f ≡ Live d g → f ≡ g
    live_inj e d f g q = cc

-- A liveness number is dead.
pub dead_step : (s : State) (o : ℕ → Bool) (l e : ℕ) → IsSound s o → IsSound (with_number s l (Dead e)) o
dead_step s o l e h = record {
  held = λ g i m p. let a : IsGood s m = h.held g i m p in record { fit = a.fit; within = a.within };
  waiting = λ g i m d p q w. let a : IsGood s m × WaitsForAll s d (named_by m.kind m.frame) = h.waiting g i m d p q w in
      (record { fit = a.0.fit; within = a.0.within }, waits_all s (with_number s l (Dead e)) d (λ f w. w) (named_by m.kind m.frame) a.1);
  objects = h.objects;
  cores = h.cores;
  numbers = λ n d g. put_all (λ n x. x ≡ Live d g → IsTrue (fits Kind.Comp (s.frame g)) × (n < 64)) s.number l (Dead e) n
      (λ same is. absurd (dead_live d g is))
      (λ other. h.numbers n d g);
  beyond = h.beyond;
  bare = h.bare;
  inside = h.inside;
}
  where
    dead_live : (d g : ℕ) → Dead e ≡ Live d g → ⊥
    dead_live d g q = cc

-- Every place of a frame is free.
pub clear_step : (s : State) (o : ℕ → Bool) (f : ℕ) → IsSound s o → IsSound (cleared s f) o
clear_step s o f h = record {
  held = λ g i m. put_all (λ g r. r i ≡ Holds m → IsGood (cleared s f) m) s.place f (λ i. Free) g (λ same e. absurd (free_holds m e))
      (λ other e. let a : IsGood s m = h.held g i m e in record { fit = a.fit; within = a.within });
  waiting = λ g i m c. put_all (λ g r. r i ≡ Quiescing m → o c ≡ true → IsTrue (((cleared s f).grace (PlaceOf g i)).waits c)
      → IsGood (cleared s f) m × WaitsForAll (cleared s f) c (named_by m.kind m.frame)) s.place f (λ i. Free) g
      (λ same e. absurd (free_quiescing m e))
      (λ other e q w. let a : IsGood s m × WaitsForAll s c (named_by m.kind m.frame) = h.waiting g i m c e q (kept g i c other w) in
      (record { fit = a.0.fit; within = a.0.within }, waits_all s (cleared s f) c (λ f w. w) (named_by m.kind m.frame) a.1));
  objects = h.objects;
  cores = h.cores;
  numbers = h.numbers;
  beyond = h.beyond;
  bare = λ g i m. put_all (λ g r. r i ≡ Holds m
      → IsTrue (is_node (s.frame g)) × (i < 64)) s.place f (λ i. Free) g (λ same e. absurd (free_holds m e)) (λ other. h.bare g i m);
  inside = h.inside;
}
  where
    kept : (g i c : ℕ) → g ≢ f → IsTrue ((if g == f then no_grace else s.grace (PlaceOf g i)).waits c)
        → IsTrue ((s.grace (PlaceOf g i)).waits c)
    kept g i c other w = subst (λ b. IsTrue ((if b then no_grace else s.grace (PlaceOf g i)).waits c)) (ne_eqb g f other) w

-- Other grace periods in which nobody waits for more places, and everybody waits for as many frames.
pub grace_step : (s : State) (o : ℕ → Bool) (g : Thing → Grace)
    → ((f i c : ℕ) → o c ≡ true → IsTrue ((g (PlaceOf f i)).waits c) → IsTrue ((s.grace (PlaceOf f i)).waits c))
    → ((f c : ℕ) → o c ≡ true → IsTrue ((s.grace (FrameOf f)).waits c) → IsTrue ((g (FrameOf f)).waits c))
    → IsSound s o → IsSound (with_grace s g) o
grace_step s o g places frames h = record {
  held = λ f i m p. let a : IsGood s m = h.held f i m p in record { fit = a.fit; within = a.within };
  waiting = λ f i m d p q w. let a : IsGood s m × WaitsForAll s d (named_by m.kind m.frame) = h.waiting f i m d p q (places f i d q w) in
      (record { fit = a.0.fit; within = a.0.within }, waits_all s (with_grace s g) d (λ f. frames f d q) (named_by m.kind m.frame) a.1);
  objects = h.objects;
  cores = h.cores;
  numbers = h.numbers;
  beyond = h.beyond;
  bare = h.bare;
  inside = h.inside;
}
