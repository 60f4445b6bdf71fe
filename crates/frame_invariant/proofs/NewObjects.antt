-- A new object, in the words and in the state: what its words say and that they carry no mark, and which references it takes.
use Rattle.place_invariant.specs.step_ways.proofs.{◌≡◌, ◌≢◌, ℕ, zero, suc, ◌+◌, ◌^◌, ◌<◌, ◌≤◌, ◌==◌, ltb as nat_lt, Bool, true, false}
use Rattle.place_invariant.specs.step_ways.proofs.{if◌then◌else◌, [], ◌∷◌, Option, Some, None, arith, refl, sym, ◌∙◌, ap, subst, ltb-true}
use Rattle.place_invariant.specs.step_ways.proofs.{ltb-false, ne_eqb, Capability, EntryFits, entry_of_word, word_of_entry, Held, FrameFits}
use Rattle.place_invariant.specs.step_ways.proofs.{head_of_word, word_of_head, quality_of_word, stack_of_word, word_of_stack}
use Rattle.place_invariant.specs.step_ways.proofs.{thread_of_word, word_of_thread, Idle, CapNames, Place, Holds, ThreadFields, TcapFields}
use Rattle.place_invariant.specs.step_ways.proofs.{Blank, Kernel, Thing, State, with_frame, refs, times, frame_names, place_names, ends_by}
use Rattle.place_invariant.specs.step_ways.proofs.{frame_refs, put_same, put_other, entry_mark, thread_mark, head_mark, mark_in_frame}
use Rattle.place_invariant.specs.step_ways.proofs.{frame_value, NewObject, PlaceIs, IsThreadWord, IsFrameWord, Make as make_call}
use Rattle.place_invariant.specs.act_states.specs.{object_word, last_word, object_names, NamesFit, made}
use Rattle.place_invariant.specs.kernel_rules.specs.{Make, is_place_of}
use Rattle.place_invariant.specs.act_states.specs.Objects.{object_cap, thread_word, tcap_word, PairFits}
use Rattle.place_invariant.proofs.ObjectMakes.{new_object, ready_place, readied}
use Rattle.{place_invariant.specs.step_ways.proofs.Free as Vacant, std.proofs.lemmas.Option.slice_get_past}
use Rattle.{place_invariant.specs.entry_words.specs.declared.entry.Entry.TheVariants.Free}
use Rattle.{place_invariant.specs.tcap_words.specs.Quality.word_of_quality, place_invariant.specs.kernel_invariant.proofs.Refs.cleared_refs}
use Rattle.{place_invariant.specs.core_invariant.specs.Words.IsTcapWord}
use Rattle.place_invariant.specs.entry_words.proofs.Spelling as entries
use Rattle.place_invariant.specs.tcap_words.proofs.HeadLemmas as heads
use Rattle.place_invariant.specs.tcap_words.proofs.QualityLemmas as qualities
use Rattle.place_invariant.specs.tcap_words.proofs.StackLemmas as stacks
use Rattle.place_invariant.specs.tcap_words.proofs.ThreadLemmas as threads

pub made_value : (o : NewObject) → frame_value (Kernel (new_object o)) ≡ made o
made_value NewObject.Table = refl
made_value _ = refl

pub made_fits : (o : NewObject) → FrameFits (made o)
made_fits NewObject.Table = (tt, omega arith)
made_fits _ = (tt, omega arith)

made_names : (o : NewObject) → frame_names (Kernel (new_object o)) ≡ object_names o
made_names NewObject.Table = refl
made_names _ = refl

pub made_cap : (o : NewObject) (f : ℕ) → f < 512 → EntryFits (Held (object_cap o f))
made_cap NewObject.Table f small = (small, omega arith, omega arith, omega arith, omega arith)
made_cap _ f small = (small, omega arith, omega arith, omega arith, omega arith)

pub made_caps : (o : NewObject) (frames f : ℕ) → f < frames → CapNames frames (object_cap o f)
made_caps NewObject.Table frames f below = omega (arith, below)
made_caps _ frames f below = omega (arith, below)

pub cap_names : (o : NewObject) (f : ℕ) → place_names (Holds (object_cap o f)) ≡ f ∷ []
cap_names NewObject.Table f = refl
cap_names _ f = refl

-- The decision ends no grace period but of the places of its frame.
pub made_ends : (what : Make) (r f u b : ℕ) (x : Thing) → is_place_of f x ≡ false → ends_by (make_call what r f u b) x ≡ false
made_ends Make.Table r f u b x other = other
made_ends (Make.Thread comp) r f u b x other = refl
made_ends (Make.Tcap sched quality) r f u b x other = refl
made_ends (Make.Comp table pages live) r f u b x other = refl
made_ends _ r f u b x other = other

-- What the word i of a new object says.
abbrev idle_in : ℕ → ThreadFields
idle_in comp = record { stack = comp ∷ []; runs_on = None }

abbrev listed : ℕ → ℕ → TcapFields
listed sched quality = record { budget = 0; qualities = (sched, quality) ∷ [] }

abbrev pub SaysNew : NewObject → ℕ → ℕ → Type 0
SaysNew NewObject.Table i x = entry_of_word x ≡ Some Free
SaysNew NewObject.Leaf i x = entry_of_word x ≡ Some Free
SaysNew NewObject.Pages i x = entry_of_word x ≡ Some Free
SaysNew NewObject.Pleaf i x = entry_of_word x ≡ Some Free
SaysNew (NewObject.Thread comp) i x = IsThreadWord (idle_in comp) i x
SaysNew (NewObject.Tcap sched quality) i x = IsTcapWord (listed sched quality) i x

-- The words of a thread above its component, and those of a temporal capability after its pair.
later_thread : (comp i : ℕ) → 2 ≤ i → thread_word comp i ≡ word_of_stack (record { 0 = None })
later_thread comp i far =
    ap (λ b. if b then word_of_thread (Idle 1) else (if i == 1 then word_of_stack (record { 0 = Some comp })
    else word_of_stack (record { 0 = None }))) (ne_eqb i 0 (λ h. absurd (omega (arith, far, h))))
    ∙ ap (λ b. if b then word_of_stack (record { 0 = Some comp }) else word_of_stack (record { 0 = None }))
    (ne_eqb i 1 (λ h. absurd (omega (arith, far, h))))

later_tcap : (sched quality i : ℕ) → 2 ≤ i → tcap_word sched quality i ≡ word_of_quality (record { 0 = None })
later_tcap sched quality i far =
    ap (λ b. if b then word_of_head (record { budget = 0; mark = None; version = 0 })
    else (if i == 1 then word_of_quality (record { 0 = Some (sched, quality) }) else word_of_quality (record { 0 = None })))
    (ne_eqb i 0 (λ h. absurd (omega (arith, far, h))))
    ∙ ap (λ b. if b then word_of_quality (record { 0 = Some (sched, quality) }) else word_of_quality (record { 0 = None }))
    (ne_eqb i 1 (λ h. absurd (omega (arith, far, h))))

two_up : (h : ℕ) → 2 ≤ suc (suc h)
two_up h = omega arith

not_first : (i : ℕ) → (suc i == 0) ≡ false
not_first i = ne_eqb (suc i) 0 (λ h. absurd (omega (arith, h)))

thread_says : (comp i x : ℕ) → comp < 512 → (i ≤ 16 → x ≡ thread_word comp i) → IsThreadWord (idle_in comp) i x
thread_says comp zero x small stored = ap thread_of_word (stored (omega arith)) ∙ threads.spelling.reads (Idle 1) (omega arith, omega arith)
thread_says comp (suc zero) x small stored = λ low. ap stack_of_word (stored (omega arith))
    ∙ stacks.spelling.reads (record { 0 = Some comp }) small
thread_says comp (suc (suc h)) x small stored = λ low. ap stack_of_word (stored (omega (arith, low)))
    ∙ ap stack_of_word (later_thread comp (suc (suc h)) (two_up h))
    ∙ stacks.spelling.reads (record { 0 = None }) tt
    ∙ ap (λ (o : Option ℕ). Some (record { 0 = o })) (sym (slice_get_past (comp ∷ []) (suc h) (omega arith)))

tcap_says : (sched quality i x : ℕ) → PairFits (NewObject.Tcap sched quality) → (i ≤ 8 → x ≡ tcap_word sched quality i)
    → IsTcapWord (listed sched quality) i x
tcap_says sched quality zero x pair stored = record {
  version = 0;
  says = ap head_of_word (stored (omega arith))
      ∙ heads.spelling.reads (record { budget = 0; mark = None; version = 0 }) (omega arith, tt, omega arith);
  within = omega arith;
  most = omega arith;
}
tcap_says sched quality (suc zero) x pair stored =
    λ low. ap quality_of_word (stored (omega arith)) ∙ qualities.spelling.reads (record { 0 = Some (sched, quality) }) pair
tcap_says sched quality (suc (suc j)) x pair stored = λ low. ap quality_of_word (stored (omega (arith, low)))
    ∙ ap quality_of_word (later_tcap sched quality (suc (suc j)) (two_up j))
    ∙ qualities.spelling.reads (record { 0 = None }) tt
    ∙ ap (λ (o : Option (ℕ × ℕ)). Some (record { 0 = o })) (sym (slice_get_past ((sched, quality) ∷ []) (suc j) (omega arith)))

place_says : (i x : ℕ) → (i ≤ 63 → x ≡ word_of_entry Free) → (64 ≤ i → entry_of_word x ≡ Some Free) → entry_of_word x ≡ Some Free
place_says i x stored past = by (nat_lt i 64) refl
  where
    by : (b : Bool) → nat_lt i 64 ≡ b → entry_of_word x ≡ Some Free
    by true is = ap entry_of_word (stored (let low = ltb-true i 64 is in omega (arith, low))) ∙ entries.spelling.reads Free tt
    by false is = past (ltb-false i 64 is)

-- Where its words are stored, and those past a frame's 64 say that they are free, they say so.
pub says_new : (o : NewObject) (i x : ℕ) → PairFits o → NamesFit 512 o → (i ≤ last_word o → x ≡ object_word o i)
    → (64 ≤ i → entry_of_word x ≡ Some Free) → SaysNew o i x
says_new NewObject.Table i x pair names stored past = place_says i x stored past
says_new (NewObject.Thread comp) i x pair names stored past = thread_says comp i x names stored
says_new (NewObject.Tcap sched quality) i x pair names stored past = tcap_says sched quality i x pair stored
says_new _ i x pair names stored past = place_says i x stored past

-- And carry no mark.
pub bare_new : (o : NewObject) (i x : ℕ) → SaysNew o i x → mark_in_frame (Kernel (new_object o)) i x ≡ None
bare_new NewObject.Table i x says = ap entry_mark says
bare_new NewObject.Leaf i x says = ap entry_mark says
bare_new NewObject.Pages i x says = ap entry_mark says
bare_new NewObject.Pleaf i x says = ap entry_mark says
bare_new (NewObject.Thread comp) zero x says = ap thread_mark says
bare_new (NewObject.Thread comp) (suc i) x says = ap (λ b. if b then thread_mark (thread_of_word x) else None) (not_first i)
bare_new (NewObject.Tcap sched quality) zero x says = ap head_mark says.says
bare_new (NewObject.Tcap sched quality) (suc i) x says = ap (λ b. if b then head_mark (head_of_word x) else None) (not_first i)

-- Each is below 2^64.
pub word_small : (o : NewObject) (i : ℕ) → PairFits o → NamesFit 512 o → object_word o i < 2 ^ 64
word_small NewObject.Table i pair names = entries.spelling.small Free tt
word_small NewObject.Leaf i pair names = entries.spelling.small Free tt
word_small NewObject.Pages i pair names = entries.spelling.small Free tt
word_small NewObject.Pleaf i pair names = entries.spelling.small Free tt
word_small (NewObject.Thread comp) zero pair names = threads.spelling.small (Idle 1) (omega arith, omega arith)
word_small (NewObject.Thread comp) (suc zero) pair names = stacks.spelling.small (record { 0 = Some comp }) names
word_small (NewObject.Thread comp) (suc (suc h)) pair names =
    subst (λ (n : ℕ). n < 2 ^ 64) (sym (later_thread comp (suc (suc h)) (two_up h))) (stacks.spelling.small (record { 0 = None }) tt)
word_small (NewObject.Tcap sched quality) zero pair names =
    heads.spelling.small (record { budget = 0; mark = None; version = 0 }) (omega arith, tt, omega arith)
word_small (NewObject.Tcap sched quality) (suc zero) pair names = qualities.spelling.small (record { 0 = Some (sched, quality) }) pair
word_small (NewObject.Tcap sched quality) (suc (suc j)) pair names =
    subst (λ (n : ℕ). n < 2 ^ 64) (sym (later_tcap sched quality (suc (suc j)) (two_up j)))
    (qualities.spelling.small (record { 0 = None }) tt)

pub names_small : (o : NewObject) (frames : ℕ) → frames ≤ 512 → NamesFit frames o → NamesFit 512 o
names_small NewObject.Table frames few names = tt
names_small (NewObject.Thread comp) frames few names = omega (arith, few, names)
names_small _ frames few names = tt

-- In the state the places of a node are free.
abbrev pub PlaceReady : NewObject → Place → Type 0
PlaceReady NewObject.Table p = p ≡ Vacant
PlaceReady NewObject.Leaf p = p ≡ Vacant
PlaceReady NewObject.Pages p = p ≡ Vacant
PlaceReady NewObject.Pleaf p = p ≡ Vacant
PlaceReady (NewObject.Thread comp) p = Unit {0}
PlaceReady (NewObject.Tcap sched quality) p = Unit {0}

pub place_ready : (o : NewObject) (s : State) (f g i : ℕ) → g ≡ f → PlaceReady o (ready_place o s f g i)
place_ready NewObject.Table s f g i same = ap (λ r. r i) (put_same s.place f (λ i. Vacant) g same)
place_ready (NewObject.Thread comp) s f g i same = tt
place_ready (NewObject.Tcap sched quality) s f g i same = tt
place_ready _ s f g i same = ap (λ r. r i) (put_same s.place f (λ i. Vacant) g same)

pub ready_there : (o : NewObject) (s : State) (f g i : ℕ) → g ≢ f → ready_place o s f g i ≡ s.place g i
ready_there NewObject.Table s f g i other = ap (λ r. r i) (put_other s.place f (λ i. Vacant) g other)
ready_there (NewObject.Thread comp) s f g i other = refl
ready_there (NewObject.Tcap sched quality) s f g i other = refl
ready_there _ s f g i other = ap (λ r. r i) (put_other s.place f (λ i. Vacant) g other)

place_word : (frames : ℕ) (p : Place) (stamp x : ℕ) → p ≡ Vacant → entry_of_word x ≡ Some Free → PlaceIs frames p stamp (entry_of_word x)
place_word frames p stamp x free says = subst (λ q. PlaceIs frames q stamp (entry_of_word x)) (sym free) says

-- And so its words say what the frame is.
pub word_new : (o : NewObject) (frames : ℕ) (p : Place) (stamp i x : ℕ) → PlaceReady o p → SaysNew o i x
    → IsFrameWord frames (Kernel (new_object o)) p stamp i x
word_new NewObject.Table frames p stamp i x ready says = λ low. place_word frames p stamp x ready says
word_new (NewObject.Thread comp) frames p stamp i x ready says = says
word_new (NewObject.Tcap sched quality) frames p stamp i x ready says = says
word_new _ frames p stamp i x ready says = λ low. place_word frames p stamp x ready says

-- The references change by what it names.
ready_refs : (o : NewObject) (s : State) (f g : ℕ) → ((i : ℕ) (k : Capability) → s.place f i ≡ Holds k → ⊥)
    → refs (readied o s f) g ≡ refs s g
ready_refs NewObject.Table s f g bare = cleared_refs s f g bare
ready_refs (NewObject.Thread comp) s f g bare = refl
ready_refs (NewObject.Tcap sched quality) s f g bare = refl
ready_refs _ s f g bare = cleared_refs s f g bare

pub new_refs : (o : NewObject) (s : State) (f g : ℕ) → f < s.limits.frames → s.frame f ≡ Kernel Blank
    → ((i : ℕ) (k : Capability) → s.place f i ≡ Holds k → ⊥)
    → refs (with_frame (readied o s f) f (Kernel (new_object o))) g ≡ refs s g + times g (object_names o)
new_refs o s f g below blank bare =
    let a = frame_refs (readied o s f) f (Kernel (new_object o)) g below in
    let b : times g (frame_names (s.frame f)) ≡ 0 = ap (λ x. times g (frame_names x)) blank in
    let d : times g (frame_names (Kernel (new_object o))) ≡ times g (object_names o) = ap (times g) (made_names o) in
    let e = ready_refs o s f g bare in
    omega (arith, a, b, d, e)
