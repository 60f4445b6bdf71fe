-- Where a decision begins a grace period, a part of the state has changed so.
use Rattle.state_laws.specs.kernel_laws.proofs as low
use low.{◌≡◌, ◌≢◌, inl, inr, ℕ, ◌<◌, ◌≤◌, arith, Bool, true, false, ◌&&◌, ◌||◌, ◌==◌, cond, if◌then◌else◌, refl, sym, ◌∙◌, ap, subst}
use low.{IsTrue, List, [], ◌∷◌, take, drop, Some, false≢true, eqb-true, eq-eqb, ne_eqb, Kind, Call, Value, Reply, Place, Holds, Quiescing}
use low.{Thread, Frame, Untyped, Kernel, Liveness, Unused, Live, Dead, ThreadFields, Grace, Thing, PlaceOf, FrameOf, NumberOf, State, put}
use low.{thread_in, thread_of, place_names, frame_names, number_names, core_names, times, only, to_use, fits, same_thing, begun, Change}
use low.{does, Judged, Refused, Found, frames_of, with_thread, Edit, Untype, Deaden, Pop, edited, is_live, after_edits, begins_all}
use low.{is_live_in, rule_of, change_of, changed, counted, state_by, begins, begins_in as begun_in, after, is_open, IfFound, put_same}
use low.{times_cons, times_first, put_all, only_is, IsOpen, opened, open_is, outcome_from, none_some, Calm}
use Rattle.authority_laws.specs.{Part, PlaceIs, FrameIs, NumberIs, CoreIs}
use Rattle.std.proofs.lemmas.Bool.{cases_eq, and_parts}
use Rattle.state_laws.specs.kernel_invariant.proofs.{frames_no_place, usable_good}
use Rattle.state_laws.specs.kernel_rules.specs.Edits.{Remove, Switch, begins_in}
use Rattle.authority_laws.specs.Graces.{names_of, LosesOne, HasCause, GracesHaveCause}
use Rattle.authority_laws.proofs.Acts.{LedTo, By, EachBy, Quiet, Acts, NamedAt, used_at, rule_acts}
use Rattle.{std.specs.List.list_any, state_laws.specs.kernel_invariant.proofs.Facts.edits_map, state_laws.proofs.Threads.threads_run}

-- ---- lists of frames

any_frames : (f : ℕ) (fs : List ℕ) → list_any (same_thing (FrameOf f)) (frames_of fs) ≡ true → 1 ≤ times f fs
any_frames f [] is = absurd (false≢true is)
any_frames f (g ∷ fs) is = by_first (any_frames f fs) (f == g) refl is
  where
    by_first : (list_any (same_thing (FrameOf f)) (frames_of fs) ≡ true → 1 ≤ times f fs) → (b : Bool) → (f == g) ≡ b
        → (b || list_any (same_thing (FrameOf f)) (frames_of fs)) ≡ true → 1 ≤ times f (g ∷ fs)
    by_first rest true same is = subst (λ n. 1 ≤ times f (n ∷ fs)) (eqb-true f g same) (times_first f fs)
    by_first rest false same is = let p = times_cons f g fs in let q = rest is in omega (arith, p, q)

frames_no_number : (l : ℕ) (fs : List ℕ) → list_any (same_thing (NumberOf l)) (frames_of fs) ≡ false
frames_no_number l [] = refl
frames_no_number l (g ∷ fs) = frames_no_number l fs

other_times : (f g : ℕ) (fs : List ℕ) → g ≢ f → times f (g ∷ fs) ≡ times f fs
other_times f g fs other =
    let p = times_cons f g fs in
    let zero : ℕ = 0 in
    let q : cond (g == f) 1 0 ≡ zero = ap (λ b. cond b 1 0) (ne_eqb g f other) in
    omega (arith, p, q)

-- The first of a list is lost.
first_lost : (f : ℕ) (fs : List ℕ) → 1 ≤ times f (take 1 fs) → times f (drop 1 fs) < times f fs
first_lost f [] one = absurd (omega (arith, one))
first_lost f (g ∷ gs) one =
    let p = times_cons f g gs in
    let q = times_cons f g [] in
    omega (arith, p, q, one)

-- Two frames go, and two others come.
both_lost : (f old past h q : ℕ) → h ≢ old → h ≢ past → q ≢ old
    → 1 ≤ times f (old ∷ (if q == past then [] else past ∷ [])) → times f (h ∷ q ∷ []) < times f (old ∷ past ∷ [])
both_lost f old past h q not_old not_past other one = elim (cases_eq f old) [
  | inl same ↦
      let a : times f (h ∷ q ∷ []) ≡ times f (q ∷ []) = other_times f h (q ∷ []) (λ e. not_old (e ∙ same)) in
      let b : times f (q ∷ []) ≡ times f [] = other_times f q [] (λ e. other (e ∙ same)) in
      let c : 1 ≤ times f (old ∷ past ∷ []) = subst (λ n. 1 ≤ times f (n ∷ past ∷ [])) same (times_first f (past ∷ [])) in
      omega (arith, a, b, c)
  | inr away ↦ by_test (q == past) refl
      (let a = other_times f old (if q == past then [] else past ∷ []) (λ e. away (sym e)) in omega (arith, a, one))
]
  where
    by_past : q ≢ past → f ≡ past → times f (h ∷ q ∷ []) < times f (old ∷ past ∷ [])
    by_past apart same =
        let a : times f (h ∷ q ∷ []) ≡ times f (q ∷ []) = other_times f h (q ∷ []) (λ e. not_past (e ∙ same)) in
        let b : times f (q ∷ []) ≡ times f [] = other_times f q [] (λ e. apart (e ∙ same)) in
        let c : 1 ≤ times f (past ∷ []) = subst (λ n. 1 ≤ times f (n ∷ [])) same (times_first f []) in
        let d = times_cons f old (past ∷ []) in
        omega (arith, a, b, c, d)

    by_test : (b : Bool) → (q == past) ≡ b → 1 ≤ times f (if b then [] else past ∷ [])
        → times f (h ∷ q ∷ []) < times f (old ∷ past ∷ [])
    by_test true is none = absurd (omega (arith, none))
    by_test false is some = elim (cases_eq past f) [
      | inl same ↦ by_past (λ e. false≢true (sym is ∙ eq-eqb q past e)) (sym same)
      | inr none ↦ let a = other_times f past [] none in absurd (omega (arith, a, some))
    ]

-- ---- frames

live_in : (x : Liveness) (e : ℕ) → is_live_in x e ≡ true → is_live x ≡ true
live_in (Live d f) e is = refl
live_in Unused e is = absurd (false≢true is)
live_in (Dead d) e is = absurd (false≢true is)

stack_names : (x : Frame) → IsTrue (fits Kind.Thread x) → frame_names x ≡ (thread_in x).stack
stack_names (Kernel (Thread t)) fit = refl
stack_names _ fit = absurd (false≢true fit)

put_names : (x : Frame) (t : ThreadFields) → IsTrue (fits Kind.Thread x) → frame_names (with_thread x t) ≡ t.stack
put_names (Kernel (Thread u)) t fit = refl
put_names _ t fit = absurd (false≢true fit)

no_both : (x : Frame) → IsTrue (fits Kind.Thread x) → IsTrue (fits Kind.Tcap x) → ⊥
no_both (Kernel (Thread t)) a b = false≢true b
no_both _ a b = false≢true a

module _ (call : Call) (s : State) (c : ℕ) (o : ℕ → Bool) (h : IsOpen s o c)
    (runs : (thread_in (s.frame (s.core c).thread)).runs_on ≡ Some c) where
  own_thread : IsTrue (fits Kind.Thread (s.frame (s.core c).thread))
  own_thread = (h.sound.cores c (h.sound.inside c h.is).1).0

  own_tcap : IsTrue (fits Kind.Tcap (s.frame (s.core c).tcap))
  own_tcap = (h.sound.cores c (h.sound.inside c h.is).1).1

  led_fit : (j : Kind) (f : ℕ) → LedTo call s c (only j) f → IsTrue (fits j (s.frame f))
  led_fit j f l =
      let x : NamedAt s c l.may.number (to_use l.may.kinds) l.cap = used_at s c l.cap l.may in
      subst (λ n. IsTrue (fits j (s.frame n))) l.frame
      (subst (λ i. IsTrue (fits i (s.frame l.cap.frame))) (only_is j l.cap.kind l.kind)
      (usable_good s o c x.at l.cap h.sound h.is x.from).fit)

  -- a part whose names are known
  lost : (t : State) (f : ℕ) (part : Part) (after before : List ℕ) → names_of t part ≡ after → names_of s part ≡ before
      → times f after < times f before → LosesOne s t f
  lost t f part after before a b less = record {
    part = part;
    fewer = subst (λ l. times f (names_of t part) < times f l) (sym b) (subst (λ l. times f l < times f before) (sym a) less);
  }

  none_left : (f : ℕ) (fs : List ℕ) → 1 ≤ times f fs → times f [] < times f fs
  none_left f fs one = omega (arith, one)

  remove_cause : (e : Edit) → By call s c e → (x : Thing) → list_any (same_thing x) (begins_in c s e) ≡ true → HasCause s (edited c s e) x
  remove_cause (Remove at k) by (PlaceOf f i) is = by_first (f == at.node && i == at.index) refl is
    where
      by_first : (b : Bool) → (f == at.node && i == at.index) ≡ b
          → (b || list_any (same_thing (PlaceOf f i)) (frames_of (place_names (Holds k)))) ≡ true
          → HasCause s (edited c s (Remove at k)) (PlaceOf f i)
      by_first true same is =
          let p = and_parts (f == at.node) (i == at.index) same in
          let here = eqb-true f at.node p.0 in
          let on = eqb-true i at.index p.1 in (
            k,
            ap (λ n. s.place n i) here ∙ ap (s.place at.node) on ∙ by.1,
            ap (λ (row : ℕ → Place). row i) (put_same s.place at.node (put (s.place at.node) at.index (Quiescing k)) f here)
                ∙ put_same (s.place at.node) at.index (Quiescing k) i on,
          )
      by_first false same is = absurd (false≢true (sym (frames_no_place f i (place_names (Holds k))) ∙ is))
  remove_cause (Remove at k) by (FrameOf f) is =
      lost (edited c s (Remove at k)) f (PlaceIs at.node at.index) [] (place_names (Holds k))
      (ap place_names (ap (λ (row : ℕ → Place). row at.index)
      (put_same s.place at.node (put (s.place at.node) at.index (Quiescing k)) at.node refl)
      ∙ put_same (s.place at.node) at.index (Quiescing k) at.index refl))
      (ap place_names by.1) (none_left f (place_names (Holds k)) (any_frames f (place_names (Holds k)) is))
  remove_cause (Remove at k) by (NumberOf l) is = absurd (false≢true (sym (frames_no_number l (place_names (Holds k))) ∙ is))
  remove_cause (Untype f) by (PlaceOf g i) is = absurd (false≢true (sym (frames_no_place g i (frame_names (s.frame f))) ∙ is))
  remove_cause (Untype f) by (NumberOf l) is = absurd (false≢true (sym (frames_no_number l (frame_names (s.frame f))) ∙ is))
  remove_cause (Untype f) by (FrameOf g) is =
      lost (edited c s (Untype f)) g (FrameIs f) [] (frame_names (s.frame f)) (ap frame_names (put_same s.frame f Untyped f refl)) refl
      (none_left g (frame_names (s.frame f)) (any_frames g (frame_names (s.frame f)) is))
  remove_cause (Deaden l e) by (PlaceOf g i) is = absurd (false≢true (sym (frames_no_place g i (number_names (s.number l))) ∙ is))
  remove_cause (Deaden l e) by (NumberOf m) is = by_first (m == l) refl is
    where
      by_first : (b : Bool) → (m == l) ≡ b → (b || list_any (same_thing (NumberOf m)) (frames_of (number_names (s.number l)))) ≡ true
          → HasCause s (edited c s (Deaden l e)) (NumberOf m)
      by_first true same is =
          let one : m ≡ l = eqb-true m l same in
          (ap (λ n. is_live (s.number n)) one ∙ live_in (s.number l) _ by.3.1, ap is_live (put_same s.number l (Dead e) m one))
      by_first false same is = absurd (false≢true (sym (frames_no_number m (number_names (s.number l))) ∙ is))
  remove_cause (Deaden l e) by (FrameOf g) is =
      lost (edited c s (Deaden l e)) g (NumberIs l) [] (number_names (s.number l)) (ap number_names (put_same s.number l (Dead e) l refl))
      refl
      (none_left g (number_names (s.number l)) (any_frames g (number_names (s.number l)) is))
  remove_cause Pop by (PlaceOf g i) is = absurd (false≢true (sym (frames_no_place g i (take 1 (thread_of s c).stack)) ∙ is))
  remove_cause Pop by (NumberOf l) is = absurd (false≢true (sym (frames_no_number l (take 1 (thread_of s c).stack)) ∙ is))
  remove_cause Pop by (FrameOf g) is =
      let own : ℕ = (s.core c).thread in
      let fields : ThreadFields = record (thread_of s c) { stack = drop 1 (thread_of s c).stack } in
      lost (edited c s Pop) g (FrameIs own) (drop 1 (thread_of s c).stack) (thread_of s c).stack
      (ap frame_names (put_same s.frame own (with_thread (s.frame own) fields) own refl) ∙ put_names (s.frame own) fields own_thread)
      (stack_names (s.frame own) own_thread)
      (first_lost g (thread_of s c).stack (any_frames g (take 1 (thread_of s c).stack) is))
  remove_cause (Switch h q) by (PlaceOf g i) is =
      absurd (false≢true (sym (frames_no_place g i ((s.core c).thread ∷ (if q == (s.core c).tcap then [] else (s.core c).tcap ∷ []))) ∙ is))
  remove_cause (Switch h q) by (NumberOf l) is =
      absurd (false≢true (sym (frames_no_number l ((s.core c).thread ∷ (if q == (s.core c).tcap then [] else (s.core c).tcap ∷ []))) ∙ is))
  remove_cause (Switch h q) by (FrameOf g) is =
      let old : ℕ = (s.core c).thread in
      let past : ℕ = (s.core c).tcap in
      let thread_fit = led_fit Kind.Thread h by.led in
      let tcap_fit = led_fit Kind.Tcap q by.tcap in
      lost (edited c s (Switch h q)) g (CoreIs c) (h ∷ q ∷ []) (old ∷ past ∷ [])
      (ap core_names (put_same s.core c (record (s.core c) { thread = h; tcap = q }) c refl)) refl
      (both_lost g old past h q
      (λ e. none_some c (sym by.idle ∙ ap (λ n. (thread_in (s.frame n)).runs_on) e ∙ runs))
      (λ e. no_both (s.frame h) thread_fit (subst (λ n. IsTrue (fits Kind.Tcap (s.frame n))) (sym e) own_tcap))
      (λ e. no_both (s.frame q) (subst (λ n. IsTrue (fits Kind.Thread (s.frame n))) (sym e) own_thread) tcap_fit)
      (any_frames g (old ∷ (if q == past then [] else past ∷ [])) is))
  remove_cause _ by x is = absurd (false≢true is)

  -- the count of calls, and grace periods, name no frame
  names_on : (u : State) (g : Thing → Grace) (x : Part)
      → names_of (counted (record u { grace = g }) c) x ≡ names_of u x
  names_on u g (PlaceIs f i) = refl
  names_on u g (FrameIs f) = refl
  names_on u g (NumberIs l) = refl
  names_on u g (CoreIs d) = put_all (λ d k. core_names k ≡ core_names (u.core d)) u.core c _ d
      (λ same. ap (λ n. core_names (u.core n)) (sym same)) (λ other. refl)
  names_on u g _ = refl

  cause_on : (u : State) (g : Thing → Grace) (x : Thing) → HasCause s u x
      → HasCause s (counted (record u { grace = g }) c) x
  cause_on u g (PlaceOf f i) h = h
  cause_on u g (NumberOf l) h = h
  cause_on u g (FrameOf f) h = record {
    part = h.part;
    fewer = subst (λ l. times f l < times f (names_of s h.part)) (sym (names_on u g h.part)) h.fewer;
  }

  edits_cause : (es : List Edit) → Calm c s es → Quiet c s es → EachBy call s c es → (x : Thing)
      → list_any (same_thing x) (begins_all c s es) ≡ true → HasCause s (after_edits c s es) x
  edits_cause [] calm quiet by x is = absurd (false≢true is)
  edits_cause (e ∷ []) calm quiet by x is = remove_cause e by.0 x is
  edits_cause (e ∷ (y ∷ es)) calm quiet by x is =
      absurd (false≢true (ap (list_any (same_thing x)) (sym (calm.0 ∙ quiet)) ∙ is))

  abbrev CausedBy : Change → Type 0
  CausedBy change = (x : Thing) → list_any (same_thing x) change.begins ≡ true
      → HasCause s (counted (begun s change.begins change.next) c) x

  change_cause : (v : Value) (es : List Edit) → Acts call c s es → CausedBy (does c s v es)
  change_cause v es acts x is = cause_on (after_edits c s es) _ x (edits_cause es acts.calm acts.quiet acts.by x is)

  pub ok_cause : (x : Thing) → begun_in (change_of s c call) x ≡ true → HasCause s (counted (changed s (change_of s c call)) c) x
  ok_cause x = by_found (change_of s c call) (outcome_from CausedBy s c (rule_of s c call)
      (edits_map (λ v es. Acts call c s es) (λ v es. CausedBy (does c s v es)) s c (rule_of s c call) change_cause
      (rule_acts s c o h call)))
    where
      by_found : (j : Judged Change) → IfFound j CausedBy → begun_in j x ≡ true → HasCause s (counted (changed s j) c) x
      by_found (Refused r) by is = absurd (false≢true is)
      by_found (Found change) by is = by x is

pub graces_have_cause : GracesHaveCause
graces_have_cause setting lim events c call r run x is = by_reply r is
  where
    open_call : IsOpen (after setting events) (opened events) c
    open_call = open_is setting lim events c run.0 (ap is_open run.1.is_open)

    by_reply : (r : Reply) → begins (after setting events) c call r x ≡ true
        → HasCause (after setting events) (state_by (after setting events) c call r) x
    by_reply (Reply.Ok v) is = ok_cause call (after setting events) c (opened events) open_call
        ((threads_run setting lim events run.0 (((after setting events).core c).thread) c).runs
        (open_call.sound.inside c open_call.is).1 refl) x is
    by_reply _ is = absurd (false≢true is)
