-- A part that is set leaves the maps whole, its references counted anew.
use Rattle.seq_state.specs.{◌≡◌, ℕ, ◌+◌, ◌*◌, ◌^◌, ◌<◌, ◌≤◌, refl, List, length, Some, IsSome, State, with_place, with_frame, with_core}
use Rattle.seq_state.specs.{place_names, frame_names, number_names, core_names, refs, place_held, frame_of, number_of, core_of, at}
use Rattle.seq_state.specs.{count_at, HasKeys, NamesFew, HasBegun, IsWhole, is_inside, state_of, place_or_free, frame_or_untyped}
use Rattle.kernel_invariant.specs.kernel_rules.proofs.{sym, ◌∙◌, ap, subst, arith, inl, inr, with_number, times}
use Rattle.kernel_invariant.proofs.{place_refs, frame_refs, number_refs}
use Rattle.kernel_invariant.proofs.{Sums.sum_term, Refs.core_refs}
use Rattle.seq_state.specs.{declared.parts.Place.Place, declared.parts.Frame.Frame, declared.parts.Liveness.Liveness}
use Rattle.seq_state.specs.{declared.parts.Core.Core, declared.times.Period.Period, Maps.Maps}
use Rattle.seq_state.proofs.MapLemmas.{IsWritten, at_place_is, places_written, frames_written, numbers_written, cores_written}
use Rattle.seq_state.proofs.SetLemmas.{IsSet, all_set, place_graces_set, frame_graces_set, number_graces_set}
use Rattle.seq_state.proofs.CountLemmas.{some_left, refs_most, grace_counts}
use Rattle.{seq_state.specs.number_or_unused, std.proofs.lemmas.Bool.cases_eq}
use Rattle.kernel_invariant.specs.kernel_rules.specs.State as state

-- What was named is named no more, and what is named now is.
pub record Recounted (t : Maps) (c : List ℕ) (old new : List ℕ) : Type 0 where
  pub counts : (f : ℕ) → f < length t.counts → count_at c f + times f old ≡ count_at t.counts f + times f new
  pub all : length c ≡ length t.counts

recounted : (t u : Maps) (s : State) (c old new : List ℕ) → IsWhole t → Recounted t c old new → state_of u ≡ s → u.counts ≡ c
    → ((f : ℕ) → refs s f + times f old ≡ refs (state_of t) f + times f new)
    → (f : ℕ) → f < 512 → count_at u.counts f ≡ refs (state_of u) f
recounted t u s c old new whole r is counts by f below =
    let all = whole.all_counted in
    let a = r.counts f (omega arith) in
    let b = whole.counts f below in
    let d = by f in
    let e : count_at u.counts f ≡ count_at c f = ap (λ ns. count_at ns f) counts in
    let g : refs (state_of u) f ≡ refs s f = ap (λ x. refs x f) is in
    omega (arith, a, b, d, e, g)

-- The counts have room.
pub has_room : (t : Maps) → IsWhole t → (f : ℕ) → f < length t.counts → count_at t.counts f < 2 ^ 31
has_room t whole f below =
    let all = whole.all_counted in
    let a = whole.counts f (omega arith) in
    let b = refs_most t whole f in
    omega (arith, a, b)

keys_set : {X : Type 0} (n : ℕ) (old new : List X) (k : ℕ) (x : X) → HasKeys n old → IsWritten old new k x → HasKeys n new
keys_set n old new k x all w q below = elim (cases_eq q k) [
  | inl e ↦ subst (λ o. IsSome o) (sym (ap (at new) e ∙ w.here)) refl
  | inr ne ↦ subst (λ o. IsSome o) (sym (w.others q ne)) (all q below)
]

-- ---- places

pub place_stood : (t : Maps) (f i k : ℕ) (q : Place) → i < 64 → k ≡ 64 * f + i → at t.places k ≡ Some q
    → place_held q ≡ (state_of t).place f i
unfolding state_of
place_stood t f i k q small is has = sym (ap place_or_free (at_place_is t.places f i k small is ∙ has))

pub place_written : (t : Maps) (es : List Place) (ns : List ℕ) (f i k : ℕ) (p : Place) → i < 64 → k ≡ 64 * f + i → IsWritten t.places es k p
    → state_of (record t { places = es; counts = ns }) ≡ with_place (state_of t) f i (place_held p)
unfolding state_of
place_written t es ns f i k p small is w = places_written t es f i k p small is w

pub place_some : (t : Maps) (f i : ℕ) (old : List ℕ) → IsWhole t → f < t.limits.frames → i < 64
    → old ≡ place_names ((state_of t).place f i) → (g : ℕ) → g < length t.counts → times g old ≤ count_at t.counts g
unfolding state_of
place_some t f i old whole below small is g within =
    let all = whole.all_counted in
    let a = some_left (state_of t) _ g (place_names ((state_of t).place f i)) (place_refs (state_of t) f i state.Free g below small) in
    let b = whole.counts g (omega arith) in
    let c : times g old ≡ times g (place_names ((state_of t).place f i)) = ap (times g) is in
    omega (arith, a, b, c)

pub places_whole : (t : Maps) (es : List Place) (f i k : ℕ) (p : Place) (ns old new : List ℕ) → IsWhole t
    → f < t.limits.frames → i < 64 → k ≡ 64 * f + i → IsWritten t.places es k p → Recounted t ns old new
    → old ≡ place_names ((state_of t).place f i) → new ≡ place_names (place_held p)
    → IsWhole (record t { places = es; counts = ns })
unfolding state_of
places_whole t es f i k p ns old new whole below small is w r old_is new_is = record {
  fits = whole.fits;
  places = keys_set (64 * t.limits.frames) t.places es k p whole.places w;
  frames = whole.frames;
  numbers = whole.numbers;
  cores = whole.cores;
  place_graces = whole.place_graces;
  frame_graces = whole.frame_graces;
  number_graces = whole.number_graces;
  times_of_all = whole.times_of_all;
  times = whole.times;
  all_counted = r.all ∙ whole.all_counted;
  counts = recounted t (record t { places = es; counts = ns }) (with_place (state_of t) f i (place_held p)) ns old new whole r
      (places_written t es f i k p small is w) refl (λ g. subst (λ xs. refs (with_place (state_of t) f i (place_held p)) g + times g xs
      ≡ refs (state_of t) g + times g new) (sym old_is) (subst (λ xs. refs (with_place (state_of t) f i (place_held p)) g
      + times g (place_names ((state_of t).place f i)) ≡ refs (state_of t) g + times g xs) (sym new_is)
      (place_refs (state_of t) f i (place_held p) g below small)));
}

-- ---- frames

pub frame_stood : (t : Maps) (f k : ℕ) (x : Frame) → k ≡ f → at t.frames k ≡ Some x → frame_of x ≡ (state_of t).frame f
unfolding state_of
frame_stood t f k x is has = sym (ap frame_or_untyped (ap (at t.frames) (sym is) ∙ has))

pub frame_written : (t : Maps) (es : List Frame) (ns : List ℕ) (f k : ℕ) (x : Frame) → k ≡ f → IsWritten t.frames es k x
    → state_of (record t { frames = es; counts = ns }) ≡ with_frame (state_of t) f (frame_of x)
unfolding state_of
frame_written t es ns f k x is w = frames_written t es f k x is w

pub frame_some : (t : Maps) (f : ℕ) (old : List ℕ) → IsWhole t → f < t.limits.frames
    → old ≡ frame_names ((state_of t).frame f) → (g : ℕ) → g < length t.counts → times g old ≤ count_at t.counts g
unfolding state_of
frame_some t f old whole below is g within =
    let all = whole.all_counted in
    let a = some_left (state_of t) _ g (frame_names ((state_of t).frame f)) (frame_refs (state_of t) f state.Untyped g below) in
    let b = whole.counts g (omega arith) in
    let c : times g old ≡ times g (frame_names ((state_of t).frame f)) = ap (times g) is in
    omega (arith, a, b, c)

pub frames_whole : (t : Maps) (es : List Frame) (f k : ℕ) (x : Frame) (ns old new : List ℕ) → IsWhole t
    → f < t.limits.frames → k ≡ f → IsWritten t.frames es k x → length (frame_names (frame_of x)) ≤ 16 → Recounted t ns old new
    → old ≡ frame_names ((state_of t).frame f) → new ≡ frame_names (frame_of x)
    → IsWhole (record t { frames = es; counts = ns })
unfolding state_of
frames_whole t es f k x ns old new whole below is w few r old_is new_is = record {
  fits = whole.fits;
  places = whole.places;
  frames = all_set NamesFew t.limits.frames t.frames es k x whole.frames (record { here = λ _. w.here; others = w.others }) few;
  numbers = whole.numbers;
  cores = whole.cores;
  place_graces = whole.place_graces;
  frame_graces = whole.frame_graces;
  number_graces = whole.number_graces;
  times_of_all = whole.times_of_all;
  times = whole.times;
  all_counted = r.all ∙ whole.all_counted;
  counts = recounted t (record t { frames = es; counts = ns }) (with_frame (state_of t) f (frame_of x)) ns old new whole r
      (frames_written t es f k x is w) refl (λ g. subst (λ xs. refs (with_frame (state_of t) f (frame_of x)) g + times g xs
      ≡ refs (state_of t) g + times g new) (sym old_is) (subst (λ xs. refs (with_frame (state_of t) f (frame_of x)) g
      + times g (frame_names ((state_of t).frame f)) ≡ refs (state_of t) g + times g xs) (sym new_is)
      (frame_refs (state_of t) f (frame_of x) g below)));
}

-- ---- liveness numbers

pub number_stood : (t : Maps) (l k : ℕ) (x : Liveness) → k ≡ l → at t.numbers k ≡ Some x → number_of x ≡ (state_of t).number l
unfolding state_of
number_stood t l k x is has = sym (ap number_or_unused (ap (at t.numbers) (sym is) ∙ has))

pub number_written : (t : Maps) (es : List Liveness) (ns : List ℕ) (l k : ℕ) (x : Liveness) → k ≡ l → IsWritten t.numbers es k x
    → state_of (record t { numbers = es; counts = ns }) ≡ with_number (state_of t) l (number_of x)
unfolding state_of
number_written t es ns l k x is w = numbers_written t es l k x is w

pub number_some : (t : Maps) (l : ℕ) (old : List ℕ) → IsWhole t → l < 64
    → old ≡ number_names ((state_of t).number l) → (g : ℕ) → g < length t.counts → times g old ≤ count_at t.counts g
number_some t l old whole below is g within =
    let all = whole.all_counted in
    let a = some_left (state_of t) _ g (number_names ((state_of t).number l)) (number_refs (state_of t) l state.Unused g below) in
    let b = whole.counts g (omega arith) in
    let c : times g old ≡ times g (number_names ((state_of t).number l)) = ap (times g) is in
    omega (arith, a, b, c)

pub numbers_whole : (t : Maps) (es : List Liveness) (l k : ℕ) (x : Liveness) (ns old new : List ℕ) → IsWhole t
    → l < 64 → k ≡ l → IsWritten t.numbers es k x → Recounted t ns old new
    → old ≡ number_names ((state_of t).number l) → new ≡ number_names (number_of x)
    → IsWhole (record t { numbers = es; counts = ns })
unfolding state_of
numbers_whole t es l k x ns old new whole below is w r old_is new_is = record {
  fits = whole.fits;
  places = whole.places;
  frames = whole.frames;
  numbers = keys_set 64 t.numbers es k x whole.numbers w;
  cores = whole.cores;
  place_graces = whole.place_graces;
  frame_graces = whole.frame_graces;
  number_graces = whole.number_graces;
  times_of_all = whole.times_of_all;
  times = whole.times;
  all_counted = r.all ∙ whole.all_counted;
  counts = recounted t (record t { numbers = es; counts = ns }) (with_number (state_of t) l (number_of x)) ns old new whole r
      (numbers_written t es l k x is w) refl (λ g. subst (λ xs. refs (with_number (state_of t) l (number_of x)) g + times g xs
      ≡ refs (state_of t) g + times g new) (sym old_is) (subst (λ xs. refs (with_number (state_of t) l (number_of x)) g
      + times g (number_names ((state_of t).number l)) ≡ refs (state_of t) g + times g xs) (sym new_is)
      (number_refs (state_of t) l (number_of x) g below)));
}

-- ---- cores

pub core_written : (t : Maps) (es : List Core) (ns : List ℕ) (c k : ℕ) (x : Core) → k ≡ c → IsWritten t.cores es k x
    → x.inside ≡ is_inside t c → state_of (record t { cores = es; counts = ns }) ≡ with_core (state_of t) c (core_of x)
unfolding state_of
core_written t es ns c k x is w same = cores_written t es c k x is w same

core_term : (s : State) (c g : ℕ) → c < s.limits.cores → times g (core_names (s.core c)) ≤ refs s g
unfolding refs
core_term s c g below = let a = sum_term (λ d. times g (core_names (s.core d))) s.limits.cores c below in omega arith

pub core_some : (t : Maps) (c : ℕ) (old : List ℕ) → IsWhole t → c < (state_of t).limits.cores
    → old ≡ core_names ((state_of t).core c) → (g : ℕ) → g < length t.counts → times g old ≤ count_at t.counts g
core_some t c old whole below is g within =
    let all = whole.all_counted in
    let a = core_term (state_of t) c g below in
    let b = whole.counts g (omega arith) in
    let d : times g old ≡ times g (core_names ((state_of t).core c)) = ap (times g) is in
    omega (arith, a, b, d)

pub cores_whole : (t : Maps) (es : List Core) (c k : ℕ) (x : Core) (ns old new : List ℕ) → IsWhole t
    → c < (state_of t).limits.cores → k ≡ c → IsWritten t.cores es k x → x.inside ≡ is_inside t c → Recounted t ns old new
    → old ≡ core_names ((state_of t).core c) → new ≡ core_names (core_of x)
    → IsWhole (record t { cores = es; counts = ns })
unfolding state_of
cores_whole t es c k x ns old new whole below is w same r old_is new_is = record {
  fits = whole.fits;
  places = whole.places;
  frames = whole.frames;
  numbers = whole.numbers;
  cores = keys_set t.limits.cores t.cores es k x whole.cores w;
  place_graces = whole.place_graces;
  frame_graces = whole.frame_graces;
  number_graces = whole.number_graces;
  times_of_all = whole.times_of_all;
  times = whole.times;
  all_counted = r.all ∙ whole.all_counted;
  counts = recounted t (record t { cores = es; counts = ns }) (with_core (state_of t) c (core_of x)) ns old new whole r
      (cores_written t es c k x is w same) refl (λ g. subst (λ xs. refs (with_core (state_of t) c (core_of x)) g + times g xs
      ≡ refs (state_of t) g + times g new) (sym old_is) (subst (λ xs. refs (with_core (state_of t) c (core_of x)) g
      + times g (core_names ((state_of t).core c)) ≡ refs (state_of t) g + times g xs) (sym new_is)
      (core_refs (state_of t) c (core_of x) g below)));
}

-- ---- grace periods

pub place_graces_whole : (t : Maps) (es : List Period) (f i k : ℕ) (g : Period) → IsWhole t → i < 64 → k ≡ 64 * f + i
    → IsSet t.place_graces es k g → g.began ≤ t.clock → IsWhole (record t { place_graces = es })
place_graces_whole t es f i k g whole small is s begun = record {
  fits = whole.fits;
  places = whole.places;
  frames = whole.frames;
  numbers = whole.numbers;
  cores = whole.cores;
  place_graces = all_set (HasBegun t.clock) (64 * t.limits.frames) t.place_graces es k g whole.place_graces s begun;
  frame_graces = whole.frame_graces;
  number_graces = whole.number_graces;
  times_of_all = whole.times_of_all;
  times = whole.times;
  all_counted = whole.all_counted;
  counts = grace_counts t (record t { place_graces = es }) _ whole refl (place_graces_set t es f i k g whole small is s);
}

pub frame_graces_whole : (t : Maps) (es : List Period) (f k : ℕ) (g : Period) → IsWhole t → k ≡ f
    → IsSet t.frame_graces es k g → g.began ≤ t.clock → IsWhole (record t { frame_graces = es })
frame_graces_whole t es f k g whole is s begun = record {
  fits = whole.fits;
  places = whole.places;
  frames = whole.frames;
  numbers = whole.numbers;
  cores = whole.cores;
  place_graces = whole.place_graces;
  frame_graces = all_set (HasBegun t.clock) t.limits.frames t.frame_graces es k g whole.frame_graces s begun;
  number_graces = whole.number_graces;
  times_of_all = whole.times_of_all;
  times = whole.times;
  all_counted = whole.all_counted;
  counts = grace_counts t (record t { frame_graces = es }) _ whole refl (frame_graces_set t es f k g whole is s);
}

pub number_graces_whole : (t : Maps) (es : List Period) (l k : ℕ) (g : Period) → IsWhole t → k ≡ l
    → IsSet t.number_graces es k g → g.began ≤ t.clock → IsWhole (record t { number_graces = es })
number_graces_whole t es l k g whole is s begun = record {
  fits = whole.fits;
  places = whole.places;
  frames = whole.frames;
  numbers = whole.numbers;
  cores = whole.cores;
  place_graces = whole.place_graces;
  frame_graces = whole.frame_graces;
  number_graces = all_set (HasBegun t.clock) 64 t.number_graces es k g whole.number_graces s begun;
  times_of_all = whole.times_of_all;
  times = whole.times;
  all_counted = whole.all_counted;
  counts = grace_counts t (record t { number_graces = es }) _ whole refl (number_graces_set t es l k g whole is s);
}
