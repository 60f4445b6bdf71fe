-- A write of the start's word at its place keeps the words that are right.
use Rattle.kernel_history.proofs.{◌≡◌, ℕ, ◌<◌, inl, inr, sym, ap, subst, ◌∙◌, refl, arith, List, length, get_or, length-set}
use Rattle.kernel_history.proofs.{get_or-set_same, get_or-set_other, Setting, IsSetting, Word, EntryAt, FrameAt, CountAt, CoreAt, FlushAt}
use Rattle.kernel_history.proofs.{LiveAt, ClockAt, IsShape, IsIn, place_of, size_of, has_places, boot_word, shape_of}
use Rattle.boot_words.specs.{IsRight, Fills, IsFrameRight}
use Rattle.{std.proofs.Math.ListN.set, std.proofs.lemmas.Bool.cases_eq, kernel_history.specs.word_map.specs.Places.HasPlaces}
use Rattle.{boot_words.specs.Filling.Puts, boot_words.specs.Filling.IsCoreRight}

pub shape_fits : (setup : Setting) → IsSetting setup → IsShape (shape_of setup)
shape_fits setup h =
    record { some_core = h.some_core; most_cores = h.most_cores; least_frames = h.least_frames; most_frames = h.most_frames }

module _ (setup : Setting) (lim : IsSetting setup) (words : List ℕ) (w : Word)
    (size : length words ≡ size_of (shape_of setup)) (is_in : IsIn (shape_of setup) w) where
  places : HasPlaces (shape_of setup)
  places = has_places (shape_of setup) (shape_fits setup lim)

  below : place_of (shape_of setup) w < length words
  below = let p = places.below w is_in in omega (arith, p, size)

  put_here : (v : ℕ) → v ≡ boot_word setup w → IsRight setup (set words (place_of (shape_of setup) w) v) w
  put_here v is = get_or-set_same words (place_of (shape_of setup) w) v 0 below ∙ is

  keeps : (v : ℕ) → v ≡ boot_word setup w → (u : Word) → IsIn (shape_of setup) u
      → IsRight setup words u → IsRight setup (set words (place_of (shape_of setup) w) v) u
  keeps v is u u_in right = elim (cases_eq (place_of (shape_of setup) u) (place_of (shape_of setup) w)) [
    | inl same ↦
        ap (λ p. get_or (set words (place_of (shape_of setup) w) v) p 0) same ∙ put_here v is
        ∙ sym (ap (boot_word setup) (places.distinct u w u_in is_in same))
    | inr other ↦ get_or-set_other words (place_of (shape_of setup) w) (place_of (shape_of setup) u) v 0 other ∙ right
  ]

  pub puts : (at v : ℕ) → at ≡ place_of (shape_of setup) w → v ≡ boot_word setup w → Puts setup words (set words at v) w
  puts at v here is =
      subst (λ p. Puts setup words (set words p v) w) (sym here) (record {
        fills = record { size = length-set words (place_of (shape_of setup) w) v; kept = keeps v is };
        right = put_here v is;
      })

-- Writes one after another.
pub fills_none : (setup : Setting) (words : List ℕ) → Fills setup words words
fills_none setup words = record { size = refl; kept = λ w is_in right. right }

pub fills_both : (setup : Setting) (a b c : List ℕ) → Fills setup a b → Fills setup b c → Fills setup a c
fills_both setup a b c p q = record { size = q.size ∙ p.size; kept = λ w is_in right. q.kept w is_in (p.kept w is_in right) }

pub frame_kept : (setup : Setting) (a b : List ℕ) (f : ℕ) → Fills setup a b
    → f < setup.frames → IsFrameRight setup a f → IsFrameRight setup b f
frame_kept setup a b f p h right = record {
  entries = λ i k. p.kept (EntryAt f i) (h, k) (right.entries i k);
  kind = p.kept (FrameAt f) h right.kind;
  counts = λ c k. p.kept (CountAt f c) (h, k) (right.counts c k);
}

pub core_kept : (setup : Setting) (a b : List ℕ) (c : ℕ) → Fills setup a b → c < setup.cores → IsCoreRight setup a c → IsCoreRight setup b c
core_kept setup a b c p h right = record { core = p.kept (CoreAt c) h right.core; flush = p.kept (FlushAt c) h right.flush }

-- All words are right where those of the frames, the cores and the liveness numbers and the clock are.
pub all_right : (setup : Setting) (words : List ℕ)
    → ((f : ℕ) → f < setup.frames → IsFrameRight setup words f)
    → ((c : ℕ) → c < setup.cores → IsCoreRight setup words c)
    → ((l : ℕ) → l < 64 → IsRight setup words (LiveAt l))
    → IsRight setup words ClockAt
    → (w : Word) → IsIn (shape_of setup) w → IsRight setup words w
all_right setup words frames cores lives clock (EntryAt f i) h = (frames f h.0).entries i h.1
all_right setup words frames cores lives clock (FrameAt f) h = (frames f h).kind
all_right setup words frames cores lives clock (CountAt f c) h = (frames f h.0).counts c h.1
all_right setup words frames cores lives clock (CoreAt c) h = (cores c h).core
all_right setup words frames cores lives clock (FlushAt c) h = (cores c h).flush
all_right setup words frames cores lives clock (LiveAt l) h = lives l h
all_right setup words frames cores lives clock ClockAt h = clock
