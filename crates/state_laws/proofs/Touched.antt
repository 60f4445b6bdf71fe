-- A touch that answers a frame and flags has them cached from then on.
use Rattle.kernel_laws.proofs.{◌≡◌, ◌⊎◌, ◌+◌, inl, inr, ℕ, ◌≤◌, Bool, true, false, refl, sym, ◌∙◌, ap, subst, ◌==◌, ◌&&◌, ltb as nat_lt}
use Rattle.kernel_laws.proofs.{if◌then◌else◌, cond, List, [], ◌∷◌, ◌++◌, length, find, Option, Some, None, eq-eqb, eqb-true, ltb-false}
use Rattle.kernel_laws.proofs.{Capability, PageFlags, Translation, Core, State, with_core, comp_of, Change, does, Judged, Refused, Found}
use Rattle.kernel_laws.proofs.{IsFoundAnd, and_then, unless, first_of, mapped, outcome, translation_of, touch_by, caching, changed, counted}
use Rattle.kernel_laws.proofs.{after, is_open as is_open_phase, IsOpen, opened, open_is, put_same, IsFitted, runs_fit, Reply}
use Rattle.state_laws.proofs.{CachedLaw.translations_stand, CachedLaw.runs_waited, CachedLaw.touched, Flushes.IsWaited}
use Rattle.{state_laws.specs.Stands, state_laws.specs.Answers, kernel_laws.specs.kernel_rules.specs.Page}
use Rattle.{kernel_laws.specs.kernel_rules.specs.translated, std.specs.Option.option_or, std.proofs.lemmas.Bool.and_parts}
use Rattle.{std.proofs.lemmas.List.Folds.find-append, std.specs.List.AllByRecursion}
use Rattle.{kernel_laws.specs.kernel_rules.specs.MemoryCalls.caches, state_laws.specs.Cached.TouchesCache}

some_same : {A : Type 0} (x y : A) → Some x ≡ Some y → x ≡ y
some_same x y h = cc

none_none : {A : Type 0} (x : A) → None ≡ Some x → ⊥
none_none x h = cc

-- What is found passes, and what holds of all of a list holds of it.
find_passes : (p : Translation → Bool) (xs : List Translation) (x : Translation) → find p xs ≡ Some x → p x ≡ true
find_passes p [] x is = absurd (none_none x is)
find_passes p (y ∷ ys) x is = by (p y) refl is (find_passes p ys x)
  where
    by : (b : Bool) → p y ≡ b → cond b (Some y) (find p ys) ≡ Some x → (find p ys ≡ Some x → p x ≡ true) → p x ≡ true
    by true found h rest = subst (λ z. p z ≡ true) (some_same y x h) found
    by false passed h rest = rest h

find_all : (P : Translation → Type 0) (p : Translation → Bool) (xs : List Translation) (x : Translation) → AllByRecursion P xs
    → find p xs ≡ Some x → P x
find_all P p [] x all is = absurd (none_none x is)
find_all P p (y ∷ ys) x all is = by (p y) is (find_all P p ys x all.1)
  where
    by : (b : Bool) → cond b (Some y) (find p ys) ≡ Some x → (find p ys ≡ Some x → P x) → P x
    by true h rest = subst P (some_same y x h) all.0
    by false h rest = rest h

abbrev is_for : ℕ → ℕ → Translation → Bool
is_for pages v t = t.pages == pages && t.page == v

-- A translation with these fields is this one.
fields_are : (t : Translation) (pages v f : ℕ) (flags : PageFlags) → t.pages ≡ pages → t.page ≡ v → t.frame ≡ f → t.flags ≡ flags
    → t ≡ record { pages = pages; page = v; frame = f; flags = flags }
fields_are t pages v f flags a b c d =
    ap (λ (n : ℕ). record { pages = n; page = t.page; frame = t.frame; flags = t.flags }) a
    ∙ ap (λ (n : ℕ). record { pages = pages; page = n; frame = t.frame; flags = t.flags }) b
    ∙ ap (λ (n : ℕ). record { pages = pages; page = v; frame = n; flags = t.flags }) c
    ∙ ap (λ (w : PageFlags). record { pages = pages; page = v; frame = f; flags = w }) d

answer_is : (t : Translation) (f : ℕ) (flags : PageFlags) → translated t ≡ Page f flags → (t.frame ≡ f) × (t.flags ≡ flags)
answer_is t f flags is = (cc, cc)

module _ (s : State) (o : ℕ → Bool) (c : ℕ) (h : IsOpen s o c) (w : IsFitted s o) (u : IsWaited s o)
    (all : AllByRecursion (Stands s c) (s.core c).cached) (v f : ℕ) (flags : PageFlags) where
  abbrev pages : ℕ
  pages = (comp_of s c).pages

  abbrev x : Translation
  x = record { pages = pages; page = v; frame = f; flags = flags }

  abbrev after_it : Judged Change → State
  after_it j = counted (changed s j) c

  abbrev Answered : Option Translation → Type 0
  Answered cached = Answers s (after_it (outcome s c (touch_by pages v cached))) c x

  abbrev IsIt : Change → Type 0
  IsIt change = change.value ≡ Page f flags

  -- it was cached
  by_some : (t : Translation) → translation_of (s.core c).cached pages v ≡ Some t
      → IsFoundAnd (outcome s c (touch_by pages v (Some t))) IsIt → Answered (Some t)
  by_some t found_it is = by (nat_lt 4095 v) is
    where
      judged : Bool → Judged Change
      judged b = unless (first_of (if b then Some Reply.NoSlot else None) None) (does c s (translated t) [])

      by : (b : Bool) → IsFoundAnd (judged b) IsIt → Answers s (after_it (judged b)) c x
      by true is = absurd is
      by false is =
          let same = answer_is t f flags is in
          let for_it = and_parts (t.pages == pages) (t.page == v) (find_passes (is_for pages v) (s.core c).cached t found_it) in
          let t_is : t ≡ x = fields_are t pages v f flags (eqb-true t.pages pages for_it.0) (eqb-true t.page v for_it.1) same.0 same.1 in
          record {
            user = ap s.frame (sym same.0) ∙ (find_all (Stands s c) (is_for pages v) (s.core c).cached t all found_it).user;
            cached = inl (ap (λ (k : Core). translation_of k.cached pages v) (put_same s.core c _ c refl) ∙ found_it
                ∙ ap (λ (y : Translation). Some y) t_is);
          }

  -- a mapping was found
  by_none : translation_of (s.core c).cached pages v ≡ None → IsFoundAnd (outcome s c (touch_by pages v None)) IsIt → Answered None
  by_none none is = by (mapped s c pages v) refl is
    where
      item : Capability → Translation
      item k = record { pages = pages; page = v; frame = k.frame; flags = record { 0 = k.arg } }

      judged : Judged Capability → Judged Change
      judged j = and_then j λ k. outcome s c (caches (item k))

      by : (j : Judged Capability) → mapped s c pages v ≡ j → IsFoundAnd (judged j) IsIt → Answers s (after_it (judged j)) c x
      by (Refused r) found_it is = absurd is
      by (Found k) found_it is =
          let same = answer_is (item k) f flags is in
          let item_is : item k ≡ x = fields_are (item k) pages v f flags refl refl same.0 same.1 in
          let list : ((after_it (judged (Found k))).core c).cached ≡ caching (s.core c).cached (item k) =
          ap (λ (y : Core). y.cached)
          (put_same (with_core s c (record (s.core c) { cached = caching (s.core c).cached (item k) })).core c _ c
          refl ∙ ap (λ (y : Core). record y { counted = y.counted + 1 })
          (put_same s.core c (record (s.core c) { cached = caching (s.core c).cached (item k) }) c refl)) in
          record {
            user = ap s.frame (sym same.0) ∙ (touched s o c h w u v k found_it).user;
            cached = by_room (item k) item_is (nat_lt (length (s.core c).cached) 64) refl list;
          }
        where
          by_room : (y : Translation) → y ≡ x → (b : Bool) → nat_lt (length (s.core c).cached) 64 ≡ b
              → {ys : List Translation} → ys ≡ caching (s.core c).cached y
              → (translation_of ys pages v ≡ Some x) ⊎ ((64 ≤ length (s.core c).cached) × (ys ≡ (s.core c).cached))
          by_room y y_is true room {ys = ys} list = inl (ap (λ zs. translation_of zs pages v)
              (list ∙ ap (λ b. if b then (s.core c).cached ++ y ∷ [] else (s.core c).cached) room)
              ∙ find-append (is_for pages v) (s.core c).cached (y ∷ [])
              ∙ ap (λ p. option_or p (find (is_for pages v) (y ∷ []))) none
              ∙ ap (λ z. find (is_for pages v) (z ∷ [])) y_is
              ∙ ap (λ b. cond (b && v == v) (Some x) None) (eq-eqb pages pages refl)
              ∙ ap (λ b. cond b (Some x) None) (eq-eqb v v refl))
          by_room y y_is false full {ys = ys} list = inr (
            ltb-false (length (s.core c).cached) 64 full,
            list ∙ ap (λ b. if b then (s.core c).cached ++ y ∷ [] else (s.core c).cached) full,
          )

  pub touch_answers : (cached : Option Translation) → translation_of (s.core c).cached pages v ≡ cached
      → IsFoundAnd (outcome s c (touch_by pages v cached)) IsIt → Answered cached
  touch_answers None is answer = by_none is answer
  touch_answers (Some t) is answer = by_some t is answer

pub touches_cache : TouchesCache
touches_cache setting lim events run c v f flags below may =
    touch_answers (after setting events) (opened events) c (open_is setting lim events c run (ap is_open_phase may.is_open))
    (runs_fit setting lim events run) (runs_waited setting lim events run) (translations_stand setting lim events run c below) v f flags
    (translation_of ((after setting events).core c).cached (comp_of (after setting events) c).pages v) refl may.permitted.1.1
