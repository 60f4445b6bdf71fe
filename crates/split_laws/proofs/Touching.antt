-- Where a world is split, a touch answers a frame of the side of its core.
use Rattle.same_changes.specs.kernel_laws.proofs.{◌≡◌, ℕ, Bool, true, false, ◌&&◌, ◌==◌, cond, refl, sym, ◌∙◌, ap, List, [], ◌∷◌, Option}
use Rattle.same_changes.specs.kernel_laws.proofs.{Some, None, eqb-true, Setting, IsSetting, Touch, PageFlags, Translation, State, comp_of}
use Rattle.same_changes.specs.kernel_laws.proofs.{Change, Judged, Refused, Found, IsFoundAnd, outcome, touch_by, translation_of, Event}
use Rattle.same_changes.specs.kernel_laws.proofs.{Decides, after, is_open, IsRun, IfFound, ChangesFrom, outcome_from, none_some, some_inj}
use Rattle.same_changes.specs.kernel_laws.proofs.{IsOpen, opened, open_is, runs_fit, mapped_page, Reply}
use Rattle.split_laws.specs.{World, IsSplit, side}
use Rattle.split_laws.proofs.Working.{WorksOn, works_on, mapped_on}
use Rattle.{std.proofs.lemmas.Bool.and_parts, std.specs.List.AllByRecursion}
use Rattle.{world_laws.specs.spk_nums.specs.declared.replies.Value.TheVariants.Page, split_laws.specs.Split.TouchesOwn}

answer_frame : (t : Translation) (f : ℕ) (flags : PageFlags) → Page t.frame t.flags ≡ Page f flags → t.frame ≡ f
answer_frame t f flags e = cc

-- A translation that is found in a list has the pages for which it was looked for.
cached_on : (w : World) (pages v : ℕ) (xs : List Translation) (x : Translation)
    → AllByRecursion (λ (x : Translation). w.frame x.frame ≡ w.frame x.pages) xs → translation_of xs pages v ≡ Some x
    → w.frame x.frame ≡ w.frame pages
cached_on w pages v [] x all e = absurd (none_some x e)
cached_on w pages v (y ∷ ys) x all e =
    by (y.pages == pages && y.page == v) (and_parts (y.pages == pages) (y.page == v)) e (cached_on w pages v ys x all.1)
  where
    by : (b : Bool) → (b ≡ true → ((y.pages == pages) ≡ true) × ((y.page == v) ≡ true))
        → cond b (Some y) (translation_of ys pages v) ≡ Some x
        → (translation_of ys pages v ≡ Some x → w.frame x.frame ≡ w.frame pages) → w.frame x.frame ≡ w.frame pages
    by true is q rest =
        ap (λ (t : Translation). w.frame t.frame) (sym (some_inj y x q)) ∙ all.0 ∙ ap w.frame (eqb-true y.pages pages (is refl).0)
    by false is q rest = rest q

module _ (setting : Setting) (lim : IsSetting setting) (events : List Event) (c v f : ℕ) (flags : PageFlags)
    (run : IsRun setting (Decides c (Touch v) (Reply.Ok (Page f flags)) ∷ events)) (w : World)
    (split : IsSplit w (after setting events)) where
  abbrev s : State
  s = after setting events

  h : IsOpen s (opened events) c
  h = open_is setting lim events c run.0 (ap is_open run.1.is_open)

  on : WorksOn w s c (side w s c)
  on = works_on w s c (opened events) h split

  -- a change that answers this frame
  abbrev Answers : Change → Type 0
  Answers change = change.value ≡ Page f flags → w.frame f ≡ side w s c

  by_cached : (t : Option Translation) → translation_of (s.core c).cached (comp_of s c).pages v ≡ t
      → ChangesFrom Answers s c (touch_by (comp_of s c).pages v t)
  by_cached (Some t) is = λ calm e.
      ap w.frame (sym (answer_frame t f flags e))
      ∙ cached_on w (comp_of s c).pages v (s.core c).cached t (split.cached c on.is_core) is ∙ on.pages
  by_cached None is = λ k found calm e.
      let t : Translation = record { pages = (comp_of s c).pages; page = v; frame = k.frame; flags = record { 0 = k.arg } } in
      ap w.frame (sym (answer_frame t f flags e))
      ∙ mapped_on w s c (side w s c) on v k found (mapped_page s (opened events) c h (runs_fit setting lim events run.0) v k found)

  answered : (x : Judged Change) → IfFound x Answers → IsFoundAnd x (λ k. k.value ≡ Page f flags) → w.frame f ≡ side w s c
  answered (Refused r) by ok = absurd ok
  answered (Found change) by ok = by ok

  pub touched : w.frame f ≡ side w s c
  touched =
      let x : Option Translation = translation_of (s.core c).cached (comp_of s c).pages v in
      answered (outcome s c (touch_by (comp_of s c).pages v x))
      (outcome_from Answers s c (touch_by (comp_of s c).pages v x) (by_cached x refl)) run.1.permitted.1.1

pub touches_own : TouchesOwn
touches_own setting lim events c v f flags run w split = touched setting lim events c v f flags run w split
