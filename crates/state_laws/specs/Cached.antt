-- Cached translations in the states that runs reach.
use Rattle.kernel_laws.specs.kernel_rules.specs as low
use Rattle.std.specs.Prelude.{◌≡◌, ◌⊎◌, ◌<◌, ◌≤◌, ◌++◌, ◌/◌, ◌%◌, ◌∷◌}
use low.{ℕ, List, length, Some, IsTrue, Setting, IsSetting, Translation, PageFlags, Touch, Page}
use low.{Place, Free, Holds, Quiescing, Pages, Pleaf, User, Kernel, Thing, PlaceOf, FrameOf, comp_of, refs, translation_of, Event, Decides}
use low.{after, MayDecide, IsRun, Kind, State.State}
use Rattle.{std.specs.List.AllByRecursion, kernel_laws.specs.spk_nums.specs.declared.replies.Reply.TheVariants.Ok}

-- Core c has decided no flush since the grace period of a thing began.
abbrev pub IsUnflushedBy : State → ℕ → Thing → Type 0
IsUnflushedBy s c x = IsTrue ((s.grace x).unflushed c)

-- A frame is referenced, or core c has decided no flush since its last reference was released.
abbrev pub IsStillThere : State → ℕ → ℕ → Type 0
IsStillThere s c f = (0 < refs s f) ⊎ IsUnflushedBy s c (FrameOf f)

-- A place holds a link to a leaf.
abbrev pub IsLinkTo : ℕ → Place → Type 0
IsLinkTo leaf Free = ⊥
IsLinkTo leaf (Holds k) = (k.kind ≡ Kind.Link) × (k.frame ≡ leaf)
IsLinkTo leaf (Quiescing k) = ⊥

-- A place holds the mapping that a translation tells.
abbrev pub IsMappingOf : Translation → Place → Type 0
IsMappingOf t Free = ⊥
IsMappingOf t (Holds k) = (k.kind ≡ Kind.Page) × (k.frame ≡ t.frame) × (k.arg ≡ t.flags.0)
IsMappingOf t (Quiescing k) = ⊥

-- A place is as P says, or core c has decided no flush since its removal.
abbrev pub IsOrWas : State → ℕ → (Place → Type 0) → ℕ → ℕ → Type 0
IsOrWas s c P f i = P (s.place f i) ⊎ IsUnflushedBy s c (PlaceOf f i)

-- A translation that core c has cached: its root is a page table's, its frame a user frame, and each is still there; through the
-- leaf of pages by which it was found, its root entry and its page entry still hold the link and the mapping; or core c has
-- decided no flush since.
pub record Stands (s : State) (c : ℕ) (t : Translation) : Type 0 where
  pub leaf : ℕ
  pub page_small : t.page ≤ 4095
  pub root : s.frame t.pages ≡ Kernel Pages
  pub root_there : IsStillThere s c t.pages
  pub through : s.frame leaf ≡ Kernel Pleaf
  pub leaf_there : IsStillThere s c leaf
  pub user : s.frame t.frame ≡ User
  pub frame_there : IsStillThere s c t.frame
  pub entry : IsOrWas s c (IsLinkTo leaf) t.pages (t.page / 64)
  pub mapping : IsOrWas s c (IsMappingOf t) leaf (t.page % 64)

-- In every state that a run reaches, each translation that a core has cached stands.
abbrev pub TranslationsStand : Type 0
TranslationsStand = (setting : Setting) → IsSetting setting → (events : List Event) → IsRun setting events → (c : ℕ) → c < setting.cores
    → AllByRecursion (Stands (after setting events) c) ((after setting events).core c).cached

-- A list of translations begins with another: it has these first, in order, and more after them.
pub record Begins (xs ys : List Translation) : Type 0 where
  pub more : List Translation
  pub is : ys ≡ xs ++ more

-- Core c has cached this translation: it is what a touch of its page answers while core c works on these pages.
abbrev pub HasCached : State → ℕ → Translation → Type 0
HasCached s c x = translation_of (s.core c).cached x.pages x.page ≡ Some x

-- A touch has answered this translation of a user frame, from one state to the next: core c has cached it from then on; or 64 others are
-- cached, and stay so.
pub record Answers (s t : State) (c : ℕ) (x : Translation) : Type 0 where
  pub user : t.frame x.frame ≡ User
  pub cached : HasCached t c x ⊎ ((64 ≤ length (s.core c).cached) × ((t.core c).cached ≡ (s.core c).cached))

-- In every run, a touch that answers a frame and flags answers the translation of its page which these are.
abbrev pub TouchesCache : Type 0
TouchesCache = (setting : Setting) → IsSetting setting → (events : List Event) → IsRun setting events → (c v f : ℕ) (flags : PageFlags)
    → c < setting.cores
    → MayDecide setting events c (Touch v) (Ok (Page f flags))
    → Answers (after setting events) (after setting (Decides c (Touch v) (Ok (Page f flags)) ∷ events)) c
    (record { pages = (comp_of (after setting events) c).pages; page = v; frame = f; flags = flags })
