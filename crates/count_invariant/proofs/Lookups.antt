-- A step of a look-up is good, whatever the call looks for: it goes on to the leaf, is refused, or arrives at the place.
use Rattle.step_ways.proofs.{acts, ◌≡◌, ◌⊎◌, inl, inr, ℕ, ◌<◌, ◌≤◌, ◌/◌, ◌&&◌, ◌||◌, ◌==◌, ◌++◌, ◌∷◌, List, [], map, Bool, true, false, not}
use Rattle.step_ways.proofs.{leb as nat_le, ltb as nat_lt, if◌then◌else◌, Option, Some, None, arith, refl, sym, ◌∙◌, ap, subst, IsTrue}
use Rattle.step_ways.proofs.{IsSome, option_to_list, le-leb, eq-eqb, Capability, Setting, IsSetting, Call, Kind, Entry, Held, EntryFits}
use Rattle.step_ways.proofs.{entry_of_word, EntryAt, LoadOf, word_of, Place, Holds, PlaceOf, State, Slot, Named, Target, Under, InRoot}
use Rattle.step_ways.proofs.{place_at, only, usable_in, usable, root_slot, reached, RuleMay, Refused, rule_of, change_of, Relies, Step}
use Rattle.step_ways.proofs.{Trace, Open, phase, state_after, last_left, own_left, wide_ways, frames_own, footprint_frames, is_one_of}
use Rattle.step_ways.proofs.{is_slot_in, HasReached, stamp, CapNames, shown_in, look_move, Look, AtRoot, AtLeaf, AtEntry, Carries, next_of}
use Rattle.step_ways.proofs.{Lookup, Undecided, ActiveCall, Goes, refuse, landed, Core, holds_counts, CountsAt, PlaceIs, LooksUp, phase_at}
use Rattle.step_ways.proofs.{holds_at, holds_in, Invariant, Free as Vacant, Quiescing as Removed, OnlyLooks, step_to, next_at, is_active}
use Rattle.step_ways.proofs.{loads_on, IsMarked, IsUnmarked, place_reads, GoodTook, ticks_at, NobodyWaits, refuses_busy, plan_for, Reply}
use Rattle.plan_ways.specs.kernel_history.specs.{◌%◌, Closing, linked, capability_in, root_passed, wide_way_to, led_to}
use Rattle.step_ways.specs.stage_look.specs.{end_of_frames, held_if, entry_within, is_link, after_link, end_by_link}
use Rattle.step_ways.specs.call_stages.specs.{took_end, took_look, took_found}
use Rattle.plan_ways.specs.kernel_rules.specs.{slot_in, holds_link, has_no_slot}
use Rattle.std.proofs.{lemmas.List.Elements.All-nil, lemmas.List.Elements.All-cons, lemmas.List.Folds.list_any-append}
use Rattle.step_ways.specs.core_invariant.specs.{Knows.Knows, Reaching.ReliesOn}
use Rattle.plan_ways.specs.entry_words.specs.declared.entry.Entry.TheVariants.{Free, Quiescing}
use Rattle.{step_ways.proofs.Refusal, plan_ways.specs.entry_words.proofs.Spelling.spelling}
use Rattle.{step_ways.specs.trace_laws.proofs.Stays.relies_reached, plan_ways.specs.kernel_history.proofs.Steps.own_left-here}
use Rattle.{step_ways.specs.stage_look.specs.Lookup.found_at, step_ways.proofs.Refusals.refuses_no_slot}

-- What an entry shows of a place.
pub record ShowsHeld (frames : ℕ) (p : Place) (k : Capability) : Type 0 where
  pub holds : p ≡ Holds k
  pub names : CapNames frames k
  pub fits : EntryFits (Held k)

pub record ShowsRemoved (p : Place) : Type 0 where
  pub held : Capability
  pub removed : p ≡ Removed held

abbrev pub Shows : ℕ → Place → Entry → Type 0
Shows frames p Free = p ≡ Vacant
Shows frames p (Held k) = ShowsHeld frames p k
Shows frames p (Closing d) = ⊥
Shows frames p (Quiescing s) = ShowsRemoved p

-- An unmarked word shows its place, also on a machine of so many frames.
pub record IsShown (frames : ℕ) (p : Place) (word : ℕ) : Type 0 where
  pub value : Entry
  pub reads : entry_of_word word ≡ Some value
  pub shown : shown_in frames word ≡ Some value
  pub shows : Shows frames p value

within_shown : (frames : ℕ) (k : Capability) → CapNames frames k → entry_within frames (Some (Held k)) ≡ Some (Held k)
within_shown frames k names = ap (λ b. held_if b k) (le-leb (end_of_frames k.kind k.frame k.arg) frames names)

pub shown_of : (frames : ℕ) (p : Place) (stamp word : ℕ) → PlaceIs frames p stamp (entry_of_word word) → IsShown frames p word
shown_of frames Vacant stamp word is = record { value = Free; reads = is; shown = ap (entry_within frames) is; shows = refl }
shown_of frames (Holds k) stamp word is = record {
  value = Held k;
  reads = is.0;
  shown = ap (entry_within frames) is.0 ∙ within_shown frames k is.1;
  shows = record { holds = refl; names = is.1; fits = (spelling.spells word (Held k) is.0).0 };
}
shown_of frames (Removed k) stamp word is = record {
  value = Quiescing stamp;
  reads = is.says;
  shown = ap (entry_within frames) is.says;
  shows = record { held = k; removed = refl };
}

pub link_kind : (k : Kind) → is_link k ≡ only Kind.Link k
link_kind Kind.Range = refl
link_kind _ = refl

-- The call has arrived at the place of a target.
pub record Arrives (setup : Setting) (t : Trace) (c : ℕ) (target : Target) (at : Slot) : Type 0 where
  pub relies : ReliesOn setup t c target
  pub reached : reached (state_after setup t) c target ≡ Some at
  pub leaf : Relies (state_after setup t) c at.node
  pub below : at.index < 64
  pub passed : HasReached t c (root_passed target)
  pub plain : IsUnmarked setup t at.node at.index

-- A slot is in lists that have it.
or_right : (a : Bool) → (a || true) ≡ true
or_right true = refl
or_right false = refl

pub slot_left : (xs ys : List Slot) (g i : ℕ) → is_slot_in xs g i ≡ true → is_slot_in (xs ++ ys) g i ≡ true
slot_left xs ys g i h = list_any-append (λ at. at.node == g && at.index == i) xs ys ∙ ap (λ b. b || is_slot_in ys g i) h

pub slot_right : (xs ys : List Slot) (g i : ℕ) → is_slot_in ys g i ≡ true → is_slot_in (xs ++ ys) g i ≡ true
slot_right xs ys g i h =
    list_any-append (λ at. at.node == g && at.index == i) xs ys ∙ ap (λ b. is_slot_in xs g i || b) h ∙ or_right (is_slot_in xs g i)

pub slot_one : (g i : ℕ) → is_slot_in (record { node = g; index = i } ∷ []) g i ≡ true
slot_one g i = rw (eq-eqb g g refl, eq-eqb i i refl)

-- Under a number within range of a root that is found, its root entry is passed.
pub passes : (table : Named) (n : ℕ) → table.found ≡ true → n ≤ 4095 → (table.found && nat_le n 4095) ≡ true
passes table n found within = ap (λ b. b && nat_le n 4095) found ∙ le-leb n 4095 within

pub root_slots : (table : Named) (n : ℕ) → table.found ≡ true → n ≤ 4095 → root_passed (Under table n) ≡ root_slot table.frame n ∷ []
root_slots table n found within = ap (λ b. if b then root_slot table.frame n ∷ [] else []) (passes table n found within)

-- By a link that core c may use, it reaches the leaf's place for the number.
pub leaf_reached : (s : State) (c : ℕ) (table : Named) (n leaf : ℕ) → table.found ≡ true → n ≤ 4095
    → linked (usable s c (root_slot table.frame n)) ≡ Some leaf
    → reached s c (Under table n) ≡ Some (record { node = leaf; index = n % 64 })
leaf_reached s c table n leaf found within link =
    ap (λ b. if b then slot_in (linked (usable s c (root_slot table.frame n))) (n % 64) else None) (passes table n found within)
    ∙ ap (λ l. slot_in l (n % 64)) link

-- What may be used links to the leaf to which what stands there links.
pub link_shown : (p : Place) (waits : Bool) (leaf : ℕ) → linked (usable_in p waits) ≡ Some leaf → linked (capability_in p) ≡ Some leaf
link_shown (Removed k) false leaf h = absurd (cc)
link_shown _ _ leaf h = h

-- No number is reached by what is no link.
unlinked : (s : State) (table : Named) (n : ℕ) → table.found ≡ true → holds_link (place_at s (root_slot table.frame n)) ≡ false
    → has_no_slot s (Under table n) ≡ true
unlinked s table n found none =
    ap (λ b. nat_lt 4095 n || b) (ap (λ b. b && not (holds_link (place_at s (root_slot table.frame n)))) found ∙ ap not none) ∙ or_right
    (nat_lt 4095 n)

-- The node of a slot of the way is in the footprint.
slot_footprint : (slots : List Slot) (g i : ℕ) → is_slot_in slots g i ≡ true → is_one_of g (map (λ at. at.node) slots) ≡ true
slot_footprint [] g i h = h
slot_footprint (at ∷ slots) g i h = by_node (at.node == g) (at.index == i) h (slot_footprint slots g i)
  where
    by_node : (a b : Bool) → ((a && b) || is_slot_in slots g i) ≡ true
        → (is_slot_in slots g i ≡ true → is_one_of g (map (λ at. at.node) slots) ≡ true)
        → (a || is_one_of g (map (λ at. at.node) slots)) ≡ true
    by_node true b h rest = refl
    by_node false b h rest = rest h

one_right : (xs ys : List ℕ) (g : ℕ) → is_one_of g ys ≡ true → is_one_of g (xs ++ ys) ≡ true
one_right xs ys g h = list_any-append (λ m. m == g) xs ys ∙ ap (λ b. is_one_of g xs || b) h ∙ or_right (is_one_of g xs)

one_left : (xs ys : List ℕ) (g : ℕ) → is_one_of g xs ≡ true → is_one_of g (xs ++ ys) ≡ true
one_left xs ys g h = list_any-append (λ m. m == g) xs ys ∙ ap (λ b. b || is_one_of g ys) h

pub footprint_way : (s : State) (c : ℕ) (call : Call) (g i : ℕ) → is_slot_in (wide_ways s c (rule_of s c call)) g i ≡ true
    → is_one_of g (footprint_frames s c call) ≡ true
footprint_way s c call g i h =
    one_right (frames_own s c) _ g (one_left (map (λ at. at.node) (wide_ways s c (rule_of s c call))) _ g
    (slot_footprint (wide_ways s c (rule_of s c call)) g i h))

-- Where no core waits, what is no link leads to no leaf.
pub link_none : (k : Capability) → only Kind.Link k.kind ≡ false → linked (Some k) ≡ None
link_none k is = ap (λ b. if b then Some k.frame else None) is

pub use_removed : (p : Place) (k : Capability) (waits : Bool) → p ≡ Removed k → waits ≡ false → usable_in p waits ≡ None
use_removed p k waits is not = ap (λ q. usable_in q waits) is ∙ ap (λ b. usable_in (Removed k) b) not

module _ (setup : Setting) (setting : IsSetting setup) (cores : ℕ → Core) (t : Trace) (stands : Invariant setup cores t) (c : ℕ)
    (here : c < setup.cores)
    (a : ActiveCall) (active : (cores c).active ≡ Some a) (target : Target) (is_open : phase t c ≡ Open a.call)
    (may_act : IsTrue (acts (state_after setup t) c a.call))
    (no_slot : IsTrue (has_no_slot (state_after setup t) target) → RuleMay (state_after setup t) c
    (rule_of (state_after setup t) c a.call) Reply.NoSlot)
    (no_way : reached (state_after setup t) c target ≡ None → change_of (state_after setup t) c a.call ≡ Refused Reply.NoSlot)
    (on_way : (g i : ℕ) → is_slot_in (wide_way_to (state_after setup t) target) g i ≡ true → is_slot_in
    (wide_ways (state_after setup t) c (rule_of (state_after setup t) c a.call)) g i ≡ true)
    (goes : (e : Step) (look : Look) → Carries setup t e c → LooksUp setup (e ∷ t) c target look → Knows setup (e ∷ t) c
    (cores c).own.table (next_at a a.found (Undecided (Lookup look))))
    (done : (at : Slot) (v : Entry) → Arrives setup t c target at → entry_of_word (last_left setup t (EntryAt at.node at.index)) ≡ Some v
    → Shows setup.frames (place_at (state_after setup t) at) v
    → OnlyLooks setup t c a.call (LoadOf (EntryAt at.node at.index))
    → GoodTook setup cores t c (LoadOf (EntryAt at.node at.index))
    (took_found (cores c).own a (next_of (plan_for a.call) a.found)
    (found_at at.node at.index (last_left setup t (EntryAt at.node at.index)) v)))
  where
    -- a place of the way is loaded
    looks_at : (g i : ℕ) → is_slot_in (wide_way_to (state_after setup t) target) g i ≡ true
        → OnlyLooks setup t c a.call (LoadOf (EntryAt g i))
    looks_at g i way = record {
      of_call = record { moves = refl; footprint = inl (footprint_way (state_after setup t) c a.call g i (on_way g i way)) };
      kept = refl;
      apart = λ d. refl;
    }

    -- what is taken from the word of a look-up at this place
    abbrev Takes : Look → ℕ → ℕ → Type 0
    Takes look g i = GoodTook setup cores t c (LoadOf (EntryAt g i))
        (took_look (cores c).own a look (last_left setup t (EntryAt g i)) (shown_in setup.frames (last_left setup t (EntryAt g i))))

    abbrev TakesShown : Look → ℕ → ℕ → Option Entry → Type 0
    TakesShown look g i shown = GoodTook setup cores t c (LoadOf (EntryAt g i))
        (took_look (cores c).own a look (last_left setup t (EntryAt g i)) shown)

    module _ (look : Look) (at : a.stage ≡ Undecided (Lookup look)) (room : (cores c).own.made < (cores c).own.limit) where
      opens : phase_at a.call a.stage ≡ Open a.call
      opens = ap (phase_at a.call) at

      held_is : holds_in (Some a) ≡ holds_counts None a.counts
      held_is = ap (λ s. holds_at s a.counts) at

      no_counts : a.counts ≡ []
      no_counts = subst (CountsAt a.counts) at (is_active setup setting cores t stands c here a active).counts

      busy : (g i d : ℕ) → is_slot_in (wide_way_to (state_after setup t) target) g i ≡ true → (m : IsMarked setup t g i) → m.by ≡ d
          → GoodTook setup cores t c (LoadOf (EntryAt g i)) (landed a (refuse (Refusal.Busy d)))
      busy g i d way m same =
          refuses_busy setup setting cores t stands c here a active opens held_is room (LoadOf (EntryAt g i)) (looks_at g i way)
          (ap ticks_at at) d
          (ap (λ xs. (holds_counts None xs).marks (EntryAt g i)) no_counts) (m.mark ∙ ap Some same) (λ node. on_way g i way)

      nowhere : (g i : ℕ) → is_slot_in (wide_way_to (state_after setup t) target) g i ≡ true
          → IsTrue (has_no_slot (state_after setup t) target)
          → (NobodyWaits (state_after setup t) → reached (state_after setup t) c target ≡ None)
          → GoodTook setup cores t c (LoadOf (EntryAt g i)) (landed a (refuse Refusal.NoSlot))
      nowhere g i way none unreached =
          refuses_no_slot setup setting cores t stands c here a active opens held_is room (LoadOf (EntryAt g i)) (looks_at g i way)
          may_act (no_slot none)
          (λ nobody. no_way (unreached nobody))

      -- it goes on to the leaf
      further : (g i : ℕ) (next : Look) → is_slot_in (wide_way_to (state_after setup t) target) g i ≡ true
          → ((e : Step) → Carries setup t e c → own_left (e ∷ t) c (EntryAt g i) ≡ Some (last_left setup t (EntryAt g i))
          → LooksUp setup (e ∷ t) c target next)
          → GoodTook setup cores t c (LoadOf (EntryAt g i)) (landed a (Goes (Lookup next)))
      further g i next way looks lands =
          let e : Step = step_to c None (LoadOf (EntryAt g i)) (last_left setup t (EntryAt g i)) None None in
          loads_on setup setting cores t stands c here a active (LoadOf (EntryAt g i)) a.found (Undecided (Lookup next)) (looks_at g i way)
          lands (sym held_is)
          opens (λ carries. goes e next carries (looks e carries (own_left-here c e t refl (EntryAt g i) refl)))

-- Under a number of a table.
module _ (setup : Setting) (setting : IsSetting setup) (cores : ℕ → Core) (t : Trace) (stands : Invariant setup cores t) (c : ℕ)
    (here : c < setup.cores)
    (a : ActiveCall) (active : (cores c).active ≡ Some a) (table : Named) (n : ℕ) (is_open : phase t c ≡ Open a.call)
    (may_act : IsTrue (acts (state_after setup t) c a.call))
    (no_slot : IsTrue (has_no_slot (state_after setup t) (Under table n)) → RuleMay (state_after setup t) c
    (rule_of (state_after setup t) c a.call) Reply.NoSlot)
    (no_way : reached (state_after setup t) c (Under table n) ≡ None → change_of (state_after setup t) c a.call ≡ Refused Reply.NoSlot)
    (on_way : (g i : ℕ) → is_slot_in (wide_way_to (state_after setup t) (Under table n)) g i ≡ true
    → is_slot_in (wide_ways (state_after setup t) c (rule_of (state_after setup t) c a.call)) g i ≡ true)
    (goes : (e : Step) (look : Look) → Carries setup t e c → LooksUp setup (e ∷ t) c (Under table n) look → Knows setup (e ∷ t) c
    (cores c).own.table (next_at a a.found (Undecided (Lookup look))))
    (done : (at : Slot) (v : Entry) → Arrives setup t c (Under table n) at → entry_of_word (last_left setup t (EntryAt at.node at.index))
    ≡ Some v
    → Shows setup.frames (place_at (state_after setup t) at) v
    → OnlyLooks setup t c a.call (LoadOf (EntryAt at.node at.index))
    → GoodTook setup cores t c (LoadOf (EntryAt at.node at.index))
    (took_found (cores c).own a (next_of (plan_for a.call) a.found)
    (found_at at.node at.index (last_left setup t (EntryAt at.node at.index)) v)))
    (room : (cores c).own.made < (cores c).own.limit) where
  abbrev Shown : Look → ℕ → ℕ → Option Entry → Type 0
  Shown = TakesShown setup setting cores t stands c here a active (Under table n) is_open may_act no_slot no_way on_way goes done

  root_step : a.stage ≡ Undecided (Lookup (AtRoot table.frame n)) → LooksUp setup t c (Under table n) (AtRoot table.frame n)
      → Takes setup setting cores t stands c here a active (Under table n) is_open may_act no_slot no_way on_way goes done
      (AtRoot table.frame n) table.frame (n / 64)
  root_step at looks = by_read (place_reads setup cores t stands table.frame (n / 64) looks.relies.node
      (let w = looks.at.within in omega arith))
    where
      way : is_slot_in (wide_way_to (state_after setup t) (Under table n)) table.frame (n / 64) ≡ true
      way = slot_left (root_passed (Under table n)) (option_to_list (led_to (state_after setup t) (Under table n))) table.frame (n / 64)
          (ap (λ l. is_slot_in l table.frame (n / 64)) (root_slots table n looks.at.found looks.at.within) ∙ slot_one table.frame
          (n / 64))

      unreached : linked (usable (state_after setup t) c (root_slot table.frame n)) ≡ None
          → reached (state_after setup t) c (Under table n) ≡ None
      unreached none = ap (λ b. if b then slot_in (linked (usable (state_after setup t) c (root_slot table.frame n))) (n % 64) else None)
          (passes table n looks.at.found looks.at.within)
          ∙ ap (λ l. slot_in l (n % 64)) none

      by_link : (k : Capability) → ShowsHeld setup.frames ((state_after setup t).place table.frame (n / 64)) k → (b : Bool)
          → is_link k.kind ≡ b
          → GoodTook setup cores t c (LoadOf (EntryAt table.frame (n / 64)))
          (took_end (cores c).own a (after_link b table.frame n k.frame)
          (end_by_link b))
      by_link k shows true is =
          further setup setting cores t stands c here a active (Under table n) is_open may_act no_slot no_way on_way goes done
          (AtRoot table.frame n) at room table.frame (n / 64) (AtLeaf k.frame n) way
          (λ e carries own. record {
            relies = carries.stays.relies _ looks.relies;
            at = record {
              found = looks.at.found;
              same = refl;
              within = looks.at.within;
              link = ap linked (carries.stays.usable (root_slot table.frame n) k looks.relies
                  (ap (λ p. usable_in p (((state_after setup t).grace (PlaceOf table.frame (n / 64))).waits c)) shows.holds))
                  ∙ ap (λ b. if b then Some k.frame else None) (sym (link_kind k.kind) ∙ is);
              stepped = ap Rattle.std.specs.Prelude.is_some own;
            };
          })
      by_link k shows false is =
          nowhere setup setting cores t stands c here a active (Under table n) is_open may_act no_slot no_way on_way goes done
          (AtRoot table.frame n) at room table.frame (n / 64) way
          (unlinked (state_after setup t) table n looks.at.found (ap holds_link shows.holds ∙ sym (link_kind k.kind) ∙ is))
          (λ nobody. unreached (ap (λ p. linked (usable_in p (((state_after setup t).grace (PlaceOf table.frame (n / 64))).waits c)))
          shows.holds ∙ link_none k (sym (link_kind k.kind) ∙ is)))

      by_value : (v : Entry) → Shows setup.frames ((state_after setup t).place table.frame (n / 64)) v
          → Shown (AtRoot table.frame n) table.frame (n / 64) (Some v)
      by_value Free shows =
          nowhere setup setting cores t stands c here a active (Under table n) is_open may_act no_slot no_way on_way goes done
          (AtRoot table.frame n) at room table.frame (n / 64) way
          (unlinked (state_after setup t) table n looks.at.found (ap holds_link shows))
          (λ nobody. unreached (ap (λ p. linked (usable_in p (((state_after setup t).grace (PlaceOf table.frame (n / 64))).waits c)))
          shows))
      by_value (Held k) shows = by_link k shows (is_link k.kind) refl
      by_value (Closing d) shows = absurd shows
      by_value (Quiescing s) shows =
          nowhere setup setting cores t stands c here a active (Under table n) is_open may_act no_slot no_way on_way goes done
          (AtRoot table.frame n) at room table.frame (n / 64) way
          (unlinked (state_after setup t) table n looks.at.found (ap holds_link shows.removed))
          (λ nobody. unreached (ap linked (use_removed _ shows.held _ shows.removed (nobody (PlaceOf table.frame (n / 64)) c))))

      by_read : IsMarked setup t table.frame (n / 64) ⊎ IsUnmarked setup t table.frame (n / 64)
          → Takes setup setting cores t stands c here a active (Under table n) is_open may_act no_slot no_way on_way goes done
          (AtRoot table.frame n) table.frame (n / 64)
      by_read (inl m) = subst (Shown (AtRoot table.frame n) table.frame (n / 64)) (sym (ap (entry_within setup.frames) m.says))
          (busy setup setting cores t stands c here a active (Under table n) is_open may_act no_slot no_way on_way goes done
          (AtRoot table.frame n) at room table.frame (n / 64) m.by way m refl)
      by_read (inr p) =
          let shown = shown_of setup.frames ((state_after setup t).place table.frame (n / 64))
          (stamp setup t (PlaceOf table.frame (n / 64))) (last_left setup t (EntryAt table.frame (n / 64))) p.says in
          subst (Shown (AtRoot table.frame n) table.frame (n / 64)) (sym shown.shown) (by_value shown.value shown.shows)

  leaf_step : (leaf : ℕ) → a.stage ≡ Undecided (Lookup (AtLeaf leaf n)) → LooksUp setup t c (Under table n) (AtLeaf leaf n)
      → Takes setup setting cores t stands c here a active (Under table n) is_open may_act no_slot no_way on_way goes done
      (AtLeaf leaf n) leaf (n % 64)
  leaf_step leaf at looks = by_read (place_reads setup cores t stands leaf (n % 64) relies.node (omega arith))
    where
      slot : Slot
      slot = record { node = leaf; index = n % 64 }

      reaches : reached (state_after setup t) c (Under table n) ≡ Some slot
      reaches = leaf_reached (state_after setup t) c table n leaf looks.at.found looks.at.within looks.at.link

      leads : led_to (state_after setup t) (Under table n) ≡ Some slot
      leads = ap (λ b. if b then slot_in (linked (capability_in (place_at (state_after setup t) (root_slot table.frame n)))) (n % 64) else
          None) (passes table n looks.at.found looks.at.within)
          ∙ ap (λ l. slot_in l (n % 64))
          (link_shown (place_at (state_after setup t) (root_slot table.frame n))
          (((state_after setup t).grace (PlaceOf table.frame (n / 64))).waits c) leaf looks.at.link)

      way : is_slot_in (wide_way_to (state_after setup t) (Under table n)) leaf (n % 64) ≡ true
      way = slot_right (root_passed (Under table n)) (option_to_list (led_to (state_after setup t) (Under table n))) leaf (n % 64)
          (ap (λ o. is_slot_in (option_to_list o) leaf (n % 64)) leads ∙ slot_one leaf (n % 64))

      looks_here : OnlyLooks setup t c a.call (LoadOf (EntryAt leaf (n % 64)))
      looks_here = looks_at setup setting cores t stands c here a active (Under table n) is_open may_act no_slot no_way on_way goes done
          leaf (n % 64) way

      relies : Relies (state_after setup t) c leaf
      relies = relies_reached setup setting t stands.legal c a.call is_open table n slot reaches

      arrives : IsUnmarked setup t leaf (n % 64) → Arrives setup t c (Under table n) slot
      arrives p = record {
        relies = looks.relies;
        reached = reaches;
        leaf = relies;
        below = omega arith;
        passed = subst (HasReached t c) (sym (root_slots table n looks.at.found looks.at.within))
            (All-cons (λ (x : Slot). IsSome (own_left t c (EntryAt x.node x.index))) (root_slot table.frame n) [] looks.at.stepped
            (All-nil (λ (x : Slot). IsSome (own_left t c (EntryAt x.node x.index)))));
        plain = p;
      }

      by_value : IsUnmarked setup t leaf (n % 64) → (v : Entry) → entry_of_word (last_left setup t (EntryAt leaf (n % 64))) ≡ Some v
          → Shows setup.frames ((state_after setup t).place leaf (n % 64)) v → Shown (AtLeaf leaf n) leaf (n % 64) (Some v)
      by_value p Free reads shows = done slot Free (arrives p) reads shows looks_here
      by_value p (Held k) reads shows = done slot (Held k) (arrives p) reads shows looks_here
      by_value p (Closing d) reads shows = absurd shows
      by_value p (Quiescing s) reads shows = done slot (Quiescing s) (arrives p) reads shows looks_here

      by_read : IsMarked setup t leaf (n % 64) ⊎ IsUnmarked setup t leaf (n % 64)
          → Takes setup setting cores t stands c here a active (Under table n) is_open may_act no_slot no_way on_way goes done
          (AtLeaf leaf n) leaf (n % 64)
      by_read (inl m) = subst (Shown (AtLeaf leaf n) leaf (n % 64)) (sym (ap (entry_within setup.frames) m.says))
          (busy setup setting cores t stands c here a active (Under table n) is_open may_act no_slot no_way on_way goes done
          (AtLeaf leaf n) at room leaf (n % 64) m.by way m refl)
      by_read (inr p) =
          let shown = shown_of setup.frames ((state_after setup t).place leaf (n % 64)) (stamp setup t (PlaceOf leaf (n % 64)))
          (last_left setup t (EntryAt leaf (n % 64))) p.says in
          subst (Shown (AtLeaf leaf n) leaf (n % 64)) (sym shown.shown) (by_value p shown.value shown.reads shown.shows)

  -- the step of any look-up under a number
  pub under_step : (look : Look) → a.stage ≡ Undecided (Lookup look) → LooksUp setup t c (Under table n) look
      → GoodTook setup cores t c (look_move look)
      (took_look (cores c).own a look (last_left setup t (word_of (look_move look)))
      (shown_in setup.frames (last_left setup t (word_of (look_move look)))))
  under_step (AtRoot root number) at looks = subst Goal looks.at.frame (subst Of looks.at.same (λ at looks. root_step at looks)) at looks
    where
      Of : ℕ → Type 0
      Of m = a.stage ≡ Undecided (Lookup (AtRoot table.frame m)) → LooksUp setup t c (Under table n) (AtRoot table.frame m)
          → Takes setup setting cores t stands c here a active (Under table n) is_open may_act no_slot no_way on_way goes done
          (AtRoot table.frame m) table.frame (m / 64)

      Goal : ℕ → Type 0
      Goal r = a.stage ≡ Undecided (Lookup (AtRoot r number)) → LooksUp setup t c (Under table n) (AtRoot r number)
          → Takes setup setting cores t stands c here a active (Under table n) is_open may_act no_slot no_way on_way goes done
          (AtRoot r number) r (number / 64)
  under_step (AtLeaf leaf number) at looks = subst Of looks.at.same (λ at looks. leaf_step leaf at looks) at looks
    where
      Of : ℕ → Type 0
      Of m = a.stage ≡ Undecided (Lookup (AtLeaf leaf m)) → LooksUp setup t c (Under table n) (AtLeaf leaf m)
          → Takes setup setting cores t stands c here a active (Under table n) is_open may_act no_slot no_way on_way goes done
          (AtLeaf leaf m) leaf (m % 64)
  under_step (AtEntry root index) at looks = absurd looks.at

-- At a root entry that is itself the target.
module _ (setup : Setting) (setting : IsSetting setup) (cores : ℕ → Core) (t : Trace) (stands : Invariant setup cores t) (c : ℕ)
    (here : c < setup.cores)
    (a : ActiveCall) (active : (cores c).active ≡ Some a) (table : Named) (i : ℕ) (is_open : phase t c ≡ Open a.call)
    (may_act : IsTrue (acts (state_after setup t) c a.call))
    (no_slot : IsTrue (has_no_slot (state_after setup t) (InRoot table i)) → RuleMay (state_after setup t) c
    (rule_of (state_after setup t) c a.call) Reply.NoSlot)
    (no_way : reached (state_after setup t) c (InRoot table i) ≡ None → change_of (state_after setup t) c a.call ≡ Refused Reply.NoSlot)
    (on_way : (g j : ℕ) → is_slot_in (wide_way_to (state_after setup t) (InRoot table i)) g j ≡ true
    → is_slot_in (wide_ways (state_after setup t) c (rule_of (state_after setup t) c a.call)) g j ≡ true)
    (goes : (e : Step) (look : Look) → Carries setup t e c → LooksUp setup (e ∷ t) c (InRoot table i) look → Knows setup (e ∷ t) c
    (cores c).own.table (next_at a a.found (Undecided (Lookup look))))
    (done : (at : Slot) (v : Entry) → Arrives setup t c (InRoot table i) at → entry_of_word (last_left setup t (EntryAt at.node at.index))
    ≡ Some v
    → Shows setup.frames (place_at (state_after setup t) at) v
    → OnlyLooks setup t c a.call (LoadOf (EntryAt at.node at.index))
    → GoodTook setup cores t c (LoadOf (EntryAt at.node at.index))
    (took_found (cores c).own a (next_of (plan_for a.call) a.found)
    (found_at at.node at.index (last_left setup t (EntryAt at.node at.index)) v)))
    (room : (cores c).own.made < (cores c).own.limit) where
  abbrev ShownHere : ℕ → Option Entry → Type 0
  ShownHere j = TakesShown setup setting cores t stands c here a active (InRoot table i) is_open may_act no_slot no_way on_way goes done
      (AtEntry table.frame j) table.frame j

  entry_step : a.stage ≡ Undecided (Lookup (AtEntry table.frame i)) → LooksUp setup t c (InRoot table i) (AtEntry table.frame i)
      → Takes setup setting cores t stands c here a active (InRoot table i) is_open may_act no_slot no_way on_way goes done
      (AtEntry table.frame i) table.frame i
  entry_step at looks =
      by_read (place_reads setup cores t stands table.frame i looks.relies.node (let w = looks.at.within in omega arith))
    where
      slot : Slot
      slot = record { node = table.frame; index = i }

      within : (table.found && nat_le i 63) ≡ true
      within = ap (λ b. b && nat_le i 63) looks.at.found ∙ le-leb i 63 looks.at.within

      reaches : reached (state_after setup t) c (InRoot table i) ≡ Some slot
      reaches = ap (λ b. if b then Some slot else None) within

      leads : led_to (state_after setup t) (InRoot table i) ≡ Some slot
      leads = ap (λ b. if b then Some slot else None) within

      way : is_slot_in (wide_way_to (state_after setup t) (InRoot table i)) table.frame i ≡ true
      way = slot_right (root_passed (InRoot table i)) (option_to_list (led_to (state_after setup t) (InRoot table i))) table.frame i
          (ap (λ o. is_slot_in (option_to_list o) table.frame i) leads ∙ slot_one table.frame i)

      looks_here : OnlyLooks setup t c a.call (LoadOf (EntryAt table.frame i))
      looks_here = looks_at setup setting cores t stands c here a active (InRoot table i) is_open may_act no_slot no_way on_way goes done
          table.frame i way

      arrives : IsUnmarked setup t table.frame i → Arrives setup t c (InRoot table i) slot
      arrives p = record {
        relies = looks.relies;
        reached = reaches;
        leaf = looks.relies;
        below = (let w = looks.at.within in omega arith);
        passed = All-nil (λ (x : Slot). IsSome (own_left t c (EntryAt x.node x.index)));
        plain = p;
      }

      by_value : IsUnmarked setup t table.frame i → (v : Entry) → entry_of_word (last_left setup t (EntryAt table.frame i)) ≡ Some v
          → Shows setup.frames ((state_after setup t).place table.frame i) v → ShownHere i (Some v)
      by_value p Free reads shows = done slot Free (arrives p) reads shows looks_here
      by_value p (Held k) reads shows = done slot (Held k) (arrives p) reads shows looks_here
      by_value p (Closing d) reads shows = absurd shows
      by_value p (Quiescing s) reads shows = done slot (Quiescing s) (arrives p) reads shows looks_here

      by_read : IsMarked setup t table.frame i ⊎ IsUnmarked setup t table.frame i
          → Takes setup setting cores t stands c here a active (InRoot table i) is_open may_act no_slot no_way on_way goes done
          (AtEntry table.frame i) table.frame i
      by_read (inl m) = subst (ShownHere i) (sym (ap (entry_within setup.frames) m.says))
          (busy setup setting cores t stands c here a active (InRoot table i) is_open may_act no_slot no_way on_way goes done
          (AtEntry table.frame i) at room table.frame i m.by way m refl)
      by_read (inr p) =
          let shown = shown_of setup.frames ((state_after setup t).place table.frame i) (stamp setup t (PlaceOf table.frame i))
          (last_left setup t (EntryAt table.frame i)) p.says in
          subst (ShownHere i) (sym shown.shown) (by_value p shown.value shown.reads shown.shows)

  -- the step of any look-up of a root entry
  pub in_root_step : (look : Look) → a.stage ≡ Undecided (Lookup look) → LooksUp setup t c (InRoot table i) look
      → GoodTook setup cores t c (look_move look)
      (took_look (cores c).own a look (last_left setup t (word_of (look_move look)))
      (shown_in setup.frames (last_left setup t (word_of (look_move look)))))
  in_root_step (AtEntry root index) at looks =
      subst Goal looks.at.frame (subst Of looks.at.same (λ at looks. entry_step at looks)) at looks
    where
      Of : ℕ → Type 0
      Of m = a.stage ≡ Undecided (Lookup (AtEntry table.frame m)) → LooksUp setup t c (InRoot table i) (AtEntry table.frame m)
          → Takes setup setting cores t stands c here a active (InRoot table i) is_open may_act no_slot no_way on_way goes done
          (AtEntry table.frame m) table.frame m

      Goal : ℕ → Type 0
      Goal r = a.stage ≡ Undecided (Lookup (AtEntry r index)) → LooksUp setup t c (InRoot table i) (AtEntry r index)
          → Takes setup setting cores t stands c here a active (InRoot table i) is_open may_act no_slot no_way on_way goes done
          (AtEntry r index) r index
  in_root_step _ at looks = absurd looks.at
