-- The load of the word of a frame that is to be mapped: one that a core has marked is `busy`, one that is no user frame `frame-kind`, and a
-- user frame is mapped next. The call has acquired the count of the frame, and while it holds that no other core makes it anything else.
use Rattle.count_invariant.specs.step_ways.proofs as low
use low.{◌≡◌, ℕ, ℤ, pos, ◌<◌, ◌&&◌, map, not, Bool, true, false, IsTrue, List, [], ◌∷◌, Option, Some, None, inl, inr, refl, sym, ◌∙◌, ap}
use low.{subst, if◌then◌else◌, All, lt-ltb, eq-eqb, false≢true, Capability, Setting, IsSetting, Call, FrameKind, count_of_word}
use low.{frame_of_word, FrameWord, EntryAt, FrameAt, CountAt, Move, LoadOf, Frame, Untyped, User, Kernel, State, Target, Under, found}
use low.{has_frame, outside, is_frame, Change, RuleMay, Refused, Vacant, Does, and_then, unless, first_of, first_cause, outcome, rule_of}
use low.{change_of, are_calls_spent, IsAlone, is_one_of, footprint_frames, frame_argument, marked_by, count_mark, frame_mark, frame_value}
use low.{Step, Trace, Open, phase, state_after, last_left, refused_first, own_read-there, last_left-there, plan_for, GoesBy, own_pages}
use low.{Leads, LeadsIn, NextFree, rule_after, next_of, left_may, outcome_left, Second, at_place, Due, Act, Goes, refuse, Acquired}
use low.{named_by, is_node, reads_of, put_by, page_cap, Undecided, ActiveCall, StageFits, HasRoom, landed, Core, holds_counts, settled_by}
use low.{ReadIs, IsCount, due_of, KnowsUndecided, phase_at, holds_at, holds_in, held_by, Invariant, names_on, spot_on, slot_relies}
use low.{limits_of, ◌||◌, Fill as fill_act, Map as map_act, first_marked, OnlyLooks, step_to, core_is, call_is, is_active, loads_on}
use low.{decides_on, GoodTook, ticks_at, not_spent, refuses_busy, does, Reply, Refusal}
use Rattle.count_invariant.specs.boot_words.specs.kernel_rules.specs.{Map, PageFlags, is_user, not_user, Fill as fill_edit}
use Rattle.count_invariant.proofs.{plan_leads, goes_by, argument_footprint}
use Rattle.count_invariant.specs.act_states.specs.{maps_frame, maps_word, declared.fills.Fill.Fill, Acts.page_of, Taking.maps_kind}
use Rattle.count_invariant.specs.core_invariant.specs.Reaching.{HasUser, IsUser, IsMapping, mapped_frame, is_mapping}
use Rattle.place_invariant.proofs.Outside.{vacant_slot, vacant_node, stands_alone}
use Rattle.{count_invariant.specs.boot_words.specs.kernel_rules.specs.Nothing as no_value, std.proofs.lemmas.List.Elements.All-head}
use Rattle.{count_invariant.specs.kernel_history.specs.Discipline.looks_at_frames}

-- A frame that its word does not call a user frame is none.
not_user_is : (x : Frame) (j : FrameKind) → (frame_value x).kind ≡ j → (j ≡ FrameKind.User → ⊥) → is_user x ≡ false
not_user_is User j is other = absurd (other (sym is))
not_user_is _ j is other = refl

user_is : (x : Frame) → (frame_value x).kind ≡ FrameKind.User → x ≡ User
user_is User is = refl
user_is _ is = absurd (cc)

-- A call that maps a frame.
record IsMap (call : Call) (ks : List Capability) : Type 0 where
  pages : ℕ
  page : ℕ
  name : ℕ
  frame : ℕ
  flags : PageFlags
  call_is : call ≡ Map pages page name frame flags

map_is : (call : Call) (ks : List Capability) → is_mapping call ≡ true → IsMap call ks
map_is (Map p v r f w) ks is = record { pages = p; page = v; name = r; frame = f; flags = w; call_is = refl }
map_is call ks is = absurd (false≢true is)

-- What it puts names its frame alone.
map_names : (call : Call) (ks : List Capability) (k : Capability) → is_mapping call ≡ true → put_by call ks None ≡ Some k
    → named_by k.kind k.frame ≡ k.frame ∷ []
map_names (Map p v r f w) ks k is puts = by_place (at_place ks Second) puts
  where
    some_cap : (j k : Capability) → Some j ≡ Some k → j ≡ k
    some_cap j k h = cc

    by_range : (has : Bool) → (if has then Some (page_cap f w) else None) ≡ Some k → named_by k.kind k.frame ≡ k.frame ∷ []
    by_range true h = subst (λ (q : Capability). named_by q.kind q.frame ≡ q.frame ∷ []) (some_cap (page_cap f w) k h) refl
    by_range false h = absurd (cc)

    by_place : (o : Option Capability) → page_of o f w ≡ Some k → named_by k.kind k.frame ≡ k.frame ∷ []
    by_place None h = absurd (cc)
    by_place (Some y) h = by_range (has_frame (found y) f) h
map_names call ks k is puts = absurd (false≢true is)

-- A core that has acquired the counts due to one frame holds its count of the frame.
count_held : (setup : Setting) (t : Trace) (c : ℕ) (call : Call) (f : ℕ) (z : ℤ) (xs : List Acquired)
    → record { frame = f; change = z } ∷ [] ≡ map due_of xs → All (IsCount setup t c call) xs
    → (holds_counts None xs).marks (CountAt f c) ≡ true
count_held setup t c call f z [] due all = absurd (none_due _ due)
  where
    none_due : (d : Due) → d ∷ [] ≡ [] → ⊥
    none_due d h = cc
count_held setup t c call f z (x ∷ xs) due all =
    subst (λ (b : ℕ). (holds_counts None (x ∷ xs)).marks (CountAt f b) ≡ true)
    (All-head (IsCount setup t c call) x xs all).core
    (subst (λ (g : ℕ). (holds_counts None (x ∷ xs)).marks (CountAt g x.pin.core) ≡ true)
    (sym (ap (λ (d : Due). d.frame) (first_due _ _ _ _ due))) (first_marked None x xs))
  where
    first_due : (d b : Due) (ds bs : List Due) → d ∷ ds ≡ b ∷ bs → d ≡ b
    first_due d b ds bs h = cc

target_in : (p q : Target) → NextFree p ≡ NextFree q → p ≡ q
target_in p q h = cc

-- What is left of its rule after its names.
record MapRule (s : State) (c : ℕ) (call : Call) (ks : List Capability) (f : ℕ) (target : Target) : Type 0 where
  range : Capability
  flags : PageFlags
  within : has_frame (found range) f ≡ true
  rule : rule_after (rule_of s c call) ks ≡ Vacant target (λ at. Does (outside (found range) f ∷ not_user s f ∷ []) no_value
      (fill_edit at (page_cap f flags) ∷ []))

map_rule_of : (s : State) (c p v r f : ℕ) (w : PageFlags) (ks : List Capability) (k : Capability) (target : Target)
    → Leads (LeadsIn s c) (plan_for (Map p v r f w)).names [] ks → next_of (plan_for (Map p v r f w)) ks ≡ NextFree target
    → put_by (Map p v r f w) ks None ≡ Some k → MapRule s c (Map p v r f w) ks f target
map_rule_of s c p v r f w (x ∷ y ∷ []) k target leads next puts = by (has_frame (found y) f) refl puts
  where
    by : (has : Bool) → has_frame (found y) f ≡ has → (if has then Some (page_cap f w) else None) ≡ Some k
        → MapRule s c (Map p v r f w) (x ∷ y ∷ []) f target
    by true has is = subst (MapRule s c (Map p v r f w) (x ∷ y ∷ []) f) (target_in (Under (found x) v) target next)
        (record { range = y; flags = w; within = has; rule = refl })
    by false has is = absurd (cc)
map_rule_of s c p v r f w [] k target leads next puts = absurd (cc)
map_rule_of s c p v r f w (x ∷ []) k target leads next puts = absurd (cc)
map_rule_of s c p v r f w (x ∷ y ∷ z ∷ ks) k target leads next puts = absurd leads.1.1

module _ (setup : Setting) (setting : IsSetting setup) (cores : ℕ → Core) (t : Trace) (stands : Invariant setup cores t) (c : ℕ)
    (here : c < setup.cores)
    (a : ActiveCall) (active : (cores c).active ≡ Some a) (fill : Fill) (stage_is : a.stage ≡ Undecided (Act (map_act fill)))
    (has : KnowsUndecided setup t c (cores c).own.table a (Act (map_act fill))) where
  abbrev s : State
  s = state_after setup t

  abbrev f : ℕ
  f = fill.cap.frame

  abbrev load : Move
  load = LoadOf (FrameAt f)

  abbrev was : ℕ
  was = last_left setup t (FrameAt f)

  knows : IsMapping setup t c a.call (plan_for a.call) a.found setup.cores fill
  knows = has.knows.knows

  fits : StageFits (cores c).own.layout (Undecided (Act (map_act fill)))
  fits = subst (StageFits (cores c).own.layout) stage_is (is_active setup setting cores t stands c here a active).stage

  opens : phase_at a.call a.stage ≡ Open a.call
  opens = ap (phase_at a.call) stage_is

  is_open : phase t c ≡ Open a.call
  is_open = (call_is setup setting cores t stands c here a active).phase ∙ opens

  held_is : holds_in (Some a) ≡ holds_counts None a.counts
  held_is = ap (λ s. holds_at s a.counts) stage_is

  room : (cores c).own.made < (cores c).own.limit
  room = subst (HasRoom (cores c).own.made (cores c).own.limit) stage_is (is_active setup setting cores t stands c here a active).room

  unspent : are_calls_spent s c ≡ false
  unspent = not_spent setup (cores c) t c (core_is setup setting cores t stands c here a active) room

  leads : Leads (LeadsIn s c) (plan_for a.call).names [] a.found
  leads = plan_leads setup setting cores t stands c here a active has.names

  by_plan : GoesBy (own_pages s c) (plan_for a.call) (rule_of s c a.call)
  by_plan = goes_by setup setting cores t stands c here a active has.names

  below : f < s.limits.frames
  below = subst (λ (n : ℕ). f < n) (ap (λ x. x.frames) (stands.each c here).shape ∙ sym (ap (λ l. l.frames) (limits_of setup t))) fits.1

  is : IsMap a.call a.found
  is = map_is a.call a.found knows.maps

  frame_is : is.frame ≡ f
  frame_is = sym (knows.frame ∙ ap mapped_frame is.call_is)

  rest : MapRule s c a.call a.found f knows.spot.target
  rest = subst (λ (n : ℕ). MapRule s c a.call a.found n knows.spot.target) frame_is
      (subst (λ x. MapRule s c x a.found is.frame knows.spot.target) (sym is.call_is)
      (map_rule_of s c is.pages is.page is.name is.frame is.flags a.found fill.cap knows.spot.target
      (subst (λ x. Leads (LeadsIn s c) (plan_for x).names [] a.found) is.call_is
      leads)
      (ap (λ x. next_of (plan_for x) a.found) (sym is.call_is) ∙ knows.spot.next)
      (subst (λ x. put_by x a.found None ≡ Some fill.cap) is.call_is knows.puts)))

  footprint : is_one_of f (footprint_frames s c a.call) ≡ true
  footprint = argument_footprint s c a.call f (subst (λ x. is_one_of f (frame_argument x) ≡ true) (sym is.call_is)
      (ap (λ (n : ℕ). is_one_of f (n ∷ [])) frame_is ∙ ap (λ b. b || false) (eq-eqb f f refl)))

  looks : OnlyLooks setup t c a.call load
  looks = record {
    of_call = record { moves = subst (λ x. IsTrue (looks_at_frames x)) (sym is.call_is) refl; footprint = inl footprint };
    kept = refl;
    apart = λ d. refl;
  }

  frame_says : marked_by setup t (FrameAt f) ≡ None → frame_of_word was ≡ Some (frame_value (s.frame f))
  frame_says unmarked = subst (λ o. frame_of_word (settled_by o (held_by cores) (FrameAt f) was) ≡ Some (frame_value (s.frame f))) unmarked
      (stands.words (FrameAt f))

  some_word : (v u : FrameWord) → Some v ≡ Some u → v ≡ u
  some_word v u h = cc

  shown_is : (v : FrameWord) → frame_of_word was ≡ Some v → v.mark ≡ None → frame_value (s.frame f) ≡ v
  shown_is v shown bare = some_word (frame_value (s.frame f)) v (sym (frame_says (ap frame_mark shown ∙ bare)) ∙ shown)

  in_node : IsTrue (is_node (s.frame fill.node))
  in_node = (slot_relies setup setting t stands.legal c a.call is_open knows.spot.target (record { node = fill.node; index = fill.entry })
      knows.spot.way).node

  -- it is no user frame
  kind_good : (v : FrameWord) → frame_of_word was ≡ Some v → v.mark ≡ None → (j : FrameKind) → v.kind ≡ j → (j ≡ FrameKind.User → ⊥)
      → GoodTook setup cores t c load (landed a (refuse Refusal.FrameKind))
  kind_good v shown bare j kind_is other lands =
      decides_on setup setting cores t stands c here a active load Reply.FrameKind a.found looks lands (sym held_is) opens refl refl
      (λ x. refl) (λ x. refl) refl (
        unspent,
        left_may s c (own_pages s c) (plan_for a.call) (rule_of s c a.call) a.found by_plan leads Reply.FrameKind
            (subst (λ x. RuleMay s c x Reply.FrameKind) (sym rest.rule) (inr (inr (inl (stands_so, refl))))),
      ) tt
      (λ is_alone. refused_first s c a.call Reply.FrameKind has.acts unspent (first is_alone))
    where
      no_user : is_user (s.frame f) ≡ false
      no_user = not_user_is (s.frame f) j (ap (λ x. x.kind) (shown_is v shown bare) ∙ kind_is) other

      stands_so : (is_frame s f && not (is_user (s.frame f))) ≡ true
      stands_so = ap (λ b. b && not (is_user (s.frame f))) (lt-ltb f s.limits.frames below) ∙ ap (λ b. not b) no_user

      first : IsAlone t (step_to c None load was (Some Reply.FrameKind) None) → change_of s c a.call ≡ Refused Reply.FrameKind
      first alone =
          outcome_left s c (own_pages s c) (plan_for a.call) (rule_of s c a.call) a.found by_plan leads ∙ ap (outcome s c) rest.rule
          ∙ ap (λ x. and_then x λ at. outcome s c (Does (outside (found rest.range) f ∷ not_user s f ∷ []) no_value
          (fill_edit at (page_cap f rest.flags) ∷ [])))
          (vacant_slot s c knows.spot.target (record { node = fill.node; index = fill.entry }) knows.spot.way.reached
          (vacant_node setup setting cores t stands c here a active opens has.names fill.node fill.entry fill.word knows.spot
          fits.0.entry in_node
          (stands_alone setup t c fill.node fill.entry fill.word knows.spot.own load Reply.FrameKind alone)).vacant)
          ∙ ap (λ b. unless (first_of (if not b then Some Reply.OutOfRange else None) (first_cause s c
          (not_user s f ∷ []))) change) rest.within
          ∙ ap (λ b. unless (first_of (if b then Some Reply.FrameKind else None) None) change) stands_so
        where
          change : Change
          change = does c s no_value (fill_edit (record { node = fill.node; index = fill.entry }) (page_cap f rest.flags) ∷ [])

  entry_apart : (g i : ℕ) → EntryAt g i ≡ FrameAt f → ⊥
  entry_apart g i h = cc

  -- its count is held
  held_count : marked_by setup t (CountAt f c) ≡ Some c
  held_count = (stands.marks (CountAt f c) c).kept (ap (λ o. (holds_in o).marks (CountAt f c)) active
      ∙ ap (λ h. h.marks (CountAt f c)) held_is
      ∙ count_held setup t c a.call f (pos 1) a.counts
      (ap (λ (fs : List ℕ). map (λ (g : ℕ). record { frame = g; change = pos 1 }) fs)
      (sym (map_names a.call a.found fill.cap knows.maps knows.puts)) ∙ has.knows.all)
      (call_is setup setting cores t stands c here a active).counts)

  not_count : (g b : ℕ) → CountAt g b ≡ FrameAt f → ⊥
  not_count g b h = cc

  -- it is a user frame
  user_good : (v : FrameWord) → frame_of_word was ≡ Some v → v.mark ≡ None → v.kind ≡ FrameKind.User
      → GoodTook setup cores t c load (landed a (Goes (Act (fill_act fill))))
  user_good v shown bare kind_is lands =
      let e : Step = step_to c None load was None None in
      loads_on setup setting cores t stands c here a active load a.found (Undecided (Act (fill_act fill))) looks lands (sym held_is) opens
      (λ carries.
      let spot = spot_on setup setting t e stands.legal c a.call is_open carries (plan_for a.call) a.found setup.cores fill.node
      fill.entry fill.word
      (own_read-there c e t refl (EntryAt fill.node fill.entry) (entry_apart fill.node fill.entry)) knows.spot in
      record {
        acts = has.acts;
        names = names_on setup setting t e stands.legal c a.call is_open carries (cores c).own.table (plan_for a.call) a.found has.names;
        knows = record {
          knows = record {
            target = spot.target;
            next = spot.next;
            way = spot.way;
            own = spot.own;
            vacant = spot.vacant;
            fits = knows.fits;
            read = None;
            has_read = subst (λ (call : Call). ReadIs (state_after setup (e ∷ t)) c (reads_of call a.found) None) (sym is.call_is) tt;
            puts = knows.puts;
            user = subst (HasUser setup (e ∷ t) c) (sym is.call_is) (subst (λ (n : ℕ). IsUser setup (e ∷ t) c n) (sym frame_is) (record {
              user = user_is (s.frame f) (ap (λ x. x.kind) (shown_is v shown bare) ∙ kind_is);
              held = ap (λ (n : ℕ). count_mark (count_of_word n))
                  (last_left-there setup (CountAt f c) e t (not_count f c)) ∙ held_count;
            }));
          };
          all = has.knows.all;
          goes = refl;
        };
      })

  unmarked_good : (v : FrameWord) → frame_of_word was ≡ Some v → (j : FrameKind) → v.kind ≡ j → v.mark ≡ None
      → GoodTook setup cores t c load (landed a (maps_kind fill j))
  unmarked_good v shown FrameKind.User is_kind bare = user_good v shown bare is_kind
  unmarked_good v shown FrameKind.Untyped is_kind bare = kind_good v shown bare FrameKind.Untyped is_kind (λ h. cc)
  unmarked_good v shown FrameKind.Kernel is_kind bare = kind_good v shown bare FrameKind.Kernel is_kind (λ h. cc)

  marked_good : (v : FrameWord) → frame_of_word was ≡ Some v → (m : Option ℕ) → v.mark ≡ m
      → GoodTook setup cores t c load (landed a (maps_frame fill v.kind m))
  marked_good v shown None bare = unmarked_good v shown v.kind refl bare
  marked_good v shown (Some d) mark =
      refuses_busy setup setting cores t stands c here a active opens held_is room load looks (ap ticks_at stage_is) d
      (counts_bare a.counts) (ap frame_mark shown ∙ mark) tt
    where
      counts_bare : (xs : List Acquired) → (holds_counts None xs).marks (FrameAt f) ≡ false
      counts_bare [] = refl
      counts_bare (x ∷ xs) = counts_bare xs

  shown_good : (o : Option FrameWord) → frame_of_word was ≡ o → GoodTook setup cores t c load (landed a (maps_word fill o))
  shown_good None shown = absurd (by (marked_by setup t (FrameAt f)) refl)
    where
      none_some : (v : FrameWord) → None ≡ Some v → ⊥
      none_some v h = cc

      mark_none : (d : ℕ) → None ≡ Some d → ⊥
      mark_none d h = cc

      by : (o : Option ℕ) → marked_by setup t (FrameAt f) ≡ o → ⊥
      by None is = none_some (frame_value (s.frame f)) (sym shown ∙ frame_says is)
      by (Some d) is = mark_none d (sym (ap frame_mark shown) ∙ is)
  shown_good (Some v) shown = marked_good v shown v.mark refl

  pub map_good : GoodTook setup cores t c load (landed a (maps_word fill (frame_of_word was)))
  map_good = shown_good (frame_of_word was) refl
