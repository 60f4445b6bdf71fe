-- The act with which a call begins at a target that is to be free: it fills the place, it makes an object in a frame of its range, or this
-- frame is out of range.
use Rattle.comp_invariant.specs.step_ways.proofs.{IsSome, ◌≡◌, inl, ℕ, ◌<◌, ◌&&◌, ltb as nat_lt, Bool, true, false, List, [], ◌∷◌, Option}
use Rattle.comp_invariant.specs.step_ways.proofs.{Some, refl, sym, ◌∙◌, ap, subst, IsTrue, arith, if◌then◌else◌, None, ◌≤◌, inr, lt-ltb}
use Rattle.comp_invariant.specs.step_ways.proofs.{le-leb, false≢true, Capability, Setting, IsSetting, Kind, Call, Copy, Shrink, Unmap}
use Rattle.comp_invariant.specs.step_ways.proofs.{Retype, Gate, Grow, Ret, Transfer, Delegate, Test, InLimits, EntryFits, entry_of_word}
use Rattle.comp_invariant.specs.step_ways.proofs.{State, found, only, named, has_frame, only_is, opened, events_of, IsLegal, Trace, Out}
use Rattle.comp_invariant.specs.step_ways.proofs.{Open, phase, state_after, WasAt, sound_of, opened_is, quiet_scan, First, Second, Plan}
use Rattle.comp_invariant.specs.step_ways.proofs.{Spot, Nowhere, at_place, of_kind, plan_for, Leads, LeadsIn, names_after, Own, NewObject}
use Rattle.comp_invariant.specs.step_ways.proofs.{Outside, object_made, put_by, reads_of, stamp_shown, act_begun, page_cap, ReadIs, IsSpot}
use Rattle.comp_invariant.specs.step_ways.proofs.{KnowsAct, goes_on, limits_of, WorkStep, ◌+◌, ◌-◌, Part, Replenish, Make as make_call}
use Rattle.comp_invariant.specs.step_ways.proofs.{plain_cap, Found as Found_it, FrameKind, Entry}
use Rattle.comp_invariant.specs.act_states.specs.{cap_of, Remove, Tick, Kill, Flush, Map, Touch, Switch, PageFlags, fills_page, part_of}
use Rattle.comp_invariant.specs.act_states.specs.{has_frames, gate_if, gate_to, fills_with, scans, stamp_in, stamp_of_act, filling}
use Rattle.comp_invariant.specs.act_states.specs.{makes_at, maps_if, made_begun}
use Rattle.comp_invariant.specs.kernel_rules.specs.{kept, right_to_copy, Make, Look as look_call, both, right_to_use, EndsWithin, IsGood}
use Rattle.comp_invariant.specs.core_invariant.specs.{OutsideBy, is_start, HasUser}
use Rattle.comp_invariant.specs.call_plans.specs.declared.plans.Target.TheVariants.{Free, Held, Own as own_page}
use Rattle.comp_invariant.specs.call_plans.specs.PlanOf.{any_cap, a_root, a_leaf, a_whole}
use Rattle.comp_invariant.specs.act_states.specs.Acts.{making, making_if, mapping, mapping_if, comp_making, comp_if, part_if}
use Rattle.comp_invariant.specs.place_invariant.proofs.CompMakes.{IsCompMake, comp_make}
use Rattle.comp_invariant.specs.place_invariant.proofs.ObjectMakes.{made_of, TwoFound, object_make}
use Rattle.comp_invariant.specs.kernel_rules.proofs.PartFrames.{first_in, last_in}
use Rattle.{comp_invariant.specs.spk_nums.specs.declared.calls.Call.TheVariants.Call as call_gate}
use Rattle.{comp_invariant.specs.entry_words.proofs.Spelling.kept_fits, comp_invariant.specs.kernel_invariant.proofs.Facts.named_good}
use Rattle.{comp_invariant.specs.stage_look.specs.declared.look.Found.Found, comp_invariant.specs.call_plans.specs.declared.plans.Nth.Nth}
use Rattle.{comp_invariant.specs.act_states.specs.declared.work.Act.Act as ActOf}
use Rattle.{comp_invariant.specs.core_invariant.specs.Components.IsRead, work_invariant.proofs.AtName.range_below}

-- What such a call begins with where it has found its place: an act, which starts after a scan, if there is one; what it knows of it where
-- it may fill the place; and one that is out of range is so by the call.
pub record Begins (own : Own) (call : Call) (plan : Plan) (ks : List Capability) (read : Option ℕ) (c : ℕ) (f : Found) : Type 0 where
  pub act : ActOf
  pub begins : act_begun own call ks read (Some f)
      ≡ scans own.core (quiet_scan (stamp_in f.value) own.core own.layout.cores (fills_page call ks)) act
  pub stamp : stamp_of_act act ≡ stamp_shown (entry_of_word f.word)
  pub starts : is_start act ≡ true
  pub knows : (setup : Setting) (t : Trace) (upto : ℕ) → own.epochs ≡ setup.epochs → IsSpot setup t c plan ks upto f.node f.entry f.word
      → ReadIs (state_after setup t) c (reads_of call ks) read → KnowsAct setup t c call plan ks upto act
  pub outside : goes_on act ≡ false → OutsideBy call ks

-- A range that is named ends within the machine's frames, and so each of its frames is one of them.
good_within : (s : State) (range : Capability) (f : ℕ) → IsGood s range → range.kind ≡ Kind.Range
    → has_frame (found range) f ≡ true → f < s.limits.frames
good_within s range f good is has =
    range_below s.limits.frames Kind.Range range.frame range.arg f refl
    (subst (λ (k : Kind). EndsWithin k range.frame range.arg s.limits.frames) is good.within) has

pub range_within : (setup : Setting) → IsSetting setup → (t : Trace) → IsLegal setup t → (c : ℕ) (call : Call) → phase t c ≡ Open call
    → (needs r f : ℕ) (range : Capability)
    → named (state_after setup t) c r (record { kinds = only Kind.Range; needs = needs }) ≡ Found_it range
    → has_frame (found range) f ≡ true → f < setup.frames
range_within setup setting t legal c call is_open needs r f range is has =
    let good : IsGood (state_after setup t) range × IsTrue (only Kind.Range range.kind) = named_good (state_after setup t)
    (opened (events_of t)) c r (record { kinds = only Kind.Range; needs = needs }) range (sound_of setup setting t legal)
    (opened_is t c call is_open) is in
    subst (λ (n : ℕ). f < n) (ap (λ l. l.frames) (limits_of setup t))
    (good_within (state_after setup t) range f good.0 (only_is Kind.Range range.kind good.1) has)

-- What holds now has held at a moment of a call that is open.
pub was_while_open : (P : State → Type 0) (setup : Setting) (t : Trace) (c : ℕ) (call : Call) → phase t c ≡ Open call
    → P (state_after setup t) → WasAt P setup t c
was_while_open P setup [] c call is now = absurd (not_out is)
  where
    not_out : Out ≡ Open call → ⊥
    not_out h = cc
was_while_open P setup (e ∷ t) c call is now = inl now

module _ (own : Own) (plan : Plan) (read : Option ℕ) (c : ℕ) (own_core : own.core ≡ c) (at : Found) where
  -- it fills the place
  begins_fill : (call : Call) (ks : List Capability) (k : Capability)
      → act_begun own call ks read (Some at)
      ≡ scans own.core (quiet_scan (stamp_in at.value) own.core own.layout.cores (fills_page call ks)) (filling k at)
      → EntryFits (Entry.Held k) → put_by call ks read ≡ Some k → ((setup : Setting) (t : Trace) → HasUser setup t c call)
      → Begins own call plan ks read c at
  begins_fill call ks k begins fits puts user = record {
    act = filling k at;
    begins = begins;
    stamp = refl;
    starts = refl;
    knows = λ setup t upto epochs spot reads. record {
      target = spot.target;
      next = spot.next;
      way = spot.way;
      own = spot.own;
      vacant = spot.vacant;
      fits = fits;
      read = read;
      has_read = reads;
      puts = puts;
      user = user setup t;
    };
    outside = λ out. absurd (false≢true (sym out));
  }

  -- it maps a frame
  module _ (p v r f : ℕ) (w : PageFlags) (pages range : Capability) (rest : List Capability) where
    abbrev map_scan : ActOf → WorkStep
    map_scan act = scans own.core (quiet_scan (stamp_in at.value) own.core own.layout.cores true) act

    map_within : (has : Bool) → has_frame (found range) f ≡ has → w.0 < 4
        → act_begun own (Map p v r f w) (pages ∷ range ∷ rest) read (Some at)
        ≡ map_scan (mapping_if (has && nat_lt f own.layout.frames) f w at)
    map_within has is flags = ap (λ b. maps_if b own range f w at) (lt-ltb w.0 4 flags)
        ∙ ap (λ b. map_scan (mapping_if (b && nat_lt f own.layout.frames) f w at)) is

    begins_map : w.0 < 4 → own.layout.frames ≤ 512 → (has_frame (found range) f ≡ true → f < own.layout.frames)
        → Begins own (Map p v r f w) plan (pages ∷ range ∷ rest) read c at
    begins_map flags small below = by (has_frame (found range) f) refl
      where
        by : (has : Bool) → has_frame (found range) f ≡ has → Begins own (Map p v r f w) plan (pages ∷ range ∷ rest) read c at
        by true has = record {
          act = mapping f w at;
          begins = map_within true has flags ∙ ap (λ b. map_scan (mapping_if b f w at)) (lt-ltb f own.layout.frames (below has));
          stamp = refl;
          starts = refl;
          knows = λ setup t upto epochs spot reads. record {
            spot = spot;
            fits = (let low = below has in omega (arith, low, small), omega arith, flags, omega arith, omega arith);
            puts = ap (λ b. if b then Some (page_cap f w) else None) has;
            frame = refl;
            maps = refl;
          };
          outside = λ out. absurd (false≢true (sym out));
        }
        by false has = record {
          act = Outside at.node at.entry at.word;
          begins = map_within false has flags;
          stamp = refl;
          starts = refl;
          knows = λ setup t upto epochs spot reads. record { spot = spot; outside = has };
          outside = λ out. has;
        }

  -- it puts a part of a range
  module _ (r f n u b : ℕ) (range : Capability) (rest : List Capability) where
    abbrev part_scan : ActOf → WorkStep
    part_scan act = scans own.core (quiet_scan (stamp_in at.value) own.core own.layout.cores false) act

    part_within : (has : Bool) → has_frames (found range) f n ≡ has
        → act_begun own (Part r f n u b) (range ∷ rest) read (Some at)
        ≡ part_scan (part_if (has && nat_lt f own.layout.frames) (part_of range f n) at)
    part_within has is = ap (λ b. part_scan (part_if (b && nat_lt f own.layout.frames) (part_of range f n) at)) is

    begins_part : EntryFits (Entry.Held range) → own.layout.frames ≤ 512
        → ((g : ℕ) → has_frame (found range) g ≡ true → g < own.layout.frames)
        → Begins own (Part r f n u b) plan (range ∷ rest) read c at
    begins_part fits small below = by (has_frames (found range) f n) refl
      where
        by : (has : Bool) → has_frames (found range) f n ≡ has → Begins own (Part r f n u b) plan (range ∷ rest) read c at
        by true has =
            let first : f < own.layout.frames = below f (first_in (found range) f n has) in
            let last : f + n - 1 < own.layout.frames = below (f + n - 1) (last_in (found range) f n has) in
            begins_fill (Part r f n u b) (range ∷ rest) (part_of range f n)
            (part_within true has ∙ ap (λ b. part_scan (part_if b (part_of range f n) at)) (lt-ltb f own.layout.frames first))
            (omega (arith, first, small), omega arith, omega (arith, last, small), omega arith, fits.4)
            (ap (λ b. if b then Some (part_of range f n) else None) has) (λ setup t. tt)
        by false has = record {
          act = Outside at.node at.entry at.word;
          begins = part_within false has;
          stamp = refl;
          starts = refl;
          knows = λ setup t upto epochs spot reads. record { spot = spot; outside = has };
          outside = λ out. has;
        }

  -- what a make of an object does
  object_begun : (what : Make) (ks : List Capability) (object : NewObject) → object_made what ks ≡ Some object → (f : ℕ)
      → made_begun own what ks f (Some at) ≡ makes_at own (object_made what ks) (at_place ks First) f (Some at)
  object_begun (Make.Comp table pages live) ks object is f = absurd (none_some is)
    where
      none_some : None ≡ Some object → ⊥
      none_some h = cc
  object_begun what ks object is f = refl

  -- it makes an object
  module _ (what : Make) (r f u b : ℕ) (object : NewObject) (range : Capability) (rest : List Capability)
      (is : object_made what (range ∷ rest) ≡ Some object) where
    abbrev ks : List Capability
    ks = range ∷ rest

    abbrev scan : ActOf → WorkStep
    scan act = scans own.core (quiet_scan (stamp_in at.value) own.core own.layout.cores false) act

    within_is : (has : Bool) → has_frame (found range) f ≡ has
        → act_begun own (make_call what r f u b) ks read (Some at) ≡ scan (making_if (has && nat_lt f own.layout.frames) own object f at)
    within_is has by = object_begun what ks object is f ∙ ap (λ o. makes_at own o (Some range) f (Some at)) is
        ∙ ap (λ b. scan (making_if (b && nat_lt f own.layout.frames) own object f at)) by

    begins_make : (has_frame (found range) f ≡ true → f < own.layout.frames) → Begins own (make_call what r f u b) plan ks read c at
    begins_make below = by (has_frame (found range) f) refl
      where
        by : (has : Bool) → has_frame (found range) f ≡ has → Begins own (make_call what r f u b) plan ks read c at
        by true has = record {
          act = making own object f at;
          begins = within_is true has ∙ ap (λ b. scan (making_if b own object f at)) (lt-ltb f own.layout.frames (below has));
          stamp = refl;
          starts = refl;
          knows = λ setup t upto epochs spot reads. record {
            spot = spot;
            makes = record { frame = refl; object = is; within = has };
            core = own_core;
            cap = refl;
            at = tt;
          };
          outside = λ out. absurd (false≢true (sym out));
        }
        by false has = record {
          act = Outside at.node at.entry at.word;
          begins = within_is false has;
          stamp = refl;
          starts = refl;
          knows = λ setup t upto epochs spot reads. record {
            spot = spot;
            outside = inl (record { object = subst (λ (o : Option NewObject). IsSome o) (sym is) refl; outside = has });
          };
          outside = λ out. inl (record { object = subst (λ (o : Option NewObject). IsSome o) (sym is) refl; outside = has });
        }

-- It makes a component.
module _ (own : Own) (plan : Plan) (read : Option ℕ) (c : ℕ) (own_core : own.core ≡ c) (at : Found) (x p live r f u b : ℕ)
    (range second table pages : Capability) where
  abbrev four : List Capability
  four = range ∷ second ∷ table ∷ pages ∷ []

  abbrev comp_scan : ActOf → WorkStep
  comp_scan act = scans own.core (quiet_scan (stamp_in at.value) own.core own.layout.cores false) act

  comp_within : (has : Bool) → has_frame (found range) f ≡ has
      → act_begun own (make_call (Make.Comp x p live) r f u b) four read (Some at)
      ≡ comp_scan (comp_if (has && nat_lt f own.layout.frames) own live table pages f at)
  comp_within has by = ap (λ b. comp_scan (comp_if (b && nat_lt f own.layout.frames) own live table pages f at)) by

  begins_comp : (has_frame (found range) f ≡ true → f < own.layout.frames)
      → Begins own (make_call (Make.Comp x p live) r f u b) plan four read c at
  begins_comp below = by (has_frame (found range) f) refl
    where
      by : (has : Bool) → has_frame (found range) f ≡ has → Begins own (make_call (Make.Comp x p live) r f u b) plan four read c at
      by true has = record {
        act = comp_making own live table pages f at;
        begins = comp_within true has ∙ ap (λ b. comp_scan (comp_if b own live table pages f at)) (lt-ltb f own.layout.frames (below has));
        stamp = refl;
        starts = refl;
        knows = λ setup t upto epochs spot reads. record {
          spot = spot;
          makes = record { frame = refl; number = refl; table = refl; pages = refl; within = has };
          core = own_core;
          epochs = epochs;
          cap = refl;
          at = tt;
        };
        outside = λ out. absurd (false≢true (sym out));
      }
      by false has = record {
        act = Outside at.node at.entry at.word;
        begins = comp_within false has;
        stamp = refl;
        starts = refl;
        knows = λ setup t upto epochs spot reads. record { spot = spot; outside = inr has };
        outside = λ out. inr has;
      }

-- The gate to a component whose word a call has read.
record GateOf (comp : Capability) (read : Option ℕ) : Type 0 where
  cap : Capability
  is : gate_to (Some comp) read ≡ Some cap
  fits : EntryFits (Entry.Held cap)

gate_of : (s : State) (c : ℕ) (comp : Capability) (read : Option ℕ) → IsRead s c comp.frame read → EntryFits (Entry.Held comp)
    → GateOf comp read
gate_of s c comp read has fits = record {
  cap = cap_of Kind.Gate comp.frame has.life.epoch;
  is = ap (gate_to (Some comp)) has.epoch ∙ ap (λ b. gate_if b comp.frame has.life.epoch) (le-leb 1 has.life.epoch has.fits.1);
  fits = (fits.0, has.fits.1, has.fits.2, omega arith, omega arith);
}

-- A link to a frame that a capability names is a capability.
link_fits : (leaf : Capability) → EntryFits (Entry.Held leaf) → EntryFits (Entry.Held (plain_cap Kind.Link leaf.frame))
link_fits leaf fits = (fits.0, omega arith, omega arith, omega arith, omega arith)

pub begins_free : (own : Own) (call : Call) → InLimits call → own.layout.frames ≤ 512 → (spot : Spot)
    → (plan_for call).target ≡ Free spot
    → (s : State) (plan : Plan) (ks : List Capability) (read : Option ℕ) (c : ℕ) → own.core ≡ c
    → names_after (plan_for call).names ks ≡ [] → Leads (LeadsIn s c) (plan_for call).names [] ks
    → ((at : Nth) (k : Capability) → at_place ks at ≡ Some k → EntryFits (Entry.Held k))
    → ((needs r f : ℕ) (range : Capability) → named s c r (record { kinds = only Kind.Range; needs = needs }) ≡ Found_it range
    → has_frame (found range) f ≡ true → f < own.layout.frames)
    → ReadIs s c (reads_of call ks) read
    → (at : Found) → Begins own call plan ks read c at
begins_free own (look_call a) limits small spot to s plan ks read c core none leads fits within reads at = absurd (not_free to)
  where
    not_free : Nowhere ≡ Free spot → ⊥
    not_free h = cc
begins_free own (Copy a u b rights) limits small spot to s plan [] read c core none leads fits within reads at = absurd (not_none none)
  where
    not_none : any_cap right_to_copy a ∷ of_kind Kind.Table u ∷ [] ≡ [] → ⊥
    not_none h = cc
begins_free own (Copy a u b rights) limits small spot to s plan (k ∷ ks) read c core none leads fits within reads at =
    begins_fill own plan read c core at (Copy a u b rights) (k ∷ ks) (kept k rights.0) refl (kept_fits k rights.0 (fits First k refl)) refl
    (λ setup t. tt)
begins_free own (Grow u i l) limits small spot to s plan [] read c core none leads fits within reads at = absurd (not_none none)
  where
    not_none : a_root u ∷ a_leaf l ∷ [] ≡ [] → ⊥
    not_none h = cc
begins_free own (Grow u i l) limits small spot to s plan (k ∷ []) read c core none leads fits within reads at = absurd (not_none none)
  where
    not_none : a_leaf l ∷ [] ≡ [] → ⊥
    not_none h = cc
begins_free own (Grow u i l) limits small spot to s plan (k ∷ j ∷ ks) read c core none leads fits within reads at =
    begins_fill own plan read c core at (Grow u i l) (k ∷ j ∷ ks) (plain_cap Kind.Link j.frame) refl
    (link_fits j (fits Second j refl)) refl (λ setup t. tt)
begins_free own (Map p v r f w) limits small spot to s plan [] read c core none leads fits within reads at = absurd (not_none none)
  where
    not_none : of_kind Kind.Pages p ∷ of_kind Kind.Range r ∷ [] ≡ [] → ⊥
    not_none h = cc
begins_free own (Map p v r f w) limits small spot to s plan (k ∷ []) read c core none leads fits within reads at = absurd (not_none none)
  where
    not_none : of_kind Kind.Range r ∷ [] ≡ [] → ⊥
    not_none h = cc
begins_free own (Map p v r f w) limits small spot to s plan (k ∷ j ∷ ks) read c core none leads fits within reads at =
    begins_map own plan read c core at p v r f w k j ks limits small (within right_to_use r f j leads.1.0)
begins_free own (Remove u b) limits small spot to s plan ks read c core none leads fits within reads at = absurd (not_free to)
  where
    not_free : Held (Spot.Under First b) ≡ Free spot → ⊥
    not_free h = cc
begins_free own (Shrink u i) limits small spot to s plan ks read c core none leads fits within reads at = absurd (not_free to)
  where
    not_free : Held (Spot.InRoot First i) ≡ Free spot → ⊥
    not_free h = cc
begins_free own (Unmap p v) limits small spot to s plan ks read c core none leads fits within reads at = absurd (not_free to)
  where
    not_free : Held (Spot.Under First v) ≡ Free spot → ⊥
    not_free h = cc
begins_free own (Retype r f FrameKind.Untyped) limits small spot to s plan ks read c core none leads fits within reads at = absurd
    (not_target to)
  where
    not_target : Nowhere ≡ Free spot → ⊥
    not_target h = cc
begins_free own (Retype r f FrameKind.User) limits small spot to s plan ks read c core none leads fits within reads at =
    absurd (not_target to)
  where
    not_target : Nowhere ≡ Free spot → ⊥
    not_target h = cc
begins_free own (Retype r f FrameKind.Kernel) limits small spot to s plan ks read c core none leads fits within reads at = absurd
    (not_target to)
  where
    not_target : Nowhere ≡ Free spot → ⊥
    not_target h = cc
begins_free own (make_call (Make.Comp x p live) r f u b) limits small spot to s plan ks read c core none leads fits within reads at =
    let of : IsCompMake s c r f u b x p live ks = comp_make s c r f u b x p live ks leads none in
    subst (λ ks. Begins own (make_call (Make.Comp x p live) r f u b) plan ks read c at) (sym of.found_is)
    (begins_comp own plan read c core at x p live r f u b of.range of.second of.table of.pages (within right_to_use r f of.range of.first))
begins_free own (make_call what r f u b) limits small spot to s plan ks read c core none leads fits within reads at =
    made_of what tt r f u b ks none (Begins own (make_call what r f u b) plan ks read c at) (λ object is.
    let two : TwoFound s c r u ks = (object_make s c r f u b what object ks is leads none).two in
    subst (λ ks. Begins own (make_call what r f u b) plan ks read c at) (sym two.found_is)
    (begins_make own plan read c core at what r f u b object two.range (two.table ∷ two.rest)
    (subst (λ ks. object_made what ks ≡ Some object) two.found_is is) (within right_to_use r f two.range two.first)))
begins_free own (Touch v) limits small spot to s plan ks read c core none leads fits within reads at = absurd (not_target to)
  where
    not_target : own_page v ≡ Free spot → ⊥
    not_target h = cc
begins_free own Flush limits small spot to s plan ks read c core none leads fits within reads at = absurd (not_target to)
  where
    not_target : Nowhere ≡ Free spot → ⊥
    not_target h = cc
begins_free own (Tick n) limits small spot to s plan ks read c core none leads fits within reads at = absurd (not_target to)
  where
    not_target : Nowhere ≡ Free spot → ⊥
    not_target h = cc
begins_free own (Gate n u b) limits small spot to s plan [] read c core none leads fits within reads at = absurd (not_none none)
  where
    not_none : of_kind Kind.Comp n ∷ of_kind Kind.Table u ∷ [] ≡ [] → ⊥
    not_none h = cc
begins_free own (Gate n u b) limits small spot to s plan (k ∷ ks) read c core none leads fits within reads at =
    let gate : GateOf k read = gate_of s c k read reads (fits First k refl) in
    begins_fill own plan read c core at (Gate n u b) (k ∷ ks) gate.cap
    (ap (λ o. fills_with own o false (Some at)) gate.is) gate.fits gate.is
    (λ setup t. tt)
begins_free own (Kill n) limits small spot to s plan ks read c core none leads fits within reads at = absurd (not_target to)
  where
    not_target : Nowhere ≡ Free spot → ⊥
    not_target h = cc
begins_free own (call_gate n) limits small spot to s plan ks read c core none leads fits within reads at = absurd (not_target to)
  where
    not_target : Nowhere ≡ Free spot → ⊥
    not_target h = cc
begins_free own Ret limits small spot to s plan ks read c core none leads fits within reads at = absurd (not_target to)
  where
    not_target : Nowhere ≡ Free spot → ⊥
    not_target h = cc
begins_free own (Replenish x m) limits small spot to s plan ks read c core none leads fits within reads at = absurd (not_target to)
  where
    not_target : Nowhere ≡ Free spot → ⊥
    not_target h = cc
begins_free own (Transfer x y m) limits small spot to s plan ks read c core none leads fits within reads at = absurd (not_target to)
  where
    not_target : Nowhere ≡ Free spot → ⊥
    not_target h = cc
begins_free own (Delegate x y m) limits small spot to s plan ks read c core none leads fits within reads at = absurd (not_target to)
  where
    not_target : Nowhere ≡ Free spot → ⊥
    not_target h = cc
begins_free own (Test x y) limits small spot to s plan ks read c core none leads fits within reads at = absurd (not_target to)
  where
    not_target : Nowhere ≡ Free spot → ⊥
    not_target h = cc
begins_free own (Switch x y) limits small spot to s plan ks read c core none leads fits within reads at = absurd (not_target to)
  where
    not_target : Nowhere ≡ Free spot → ⊥
    not_target h = cc
begins_free own (Part r f n u b) limits small spot to s plan [] read c core none leads fits within reads at = absurd (not_none none)
  where
    not_none : a_whole r ∷ of_kind Kind.Table u ∷ [] ≡ [] → ⊥
    not_none h = cc
begins_free own (Part r f n u b) limits small spot to s plan (k ∷ ks) read c core none leads fits within reads at =
    begins_part own plan read c core at r f n u b k ks (fits First k refl) small (λ g has. within both r g k leads.0 has)
