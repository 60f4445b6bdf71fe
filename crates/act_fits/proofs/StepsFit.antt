-- Where a step of a call's work leads to fits its machine, and how many steps it leaves at most.
use Rattle.call_stages.specs.act_states.specs as low
use low.{◌≡◌, ℕ, pos, negsuc, ◌≢◌, ltb as nat_lt, if◌then◌else◌, ◌+◌, ◌*◌, ◌-◌, slice_get, ◌<◌, ◌≤◌, Bool, true, false, leb as nat_le}
use low.{IsTrue, ◌==◌, List, [], ◌∷◌, length, Option, Some, None, IfSome, IsSomeAnd, refl, ◌&&◌, Quiet, QuietFits, first_other, flush_scan}
use low.{core_scan, quiet_scan, Capability, cap_of, part_of, InLimits, Kind, Call, Copy, Remove, Shrink, Unmap, Retype, Make as make_call}
use low.{Tick, Gate, Kill, Grow, Flush, Map, Ret, Switch, Transfer, Delegate, Test, Part, Replenish, Entry, Shape, Named, found}
use low.{Target as place, Under as place_under, InRoot as place_in, end_of_frames, CapNames, First, Second, Third, Fourth, Name, Spot}
use low.{Nowhere, Plan, at_place, earlier, with_found, names_after, Leads, next_in, look_steps, act_steps, PageFlags, FrameKind, has_frame}
use low.{has_frames, counts_of, last_word, ActFits, act_left, looked, dues, scans, stamp_in, filling, fills_with, removes_held, removes_at}
use low.{types_if, types_at, gate_if, gate_to, reads_of, starts, makes_at, act_begun, next_work, kills_in, kills_at, page_cap, maps_if}
use low.{maps_at, comps_at, made_begun, invokes_in, invokes_if, invokes_at, returns_if, switches_at, parts_at, LoadA, PairWork, share_left}
use low.{shares_if, shares_at, refills_at, ScanFits, left_of_scan, touches_if, looks_under, looks_entry, looks_at, read_first, phases_of}
use Rattle.act_fits.proofs.Common.{sym, ap, subst, arith, ltb-true, ltb-false, eqb-true, eqb-false, Table, Pages, root, EntryNames, rooted}
use Rattle.act_fits.proofs.Common.{Untyped, Make, NewObject, NewTable, Own}
use Rattle.act_fits.proofs.Common.{ActType, Outside, WorkStep, Goes, Acquires, Refuses, Answers, Changes, left_of_cores, FoundFits, IsOwn}
use Rattle.call_stages.specs.kernel_rules.proofs.{leb-false, leb-true, Look as look_call, frames_in}
use Rattle.call_stages.specs.call_plans.specs.{place_of_spot, WantsRoot}
use Rattle.call_stages.specs.spk_nums.specs.{CallLimits.MakeInLimits, declared.calls.Call.TheVariants.Call as call_gate}
use Rattle.call_stages.specs.stage_look.specs.{Lookup.FoundFits as PlaceFits, declared.look.Found.Found}
use Rattle.call_stages.specs.call_plans.specs.{declared.plans.Spot.TheVariants.Under, declared.plans.Spot.TheVariants.InRoot}
use Rattle.call_stages.specs.call_plans.specs.{declared.plans.Target.Target, declared.plans.Target.TheVariants.Free}
use Rattle.call_stages.specs.call_plans.specs.{declared.plans.Target.TheVariants.Held, declared.plans.Target.TheVariants.Own as own_page}
use Rattle.call_stages.specs.call_plans.specs.{Bounds.retype_steps, Bounds.make_steps, Rooted.root_of, Rooted.IsRooted}
use Rattle.call_stages.specs.call_plans.proofs.Roots.{earlier_is, Led, nth_led}
use low.Objects.{object_cap, object_made, thread_on, ObjectFits}
use low.Acts.{removing, frame_named, making, making_if, makes_in, kept_of, link_to, is_pages, mapping, mapping_if, comp_making, comp_if}
use low.Acts.{comps_in, returns_at, part_if, starts_if}
use low.{next_step, declared.work.Work.TheVariants.Lookup}
use Rattle.call_stages.specs.Fits.{IsWanted, looks_later, after_reading, acts_later}
use Rattle.act_fits.proofs.NamedFit.{TwoNamed, ObjectNamed}
use Rattle.act_fits.proofs.DuesFit.{StepFits, cap_one, work_next, counts_next}

-- what the first name has led to names frames of the machine
pub first_named : (frames : ℕ) (names : List Name) (caps : List Named) (ks : List Capability) → Leads (IsWanted frames) names caps ks
    → IfSome (at_place ks First) (CapNames frames)
first_named frames names caps [] leads = tt
first_named frames [] caps (k ∷ ks) leads = absurd leads
first_named frames (name ∷ names) caps (k ∷ ks) leads = leads.0.1

-- a root that is wanted is a frame of the machine
pub root_below : (frames : ℕ) (kind : Kind) (frame arg : ℕ) → IsTrue (root kind) → end_of_frames kind frame arg ≤ frames → frame < frames
root_below frames Table frame arg wanted names = omega arith
root_below frames Pages frame arg wanted names = omega arith
root_below frames kind frame arg wanted names = absurd (cc)

pub looks_fits : (s : Shape) (within : Bool) (frame n later most : ℕ) → within ≡ nat_le n 4095 → frame < s.frames → 2 + later ≤ most
    → StepFits s [] later most (looks_under within frame n)
looks_fits s true frame n later most is below fewer = ((below, leb-true n 4095 (sym is)), fewer, refl)
looks_fits s false frame n later most is below fewer = (omega arith, tt)

pub entry_fits : (s : Shape) (within : Bool) (frame i later most : ℕ) → within ≡ nat_le i 63 → frame < s.frames → 1 + later ≤ most
    → StepFits s [] later most (looks_entry within frame i)
entry_fits s true frame i later most is below fewer = let small : i ≤ 63 = leb-true i 63 (sym is) in ((below, omega arith), fewer, refl)
entry_fits s false frame i later most is below fewer = (omega arith, tt)

-- the act of a call, where its target was found or it has none
-- the words of a scan, and one more: the core words, and for a place of a page table the flush words
abbrev pub words_scanned : Bool → ℕ → ℕ
words_scanned page cores = if page then cores + cores else cores

some_words : (page : Bool) (cores : ℕ) → 1 ≤ cores → 1 ≤ words_scanned page cores
some_words true cores some = omega arith
some_words false cores some = some

-- an act that begins with a scan, or without
abbrev pub ScanMay : Shape → Bool → Option Quiet → Type 0
ScanMay s page None = Unit {0}
ScanMay s page (Some q) = QuietFits s q × ScanFits s q × (left_of_scan s.cores q + 1 ≤ words_scanned page s.cores)

with_flushes : (page : Bool) (left cores : ℕ) → left + 1 ≤ cores → left + (if page then cores else 0) + 1 ≤ words_scanned page cores
with_flushes true left cores few = omega arith
with_flushes false left cores few = omega arith

pub scan_may : (s : Shape) (stamp core : ℕ) (page : Bool) → core < s.cores → ScanMay s page (quiet_scan stamp core s.cores page)
scan_may s stamp core page here = by_stamp (stamp == 0) refl
  where
    flushes_alone : (page : Bool) → 1 ≤ stamp → ScanMay s page (flush_scan page stamp)
    flushes_alone true some = ((let h = here in omega arith), some, (let h = here in omega arith))
    flushes_alone false some = tt

    by_first : (none there : Bool) → (core == 0) ≡ none → nat_lt (first_other core) s.cores ≡ there → 1 ≤ stamp
        → ScanMay s page (core_scan there stamp core (first_other core) page)
    by_first none false is there some = flushes_alone page some
    by_first none true is there some =
        let first : first_other core < s.cores = ltb-true (first_other core) s.cores there in (
          (first, apart none is),
          (here, some),
          with_flushes page (left_of_cores s.cores core (first_other core)) s.cores (few (nat_lt (first_other core) core) refl first),
        )
      where
        apart : (none : Bool) → (core == 0) ≡ none → first_other core ≢ core
        apart true is = let a : core ≡ 0 =
            eqb-true core 0 is in subst (λ (n : ℕ). n ≢ core) (sym (ap (λ b. if b then 1 else 0) is)) (omega arith)
        apart false is = let a =
            eqb-false core 0 is in subst (λ (n : ℕ). n ≢ core) (sym (ap (λ b. if b then 1 else 0) is)) (λ h. a (sym h))

        few : (b : Bool) → nat_lt (first_other core) core ≡ b → first_other core < s.cores
            → left_of_cores s.cores core (first_other core) + 1 ≤ s.cores
        few true less first =
            subst (λ b. (if b then s.cores - first_other core - 1 else s.cores - first_other core) + 1 ≤ s.cores) (sym less) (omega arith)
        few false less first =
            let more = ltb-false (first_other core) core less in
            let at : 1 ≤ first_other core = past (core == 0) refl more in
            subst (λ b. (if b then s.cores - first_other core - 1 else s.cores - first_other core) + 1 ≤ s.cores) (sym less) (omega arith)
          where
            past : (b : Bool) → (core == 0) ≡ b → core ≤ first_other core → 1 ≤ first_other core
            past true is more = subst (λ (n : ℕ). 1 ≤ n) (sym (ap (λ b. if b then 1 else 0) is)) (omega arith)
            past false is more =
                let a = eqb-false core 0 is in
                let none : first_other core ≡ 0 = ap (λ b. if b then 1 else 0) is in
                absurd (a (omega arith))

    by_stamp : (none : Bool) → (stamp == 0) ≡ none
        → ScanMay s page (if none then None else core_scan (nat_lt (first_other core) s.cores) stamp core (first_other core) page)
    by_stamp true is = tt
    by_stamp false is = by_first (core == 0) (nat_lt (first_other core) s.cores) refl refl (let a = eqb-false stamp 0 is in omega arith)

first_fits : (s : Shape) (later most core : ℕ) (act : ActType) → core < s.cores → ActFits s act
    → 3 * length (dues act) + act_left s.cores act ≤ most → StepFits s [] later most (Goes (next_work core 0 act))
first_fits s later most core act here fits some =
    let next = work_next s later core 0 act (slice_get (dues act) 0) refl here fits in
    (next.0, (let fewer = next.1 in omega arith), counts_next core 0 [] act (slice_get (dues act) 0) refl refl (omega arith))

pub starts_fit : (s : Shape) (later most core : ℕ) (act : ActType) → core < s.cores → ActFits s act
    → 3 * length (dues act) + act_left s.cores act ≤ most → StepFits s [] later most (starts core act)
starts_fit s later most core act here fits some = by (phases_of act).within
  where
    by : (within : Bool) → StepFits s [] later most (starts_if within core act)
    by true = first_fits s later most core act here fits some
    by false = (omega arith, tt)

pub scans_fit : (s : Shape) (later most core : ℕ) (act : ActType) (page : Bool) (o : Option Quiet) → core < s.cores → ActFits s act
    → ScanMay s page o
    → words_scanned page s.cores - 1 + 3 * length (dues act) + act_left s.cores act ≤ most → StepFits s [] later most (scans core o act)
scans_fit s later most core act page None here fits may some = starts_fit s later most core act here fits (omega arith)
scans_fit s later most core act page (Some q) here fits may some = ((may.0, may.1, fits), (let few = may.2 in omega arith), refl)

pub filled : (own : Own) (later most : ℕ) (k : Option Capability) (page : Bool) (target : Option Found) → IsOwn own
    → IfSome k (CapNames own.layout.frames)
    → IfSome target (PlaceFits own.layout) → words_scanned page own.layout.cores + 3 ≤ most
    → StepFits own.layout [] later most (fills_with own k page target)
filled own later most None page target h names fits some = (omega arith, tt)
filled own later most (Some k) page None h names fits some = (omega arith, tt)
filled own later most (Some k) page (Some f) h names fits some =
    let act : ActType = filling k f in
    let one = cap_one k.kind k.frame k.arg (pos 1) in
    let many = some_words page own.layout.cores h.shape.some_core in
    scans_fit own.layout later most own.core act page (quiet_scan (stamp_in f.value) own.core own.layout.cores page) h.core
    (record { node = fits.node; entry = fits.entry; cap = names }) (scan_may own.layout (stamp_in f.value) own.core page h.core)
    (omega arith)

-- a root entry is filled with a link; where it is one of a page table the flush words are scanned too
grow_words : (page : Bool) (cores : ℕ) → words_scanned page cores + 3 ≤ 3 + 2 * cores
grow_words true cores = omega arith
grow_words false cores = omega arith

-- the act that removes what a place holds
pub removed_held : (s : Shape) (later most core : ℕ) (f : Found) (value : Entry) → core < s.cores → EntryNames s.frames value
    → f.node < s.frames → f.entry < 64 → 6 ≤ most
    → StepFits s [] later most (removes_held core f value)
removed_held s later most core f (Entry.Held k) here names node small some =
    let act : ActType = removing core k f in
    let next = work_next s later core 0 act (slice_get (dues act) 0) refl here ((node, small), names) in
    let one = cap_one k.kind k.frame k.arg (negsuc 0) in
    (next.0, (let fewer = next.1 in omega arith), counts_next core 0 [] act (slice_get (dues act) 0) refl refl (omega arith))
removed_held s later most core f _ here names node small some = (omega arith, tt)

pub removed : (s : Shape) (later most core : ℕ) (target : Option Found) → core < s.cores → IfSome target (PlaceFits s) → 6 ≤ most
    → StepFits s [] later most (removes_at core target)
removed s later most core None here fits some = (omega arith, tt)
removed s later most core (Some f) here fits some = removed_held s later most core f f.value here fits.names fits.node fits.entry some

pub look_done : (s : Shape) (later most : ℕ) (k : Option Capability) → StepFits s [] later most (looked k)
look_done s later most None = (omega arith, tt)
look_done s later most (Some k) = (omega arith, tt)

-- the act that touches a page
pub touched_fit : (own : Own) (later most v : ℕ) (within : Bool) → nat_le v 4095 ≡ within → IsOwn own → 2 ≤ most
    → StepFits own.layout [] later most (touches_if within own v)
touched_fit own later most v true is h some = (record { look = (h.pages, leb-true v 4095 is); all = refl }, some, refl)
touched_fit own later most v false is h some = (omega arith, tt)

-- the act that types a frame of a range, or makes it untyped again
pub types_fit : (s : Shape) (later core f : ℕ) (k : FrameKind) (within : Bool) → (within ≡ true → f < s.frames) → core < s.cores
    → StepFits s [] later (retype_steps k s.cores) (types_if within core f k)
types_fit s later core f Untyped true below here = (record { frame = below refl; core = here; at = tt }, omega arith, refl)
types_fit s later core f k false below here = (omega arith, tt)
types_fit s later core f _ true below here = (below refl, omega arith, refl)

pub types : (own : Own) (later : ℕ) (range : Option Capability) (f : ℕ) (k : FrameKind) → own.core < own.layout.cores
    → StepFits own.layout [] later (retype_steps k own.layout.cores) (types_at own range f k)
types own later None f k here = (omega arith, tt)
types own later (Some range) f k here =
    types_fit own.layout later own.core f k (has_frame (found range) f && nat_lt f own.layout.frames)
    (λ is. ltb-true f own.layout.frames (both (has_frame (found range) f) (nat_lt f own.layout.frames) is)) here
  where
    both : (x y : Bool) → (x && y) ≡ true → y ≡ true
    both true y is = is
    both false y is = cc

-- the act that makes an object, where the range has its frame
abbrev frame_in : Own → Capability → ℕ → Bool
frame_in own range f = has_frame (found range) f && nat_lt f own.layout.frames

object_below : (frames : ℕ) (object : NewObject) (f : ℕ) → f < frames → CapNames frames (object_cap object f)
object_below frames NewTable f below = omega (arith, below)
object_below frames _ f below = omega (arith, below)

-- the steps of a making, and those of the scan before it
abbrev making_steps : NewObject → ℕ → ℕ
making_steps object cores = cores + (3 * counts_of object + last_word object + 4)

pub makes : (own : Own) (later most : ℕ) (object : NewObject) (range : Capability) (f : ℕ) (target : Found) → IsOwn own
    → ObjectFits own.layout object → PlaceFits own.layout target → making_steps object own.layout.cores ≤ most
    → StepFits own.layout [] later most (makes_in own object range f target)
makes own later most object range f target h objects fits some = by (frame_in own range f) refl
  where
    both : (x y : Bool) → (x && y) ≡ true → y ≡ true
    both true y is = is
    both false y is = cc

    by : (within : Bool) → frame_in own range f ≡ within
        → StepFits own.layout [] later most (scans own.core (quiet_scan (stamp_in target.value) own.core own.layout.cores false)
        (making_if within own object f target))
    by true is =
        let many = h.shape.some_core in
        let below : f < own.layout.frames = ltb-true f own.layout.frames (both (has_frame (found range) f) (nat_lt f own.layout.frames) is)
        in
        scans_fit own.layout later most own.core (making own object f target) false
        (quiet_scan (stamp_in target.value) own.core own.layout.cores false) h.core
        (record {
          frame = below;
          core = h.core;
          object = objects;
          fill = record {
            node = fits.node;
            entry = fits.entry;
            cap = object_below own.layout.frames
                object f below;
          };
          at = tt;
        })
        (scan_may own.layout (stamp_in target.value) own.core false h.core) (omega (arith, many, some))
    by false is =
        let many = h.shape.some_core in
        scans_fit own.layout later most own.core (Outside target.node target.entry target.word) false
        (quiet_scan (stamp_in target.value) own.core own.layout.cores false) h.core (fits.node, fits.entry)
        (scan_may own.layout (stamp_in target.value) own.core false h.core) (omega (arith, many, some))

made_at : (own : Own) (later most : ℕ) (object : Option NewObject) (range : Option Capability) (f : ℕ) (target : Option Found)
    → IsOwn own → IfSome target (PlaceFits own.layout)
    → IfSome object (λ o. ObjectFits own.layout o × (making_steps o own.layout.cores ≤ most))
    → StepFits own.layout [] later most (makes_at own object range f target)
made_at own later most (Some object) (Some range) f (Some target) h fits some =
    makes own later most object range f target h some.0 fits some.1
made_at own later most None range f target h fits some = (omega arith, tt)
made_at own later most (Some object) None f target h fits some = (omega arith, tt)
made_at own later most (Some object) (Some range) f None h fits some = (omega arith, tt)

-- the act that maps a frame of a range
page_below : (frames f : ℕ) (w : PageFlags) → f < frames → CapNames frames (page_cap f w)
page_below frames f w below = omega (arith, below)

maps : (own : Own) (later : ℕ) (range : Option Capability) (f : ℕ) (w : PageFlags) (target : Option Found) → IsOwn own
    → IfSome target (PlaceFits own.layout)
    → StepFits own.layout [] later (4 + 2 * own.layout.cores) (maps_at own range f w target)
maps own later None f w target h fits = (omega arith, tt)
maps own later (Some range) f w None h fits = (omega arith, tt)
maps own later (Some range) f w (Some at) h fits = by_flags (nat_lt w.0 4)
  where
    both : (x y : Bool) → (x && y) ≡ true → y ≡ true
    both true y is = is
    both false y is = cc

    by : (within : Bool) → (has_frame (found range) f && nat_lt f own.layout.frames) ≡ within
        → StepFits own.layout [] later (4 + 2 * own.layout.cores)
        (scans own.core (quiet_scan (stamp_in at.value) own.core own.layout.cores true) (mapping_if within f w at))
    by true is =
        let many = h.shape.some_core in
        let below : f < own.layout.frames = ltb-true f own.layout.frames (both (has_frame (found range) f) (nat_lt f own.layout.frames) is)
        in
        let one = cap_one Kind.Page f w.0 (pos 1) in
        scans_fit own.layout later (4 + 2 * own.layout.cores) own.core (mapping f w at) true
        (quiet_scan (stamp_in at.value) own.core own.layout.cores true) h.core
        (record { node = fits.node; entry = fits.entry; cap = page_below own.layout.frames f w below }, below)
        (scan_may own.layout (stamp_in at.value) own.core true h.core) (omega (arith, many, one))
    by false is =
        let many = h.shape.some_core in
        scans_fit own.layout later (4 + 2 * own.layout.cores) own.core (Outside at.node at.entry at.word) true
        (quiet_scan (stamp_in at.value) own.core own.layout.cores true) h.core (fits.node, fits.entry)
        (scan_may own.layout (stamp_in at.value) own.core true h.core) (omega (arith, many))

    by_flags : (flags : Bool) → StepFits own.layout [] later (4 + 2 * own.layout.cores) (maps_if flags own range f w at)
    by_flags true = by (has_frame (found range) f && nat_lt f own.layout.frames) refl
    by_flags false = (omega arith, tt)

-- the act that puts a part of a range
part_ends : (frames : ℕ) (range : Capability) (f n : ℕ) → range.frame + range.arg ≤ frames → has_frames (found range) f n ≡ true
    → f + n ≤ frames
part_ends frames range f n ends has = let p = frames_in (found range) f n has in let last = p.last in omega (arith, ends)

parts : (own : Own) (later : ℕ) (range : Option Capability) (f n : ℕ) (target : Option Found) → IsOwn own
    → IfSome range (λ k. k.frame + k.arg ≤ own.layout.frames) → IfSome target (PlaceFits own.layout)
    → StepFits own.layout [] later own.layout.cores (parts_at own range f n target)
parts own later None f n target h ends fits = (omega arith, tt)
parts own later (Some range) f n None h ends fits = (omega arith, tt)
parts own later (Some range) f n (Some at) h ends fits =
    by (has_frames (found range) f n) (nat_lt f own.layout.frames) refl
  where
    outside : StepFits own.layout [] later own.layout.cores
        (scans own.core (quiet_scan (stamp_in at.value) own.core own.layout.cores false) (Outside at.node at.entry at.word))
    outside =
        let many = h.shape.some_core in
        scans_fit own.layout later own.layout.cores own.core (Outside at.node at.entry at.word) false
        (quiet_scan (stamp_in at.value) own.core own.layout.cores false) h.core (fits.node, fits.entry)
        (scan_may own.layout (stamp_in at.value) own.core false h.core) (omega (arith, many))

    by : (has below : Bool) → has_frames (found range) f n ≡ has
        → StepFits own.layout [] later own.layout.cores
        (scans own.core (quiet_scan (stamp_in at.value) own.core own.layout.cores false) (part_if (has && below) (part_of range f n) at))
    by true true is =
        let many = h.shape.some_core in
        scans_fit own.layout later own.layout.cores own.core (filling (part_of range f n) at) false
        (quiet_scan (stamp_in at.value) own.core own.layout.cores false) h.core
        (record { node = fits.node; entry = fits.entry; cap = part_ends own.layout.frames range f n ends is })
        (scan_may own.layout (stamp_in at.value) own.core false h.core) (omega (arith, many))
    by _ _ is = outside

-- the act that makes a component, where the range has its frame
comps : (own : Own) (later live : ℕ) (range table pages : Capability) (f : ℕ) (target : Found) → IsOwn own → live < 64
    → table.frame < own.layout.frames → pages.frame < own.layout.frames → PlaceFits own.layout target
    → StepFits own.layout [] later (17 + 2 * own.layout.cores) (comps_in own live range table pages f target)
comps own later live range table pages f target h small root_fits pages_fit fits = by (frame_in own range f) refl
  where
    both : (x y : Bool) → (x && y) ≡ true → y ≡ true
    both true y is = is
    both false y is = cc

    by : (within : Bool) → frame_in own range f ≡ within
        → StepFits own.layout [] later (17 + 2 * own.layout.cores)
        (scans own.core (quiet_scan (stamp_in target.value) own.core own.layout.cores false)
        (comp_if within own live table pages f target))
    by true is =
        let many = h.shape.some_core in
        let below : f < own.layout.frames = ltb-true f own.layout.frames (both (has_frame (found range) f) (nat_lt f own.layout.frames) is)
        in
        scans_fit own.layout later (17 + 2 * own.layout.cores) own.core (comp_making own live table pages f target) false
        (quiet_scan (stamp_in target.value) own.core own.layout.cores false) h.core
        (record {
          frame = below;
          table = root_fits;
          pages = pages_fit;
          number = small;
          core = h.core;
          cores = refl;
          few = h.shape.most_cores;
          epochs = h.most_epochs;
          fill = record { node = fits.node; entry = fits.entry; cap = omega (arith, below) };
          at = tt;
        })
        (scan_may own.layout (stamp_in target.value) own.core false h.core) (omega (arith, many))
    by false is =
        let many = h.shape.some_core in
        scans_fit own.layout later (17 + 2 * own.layout.cores) own.core (Outside target.node target.entry target.word) false
        (quiet_scan (stamp_in target.value) own.core own.layout.cores false) h.core (fits.node, fits.entry)
        (scan_may own.layout (stamp_in target.value) own.core false h.core) (omega (arith, many))

comp_at : (own : Own) (later live : ℕ) (range table pages : Option Capability) (f : ℕ) (target : Option Found) → IsOwn own → live < 64
    → IfSome table (λ k. k.frame < own.layout.frames) → IfSome pages (λ k. k.frame < own.layout.frames)
    → IfSome target (PlaceFits own.layout)
    → StepFits own.layout [] later (17 + 2 * own.layout.cores) (comps_at own live range table pages f target)
comp_at own later live (Some range) (Some table) (Some pages) f (Some target) h small root_fits pages_fit fits =
    comps own later live range table pages f target h small root_fits pages_fit fits
comp_at own later live _ _ _ f _ h small root_fits pages_fit fits = (omega arith, tt)

made_fits : (s : Shape) (what : Make) (r f t b : ℕ) (found : List Capability) (cores : ℕ) → MakeInLimits what
    → ObjectNamed s.frames (make_call what r f t b) found
    → IfSome (object_made what found) (λ o. ObjectFits s o × (making_steps o cores ≤ make_steps what cores))
made_fits s Make.Table r f t b found cores limits named = (record { pair = tt; names = tt }, omega arith)
made_fits s Make.Leaf r f t b found cores limits named = (record { pair = tt; names = tt }, omega arith)
made_fits s Make.Pages r f t b found cores limits named = (record { pair = tt; names = tt }, omega arith)
made_fits s Make.Pleaf r f t b found cores limits named = (record { pair = tt; names = tt }, omega arith)
made_fits s (Make.Thread comp) r f t b found cores limits named = by (at_place found Third) named
  where
    by : (o : Option Capability) → IfSome o (λ k. k.frame < s.frames)
        → IfSome (thread_on o) (λ o. ObjectFits s o × (making_steps o cores ≤ make_steps (Make.Thread comp) cores))
    by None below = tt
    by (Some k) below = (record { pair = tt; names = below }, omega arith)
made_fits s (Make.Tcap sched quality) r f t b found cores limits named = (record { pair = limits; names = tt }, omega arith)
made_fits s (Make.Comp table pages live) r f t b found cores limits named = tt

-- the act of a make
begun_made : (own : Own) (later : ℕ) (what : Make) (r f t b : ℕ) (found : List Capability) (target : Option Found) → IsOwn own
    → ObjectNamed own.layout.frames (make_call what r f t b) found → MakeInLimits what → IfSome target (PlaceFits own.layout)
    → StepFits own.layout [] later (make_steps what own.layout.cores) (made_begun own what found f target)
begun_made own later (Make.Comp table pages live) r f t b found target h named limits fits =
    comp_at own later live (at_place found First) (at_place found Third) (at_place found Fourth) f target h limits named.0 named.1 fits
begun_made own later what r f t b found target h named limits fits =
    made_at own later (make_steps what own.layout.cores) (object_made what found) (at_place found First) f target h fits
    (made_fits own.layout what r f t b found own.layout.cores limits named)

-- the act that kills a component
kills : (s : Shape) (later most core : ℕ) (kind : Kind) (f arg : ℕ) → core < s.cores
    → CapNames s.frames (cap_of kind f arg) → 8 ≤ most → StepFits s [] later most (kills_in core kind f)
kills s later most core Kind.Comp f arg here names some = (record { comp = omega arith; core = here; at = tt }, omega arith, refl)
kills s later most core _ f arg here names some = (omega arith, tt)

killed : (own : Own) (later most : ℕ) (k : Option Capability) → IsOwn own → IfSome k (CapNames own.layout.frames) → 8 ≤ most
    → StepFits own.layout [] later most (kills_at own k)
killed own later most None h names some = (omega arith, tt)
killed own later most (Some k) h names some = kills own.layout later most own.core k.kind k.frame k.arg h.core names some

-- the acts that enter a component and leave it
invokes : (own : Own) (later most : ℕ) (kind : Kind) (f arg : ℕ) → IsOwn own
    → CapNames own.layout.frames (cap_of kind f arg) → 9 ≤ most
    → StepFits own.layout [] later most (invokes_in own kind f arg)
invokes own later most Kind.Gate f arg h names some = by (nat_le 16 own.depth) refl
  where
    by : (deep : Bool) → nat_le 16 own.depth ≡ deep → StepFits own.layout [] later most (invokes_if deep own f arg)
    by true is = (omega arith, tt)
    by false is = (
      record {
        comp = omega arith;
        thread = h.thread;
        core = h.core;
        some_depth = h.some_depth;
        most_depth = (let less = leb-false 16 own.depth is in omega arith);
        frames = refl;
        few = h.shape.most_frames;
        at = tt;
      },
      omega arith,
      refl,
    )
invokes own later most _ f arg h names some = (omega arith, tt)

invoked : (own : Own) (later most : ℕ) (k : Option Capability) → IsOwn own → IfSome k (CapNames own.layout.frames) → 9 ≤ most
    → StepFits own.layout [] later most (invokes_at own k)
invoked own later most None h names some = (omega arith, tt)
invoked own later most (Some k) h names some = invokes own later most k.kind k.frame k.arg h names some

returned : (own : Own) (later most : ℕ) → IsOwn own → 9 ≤ most → StepFits own.layout [] later most (returns_at own)
returned own later most h some = by (nat_le own.depth 1) refl
  where
    by : (bottom : Bool) → nat_le own.depth 1 ≡ bottom → StepFits own.layout [] later most (returns_if bottom own)
    by true is = (omega arith, tt)
    by false is = (
      record {
        top = h.comp;
        thread = h.thread;
        core = h.core;
        some_depth = (let more = leb-false own.depth 1 is in omega arith);
        most_depth = h.most_depth;
        frames = refl;
        few = h.shape.most_frames;
        at = tt;
      },
      omega arith,
      refl,
    )

-- the act that goes on as another thread
switched : (own : Own) (later : ℕ) (h q : Option Capability) → IsOwn own → IfSome h (λ k. k.frame < own.layout.frames)
    → IfSome q (λ k. k.frame < own.layout.frames) → StepFits own.layout [] later 21 (switches_at own h q)
switched own later None q fits thread tcap = (omega arith, tt)
switched own later (Some h) None fits thread tcap = (omega arith, tt)
switched own later (Some h) (Some q) fits thread tcap = (
  record {
    core = fits.core;
    frames = refl;
    few = fits.shape.most_frames;
    tcap = tcap;
    old = fits.thread;
    old_depth = (fits.some_depth, fits.most_depth);
    old_tcap = fits.tcap;
    at = thread;
  },
  omega arith,
  refl,
)

-- a gate leads to a frame of the machine
gate_names : (frames : ℕ) (comp : Option Capability) (read : Option ℕ) → IfSome comp (λ k. k.frame < frames)
    → IfSome (gate_to comp read) (CapNames frames)
gate_names frames (Some k) (Some epoch) below = by (nat_le 1 epoch)
  where
    by : (some : Bool) → IfSome (gate_if some k.frame epoch) (CapNames frames)
    by true = omega (arith, below)
    by false = tt
gate_names frames _ _ below = tt

link_names : (frames : ℕ) (leaf : Option Capability) → IfSome leaf (λ k. k.frame < frames) → IfSome (link_to leaf) (CapNames frames)
link_names frames None below = tt
link_names frames (Some leaf) below = omega (arith, below)

-- the act on two temporal capabilities
shares : (s : Shape) (later most core : ℕ) (what : PairWork) (f g : ℕ) (same : Bool) → f < s.frames → g < s.frames
    → share_left what LoadA ≤ most → StepFits s [] later most (shares_if same core what f g)
shares s later most core what f g true first second some = (omega arith, tt)
shares s later most core what f g false first second some = (
  record { a = first; b = second; head_a = omega arith; head_b = omega arith; at = tt },
  some,
  refl,
)

shared : (s : Shape) (later most core : ℕ) (what : PairWork) (found : List Capability) → TwoNamed s.frames found
    → share_left what LoadA ≤ most → StepFits s [] later most (shares_at core what (at_place found First) (at_place found Second))
shared s later most core what found named some = by (at_place found First) (at_place found Second) named.0 named.1
  where
    by : (a b : Option Capability) → IfSome a (λ k. k.frame < s.frames) → IfSome b (λ k. k.frame < s.frames)
        → StepFits s [] later most (shares_at core what a b)
    by (Some a) (Some b) first second = shares s later most core what a.frame b.frame (a.frame == b.frame) first second some
    by _ _ first second = (omega arith, tt)

refilled : (own : Own) (later most m : ℕ) (o : Option Capability) → IfSome o (λ k. k.frame < own.layout.frames)
    → 10 ≤ most → StepFits own.layout [] later most (refills_at own m o)
refilled own later most m None named some = (omega arith, tt)
refilled own later most m (Some k) named some = (record { tcap = named; head = omega arith; at = tt }, omega (arith, some), refl)

kept_names : (frames these : ℕ) (o : Option Capability) → IfSome o (CapNames frames) → IfSome (kept_of these o) (CapNames frames)
kept_names frames these None names = tt
kept_names frames these (Some k) names = names

pub act_fits : (own : Own) (later : ℕ) (call : Call) (found : List Capability) (read : Option ℕ) (target : Option Found) → IsOwn own
    → IfSome (at_place found First) (CapNames own.layout.frames) → ObjectNamed own.layout.frames call found → InLimits call
    → IfSome target (PlaceFits own.layout)
    → StepFits own.layout [] later (after_reading call own.layout.cores) (act_begun own call found read target)
act_fits own later (look_call a) found read target h names objects limits fits = look_done own.layout later 0 _
act_fits own later (Copy a t b rights) found read target h names objects limits fits =
    filled own later (3 + own.layout.cores) (kept_of rights.0 (at_place found First)) false target h
    (kept_names own.layout.frames rights.0 (at_place found First) names) fits (omega arith)
act_fits own later (Grow t i l) found read target h names objects limits fits =
    filled own later (3 + 2 * own.layout.cores) (link_to (at_place found Second)) (is_pages (at_place found First)) target h
    (link_names own.layout.frames (at_place found Second) objects) fits (grow_words (is_pages (at_place found First)) own.layout.cores)
act_fits own later (Map p v r f w) found read target h names objects limits fits =
    maps own later (at_place found Second) f w target h fits
act_fits own later (Remove t b) found read target h names objects limits fits =
    removed own.layout later 6 own.core target h.core fits (omega arith)
act_fits own later (Shrink t i) found read target h names objects limits fits =
    removed own.layout later 6 own.core target h.core fits (omega arith)
act_fits own later (Unmap p v) found read target h names objects limits fits =
    removed own.layout later 6 own.core target h.core fits (omega arith)
act_fits own later (Retype r f k) found read target h names objects limits fits =
    types own later (at_place found First) f k h.core
act_fits own later (make_call what range frame table slot) found read target h names objects limits fits =
    begun_made own later what range frame table slot found target h objects limits fits
act_fits own later Flush found read target h names objects limits fits = (h.core, omega arith, refl)
act_fits own later (Tick n) found read target h names objects limits fits = (h.tcap, omega arith, refl)
act_fits own later (Gate c t b) found read target h names objects limits fits =
    filled own later (3 + own.layout.cores) _ false target h
    (gate_names own.layout.frames (at_place found First) read objects) fits (omega arith)
act_fits own later (Kill k) found read target h names objects limits fits = killed own later 8 (at_place found First) h names (omega arith)
act_fits own later (call_gate g) found read target h names objects limits fits =
    invoked own later 9 (at_place found First) h names (omega arith)
act_fits own later Ret found read target h names objects limits fits = returned own later 9 h (omega arith)
act_fits own later (Switch t q) found read target h names objects limits fits =
    switched own later (at_place found First) (at_place found Second) h objects.0 objects.1
act_fits own later (Transfer a b m) found read target h names objects limits fits =
    shared own.layout later 21 own.core (PairWork.Transfer m) found objects (omega arith)
act_fits own later (Delegate a b m) found read target h names objects limits fits =
    shared own.layout later 30 own.core (PairWork.Delegate m) found objects (omega arith)
act_fits own later (Test a b) found read target h names objects limits fits =
    shared own.layout later 21 own.core PairWork.Test found objects (omega arith)
act_fits own later (Replenish a m) found read target h names objects limits fits =
    refilled own later 10 m (at_place found First) objects (omega arith)
act_fits own later (Part r f n t b) found read target h names objects limits fits =
    parts own later (at_place found First) f n target h objects fits
act_fits own later call found read target h names objects limits fits = (omega arith, tt)

-- the root of a target is a frame of the machine, where its name is found
abbrev pub RootBelow : ℕ → List Capability → Target → Type 0
RootBelow frames ks Nowhere = Unit {0}
RootBelow frames ks (Free spot) = (earlier (with_found [] ks) (root_of spot)).frame < frames
RootBelow frames ks (Held spot) = (earlier (with_found [] ks) (root_of spot)).frame < frames
RootBelow frames ks (own_page v) = Unit {0}

pub spot_below : (frames : ℕ) (plan : Plan) (ks : List Capability) (spot : Spot) (o : Option Name)
    → at_place plan.names (root_of spot) ≡ o → IsSomeAnd o (λ name. WantsRoot name.wanted)
    → FoundFits frames plan ks → names_after plan.names ks ≡ [] → (earlier (with_found [] ks) (root_of spot)).frame < frames
spot_below frames plan ks spot None is rooted fits none = absurd rooted
spot_below frames plan ks spot (Some name) is rooted fits none =
    let led : Led (IsWanted frames) name (at_place ks (root_of spot)) = nth_led (IsWanted frames) plan.names ks (root_of spot) name fits
    none is in
    subst (λ (f : ℕ). f < frames) (sym (ap (λ (x : Named). x.frame) (earlier_is ks (root_of spot) led.k led.is)))
    (root_below frames led.k.kind led.k.frame led.k.arg (rooted led.caps led.k.kind led.leads.0) led.leads.1)

pub target_below : (frames : ℕ) (plan : Plan) (ks : List Capability) (target : Target) → IsRooted plan.names target
    → FoundFits frames plan ks → names_after plan.names ks ≡ []
    → RootBelow frames ks target
target_below frames plan ks Nowhere root fits none = tt
target_below frames plan ks (Free spot) root fits none = spot_below frames plan ks spot _ refl root fits none
target_below frames plan ks (Held spot) root fits none = spot_below frames plan ks spot _ refl root fits none
target_below frames plan ks (own_page v) root fits none = tt

-- what comes next of a call, where these of its names are left
pub at_fits : (s : Shape) (ks : List Capability) (spot : Spot) (later acts : ℕ) → later ≤ acts
    → (earlier (with_found [] ks) (root_of spot)).frame < s.frames
    → StepFits s [] later (look_steps [] (Free spot) + acts) (looks_at (place_of_spot (with_found [] ks) spot))
at_fits s ks (Under i n) later acts most below = looks_fits s _ _ n later _ refl below (omega arith)
at_fits s ks (InRoot i e) later acts most below = entry_fits s _ _ e later _ refl below (omega arith)

-- the act takes no more steps than with what the call reads before, which is one
after_most : (call : Call) (n : ℕ) → after_reading call n ≤ act_steps call n
after_most (Gate c t b) n = omega arith
after_most call n = omega arith

after_one : (call : Call) (found : List Capability) (f n : ℕ) → reads_of call found ≡ Some f → 1 + after_reading call n ≤ act_steps call n
after_one (Gate c t b) found f n is = omega arith
after_one call found f n is = absurd (cc)

-- the component whose word is read is in a frame of the machine
reads_below : (frames : ℕ) (call : Call) (found : List Capability) (f : ℕ) → reads_of call found ≡ Some f → ObjectNamed frames call found
    → f < frames
reads_below frames (Gate c t b) ks f is below = by (at_place ks First) is below
  where
    frame_is : (g : ℕ) → Some g ≡ Some f → g ≡ f
    frame_is g h = cc

    by : (o : Option Capability) → frame_named o ≡ Some f → IfSome o (λ k. k.frame < frames) → f < frames
    by None is below = absurd (cc)
    by (Some k) is below = subst (λ (g : ℕ). g < frames) (frame_is k.frame is) below
reads_below frames call ks f is below = absurd (cc)

-- where more steps may be left, the same step fits
more_steps : (s : Shape) (later most more : ℕ) (step : WorkStep) → most ≤ more → StepFits s [] later most step
    → StepFits s [] later more step
more_steps s later most more (Goes work) few fits = (fits.0, (let left = fits.1 in omega (arith, left, few)), fits.2)
more_steps s later most more (Acquires count work) few fits = fits
more_steps s later most more (Changes r change drawn tail) few fits = ((let left = fits.0 in omega (arith, left, few)), fits.1, fits.2)
more_steps s later most more _ few fits = ((let left = fits.0 in omega (arith, left, few)), fits.1)

-- a step that begins a look-up, or refuses
abbrev IsLook : WorkStep → Type 0
IsLook (Goes (Lookup look)) = Unit {0}
IsLook (Goes work) = ⊥
IsLook (Acquires count work) = ⊥
IsLook (Refuses r tail) = Unit {0}
IsLook (Answers v drawn tail) = ⊥
IsLook (Changes r change drawn tail) = ⊥

under_looks : (within : Bool) (top n : ℕ) → IsLook (looks_under within top n)
under_looks true top n = tt
under_looks false top n = tt

entry_looks : (within : Bool) (top i : ℕ) → IsLook (looks_entry within top i)
entry_looks true top i = tt
entry_looks false top i = tt

at_looks : (target : place) → IsLook (looks_at target)
at_looks (place_under table n) = under_looks _ table.frame n
at_looks (place_in table i) = entry_looks _ table.frame i

-- a look-up that comes after the load of a component's word
read_fits : (s : Shape) (later most f : ℕ) (step : WorkStep) → f < s.frames → IsLook step → StepFits s [] later most step
    → StepFits s [] later (1 + most) (read_first (Some f) step)
read_fits s later most f (Goes (Lookup look)) below is fits = ((below, fits.0), (let left = fits.1 in omega (arith, left)), refl)
read_fits s later most f (Refuses r tail) below is fits = ((let left = fits.0 in omega (arith, left)), fits.1)
read_fits s later most f step below is fits = absurd is

pub next_case : (own : Own) (call : Call) (found : List Capability) (names : List Name) (target : Target) → IsOwn own
    → IfSome (at_place found First) (CapNames own.layout.frames) → ObjectNamed own.layout.frames call found → InLimits call
    → (names ≡ [] → RootBelow own.layout.frames found target)
    → StepFits own.layout [] (looks_later names target + acts_later names call own.layout.cores)
    (look_steps names target + act_steps call own.layout.cores)
    (next_step own call found (next_in (with_found [] found) names target))
next_case own call found (name ∷ names) target h first objects limits roots =
    looks_fits own.layout _ own.table name.number _ _ refl h.table (omega arith)
next_case own call found [] Nowhere h first objects limits roots =
    more_steps own.layout _ (after_reading call own.layout.cores) _ (act_begun own call found None None)
    (let most = after_most call own.layout.cores in omega (arith, most))
    (act_fits own (0 + after_reading call own.layout.cores) call found None None h first objects limits tt)
next_case own call found [] (Free spot) h first objects limits roots = by (reads_of call found) refl
  where
    by : (o : Option ℕ) → reads_of call found ≡ o
        → StepFits own.layout [] (0 + after_reading call own.layout.cores) (look_steps [] (Free spot) + act_steps call own.layout.cores)
        (read_first o (looks_at (place_of_spot (with_found [] found) spot)))
    by None is =
        let most = after_most call own.layout.cores in
        at_fits own.layout found spot _ (act_steps call own.layout.cores) (omega (arith, most)) (roots refl)
    by (Some f) is =
        let one = after_one call found f own.layout.cores is in
        more_steps own.layout _ (1 + (look_steps [] (Free spot) + after_reading call own.layout.cores)) _
        (read_first (Some f) (looks_at (place_of_spot (with_found [] found) spot))) (omega (arith, one))
        (read_fits own.layout _ (look_steps [] (Free spot) + after_reading call own.layout.cores) f _
        (reads_below own.layout.frames call found f is objects) (at_looks (place_of_spot (with_found [] found) spot))
        (at_fits own.layout found spot _ (after_reading call own.layout.cores) (omega arith) (roots refl)))
next_case own call found [] (Held spot) h first objects limits roots =
    let most = after_most call own.layout.cores in
    at_fits own.layout found spot _ (act_steps call own.layout.cores) (omega (arith, most)) (roots refl)
next_case own call found [] (own_page v) h first objects limits roots =
    touched_fit own _ _ v (nat_le v 4095) refl h (omega arith)
