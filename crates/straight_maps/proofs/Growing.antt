-- What comes next of a growing and of a shrinking, and what the words make of a core whose call fills a place after a scan.
use Rattle.std.proofs.Common.{◌≡◌, ◌≤◌, ℕ, ◌+◌, Bool, nat_le, true, List, [], ◌∷◌, Option, Some, None, refl, sym}
use Rattle.std.proofs.lemmas.Bool.{le-leb}
use Rattle.spk_nums.specs.Capability.{Capability, cap_of}
use Rattle.spk_nums.specs.declared.calls.Call.{Call}
use Rattle.spk_nums.specs.declared.calls.Call.TheVariants.{Grow, Shrink}
use Rattle.spk_nums.specs.declared.kinds.Kind.TheVariants.{Link}
use Rattle.spk_nums.specs.declared.steps.StageEnd.TheVariants.{Done}
use Rattle.straight_looks.specs.step_starts.specs as low
use low.kernel_rules.specs.Access.{InRoot, found}
use low.call_plans.specs.Plans.{pushed}
use low.act_states.specs.Acts.{filling, is_pages, scans, stamp_in}
use low.act_states.specs.declared.own.Own.{Own}
use low.entry_words.specs.declared.entry.Entry.TheVariants.{Held}
use low.stage_look.specs.Shown.{shown_in}
use low.stage_look.specs.Lookup.{look_end}
use low.stage_look.specs.declared.look.Look.{Look}
use low.stage_look.specs.declared.look.Look.TheVariants.{AtRoot, AtEntry}
use low.stage_look.specs.declared.look.Found.{Found}
use low.stage_quiet.specs.Scan.{quiet_scan}
use low.stage_quiet.specs.declared.quiet.Quiet.{Quiet}
use low.call_stages.specs.View.{Core}
use low.call_stages.specs.Cores.{core_after}
use low.call_stages.specs.Steps.{landed}
use low.call_stages.specs.declared.stages.Stage.TheVariants.{Enter}
use Rattle.straight_looks.specs.Standing.{Holds, going, looks, onward}
use Rattle.straight_acts.specs.Acting.{Removes}
use Rattle.straight_maps.specs.Mapping.{FillsWith, placed, starting}

-- after the question whether the core's component lives, and after each name
grow_asked : (own : Own) (t i l : ℕ) → nat_le t 4095 ≡ true
    → onward own (Grow t i l) 2 [] ≡ looks own (Grow t i l) 3 (AtRoot own.table t) []
unfolding onward
grow_asked own t i l small = rw small refl

grow_named : (own : Own) (t i l : ℕ) (k : Capability) → nat_le l 4095 ≡ true
    → onward own (Grow t i l) 4 (k ∷ []) ≡ looks own (Grow t i l) 5 (AtRoot own.table l) (k ∷ [])
unfolding onward
grow_named own t i l k small = rw small refl

grow_placed : (own : Own) (t i l : ℕ) (k j : Capability) → nat_le i 63 ≡ true
    → onward own (Grow t i l) 6 (k ∷ j ∷ []) ≡ looks own (Grow t i l) 7 (AtEntry k.frame i) (k ∷ j ∷ [])
unfolding onward
grow_placed own t i l k j small = rw small refl

grows : (own : Own) (t i l : ℕ) (k j : Capability)
    → FillsWith own (Grow t i l) (k ∷ j ∷ []) (cap_of Link j.frame 0) (is_pages (Some k))
grows own t i l k j = record { free = record { target = InRoot (found k) i; next = refl }; begins = λ f. refl }

shrink_asked : (own : Own) (t i : ℕ) → nat_le t 4095 ≡ true
    → onward own (Shrink t i) 2 [] ≡ looks own (Shrink t i) 3 (AtRoot own.table t) []
unfolding onward
shrink_asked own t i small = rw small refl

shrink_placed : (own : Own) (t i : ℕ) (k : Capability) → nat_le i 63 ≡ true
    → onward own (Shrink t i) 4 (k ∷ []) ≡ looks own (Shrink t i) 5 (AtEntry k.frame i) (k ∷ [])
unfolding onward
shrink_placed own t i k small = rw small refl

shrinks : (own : Own) (t i : ℕ) (k : Capability) → Removes own (Shrink t i) (k ∷ [])
shrinks own t i k = record { target = InRoot (found k) i; next = refl; begins = λ f. refl }

-- the same where no name has led to any yet, where one has led to one, and where two have led to these
pub grow_none : (own : Own) (call : Call) (t i l : ℕ) (ks : List Capability) (c : Core)
    → call ≡ Grow t i l → t ≤ 4095 → ks ≡ [] → c ≡ onward own call 2 [] → c ≡ looks own call 3 (AtRoot own.table t) ks
grow_none own call t i l ks c is small none on = rw (on, none, is) (grow_asked own t i l (le-leb t 4095 small))

pub grow_first : (own : Own) (call : Call) (t i l : ℕ) (ks js : List Capability) (k : Capability) (c : Core)
    → call ≡ Grow t i l → l ≤ 4095 → ks ≡ [] → js ≡ pushed ks k → c ≡ onward own call 4 (pushed ks k)
    → c ≡ looks own call 5 (AtRoot own.table l) js
grow_first own call t i l ks js k c is small none first on =
    rw (on, first, none, is) (grow_named own t i l k (le-leb l 4095 small))

pub grow_second : (own : Own) (call : Call) (t i l frame : ℕ) (ks js is : List Capability) (k j : Capability) (look : Look) (c : Core)
    → call ≡ Grow t i l → i ≤ 63 → ks ≡ [] → js ≡ pushed ks k → is ≡ pushed js j → frame ≡ k.frame → look ≡ AtEntry frame i
    → c ≡ onward own call 6 (pushed js j)
    → c ≡ looks own call 7 look is
grow_second own call t i l frame ks js is k j look c named small none first second root at on =
    rw (on, at, root, second, first, none, named) (grow_placed own t i l k j (le-leb i 63 small))

pub grow_fills : (own : Own) (call : Call) (t i l frame : ℕ) (ks js is : List Capability) (k j put : Capability) (page : Bool)
    → call ≡ Grow t i l → ks ≡ [] → js ≡ pushed ks k → is ≡ pushed js j → frame ≡ j.frame → put ≡ cap_of Link frame 0
    → page ≡ is_pages (Some k)
    → FillsWith own call is put page
grow_fills own call t i l frame ks js is k j put page named none first second leaf puts pages =
    rw (pages, puts, leaf, second, first, none, named) (grows own t i l k j)

pub shrink_none : (own : Own) (call : Call) (t i : ℕ) (ks : List Capability) (c : Core)
    → call ≡ Shrink t i → t ≤ 4095 → ks ≡ [] → c ≡ onward own call 2 [] → c ≡ looks own call 3 (AtRoot own.table t) ks
shrink_none own call t i ks c is small none on = rw (on, none, is) (shrink_asked own t i (le-leb t 4095 small))

pub shrink_first : (own : Own) (call : Call) (t i frame : ℕ) (ks js : List Capability) (k : Capability) (look : Look) (c : Core)
    → call ≡ Shrink t i → i ≤ 63 → ks ≡ [] → js ≡ pushed ks k → frame ≡ k.frame → look ≡ AtEntry frame i
    → c ≡ onward own call 4 (pushed ks k)
    → c ≡ looks own call 5 look js
shrink_first own call t i frame ks js k look c named small none first root at on =
    rw (on, at, root, first, none, named) (shrink_placed own t i k (le-leb i 63 small))

pub shrink_removes : (own : Own) (call : Call) (t i : ℕ) (ks js : List Capability) (k : Capability)
    → call ≡ Shrink t i → ks ≡ [] → js ≡ pushed ks k → Removes own call js
shrink_removes own call t i ks js k named none first = rw (first, none, named) (shrinks own t i k)

-- the place was found: it is filled, after the scan that it waits for
pub fill_begins : (own : Own) (call : Call) (steps : ℕ) (ks : List Capability) (k : Capability) (page : Bool) (f : Found) (c : Core)
    → FillsWith own call ks k page → c ≡ placed own call steps ks f
    → c ≡ starting own call (steps + 1) (quiet_scan (stamp_in f.value) own.core own.layout.cores page) (filling k f) ks
unfolding placed
fill_begins own call steps ks k page f c fills on =
    rw (on, fills.begins f) (by (quiet_scan (stamp_in f.value) own.core own.layout.cores page))
  where
    by : (q : Option Quiet)
        → core_after own (landed (going call steps Enter ks []) (scans own.core q (filling k f)))
        ≡ starting own call (steps + 1) q (filling k f) ks
    by None = refl
    by (Some q) = refl

-- what a place that was found holds
pub holds : (own : Own) (look : Look) (w : ℕ) (place : Found) (k : Capability)
    → Done place ≡ look_end look w (shown_in own.layout.frames w) → place.value ≡ Held k → Holds own look w place k
holds own look w place k is held = record { found = sym is; held = held }
