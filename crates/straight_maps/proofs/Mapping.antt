-- What comes next of a mapping, and what the words make of a core whose call maps a page.
use Rattle.std.proofs.Common.{◌≡◌, ◌≤◌, ◌<◌, ◌&&◌, ℕ, ◌+◌, pos, nat_le, nat_lt, true, List, [], ◌∷◌, Option, Some, None, refl}
use Rattle.std.proofs.lemmas.Bool.{le-leb, lt-ltb}
use Rattle.spk_nums.specs.Capability.{Capability}
use Rattle.spk_nums.specs.declared.calls.Call.{Call}
use Rattle.spk_nums.specs.declared.calls.Call.TheVariants.{Map}
use Rattle.spk_nums.specs.declared.kinds.FrameKind.TheVariants.{User}
use Rattle.spk_nums.specs.declared.kinds.Kind.TheVariants.{Page}
use Rattle.spk_nums.specs.declared.kinds.PageFlags.{PageFlags}
use Rattle.straight_looks.specs.step_starts.specs as low
use low.kernel_rules.specs.Access.{Under, found}
use low.kernel_rules.specs.CapabilityCalls.{has_frame}
use low.call_plans.specs.Plans.{pushed}
use low.act_states.specs.Acts.{next_work, page_cap, scans, stamp_in}
use low.act_states.specs.declared.own.Own.{Own}
use low.act_states.specs.declared.fills.Fill.{Fill}
use low.act_states.specs.declared.work.Act.{Act as ActType}
use low.act_states.specs.declared.work.Act.TheVariants as act
use low.act_states.specs.declared.work.Work.TheVariants.{Act}
use low.frame_words.specs.Frame.{frame_of_word}
use low.frame_words.specs.declared.frame_word.FrameWord.{FrameWord}
use low.stage_look.specs.declared.look.Look.{Look}
use low.stage_look.specs.declared.look.Look.TheVariants.{AtRoot}
use low.stage_look.specs.declared.look.Found.{Found}
use low.stage_pins.specs.declared.held.Acquired.{Acquired}
use low.stage_pins.specs.declared.pin.Pin.TheVariants.{AtLoad}
use low.stage_quiet.specs.Scan.{quiet_scan}
use low.stage_quiet.specs.declared.quiet.Quiet.{Quiet}
use low.call_stages.specs.View.{Core}
use low.call_stages.specs.Cores.{absorbed, core_after}
use low.call_stages.specs.Fits.{IsCore}
use low.call_stages.specs.Steps.{landed}
use low.call_stages.specs.declared.stages.Stage.TheVariants.{Enter, Undecided}
use Rattle.straight_looks.proofs.Fitting.{fits_as}
use Rattle.straight_looks.specs.Standing.{going, looks, onward, stands}
use Rattle.straight_acts.specs.Acting.{counts, pins}
use Rattle.straight_maps.specs.Mapping.{IsUserWord, Maps, mapping, placed, starting}

-- after the question whether the core's component lives, and after each name
map_asked : (own : Own) (p v r f : ℕ) (w : PageFlags) → nat_le p 4095 ≡ true
    → onward own (Map p v r f w) 2 [] ≡ looks own (Map p v r f w) 3 (AtRoot own.table p) []
unfolding onward
map_asked own p v r f w small = rw small refl

map_named : (own : Own) (p v r f : ℕ) (w : PageFlags) (k : Capability) → nat_le r 4095 ≡ true
    → onward own (Map p v r f w) 4 (k ∷ []) ≡ looks own (Map p v r f w) 5 (AtRoot own.table r) (k ∷ [])
unfolding onward
map_named own p v r f w k small = rw small refl

map_placed : (own : Own) (p v r f : ℕ) (w : PageFlags) (k j : Capability) → nat_le v 4095 ≡ true
    → onward own (Map p v r f w) 6 (k ∷ j ∷ []) ≡ looks own (Map p v r f w) 7 (AtRoot k.frame v) (k ∷ j ∷ [])
unfolding onward
map_placed own p v r f w k j small = rw small refl

maps : (own : Own) (p v r f : ℕ) (w : PageFlags) (k j : Capability) → nat_lt w.0 4 ≡ true
    → (has_frame (found j) f && nat_lt f own.layout.frames) ≡ true → Maps own (Map p v r f w) (k ∷ j ∷ []) (page_cap f w)
maps own p v r f w k j flags within = record {
  free = record { target = Under (found k) v; next = refl };
  page = refl;
  begins = λ at. rw (flags, within) refl;
}

-- the same where no name has led to any yet, where one has led to one, and where two have led to these
pub map_none : (own : Own) (call : Call) (p v r f : ℕ) (w : PageFlags) (ks : List Capability) (c : Core)
    → call ≡ Map p v r f w → p ≤ 4095 → ks ≡ [] → c ≡ onward own call 2 [] → c ≡ looks own call 3 (AtRoot own.table p) ks
map_none own call p v r f w ks c is small none on = rw (on, none, is) (map_asked own p v r f w (le-leb p 4095 small))

pub map_first : (own : Own) (call : Call) (p v r f : ℕ) (w : PageFlags) (ks js : List Capability) (k : Capability) (c : Core)
    → call ≡ Map p v r f w → r ≤ 4095 → ks ≡ [] → js ≡ pushed ks k → c ≡ onward own call 4 (pushed ks k)
    → c ≡ looks own call 5 (AtRoot own.table r) js
map_first own call p v r f w ks js k c is small none first on =
    rw (on, first, none, is) (map_named own p v r f w k (le-leb r 4095 small))

pub map_second : (own : Own) (call : Call) (p v r f frame number : ℕ) (w : PageFlags) (ks js is : List Capability) (k j : Capability)
    (look : Look) (c : Core)
    → call ≡ Map p v r f w → v ≤ 4095 → ks ≡ [] → js ≡ pushed ks k → is ≡ pushed js j → frame ≡ k.frame → number ≡ v
    → look ≡ AtRoot frame number → c ≡ onward own call 6 (pushed js j)
    → c ≡ looks own call 7 look is
map_second own call p v r f frame number w ks js is k j look c named small none first second root page at on =
    rw (on, at, root, page, second, first, none, named) (map_placed own p v r f w k j (le-leb v 4095 small))

pub map_maps : (own : Own) (call : Call) (p v r f : ℕ) (w : PageFlags) (ks js is : List Capability) (k j put : Capability)
    → call ≡ Map p v r f w → w.0 < 4 → ks ≡ [] → js ≡ pushed ks k → is ≡ pushed js j
    → (has_frame (found j) f && nat_lt f own.layout.frames) ≡ true → put ≡ page_cap f w
    → Maps own call is put
map_maps own call p v r f w ks js is k j put named flags none first second within puts =
    rw (puts, second, first, none, named) (maps own p v r f w k j (lt-ltb w.0 4 flags) within)

-- the place was found: the act starts, after the scan that it waits for
pub map_begins : (own : Own) (call : Call) (steps : ℕ) (ks : List Capability) (k : Capability) (f : Found) (c : Core) → Maps own call ks k
    → c ≡ placed own call steps ks f
    → c ≡ starting own call (steps + 1) (quiet_scan (stamp_in f.value) own.core own.layout.cores true) (mapping k f) ks
unfolding placed
map_begins own call steps ks k f c maps on = rw (on, maps.begins f) (by (quiet_scan (stamp_in f.value) own.core own.layout.cores true))
  where
    by : (q : Option Quiet)
        → core_after own (landed (going call steps Enter ks []) (scans own.core q (mapping k f)))
        ≡ starting own call (steps + 1) q (mapping k f) ks
    by None = refl
    by (Some q) = refl

-- it has one count, that of the frame
pub map_due : (own : Own) (call : Call) (steps frame : ℕ) (fill : Fill) (a : ActType) (ks : List Capability) (c : Core)
    → c ≡ stands own call steps (Undecided (next_work own.core 0 (act.Map fill))) ks → fill.cap.kind ≡ Page → a ≡ act.Map fill
    → frame ≡ fill.cap.frame
    → c ≡ pins own call steps (AtLoad frame own.core) (pos 1) a ks
map_due own call steps frame fill a ks c on kind is named = rw (on, is, named, kind) refl

pub map_held : (own : Own) (call : Call) (steps : ℕ) (fill : Fill) (a : ActType) (ks : List Capability) (x : Acquired) (c : Core)
    → c ≡ counts own call steps (Undecided (next_work own.core 1 a)) ks x → fill.cap.kind ≡ Page → a ≡ act.Map fill
    → c ≡ counts own call steps (Undecided (Act (act.Map fill))) ks x
map_held own call steps fill a ks x c on kind is = rw (on, is, kind) refl

-- the load of the frame's word
pub frame_fits : (own : Own) (call : Call) (steps : ℕ) (fill : Fill) (ks : List Capability) (x : Acquired) (c : Core)
    → c ≡ counts own call steps (Undecided (Act (act.Map fill))) ks x → IsCore c → fill.cap.frame < own.layout.frames
frame_fits own call steps fill ks x c is fits =
    (fits_as c (counts own call steps (Undecided (Act (act.Map fill))) ks x) is fits).active.stage.1

pub user_shown : (w : ℕ) (v : FrameWord) → frame_of_word w ≡ Some v → v.kind ≡ User → v.mark ≡ None → IsUserWord w
user_shown w v is user unmarked = record { value = v; shown = is; user = user; unmarked = unmarked }

pub user_loaded : (own : Own) (call : Call) (w steps : ℕ) (fill : Fill) (ks : List Capability) (x : Acquired) (b c : Core)
    → b ≡ counts own call steps (Undecided (Act (act.Map fill))) ks x → c ≡ absorbed b w → IsUserWord w
    → c ≡ counts own call (steps + 1) (Undecided (Act (act.Fill fill))) ks x
user_loaded own call w steps fill ks x b c at goes is = rw (goes, at, is.shown, is.unmarked, is.user) refl
