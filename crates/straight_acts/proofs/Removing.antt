-- What comes next of a removal, and what the words make of a core whose call removes what a place holds.
use Rattle.std.proofs.Common.{◌≡◌, ◌≤◌, ℕ, ◌+◌, ◌==◌, nat_le, true, List, Option, Some, None, refl, ap}
use Rattle.std.proofs.lemmas.Bool.{le-leb}
use Rattle.spk_nums.specs.Capability.{Capability}
use Rattle.spk_nums.specs.declared.calls.Call.{Call}
use Rattle.spk_nums.specs.declared.calls.Call.TheVariants.{Remove, Unmap}
use Rattle.spk_nums.specs.declared.kinds.Kind.TheVariants as kind
use Rattle.spk_nums.specs.declared.replies.Reply.{Reply}
use Rattle.spk_nums.specs.declared.replies.Reply.TheVariants.{Ok}
use Rattle.spk_nums.specs.declared.replies.Value.TheVariants.{Nothing}
use Rattle.straight_looks.specs.step_starts.specs as low
use low.kernel_rules.specs.Access.{Under, found}
use low.act_states.specs.Acts.{act_begun, next_work, removes_at, removes_held, removing}
use low.act_states.specs.Lookups.{met_held}
use low.act_states.specs.declared.work.WorkStep.TheVariants.{Goes}
use low.entry_words.specs.declared.entry.Entry.{Entry}
use low.entry_words.specs.declared.entry.Entry.TheVariants.{Free, Held, Closing, Quiescing}
use low.act_states.specs.declared.own.Own.{Own}
use low.act_states.specs.declared.work.Act.TheVariants as act
use low.act_states.specs.declared.work.Tail.TheVariants as tail
use low.act_states.specs.declared.work.Work.TheVariants.{Act}
use low.stage_look.specs.declared.look.Look.{Look}
use low.stage_look.specs.declared.look.Found.{Found}
use low.stage_pins.specs.declared.held.Acquired.{Acquired}
use low.stage_quiet.specs.Clocks.{drawn_stamp}
use low.stage_quiet.specs.Removal.{CloseFits}
use low.stage_quiet.specs.declared.close.Close.{Close}
use low.stage_quiet.specs.declared.close.Close.TheVariants.{AtDraw, AtStore}
use low.call_stages.specs.View.{Core}
use low.call_stages.specs.Fits.{IsCore}
use low.call_stages.specs.Cores.{absorbed, own_decided}
use low.call_stages.specs.declared.stages.Stage.TheVariants.{Undecided, Decided}
use Rattle.straight_looks.proofs.Fitting.{fits_as}
use Rattle.straight_looks.specs.Standing.{acts, stands, looks, onward, Holds}
use Rattle.straight_acts.specs.Acting.{counts, Removes, RemovesUnder}

removes : (own : Own) (t b : ℕ) → nat_le t 4095 ≡ true → nat_le b 4095 ≡ true → RemovesUnder own (Remove t b) t kind.Table b
unfolding onward
removes own t b small within = record {
  living = refl;
  next = refl;
  asked = rw small refl;
  placed = λ k. rw within refl;
  removes = λ k. record { target = Under (found k) b; next = refl; begins = λ f. refl };
}

pub remove_under : (own : Own) (call : Call) (t b : ℕ) → call ≡ Remove t b → t ≤ 4095 → b ≤ 4095 → RemovesUnder own call t kind.Table b
remove_under own call t b is small within = rw is (removes own t b (le-leb t 4095 small) (le-leb b 4095 within))

unmaps : (own : Own) (p v : ℕ) → nat_le p 4095 ≡ true → nat_le v 4095 ≡ true → RemovesUnder own (Unmap p v) p kind.Pages v
unfolding onward
unmaps own p v small within = record {
  living = refl;
  next = refl;
  asked = rw small refl;
  placed = λ k. rw within refl;
  removes = λ k. record { target = Under (found k) v; next = refl; begins = λ f. refl };
}

pub unmap_under : (own : Own) (call : Call) (p v number : ℕ) → call ≡ Unmap p v → number ≡ v → p ≤ 4095 → v ≤ 4095
    → RemovesUnder own call p kind.Pages number
unmap_under own call p v number is named small within = rw (named, is) (unmaps own p v (le-leb p 4095 small) (le-leb v 4095 within))

-- a place that holds something is one of a target that is to hold something
met : (own : Own) (call : Call) (ks : List Capability) (f : Found) (e : Entry) (k : Capability) → e ≡ Held k
    → met_held own call ks f e ≡ act_begun own call ks None (Some f)
met own call ks f Free k is = absurd (cc)
met own call ks f (Held j) k is = refl
met own call ks f (Closing core) k is = absurd (cc)
met own call ks f (Quiescing stamp) k is = absurd (cc)

-- what it holds is removed
removes_what : (own : Own) (f : Found) (k : Capability) → f.value ≡ Held k
    → removes_at own.core (Some f) ≡ Goes (next_work own.core 0 (removing own.core k f))
removes_what own f k is = by f.value is
  where
    same : (j : Capability) → Held j ≡ Held k → j ≡ k
    same j e = cc

    by : (e : Entry) → e ≡ Held k → removes_held own.core f e ≡ Goes (next_work own.core 0 (removing own.core k f))
    by Free e = absurd (cc)
    by (Held j) e = ap (λ (i : Capability). Goes (next_work own.core 0 (removing own.core i f))) (same j e)
    by (Closing core) e = absurd (cc)
    by (Quiescing stamp) e = absurd (cc)

-- the place of a target whose capability is to be removed was found
pub held : (own : Own) (call : Call) (w steps : ℕ) (look : Look) (place : Found) (ks : List Capability) (k : Capability)
    → Removes own call ks → Holds own look w place k
    → absorbed (looks own call steps look ks) w
    ≡ stands own call (steps + 1) (Undecided (next_work own.core 0 (removing own.core k place))) ks
held own call w steps look place ks k removes is =
    rw (is.found, removes.next, met own call ks place place.value k is.held, removes.begins place, removes_what own place k is.held) refl

-- the compare, with no count and with one
pub closed : (own : Own) (call : Call) (w steps : ℕ) (place : Found) (k : Capability) (ks : List Capability) → (w == place.word) ≡ true
    → absorbed (acts own call steps (removing own.core k place) ks) w
    ≡ acts own call (steps + 1) (act.Remove (AtDraw place.node place.entry) k) ks
closed own call w steps place k ks same = rw same refl

pub closed_counted : (own : Own) (call : Call) (w steps : ℕ) (place : Found) (k : Capability) (ks : List Capability) (x : Acquired)
    → (w == place.word) ≡ true
    → absorbed (counts own call steps (Undecided (Act (removing own.core k place))) ks x) w
    ≡ counts own call (steps + 1) (Undecided (Act (act.Remove (AtDraw place.node place.entry) k))) ks x
closed_counted own call w steps place k ks x same = rw same refl

-- the draw of the stamp, and the store of the entry
pub drawn : (own : Own) (call : Call) (w steps node entry : ℕ) (k : Capability) (ks : List Capability)
    → absorbed (acts own call steps (act.Remove (AtDraw node entry) k) ks) w
    ≡ stands (own_decided own (Ok Nothing)) call (steps + 1)
    (Decided (Ok Nothing) (Some (drawn_stamp w)) (tail.Quiesce (AtStore node entry (drawn_stamp w)))) ks
drawn own call w steps node entry k ks = refl

pub drawn_counted : (own : Own) (call : Call) (w steps node entry : ℕ) (k : Capability) (ks : List Capability) (x : Acquired)
    → absorbed (counts own call steps (Undecided (Act (act.Remove (AtDraw node entry) k))) ks x) w
    ≡ counts (own_decided own (Ok Nothing)) call (steps + 1)
    (Decided (Ok Nothing) (Some (drawn_stamp w)) (tail.Quiesce (AtStore node entry (drawn_stamp w)))) ks x
drawn_counted own call w steps node entry k ks x = refl

pub quiesced : (own : Own) (call : Call) (w steps : ℕ) (stamp : Option ℕ) (close : Close) (ks : List Capability)
    → absorbed (stands own call steps (Decided (Ok Nothing) stamp (tail.Quiesce close)) ks) w
    ≡ stands own call (steps + 1) (Decided (Ok Nothing) stamp tail.Nothing) ks
quiesced own call w steps stamp close ks = refl

pub quiesced_counted : (own : Own) (call : Call) (w steps : ℕ) (stamp : Option ℕ) (close : Close) (ks : List Capability) (x : Acquired)
    → absorbed (counts own call steps (Decided (Ok Nothing) stamp (tail.Quiesce close)) ks x) w
    ≡ counts own call (steps + 1) (Decided (Ok Nothing) stamp tail.Nothing) ks x
quiesced_counted own call w steps stamp close ks x = refl

-- the entry that is stored is of the machine
pub quiesce_fits : (own : Own) (call : Call) (steps : ℕ) (r : Reply) (stamp : Option ℕ) (close : Close) (ks : List Capability) (c : Core)
    → c ≡ stands own call steps (Decided r stamp (tail.Quiesce close)) ks → IsCore c → CloseFits own.layout close
quiesce_fits own call steps r stamp close ks c is fits =
    (fits_as c (stands own call steps (Decided r stamp (tail.Quiesce close)) ks) is fits).active.stage

pub quiesce_counted_fits : (own : Own) (call : Call) (steps : ℕ) (r : Reply) (stamp : Option ℕ) (close : Close) (ks : List Capability)
    (x : Acquired) (c : Core)
    → c ≡ counts own call steps (Decided r stamp (tail.Quiesce close)) ks x → IsCore c → CloseFits own.layout close
quiesce_counted_fits own call steps r stamp close ks x c is fits =
    (fits_as c (counts own call steps (Decided r stamp (tail.Quiesce close)) ks x) is fits).active.stage
