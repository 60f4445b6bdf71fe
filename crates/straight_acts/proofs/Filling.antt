-- What the words make of a core whose call fills a place.
use Rattle.std.proofs.Common.{◌≡◌, ℕ, ◌+◌, ◌%◌, ◌==◌, true, List, Option, Some, None, refl}
use Rattle.spk_nums.specs.Capability.{Capability}
use Rattle.spk_nums.specs.declared.calls.Call.{Call}
use Rattle.spk_nums.specs.declared.replies.Reply.TheVariants.{Ok}
use Rattle.spk_nums.specs.declared.replies.Value.TheVariants.{Nothing}
use Rattle.spk_nums.specs.declared.steps.StageEnd.TheVariants.{Done}
use Rattle.straight_looks.specs.step_starts.specs as low
use low.entry_words.specs.EntryWord.{entry_of_word}
use low.entry_words.specs.declared.entry.Entry.{Entry}
use low.entry_words.specs.declared.entry.Entry.TheVariants.{Free, Held, Closing, Quiescing}
use low.act_states.specs.Acts.{act_begun, filling, next_work}
use low.act_states.specs.Lookups.{met_free}
use low.act_states.specs.declared.own.Own.{Own}
use low.act_states.specs.declared.fills.Fill.{Fill}
use low.act_states.specs.declared.work.Act.TheVariants as act
use low.act_states.specs.declared.work.Tail.TheVariants as tail
use low.act_states.specs.declared.work.Work.TheVariants.{Act}
use low.stage_look.specs.Shown.{entry_within}
use low.stage_look.specs.Lookup.{found_at, place_end}
use low.stage_look.specs.declared.look.Look.{Look}
use low.stage_look.specs.declared.look.Look.TheVariants.{AtLeaf}
use low.stage_look.specs.declared.look.Found.{Found}
use low.stage_pins.specs.declared.held.Acquired.{Acquired}
use low.call_stages.specs.Cores.{absorbed, own_decided}
use low.call_stages.specs.declared.stages.Stage.TheVariants.{Undecided, Decided}
use Rattle.straight_looks.specs.Standing.{acts, stands, looks}
use Rattle.straight_acts.specs.Acting.{counts, Fills, IsFree, IsVacant, IsVacantFor, ShowsVacant}

-- a free place is one of a target that is to be free
met : (own : Own) (call : Call) (ks : List Capability) (f : Found) (e : Entry) → IsFree e
    → met_free own call ks None f e ≡ act_begun own call ks None (Some f)
met own call ks f Free free = refl
met own call ks f (Held k) free = absurd free
met own call ks f (Closing core) free = absurd free
met own call ks f (Quiescing stamp) free = refl

-- a word that shows a place which is free
pub shows_vacant : (own : Own) (w : ℕ) (e : Entry) → entry_of_word w ≡ Some e → IsVacantFor own e → ShowsVacant own w e
shows_vacant own w e is vacant = record { shown = rw is (by e vacant.free); vacant = vacant }
  where
    by : (e : Entry) → IsFree e → entry_within own.layout.frames (Some e) ≡ Some e
    by Free free = refl
    by (Held k) free = absurd free
    by (Closing core) free = absurd free
    by (Quiescing stamp) free = refl

-- the place at a leaf whose word shows that it is free
pub vacant_at : (own : Own) (leaf number word : ℕ) (value : Entry) → ShowsVacant own word value
    → IsVacant own (AtLeaf leaf number) word (found_at leaf (number % 64) word value)
vacant_at own leaf number word value is = record { found = rw is.shown (by value is.vacant.free); vacant = is.vacant }
  where
    by : (e : Entry) → IsFree e → place_end leaf (number % 64) word (Some e) ≡ Done (found_at leaf (number % 64) word e)
    by Free free = refl
    by (Held k) free = absurd free
    by (Closing core) free = absurd free
    by (Quiescing stamp) free = refl

-- the place of a target that is to be filled was found
pub freed : (own : Own) (call : Call) (w steps : ℕ) (look : Look) (place : Found) (ks : List Capability) (k : Capability)
    → Fills own call ks k → IsVacant own look w place
    → absorbed (looks own call steps look ks) w ≡ stands own call (steps + 1) (Undecided (next_work own.core 0 (filling k place))) ks
freed own call w steps look place ks k fills is =
    rw (is.found, fills.next, met own call ks place place.value is.vacant.free, fills.begins place, is.vacant.waits) refl

-- the compare, with no count and with one
pub filled : (own : Own) (call : Call) (w steps : ℕ) (fill : Fill) (ks : List Capability) → (w == fill.word) ≡ true
    → absorbed (acts own call steps (act.Fill fill) ks) w
    ≡ stands (own_decided own (Ok Nothing)) call (steps + 1) (Decided (Ok Nothing) None tail.Nothing) ks
filled own call w steps fill ks same = rw same refl

pub filled_counted : (own : Own) (call : Call) (w steps : ℕ) (fill : Fill) (ks : List Capability) (x : Acquired)
    → (w == fill.word) ≡ true
    → absorbed (counts own call steps (Undecided (Act (act.Fill fill))) ks x) w
    ≡ counts (own_decided own (Ok Nothing)) call (steps + 1) (Decided (Ok Nothing) None tail.Nothing) ks x
filled_counted own call w steps fill ks x same = rw same refl

-- the commit of the count
pub settled : (own : Own) (call : Call) (w steps : ℕ) (drawn : Option ℕ) (ks : List Capability) (x : Acquired)
    → absorbed (counts own call steps (Decided (Ok Nothing) drawn tail.Nothing) ks x) w
    ≡ stands own call (steps + 1) (Decided (Ok Nothing) drawn tail.Nothing) ks
settled own call w steps drawn ks x = refl
