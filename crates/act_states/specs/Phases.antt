-- An act as one record of its phases: what the machine goes by at an act, whichever it is. A further act is one row here.
use Rattle.std.specs.Prelude.{◌&&◌, ◌==◌, ◌∷◌}
use Rattle.stage_tcap.specs.{ℕ, Bool, true, false, not, Option, Some, None, List, [], slice_get, pos, negsuc, EntryAt, FrameAt, Capability}
use Rattle.stage_tcap.specs.{Move, LoadOf, charge_move, refill_move, pair_move}
use Rattle.stage_sweep.specs.stage_look.specs.{look_move}
use Rattle.stage_sweep.specs.stage_quiet.specs.{close_move, flush_move, declared.close.Close.Close}
use Rattle.stage_sweep.specs.stage_quiet.specs.{declared.close.Close.TheVariants.AtCompare as close_compare}
use Rattle.stage_sweep.specs.stage_quiet.specs.{declared.close.Close.TheVariants.AtDraw, declared.close.Close.TheVariants.AtStore}
use Rattle.stage_sweep.specs.stage_quiet.specs.{declared.flush_mark.FlushMark.TheVariants.AtLoad as flush_load}
use Rattle.stage_sweep.specs.stage_pins.specs.declared.pin.Pin.TheVariants.{AtLoad}
use Rattle.stage_sweep.specs.entry_words.specs.{EntryWord.entry_of_word, EntryWord.word_of_entry, declared.entry.Entry.Entry}
use Rattle.act_states.specs.{declared.work.Act.Act, declared.work.Act.TheVariants.Fill as fill_act}
use Rattle.act_states.specs.{declared.work.Act.TheVariants.Remove as remove_act, declared.work.Act.TheVariants.Retype as type_act}
use Rattle.act_states.specs.{declared.work.Act.TheVariants.Make as make_act, declared.work.Act.TheVariants.Outside}
use Rattle.act_states.specs.{declared.work.Act.TheVariants.Tick as tick_act, declared.work.Act.TheVariants.Flush as flush_act}
use Rattle.act_states.specs.{declared.work.Act.TheVariants.Kill as kill_act, declared.work.Act.TheVariants.Untype as untype_act}
use Rattle.act_states.specs.{declared.work.Act.TheVariants.Map as map_act, declared.work.Act.TheVariants.MakeComp as comp_act}
use Rattle.act_states.specs.{declared.work.Act.TheVariants.Invoke as invoke_act, declared.work.Act.TheVariants.Return as return_act}
use Rattle.act_states.specs.{declared.work.Act.TheVariants.Switch as switch_act, declared.work.Act.TheVariants.Touch as touch_act}
use Rattle.act_states.specs.{declared.work.Act.TheVariants.Share as share_act, declared.work.Act.TheVariants.Refill as refill_act}
use Rattle.act_states.specs.{declared.work.Tail.Tail, declared.work.Tail.TheVariants.Nothing, declared.work.Due.Due}
use Rattle.act_states.specs.{declared.work.Work.Work, declared.work.Work.TheVariants.Acquire}
use Rattle.act_states.specs.{declared.work.Work.TheVariants.Act as act_work, declared.fills.Fill.Fill, Keeping.Keeping, Keeping.KeepsWord}
use Rattle.act_states.specs.{Dues.cap_dues, Dues.made_dues, Dues.killing_dues, Dues.invoking_dues, Dues.returning_dues, Fills.fill_move}
use Rattle.act_states.specs.{Typings.typing_move, Typings.is_typing, Typings.typing_left, Makings.making_move, Makings.undo_at}
use Rattle.act_states.specs.{Makings.is_filling, Makings.is_marked, Makings.making_left, Makings.making_keeps, Ticks.is_charging}
use Rattle.act_states.specs.{Ticks.charge_left, Touches.is_answering, Touches.touch_left, Kills.killing_move, Kills.is_killing}
use Rattle.act_states.specs.{Kills.killing_left, Kills.killing_keeps, Untypings.untyping_move, Untypings.is_drawing}
use Rattle.act_states.specs.{Untypings.untyping_undo, Untypings.untyping_left, Untypings.untyping_dues, Untypings.untyping_keeps}
use Rattle.act_states.specs.{Comps.comp_move, Comps.comp_undo, Comps.comp_filling, Comps.comp_left, Comps.comp_dues, Comps.comp_keeps}
use Rattle.act_states.specs.{Comps.comp_is_marked, Comps.comp_meets_number, Invocations.invoking_move, Invocations.is_entering}
use Rattle.act_states.specs.{Invocations.invoking_left, Invocations.returning_move, Invocations.is_leaving, Invocations.returning_left}
use Rattle.act_states.specs.{Switches.switching_move, Switches.is_switching, Switches.switching_left, Switches.switching_undo}
use Rattle.act_states.specs.{Switches.switching_dues, Switches.switching_keeps, Shares.is_sharing, Shares.share_left, Shares.share_keeps}
use Rattle.act_states.specs.{Refills.is_refilling, Refills.refill_left}

-- a place that is to be filled, and the word that was found there
pub record Aim : Type 0 where
  pub node : ℕ
  pub entry : ℕ
  pub word : ℕ

pub record Phases : Type 0 where
  -- its next step, whether this is the one that decides `ok`, and the most steps that are still to come, with those of what it leaves to
  -- be stored, on so many cores
  pub move : Move
  pub ready : Bool
  pub left : ℕ → ℕ
  -- whether it is within its range: one that is not makes no step
  pub within : Bool
  -- whether it is before its first step; whether its counts may be acquired here: no entry and no liveness number is closed yet, and a
  -- sweep is over; and these counts, in the order in which they are acquired
  pub first : Bool
  pub counting : Bool
  pub dues : List Due
  -- what it has marked, and what a call that is refused where it acquires a count has then still to store
  pub keeps : List Keeping
  pub undo : Tail
  -- the place that it is to fill, and the frames whose words it has stored
  pub aim : Option Aim
  pub stores : ℕ → Bool
  -- whether it charges ticks
  pub charges : Bool

-- an act that does nothing beside its steps
abbrev pub plain : Move → (ℕ → ℕ) → Phases
plain move left = record {
  move = move;
  ready = false;
  left = left;
  within = true;
  first = true;
  counting = true;
  dues = [];
  keeps = [];
  undo = Nothing;
  aim = None;
  stores = λ f. false;
  charges = false;
}

-- of a removal: whether it is before its first step, and whether its next step draws its stamp; the steps that are still to come; and the
-- entry that it has closed, which stands for what it held until the stamp is drawn
abbrev pub is_first_of : Close → Bool
is_first_of (close_compare node entry word core) = true
is_first_of (AtDraw node entry) = false
is_first_of (AtStore node entry stamp) = false

abbrev pub is_draw : Close → Bool
is_draw (close_compare node entry word core) = false
is_draw (AtDraw node entry) = true
is_draw (AtStore node entry stamp) = false

abbrev pub close_left : Close → ℕ
close_left (close_compare node entry word core) = 3
close_left (AtDraw node entry) = 2
close_left (AtStore node entry stamp) = 1

abbrev pub close_keeps : Close → Capability → List Keeping
close_keeps (close_compare node entry word core) cap = []
close_keeps (AtDraw node entry) cap = KeepsWord (EntryAt node entry) (word_of_entry (Entry.Held cap)) ∷ []
close_keeps (AtStore node entry stamp) cap = []

-- the place of a filling
abbrev pub aim_of : Fill → Option Aim
aim_of fill = Some (record { node = fill.node; entry = fill.entry; word = fill.word })

abbrev pub phases_of : Act → Phases
phases_of (fill_act fill) = record (plain (fill_move fill) (λ cores. 1)) {
  ready = true;
  dues = cap_dues fill.cap (pos 1);
  aim = aim_of fill;
}
phases_of (remove_act close cap) = record (plain (close_move close) (λ cores. close_left close)) {
  ready = is_draw close;
  first = is_first_of close;
  counting = is_first_of close;
  dues = cap_dues cap (negsuc 0);
  keeps = close_keeps close cap;
}
phases_of (type_act y) = record (plain (typing_move y) (λ cores. typing_left y.at)) {
  ready = is_typing y.at;
  first = not (is_typing y.at);
}
phases_of (make_act m) = record (plain (making_move m) (λ cores. making_left m.object m.at)) {
  ready = is_filling m.at;
  first = not (is_marked m.at);
  dues = made_dues m.object m.frame m.at;
  keeps = making_keeps m.frame m.at;
  undo = undo_at m.frame m.at;
  aim = aim_of m.fill;
  stores = λ f. is_marked m.at && f == m.frame;
}
phases_of (map_act fill) = record (plain (LoadOf (FrameAt fill.cap.frame)) (λ cores. 2)) {
  dues = cap_dues fill.cap (pos 1);
  aim = aim_of fill;
}
phases_of (Outside node entry word) = record (plain (LoadOf (EntryAt node entry)) (λ cores. 1)) {
  within = false;
  aim = Some (record { node = node; entry = entry; word = word });
}
phases_of (tick_act charge) = record (plain (charge_move charge) (λ cores. charge_left charge)) {
  ready = is_charging charge;
  first = not (is_charging charge);
  charges = true;
}
phases_of (touch_act m) = record (plain (look_move m.look) (λ cores. touch_left m.look)) { ready = is_answering m }
phases_of (flush_act core) = record (plain (flush_move (flush_load core)) (λ cores. 2)) { ready = true }
phases_of (kill_act m) = record (plain (killing_move m) (λ cores. killing_left m.at)) {
  ready = is_killing m.at;
  first = not (is_killing m.at);
  counting = not (is_killing m.at);
  dues = killing_dues m.comp m.at;
  keeps = killing_keeps m.at;
}
phases_of (untype_act m) = record (plain (untyping_move m) (λ cores. untyping_left cores m.at)) {
  ready = is_drawing m.at;
  first = false;
  counting = is_drawing m.at;
  dues = untyping_dues m.at;
  keeps = untyping_keeps m.frame m.at;
  undo = untyping_undo m.frame m.at;
}
phases_of (comp_act m) = record (plain (comp_move m) (λ cores. comp_left m.cores m.at)) {
  ready = comp_filling m.at;
  first = not (comp_is_marked m.at);
  counting = not (comp_meets_number m.at);
  dues = comp_dues m m.at;
  keeps = comp_keeps m m.at;
  undo = comp_undo m m.at;
  aim = aim_of m.fill;
  stores = λ f. comp_is_marked m.at && f == m.frame;
}
phases_of (invoke_act m) = record (plain (invoking_move m) (λ cores. invoking_left m.at)) {
  ready = is_entering m.at;
  first = not (is_entering m.at);
  dues = invoking_dues m.comp m.at;
}
phases_of (return_act m) = record (plain (returning_move m) (λ cores. returning_left m.at)) {
  ready = is_leaving m.at;
  first = not (is_leaving m.at);
  dues = returning_dues m.top m.at;
}
phases_of (switch_act m) = record (plain (switching_move m) (λ cores. switching_left m.at)) {
  ready = is_switching m.at;
  first = false;
  counting = not (is_switching m.at);
  dues = switching_dues m m.at;
  keeps = switching_keeps m m.at;
  undo = switching_undo m.at;
}
phases_of (share_act p) = record (plain (pair_move p) (λ cores. share_left p.what p.at)) {
  ready = is_sharing p.at;
  first = false;
  counting = false;
  keeps = share_keeps p p.at;
}
phases_of (refill_act r) = record (plain (refill_move r) (λ cores. refill_left r.at)) {
  ready = is_refilling r.at;
  first = false;
  counting = false;
}

-- the columns of this table that have a name of their own
abbrev pub act_move : Act → Move
act_move act = (phases_of act).move

abbrev pub act_ready : Act → Bool
act_ready act = (phases_of act).ready

abbrev pub act_left : ℕ → Act → ℕ
act_left cores act = (phases_of act).left cores

abbrev pub dues : Act → List Due
dues act = (phases_of act).dues

abbrev pub undo : Act → Tail
undo act = (phases_of act).undo

-- the stamp since which an entry is quiescing, 0 for one that is not; and that of the word that an act is to fill
abbrev pub stamp_in : Entry → ℕ
stamp_in Entry.Free = 0
stamp_in (Entry.Held k) = 0
stamp_in (Entry.Closing by) = 0
stamp_in (Entry.Quiescing stamp) = stamp

abbrev pub stamp_shown : Option Entry → ℕ
stamp_shown None = 0
stamp_shown (Some e) = stamp_in e

abbrev pub stamp_aimed : Option Aim → ℕ
stamp_aimed None = 0
stamp_aimed (Some aim) = stamp_shown (entry_of_word aim.word)

abbrev pub stamp_of_act : Act → ℕ
stamp_of_act act = stamp_aimed (phases_of act).aim

-- a core acquires this count for an act next, or has acquired all and goes on to the act
abbrev pub acquires : ℕ → Act → Option Due → Work
acquires core act None = act_work act
acquires core act (Some due) = Acquire (AtLoad due.frame core) due.change act

-- what a core does for an act of whose counts it has acquired so many
abbrev pub next_work : ℕ → ℕ → Act → Work
next_work core n act = acquires core act (slice_get (dues act) n)
