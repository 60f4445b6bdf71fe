-- What the words make of a core whose call charges ticks, or drops its translations.
use Rattle.std.proofs.Common.{◌≡◌, ℕ, ◌+◌, ◌-◌, ◌<◌, length, List, [], Option, Some, None, refl, sym, ap}
use Rattle.std.proofs.lemmas.Bool.{lt-leb}
use Rattle.std.proofs.lemmas.List.{nil_from_length}
use Rattle.spk_nums.specs.declared.calls.Call.{Call}
use Rattle.spk_nums.specs.declared.calls.Call.TheVariants.{Tick, Flush}
use Rattle.spk_nums.specs.declared.replies.Reply.TheVariants.{Ok}
use Rattle.spk_nums.specs.declared.replies.Value.{Value}
use Rattle.spk_nums.specs.declared.replies.Value.TheVariants.{Nothing}
use Rattle.spk_nums.specs.declared.translations.Translation.{Translation}
use Rattle.spk_nums.specs.declared.steps.StageEnd.TheVariants.{Going, Done}
use Rattle.straight_looks.specs.step_starts.specs as low
use low.act_states.specs.OwnChanges.{own_changed}
use low.act_states.specs.Ticks.{charged_in, ticks_due, ticks_of}
use low.act_states.specs.declared.own.Own.{Own}
use low.act_states.specs.declared.own.OwnChange.TheVariants.{Ticks, Empties}
use low.act_states.specs.declared.work.Act.TheVariants as act
use low.act_states.specs.declared.work.Tail.TheVariants as tail
use low.act_states.specs.declared.work.Work.TheVariants.{Act}
use low.act_states.specs.Flushes.{flushed_to}
use low.stage_quiet.specs.Flushing.{flush_after}
use low.stage_quiet.specs.declared.flush_mark.FlushMark.{FlushMark}
use low.stage_quiet.specs.declared.flush_mark.FlushMark.TheVariants as mark
use low.stage_tcap.specs.Charging.{after_head, after_mark, charge_after, charge_end}
use low.stage_tcap.specs.declared.charge.Charge.{Charge}
use low.stage_tcap.specs.declared.charge.Charge.TheVariants.{AtLoad}
use low.tcap_words.specs.Head.{head_of_word}
use low.tcap_words.specs.declared.head_word.HeadWord.{HeadWord}
use low.call_stages.specs.View.{Core}
use low.call_stages.specs.Cores.{absorbed, core_after, own_decided}
use low.call_stages.specs.Fits.{IsOwn}
use low.call_stages.specs.Steps.{landed}
use low.call_stages.specs.declared.stages.Stage.TheVariants.{Enter, Decided, Undecided}
use Rattle.straight_looks.specs.Standing.{IsAnswered, acts, going, stands}

-- the entry of a tick, and its load
pub tick_entered : (own : Own) (n w : ℕ) → own.made < own.limit
    → absorbed (stands own (Tick n) 0 Enter []) w ≡ acts own (Tick n) 1 (act.Tick (AtLoad own.tcap (ticks_due own.owed n))) []
tick_entered own n w room = rw (lt-leb own.limit own.made room) refl

pub charge_loaded : (own : Own) (call : Call) (w steps : ℕ) (charge : Charge) → charge_end charge w ≡ Going
    → absorbed (acts own call steps (act.Tick charge) []) w ≡ acts own call (steps + 1) (act.Tick (charge_after charge w)) []
charge_loaded own call w steps charge goes = rw goes refl

-- it goes on with the ticks with which it began
pub ticks_kept : (t due w : ℕ) → ticks_of (charge_after (AtLoad t due) w) ≡ due
ticks_kept t due w = by (head_of_word w)
  where
    by_mark : (budget version : ℕ) (mark : Option ℕ) → ticks_of (after_mark t due budget version mark) ≡ due
    by_mark budget version None = refl
    by_mark budget version (Some core) = refl

    by : (h : Option HeadWord) → ticks_of (after_head t due h) ≡ due
    by None = refl
    by (Some h) = by_mark h.budget h.version h.mark

-- its compare: what is charged is spent, and what is left of what was due stays owed
charge_won : (own : Own) (call : Call) (w steps : ℕ) (charge : Charge) (v : Value) → charge_end charge w ≡ Done v
    → absorbed (acts own call steps (act.Tick charge) []) w
    ≡ stands (own_decided (own_changed own (Ticks (charged_in v) (ticks_of charge - charged_in v))) (Ok v)) call (steps + 1)
    (Decided (Ok v) None tail.Nothing) []
charge_won own call w steps charge v done = rw done refl

pub charge_answers : (own spent : Own) (call : Call) (w steps due charged : ℕ) (charge : Charge) (v : Value) (b c : Core)
    → c ≡ absorbed b w → b ≡ acts own call steps (act.Tick charge) [] → Done v ≡ charge_end charge w
    → ticks_of charge ≡ due → charged ≡ charged_in v → spent ≡ own_changed own (Ticks charged (due - charged))
    → IsAnswered spent (Ok v) c
charge_answers own spent call w steps due charged charge v b c goes at done is told so = record {
  call = call;
  steps = steps + 1;
  found = [];
  drawn = None;
  is = rw (goes, at, charge_won own call w steps charge v (sym done), so, told, ← is) refl;
}

-- the entry of a flush, its load of the clock, and its store
pub flush_entered : (own : Own) (w : ℕ) → own.made < own.limit
    → absorbed (stands own Flush 0 Enter []) w ≡ acts own Flush 1 (act.Flush own.core) []
flush_entered own w room = rw (lt-leb own.limit own.made room) refl

pub flush_marked : (own : Own) (w steps core at stamp : ℕ) → mark.AtStore at stamp ≡ flush_after (mark.AtLoad core) w
    → absorbed (acts own Flush steps (act.Flush core) []) w
    ≡ stands (own_decided (own_changed own Empties) (Ok Nothing)) Flush (steps + 1)
    (Decided (Ok Nothing) None (tail.StoreFlush at stamp)) []
flush_marked own w steps core at stamp is =
    sym (ap (λ (m : FlushMark). core_after own (landed (going Flush steps (Undecided (Act (act.Flush core))) [] []) (flushed_to m))) is)

pub flush_stored : (own : Own) (w steps core stamp : ℕ)
    → absorbed (stands own Flush steps (Decided (Ok Nothing) None (tail.StoreFlush core stamp)) []) w
    ≡ stands own Flush (steps + 1) (Decided (Ok Nothing) None tail.Nothing) []
flush_stored own w steps core stamp = refl

-- a core that has no translation has none to drop
pub empties : (own : Own) → length own.cached ≡ 0 → own ≡ own_changed own Empties
empties own zero = ap (λ (cached : List Translation). record own { cached = cached }) (nil_from_length own.cached zero)

-- what a core has of its own fits after these changes
pub spent_fits : (own : Own) (charged owed : ℕ) → IsOwn own → IsOwn (own_changed own (Ticks charged owed))
spent_fits own charged owed h = record {
  shape = h.shape;
  core = h.core;
  thread = h.thread;
  some_depth = h.some_depth;
  most_depth = h.most_depth;
  comp = h.comp;
  table = h.table;
  pages = h.pages;
  tcap = h.tcap;
  most_calls = h.most_calls;
  most_epochs = h.most_epochs;
  made = h.made;
}

pub emptied_fits : (own : Own) → IsOwn own → IsOwn (own_changed own Empties)
emptied_fits own h = record {
  shape = h.shape;
  core = h.core;
  thread = h.thread;
  some_depth = h.some_depth;
  most_depth = h.most_depth;
  comp = h.comp;
  table = h.table;
  pages = h.pages;
  tcap = h.tcap;
  most_calls = h.most_calls;
  most_epochs = h.most_epochs;
  made = h.made;
}
