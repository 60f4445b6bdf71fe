-- A core stays in its ranges, and each step leaves fewer to come, whatever words are found.
use Rattle.act_fits.specs.act_states.specs.{word_of_count, count_of_word, unheld, ◌≡◌, ℕ, suc, ℤ, ltb as nat_lt, if◌then◌else◌, ◌+◌, ◌*◌}
use Rattle.act_fits.specs.act_states.specs.{◌-◌, ◌++◌, slice_get, ◌<◌, ◌≤◌, Bool, true, false, ◌==◌, List, [], ◌∷◌, length, Option, Some}
use Rattle.act_fits.specs.act_states.specs.{None, refl, negsuc, Nothing as nothing, Amount, drawn_stamp, Close, AtCompare as close_compare}
use Rattle.act_fits.specs.act_states.specs.{AtDraw, AtStore, Quiet, close_end, close_after, QuietFits, quiet_end, quiet_after, Pin, AtLoad}
use Rattle.act_fits.specs.act_states.specs.{Pinned, Acquired, compare_end, pinned_at, pin_after, pin_end, CountWord, Hold, StageEnd, AllFit}
use Rattle.act_fits.specs.act_states.specs.{FrameKind, Capability, Reply, Shape, found, CapNames, shown_in, Look, look_steps, act_steps}
use Rattle.act_fits.specs.act_states.specs.{took_charge, took_tick, Charge, end_by_mark, head_end, charged_end, head, ◌^◌, min}
use Rattle.act_fits.specs.act_states.specs.{word_of_head, head_of_word, HeadWord, frame_of_word, FrameWord, meets_frame, meets_word}
use Rattle.act_fits.specs.act_states.specs.{typed_if, took_typing_at, Obj, counts_of, last_word, MakingFits, undo_at, comp_of_word}
use Rattle.act_fits.specs.act_states.specs.{CompWord, ScanFits, left_of_scan, live_of_word, LiveWord, alive_end, alive_after, Alive, AtComp}
use Rattle.act_fits.specs.act_states.specs.{AtLive, refusal_of, filled_if, refuse, ActFits, act_left, took_close, maps_frame, maps_word}
use Rattle.act_fits.specs.act_states.specs.{took_act, dues, next_work, cap_dues, starts, undo, made_dues, meets_object, meets_blank}
use Rattle.act_fits.specs.act_states.specs.{meets_making, marks_if, published, took_making_at, plan_for}
use Rattle.act_fits.specs.call_stages.specs.{tail_left, took_tail, tail_counts, TailFits, StageFits, HasRoom, CountsAt, names_left}
use Rattle.act_fits.specs.call_stages.specs.{steps_later, IsFirst, work_left, left_at, left_of, IsActive, IsOwn, GoesOn, landed, took_first}
use Rattle.act_fits.specs.call_stages.specs.{took_enter, took_alive, read_more, took_read, took_look, took_scan, took_count, took_work}
use Rattle.act_fits.specs.call_stages.specs.{went_with, is_spent, took_at, took}
use Rattle.act_fits.specs.act_states.proofs.{length-append, lt-ltb, sym, ap, subst, arith, leb-false, ltb-true, AtLoad as charge_load}
use Rattle.act_fits.specs.stage_thread.specs.{AliveFits, lives_end, number_end, live_end, comp_end, comp_after}
use Rattle.act_fits.specs.stage_pins.specs.{PinFits, end_by_hold, load_end, after_load, AcquiredFits, pushed as count_pushed}
use Rattle.act_fits.specs.stage_tcap.specs.{Untyped, ChargeFits, after_mark, after_head, Blank}
use Rattle.act_fits.specs.stage_quiet.specs.{stamp_of_clock, CloseFits, close_compared, close_at}
use Rattle.act_fits.proofs.{few_dues, TookFits, StepsFit.starts_fit, DuesFit.StepFits, DuesFit.object_count, DuesFit.work_next}
use Rattle.std.proofs.lemmas.List.Elements.{All-nil, All-cons, All-tail, All-append}
use Rattle.act_fits.specs.stage_pins.specs.{declared.pin.Pin.TheVariants.AtCompare, Acquire.PinnedFits, Acquire.EndFits, Acquire.after_hold}
use Rattle.act_fits.specs.act_states.specs.declared.own.OwnChange.TheVariants.{Ticks, Empties}
use Rattle.act_fits.specs.act_states.specs.declared.typings.TypingAt.TheVariants.{Load, Compare}
use Rattle.act_fits.specs.act_states.specs.declared.makings.MakingAt.TheVariants.{Load as make_load, Mark, Store, Fill as fill_at}
use Rattle.act_fits.specs.act_states.specs.declared.work.Act.TheVariants.{Fill as fill_act, Remove as remove_act, Retype as type_act}
use Rattle.act_fits.specs.act_states.specs.declared.work.Act.TheVariants.{Make as make_act, Outside, Tick as tick_act, Flush as flush_act}
use Rattle.act_fits.specs.act_states.specs.declared.work.Act.TheVariants.{Kill as kill_act, Untype as untype_act, Map as map_act}
use Rattle.act_fits.specs.act_states.specs.declared.work.Act.TheVariants.{MakeComp as comp_act, Invoke as invoke_act, Return as return_act}
use Rattle.act_fits.specs.act_states.specs.declared.work.Act.TheVariants.{Switch as switch_act, Touch as touch_act, Share as share_act}
use Rattle.act_fits.specs.act_states.specs.declared.work.Tail.TheVariants.{Nothing, Quiesce, Unmark, StoreFlush, Release}
use Rattle.act_fits.specs.act_states.specs.declared.work.Tail.TheVariants.{StoreLive, Push, Pop, StoreRunning, Share}
use Rattle.act_fits.specs.act_states.specs.declared.work.Work.TheVariants.{Lookup, Read, Scan, Acquire, Act}
use Rattle.act_fits.specs.act_states.specs.declared.work.WorkStep.TheVariants.{Goes, Acquires, Refuses, Answers, Changes as work_changes}
use Rattle.act_fits.specs.call_stages.specs.Fits.{WorkFits, CountsWait, left_of_alive, left_of_look, left_of_pin}
use Rattle.act_fits.specs.call_stages.specs.declared.stages.Stage.TheVariants.{Enter, Living, Undecided, Decided, Leave}
use Rattle.act_fits.proofs.{DuesFit.counts_next, DuesFit.ChangeFits, LandsFit.Facts, LandsFit.next_fits, LandsFit.landed_fits}
use Rattle.act_fits.proofs.{ScansFit.scan_goes, ScansFit.scan_left, KillsFit.kill_fits, UntypingsFit.untype_fits, UntypingsFit.undone_fits}
use Rattle.act_fits.proofs.{UntypingsFit.released_fits, CompsFit.comp_fits, CompsFit.comp_undone, SwitchesFit.switch_fits}
use Rattle.act_fits.proofs.{SwitchesFit.switching_undone, InvocationsFit.invoke_fits, InvocationsFit.return_fits, InvocationsFit.push_fits}
use Rattle.act_fits.proofs.{InvocationsFit.pop_fits, TouchesFit.touch_fits, RefillsFit.refill_fits, SharesFit.share_fits}
use Rattle.call_fits.proofs.LookingFits.{refused_fits, works_fits, look_fits}
use Rattle.{act_fits.specs.act_states.proofs.spelling, act_fits.specs.stage_pins.proofs.PinLemmas.after_fits}
use Rattle.{act_fits.specs.stage_look.specs.Lookup.LookFits, act_fits.specs.stage_look.proofs.LookLemmas.shown_names}
use Rattle.{act_fits.specs.call_plans.specs.Bounds.living_steps, act_fits.specs.act_states.specs.declared.refusals.Refusal.Refusal}
use Rattle.{act_fits.specs.act_states.specs.declared.own.Own.Own, act_fits.specs.act_states.specs.declared.own.OwnChange.OwnChange}
use Rattle.{act_fits.specs.act_states.specs.Ticks.charge_left, act_fits.specs.act_states.specs.declared.typings.Typing.Typing}
use Rattle.{act_fits.specs.act_states.specs.declared.typings.TypingAt.TypingAt, act_fits.specs.act_states.specs.Typings.typing_left}
use Rattle.{act_fits.specs.act_states.specs.declared.makings.Making.Making}
use Rattle.{act_fits.specs.act_states.specs.declared.makings.MakingAt.MakingAt, act_fits.specs.act_states.specs.Makings.making_left}
use Rattle.{act_fits.specs.act_states.specs.declared.work.Act.Act as ActType}
use Rattle.{act_fits.specs.act_states.specs.declared.work.Act.TheVariants.Refill as refill_act}
use Rattle.{act_fits.specs.act_states.specs.declared.work.Tail.Tail, act_fits.specs.act_states.specs.declared.work.Work.Work}
use Rattle.{act_fits.specs.act_states.specs.Acts.close_left}
use Rattle.{act_fits.specs.stage_tcap.specs.declared.charge.Charge.TheVariants.AtCompare as charge_compare}
use Rattle.{act_fits.specs.call_stages.specs.declared.stages.Stage.Stage}
use Rattle.{act_fits.specs.call_stages.specs.declared.stages.ActiveCall.ActiveCall, act_fits.proofs.SharesFit.shared_fits}
use Rattle.{act_fits.specs.stage_thread.proofs.ThreadLemmas.alive_after_fits}

-- a step of the work of a call that has acquired its counts, or acquires them
module _ (own : Own) (a : ActiveCall) (facts : Facts own a) (room : own.made < own.limit) where
  act_refused : (left : ℕ) (r : Refusal) → 2 + length a.counts < left → TookFits own left a (landed a (refuse r))
  act_refused left r some =
      landed_fits own a a refl refl facts.found facts.acquired room 0 left (refuse r) (omega arith, tt) (omega arith)

  fill_if : (left : ℕ) (equal : Bool) → 2 + length a.counts < left → TookFits own left a (landed a (filled_if equal))
  fill_if left true some =
      landed_fits own a a refl refl facts.found facts.acquired room 0 left (filled_if true) (omega arith, tt) (omega arith)
  fill_if left false some =
      landed_fits own a a refl refl facts.found facts.acquired room 0 left (filled_if false) (omega arith, tt) (omega arith)

  compared_fits : (left : ℕ) (cap : Capability) (node index word core : ℕ) (same : Bool) → node < own.layout.frames → index < 64
      → CapNames own.layout.frames cap
      → length a.counts ≡ length (cap_dues cap (negsuc 0)) → 4 + length a.counts < left
      → TookFits own left a (landed a (took_close cap (close_at same node index word core) (close_compared same)))
  compared_fits left cap node index word core true below small names waits some =
      landed_fits own a a refl refl facts.found facts.acquired room 2 left (Goes (Act (remove_act (AtDraw node index) cap)))
      (((below, small), names), omega arith, waits) (omega arith)
  compared_fits left cap node index word core false below small names waits some = act_refused left (refusal_of Reply.Raced) (omega arith)

  close_fits : (close : Close) (cap : Capability) (found : ℕ) → CloseFits own.layout close → CapNames own.layout.frames cap
      → length a.counts ≡ length (cap_dues cap (negsuc 0))
      → TookFits own (2 + length a.counts + close_left close) a
      (landed a (took_close cap (close_after close found) (close_end close found)))
  close_fits (close_compare node index word core) cap found fits names waits =
      compared_fits _ cap node index word core (found == word) fits.0 fits.1 names waits (omega arith)
  close_fits (AtDraw node index) cap found fits names waits =
      landed_fits own a a refl refl facts.found facts.acquired room 1 _
      (Answers nothing (Some (drawn_stamp found)) (Quiesce (AtStore node index (drawn_stamp found))))
      (omega arith, (fits.0, fits.1, some_stamp)) (omega arith)
    where
      some_stamp : 1 ≤ drawn_stamp found
      some_stamp = omega arith
  close_fits (AtStore node index stamp) cap found fits names waits = act_refused _ Refusal.Raced (omega arith)

  type_fits : (y : Typing) (at : TypingAt) (found : ℕ) → y.frame < own.layout.frames → length a.counts ≡ 0
      → TookFits own (2 + length a.counts + typing_left at) a (landed a (took_typing_at y at found))
  type_fits y Load found below waits = met (frame_of_word found)
    where
      by : (k : FrameKind) (mark : Option ℕ) → TookFits own (2 + length a.counts + 2) a (landed a (meets_frame y found k mark))
      by k (Some d) = act_refused _ (Refusal.Busy d) (omega arith)
      by FrameKind.Untyped None =
          landed_fits own a a refl refl facts.found facts.acquired room 1 _
          (Goes (Act (type_act (record { frame = y.frame; kind = y.kind; at = Compare found })))) (below, omega arith, waits) (omega arith)
      by FrameKind.User None = act_refused _ Refusal.FrameKind (omega arith)
      by FrameKind.Kernel None = act_refused _ Refusal.FrameKind (omega arith)

      met : (o : Option FrameWord) → TookFits own (2 + length a.counts + 2) a (landed a (meets_word y found o))
      met None = act_refused _ Refusal.Raced (omega arith)
      met (Some v) = by v.kind v.mark
  type_fits y (Compare word) found below waits = by (found == word)
    where
      by : (equal : Bool) → TookFits own (2 + length a.counts + 1) a (landed a (typed_if equal))
      by true = landed_fits own a a refl refl facts.found facts.acquired room 0 _ (typed_if true) (omega arith, tt) (omega arith)
      by false = act_refused _ Refusal.Raced (omega arith)

  -- a refusal with something to store
  act_undone : (left : ℕ) (r : Refusal) (tail : Tail) → TailFits own.layout tail → 2 + length a.counts + tail_left tail < left
      → TookFits own left a (landed a (Refuses r tail))
  act_undone left r tail fits some =
      landed_fits own a a refl refl facts.found facts.acquired room (tail_left tail) left (Refuses r tail) (omega arith, fits)
      (omega arith)

  make_fits : (m : Making) (at : MakingAt) (found : ℕ) → MakingFits own.layout (record m { at = at })
      → length a.counts ≡ length (made_dues m.object m.frame at)
      → TookFits own (2 + length a.counts + making_left m.object at) a (landed a (took_making_at m at found))
  make_fits m make_load found fits waits = met (frame_of_word found)
    where
      some : 2 + length a.counts < 2 + length a.counts + making_left m.object make_load
      some = omega arith

      blank : (o : Obj) → TookFits own (2 + length a.counts + making_left m.object make_load) a (landed a (meets_object m found o))
      blank Blank = landed_fits own a a refl refl facts.found facts.acquired room (making_left m.object (Mark found)) _
          (Goes (Act (make_act (record m { at = Mark found }))))
          (record { frame = fits.frame; core = fits.core; object = fits.object; fill = fits.fill; at = tt }, omega arith, waits)
          (omega arith)
      blank o = act_refused _ Refusal.FrameKind some

      by : (k : FrameKind) (o : Obj) (mark : Option ℕ) → TookFits own (2 + length a.counts + making_left m.object make_load) a
          (landed a (meets_blank m found k o mark))
      by k o (Some d) = act_refused _ (Refusal.Busy d) some
      by FrameKind.Untyped o None = act_refused _ Refusal.FrameKind some
      by FrameKind.User o None = act_refused _ Refusal.FrameKind some
      by FrameKind.Kernel o None = blank o

      met : (o : Option FrameWord) → TookFits own (2 + length a.counts + making_left m.object make_load) a
          (landed a (meets_making m found o))
      met None = act_refused _ Refusal.Raced some
      met (Some v) = by v.kind v.object v.mark
  make_fits m (Mark word) found fits waits = by (found == word)
    where
      by : (equal : Bool) → TookFits own (2 + length a.counts + making_left m.object (Mark word)) a (landed a (marks_if m word equal))
      by true =
          let act : ActType = make_act (record m { at = Store word 0 }) in
          let many = object_count m.object m.frame in
          let most : ℕ = 3 * counts_of m.object + last_word m.object + 3 in
          let next = work_next own.layout (steps_later own.layout.cores a) m.core 0 act (slice_get (dues act) 0) refl fits.core
          (record { frame = fits.frame; core = fits.core; object = fits.object; fill = fits.fill; at = omega arith }) in
          landed_fits own a a refl refl facts.found facts.acquired room most _ (Goes (next_work m.core 0 act)) (
            next.0,
            subst (λ (n : ℕ). work_left own.layout.cores (steps_later own.layout.cores a) n (next_work m.core 0 act) ≤ most) (sym waits)
                (let fewer = next.1 in omega (arith, fewer, many)),
            counts_next m.core 0 a.counts act (slice_get (dues act) 0) refl (sym waits) (omega arith),
          ) (omega arith)
      by false = act_refused _ Refusal.Raced (omega arith)
  make_fits m (Store word entry) found fits waits = by (nat_lt entry (last_word m.object)) refl
    where
      by : (more : Bool) → nat_lt entry (last_word m.object) ≡ more
          → TookFits own (2 + length a.counts + (last_word m.object - entry + 3)) a
          (landed a (Goes (Act (make_act (record m { at = if more then Store word (entry + 1) else fill_at word })))))
      by true is =
          let low = ltb-true entry (last_word m.object) is in
          landed_fits own a a refl refl facts.found facts.acquired room (last_word m.object - (entry + 1) + 3) _
          (Goes (Act (make_act (record m { at = Store word (entry + 1) })))) (
            record { frame = fits.frame; core = fits.core; object = fits.object; fill = fits.fill; at = omega (arith, low) },
            omega arith,
            waits,
          ) (omega (arith, low))
      by false is =
          landed_fits own a a refl refl facts.found facts.acquired room 2 _ (Goes (Act (make_act (record m { at = fill_at word }))))
          (record { frame = fits.frame; core = fits.core; object = fits.object; fill = fits.fill; at = tt }, omega arith, waits)
          (omega arith)
  make_fits m (fill_at word) found fits waits = by (found == m.fill.word)
    where
      by : (equal : Bool) → TookFits own (2 + length a.counts + 2) a (landed a (published m word equal))
      by true = landed_fits own a a refl refl facts.found facts.acquired room 1 _ (published m word true)
          (omega arith, fits.frame) (omega arith)
      by false = act_undone _ Refusal.Raced (Unmark m.frame word) fits.frame (omega arith)

  -- the call is decided with nothing to store
  act_changed : (left : ℕ) (r : Reply) (change : OwnChange) → ChangeFits own.layout change → 2 + length a.counts < left
      → TookFits own left a (landed a (work_changes r change None Nothing))
  act_changed left r change fits some =
      landed_fits own a a refl refl facts.found facts.acquired room 0 left (work_changes r change None Nothing)
      (omega arith, tt, fits) (omega arith)

  -- where the load of a head with this mark leads
  marked_fits : (tcap ticks budget version : ℕ) (mark : Option ℕ) → tcap < own.layout.frames → version < 2 ^ 28 → length a.counts ≡ 0
      → TookFits own (2 + length a.counts + 2) a
      (landed a (took_charge ticks (after_mark tcap ticks budget version mark) (end_by_mark mark)))
  marked_fits tcap ticks budget version None fits small waits =
      landed_fits own a a refl refl facts.found facts.acquired room 1 (2 + length a.counts + 2)
      (Goes (Act (tick_act (charge_compare tcap ticks budget version)))) ((fits, small), omega arith, waits) (omega arith)
  marked_fits tcap ticks budget version (Some d) fits small waits =
      act_changed (2 + length a.counts + 2) (Reply.Busy d) (Ticks 0 ticks) tt (omega arith)

  head_fits : (tcap ticks word : ℕ) (o : Option HeadWord) → head_of_word word ≡ o → tcap < own.layout.frames → length a.counts ≡ 0
      → TookFits own (2 + length a.counts + 2) a (landed a (took_charge ticks (after_head tcap ticks o) (head_end o)))
  head_fits tcap ticks word None is fits waits = act_changed (2 + length a.counts + 2) Reply.Raced (Ticks 0 ticks) tt (omega arith)
  head_fits tcap ticks word (Some v) is fits waits =
      marked_fits tcap ticks v.budget v.version v.mark fits (spelling.spells word v is).0.2 waits

  charged_fits : (due charged : ℕ) (charge : Charge) (equal : Bool)
      → TookFits own (2 + length a.counts + 1) a (landed a (took_charge due charge (charged_end equal charged)))
  charged_fits due charged charge true =
      act_changed (2 + length a.counts + 1) (Reply.Ok (Amount charged)) (Ticks charged (due - charged)) tt (omega arith)
  charged_fits due charged charge false = act_changed (2 + length a.counts + 1) Reply.Raced (Ticks 0 due) tt (omega arith)

  tick_fits : (charge : Charge) (word : ℕ) → ChargeFits own.layout charge → length a.counts ≡ 0
      → TookFits own (2 + length a.counts + charge_left charge) a (landed a (took_tick charge word))
  tick_fits (charge_load tcap ticks) word fits waits = head_fits tcap ticks word (head_of_word word) refl fits waits
  tick_fits (charge_compare tcap ticks budget version) word fits waits =
      charged_fits ticks (min ticks budget) (charge_compare tcap ticks budget version) (word == word_of_head (head budget version))

  done_fits : (act : ActType) (found : ℕ) → ActFits own.layout act → length a.counts ≡ length (dues act)
      → TookFits own (left_at own.layout.cores a (Undecided (Act act))) a (landed a (took_act own.layout act found))
  done_fits (fill_act fill) found fits waits = fill_if _ _ (omega arith)
  done_fits (remove_act close cap) found fits waits = close_fits close cap found fits.0 fits.1 waits
  done_fits (type_act typing) found fits waits = type_fits typing typing.at found fits waits
  done_fits (make_act m) found fits waits = make_fits m m.at found fits waits
  done_fits (map_act fill) found fits waits = met (frame_of_word found)
    where
      some : 2 + length a.counts < 2 + length a.counts + 2
      some = omega arith

      by : (k : FrameKind) (mark : Option ℕ) → TookFits own (2 + length a.counts + 2) a (landed a (maps_frame fill k mark))
      by k (Some d) = act_refused _ (Refusal.Busy d) some
      by FrameKind.User None =
          landed_fits own a a refl refl facts.found facts.acquired room 1 _ (Goes (Act (fill_act fill))) (fits.0, omega arith, waits)
          (omega arith)
      by FrameKind.Untyped None = act_refused _ Refusal.FrameKind some
      by FrameKind.Kernel None = act_refused _ Refusal.FrameKind some

      met : (o : Option FrameWord) → TookFits own (2 + length a.counts + 2) a (landed a (maps_word fill o))
      met None = act_refused _ Refusal.Raced some
      met (Some v) = by v.kind v.mark
  done_fits (Outside node entry word) found fits waits = act_refused _ Refusal.OutOfRange (omega arith)
  done_fits (tick_act charge) found fits waits = tick_fits charge found fits waits
  done_fits (touch_act m) found fits waits = touch_fits own a facts room waits m found fits
  done_fits (flush_act core) found fits waits =
      landed_fits own a a refl refl facts.found facts.acquired room 1 _
      (work_changes (Reply.Ok nothing) Empties None (StoreFlush core (stamp_of_clock found))) (omega arith, fits, tt) (omega arith)
  done_fits (kill_act m) found fits waits = kill_fits own a facts room m m.at found fits waits
  done_fits (untype_act m) found fits waits = untype_fits own a facts room m m.at found fits waits
  done_fits (comp_act m) found fits waits = comp_fits own a facts room m m.at found fits waits
  done_fits (invoke_act m) found fits waits = invoke_fits own a facts room m m.at found fits waits
  done_fits (return_act m) found fits waits = return_fits own a facts room m m.at found fits waits
  done_fits (switch_act m) found fits waits = switch_fits own a facts room m m.at found fits waits
  done_fits (share_act p) found fits waits = share_fits own a facts room waits p p.at found fits
  done_fits (refill_act r) found fits waits = refill_fits own a facts room waits r r.at found fits

  undo_fits : (act : ActType) → ActFits own.layout act
      → TailFits own.layout (undo act) × (tail_left (undo act) ≤ act_left own.layout.cores act)
  undo_fits (make_act m) fits = by m.at
    where
      by : (at : MakingAt) → TailFits own.layout (undo_at m.frame at) × (tail_left (undo_at m.frame at) ≤ making_left m.object at)
      by make_load = (tt, omega arith)
      by (Mark word) = (tt, omega arith)
      by (Store word entry) = (fits.frame, omega arith)
      by (fill_at word) = (fits.frame, omega arith)
  undo_fits (switch_act m) fits = switching_undone own m m.at fits
  undo_fits (untype_act m) fits = undone_fits own.layout m m.at facts.own_fits.shape fits
  undo_fits (comp_act m) fits = comp_undone own m m.at fits
  undo_fits act fits = (tt, omega arith)

  scan_end_fits : (left : ℕ) (act : ActType) (q : Quiet) (end : StageEnd (Unit {0})) → a.counts ≡ [] → ActFits own.layout act
      → (end ≡ StageEnd.Going → QuietFits own.layout q × ScanFits own.layout q ×
      (2 + (left_of_scan own.layout.cores q + 3 * length (dues act) + act_left own.layout.cores act) < left))
      → 2 + (3 * length (dues act) + act_left own.layout.cores act) < left → TookFits own left a (landed a (took_scan own.core act q end))
  scan_end_fits left act q StageEnd.Going none fits goes some =
      let empty : length a.counts ≡ 0 = ap length none in
      let on = goes refl in
      landed_fits own a a refl refl facts.found facts.acquired room
      (left_of_scan own.layout.cores q + 3 * length (dues act) + act_left own.layout.cores act) left (Goes (Scan q act))
      ((on.0, on.1, fits), omega arith, none) (let fewer = on.2 in omega arith)
  scan_end_fits left act q (StageEnd.Decided r) none fits goes some =
      let empty : length a.counts ≡ 0 = ap length none in act_refused left (refusal_of r) (omega arith)
  scan_end_fits left act q (StageEnd.Done x) none fits goes some =
      let empty : length a.counts ≡ 0 = ap length none in
      landed_fits own a a refl refl facts.found facts.acquired room
      (3 * length (dues act) + act_left own.layout.cores act) left (starts own.core act)
      (subst (λ (xs : List Acquired). StepFits own.layout xs (steps_later own.layout.cores a)
      (3 * length (dues act) + act_left own.layout.cores act)
      (starts own.core act)) (sym none)
      (starts_fit own.layout (steps_later own.layout.cores a)
      (3 * length (dues act) + act_left own.layout.cores act) own.core act facts.own_fits.core fits
      (omega arith))) (omega arith)
  scan_end_fits left act q (StageEnd.Refuse r) none fits goes some =
      let empty : length a.counts ≡ 0 = ap length none in act_refused left (refusal_of r) (omega arith)

  scan_fits : (q : Quiet) (act : ActType) (found : ℕ) → QuietFits own.layout q → ScanFits own.layout q → ActFits own.layout act
      → a.counts ≡ []
      → TookFits own (left_at own.layout.cores a (Undecided (Scan q act))) a
      (landed a (took_scan own.core act (quiet_after own.layout.cores q found) (quiet_end own.layout.cores q found)))
  scan_fits q act found quiet scan fits none =
      let empty : length a.counts ≡ 0 = ap length none in
      let some = scan_left own.layout q quiet scan in
      scan_end_fits _ act (quiet_after own.layout.cores q found) (quiet_end own.layout.cores q found) none fits
      (λ going. let on = scan_goes own.layout q found quiet scan going in (on.0, on.1, let fewer = on.2 in omega arith)) (omega arith)

  -- one count more is acquired
  pushed_is : (p : Pinned) (change : ℤ) → length a.counts < 4
      → count_pushed a.counts (record { pin = p; change = change }) ≡ a.counts ++ record { pin = p; change = change } ∷ []
  pushed_is p change few =
      ap (λ b. if b then a.counts ++ record { pin = p; change = change } ∷ [] else a.counts) (lt-ltb (length a.counts) 4 few)

  count_done : (left : ℕ) (p : Pinned) (change : ℤ) (act : ActType) → PinnedFits own.layout p → ActFits own.layout act
      → length a.counts < length (dues act)
      → 2 + length a.counts + (1 + 3 * (length (dues act) - (length a.counts + 1)) + act_left own.layout.cores act) < left
      → TookFits own left a (landed a (Acquires (record { pin = p; change = change }) (next_work own.core (length a.counts + 1) act)))
  count_done left p change act pinned fits more some =
      let few : length a.counts < 4 = (let four = few_dues act in omega (arith, four, more)) in
      let counts : List Acquired = a.counts ++ record { pin = p; change = change } ∷ [] in
      let one_more : length counts ≡ length a.counts + 1 = length-append a.counts (record { pin = p; change = change } ∷ []) in
      let next = work_next own.layout (steps_later own.layout.cores a) own.core (length a.counts + 1) act
      (slice_get (dues act) (length a.counts + 1)) refl facts.own_fits.core fits in
      subst (λ (xs : List Acquired). TookFits own left a (GoesOn
      (went_with a xs (Undecided (next_work own.core (length a.counts + 1) act))))) (sym (pushed_is p change few)) (record {
        call = refl;
        found = facts.found;
        first = tt;
        stage = next.0;
        acquired = All-append (AcquiredFits own.layout) a.counts (record { pin = p; change = change } ∷ []) facts.acquired
            (All-cons (AcquiredFits own.layout) (record { pin = p; change = change }) [] pinned (All-nil (AcquiredFits own.layout)));
        counts = counts_next own.core (length a.counts + 1) counts act (slice_get (dues act) (length a.counts + 1)) refl (sym one_more)
            (omega arith);
        room = room;
        counted = omega arith;
        steps = refl;
        fewer =
            (let fewer = next.1 in
            let same : work_left own.layout.cores (steps_later own.layout.cores a) (length counts)
            (next_work own.core (length a.counts + 1) act)
            ≡ work_left own.layout.cores (steps_later own.layout.cores a) (length a.counts + 1)
            (next_work own.core (length a.counts + 1) act) =
            ap (λ (n : ℕ). work_left own.layout.cores (steps_later own.layout.cores a) n (next_work own.core (length a.counts + 1) act))
            one_more in
            omega arith);
      })

  count_end : (left : ℕ) (change : ℤ) (act : ActType) (pin : Pin) (end : StageEnd Pinned) → PinFits own.layout pin
      → EndFits own.layout end → ActFits own.layout act
      → length a.counts < length (dues act)
      → (end ≡ StageEnd.Going → 2 + length a.counts
      + (left_of_pin pin + 1 + 3 * (length (dues act) - (length a.counts + 1)) + act_left own.layout.cores act) < left)
      → 2 + length a.counts + (1 + 3 * (length (dues act) - (length a.counts + 1)) + act_left own.layout.cores act) < left
      → TookFits own left a (landed a (took_count own.core (length a.counts) change act pin end))
  count_end left change act pin StageEnd.Going pin_fits end fits more goes some =
      landed_fits own a a refl refl facts.found facts.acquired room
      (left_of_pin pin + 1 + 3 * (length (dues act) - (length a.counts + 1)) + act_left own.layout.cores act) left
      (Goes (Acquire pin change act)) ((pin_fits, fits), omega arith, more) (goes refl)
  count_end left change act pin (StageEnd.Decided r) pin_fits end fits more goes some =
      let undone = undo_fits act fits in act_undone left (refusal_of r) (undo act) undone.0 (let few = undone.1 in omega arith)
  count_end left change act pin (StageEnd.Done p) pin_fits end fits more goes some = count_done left p change act end fits more some
  count_end left change act pin (StageEnd.Refuse r) pin_fits end fits more goes some =
      let undone = undo_fits act fits in act_undone left (refusal_of r) (undo act) undone.0 (let few = undone.1 in omega arith)

  -- the load goes on only to the compare
  pin_goes : (pin : Pin) (found : ℕ) → pin_end pin found ≡ StageEnd.Going → left_of_pin (pin_after pin found) < left_of_pin pin
  pin_goes (AtLoad frame core) found is = by (count_of_word found) is
    where
      by_hold : (v : CountWord) (h : Hold) → end_by_hold h ≡ StageEnd.Going → left_of_pin (after_hold frame core v.count v.stamp h) < 2
      by_hold v Hold.Unheld is = omega arith
      by_hold v _ is = absurd (cc)

      by : (o : Option CountWord) → load_end o ≡ StageEnd.Going → left_of_pin (after_load frame core o) < 2
      by None is = absurd (cc)
      by (Some v) is = by_hold v v.hold is
  pin_goes (AtCompare frame core count stamp) found is = absurd (never _ is)
    where
      never : (b : Bool) → compare_end b (pinned_at frame core count stamp) ≡ StageEnd.Going → ⊥
      never true h = cc
      never false h = cc

  -- what is acquired fits
  end_fits : (s : Shape) (pin : Pin) (found : ℕ) → PinFits s pin → EndFits s (pin_end pin found)
  end_fits s (AtLoad frame core) found h = by (count_of_word found)
    where
      by_hold : (h : Hold) → EndFits s (end_by_hold h)
      by_hold Hold.Unheld = tt
      by_hold _ = tt

      by : (o : Option CountWord) → EndFits s (load_end o)
      by None = tt
      by (Some v) = by_hold v.hold
  end_fits s (AtCompare frame core count stamp) found h = by (found == word_of_count (unheld count stamp))
    where
      by : (b : Bool) → EndFits s (compare_end b (pinned_at frame core count stamp))
      by true = record { frame = h.0; core = h.1; count = h.2 }
      by false = tt

  count_fits : (pin : Pin) (change : ℤ) (act : ActType) (found : ℕ) → PinFits own.layout pin → ActFits own.layout act
      → length a.counts < length (dues act)
      → TookFits own (left_at own.layout.cores a (Undecided (Acquire pin change act))) a
      (landed a (took_count own.core (length a.counts) change act (pin_after pin found) (pin_end pin found)))
  count_fits pin change act found fits acts more =
      let some = some_pin pin in
      count_end _ change act (pin_after pin found) (pin_end pin found) (after_fits own.layout pin found fits)
      (end_fits own.layout pin found fits) acts more (λ going. let fewer = pin_goes pin found going in omega arith) (omega arith)
    where
      some_pin : (pin : Pin) → 1 ≤ left_of_pin pin
      some_pin (AtLoad frame core) = omega arith
      some_pin (AtCompare frame core count stamp) = omega arith

-- the component's word is loaded, and the target is looked up next
read_fits : (own : Own) (a : ActiveCall) (look : Look) (o : Option CompWord) → Facts own a → own.made < own.limit
    → LookFits own.layout look → a.counts ≡ []
    → TookFits own (2 + length a.counts + (1 + left_of_look look + steps_later own.layout.cores a)) a (took_read a look o)
read_fits own a look None facts room fits counts = refused_fits own a facts counts room _ Refusal.Raced (omega arith)
read_fits own a look (Some life) facts room fits counts =
    landed_fits own a (read_more a life.epoch) refl refl facts.found facts.acquired room
    (left_of_look look + steps_later own.layout.cores a) _ (Goes (Lookup look)) (fits, omega arith, counts) (omega arith)

work_fits : (own : Own) (a : ActiveCall) (work : Work) (found : ℕ) → Facts own a → own.made < own.limit → WorkFits own.layout work
    → CountsWait a.counts work
    → TookFits own (left_at own.layout.cores a (Undecided work)) a (took_work own a work found)
work_fits own a (Lookup look) found facts room fits counts =
    subst (λ (n : ℕ). TookFits own (2 + n + (left_of_look look + steps_later own.layout.cores a)) a
    (took_look own a look found (shown_in own.layout.frames found)))
    (sym (ap length counts)) (look_fits own a facts counts room look found (shown_in own.layout.frames found) fits
    (shown_names own.layout.frames found))
work_fits own a (Read comp look) found facts room fits counts = read_fits own a look (comp_of_word found) facts room fits.1 counts
work_fits own a (Scan q act) found facts room fits counts = scan_fits own a facts room q act found fits.0 fits.1 fits.2 counts
work_fits own a (Acquire pin change act) found facts room fits counts =
    count_fits own a facts room pin change act found fits.0 fits.1 counts
work_fits own a (Act act) found facts room fits counts = done_fits own a facts room act found fits counts

-- what comes first of a call
first_fits : (own : Own) (a : ActiveCall) (living : Bool) → Facts own a → a.counts ≡ [] → a.found ≡ [] → own.made < own.limit
    → TookFits own (3 + living_steps living + look_steps (names_left a) (plan_for a.call).target + act_steps a.call own.layout.cores) a
    (took_first living own a)
first_fits own a true facts none empty room = record {
  call = refl;
  found = facts.found;
  first = empty;
  stage = facts.own_fits.comp;
  acquired = facts.acquired;
  counts = none;
  room = room;
  counted = facts.own_fits.made;
  steps = refl;
  fewer = omega arith;
}
first_fits own a false facts none empty room =
    works_fits own a facts none room (look_steps (names_left a) (plan_for a.call).target + act_steps a.call own.layout.cores) _ _
    (next_fits own a facts) (omega arith)

-- It is asked whether the component lives.
module _ (own : Own) (a : ActiveCall) (facts : Facts own a) (none : a.counts ≡ []) (empty : a.found ≡ [])
    (room : own.made < own.limit) where
  -- it is asked on, in fewer steps
  asks_fits : (left : ℕ) (alive : Alive) → AliveFits own.layout alive → left_of_alive alive < left
      → TookFits own (2 + left + look_steps (names_left a) (plan_for a.call).target + act_steps a.call own.layout.cores) a
      (took_alive own a alive StageEnd.Going)
  asks_fits left alive fits fewer = record {
    call = refl;
    found = facts.found;
    first = empty;
    stage = fits;
    acquired = facts.acquired;
    counts = none;
    room = room;
    counted = facts.own_fits.made;
    steps = refl;
    fewer = omega arith;
  }

  lives_fits : (alive : Alive) (lives : Bool)
      → TookFits own (2 + 1 + look_steps (names_left a) (plan_for a.call).target + act_steps a.call own.layout.cores) a
      (took_alive own a alive (lives_end lives))
  lives_fits alive true =
      works_fits own a facts none room (look_steps (names_left a) (plan_for a.call).target + act_steps a.call own.layout.cores) _ _
      (next_fits own a facts) (omega arith)
  lives_fits alive false = refused_fits own a facts none room _ (refusal_of Reply.Dead) (omega arith)

  number_fits : (alive : Alive) (epoch : ℕ) (number : LiveWord)
      → TookFits own (2 + 1 + look_steps (names_left a) (plan_for a.call).target + act_steps a.call own.layout.cores) a
      (took_alive own a alive (number_end epoch number))
  number_fits alive epoch LiveWord.Free = refused_fits own a facts none room _ (refusal_of Reply.Dead) (omega arith)
  number_fits alive epoch (LiveWord.Live now frame) = lives_fits alive (now == epoch)
  number_fits alive epoch (LiveWord.Closing now by) = refused_fits own a facts none room _ (refusal_of (Reply.Busy by)) (omega arith)
  number_fits alive epoch (LiveWord.Dead now stamp) = refused_fits own a facts none room _ (refusal_of Reply.Dead) (omega arith)

  live_fits : (alive : Alive) (epoch : ℕ) (o : Option LiveWord)
      → TookFits own (2 + 1 + look_steps (names_left a) (plan_for a.call).target + act_steps a.call own.layout.cores) a
      (took_alive own a alive (live_end epoch o))
  live_fits alive epoch None = refused_fits own a facts none room _ (refusal_of Reply.Raced) (omega arith)
  live_fits alive epoch (Some number) = number_fits alive epoch number

  loaded_fits : (comp : ℕ) (o : Option CompWord) → AliveFits own.layout (comp_after comp o)
      → TookFits own (2 + 2 + look_steps (names_left a) (plan_for a.call).target + act_steps a.call own.layout.cores) a
      (took_alive own a (comp_after comp o) (comp_end o))
  loaded_fits comp None fits = refused_fits own a facts none room _ (refusal_of Reply.Raced) (omega arith)
  loaded_fits comp (Some life) fits = asks_fits 2 (AtLive life) fits (omega arith)

  alive_fits : (alive : Alive) (found : ℕ) → AliveFits own.layout alive
      → TookFits own (left_at own.layout.cores a (Living alive)) a (took_alive own a (alive_after alive found) (alive_end alive found))
  alive_fits (AtComp comp) found fits =
      loaded_fits comp (comp_of_word found) (alive_after_fits own.layout (AtComp comp) found fits)
  alive_fits (AtLive life) found fits = live_fits (AtLive life) life.epoch (live_of_word found)

enter_fits : (own : Own) (a : ActiveCall) (spent : Bool) → spent ≡ is_spent own → Facts own a → a.counts ≡ [] → a.found ≡ []
    → TookFits own (left_at own.layout.cores a Enter) a (took_enter spent own a)
enter_fits own a true is facts none empty = record {
  call = refl;
  found = facts.found;
  first = tt;
  stage = tt;
  acquired = facts.acquired;
  counts = tt;
  room = tt;
  counted = let made = facts.own_fits.made in omega arith;
  steps = refl;
  fewer = let empty : length a.counts ≡ 0 = ap length none in omega arith;
}
enter_fits own a false is facts none empty =
    first_fits own a (plan_for a.call).living facts none empty (leb-false own.limit own.made (sym is))

tail_fits : (own : Own) (a : ActiveCall) (r : Reply) (drawn : Option ℕ) (tail : Tail) (counts : List Acquired) (found : ℕ) → Facts own a
    → a.counts ≡ counts → TailFits own.layout tail
    → TookFits own (left_at own.layout.cores a (Decided r drawn tail)) a
    (GoesOn (went_with a (tail_counts tail counts) (took_tail r drawn tail counts found)))
tail_fits own a r drawn (StoreLive l live f word) counts found facts is fits = record {
  call = refl;
  found = facts.found;
  first = tt;
  stage = fits.1;
  acquired = subst (AllFit own.layout) is facts.acquired;
  counts = tt;
  room = tt;
  counted = facts.own_fits.made;
  steps = refl;
  fewer = let same : length a.counts ≡ length counts = ap length is in omega arith;
}
tail_fits own a r drawn (Push x) counts found facts is fits = push_fits own a r drawn x counts facts fits is
tail_fits own a r drawn (Pop x) counts found facts is fits = pop_fits own a r drawn x counts facts fits is
tail_fits own a r drawn (StoreRunning f core depth old old_depth) counts found facts is fits = record {
  call = refl;
  found = facts.found;
  first = tt;
  stage = (fits.2, fits.3);
  acquired = subst (AllFit own.layout) is facts.acquired;
  counts = tt;
  room = tt;
  counted = facts.own_fits.made;
  steps = refl;
  fewer = let same : length a.counts ≡ length counts = ap length is in omega arith;
}
tail_fits own a r drawn Nothing [] found facts is fits = record {
  call = refl;
  found = facts.found;
  first = tt;
  stage = tt;
  acquired = All-nil (AcquiredFits own.layout);
  counts = refl;
  room = tt;
  counted = facts.own_fits.made;
  steps = refl;
  fewer = omega arith;
}
tail_fits own a r drawn Nothing (x ∷ xs) found facts is fits = record {
  call = refl;
  found = facts.found;
  first = tt;
  stage = tt;
  acquired = All-tail (AcquiredFits own.layout) x xs (subst (AllFit own.layout) is facts.acquired);
  counts = tt;
  room = tt;
  counted = facts.own_fits.made;
  steps = refl;
  fewer = let one : length a.counts ≡ suc (length xs) = ap length is in omega arith;
}
tail_fits own a r drawn (Release x) counts found facts is fits = released_fits own a r drawn x counts found facts is fits
tail_fits own a r drawn (Share p) counts found facts is fits = shared_fits own a r drawn p counts found facts is fits
tail_fits own a r drawn tail counts found facts is fits = record {
  call = refl;
  found = facts.found;
  first = tt;
  stage = tt;
  acquired = subst (AllFit own.layout) is facts.acquired;
  counts = tt;
  room = tt;
  counted = facts.own_fits.made;
  steps = refl;
  fewer = let same : length a.counts ≡ length counts = ap length is in omega arith;
}

stage_fits : (own : Own) (a : ActiveCall) (stage : Stage) (found : ℕ) → Facts own a → StageFits own.layout stage → CountsAt a.counts stage
    → HasRoom own.made own.limit stage → IsFirst stage a.found
    → TookFits own (left_at own.layout.cores a stage) a (took_at own a stage found)
stage_fits own a Enter found facts fits counts room first = enter_fits own a _ refl facts counts first
stage_fits own a (Living alive) found facts fits counts room first = alive_fits own a facts counts first room alive found fits
stage_fits own a (Undecided work) found facts fits counts room first = work_fits own a work found facts room fits counts
stage_fits own a (Decided r drawn tail) found facts fits counts room first = tail_fits own a r drawn tail a.counts found facts refl fits
stage_fits own a (Leave r stamp) found facts fits counts room first = omega arith

pub took_fits : (own : Own) (a : ActiveCall) (found : ℕ) → IsOwn own → IsActive own a
    → TookFits own (left_of own.layout.cores a) a (took own a found)
took_fits own a found h active =
    stage_fits own a a.stage found (record {
      own_fits = h;
      found = active.found;
      acquired = active.acquired;
      limits = active.limits;
    })
    active.stage active.counts active.room active.first
