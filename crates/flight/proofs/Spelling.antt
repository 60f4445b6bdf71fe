-- The next step of a call is on a word of its machine.
use Rattle.work_invariant.specs.core_invariant.proofs.{AtComp, AtLive, ℕ, ◌<◌, Option, Some, None, length, arith, ◌≤◌, IsSome, Shape, IsIn}
use Rattle.work_invariant.specs.core_invariant.proofs.{word_of, StageFits, CompAt, CompMaking, KillingAt, LoadComp, LoadLive, CountWord}
use Rattle.work_invariant.specs.core_invariant.proofs.{SweepAt, Thaw, UntypingAt, CountAt, Own, Fill, FrameKind, MakingAt, NewObject}
use Rattle.work_invariant.specs.core_invariant.proofs.{Lookup, Read, Scan, Acquire, Tail, Nothing, Release, StoreRunning, StoreIdle, Reply}
use Rattle.work_invariant.specs.core_invariant.proofs.{Acquired, InvokingAt, ReturningAt, Switching, SwitchAt, stage_move, ActiveCall}
use Rattle.work_invariant.specs.core_invariant.proofs.{Stage, Living, Undecided, Decided, Leave, IfSome, List, [], ◌∷◌, CallFits, move_in}
use Rattle.work_invariant.specs.core_invariant.proofs.{Draw as kill_draw, TypingAt, Act as act_work, tail_move, is_ok}
use Rattle.call_fits.specs.call_stages.specs.act_states.specs.{CompMakingFits, counters_of, comp_at, killing_at, move_at, ThawFits}
use Rattle.call_fits.specs.call_stages.specs.act_states.specs.{untyping_at, typing_at, making_at, ActFits, act_move, commit_of, AllFit}
use Rattle.call_fits.specs.call_stages.specs.act_states.specs.{SwitchingFits, switching_at, invoking_at, returning_at}
use Rattle.call_fits.specs.call_stages.specs.act_states.specs.{declared.typings.TypingAt.TheVariants.Load}
use Rattle.call_fits.specs.call_stages.specs.act_states.specs.{declared.typings.TypingAt.TheVariants.Compare as type_compare}
use Rattle.call_fits.specs.call_stages.specs.act_states.specs.{Kills.KillingAtFits, Untypings.UntypingAtFits, Untypings.release_at}
use Rattle.call_fits.specs.call_stages.specs.act_states.specs.{declared.work.Act.Act, declared.fills.Fill.Fill as FillOf, Fills.FillFits}
use Rattle.call_fits.specs.call_stages.specs.act_states.specs.{Makings.MakingAtFits}
use Rattle.call_fits.specs.call_stages.specs.act_states.specs.{Invocations.InvokingAtFits, Invocations.ReturningAtFits}
use Rattle.call_fits.specs.call_stages.specs.stage_pins.proofs.{PinLemmas.pin_is_in, PinLemmas.settle_is_in, HeldLemmas.commit_fits}
use Rattle.call_fits.specs.call_stages.specs.stage_tcap.proofs.{PairLemmas.charge_is_in, PairLemmas.pair_is_in, RefillLemmas.refill_is_in}
use Rattle.call_fits.specs.call_stages.specs.stage_thread.proofs.ThreadLemmas.{push_is_in, pop_is_in, claim_is_in}
use Rattle.call_fits.specs.call_stages.specs.stage_quiet.proofs.QuietLemmas.{quiet_is_in, close_is_in}
use Rattle.{std.proofs.lemmas.List.Elements.All-head, call_fits.specs.call_stages.specs.stage_look.proofs.LookLemmas.look_is_in}
use Rattle.{call_fits.specs.call_stages.specs.Fits.TailFits, call_fits.specs.call_stages.specs.stage_sweep.specs.Freeze.AtFits}
use Rattle.{call_fits.specs.act_fits.proofs.DuesFit.last_small, call_fits.specs.call_stages.specs.stage_pins.specs.Held.AcquiredFits}
use Rattle.{flight.specs.Phases.MovesAreWords}

typing_in : (shape : Shape) (f : ℕ) (k : FrameKind) (at : TypingAt) → f < shape.frames → IsIn shape (word_of (typing_at f k at))
typing_in shape f k Load fits = fits
typing_in shape f k (type_compare word) fits = fits

making_in : (shape : Shape) (f : ℕ) (object : NewObject) (core : ℕ) (fill : FillOf) (at : MakingAt) → f < shape.frames
    → FillFits shape fill → MakingAtFits object at → IsIn shape (word_of (making_at f object core fill at))
making_in shape f object core fill (MakingAt.Store word entry) frame fits at =
    (frame, (let small = last_small object in omega (arith, at, small)))
making_in shape f object core fill (MakingAt.Fill word) frame fits at = (fits.node, fits.entry)
making_in shape f object core fill _ frame fits at = frame

killing_in : (shape : Shape) (f core : ℕ) (at : KillingAt) → f < shape.frames → KillingAtFits at
    → IsIn shape (word_of (killing_at f core at))
killing_in shape f core LoadComp below fits = (below, omega arith)
killing_in shape f core (kill_draw life word) below fits = tt
killing_in shape f core _ below fits = fits.0

-- a frame's counters are those of the cores
counter_in : (shape : Shape) (f n : ℕ) → f < shape.frames → n < counters_of shape → IsIn shape (CountAt f n)
unfolding counters_of
counter_in shape f n below low = (below, low)

sweep_in : (shape : Shape) (f core : ℕ) (kept : List CountWord) (at : SweepAt) → f < shape.frames → AtFits shape kept at
    → IsIn shape (word_of (move_at f core (length kept) at))
sweep_in shape f core kept SweepAt.Load below fits = counter_in shape f (length kept) below fits
sweep_in shape f core kept (SweepAt.Compare count stamp) below fits = counter_in shape f (length kept) below fits.0
sweep_in shape f core kept (SweepAt.Scan q) below fits = quiet_is_in shape q fits
sweep_in shape f core kept (SweepAt.Empty entry) below fits = (below, fits)

untyping_in : (shape : Shape) (f core : ℕ) (at : UntypingAt) → f < shape.frames → UntypingAtFits shape at
    → IsIn shape (word_of (untyping_at f core at))
untyping_in shape f core (UntypingAt.Sweep word w) below fits =
    sweep_in shape w.frame w.core w.kept w.at fits.fits.frame fits.fits.at
untyping_in shape f core (UntypingAt.Draw word w) below fits = tt
untyping_in shape f core _ below fits = below

release_in : (shape : Shape) (f word : ℕ) (o : Option Thaw) → f < shape.frames → IfSome o (ThawFits shape)
    → IsIn shape (word_of (release_at f word o))
release_in shape f word None below fits = below
release_in shape f word (Some x) below fits =
    counter_in shape x.frame x.at fits.frame (let low = fits.at in let few = fits.words in omega (arith, low, few))

comp_in : (shape : Shape) (m : CompMaking) (at : CompAt) → CompMakingFits shape (record m { at = at })
    → IsIn shape (word_of (comp_at m at))
comp_in shape m (CompAt.LoadLive word) fits = fits.number
comp_in shape m (CompAt.Scan word last q) fits = quiet_is_in shape q fits.at.0
comp_in shape m (CompAt.Close word last) fits = fits.number
comp_in shape m (CompAt.Store word last entry) fits = (fits.frame, (let most = fits.at.1 in omega (arith, most)))
comp_in shape m (CompAt.Fill word last) fits = (fits.fill.node, fits.fill.entry)
comp_in shape m _ fits = fits.frame

invoking_in : (shape : Shape) (f : ℕ) (at : InvokingAt) → f < shape.frames → InvokingAtFits shape at
    → IsIn shape (word_of (invoking_at f at))
invoking_in shape f (InvokingAt.LoadLive table pages life) below fits = fits.2.0
invoking_in shape f _ below fits = (below, omega arith)

returning_in : (shape : Shape) (thread depth : ℕ) (at : ReturningAt) → thread < shape.frames → depth ≤ 16 → ReturningAtFits shape at
    → IsIn shape (word_of (returning_at thread depth at))
returning_in shape thread depth ReturningAt.LoadBelow below most fits = (below, omega (arith, most))
returning_in shape thread depth (ReturningAt.LoadTable comp) below most fits = (fits, omega arith)
returning_in shape thread depth (ReturningAt.LoadPages comp table) below most fits = (fits.0, omega arith)
returning_in shape thread depth (ReturningAt.Draw comp table pages) below most fits = tt

switching_in : (shape : Shape) (m : Switching) (at : SwitchAt) → SwitchingFits shape (record m { at = at })
    → IsIn shape (word_of (switching_at m at))
switching_in shape m (SwitchAt.Claim claim) fits = claim_is_in shape claim fits.at
switching_in shape m (SwitchAt.LoadTable to) fits = (fits.at.comp, omega arith)
switching_in shape m (SwitchAt.LoadPages to table) fits = (fits.at.0.comp, omega arith)
switching_in shape m (SwitchAt.Leave to table pages) fits = (fits.old, omega arith)
switching_in shape m (SwitchAt.Draw to table pages) fits = tt

act_in : (shape : Shape) (act : Act) → ActFits shape act → IsIn shape (word_of (act_move act))
act_in shape (Fill fill) fits = (fits.node, fits.entry)
act_in shape _ fits =
    search (
      close_is_in,
      typing_in,
      making_in,
      charge_is_in,
      look_is_in,
      killing_in,
      untyping_in,
      comp_in,
      invoking_in,
      returning_in,
      pair_is_in,
      refill_is_in,
      switching_in,
    )

tail_in : (shape : Shape) (r : Reply) (drawn : Option ℕ) (tail : Tail) (counts : List Acquired) → TailFits shape tail
    → AllFit shape counts → IsIn shape (word_of (tail_move r drawn tail counts))
tail_in shape r drawn (StoreRunning f core depth old old_depth) counts fits fit = (fits.0, omega arith)
tail_in shape r drawn (StoreIdle f depth) counts fits fit = (fits.0, omega arith)
tail_in shape r drawn Nothing [] fits fit = tt
tail_in shape r drawn Nothing (x ∷ xs) fits fit =
    settle_is_in shape (commit_of (is_ok r) drawn x) (commit_fits shape (is_ok r) drawn x (All-head (AcquiredFits shape) x xs fit))
tail_in shape r drawn (Release release) [] fits fit =
    release_in shape release.frame release.word release.thaw fits.frame fits.thaw
tail_in shape r drawn (Release release) (x ∷ xs) fits fit =
    settle_is_in shape (commit_of (is_ok r) drawn x) (commit_fits shape (is_ok r) drawn x (All-head (AcquiredFits shape) x xs fit))
tail_in shape r drawn _ counts fits fit = search (close_is_in, push_is_in, pop_is_in, pair_is_in)

pub stage_in : (own : Own) (counts : List Acquired) (s : Stage) → own.core < own.layout.cores → AllFit own.layout counts
    → StageFits own.layout s
    → IsIn own.layout (word_of (stage_move own counts s))
stage_in own counts (Living (AtComp comp)) here acquired fits = (fits, omega arith)
stage_in own counts (Living (AtLive life)) here acquired fits = fits.0
stage_in own counts (Undecided (Lookup look)) here acquired fits = look_is_in own.layout look fits
stage_in own counts (Undecided (Read comp look)) here acquired fits = (fits.0, omega arith)
stage_in own counts (Undecided (Scan q act)) here acquired fits = quiet_is_in own.layout q fits.0
stage_in own counts (Undecided (Acquire pin change act)) here acquired fits = pin_is_in own.layout pin fits.0
stage_in own counts (Undecided (act_work act)) here acquired fits = act_in own.layout act fits
stage_in own counts (Decided r drawn tail) here acquired fits = tail_in own.layout r drawn tail counts fits acquired
stage_in own counts _ here acquired fits = here

move_word : (own : Own) (o : Option ActiveCall) → own.core < own.layout.cores → CallFits own o → IsSome o
    → IsIn own.layout (word_of (move_in own o))
move_word own None here fits some = absurd (cc)
move_word own (Some a) here fits some = stage_in own a.counts a.stage here fits.acquired fits.stage

pub moves_are_words : MovesAreWords
moves_are_words core fits some = move_word core.own core.active fits.own.core fits.active some
