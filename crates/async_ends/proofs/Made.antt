-- What a seat has seen, and what a whole call adds to it.
use Rattle.std.proofs.Common.{◌≡◌, ◌≢◌, inl, inr, ℕ, zero, suc, ◌+◌, ◌<◌, ◌==◌, Bool, true, false, if◌then◌else◌, List, [], ◌∷◌, ◌++◌, Some}
use Rattle.std.proofs.Common.{None, IsNone, Err, refl, sym, ap, ◌∙◌, subst, arith, eq-eqb, ne_eqb}
use Rattle.async_ends.specs.{reached, Missed, Took, Event, untaken, receiving, MayDo, IsLegal, EndCore, most_calls, end_steps, event_in}
use Rattle.async_ends.specs.{history_of, seat_value, IsStart, IsSeat, call_of, Comes}
use Rattle.turn_rule.specs.{entry, AreOfOthers, SeatValue, FollowsTrace, Turns, TurnsOn}
use Rattle.spk_nums.specs.{declared.replies.Reply.Reply, declared.steps.WordOp.WordOp, declared.steps.WordOp.TheVariants.Load}
use Rattle.spk_nums.specs.{declared.steps.WordOp.TheVariants.Compare, declared.steps.WordOp.TheVariants.Add, WordSteps.left_by}
use Rattle.async_ends.specs.{declared.asks.Look.Look, declared.endpoint.EndOp.EndOp, declared.endpoint.EndOp.TheVariants.Send}
use Rattle.async_ends.specs.{declared.endpoint.EndOp.TheVariants.Recv, declared.endpoint.EndCall.EndCall, declared.endpoint.EndAct.EndAct}
use Rattle.async_ends.specs.{declared.endpoint.EndReply.EndReply, declared.endpoint.EndReply.TheVariants.Taken}
use Rattle.async_ends.specs.{declared.endpoint.EndReply.TheVariants.Raced, declared.endpoint.EndReply.TheVariants.Refused}
use Rattle.async_ends.specs.{declared.run.EndStage.TheVariants.Idle, declared.run.EndStage.TheVariants.Takes, Running.end_core}
use Rattle.async_ends.specs.{Running.next_at, Running.reply_of, Tables.table_value, Calls.compared, Calls.IsMoved, Calls.Does}
use Rattle.async_ends.proofs.{Along.along, Histories.history_of-append, Histories.moved, Steps.Knows, Steps.idle_of}
use Rattle.{std.proofs.lemmas.Option.none-some, spk_nums.specs.WordSteps.told_by, turn_rule.specs.declared.view.Entry.Entry}
use Rattle.{turn_rule.specs.Seats.MakesCall, async_ends.specs.Calls.ComesTo, async_ends.specs.Calls.Acts}
use mathlib.Core.Logic.{dite}
use native.Mathlib.Decide.{ℕ_discrete}

abbrev Seat : Type 0
Seat = SeatValue EndCore EndCall

-- the history that a seat has seen is legal
pub legal : (frames cores made : ℕ) (s : Seat) → IsSeat frames cores made s → IsLegal (history_of s.seen)
legal frames cores made s is = (along frames cores s.table.start is.start s.seen is.follows.sound).legal

-- and its core has no receive in progress
pub between : (frames cores made : ℕ) (s : Seat) → IsSeat frames cores made s → receiving (history_of s.seen) s.core ≡ None
between frames cores made s is =
    let good = (along frames cores s.table.start is.start s.seen is.follows.sound).good s.core s.program is.follows.runs in
    subst (Knows (receiving (history_of s.seen) s.core)) is.idle good.knows

-- ---- a receive that compares

module _ (c f : ℕ) (l : Look) (seen found : ℕ) (others between before after : List (Entry EndCall))
    (whole : after ≡ entry c (Compare f seen 0) found None
    ∷ (between ++ entry c (Load f) seen (Some (call_of Recv f l)) ∷ (others ++ before))) (is_legal : IsLegal (history_of after)) where
  abbrev from : List (Entry EndCall)
  from = entry c (Load f) seen (Some (call_of Recv f l)) ∷ (others ++ before)

  -- where the compare finds another count, it was changed in between
  crossed : found ≢ seen → IsMoved (history_of between) f
  crossed other =
      let all : IsLegal (event_in (entry c (Compare f seen 0) found None) ∷ (history_of between ++ history_of from)) =
      subst IsLegal (ap history_of whole ∙ ap (λ h. event_in (entry c (Compare f seen 0) found None) ∷ h) (history_of-append between from))
      is_legal in
      let left : left_by (Compare f seen 0) found ≡ found = ap (λ b. if b then 0 else found) (ne_eqb found seen other) in
      let miss : MayDo (history_of between ++ history_of from) c f (Missed found) =
      subst (MayDo (history_of between ++ history_of from) c f)
      (ap (λ b. if b then Missed found else Took found) (eq-eqb found (left_by (Compare f seen 0) found) (sym left))) all.1 in
      let was : seen ≡ untaken (history_of (others ++ before)) f = (legal_below (history_of between) (history_of from) all.0).1.1 in
      let here : untaken (history_of from) f ≡ untaken (history_of (others ++ before)) f =
      ap (λ b. if b then untaken (history_of (others ++ before)) f else untaken (history_of (others ++ before)) f) (eq-eqb f f refl) in
      moved (history_of between) (history_of from) f (λ same. other (miss.count ∙ same ∙ here ∙ sym was))
    where
      legal_below : (xs h : List Event) → IsLegal (xs ++ h) → IsLegal h
      legal_below [] h k = k
      legal_below (e ∷ xs) h k = legal_below xs h k.0

-- ---- a whole call

-- the seat has made a whole call at frame f
pub record Answered (op : EndOp) (f : ℕ) (l : Look) (old new : Seat) : Type 0 where
  pub does : IsLegal (history_of new.seen) → Does op old.core f l (reply_of new.program.last) old.seen new.seen
  pub idle : new.program.stage ≡ Idle
  pub frames_are : new.program.frames ≡ old.program.frames
  pub begun : new.program.begun ≡ old.program.begun + 1
  pub core : new.core ≡ old.core
  pub table : new.table ≡ old.table

-- a core between calls makes no further step of a call
ends_here : (n : ℕ) (a b : Seat) → a.program.stage ≡ Idle → TurnsOn end_steps n a b → b ≡ a
ends_here zero a b idle turns = turns
ends_here (suc n) a b idle turns = absurd (none-some turns.1.op (ap next_at (sym idle) ∙ turns.1.next))

-- the first step is the call's last one
module _ (asks : EndOp) (f : ℕ) (l : Look) (old new : Seat) (m : MakesCall end_steps old (call_of asks f l) new) (did : EndAct)
    (program : m.begun.program ≡ end_core Idle old.program.frames (old.program.begun + 1) did)
    (does : Does asks old.core f l (reply_of did) old.seen m.begun.seen) where
  answered_first : Answered asks f l old new
  answered_first =
      let s = m.first.makes in
      let end : new ≡ m.begun = ends_here m.count m.begun new (ap (λ p. p.stage) program) m.rest in
      subst (Answered asks f l old) (sym end) record {
        does = λ k. subst (λ r. Does asks old.core f l r old.seen m.begun.seen) (sym (ap (λ p. reply_of p.last) program)) does;
        idle = ap (λ p. p.stage) program;
        frames_are = ap (λ p. p.frames) program;
        begun = ap (λ p. p.begun) program;
        core = s.core;
        table = s.table;
      }

-- what was seen after a first step of this operation
begun_with : (asks : EndOp) (f : ℕ) (l : Look) (old new : Seat) (m : MakesCall end_steps old (call_of asks f l) new) (op : WordOp)
    → m.first.op ≡ op
    → m.begun.seen ≡ entry old.core op m.first.makes.found (Some (call_of asks f l)) ∷ (m.first.makes.others ++ old.seen)
begun_with asks f l old new m op is = let s = m.first.makes in
    s.seen ∙ ap (λ o. entry old.core o s.found (Some (call_of asks f l)) ∷ (s.others ++ old.seen)) is

answered_send : (f : ℕ) (l : Look) (old new : Seat) → MakesCall end_steps old (call_of Send f l) new → Answered Send f l old new
answered_send f l old new m =
    let next : Some (Add f 1) ≡ Some m.first.op = m.first.next in
    let is : m.first.op ≡ Add f 1 = cc in
    let s = m.first.makes in
    answered_first Send f l old new m EndAct.Sent s.program (
      record {
        found = s.found;
        others = s.others;
        apart = s.apart;
        whole = begun_with Send f l old new m (Add f 1) is;
      },
      refl,
    )

-- what a compare took or not, by the count that it found
took : Bool → ℕ → EndAct
took b n = if b then EndAct.Taken n else EndAct.Raced

answer_is : (b : Bool) (n : ℕ) → reply_of (took b n) ≡ (if b then Taken n else Raced)
unfolding took
answer_is true n = refl
answer_is false n = refl

raced_is : (found seen : ℕ) → compared seen found ≡ Raced → found ≢ seen
raced_is found seen raced same =
    let taken : compared seen found ≡ Taken seen = ap (λ b. if b then Taken seen else Raced) (eq-eqb found seen same) in
    apart seen (sym taken ∙ raced)
  where
    apart : (n : ℕ) → Taken n ≡ Raced → ⊥
    apart n e = absurd (cc)

-- the compare of a receive that has loaded a count other than 0
module _ (f : ℕ) (l : Look) (seen begun : ℕ) (last : EndAct) (old loaded new : Seat) (some : seen ≢ 0)
    (others : List (Entry EndCall)) (apart : AreOfOthers old.core others)
    (history : loaded.seen ≡ entry old.core (Load f) seen (Some (call_of Recv f l)) ∷ (others ++ old.seen))
    (core : loaded.core ≡ old.core) (same_table : loaded.table ≡ old.table) (more : begun ≡ old.program.begun + 1)
    (program : loaded.program ≡ end_core (Takes f seen) old.program.frames begun last) where
  compares : Turns end_steps loaded None new → Answered Recv f l old new
  unfolding took
  compares turn =
      let s = turn.makes in
      let next : Some (Compare f seen 0) ≡ Some turn.op = ap (λ p. next_at p.stage) (sym program) ∙ turn.next in
      let is : turn.op ≡ Compare f seen 0 = cc in
      let told : told_by turn.op s.found ≡ s.found = ap (λ o. told_by o s.found) is in
      let now : new.program ≡ end_core Idle old.program.frames begun (took (s.found == seen) seen) = s.program
      ∙ ap (λ p. end_steps.after p (told_by turn.op s.found)) program
      ∙ ap (λ n. end_core Idle old.program.frames begun (took (n == seen) seen)) told in
      let answer : reply_of new.program.last ≡ compared seen s.found = ap (λ p. reply_of p.last) now ∙ answer_is (s.found == seen) seen in
      let whole : new.seen ≡ entry old.core (Compare f seen 0) s.found None
      ∷ (s.others ++ entry old.core (Load f) seen (Some (call_of Recv f l)) ∷ (others ++ old.seen)) =
      s.seen ∙ ap (λ (z : ℕ × WordOp × List (Entry EndCall)). entry z.0 z.1 s.found None ∷ (s.others ++ z.2))
      (λ i. (core i, is i, history i)) in
      record {
        does = λ k. inr record {
          seen = seen;
          some = omega arith;
          found = s.found;
          is = answer;
          others = others;
          apart = apart;
          between = s.others;
          between_apart = subst (λ c. AreOfOthers c s.others) core s.apart;
          whole = whole;
          crossed = λ raced. crossed old.core f l seen s.found others s.others old.seen new.seen whole k
              (raced_is s.found seen (sym answer ∙ raced));
        };
        idle = ap (λ p. p.stage) now;
        frames_are = ap (λ p. p.frames) now;
        begun = ap (λ p. p.begun) now ∙ more;
        core = s.core ∙ core;
        table = s.table ∙ same_table;
      }

  later : (n : ℕ) → TurnsOn end_steps n loaded new → IsNone (next_at new.program.stage) → Answered Recv f l old new
  later zero turns none =
      let stage : new.program.stage ≡ Takes f seen = ap (λ (s : Seat). s.program.stage) turns ∙ ap (λ p. p.stage) program in
      let idle = idle_of new.program.stage none in
      absurd (none-some (Compare f seen 0) (ap next_at (sym idle ∙ stage)))
  later (suc n) turns none =
      let next : Some (Compare f seen 0) ≡ Some turns.1.op = ap (λ p. next_at p.stage) (sym program) ∙ turns.1.next in
      let idle : turns.0.program.stage ≡ Idle = ap (λ p. p.stage) (turns.1.makes.program
      ∙ ap (λ p. end_steps.after p (told_by turns.1.op turns.1.makes.found)) program) in
      compares (subst (Turns end_steps loaded None) (sym (ends_here n turns.0 new idle turns.2)) turns.1)

answered_recv : (f : ℕ) (l : Look) (old new : Seat) → MakesCall end_steps old (call_of Recv f l) new → Answered Recv f l old new
answered_recv f l old new m =
    let s = m.first.makes in
    let n : ℕ = s.found in
    let p = old.program in
    let next : Some (Load f) ≡ Some m.first.op = m.first.next in
    let is : m.first.op ≡ Load f = cc in
    let told : told_by m.first.op n ≡ n = ap (λ o. told_by o n) is in
    let loaded : ℕ → Bool → EndCore = λ k b.
    end_core (if b then Idle else Takes f k) p.frames (p.begun + 1) (if b then EndAct.Taken 0 else p.last) in
    let program : m.begun.program ≡ loaded n (n == 0) = s.program ∙ ap (λ k. loaded k (k == 0)) told in
    let seen = begun_with Recv f l old new m (Load f) is in
    dite (ℕ_discrete n 0)
    (λ (none : n ≡ 0).
    answered_first Recv f l old new m (EndAct.Taken 0) (program ∙ ap (loaded n) (eq-eqb n 0 none)) (inl (
      record {
        others = s.others;
        apart = s.apart;
        whole = seen ∙ ap (λ k. entry old.core (Load f) k (Some (call_of Recv f l)) ∷ (s.others ++ old.seen)) none;
      },
      refl,
    )))
    (λ (some : n ≢ 0).
    later f l n (p.begun + 1) p.last old m.begun new some s.others s.apart seen s.core s.table refl
    (program ∙ ap (loaded n) (ne_eqb n 0 some)) m.count m.rest m.idle)

pub answered : (asks : EndOp) (f : ℕ) (l : Look) (old new : Seat) → MakesCall end_steps old (call_of asks f l) new
    → Answered asks f l old new
answered Send f l old new m = answered_send f l old new m
answered Recv f l old new m = answered_recv f l old new m

module _ (frames cores made : ℕ) (old : Seat) (is : IsSeat frames cores made old) where
  -- a seat that has made a call is one
  pub still_seat : (op : EndOp) (f : ℕ) (l : Look) (new : Seat) → Answered op f l old new → FollowsTrace end_steps new
      → made < most_calls → IsSeat frames cores (made + 1) new
  still_seat op f l new a follows few = record {
    start = subst (λ t. IsStart frames cores t.start) (sym a.table) is.start;
    follows = follows;
    idle = a.idle;
    frames_are = a.frames_are ∙ is.frames_are;
    begun = let more = a.begun in let was = is.begun in omega arith;
    most = omega arith;
  }

  pub acts : (op : EndOp) (f : ℕ) (l : Look) (r : EndReply) (new : Seat) → Answered op f l old new
      → IsSeat frames cores (made + 1) new → r ≡ reply_of new.program.last
      → Acts op f l r (seat_value frames cores made old) (seat_value frames cores (made + 1) new)
  acts op f l r new a now answer = let k = legal frames cores (made + 1) new now in record {
    does = subst (λ x. Does op old.core f l x old.seen new.seen) (sym answer) (a.does k);
    legal = k;
    counted = refl;
    core = a.core;
    table = ap (table_value frames cores) a.table;
  }

  -- a call that was refused
  pub refused : (op : EndOp) (l : Look) (refusal : Reply) → reached op l.reply ≡ Err refusal
      → Comes op l (Refused refusal) (seat_value frames cores made old) (seat_value frames cores (made + 1) old)
  refused op l refusal is_refused = record {
    comes = subst (λ x. ComesTo op old.core l x (Refused refusal) old.seen old.seen) (sym is_refused) (refl, refl);
    legal = legal frames cores made old is;
    counted = refl;
    core = refl;
    table = refl;
  }
