-- The lists are made in a trace that all seats have seen, and the looks of the endpoint calls come after it.
use Rattle.core_runs.specs.core_kernel.specs.flight_laws.specs.flight.specs.step_ways.proofs as low
use low.{◌≡◌, ◌⊎◌, inl, inr, ℕ, suc, ◌+◌, ◌<◌, ◌≤◌, ◌^◌, Bool, false, List, [], ◌∷◌, ◌++◌, All, length, take, get_or, map, Option, Some}
use low.{refl, sym, ◌∙◌, ap, subst, arith, append-nil, append_assoc, slice_get, slice_index, get_or as slice_index_or, flat_map, option_map}
use low.{length-map, take_all, get_or_past, Call, Reply, Setting, IsLegal, Trace, Out, phase, calls_of, phase-other, CoreEnd}
use Rattle.ends_runners.specs.{AreOf, HaveMet, look_call, asks_of, EndRunnerValue, AwaitsEnds, MakesAsks, sends_by, IsReady}
use Rattle.core_runs.specs.core_kernel.specs.{replies_of, AreOfOthers, KernelValue, CoreSeatValue, AreAllSeats, AreFresh, HasSeen}
use Rattle.core_runs.specs.core_kernel.specs.{ExtendsByOthers, EndsAt}
use Rattle.async_ends.specs.{Event, events_by, sent_to, taken_at, history_of, EndTableValue, EndSeatValue, AreStepsOfAll}
use Rattle.core_runs.specs.{RunnerValue, MakesCalls, decided}
use Rattle.core_runs.specs.core_kernel.proofs.{at_of, calls_of-append, replies_of-append}
use Rattle.std.proofs.lemmas.List.{get_or_default, append_cancel_right}
use Rattle.std.proofs.lemmas.List.Elements.{length_all_zip, AllZip-get_or, All-get_or}
use Rattle.std.proofs.lemmas.Option.{slice_get-map, slice_get_within, get_or_from_slice_get}
use Rattle.core_runs.specs.core_kernel.proofs.Lists.{calls_of-others, calls_of-past, replies_of-others, replies_of-other}
use Rattle.core_runs.proofs.Wholes.{all_back, lane, has_calls, all_decisions}
use Rattle.async_ends.specs.{declared.asks.EndAsk.EndAsk, declared.asks.EndDone.EndDone}
use Rattle.async_ends.proofs.Asked.{events_kept, events_none, no_steps, sent_by_cores}
use Rattle.ends_runners.proofs.{Runs.FewOf, Sends.among_events, Sends.by_cores}
use Rattle.ends_run.specs.{declared.whole.Listed.Listed, declared.whole.EndsRan.EndsRan, Ends.EndsHistory, Ends.MakesAsked, Whole.AreListed}
use Rattle.{std.specs.List.AllZip, std.proofs.lemmas.Bool.cases_lt, core_runs.specs.core_kernel.specs.flight_laws.specs.Histories.IsHistory}
use Rattle.{core_runs.specs.Whole.AreRunners, core_runs.specs.core_kernel.proofs.Closing.mapped, ends_runners.specs.Runners.AreEndRunners}
use Rattle.{ends_run.specs.Whole.AreEnded}
use Rattle.async_ends.specs.Events as tables_by
use Rattle.async_ends.specs.Tables as tables

the_same : {A : Type 0} (x y : A) (o : Option A) → o ≡ Some x → o ≡ Some y → x ≡ y
the_same x y o i j = cc

-- steps of others leave a core where it was
phase_others : (c : ℕ) (s t : Trace) → AreOfOthers c s → phase (s ++ t) c ≡ phase t c
phase_others c [] t h = refl
phase_others c (e ∷ s) t h = phase-other c e (s ++ t) (λ own. h 0 e (omega arith) (sym own))
    ∙ phase_others c s t (λ k d lt. h (suc k) d (omega arith))

-- a core that is none of the machine's makes no call
phase_past : (setup : Setting) (c : ℕ) (t : Trace) → setup.cores ≤ c → IsLegal setup t → phase t c ≡ Out
phase_past setup c [] past legal = refl
phase_past setup c (e ∷ t) past legal = phase-other c e t (λ own. let here = legal.1.is_core in omega arith)
    ∙ phase_past setup c t past legal.0

-- ---- the lists

module _ (of : KernelValue) (seats : List CoreSeatValue) (all : AreAllSeats of seats) (fresh : AreFresh seats) (lists : List (List Call))
    (runners : List RunnerValue) (are : AreRunners seats lists runners) (free : Bool) (after : List RunnerValue)
    (make : AllZip (MakesCalls free) runners after) (whole : All (λ r. r.held ≡ false) after) where
  abbrev back : List CoreSeatValue
  back = map (λ r. r.seat) after

  returned_seats : AreAllSeats of back
  returned_seats = all_back of seats all fresh lists runners are free after make

  -- and each has seen a history
  pub back_of : AreOf of back
  back_of k s at =
      let x = mapped (λ (r : RunnerValue). r.seat) after k s at in
      let lt = slice_get_within back k s at in
      let size = returned_seats.count in
      let w = lane of seats all fresh lists runners are free after make k (omega arith) in (
        returned_seats.kernel k s at,
        subst HasSeen (ap (λ r. r.seat) (the_same w.now x.0 (slice_get after k) w.at x.1) ∙ x.2) w.makes.seen,
      )

  module _ (new : List CoreSeatValue) (met : HaveMet back new) (are_of : AreOf of new) (some : 0 < of.setup.cores) where
    -- all seats are still those of the kernel
    all_met : AreAllSeats of new
    all_met = record {
      count = met.count ∙ returned_seats.count;
      kernel = λ k s at. (are_of k s at).0;
      core = λ k s at.
          let lt : k < length back = (let n = slice_get_within new k s at in let m = met.count in omega arith) in
          let x = met.each k lt in
          ap (λ z. z.core) (the_same s x.on.on (slice_get new k) at x.on.at) ∙ x.on.goes.core ∙ returned_seats.core k x.on.was x.on.was_at;
    }

    begins : (k : ℕ) (s : CoreSeatValue) → slice_get back k ≡ Some s → ExtendsByOthers s.core s.seen met.first
    begins k s at =
        let x = met.each k (slice_get_within back k s at) in
        subst (λ (z : CoreSeatValue). ExtendsByOthers z.core z.seen met.first)
        (the_same x.on.was s (slice_get back k) x.on.was_at at) x.begins

    history : IsHistory of.setup met.first
    history =
        let f = at_of new 0 (let n = all_met.count in omega arith) in
        let are = are_of 0 f.x f.at in
        subst (λ (z : KernelValue × Trace). IsHistory z.0.setup z.1) (λ i. (are.0 i, met.seen f.x f.at i)) are.1.history

    out : (c : ℕ) → phase met.first c ≡ Out
    out c = elim (cases_lt c of.setup.cores) [
      | inl h ↦
          let l = lane of seats all fresh lists runners are free after make c h in
          let at : slice_get back c ≡ Some l.now.seat =
          slice_get-map (λ (r : RunnerValue). r.seat) after c ∙ ap (option_map (λ (r : RunnerValue). r.seat)) l.at in
          let core : l.now.seat.core ≡ c = returned_seats.core c l.now.seat at in
          let x = begins c l.now.seat at in
          subst (λ (i : ℕ). phase met.first i ≡ Out) core
          (ap (λ (t : Trace). phase t l.now.seat.core) x.begins ∙ phase_others l.now.seat.core x.since l.now.seat.seen x.apart
          ∙ l.makes.seen.between)
      | inr past ↦ phase_past of.setup c met.first past history.legal
    ]

    pub listed : (setup : Setting) (l : Listed) → of.setup ≡ setup → length lists ≡ of.setup.cores → l.kernel ≡ of → l.seats.items ≡ new
        → l.decisions.items ≡ flat_map decided after → AreListed setup lists l
    listed setup l is one_each kernel seats_are decisions =
        subst (λ (s : Setting). AreListed s lists l) is record {
          setup_is = ap (λ k. k.setup) kernel;
          all = subst (λ (z : KernelValue × List CoreSeatValue). AreAllSeats z.0 z.1) (λ i. (sym kernel i, sym seats_are i)) all_met;
          first = met.first;
          history = history;
          calls = has_calls of seats all fresh lists runners are free after make met.first history out begins whole one_each;
          seen = λ k s at.
              let there : slice_get new k ≡ Some s = ap (λ (z : List CoreSeatValue). slice_get z k) (sym seats_are) ∙ at in
              let lt : k < length back = (let n = slice_get_within new k s there in let m = met.count in omega arith) in
              let x = met.each k lt in
              let core : x.on.was.core ≡ k = returned_seats.core k x.on.was x.on.was_at in (
                subst (λ (z : ℕ × CoreSeatValue). ExtendsByOthers z.0 met.first z.1.seen)
                    (λ i. (core i, the_same x.on.on s (slice_get new k) x.on.at there i)) x.ends,
                (are_of k s there).1,
              );
          decisions = decisions ∙ all_decisions of seats all fresh lists runners are free after make met.first history out begins whole;
        }

-- ---- the endpoint calls

append_none : {A : Type 0} (xs ys : List A) → xs ++ ys ≡ [] → ys ≡ []
append_none [] ys e = e
append_none (x ∷ xs) ys e = absurd (let n = ap length e in omega arith)

replies_of_past : (setup : Setting) (c : ℕ) (t : Trace) → setup.cores ≤ c → IsLegal setup t → replies_of t c ≡ []
replies_of_past setup c [] past legal = refl
replies_of_past setup c (e ∷ t) past legal = replies_of-other c e t (λ own. let here = legal.1.is_core in omega arith)
    ∙ replies_of_past setup c t past legal.0

module _ (setup : Setting) (lists : List (List Call)) (l : Listed) (is : AreListed setup lists l) where
  pub seat_count : length l.seats.items ≡ setup.cores
  seat_count = is.all.count ∙ ap (λ s. s.cores) is.setup_is

  -- their seats are of the kernel
  pub all_of : All (λ s. s.kernel ≡ l.kernel) l.seats.items
  all_of k d h =
      let r = at_of l.seats.items k h in
      subst (λ (s : CoreSeatValue). s.kernel ≡ l.kernel) (sym r.read ∙ get_or_default l.seats.items k r.x d h) (is.all.kernel k r.x r.at)

module _ (setup : Setting) (lists : List (List Call)) (l : Listed) (is : AreListed setup lists l) (asks : List (List EndAsk))
    (table : EndTableValue) (ends : List EndSeatValue) (all : tables.AreAllSeats table ends) (fresh : tables.AreFresh ends)
    (cores : table.cores ≡ setup.cores) (frames : 512 ≤ table.frames) (one_asks_each : length asks ≡ setup.cores)
    (some : 0 < setup.cores) (runners : List EndRunnerValue) (are : AreEndRunners l.seats.items ends asks runners) where
  -- they wait at the kernel and the table
  pub all_await : All (AwaitsEnds table) runners
  all_await k d h =
      let r = at_of runners k h in
      let e = are.each k r.x r.at in
      let same : r.x ≡ get_or runners k d = sym r.read ∙ get_or_default runners k r.x d h in
      subst (AwaitsEnds table) same record {
        seen = (is.seen k r.x.who e.seat).1;
        table_is = all.table k r.x.seat e.end;
        frames = frames;
        core = all.core k r.x.seat e.end ∙ sym (is.all.core k r.x.who e.seat);
        fresh = (fresh k r.x.seat e.end).1;
        none = e.none;
        free = e.free;
      }

  module _ (free : Bool) (after : List EndRunnerValue) (make : AllZip (MakesAsks free) runners after) where
    pub count : length after ≡ setup.cores
    count = sym (length_all_zip (MakesAsks free) runners after make) ∙ are.count ∙ seat_count setup lists l is

    -- what the runner of core k was and is
    record EndLane (k : ℕ) : Type 0 where
      before : EndRunnerValue
      now : EndRunnerValue
      at : slice_get after k ≡ Some now
      ready : IsReady l.seats.items ends asks k before
      makes : MakesAsks free before now
      core : before.who.core ≡ k

    end_lane : (k : ℕ) → k < setup.cores → EndLane k
    end_lane k h =
        let n = are.count in
        let m = seat_count setup lists l is in
        let size = count in
        let inside : k < length runners = omega arith in
        let r = at_of runners k inside in
        let a = at_of after k (omega arith) in
        let e = are.each k r.x r.at in
        record {
          before = r.x;
          now = a.x;
          at = a.at;
          ready = e;
          makes = subst (λ (z : EndRunnerValue × EndRunnerValue). MakesAsks free z.0 z.1) (λ i. (r.read i, a.read i))
              (AllZip-get_or (MakesAsks free) runners after k r.x a.x make inside);
          core = is.all.core k r.x.who e.seat;
        }

    below : {A : Type 0} (f : EndRunnerValue → A) (k : ℕ) (s : A) → slice_get (map f after) k ≡ Some s → k < setup.cores
    below f k s e = let lt = slice_get_within (map f after) k s e in let n = length-map after f in let m = count in omega arith

    pub who_back : AreAllSeats l.kernel (map (λ r. r.who) after)
    who_back = record {
      count = length-map after (λ r. r.who) ∙ count ∙ sym (ap (λ s. s.cores) is.setup_is);
      kernel = λ k s e.
          let x = mapped (λ (r : EndRunnerValue). r.who) after k s e in
          let w = end_lane k (below (λ r. r.who) k s e) in
          sym (ap (λ z. z.kernel) x.2) ∙ ap (λ r. r.who.kernel) (the_same x.0 w.now (slice_get after k) x.1 w.at) ∙ w.makes.does.kernel
          ∙ is.all.kernel k w.before.who w.ready.seat;
      core = λ k s e.
          let x = mapped (λ (r : EndRunnerValue). r.who) after k s e in
          let w = end_lane k (below (λ r. r.who) k s e) in
          sym (ap (λ z. z.core) x.2) ∙ ap (λ r. r.who.core) (the_same x.0 w.now (slice_get after k) x.1 w.at) ∙ w.makes.does.core ∙ w.core;
    }

    pub ends_back : tables.AreAllSeats table (map (λ r. r.seat) after)
    ends_back = record {
      count = length-map after (λ r. r.seat) ∙ count ∙ sym cores;
      table = λ k s e.
          let x = mapped (λ (r : EndRunnerValue). r.seat) after k s e in
          let w = end_lane k (below (λ r. r.seat) k s e) in
          sym (ap (λ z. z.table) x.2) ∙ ap (λ r. r.seat.table) (the_same x.0 w.now (slice_get after k) x.1 w.at) ∙ w.makes.does.table
          ∙ all.table k w.before.seat w.ready.end;
      core = λ k s e.
          let x = mapped (λ (r : EndRunnerValue). r.seat) after k s e in
          let w = end_lane k (below (λ r. r.seat) k s e) in
          sym (ap (λ z. z.core) x.2) ∙ ap (λ r. r.seat.core) (the_same x.0 w.now (slice_get after k) x.1 w.at) ∙ w.makes.does.seat_core
          ∙ all.core k w.before.seat w.ready.end;
    }

    module _ (words : List ℕ) (core_ends : List CoreEnd) (end : EndsAt l.kernel (map (λ r. r.who) after) words core_ends)
        (counts : List ℕ) (closed : tables.EndsAt table (map (λ r. r.seat) after) counts) (whole : All (λ r. r.held ≡ false) after) where
      abbrev t : Trace
      t = end.trace

      abbrev events : List Event
      events = closed.history

      -- how the trace at the end goes on after the lists: by steps of others, those of the core's own looks among them, and steps of others
      record Since (k : ℕ) (w : EndLane k) : Type 0 where
        front : Trace
        back : Trace
        whole_is : t ≡ (back ++ (w.makes.does.since ++ front)) ++ is.first
        front_apart : AreOfOthers k front
        back_apart : AreOfOthers k back

      since_of : (k : ℕ) (w : EndLane k) → Since k w
      since_of k w =
          let s = (is.seen k w.before.who w.ready.seat).0 in
          let at : slice_get (map (λ (r : EndRunnerValue). r.who) after) k ≡ Some w.now.who =
          slice_get-map (λ (r : EndRunnerValue). r.who) after k ∙ ap (option_map (λ (r : EndRunnerValue). r.who)) w.at in
          let x = end.begins k w.now.who at in
          let m = w.makes.does.since in
          record {
            front = s.since;
            back = x.since;
            whole_is = x.begins ∙ ap (λ (u : Trace). x.since ++ u) (w.makes.does.begins ∙ ap (λ (u : Trace). m ++ u) s.begins
                ∙ sym (append_assoc m s.since is.first)) ∙ sym (append_assoc x.since (m ++ s.since) is.first);
            front_apart = s.apart;
            back_apart = subst (λ (i : ℕ). AreOfOthers i x.since) (w.makes.does.core ∙ w.core) x.apart;
          }

      first_lane : EndLane 0
      first_lane = end_lane 0 some

      abbrev looks : Trace
      looks = (since_of 0 first_lane).back ++ (first_lane.makes.does.since ++ (since_of 0 first_lane).front)

      looks_are : (k : ℕ) (w : EndLane k) → looks ≡ (since_of k w).back ++ (w.makes.does.since ++ (since_of k w).front)
      looks_are k w = append_cancel_right looks ((since_of k w).back ++ (w.makes.does.since ++ (since_of k w).front)) is.first
          (sym (since_of 0 first_lane).whole_is ∙ (since_of k w).whole_is)

      calls_here : (k : ℕ) (w : EndLane k) → calls_of looks k ≡ calls_of w.makes.does.since k
      calls_here k w =
          let s = since_of k w in
          let m = w.makes.does.since in
          ap (λ (u : Trace). calls_of u k) (looks_are k w) ∙ calls_of-append k s.back (m ++ s.front)
          ∙ ap (λ (q : List Call). calls_of (m ++ s.front) k ++ q) (calls_of-others k s.back s.back_apart)
          ∙ append-nil (calls_of (m ++ s.front) k) ∙ calls_of-append k m s.front
          ∙ ap (λ (q : List Call). q ++ calls_of m k) (calls_of-others k s.front s.front_apart)

      replies_here : (k : ℕ) (w : EndLane k) → replies_of looks k ≡ replies_of w.makes.does.since k
      replies_here k w =
          let s = since_of k w in
          let m = w.makes.does.since in
          ap (λ (u : Trace). replies_of u k) (looks_are k w) ∙ replies_of-append k s.back (m ++ s.front)
          ∙ ap (λ (q : List Reply). replies_of (m ++ s.front) k ++ q) (replies_of-others k s.back s.back_apart)
          ∙ append-nil (replies_of (m ++ s.front) k) ∙ replies_of-append k m s.front
          ∙ ap (λ (q : List Reply). q ++ replies_of m k) (replies_of-others k s.front s.front_apart)

      events_here : (k : ℕ) (w : EndLane k) → AreStepsOfAll k w.now.done (events_by events k)
      events_here k w =
          let at : slice_get (map (λ (r : EndRunnerValue). r.seat) after) k ≡ Some w.now.seat =
          slice_get-map (λ (r : EndRunnerValue). r.seat) after k ∙ ap (option_map (λ (r : EndRunnerValue). r.seat)) w.at in
          let core : w.now.seat.core ≡ k = ends_back.core k w.now.seat at in
          let kept : events_by events k ≡ events_by (history_of w.now.seat.seen) k =
          events_kept k (history_of w.now.seat.seen) events
          (subst (λ (i : ℕ). tables_by.ExtendsByOthers i (history_of w.now.seat.seen) events) core (closed.begins k w.now.seat at)) in
          let none : history_of w.before.seat.seen ≡ [] = ap history_of (fresh k w.before.seat w.ready.end).0 in
          let own : List Event = w.makes.does.events in
          let made : events_by (history_of w.now.seat.seen) k ≡ events_by (history_of w.before.seat.seen) k ++ own =
          subst (λ (i : ℕ). events_by (history_of w.now.seat.seen) i ≡ events_by (history_of w.before.seat.seen) i ++ own) w.core
          w.makes.does.grown in
          let all : events_by events k ≡ own = kept ∙ made ∙ ap (λ (h : List Event). events_by h k ++ own) none in
          subst (AreStepsOfAll k w.now.done) (sym all) (subst (λ (i : ℕ). AreStepsOfAll i w.now.done own) w.core w.makes.does.made)

      held_at : (P : EndRunnerValue → Type 0) (xs : List EndRunnerValue) (n : ℕ) (x : EndRunnerValue) → All P xs
          → slice_get xs n ≡ Some x → P x
      held_at P xs n x every at = subst P (get_or_from_slice_get xs n x x at) (All-get_or P xs n x (slice_get_within xs n x at) every)

      abbrev setup_history : IsHistory setup t
      setup_history = subst (λ (s : Setting). IsHistory s t) is.setup_is end.history

      split : t ≡ looks ++ is.first
      split = (since_of 0 first_lane).whole_is

      nothing_past : (c : ℕ) → setup.cores ≤ c → MakesAsked c (asks_of asks c) looks events
      nothing_past c past = record {
        done = [];
        asked = sym (get_or_past asks c [] (omega arith));
        looked = append_none (calls_of is.first c) (calls_of looks c) (sym (calls_of-append c looks is.first)
            ∙ ap (λ (u : Trace). calls_of u c) (sym split) ∙ calls_of-past setup c t past setup_history.legal);
        replied = append_none (replies_of is.first c) (replies_of looks c) (sym (replies_of-append c looks is.first)
            ∙ ap (λ (u : Trace). replies_of u c) (sym split) ∙ replies_of_past setup c t past setup_history.legal);
        made = no_steps c (events_by events c) (events_none c events (closed.no_other c (let n = cores in omega arith)));
      }

      made_here : (c : ℕ) (w : EndLane c) → MakesAsked c (asks_of asks c) looks events
      made_here c w =
          let held : w.now.held ≡ false = held_at (λ r. r.held ≡ false) after c w.now whole w.at in
          let all_made : length w.now.done ≡ length w.before.asks = w.makes.whole held in
          record {
            done = w.now.done;
            asked = w.makes.asked ∙ take_all (length w.now.done) w.before.asks (omega arith) ∙ w.ready.asked;
            looked = calls_here c w
                ∙ subst (λ (i : ℕ). calls_of w.makes.does.since i ≡ map look_call w.now.done) w.core w.makes.does.looked;
            replied = replies_here c w
                ∙ subst (λ (i : ℕ). replies_of w.makes.does.since i ≡ map (λ d. d.looked) w.now.done) w.core w.makes.does.replied;
            made = events_here c w;
          }

      made_by : (c : ℕ) → (c < setup.cores) ⊎ (setup.cores ≤ c) → MakesAsked c (asks_of asks c) looks events
      made_by c (inl h) = made_here c (end_lane c h)
      made_by c (inr past) = nothing_past c past

      -- the two histories
      abbrev both : EndsHistory setup lists asks
      both = record {
        first = is.first;
        looks = looks;
        history = subst (IsHistory setup) split setup_history;
        calls = is.calls;
        returned = λ c. ap (λ (u : Trace). phase u c) (sym split) ∙ end.returned c;
        events = events;
        legal = closed.legal;
        crossed = closed.crossed;
        made = λ c. made_by c (cases_lt c setup.cores);
        balance = λ f. ap (λ n. n + taken_at events f) (sym (closed.left f)) ∙ closed.balance f;
      }

      abbrev dones : List (List EndDone)
      dones = map (λ r. r.done) after

      done_by : (c : ℕ) (at : (c < setup.cores) ⊎ (setup.cores ≤ c)) → slice_index_or dones c [] ≡ (made_by c at).done
      unfolding made_by end_lane made_here nothing_past
      done_by c (inl h) =
          let w = end_lane c h in
          get_or_from_slice_get dones c w.now.done [] (slice_get-map (λ (r : EndRunnerValue). r.done) after c
          ∙ ap (option_map (λ (r : EndRunnerValue). r.done)) w.at)
      done_by c (inr past) =
          get_or_past dones c [] (let n = length-map after (λ (r : EndRunnerValue). r.done) in let m = count in omega arith)

      few_by : (c : ℕ) → All (FewOf 4194304) asks → (at : (c < setup.cores) ⊎ (setup.cores ≤ c)) → length (made_by c at).done < 2 ^ 32
      unfolding made_by end_lane made_here nothing_past
      few_by c few (inl h) =
          let w = end_lane c h in
          let within = w.makes.within in
          let same = ap length w.ready.asked in
          let most : length (asks_of asks c) ≤ 4194304 = All-get_or (FewOf 4194304) asks c [] (omega arith) few in
          omega arith
      few_by c few (inr past) = omega arith

      sends_are : (f : ℕ) → sends_by after f ≡ sent_to events f
      sends_are f =
          let n = count in
          let all_of : take setup.cores after ≡ after = take_all setup.cores after (omega arith) in
          ap (λ (q : List EndRunnerValue). sends_by q f) (sym all_of)
          ∙ by_cores after (λ c. sent_to (events_by events c) f) setup.cores f (omega arith)
          (λ k h. let w = end_lane k h in
          (w.now, w.at, sym (among_events k w.now.done (events_by events k) f (events_here k w))))
          ∙ sym (sent_by_cores setup.cores events f (λ c past. closed.no_other c (let m = cores in omega arith)))

      pub ended : (ran : EndsRan) → All (FewOf 4194304) asks → ran.decisions.items ≡ l.decisions.items
          → map (λ v. v.items) ran.done.items ≡ dones → ((f : ℕ) → slice_index ran.sent.items f ≡ sends_by after f)
          → length ran.sent.items ≡ 512 → ran.left.items ≡ counts → table.frames ≡ 512 → AreEnded setup lists asks ran
      ended ran few decisions done sent sent_count left frames_are = record {
        ends = both;
        decisions = decisions ∙ is.decisions;
        count = sym (length-map ran.done.items (λ v. v.items)) ∙ ap length done ∙ length-map after (λ (r : EndRunnerValue). r.done) ∙ count;
        done = λ c h. ap (λ (q : List (List EndDone)). slice_index_or q c []) done ∙ done_by c (cases_lt c setup.cores);
        few = λ c. subst (λ (q : List EndDone). length q < 2 ^ 32)
            (sym (ap (λ (q : List (List EndDone)). slice_index_or q c []) done ∙ done_by c (cases_lt c setup.cores)))
            (few_by c few (cases_lt c setup.cores));
        sent = λ f. sent f ∙ sends_are f;
        left = λ f. ap (λ (q : List ℕ). slice_index q f) left ∙ closed.left f;
        sent_count = sent_count;
        left_count = ap length left ∙ closed.count ∙ frames_are;
      }
