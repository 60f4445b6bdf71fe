-- Whole lists, made by runners of all cores, are the calls of one trace.
use Rattle.core_kernel.specs.flight_laws.specs.flight.specs.step_ways.proofs.{◌≡◌, inl, inr, ℕ, zero, suc, ◌+◌, ◌<◌, ◌≤◌, Bool, true, false}
use Rattle.core_kernel.specs.flight_laws.specs.flight.specs.step_ways.proofs.{List, [], ◌∷◌, ◌++◌, length, take, slice_get, get_or, map}
use Rattle.core_kernel.specs.flight_laws.specs.flight.specs.step_ways.proofs.{Some, refl, sym, ◌∙◌, ap, subst, arith, append-nil}
use Rattle.core_kernel.specs.flight_laws.specs.flight.specs.step_ways.proofs.{append_assoc, ◌^◌, All, flat_map, option_map, length-map}
use Rattle.core_kernel.specs.flight_laws.specs.flight.specs.step_ways.proofs.{length-take-le, take_all, take_more, get_or_past, Call, Reply}
use Rattle.core_kernel.specs.flight_laws.specs.flight.specs.step_ways.proofs.{Decision, CoreEnd, shape_of, HasCalls, list_of}
use Rattle.core_kernel.specs.flight_laws.specs.flight.specs.step_ways.proofs.{RepresentCounts, Represent, word_in, end_in, Trace, Out}
use Rattle.core_kernel.specs.flight_laws.specs.flight.specs.step_ways.proofs.{phase, calls_of, state_after}
use Rattle.core_runs.specs.{RunnerValue, MakesCalls, numbered, decided, decisions_below, IsList, AreMade}
use Rattle.core_kernel.specs.{replies_of, KernelValue, CoreSeatValue, AreAllSeats, AreFresh, ExtendsByOthers, EndsAt}
use Rattle.core_kernel.proofs.{at_of, calls_of-append, replies_of-append}
use Rattle.std.proofs.{lemmas.Bool.cases_lt, lemmas.Grind.flat_map-append, lemmas.List.Concat.flat_map-cons}
use Rattle.std.proofs.{lemmas.List.Elements.length_all_zip, lemmas.List.Elements.AllZip-get_or, lemmas.List.Elements.All-get_or}
use Rattle.std.proofs.{lemmas.Option.slice_get-map, lemmas.Option.slice_get_within, lemmas.Option.get_or_from_slice_get}
use Rattle.core_kernel.proofs.{Closing.At, Closing.mapped, Lists.calls_of-others, Lists.calls_of-past, Lists.replies_of-others}
use Rattle.core_runs.specs.{declared.whole.Ran.Ran, Runs.IsWaiting, Whole.AreRunners}
use Rattle.core_runs.proofs.Numbered.{numbered-push, decisions_numbered}
use Rattle.{std.specs.List.AllZip, core_kernel.specs.kernel_history.specs.Text.decisions_by}
use Rattle.{core_kernel.specs.flight_laws.specs.Histories.IsHistory}

module _ (of : KernelValue) (seats : List CoreSeatValue) (all : AreAllSeats of seats) (fresh : AreFresh seats) (lists : List (List Call))
    (runners : List RunnerValue) (are : AreRunners seats lists runners) where
  -- they wait at the kernel
  pub all_wait : All (IsWaiting of) runners
  all_wait k d h =
      let r = at_of runners k h in
      let e = are.each k r.x r.at in
      subst (IsWaiting of) (get_is r d) (record { kernel = all.kernel k r.x.seat e.seat; none = e.none; free = e.free })
    where
      get_is : (r : At runners k) (d : RunnerValue) → r.x ≡ get_or runners k d
      get_is r d = sym r.read ∙ same_read runners k r.x d h
        where
          same_read : (xs : List RunnerValue) (n : ℕ) (x y : RunnerValue) → n < length xs → get_or xs n x ≡ get_or xs n y
          same_read [] n x y lt = absurd (omega arith)
          same_read (z ∷ xs) zero x y lt = refl
          same_read (z ∷ xs) (suc n) x y lt = same_read xs n x y (omega arith)

  module _ (free : Bool) (after : List RunnerValue) (make : AllZip (MakesCalls free) runners after) where
    count : length after ≡ of.setup.cores
    count = sym (length_all_zip (MakesCalls free) runners after make) ∙ are.count ∙ all.count

    -- what the runner of core k was and is
    pub record Lane (k : ℕ) : Type 0 where
      pub before : RunnerValue
      pub now : RunnerValue
      pub at : slice_get after k ≡ Some now
      pub makes : MakesCalls free before now
      pub core : before.seat.core ≡ k
      pub kernel : before.seat.kernel ≡ of
      pub calls : before.calls ≡ list_of lists k
      pub none : before.seat.seen ≡ []

    pub lane : (k : ℕ) → k < of.setup.cores → Lane k
    lane k h =
        let n = are.count in
        let m = all.count in
        let size = count in
        let inside : k < length runners = omega arith in
        let r = at_of runners k inside in
        let a = at_of after k (omega arith) in
        let e = are.each k r.x r.at in
        record {
          before = r.x;
          now = a.x;
          at = a.at;
          makes = subst (λ (z : RunnerValue × RunnerValue). MakesCalls free z.0 z.1) (λ i. (r.read i, a.read i))
              (AllZip-get_or (MakesCalls free) runners after k r.x a.x make inside);
          core = all.core k r.x.seat e.seat;
          kernel = all.kernel k r.x.seat e.seat;
          calls = e.calls;
          none = fresh k r.x.seat e.seat;
        }

    -- their seats are all seats of the kernel
    pub all_back : AreAllSeats of (map (λ r. r.seat) after)
    all_back = record {
      count = length-map after (λ r. r.seat) ∙ count;
      kernel = λ k s e.
          let x = mapped (λ (r : RunnerValue). r.seat) after k s e in
          let l = lane k (below k s e) in
          sym (ap (λ z. z.kernel) x.2) ∙ ap (λ r. r.seat.kernel) (same_at k x.0 l.now x.1 l.at) ∙ l.makes.kernel ∙ l.kernel;
      core = λ k s e.
          let x = mapped (λ (r : RunnerValue). r.seat) after k s e in
          let l = lane k (below k s e) in
          sym (ap (λ z. z.core) x.2) ∙ ap (λ r. r.seat.core) (same_at k x.0 l.now x.1 l.at) ∙ l.makes.core ∙ l.core;
    }
      where
        same_at : (k : ℕ) (x y : RunnerValue) → slice_get after k ≡ Some x → slice_get after k ≡ Some y → x ≡ y
        same_at k x y i j = cc

        below : (k : ℕ) (s : CoreSeatValue) → slice_get (map (λ r. r.seat) after) k ≡ Some s → k < of.setup.cores
        below k s e = let lt = slice_get_within (map (λ (r : RunnerValue). r.seat) after) k s e in
            let n = length-map after (λ (r : RunnerValue). r.seat) in let m = count in omega arith

    module _ (t : Trace) (history : IsHistory of.setup t) (returned : (c : ℕ) → phase t c ≡ Out)
        (begins : (k : ℕ) (s : CoreSeatValue) → slice_get (map (λ r. r.seat) after) k ≡ Some s → ExtendsByOthers s.core s.seen t)
        (whole : All (λ r. r.held ≡ false) after) where
      -- in a trace that begins with what each has seen a core's calls are its list, and its replies those of its runner
      pub record LaneEnds (k : ℕ) : Type 0 where
        pub now : RunnerValue
        pub at : slice_get after k ≡ Some now
        pub core : now.seat.core ≡ k
        pub calls : calls_of t k ≡ list_of lists k
        pub replies : replies_of t k ≡ now.replies

      pub lane_ends : (k : ℕ) → k < of.setup.cores → LaneEnds k
      lane_ends k h =
          let l = lane k h in
          let m = l.makes in
          let a = l.now in
          let c : ℕ = a.seat.core in
          let here : c ≡ k = m.core ∙ l.core in
          let at : slice_get (map (λ (r : RunnerValue). r.seat) after) k ≡ Some a.seat =
          slice_get-map (λ (r : RunnerValue). r.seat) after k ∙ ap (option_map (λ (r : RunnerValue). r.seat)) l.at in
          let x = begins k a.seat at in
          let seen : a.seat.seen ≡ m.since ++ [] = m.begins ∙ ap (λ (s : Trace). m.since ++ s) l.none in
          let held : a.held ≡ false = held_at (λ r. r.held ≡ false) after k a whole l.at in
          let all_made : length a.replies ≡ length l.before.calls = m.whole held in
          let calls_then : calls_of m.since c ≡ l.before.calls =
          subst (λ (i : ℕ). calls_of m.since i ≡ take (length a.replies) l.before.calls) (sym m.core) m.calls_are
          ∙ take_all (length a.replies) l.before.calls (omega arith) in
          let replies_then : replies_of m.since c ≡ a.replies =
          subst (λ (i : ℕ). replies_of m.since i ≡ a.replies) (sym m.core) m.replies_are in
          let calls : calls_of t c ≡ list_of lists k =
          ap (λ (s : Trace). calls_of s c) x.begins ∙ calls_of-append c x.since a.seat.seen
          ∙ ap (λ (q : List Call). calls_of a.seat.seen c ++ q) (calls_of-others c x.since x.apart)
          ∙ append-nil (calls_of a.seat.seen c)
          ∙ ap (λ (s : Trace). calls_of s c) seen ∙ calls_of-append c m.since [] ∙ calls_then ∙ l.calls in
          let replies : replies_of t c ≡ a.replies =
          ap (λ (s : Trace). replies_of s c) x.begins ∙ replies_of-append c x.since a.seat.seen
          ∙ ap (λ (q : List Reply). replies_of a.seat.seen c ++ q) (replies_of-others c x.since x.apart)
          ∙ append-nil (replies_of a.seat.seen c)
          ∙ ap (λ (s : Trace). replies_of s c) seen ∙ replies_of-append c m.since [] ∙ replies_then in
          record {
            now = a;
            at = l.at;
            core = here;
            calls = subst (λ (i : ℕ). calls_of t i ≡ list_of lists k) here calls;
            replies = subst (λ (i : ℕ). replies_of t i ≡ a.replies) here replies;
          }
        where
          held_at : (P : RunnerValue → Type 0) (xs : List RunnerValue) (n : ℕ) (x : RunnerValue) → All P xs → slice_get xs n ≡ Some x → P x
          held_at P xs n x every is = subst P (get_or_from_slice_get xs n x x is) (All-get_or P xs n x (slice_get_within xs n x is) every)

      pub has_calls : length lists ≡ of.setup.cores → HasCalls lists t
      has_calls one_each c = record {
        out = returned c;
        finished = elim (cases_lt c of.setup.cores) [
          | inl h ↦ (lane_ends c h).calls
          | inr past ↦ calls_of-past of.setup c t past history.legal ∙ sym (get_or_past lists c [] (omega arith))
        ];
      }

      -- the decisions of the first n runners are those of the first n cores
      pub up_to : (n : ℕ) → n ≤ of.setup.cores → flat_map decided (take n after) ≡ decisions_below t n
      up_to zero h = refl
      up_to (suc n) h =
          let l = lane_ends n (omega arith) in
          let size = count in
          let next : suc n ≡ n + 1 = omega arith in
          let more = take_more after n l.now (omega arith) in
          let read : get_or after n l.now ≡ l.now = get_or_from_slice_get after n l.now l.now l.at in
          let own : decided l.now ≡ decisions_by t n =
          ap (λ (z : ℕ × List Reply). numbered z.0 1 z.1) (λ i. (l.core i, sym l.replies i))
          ∙ sym (decisions_numbered of.setup n t history.legal) in
          ap (λ (k : ℕ). flat_map decided (take k after)) next ∙ ap (flat_map decided) (more ∙ ap (λ r. take n after ++ r ∷ []) read)
          ∙ flat_map-append decided (take n after) (l.now ∷ [])
          ∙ ap (λ (q : List Decision). flat_map decided (take n after) ++ q) (flat_map-cons decided l.now [] ∙ append-nil (decided l.now)
          ∙ own)
          ∙ ap (λ (q : List Decision). q ++ decisions_by t n) (up_to n (omega arith))

      -- the decisions of all runners are those of all cores
      pub all_decisions : flat_map decided after ≡ decisions_below t of.setup.cores
      all_decisions = ap (flat_map decided) (sym (take_all of.setup.cores after (let size = count in omega arith)))
          ∙ up_to of.setup.cores (omega arith)

    module _ (words : List ℕ) (ends : List CoreEnd) (end : EndsAt of (map (λ r. r.seat) after) words ends)
        (whole : All (λ r. r.held ≡ false) after) where
      pub are_made : length lists ≡ of.setup.cores → (ran : Ran) → ran.decisions.items ≡ flat_map decided after
          → ran.closed.layout ≡ shape_of of.setup → ran.closed.words.items ≡ words → ran.closed.ends.items ≡ ends
          → AreMade of.setup lists ran
      are_made one_each ran decisions layout words_are ends_are = record {
        trace = end.trace;
        history = end.history;
        calls = has_calls end.trace end.history end.returned end.begins whole one_each;
        decisions = decisions ∙ all_decisions end.trace end.history end.returned end.begins whole;
        layout = layout;
        represent = subst (λ (z : List ℕ × List CoreEnd). Represent (word_in (shape_of of.setup) z.0) (end_in z.1)
            (state_after of.setup end.trace)) (λ i. (sym words_are i, sym ends_are i)) end.represent;
        counts = subst (λ (z : List ℕ). RepresentCounts (word_in (shape_of of.setup) z) (state_after of.setup end.trace))
            (sym words_are) end.counts;
        word_count = ap length words_are ∙ end.word_count;
        end_count = ap length ends_are ∙ end.end_count;
      }

-- runners of a free gate are not held
pub all_free : (free : Bool) (xs ys : List RunnerValue) → free ≡ true → AllZip (MakesCalls free) xs ys → All (λ r. r.held ≡ false) ys
all_free free xs ys is make k d h = let size = length_all_zip (MakesCalls free) xs ys make in
    (AllZip-get_or (MakesCalls free) xs ys k d d make (omega arith)).free is

-- runners of short lists have few replies
pub few_replies : (seats : List CoreSeatValue) (lists : List (List Call)) (free : Bool) (xs ys : List RunnerValue)
    → length lists ≡ length seats → All IsList lists → AreRunners seats lists xs → AllZip (MakesCalls free) xs ys
    → All (λ r. length r.replies < 2 ^ 32) ys
few_replies seats lists free xs ys one_each all are make k d h =
    let size = length_all_zip (MakesCalls free) xs ys make in
    let count = are.count in
    let inside : k < length xs = omega arith in
    let r = at_of xs k inside in
    let m : MakesCalls free r.x (get_or ys k d) = subst (λ x. MakesCalls free x (get_or ys k d)) r.read
    (AllZip-get_or (MakesCalls free) xs ys k r.x d make inside) in
    let list = All-get_or IsList lists k [] (omega arith) all in
    let same = ap length (are.each k r.x r.at).calls in
    let within = m.within in
    let few = list.few in
    omega arith

-- one more decision
pub decisions_more : (core : ℕ) (rs : List Reply) (n i : ℕ) (r : Reply) (old all new : List Decision)
    → all ≡ old ++ numbered core 1 (take n rs) → new ≡ all ++ record { core = core; index = i; reply = r } ∷ [] → n < length rs → i ≡ n + 1
    → r ≡ get_or rs n r
    → new ≡ old ++ numbered core 1 (take (n + 1) rs)
decisions_more core rs n i r old all new before push low index at =
    let count : length (take n rs) ≡ n = length-take-le n rs (omega arith) in
    let place : i ≡ 1 + length (take n rs) = omega arith in
    push ∙ ap (λ (l : List Decision). l ++ record { core = core; index = i; reply = r } ∷ []) before
    ∙ append_assoc old (numbered core 1 (take n rs)) (record { core = core; index = i; reply = r } ∷ [])
    ∙ ap (λ (k : ℕ). old ++ (numbered core 1 (take n rs) ++ record { core = core; index = k; reply = r } ∷ [])) place
    ∙ ap (λ (l : List Decision). old ++ l) (sym (numbered-push core 1 (take n rs) r)
    ∙ ap (numbered core 1) (ap (λ x. take n rs ++ x ∷ []) at ∙ sym (take_more rs n r low)))

pub clash : (b : Bool) → b ≡ false → b ≡ true → false ≡ true
clash b is_false is_true = sym is_false ∙ is_true
