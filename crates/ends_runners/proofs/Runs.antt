-- A runner's endpoint calls, one after another.
use Rattle.core_kernel.specs.flight_laws.specs.flight.proofs.{◌≡◌, ℕ, suc, ◌+◌, ◌<◌, ◌≤◌, ◌^◌, Bool, true, false, List, [], ◌∷◌, ◌++◌, All}
use Rattle.core_kernel.specs.flight_laws.specs.flight.proofs.{map, length, take, get_or, refl, sym, ◌∙◌, ap, subst, arith, append_assoc}
use Rattle.core_kernel.specs.flight_laws.specs.flight.proofs.{append-nil, IsTrue, length-append, take_more, Trace, calls_of}
use Rattle.async_ends.specs.{Event, events_by, history_of, look, EndTableValue, EndSeatValue, AreStepsOf, AreStepsOfAll}
use Rattle.ends_runners.specs.{look_call, asks_of, EndRunnerValue, AwaitsEnds, MakesAsks}
use Rattle.core_kernel.specs.{replies_of, CoreSeatValue, MakesCall}
use Rattle.core_kernel.proofs.{calls_of-append, replies_of-append, at_of}
use Rattle.std.proofs.lemmas.List.Elements.{All-get_or, AllZip-get_or, length_all_zip}
use Rattle.async_ends.specs.{declared.asks.EndAsk.EndAsk, declared.asks.EndDone.EndDone, declared.asks.Look.Look, Asked.MakesDone}
use Rattle.async_ends.proofs.Asked.{no_steps, one_more, done_steps}
use Rattle.ends_runners.specs.{Looks.HasLooked, Runs.HasDone, Runners.AreEndRunners}
use Rattle.{std.specs.List.AllZip, std.proofs.lemmas.List.map-append}

-- lists of one length that are so related at each place
pub all_zip_from : {A : Type 0} (R : A → A → Type 0) (xs ys : List A) → length ys ≡ length xs
    → ((i : ℕ) (d : A) → i < length xs → R (get_or xs i d) (get_or ys i d)) → AllZip R xs ys
all_zip_from R [] [] size each = tt
all_zip_from R [] (y ∷ ys) size each = absurd (omega arith)
all_zip_from R (x ∷ xs) [] size each = absurd (omega arith)
all_zip_from R (x ∷ xs) (y ∷ ys) size each =
    (each 0 x (omega arith), all_zip_from R xs ys (omega arith) (λ i d h. each (suc i) d (omega arith)))

-- the runner has made the first n of its calls, and is not held
pub record HasAsked (table : EndTableValue) (runner : EndRunnerValue) (n : ℕ) (now : EndRunnerValue) : Type 0 where
  pub waited : AwaitsEnds table runner
  pub does : HasDone runner now
  pub asked : map (λ d. d.ask) now.done ≡ take n runner.asks
  pub count : length now.done ≡ n
  pub calls : now.seat.made ≡ n
  pub free : now.held ≡ false

pub asked_none : (table : EndTableValue) (u : EndRunnerValue) → AwaitsEnds table u → HasAsked table u 0 u
asked_none table u h = record {
  waited = h;
  does = record {
    since = [];
    begins = refl;
    looked = sym (ap (map look_call) h.none);
    replied = sym (ap (map (λ d. d.looked)) h.none);
    events = [];
    made = subst (λ l. AreStepsOfAll u.who.core l []) (sym h.none) (no_steps u.who.core [] refl);
    grown = sym (append-nil (events_by (history_of u.seat.seen) u.who.core));
    list = refl;
    core = refl;
    kernel = refl;
    seen = h.seen;
    seat_core = refl;
    table = refl;
  };
  asked = ap (map (λ d. d.ask)) h.none;
  count = ap length h.none;
  calls = h.fresh;
  free = h.free;
}

module _ (table : EndTableValue) (u v w : EndRunnerValue) (n : ℕ) (ask : EndAsk) (d : EndDone)
    (looks now : List Look) where
  pub asked_more : HasAsked table u n v → n < length u.asks → ask ≡ get_or u.asks n ask → d.ask ≡ ask
      → MakesDone looks now v.seat d w.seat → HasLooked v.who (look ask.number d.looked) w.who
      → w.done ≡ v.done ++ d ∷ [] → w.held ≡ v.held → w.asks ≡ v.asks → HasAsked table u (n + 1) w
  asked_more h low at same m l done held list =
      let c : ℕ = u.who.core in
      let seat_core : v.seat.core ≡ c = h.does.seat_core ∙ h.waited.core in
      let call_is : MakesCall v.who (look_call d) d.looked w.who =
      subst (λ (x : EndAsk). MakesCall v.who (look_call record { ask = x; looked = d.looked; answer = d.answer }) d.looked w.who)
      (sym same) l.makes in
      let calls : calls_of call_is.since c ≡ look_call d ∷ [] =
      subst (λ (i : ℕ). calls_of call_is.since i ≡ look_call d ∷ []) h.does.core call_is.calls in
      let answer : replies_of call_is.since c ≡ d.looked ∷ [] =
      subst (λ (i : ℕ). replies_of call_is.since i ≡ d.looked ∷ []) h.does.core call_is.replies in
      let s = done_steps d v.seat w.seat m.comes in
      let are : AreStepsOf c d s.steps = subst (λ (i : ℕ). AreStepsOf i d s.steps) seat_core s.are in
      let event : events_by (history_of w.seat.seen) c ≡ events_by (history_of v.seat.seen) c ++ s.steps =
      subst (λ (i : ℕ). events_by (history_of w.seat.seen) i ≡ events_by (history_of v.seat.seen) i ++ s.steps) seat_core s.more in
      record {
        waited = h.waited;
        does = record {
          since = call_is.since ++ h.does.since;
          begins = call_is.begins ∙ ap (λ (t : Trace). call_is.since ++ t) h.does.begins
              ∙ sym (append_assoc call_is.since h.does.since u.who.seen);
          looked = calls_of-append c call_is.since h.does.since ∙ (λ i. h.does.looked i ++ calls i)
              ∙ sym (map-append look_call v.done (d ∷ [])) ∙ ap (map look_call) (sym done);
          replied = replies_of-append c call_is.since h.does.since ∙ (λ i. h.does.replied i ++ answer i)
              ∙ sym (map-append (λ x. x.looked) v.done (d ∷ [])) ∙ ap (map (λ x. x.looked)) (sym done);
          events = h.does.events ++ s.steps;
          made = subst (λ l. AreStepsOfAll c l (h.does.events ++ s.steps)) (sym done)
              (one_more c v.done h.does.events d s.steps h.does.made are);
          grown = event ∙ ap (λ (x : List Event). x ++ s.steps) h.does.grown
              ∙ append_assoc (events_by (history_of u.seat.seen) c) h.does.events s.steps;
          list = list ∙ h.does.list;
          core = call_is.core ∙ h.does.core;
          kernel = call_is.kernel ∙ h.does.kernel;
          seen = l.seen;
          seat_core = m.comes.core ∙ h.does.seat_core;
          table = m.comes.table ∙ h.does.table;
        };
        asked = ap (map (λ x. x.ask)) done ∙ map-append (λ x. x.ask) v.done (d ∷ []) ∙ (λ i. h.asked i ++ same i ∷ [])
            ∙ ap (λ x. take n u.asks ++ x ∷ []) at ∙ sym (take_more u.asks n ask low);
        count = (let k = ap length done ∙ length-append v.done (d ∷ []) in let was = h.count in omega arith);
        calls = m.comes.counted ∙ ap (λ (i : ℕ). i + 1) h.calls;
        free = held ∙ h.free;
      }

-- a runner that stops after n calls
stops : (table : EndTableValue) (free held : Bool) (u v w : EndRunnerValue) (n : ℕ) → HasAsked table u n v
    → n ≤ length u.asks
    → w ≡ record { who = v.who; seat = v.seat; asks = v.asks; done = v.done; listed = v.listed; held = held }
    → (held ≡ false → n ≡ length u.asks) → (free ≡ true → held ≡ false) → MakesAsks free u w
stops table free held u v w n h low is whole is_free = subst (MakesAsks free u) (sym is) record {
  does = record {
    since = h.does.since;
    begins = h.does.begins;
    looked = h.does.looked;
    replied = h.does.replied;
    events = h.does.events;
    made = h.does.made;
    grown = h.does.grown;
    list = h.does.list;
    core = h.does.core;
    kernel = h.does.kernel;
    seen = h.does.seen;
    seat_core = h.does.seat_core;
    table = h.does.table;
  };
  asked = h.asked ∙ ap (λ (k : ℕ). take k u.asks) (sym h.count);
  within = (let k = h.count in omega arith);
  whole = λ f. h.count ∙ whole f;
  free = is_free;
}

pub stops_held : (table : EndTableValue) (free : Bool) (u v w : EndRunnerValue) (n : ℕ) → HasAsked table u n v
    → n ≤ length u.asks
    → w ≡ record { who = v.who; seat = v.seat; asks = v.asks; done = v.done; listed = v.listed; held = true }
    → (free ≡ true → ⊥) → MakesAsks free u w
stops_held table free u v w n h low is not_free =
    stops table free true u v w n h low is (λ f. absurd (cc)) (λ f. absurd (not_free f))

pub stops_last : (table : EndTableValue) (free : Bool) (u v : EndRunnerValue) (n : ℕ) → HasAsked table u n v
    → n ≡ length u.asks → MakesAsks free u v
stops_last table free u v n h all =
    stops table free false u v v n h (omega arith)
    (λ i. record { who = v.who; seat = v.seat; asks = v.asks; done = v.done; listed = v.listed; held = h.free i })
    (λ f. all) (λ f. refl)

pub not_true : (b : Bool) → b ≡ false → IsTrue b → ⊥
not_true b is_false is_true = cc

-- runners of a free gate are not held
pub all_go : (free : Bool) (xs ys : List EndRunnerValue) → free ≡ true → AllZip (MakesAsks free) xs ys → All (λ r. r.held ≡ false) ys
all_go free xs ys is make k d h = let size = length_all_zip (MakesAsks free) xs ys make in
    (AllZip-get_or (MakesAsks free) xs ys k d d make (omega arith)).free is

-- at most so many
abbrev pub FewOf : ℕ → List EndAsk → Type 0
FewOf n asks = length asks ≤ n

-- runners of few calls have made few
pub few_done : (seats : List CoreSeatValue) (ends : List EndSeatValue) (asks : List (List EndAsk)) (free : Bool)
    (xs ys : List EndRunnerValue) → length asks ≡ length seats
    → All (FewOf 4194304) asks → AreEndRunners seats ends asks xs → AllZip (MakesAsks free) xs ys
    → All (λ r. length r.done < 2 ^ 32) ys
few_done seats ends asks free xs ys one_each all are make k d h =
    let size = length_all_zip (MakesAsks free) xs ys make in
    let count = are.count in
    let inside : k < length xs = omega arith in
    let r = at_of xs k inside in
    let m : MakesAsks free r.x (get_or ys k d) = subst (λ x. MakesAsks free x (get_or ys k d)) r.read
    (AllZip-get_or (MakesAsks free) xs ys k r.x d make inside) in
    let few : length (asks_of asks k) ≤ 4194304 = All-get_or (FewOf 4194304) asks k [] (omega arith) all in
    let same = ap length (are.each k r.x r.at).asked in
    let within = m.within in
    omega arith
