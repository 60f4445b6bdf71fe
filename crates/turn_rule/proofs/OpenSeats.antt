-- An open seat: as it is opened, after each step, and as it is closed.
use Rattle.std.proofs.Common.{◌≡◌, ℕ, suc, ◌<◌, ◌≤◌, ◌==◌, List, ◌∷◌, ◌++◌, length, if◌then◌else◌, Option, Some, None, IsSome}
use Rattle.std.proofs.Common.{IsNone, option_map, refl, sym, ap, ◌∙◌, subst, ⊎_elim, inr, arith, eq-eqb, ne_eqb, length-append}
use Rattle.std.specs.Option.{unwrap_or}
use Rattle.spk_nums.specs.{declared.steps.WordOp.WordOp, WordSteps.place_in}
use Rattle.turn_rule.specs.{declared.view.Entry.Entry, declared.view.Start.Start, Steps.Steps, Hands.Hand, Hands.seat_of}
use Rattle.turn_rule.specs.{SeatValue, TableValue, FollowsTrace, Turns, AreOfOthers, entry, called, MayCall, IsStep}
use Rattle.turn_rule.specs.{program_after, IsSeated, Trace.Follows, Rule.IsDue, Rule.Goes, Seats.MakesCall}
use Rattle.turn_rule.specs.OpenSeats.{OpenValue, began_at, seen_of, call_of, begins_of, pending, been, going, now_at, told_at, newest, last_step, IsBegun, IsOpen}
use Rattle.turn_rule.proofs.{Traces.program_here, Traces.program_stays, Keeps.seated_on, Calls.one_more}

some_same : {A : Type 0} (o : Option A) (x y : A) → o ≡ Some x → o ≡ Some y → x ≡ y
some_same o x y i j = cc

some_or_none : {A : Type 0} (o : Option A) (N : Type 0) → IsSome o → IsNone o → N
some_or_none None N s n = absurd (cc)
some_or_none (Some a) N s n = absurd (cc)

module _ {P C : Type 0} where
  -- as long as no more is seen the call is pending, and from then on it is not
  pub is_pending : (seat : SeatValue P C) (call : C) (seen : List (Entry C)) → seen ≡ seat.seen → pending seat call seen ≡ Some call
  is_pending seat call seen same =
      ap (λ b. if b then Some call else None) (eq-eqb (length seen) (length seat.seen) (ap length same))

  pub not_pending : (seat : SeatValue P C) (call : C) (seen : List (Entry C)) → length seat.seen < length seen
      → pending seat call seen ≡ None
  not_pending seat call seen longer =
      ap (λ b. if b then Some call else None) (ne_eqb (length seen) (length seat.seen) (λ same. absurd (omega arith)))

module _ {P C : Type 0} (T : Steps P C) where
  pub been_is : (seat : SeatValue P C) (seen : List (Entry C)) (p : P) → program_after T seat.table.start seen seat.core ≡ Some p
      → been T seat seen ≡ p
  been_is seat seen p runs = ap (λ o. unwrap_or o seat.program) runs

  -- before its first step the program is the one that has begun the call
  pub going_first : (seat : SeatValue P C) (call : C) (seen : List (Entry C)) → FollowsTrace T seat → seen ≡ seat.seen
      → going T seat call seen ≡ T.begun seat.program call
  going_first seat call seen before same =
      let runs = ap (λ (l : List (Entry C)). program_after T seat.table.start l seat.core) same ∙ before.runs in
      ap (λ (z : P × Option C). called T z.0 z.1) (λ i. (been_is seat seen seat.program runs i, is_pending seat call seen same i))

  module _ (b : Option (SeatValue P C × C)) (seat : SeatValue P C) (call : C) (h : Hand P C) (i : IsOpen T b h seat call) (op : WordOp)
      (next : T.next (going T seat call h.me.0.own.seen) ≡ Some op) where
    -- its program's step is due
    pub open_due : place_in op < T.size (going T seat call h.me.0.own.seen)
        → IsDue T (length seat.table.start.words) h.me (pending seat call h.me.0.own.seen) op
    open_due inside = let size = i.size in record {
      core = seat.core;
      program = been T seat h.me.0.own.seen;
      seated = i.seated;
      may = i.may;
      next = next;
      inside = omega arith;
    }

    module _ (n : Hand P C) (word : ℕ) (goes : Goes T h.me.0.own (pending seat call h.me.0.own.seen) op word n.me.0.own)
        (slots : n.me.1 ≡ h.me.1) (same : n.table_id ≡ h.table_id)
        (size : T.size (T.after (going T seat call h.me.0.own.seen) word) ≡ T.size (going T seat call h.me.0.own.seen)) where
      abbrev t : List (Entry C)
      t = h.me.0.own.seen

      abbrev s : List (Entry C)
      s = n.me.0.own.seen

      abbrev o : Option C
      o = pending seat call t

      abbrev p : P
      p = been T seat t

      abbrev q : P
      q = going T seat call t

      abbrev e : Entry C
      e = entry seat.core op goes.found o

      seen_is : s ≡ e ∷ (goes.others ++ t)
      seen_is = subst (λ (k : ℕ). s ≡ entry k op goes.found o ∷ (goes.others ++ t)) i.seated.from goes.seen

      apart : AreOfOthers seat.core goes.others
      apart = subst (λ (k : ℕ). AreOfOthers k goes.others) i.seated.from goes.apart

      before : program_after T seat.table.start (goes.others ++ t) seat.core ≡ Some p
      before = program_stays T seat.table.start seat.core goes.others t apart
          ∙ ap (λ (z : Start P). program_after T z t seat.core) (sym i.start) ∙ i.seated.follows.runs

      abbrev is_step : IsStep T p e
      is_step = record { may = i.may; op = op; next = next; place = refl; left = refl }

      runs : program_after T seat.table.start s seat.core ≡ Some (T.after q word)
      runs = ap (λ (l : List (Entry C)). program_after T seat.table.start l seat.core) seen_is
          ∙ program_here T seat.table.start e (goes.others ++ t) seat.core p refl before is_step
          ∙ ap (λ (k : ℕ). Some (T.after q k)) (sym goes.told_is)

      is : been T seat s ≡ T.after q word
      is = been_is seat s (T.after q word) runs

      least : length seat.seen ≤ length t
      least = ⊎_elim (λ (alike : t ≡ seat.seen). let count = ap length alike in omega arith)
          (λ (g : IsBegun T seat call t). let longer = g.longer in omega arith) i.made

      longer : length seat.seen < length s
      longer = let low = least in let count = ap length seen_is in let sum = length-append goes.others t in omega arith

      started : n.me.0.own.start ≡ seat.table.start
      started = goes.stays.start ∙ i.start

      seated : IsSeated T seat.core n.me (been T seat s)
      seated = seated_on T seat.core h.me n.me p (been T seat s) o op word i.seated i.may next goes slots is
          (ap T.size is ∙ size ∙ i.size ∙ sym (i.seated.size ∙ ap (λ (z : Start P). length z.words) i.start))

      turns : Turns T (now_at T seat t) o (now_at T seat s)
      turns = record {
        op = op;
        next = next;
        makes = record {
          found = goes.found;
          others = goes.others;
          apart = apart;
          seen = seen_is;
          program = is ∙ ap (λ (k : ℕ). T.after q k) goes.told_is;
          core = refl;
          table = refl;
        };
        follows = subst (λ (z : Start P). Follows T z s seat.core (been T seat s)) started seated.follows;
      }

      first_made : t ≡ seat.seen → IsBegun T seat call s
      first_made alike = record {
        longer = longer;
        begun = now_at T seat s;
        first =
            let was = ap (λ (l : List (Entry C)). program_after T seat.table.start l seat.core) alike ∙ i.before.runs in
            let same_seat : now_at T seat t ≡ seat = λ j. record {
              table = seat.table;
              core = seat.core;
              seen = alike j;
              program = been_is seat t seat.program was j;
            } in
            subst (λ (z : SeatValue P C × Option C). Turns T z.0 z.1 (now_at T seat s))
            (λ j. (same_seat j, is_pending seat call t alike j)) turns;
        count = 0;
        rest = refl;
      }

      later_made : IsBegun T seat call t → IsBegun T seat call s
      later_made g = record {
        longer = longer;
        begun = g.begun;
        first = g.first;
        count = suc g.count;
        rest = one_more T g.count g.begun (now_at T seat t) (now_at T seat s) g.rest
            (subst (λ (z : Option C). Turns T (now_at T seat t) z (now_at T seat s)) (not_pending seat call t g.longer) turns);
      }

      -- after the step the program has taken in what it told
      pub open_goes : going T seat call s ≡ T.after q word
      open_goes = ap (called T (been T seat s)) (not_pending seat call s longer) ∙ is

      pub open_told : last_step T seat s ≡ Some (q, word)
      open_told =
          let f : P → P × ℕ = λ x. (called T x o, told_at T (T.next (called T x o)) goes.found) in
          ap (λ b. if b then None else newest T seat.table.start seat.core s)
          (ne_eqb (length s) (length seat.seen) (λ alike. let more = longer in absurd (omega arith)))
          ∙ ap (newest T seat.table.start seat.core) seen_is ∙ ap (option_map f) before
          ∙ ap (λ (z : Option WordOp). Some (q, told_at T z goes.found)) next
          ∙ ap (λ (k : ℕ). Some (q, k)) (sym goes.told_is)

      -- and the seat is open still
      pub open_on : IsOpen T b n seat call
      open_on = record {
        began = i.began;
        table = same ∙ i.table;
        start = started;
        before = i.before;
        seated = seated;
        may = subst (λ (z : Option C). MayCall T (been T seat s) z) (sym (not_pending seat call s longer)) tt;
        size = ap T.size open_goes ∙ size ∙ i.size;
        made = ⊎_elim (λ (alike : t ≡ seat.seen). inr (first_made alike)) (λ (g : IsBegun T seat call t). inr (later_made g)) i.made;
      }

  -- the same of an open seat as it is seen, where the call that begins with the step is known of what it was lent with
  begins_is : {b : Option (SeatValue P C × C)} {h : Hand P C} {table : TableValue P} {p : P} {call : C}
      → IsOpen T b h (began_at b table p) call → begins_of b h.me.0.own.seen ≡ pending (began_at b table p) call h.me.0.own.seen
  begins_is {b} {h} i = ap (λ z. if length h.me.0.own.seen == length (seen_of b) then z else None) (ap call_of i.began)

  pub seen_due : {b : Option (SeatValue P C × C)} {h : Hand P C} {table : TableValue P} {p : P} {call : C}
      (i : IsOpen T b h (began_at b table p) call) (now : OpenValue P C) → record { seat = began_at b table p; call = call; seen = h.me.0.own.seen } ≡ now → (op : WordOp)
      → T.next (going T now.seat now.call now.seen) ≡ Some op → place_in op < T.size (going T now.seat now.call now.seen)
      → IsDue T (length table.start.words) h.me (begins_of b h.me.0.own.seen) op
  seen_due {b} {h} {table} {p} {call} i now same op next inside =
      subst (λ z. IsDue T (length table.start.words) h.me z op) (sym (begins_is i))
      (open_due b (began_at b table p) call h i op
      (subst (λ (o : OpenValue P C). T.next (going T o.seat o.call o.seen) ≡ Some op) (sym same) next)
      (subst (λ (o : OpenValue P C). place_in op < T.size (going T o.seat o.call o.seen)) (sym same) inside))

  -- how an open seat goes on: it was seen as `now`, and its step told a word
  pub record StepsOn (b : Option (SeatValue P C × C)) (seat : SeatValue P C) (call : C) (n : Hand P C) (now : OpenValue P C) (word : ℕ)
      : Type 0 where
    pub on : IsOpen T b n seat call
    pub goes : going T seat call n.me.0.own.seen ≡ T.after (going T now.seat now.call now.seen) word
    pub told : last_step T seat n.me.0.own.seen ≡ Some (going T now.seat now.call now.seen, word)

  pub seen_on : {b : Option (SeatValue P C × C)} {h n : Hand P C} {table : TableValue P} {p : P} {call : C}
      (i : IsOpen T b h (began_at b table p) call) (now : OpenValue P C)
      → record { seat = began_at b table p; call = call; seen = h.me.0.own.seen } ≡ now → (op : WordOp) (word : ℕ)
      → T.next (going T now.seat now.call now.seen) ≡ Some op
      → ((k : ℕ) → T.size (T.after (going T now.seat now.call now.seen) k) ≡ T.size (going T now.seat now.call now.seen))
      → n.table_id ≡ h.table_id
      → Goes T h.me.0.own (begins_of b h.me.0.own.seen) op word n.me.0.own × (n.me.1 ≡ h.me.1)
      → StepsOn b (began_at b table p) call n now word
  seen_on {b} {h} {n} {table} {p} {call} i now same op word next size table_is made =
      let seat : SeatValue P C = began_at b table p in
      let due = subst (λ (o : OpenValue P C). T.next (going T o.seat o.call o.seen) ≡ Some op) (sym same) next in
      let kept = subst (λ (o : OpenValue P C). T.size (T.after (going T o.seat o.call o.seen) word) ≡ T.size (going T o.seat o.call o.seen))
      (sym same) (size word) in
      let goes = subst (λ z. Goes T h.me.0.own z op word n.me.0.own) (begins_is i) made.0 in record {
        on = open_on b seat call h i op due n word goes made.1 table_is kept;
        goes = open_goes b seat call h i op due n word goes made.1 table_is kept
            ∙ ap (λ (o : OpenValue P C). T.after (going T o.seat o.call o.seen) word) same;
        told = open_told b seat call h i op due n word goes made.1 table_is kept
            ∙ ap (λ (o : OpenValue P C). Some (going T o.seat o.call o.seen, word)) same;
      }

  -- the call is made where the seat's program, which the steps have left, has no next step
  pub closes : (b : Option (SeatValue P C × C)) (h : Hand P C) (seat s : SeatValue P C) (call c : C) (r : P) → IsOpen T b h seat call
      → b ≡ Some (s, c) → IsSome (T.next (T.begun s.program c)) → r ≡ going T seat call h.me.0.own.seen → IsNone (T.next r)
      → MakesCall T s c (seat_of (Some h) s.core r) × IsSeated T s.core h.me r
  closes b h seat s call c r i is some ran idle =
      let same = some_same b (seat, call) (s, c) i.began is in
      closed b h s c r (subst (λ (z : SeatValue P C × C). IsOpen T b h z.0 z.1) same i) some
      (ran ∙ ap (λ (z : SeatValue P C × C). going T z.0 z.1 h.me.0.own.seen) same) idle
    where
      closed : (b : Option (SeatValue P C × C)) (h : Hand P C) (s : SeatValue P C) (c : C) (r : P) → IsOpen T b h s c
          → IsSome (T.next (T.begun s.program c)) → r ≡ going T s c h.me.0.own.seen → IsNone (T.next r)
          → MakesCall T s c (seat_of (Some h) s.core r) × IsSeated T s.core h.me r
      closed b h s c r i some ran idle = ⊎_elim
          (λ (alike : h.me.0.own.seen ≡ s.seen). some_or_none (T.next (T.begun s.program c))
          (MakesCall T s c (seat_of (Some h) s.core r) × IsSeated T s.core h.me r) some
          (subst (λ x. IsNone (T.next x)) (ran ∙ going_first s c h.me.0.own.seen i.before alike) idle))
          (λ (g : IsBegun T s c h.me.0.own.seen).
          let left : r ≡ been T s h.me.0.own.seen =
          ran ∙ ap (called T (been T s h.me.0.own.seen)) (not_pending s c h.me.0.own.seen g.longer) in
          let now : now_at T s h.me.0.own.seen ≡ seat_of (Some h) s.core r = λ j. record {
            table = record { id = sym i.table j; start = sym i.start j };
            core = s.core;
            seen = h.me.0.own.seen;
            program = sym left j;
          } in (
            subst (MakesCall T s c) now record {
              begun = g.begun;
              first = g.first;
              count = g.count;
              rest = g.rest;
              idle = subst (λ x. IsNone (T.next x)) left idle;
            },
            subst (IsSeated T s.core h.me) (sym left) i.seated,
          ))
          i.made
