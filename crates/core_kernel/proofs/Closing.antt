-- How a kernel begins with its seats, and how it ends with them.
use Rattle.boot_words.specs.kernel_history.proofs.{◌≡◌, inl, inr, ℕ, ◌+◌, ◌<◌, List, [], ◌∷◌, ◌++◌, length, slice_get, get_or, map, Option}
use Rattle.boot_words.specs.kernel_history.proofs.{Some, None, refl, sym, ◌∙◌, ap, subst, arith, All, option_map, length-map, length-append}
use Rattle.boot_words.specs.kernel_history.proofs.{Call, CoreEnd, Setting, IsSetting, Word, ClockAt, IsShape, IsIn, place_of, size_of}
use Rattle.boot_words.specs.kernel_history.proofs.{has_places, shape_of, boot_word, word_in, end_in, state_after, last_left}
use Rattle.core_kernel.specs.{run_of, running, trace_of, CoreSeatValue, seat_value, IsBooted, IsSeat, AreAllSeats, AreFresh, AreWrapped}
use Rattle.turn_rule.specs.{program_after, IsSound, AreOfOthers, TableValue, SeatValue}
use Rattle.flight_laws.specs.flight.proofs.{started, end_of, limits_of, cores_after, made_of_its_cores}
use Rattle.std.proofs.lemmas.Option.{slice_get-map, slice_get-get_or, slice_get_cases, slice_get_read, get_or_from_slice_get}
use Rattle.flight_laws.specs.flight.proofs.{Alike.like, Alike.like_counts, Final.represents, Final.represents_counts, Made.made_stands}
use Rattle.core_kernel.specs.{declared.core_run.CoreRun.CoreRun, Seen.IsStart, Kernel.kernel_value, Turns.ArePrograms}
use Rattle.core_kernel.proofs.{Along.along, Along.is_history, Along.is_out, Seats.extends_by_others}
use Rattle.{core_kernel.specs.ExtendsByOthers, core_kernel.specs.EndsAt, std.proofs.lemmas.Bool.cases_eq, std.proofs.lemmas.Bool.cases_lt}
use Rattle.{std.proofs.lemmas.List.get_or_push, std.proofs.lemmas.List.get_or_append_left, std.specs.Prelude.unwrap_or}
use Rattle.{std.proofs.lemmas.List.Elements.All-get_or, boot_words.specs.kernel_history.specs.FinalWords.no_end}
use Rattle.{turn_rule.specs.declared.view.Entry.Entry, turn_rule.specs.declared.view.Start.Start, turn_rule.proofs.Traces.program_stays}
use Rattle.turn_rule.specs.Seats as turns

-- one more core at the start
pub programs_more : (setup : Setting) (n : ℕ) (xs ys : List CoreRun) (p : CoreRun) → ArePrograms setup n xs → ys ≡ xs ++ p ∷ []
    → p ≡ run_of (started n setup) None → ArePrograms setup (n + 1) ys
programs_more setup n xs ys p before more is =
    let count : length xs ≡ n = before.count in
    let size : length ys ≡ n + 1 = (let k = ap length more ∙ length-append xs (p ∷ []) in omega arith) in record {
      count = size;
      each = λ c h. let x : CoreRun = run_of (started c setup) None in
          slice_get_read ys (length ys) c x refl (omega arith) (elim (cases_eq c n) [
            | inl last ↦ sym (ap (λ l. get_or l c x) more ∙ get_or_push xs p x c (count ∙ sym last) ∙ is
                ∙ ap (λ (i : ℕ). run_of (started i setup) None) (sym last))
            | inr earlier ↦ sym (ap (λ l. get_or l c x) more ∙ get_or_append_left xs (p ∷ []) x c (omega arith)
                ∙ get_or_from_slice_get xs c x x (before.each c (omega arith)))
          ]);
    }

is_shape : (setup : Setting) → IsSetting setup → IsShape (shape_of setup)
is_shape setup setting = record {
  some_core = setting.some_core;
  most_cores = setting.most_cores;
  least_frames = setting.least_frames;
  most_frames = setting.most_frames;
}

-- a table has a word
pub some_word : (setup : Setting) → IsSetting setup → 0 < size_of (shape_of setup)
some_word setup setting = let below = (has_places (shape_of setup) (is_shape setup setting)).below ClockAt tt in omega arith

-- and fewer than a `u32` counts
pub few_words : (setup : Setting) → IsSetting setup → size_of (shape_of setup) < 4294967296
few_words setup setting = let small = (has_places (shape_of setup) (is_shape setup setting)).small in omega arith

pub programs_fit : (setup : Setting) (programs : List CoreRun) (words : List ℕ) → ArePrograms setup setup.cores programs
    → length words ≡ size_of (shape_of setup) → All (λ p. size_of p.state.own.layout ≡ length words) programs
programs_fit setup programs words are size k d h =
    ap (λ p. size_of p.state.own.layout) (get_or_from_slice_get programs k (run_of (started k setup) None) d
    (are.each k (let n = are.count in omega arith))) ∙ sym size

is_start : (setup : Setting) (start : Start CoreRun) (words : List ℕ) (programs : List CoreRun) → start.words ≡ words
    → start.programs ≡ programs → length words ≡ size_of (shape_of setup)
    → ((w : Word) → IsIn (shape_of setup) w → word_in (shape_of setup) words w ≡ boot_word setup w)
    → ArePrograms setup setup.cores programs → IsStart setup start
is_start setup start words programs same_words same_programs size are_words are = record {
  size = ap length same_words ∙ size;
  words = λ w h. ap (λ l. word_in (shape_of setup) l w) same_words ∙ are_words w h;
  count = ap length same_programs ∙ are.count;
  each = λ c h. ap (λ l. slice_get l c) same_programs ∙ are.each c h;
}

pub is_booted : (setup : Setting) (table : TableValue CoreRun) (words : List ℕ) (programs : List CoreRun) → IsSetting setup
    → table.start.words ≡ words → table.start.programs ≡ programs → length words ≡ size_of (shape_of setup)
    → ((w : Word) → IsIn (shape_of setup) w → word_in (shape_of setup) words w ≡ boot_word setup w)
    → ArePrograms setup setup.cores programs → IsBooted setup table
is_booted setup table words programs setting same_words same_programs size are_words are =
    record { setting = setting; start = is_start setup table.start words programs same_words same_programs size are_words are }

the_same : {A : Type 0} (x y : A) (o : Option A) → o ≡ Some x → o ≡ Some y → x ≡ y
the_same x y o i j = cc

-- each seat at the start keeps what seats keep
pub fresh_seats : (setup : Setting) (table : TableValue CoreRun) (seats : List (SeatValue CoreRun Call)) → IsBooted setup table
    → turns.AreAllSeats table seats → turns.AreFresh table seats → All (IsSeat setup) seats
fresh_seats setup table seats booted all fresh k d h =
    let s = get_or seats k d in
    let at : slice_get seats k ≡ Some s = slice_get-get_or seats k d h in
    let same : s.table ≡ table = all.table k s at in
    let program : slice_get s.table.start.programs s.core ≡ Some s.program =
    ap (λ (z : TableValue CoreRun × ℕ). slice_get z.0.start.programs z.1) (λ i. (same i, all.core k s at i))
    ∙ fresh.program k s at in
    let began = the_same s.program (run_of (started k setup) None) (slice_get table.start.programs k) (fresh.program k s at)
    (booted.start.each k (let n = all.count in let m = booted.start.count in omega arith)) in
    record {
      booted = subst (IsBooted setup) (sym same) booted;
      follows = record {
        sound = subst (λ (l : List (Entry Call)). IsSound running s.table.start l) (sym (fresh.seen k s at)) tt;
        runs = ap (λ (l : List (Entry Call)). program_after running s.table.start l s.core) (fresh.seen k s at) ∙ program;
      };
      between = ap (λ p. p.state.active) began;
    }

-- an element that is there
pub record At {A : Type 0} (xs : List A) (k : ℕ) : Type 0 where
  pub x : A
  pub at : slice_get xs k ≡ Some x
  pub read : get_or xs k x ≡ x

pub at_of : {A : Type 0} (xs : List A) (k : ℕ) → k < length xs → At xs k
at_of xs k h = elim (slice_get_cases xs k).1 [
  | inl found ↦ record { x = found.0; at = found.2; read = found.3 }
  | inr past ↦ absurd (let far = past.0 in omega arith)
]

-- a member of a mapped list is that of a member
pub mapped : {A B : Type 0} (f : A → B) (xs : List A) (k : ℕ) (y : B) → slice_get (map f xs) k ≡ Some y → (x : A)
    × (slice_get xs k ≡ Some x) × (f x ≡ y)
mapped f xs k y is = of_option (slice_get xs k) refl (sym (slice_get-map f xs k) ∙ is)
  where
    of_option : (o : Option _) → slice_get xs k ≡ o → option_map f o ≡ Some y → (x : _) × (slice_get xs k ≡ Some x) × (f x ≡ y)
    of_option None at h = absurd (cc)
    of_option (Some x) at h = (x, at, cc)

module _ (setup : Setting) (table : TableValue CoreRun) (booted : IsBooted setup table) (xs : List (SeatValue CoreRun Call)) where
  -- the seats of a table as those of its kernel
  pub all_wrapped : (seats : List CoreSeatValue) → seats ≡ map (seat_value setup) xs → turns.AreAllSeats table xs
      → AreAllSeats (kernel_value setup table) seats
  all_wrapped seats are all = record {
    count = ap length are ∙ length-map xs (seat_value setup) ∙ all.count ∙ booted.start.count;
    kernel = λ k s e. let x = mapped (seat_value setup) xs k s (ap (λ l. slice_get l k) (sym are) ∙ e) in
        sym (ap (λ z. z.kernel) x.2) ∙ ap (kernel_value setup) (all.table k x.0 x.1);
    core = λ k s e. let x = mapped (seat_value setup) xs k s (ap (λ l. slice_get l k) (sym are) ∙ e) in
        sym (ap (λ z. z.core) x.2) ∙ all.core k x.0 x.1;
  }

  pub fresh_wrapped : (seats : List CoreSeatValue) → seats ≡ map (seat_value setup) xs → turns.AreFresh table xs → AreFresh seats
  fresh_wrapped seats are fresh k s e =
      let x = mapped (seat_value setup) xs k s (ap (λ l. slice_get l k) (sym are) ∙ e) in
      sym (ap (λ z. z.seen) x.2) ∙ ap (trace_of setup) (fresh.seen k x.0 x.1)

  module _ (seats : List CoreSeatValue) (are : AreWrapped setup xs seats) (all : AreAllSeats (kernel_value setup table) seats) where
    wrapped_at : (k : ℕ) (s : SeatValue CoreRun Call) → slice_get xs k ≡ Some s → slice_get seats k ≡ Some (seat_value setup s)
    wrapped_at k s e = ap (λ l. slice_get l k) (sym are.same) ∙ slice_get-map (seat_value setup) xs k ∙ ap (option_map (seat_value setup)) e

    -- and the seats of a kernel as those of its table
    pub all_unwrapped : turns.AreAllSeats table xs
    all_unwrapped = record {
      count = sym (length-map xs (seat_value setup)) ∙ ap length are.same ∙ all.count ∙ sym booted.start.count;
      table = λ k s e. ap (λ z. z.table) (all.kernel k (seat_value setup s) (wrapped_at k s e));
      core = λ k s e. all.core k (seat_value setup s) (wrapped_at k s e);
    }

    module _ (words : List ℕ) (programs : List CoreRun) (end : turns.EndsAt running table xs words programs) where
      abbrev t : List (Entry Call)
      t = end.trace

      -- the program of each core at the end is that of its seat, between calls
      program_at : (k : ℕ) → k < setup.cores → (p : CoreRun) × (slice_get programs k ≡ Some p) × (p.state.active ≡ None)
      program_at k h =
          let inside : k < length xs = (let n = all_unwrapped.count in let m = booted.start.count in omega arith) in
          let s = get_or xs k (first_of xs k inside) in
          let at : slice_get xs k ≡ Some s = slice_get-get_or xs k (first_of xs k inside) inside in
          let seat : IsSeat setup s = All-get_or (IsSeat setup) xs k (first_of xs k inside) inside are.each in
          let core : s.core ≡ k = all_unwrapped.core k s at in
          let ext = end.begins k s at in
          let seen : program_after running s.table.start s.seen s.core ≡ Some s.program = seat.follows.runs in
          let of_table : program_after running table.start s.seen k ≡ Some s.program =
          subst (λ (z : TableValue CoreRun × ℕ). program_after running z.0.start s.seen z.1 ≡ Some s.program)
          (λ i. (all_unwrapped.table k s at i, core i)) seen in
          let stays : program_after running table.start t k ≡ program_after running table.start s.seen k =
          ap (λ (l : List (Entry Call)). program_after running table.start l k) ext.whole
          ∙ program_stays running table.start k ext.since s.seen (subst (λ (i : ℕ). AreOfOthers i ext.since) core ext.apart) in
          (s.program, end.program k ∙ stays ∙ of_table, seat.between)
        where
          first_of : {A : Type 0} (l : List A) (n : ℕ) → n < length l → A
          first_of [] n h = absurd (omega arith)
          first_of (x ∷ l) n h = x

      pub ended_between : All (λ p. p.state.active ≡ None) programs
      ended_between k d h =
          let p = program_at k (let n = end.program_count in let m = booted.start.count in omega arith) in
          ap (λ q. q.state.active) (get_or_from_slice_get programs k p.0 d p.1) ∙ p.2

      pub ends_at : (ends : List CoreEnd) → ends ≡ map (λ p. end_of p.state) programs → EndsAt (kernel_value setup table) seats words ends
      ends_at ends ends_are =
          let a = along setup booted.setting table.start booted.start t end.sound in
          let cores = cores_after setup (trace_of setup t) in
          let state : (c : ℕ) (h : c < setup.cores) → (program_at c h).0.state ≡ cores c =
          λ c h. a.runs c (program_at c h).0 (sym (end.program c) ∙ (program_at c h).1) in
          let between : (c : ℕ) → c < setup.cores → (cores c).active ≡ None = λ c h. ap (λ k. k.active) (sym (state c h))
          ∙ (program_at c h).2 in
          let stands = made_stands setup booted.setting (trace_of setup t) a.made in
          let alike : (w : Word) → IsIn (shape_of setup) w
          → last_left setup (trace_of setup t) w ≡ word_in (shape_of setup) words w =
          λ w is_in. sym (end.word (place_of (shape_of setup) w) ∙ a.words w is_in) in
          record {
            trace = trace_of setup t;
            history = is_history setup booted.setting table.start booted.start t end.sound;
            begins = λ k s e.
                let x = mapped (seat_value setup) xs k s (ap (λ l. slice_get l k) are.same ∙ e) in
                subst (λ z. ExtendsByOthers z.core z.seen (trace_of setup t)) x.2
                (extends_by_others setup x.0.core x.0.seen t (end.begins k x.0 x.1));
            returned = λ c. elim (cases_lt c setup.cores) [
              | inl h ↦ is_out setup booted.setting table.start booted.start t end.sound c (program_at c h).0 (sym (end.program c)
                  ∙ (program_at c h).1) (program_at c h).2
              | inr past ↦ (made_of_its_cores setup (trace_of setup t) a.made c past).out
            ];
            represent =
                like setup (state_after setup (trace_of setup t)) (last_left setup (trace_of setup t)) (word_in (shape_of setup) words)
                (λ c. end_of (cores c)) (end_in ends)
                (ap (λ l. l.frames) (limits_of setup (trace_of setup t))) (ap (λ l. l.cores) (limits_of setup (trace_of setup t)))
                alike
                (λ c h. sym (
                ap (λ l. end_in l c) ends_are ∙ ap (λ o. unwrap_or o no_end) (slice_get-map (λ (p : CoreRun). end_of p.state) programs c
                ∙ ap (option_map (λ (p : CoreRun). end_of p.state)) (program_at c h).1)
                ∙ ap end_of (state c h)
                ))
                (represents setup booted.setting cores (trace_of setup t) stands between);
            counts =
                like_counts setup booted.setting (state_after setup (trace_of setup t))
                (last_left setup (trace_of setup t)) (word_in (shape_of setup) words)
                (ap (λ l. l.frames) (limits_of setup (trace_of setup t))) (ap (λ l. l.cores) (limits_of setup (trace_of setup t))) alike
                (represents_counts setup booted.setting cores (trace_of setup t) stands between);
            word_count = end.word_count ∙ booted.start.size;
            end_count = ap length ends_are ∙ length-map programs (λ p. end_of p.state) ∙ end.program_count ∙ booted.start.count;
          }
