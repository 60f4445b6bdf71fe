-- What the words show of the tickets, at each moment of a sound trace.
use Rattle.std.proofs.Common.{◌≡◌, ◌≢◌, ◌⊎◌, ℕ, ◌+◌, ◌%◌, ◌^◌, List, ◌∷◌, ◌++◌, All, MatchOption, length, get_or, slice_get, slice_index}
use Rattle.std.proofs.Common.{Option, Some, None, IsNone, inl, inr, ⊎_elim, refl, sym, ap, ◌∙◌, subst, arith, append_assoc}
use Rattle.turn_rule.specs.{entry, AreOfOthers, called, word_after, program_after, MayCall, IsSound, MayFollow, SeatValue, FollowsTrace}
use Rattle.turn_rule.specs.{MakesStep}
use Rattle.turn_rule.proofs.{kept_along, word_here, word_elsewhere, program_here, program_elsewhere, program_stays}
use Rattle.std.proofs.lemmas.Option.{none-some, slice_get_within, get_or_from_slice_get, slice_get-get_or}
use Rattle.spk_nums.specs.{declared.steps.WordOp.WordOp, declared.steps.WordOp.TheVariants.Load, declared.steps.WordOp.TheVariants.Store}
use Rattle.spk_nums.specs.{declared.steps.WordOp.TheVariants.Add, WordSteps.place_in, WordSteps.left_by, WordSteps.told_by}
use Rattle.turn_rule.specs.{declared.view.Entry.Entry, declared.view.Start.Start, Steps.Steps}
use Rattle.turn_tests.specs.{declared.taker.Side.Side, declared.taker.Side.TheVariants.Left, declared.taker.Side.TheVariants.Right}
use Rattle.turn_tests.specs.{declared.taker.Phase.Phase, declared.taker.Phase.TheVariants.Idle, declared.taker.Phase.TheVariants.Takes}
use Rattle.turn_tests.specs.{declared.taker.Phase.TheVariants.Shows, declared.taker.Phase.TheVariants.ReadsBack, declared.taker.Taker.Taker}
use Rattle.turn_tests.specs.{Counting.GoesOn, Taker.taker_steps, Taker.taker, Taker.word_place, Taker.next_in, Taker.after_in}
use Rattle.turn_tests.specs.{Taking.shown_in, Taking.AreShown, Taking.IsOpen, Taking.TakesFrom}
use Rattle.turn_tests.proofs.Scores.{Raises, AllScore, counts_scores}
use mathlib.Core.Logic.{dite}
use native.Mathlib.Decide.{ℕ_discrete}

abbrev T : Steps Taker ℕ
T = taker_steps

abbrev Seat : Type 0
Seat = SeatValue Taker ℕ

abbrev shown : Taker → ℕ
shown p = shown_in p.phase p.last

module _ {A : Type 0} (F : A → Type 0) where
  at_all : (l : List A) (k : ℕ) (x : A) → All F l → slice_get l k ≡ Some x → F x
  at_all l k x all e = subst F (get_or_from_slice_get l k x x e) (all k x (slice_get_within l k x e))

  all_at : (l : List A) → ((k : ℕ) (x : A) → slice_get l k ≡ Some x → F x) → All F l
  all_at l h k d inside = h k (get_or l k d) (slice_get-get_or l k d inside)

own_place : (side : Side) → word_place side ≢ 0
own_place Left e = omega arith
own_place Right e = omega arith

one_place : (a b : Side) → word_place a ≡ word_place b → a ≡ b
one_place Left Left e = refl
one_place Left Right e = absurd (omega arith)
one_place Right Left e = absurd (omega arith)
one_place Right Right e = refl

-- the step of q, which is r then, is on word 0 and keeps what is shown, or is on the core's own word and leaves there what is shown
abbrev StepShows : Taker → ℕ → ℕ → Taker → Type 0
StepShows q at left r = (r.side ≡ q.side) × (((at ≡ 0) × (shown r ≡ shown q)) ⊎ ((at ≡ word_place q.side) × (left ≡ shown r)))

-- it takes as many tickets as it adds to word 0, and none elsewhere
abbrev StepTakes : Taker → ℕ → ℕ → ℕ → Taker → Type 0
StepTakes q at found left r = ((at ≢ 0) × (r.taken ≡ q.taken)) ⊎ ((at ≡ 0) × Raises found left q.taken r.taken)

module _ (side : Side) (taken last : ℕ) (op : WordOp) (at left found : ℕ)
    (place : at ≡ place_in op) (leaves : left ≡ left_by op found) where
  step_shows : (phase : Phase) → next_in side phase ≡ Some op
      → StepShows (taker side phase taken last) at left (after_in side phase taken last (told_by op found))
  step_shows Idle next = absurd (none-some op next)
  step_shows (Takes count) next = let is : op ≡ Add 0 count = cc in (refl, inl (place ∙ ap place_in is, refl))
  step_shows (Shows ticket) next =
      let is : op ≡ Store (word_place side) ticket = cc in
      (refl, inr (place ∙ ap place_in is, leaves ∙ ap (λ o. left_by o found) is ∙ sym (ap (λ o. told_by o found) is)))
  step_shows (ReadsBack ticket) next =
      let is : op ≡ Load (word_place side) = cc in
      (refl, inr (place ∙ ap place_in is, leaves ∙ ap (λ o. left_by o found) is ∙ sym (ap (λ o. told_by o found) is)))

  step_takes : (phase : Phase) → next_in side phase ≡ Some op
      → StepTakes (taker side phase taken last) at found left (after_in side phase taken last (told_by op found))
  step_takes Idle next = absurd (none-some op next)
  step_takes (Takes count) next =
      let is : op ≡ Add 0 count = cc in inr (place ∙ ap place_in is, inr (count, leaves ∙ ap (λ o. left_by o found) is, refl))
  step_takes (Shows ticket) next =
      let is : op ≡ Store (word_place side) ticket = cc in inl (λ e. own_place side (sym (place ∙ ap place_in is) ∙ e), refl)
  step_takes (ReadsBack ticket) next =
      let is : op ≡ Load (word_place side) = cc in inl (λ e. own_place side (sym (place ∙ ap place_in is) ∙ e), refl)

called_side : (p : Taker) (call : Option ℕ) → (called T p call).side ≡ p.side
called_side p None = refl
called_side p (Some n) = refl

called_taken : (p : Taker) (call : Option ℕ) → (called T p call).taken ≡ p.taken
called_taken p None = refl
called_taken p (Some n) = refl

called_shown : (p : Taker) (call : Option ℕ) → MayCall T p call → shown (called T p call) ≡ shown p
called_shown p None may = refl
called_shown p (Some n) may = idle p.side p.phase p.last may.0
  where
    idle : (side : Side) (phase : Phase) (last : ℕ) → IsNone (next_in side phase) → last ≡ shown_in phase last
    idle side Idle last none = refl
    idle side (Takes count) last none = refl
    idle side (Shows ticket) last none = refl
    idle side (ReadsBack ticket) last none = absurd (cc)

pub takes_score : AllScore T (λ p. p.taken)
takes_score p e s =
    let q : Taker = called T p e.call in
    let now : ℕ = (after_in q.side q.phase q.taken q.last (told_by s.op e.found)).taken in
    subst (λ (n : ℕ). ((e.at ≢ 0) × (now ≡ n)) ⊎ ((e.at ≡ 0) × Raises e.found e.left n now)) (called_taken p e.call)
    (step_takes q.side q.taken q.last s.op e.at e.left e.found s.place s.left q.phase s.next)

module _ (start : Start Taker) (opened : IsOpen start) where
  -- the core's own word shows its ticket, and its side is the one that it had
  abbrev pub OwnShown : List (Entry ℕ) → ℕ → Taker → Type 0
  OwnShown t c p = (word_after start t (word_place p.side) ≡ shown p)
      × ((was : Taker) × (slice_get start.programs c ≡ Some was) × (p.side ≡ was.side))

  abbrev pub AllOwnShown : List (Entry ℕ) → Type 0
  AllOwnShown t = (c : ℕ) (p : Taker) → program_after T start t c ≡ Some p → OwnShown t c p

  module _ (t : List (Entry ℕ)) (e : Entry ℕ) (m : MayFollow T start t e) (own : AllOwnShown t) where
    abbrev q : Taker
    q = called T m.program e.call

    abbrev r : Taker
    r = after_in q.side q.phase q.taken q.last (told_by m.step.op e.found)

    step : StepShows q e.at e.left r
    step = step_shows q.side q.taken q.last m.step.op e.at e.left e.found m.step.place m.step.left q.phase m.step.next

    mine : OwnShown t e.core m.program
    mine = own e.core m.program m.runs

    keeps_here : OwnShown (e ∷ t) e.core r
    keeps_here =
        let side : r.side ≡ m.program.side = step.0 ∙ called_side m.program e.call in
        let was = ap (λ s. word_after start t (word_place s)) side ∙ mine.0 ∙ sym (called_shown m.program e.call m.step.may) in (
          ⊎_elim (λ (z : (e.at ≡ 0) × (shown r ≡ shown q)).
              word_elsewhere start e t (word_place r.side) (λ at. own_place r.side (sym at ∙ z.0)) ∙ was ∙ sym z.1)
              (λ (z : (e.at ≡ word_place q.side) × (e.left ≡ shown r)).
              word_here start e t (word_place r.side) (z.0 ∙ ap word_place (sym step.0)) ∙ z.1)
              step.1,
          (mine.1.0, mine.1.1, side ∙ mine.1.2),
        )

    keeps_elsewhere : (c : ℕ) (p : Taker) → e.core ≢ c → OwnShown t c p → OwnShown (e ∷ t) c p
    keeps_elsewhere c p other its =
        let apart : word_place q.side ≢ word_place p.side = (λ same.
        let sides = sym (called_side m.program e.call ∙ mine.1.2) ∙ one_place q.side p.side same ∙ its.1.2 in
        other (opened.apart e.core c mine.1.0 its.1.0 mine.1.1 its.1.1 sides)) in
        let elsewhere : e.at ≢ word_place p.side = (λ at.
        ⊎_elim (λ (z : (e.at ≡ 0) × (shown r ≡ shown q)). own_place p.side (sym at ∙ z.0))
        (λ (z : (e.at ≡ word_place q.side) × (e.left ≡ shown r)). apart (sym z.0 ∙ at))
        step.1) in
        (word_elsewhere start e t (word_place p.side) elsewhere ∙ its.0, its.1)

    keeps : AllOwnShown (e ∷ t)
    keeps c p runs = dite (ℕ_discrete e.core c)
        (λ (same : e.core ≡ c).
        let now = program_here T start e t c m.program same (sym (ap (program_after T start t) same) ∙ m.runs) m.step in
        let is : r ≡ p = cc in
        subst (λ (z : ℕ × Taker). OwnShown (e ∷ t) z.0 z.1) (λ i. (same i, is i)) keeps_here)
        (λ (other : e.core ≢ c). keeps_elsewhere c p other (own c p (sym (program_elsewhere T start e t c other) ∙ runs)))

  own_shown : (t : List (Entry ℕ)) → IsSound T start t → AllOwnShown t
  own_shown t sound = kept_along T start AllOwnShown
      (λ c p runs.
      (at_all (λ q. slice_index start.words (word_place q.side) ≡ shown q) start.programs c p opened.shown.own runs, (p, runs, refl)))
      (λ t e before m own. keeps t e m own) t sound

  -- the words and programs that a sound trace leaves show the tickets
  pub shown_after : (t : List (Entry ℕ)) → IsSound T start t → (words : List ℕ) → ((i : ℕ) → slice_index words i ≡ word_after start t i)
      → (programs : List Taker) → ((c : ℕ) → slice_get programs c ≡ program_after T start t c) → length programs ≡ length start.programs
      → AreShown words programs
  shown_after t sound words word programs program count = record {
    taken = counts_scores T (λ p. p.taken) takes_score start t sound opened.shown.taken (slice_index words 0) (word 0)
        programs program count;
    own = all_at (λ p. slice_index words (word_place p.side) ≡ shown p) programs
        (λ c p e. word (word_place p.side) ∙ (own_shown t sound c p (sym (program c) ∙ e)).0);
  }

  -- a step on the core's own word finds what the core shows
  found_own : (a b : Seat) (op : WordOp) → a.table.start ≡ start → FollowsTrace T a → FollowsTrace T b
      → (s : MakesStep T a None op b) → place_in op ≡ word_place a.program.side → s.found ≡ shown a.program
  found_own a b op same from follows s place =
      let before : List (Entry ℕ) = s.others ++ a.seen in
      let at_b : b.table.start ≡ start = ap (λ t. t.start) s.table ∙ same in
      let sound : IsSound T start (entry a.core op s.found None ∷ before) =
      subst (λ (z : Start Taker × List (Entry ℕ)). IsSound T z.0 z.1) (λ i. (at_b i, s.seen i)) follows.sound in
      let ran : program_after T start a.seen a.core ≡ Some a.program =
      subst (λ (z : Start Taker). program_after T z a.seen a.core ≡ Some a.program) same from.runs in
      let runs = program_stays T start a.core s.others a.seen s.apart ∙ ran in
      sound.1.found ∙ ap (word_after start before) place ∙ (own_shown before sound.0 a.core a.program runs).0

  -- the three steps of a call
  pub takes_from : (a b c d : Seat) (count ticket : ℕ) → a.table.start ≡ start
      → MakesStep T a (Some count) (Add 0 count) b → FollowsTrace T b
      → MatchOption (T.next b.program) (c ≡ b) (λ op. MakesStep T b None op c) → FollowsTrace T c
      → MatchOption (T.next c.program) (d ≡ c) (λ op. MakesStep T c None op d) → FollowsTrace T d
      → ticket ≡ d.program.last → TakesFrom a count ticket d
  takes_from a b c d count ticket same add from_b may_store from_c may_load from_d is =
      let side : Side = a.program.side in
      let taken : ℕ = (a.program.taken + count) % 2 ^ 64 in
      let stores : WordOp = Store (word_place side) add.found in
      let loads : WordOp = Load (word_place side) in
      let store : MakesStep T b None stores c =
      subst (λ (p : Taker). MatchOption (T.next p) (c ≡ b) (λ op. MakesStep T b None op c)) add.program may_store in
      let stored : c.program ≡ taker side (ReadsBack add.found) taken a.program.last =
      store.program ∙ ap (λ (p : Taker). T.after p add.found) add.program in
      let load : MakesStep T c None loads d =
      subst (λ (p : Taker). MatchOption (T.next p) (d ≡ c) (λ op. MakesStep T c None op d)) stored may_load in
      let loaded : d.program ≡ taker side Idle taken load.found = load.program ∙ ap (λ (p : Taker). T.after p load.found) stored in
      let at_b : b.table.start ≡ start = ap (λ t. t.start) add.table ∙ same in
      let at_c : c.table.start ≡ start = ap (λ t. t.start) store.table ∙ at_b in
      let place_b = sym (ap (λ (p : Taker). word_place p.side) add.program) in
      let place_c = sym (ap (λ (p : Taker). word_place p.side) stored) in
      let hid : store.found ≡ a.program.last = found_own b c stores at_b from_b from_c store place_b ∙ ap shown add.program in
      let back : load.found ≡ add.found = found_own c d loads at_c from_c from_d load place_c ∙ ap shown stored in
      let ticket_is : load.found ≡ ticket = sym (is ∙ ap (λ (p : Taker). p.last) loaded) in
      let added : add.found ≡ ticket = sym back ∙ ticket_is in
      record {
        before_add = add.others;
        before_store = store.others;
        before_load = load.others;
        apart = (
          add.apart,
          subst (λ k. AreOfOthers k store.others) add.core store.apart,
          subst (λ k. AreOfOthers k load.others) (store.core ∙ add.core) load.apart,
        );
        seen = cc;
        program = loaded ∙ ap (taker side Idle taken) ticket_is;
        core = load.core ∙ store.core ∙ add.core;
        table = load.table ∙ store.table ∙ add.table;
      }

regroup : {A : Type 0} (xs ys zs t : List A) (x y : A) → (xs ++ x ∷ (ys ++ y ∷ zs)) ++ t ≡ xs ++ x ∷ (ys ++ y ∷ (zs ++ t))
regroup xs ys zs t x y = simp append_assoc

pub takes_goes_on : (seat made : Seat) (count ticket : ℕ) → TakesFrom seat count ticket made → GoesOn seat made
takes_goes_on seat made count ticket t =
    let add : Entry ℕ = entry seat.core (Add 0 count) ticket (Some count) in
    let store : Entry ℕ = entry seat.core (Store (word_place seat.program.side) ticket) seat.program.last None in
    let load : Entry ℕ = entry seat.core (Load (word_place seat.program.side)) ticket None in
    let groups = regroup t.before_load t.before_store t.before_add seat.seen store add in
    record {
      begins = record {
        since = load ∷ (t.before_load ++ store ∷ (t.before_store ++ add ∷ t.before_add));
        whole = t.seen ∙ ap (λ (l : List (Entry ℕ)). load ∷ l) (sym groups);
      };
      core = t.core;
      table = t.table;
    }
