-- A step of a core keeps the rule.
use Rattle.std.proofs.Common.{◌≡◌, ◌≢◌, ℕ, ◌<◌, ◌≤◌, ◌==◌, List, [], ◌∷◌, ◌++◌, length, get_or, set, length-set, get_or-set_other}
use Rattle.std.proofs.Common.{get_or-set_same, if◌then◌else◌, Option, Some, refl, sym, ap, ◌∙◌, subst, ⊎_elim, arith, eq-eqb, ne_eqb}
use Rattle.turn_rule.specs.{SpreadValue, position, entry, AreOfOthers, called, MayCall, program_after, IsStep, MayFollow, IsSound, part}
use Rattle.atomic_table.specs.Table.{State, Me, keeps, stepped, Allows}
use Rattle.spk_nums.specs.{declared.steps.WordOp.WordOp, WordSteps.place_in, WordSteps.left_by, WordSteps.told_by}
use Rattle.turn_rule.specs.{declared.view.Entry.Entry, declared.view.Start.Start, declared.view.Part.Part, declared.view.View.View}
use Rattle.turn_rule.specs.{Steps.Steps, Rule.nothing, Rule.view, Rule.Fits, Rule.IsDue, Rule.Goes}
use Rattle.{std.proofs.Common.append-nil, turn_rule.specs.Begins, turn_rule.specs.Kept, turn_rule.specs.IsSeated}
use Rattle.{atomic_table.proofs.Lists.at_set, turn_rule.proofs.Positions.position_grows, turn_rule.proofs.Positions.position_apart}
use Rattle.{turn_rule.proofs.Positions.position_within, turn_rule.proofs.Traces.program_here, turn_rule.proofs.Traces.program_stays}
use mathlib.Core.Logic.{dite}
use mathlib.Core.Option.{some}
use native.Mathlib.Decide.{ℕ_discrete}
use lib.ListN.{get_elem?}

-- the word of a place after one was stored at another
stored_at : (s : SpreadValue) → 0 < s.row → (l : List ℕ) (at i x : ℕ) → position s at < length l
    → get_or (set l (position s at) x) (position s i) 0 ≡ (if at == i then x else get_or l (position s i) 0)
stored_at s row l at i x inside = dite (ℕ_discrete at i)
    (λ (same : at ≡ i). subst (λ (j : ℕ). get_or (set l (position s at) x) (position s j) 0 ≡ x) same
    (get_or-set_same l (position s at) x 0 inside)
    ∙ sym (ap (λ b. if b then x else get_or l (position s i) 0) (eq-eqb at i same)))
    (λ (other : at ≢ i). get_or-set_other l (position s at) (position s i) x 0 (position_apart s row i at (λ e. other (sym e)))
    ∙ sym (ap (λ b. if b then x else get_or l (position s i) 0) (ne_eqb at i other)))

module _ {P C : Type 0} where
  -- who has seen all so far
  pub has_all : (start : Start P) (from to : ℕ) (t : List (Entry C)) → Begins t (part start from to t)
  has_all start from to t = record { since = []; whole = refl; apart = λ c low high. tt }

  pub fits_nothing : (start : Start P) (t : List (Entry C)) (owner : ℕ → ℕ) (id : ℕ) → Fits start t owner id nothing
  fits_nothing start t owner id = record {
    same = λ off. absurd (cc);
    begins = record { since = t; whole = sym (append-nil t); apart = λ c low high. absurd (omega arith) };
    owns = λ c low high. absurd (omega arith);
  }

  -- what fits still does, after a step of a core of another seat
  fits_more : (start : Start P) (t : List (Entry C)) (owner : ℕ → ℕ) (j id : ℕ) (p : Part P C) (e : Entry C) → Fits start t owner j p
      → owner e.core ≡ id → j ≢ id → Fits start (e ∷ t) owner j p
  fits_more start t owner j id p e f its other = record {
    same = f.same;
    begins = record {
      since = e ∷ f.begins.since;
      whole = ap (λ (l : List (Entry C)). e ∷ l) f.begins.whole;
      apart = λ c low high. ((λ same. other (sym (f.owns c low high) ∙ ap owner (sym same) ∙ its)), f.begins.apart c low high);
    };
    owns = f.owns;
  }

module _ {P C : Type 0} (T : Steps P C) where
  -- a core's program is what it was in what its seat has seen
  pub program_seen : (start : Start P) (t : List (Entry C)) (p : Part P C) (c : ℕ) → Begins t p → p.from ≤ c → c < p.to
      → program_after T start t c ≡ program_after T start p.seen c
  program_seen start t p c b low high = ap (λ (l : List (Entry C)). program_after T start l c) b.whole
      ∙ program_stays T start c b.since p.seen (b.apart c low high)

module _ {P C : Type 0} (T : Steps P C) (spread : SpreadValue) (some_row : 0 < spread.row) (start : Start P) where
  module _ (s : State (Unit {0}) (View P C)) (h : Kept T spread start s) (id : ℕ) (me : Me (Unit {0}) (View P C))
      (at : get_elem? s.views id ≡ some me.0) (call : Option C) (op : WordOp) (due : IsDue T (length start.words) me call op)
      (small : get_or s.words (position spread (place_in op)) 0 < 18446744073709551616) where
    abbrev v : Part P C
    v = me.0.own

    abbrev mine : Fits start h.trace h.owner id v
    mine = h.own id me.0 at

    abbrev n : ℕ
    n = get_or s.words (position spread (place_in op)) 0

    abbrev e : Entry C
    e = entry v.from op n call

    -- the seat's new view
    abbrev w : View P C
    w = view (part v.start v.from v.to (e ∷ h.trace))

    abbrev same_start : v.start ≡ start
    same_start = mine.same due.seated.live

    runs : program_after T start h.trace v.from ≡ Some due.program
    runs = let from = due.seated.from in let end = due.seated.end in
        program_seen T start h.trace v v.from mine.begins (omega arith) (omega arith)
        ∙ ap (λ (z : Start P). program_after T z v.seen v.from) (sym same_start)
        ∙ ap (program_after T v.start v.seen) from
        ∙ due.seated.follows.runs

    follows : MayFollow T start h.trace e
    follows = record {
      inside = due.inside;
      found = h.words (place_in op) due.inside;
      in_range = small;
      program = due.program;
      runs = runs;
      step = record { may = due.may; op = op; next = due.next; place = refl; left = refl };
    }

    kept : (c : List (ℕ × Unit {0})) → Kept T spread start (stepped s (position spread (place_in op)) (left_by op n) id c w keeps)
    kept c = let from = due.seated.from in let end = due.seated.end in
        let its : h.owner v.from ≡ id = mine.owns v.from (omega arith) (omega arith) in record {
          trace = e ∷ h.trace;
          count = length-set s.words (position spread (place_in op)) (left_by op n) ∙ h.count;
          words = λ i lt.
              let same = h.count in
              let inside = position_grows spread some_row (place_in op) (length start.words) due.inside in
              stored_at spread some_row s.words (place_in op) i (left_by op n) (omega arith)
              ∙ ap (λ (m : ℕ). if place_in op == i then left_by op n else m) (h.words i lt);
          sound = (h.sound, follows);
          owner = h.owner;
          own = λ j u is. ⊎_elim
              (λ (t : (j ≡ id) × (w ≡ u)). subst (λ (z : ℕ × View P C). Fits start (e ∷ h.trace) h.owner z.0 z.1.own)
              (λ x. (sym t.0 x, t.1 x))
              record { same = λ _. same_start; begins = has_all v.start v.from v.to (e ∷ h.trace); owns = mine.owns })
              (λ (t : (j ≢ id) × (get_elem? s.views j ≡ some u)). fits_more start h.trace h.owner j id u.own e (h.own j u t.1) its t.0)
              (at_set s.views id j w u is);
          told = λ j u is. ⊎_elim
              (λ (t : (j ≡ id) × (w ≡ u)). subst (λ (z : ℕ × View P C). Fits start (e ∷ h.trace) h.owner z.0 z.1.told)
              (λ x. (sym t.0 x, t.1 x))
              (fits_nothing start (e ∷ h.trace) h.owner id))
              (λ (t : (j ≢ id) × (get_elem? s.views j ≡ some u)). fits_more start h.trace h.owner j id u.told e (h.told j u t.1) its t.0)
              (at_set s.views id j w u is);
        }

    goes : Goes T v call op (told_by op n) w.own
    goes = let from = due.seated.from in let end = due.seated.end in record {
      found = n;
      told_is = refl;
      others = mine.begins.since;
      apart = mine.begins.apart v.from (omega arith) (omega arith);
      seen = ap (λ (l : List (Entry C)). e ∷ l) mine.begins.whole;
      stays = record {
        live = refl;
        start = refl;
        from = refl;
        end = refl;
        sound = subst (λ (z : Start P). IsSound T z (e ∷ h.trace)) (sym same_start) (h.sound, follows);
      };
    }

  -- what `Allows` asks of a step that the program makes
  pub goes_on : (slots id : ℕ) (me : Me (Unit {0}) (View P C)) (call : Option C) (op : WordOp) → IsDue T (length start.words) me call op
      → Allows (Kept T spread start) slots id me (position spread (place_in op)) (left_by op)
      (λ n m. Goes T me.0.own call op (told_by op n) m.0.own × (m.1 ≡ me.1))
  goes_on slots id me call op due s h _ at small = (
    w s h id me at call op due small,
    keeps,
    tt,
    kept s h id me at call op due small me.1,
    (goes s h id me at call op due small, refl),
  )

module _ {P C : Type 0} (T : Steps P C) where
  -- the same where the step is named otherwise, and its word lies in so much memory
  pub made_on : (mine theirs : SpreadValue) → mine ≡ theirs → 0 < mine.row → (start : Start P) (n seen memory : ℕ) → n ≡ length start.words
      → length start.words ≡ seen → memory ≡ position mine n
      → (slots id : ℕ) (me : Me (Unit {0}) (View P C)) (call : Option C) (said op now : WordOp) → said ≡ op → op ≡ now → IsDue T seen me call op
      → (lies : ℕ) → lies ≡ position mine (place_in now)
      → (lies < memory)
      × Allows (Kept T theirs start) slots id me lies (left_by now)
      (λ n m. Goes T me.0.own call said (told_by now n) m.0.own × (m.1 ≡ me.1))
  made_on mine theirs same row start n seen memory many as_seen room slots id me call said op now is becomes due lies at =
      let due_now : IsDue T (length start.words) me call now =
      subst (λ (z : ℕ × WordOp). IsDue T z.0 me call z.1) (λ i. (sym as_seen i, becomes i)) due in
      let inside = due_now.inside in
      let within = position_within mine row (place_in now) n memory (omega arith) room in
      let row_theirs = subst (λ (s : SpreadValue). 0 < s.row) same row in
      let at_theirs : lies ≡ position theirs (place_in now) = at ∙ ap (λ (s : SpreadValue). position s (place_in now)) same in (
        omega arith,
        subst (λ (z : WordOp × ℕ). Allows (Kept T theirs start) slots id me z.1 (left_by now)
            (λ n m. Goes T me.0.own call z.0 (told_by now n) m.0.own × (m.1 ≡ me.1)))
            (λ i. (sym (is ∙ becomes) i, sym at_theirs i))
            (goes_on T theirs row_theirs start slots id me call now due_now),
      )

module _ {P C : Type 0} (T : Steps P C) where
  -- after its step the seat is one again
  pub seated_on : (core : ℕ) (me now : Me (Unit {0}) (View P C)) (p q : P) (call : Option C) (op : WordOp) (told : ℕ)
      → IsSeated T core me p → MayCall T p call → T.next (called T p call) ≡ Some op
      → Goes T me.0.own call op told now.0.own → now.1 ≡ me.1 → q ≡ T.after (called T p call) told → T.size q ≡ T.size p
      → IsSeated T core now q
  seated_on core me now p q call op told seated may next goes slots is size = let stays = goes.stays in record {
    live = stays.live;
    from = stays.from ∙ seated.from;
    end = stays.end ∙ seated.end;
    follows = record {
      sound = stays.sound;
      runs =
          let v = me.0.own in
          let e : Entry C = entry v.from op goes.found call in
          let s : IsStep T p e = record { may = may; op = op; next = next; place = refl; left = refl } in
          let others : program_after T v.start (goes.others ++ v.seen) core ≡ Some p =
          program_stays T v.start core goes.others v.seen (subst (λ (c : ℕ). AreOfOthers c goes.others) seated.from goes.apart)
          ∙ seated.follows.runs in
          ap (λ (z : Start P × List (Entry C)). program_after T z.0 z.1 core) (λ i. (stays.start i, goes.seen i))
          ∙ program_here T v.start e (goes.others ++ v.seen) core p seated.from others s
          ∙ ap (λ (n : ℕ). Some (T.after (called T p call) n)) (sym goes.told_is)
          ∙ ap Some (sym is);
    };
    no_slot = slots ∙ seated.no_slot;
    size = size ∙ seated.size ∙ sym (ap (λ (z : Start P). length z.words) stays.start);
  }
