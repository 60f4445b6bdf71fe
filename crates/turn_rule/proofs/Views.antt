-- Views that are cut, joined and brought up to date keep the rule.
use Rattle.std.proofs.Common.{◌≡◌, ◌≢◌, ◌⊎◌, ℕ, zero, suc, ◌<◌, ◌≤◌, ◌==◌, true, List, [], ◌∷◌, ◌++◌, length, get_or, set, if◌then◌else◌}
use Rattle.std.proofs.Common.{refl, sym, ap, ◌∙◌, subst, ⊎_elim, inl, inr, arith, eq-eqb, ne_eqb, lt_of_not-le}
use Rattle.turn_rule.specs.{SpreadValue, position, program_after, IsSound, part, Kept, IsSeated, Stays}
use Rattle.atomic_table.specs.Table.{State, Me, step, keeps, stepped, Allows, Splits, Joins, Enters}
use Rattle.atomic_table.proofs.Lists.{at_set, at_snoc, set_again}
use Rattle.turn_rule.specs.{declared.view.Entry.Entry, declared.view.Start.Start, declared.view.Part.Part, declared.view.View.View}
use Rattle.turn_rule.specs.{Steps.Steps, Positions.IsLaid, Rule.nothing, Rule.view, Rule.note_of, Rule.joined, Rule.first_core}
use Rattle.turn_rule.specs.{Rule.other_cores, Rule.Fits, Rule.Gathers, Rule.met, Rule.gathered, Rule.starts}
use Rattle.turn_rule.proofs.Keeps.{has_all, fits_nothing, program_seen}
use mathlib.Core.Option.{none, some, some-injective, some-ne-none}
use native.Mathlib.Decide.{dec_le}
use lib.ListN.{get_elem?}

set_same : (l : List ℕ) (i : ℕ) → set l i (get_or l i 0) ≡ l
set_same [] i = refl
set_same (x ∷ xs) zero = refl
set_same (x ∷ xs) (suc i) = ap (λ (ys : List ℕ). x ∷ ys) (set_same xs i)

-- a look-up after a push
pushed_at : {A : Type 0} (l : List A) (a b : A) (j : ℕ) → get_elem? (l ++ a ∷ []) j ≡ some b
    → (get_elem? l j ≡ some b) ⊎ ((j ≡ length l) × (a ≡ b))
pushed_at [] a b zero e = inr (refl, some-injective a b e)
pushed_at [] a b (suc j) e = absurd (some-ne-none b (sym e))
pushed_at (x ∷ xs) a b zero e = inl e
pushed_at (x ∷ xs) a b (suc j) e = ⊎_elim (λ (t : get_elem? xs j ≡ some b). inl t)
    (λ (t : (j ≡ length xs) × (a ≡ b)). let same = t.0 in inr (omega arith, t.1)) (pushed_at xs a b j e)

-- n, but m in the place of k
abbrev moved : ℕ → ℕ → ℕ → ℕ
moved k m n = if n == k then m else n

moved_here : (k m n : ℕ) → n ≡ k → moved k m n ≡ m
moved_here k m n e = ap (λ b. if b then m else n) (eq-eqb n k e)

moved_else : (k m n : ℕ) → n ≢ k → moved k m n ≡ n
moved_else k m n e = ap (λ b. if b then m else n) (ne_eqb n k e)

module _ {P C : Type 0} (start : Start P) (t : List (Entry C)) where
  -- a part fits where another does that has seen the same and has all its cores
  narrower : (owner other : ℕ → ℕ) (id j : ℕ) (p q : Part P C) → Fits start t owner id p → q.live ≡ p.live → q.start ≡ p.start
      → q.seen ≡ p.seen
      → ((c : ℕ) → q.from ≤ c → c < q.to → (p.from ≤ c) × (c < p.to)) → ((c : ℕ) → q.from ≤ c → c < q.to → owner c ≡ id → other c ≡ j)
      → Fits start t other j q
  narrower owner other id j p q f live origin seen within owns = record {
    same = λ on. origin ∙ f.same (sym live ∙ on);
    begins = record {
      since = f.begins.since;
      whole = f.begins.whole ∙ ap (λ (l : List (Entry C)). f.begins.since ++ l) (sym seen);
      apart = λ c low high. let w = within c low high in f.begins.apart c w.0 w.1;
    };
    owns = λ c low high. let w = within c low high in owns c low high (f.owns c w.0 w.1);
  }

  -- the same part under other owners
  owned_by : (owner other : ℕ → ℕ) (id j : ℕ) (p : Part P C) → Fits start t owner id p
      → ((c : ℕ) → p.from ≤ c → c < p.to → owner c ≡ id → other c ≡ j) → Fits start t other j p
  owned_by owner other id j p f owns = narrower owner other id j p p f refl refl refl (λ c low high. (low, high)) owns

module _ {P C : Type 0} (T : Steps P C) (spread : SpreadValue) (start : Start P) where
  abbrev K : State (Unit {0}) (View P C) → Type 0
  K = Kept T spread start

  abbrev opening_view : View P C
  opening_view = view (part start 0 (length start.programs) [])

  -- the rule holds at the start
  pub begins : (memory : List ℕ) → IsLaid spread start.words memory → K record { words = memory; homes = []; views = opening_view ∷ [] }
  begins memory laid = record {
    trace = [];
    count = laid.count;
    words = laid.word;
    sound = tt;
    owner = λ _. 0;
    own = λ id v e. subst (λ (z : ℕ × View P C). Fits start [] (λ _. 0) z.0 z.1.own) (λ i. (sym (only id v e).0 i, (only id v e).1 i))
        record { same = λ _. refl; begins = has_all start 0 (length start.programs) []; owns = λ c low high. refl };
    told = λ id v e. subst (λ (z : ℕ × View P C). Fits start [] (λ _. 0) z.0 z.1.told) (λ i. (sym (only id v e).0 i, (only id v e).1 i))
        (fits_nothing start [] (λ _. 0) 0);
  }
    where
      only : (id : ℕ) (v : View P C) → get_elem? (opening_view ∷ []) id ≡ some v → (id ≡ 0) × (opening_view ≡ v)
      only zero v e = (refl, some-injective _ _ e)
      only (suc id) v e = absurd (some-ne-none v (sym e))

  -- a note stands for no core
  pub notes : (id : ℕ) (v : View P C) → Splits K id v v (note_of v)
  notes id v s h at = let mine = h.own id v at in let t = h.trace in let now : set s.views id v ≡ s.views = set_again s.views id v at in
      record {
        trace = t;
        count = h.count;
        words = h.words;
        sound = h.sound;
        owner = h.owner;
        own = λ j u e. ⊎_elim
            (λ (z : get_elem? (set s.views id v) j ≡ some u). h.own j u (subst (λ (l : List (View P C)). get_elem? l j ≡ some u) now z))
            (λ (z : (j ≡ length (set s.views id v)) × (note_of v ≡ u)). subst (λ (y : View P C). Fits start t h.owner j y.own) z.1
            (narrower start t h.owner h.owner id j v.own (note_of v).own mine refl refl refl (λ c low high. absurd (omega arith))
            (λ c low high _. absurd (omega arith))))
            (pushed_at (set s.views id v) (note_of v) u j e);
        told = λ j u e. ⊎_elim
            (λ (z : get_elem? (set s.views id v) j ≡ some u). h.told j u (subst (λ (l : List (View P C)). get_elem? l j ≡ some u) now z))
            (λ (z : (j ≡ length (set s.views id v)) × (note_of v ≡ u)). subst (λ (y : View P C). Fits start t h.owner j y.told) z.1
            (fits_nothing start t h.owner j))
            (pushed_at (set s.views id v) (note_of v) u j e);
      }

  -- a join moves the other seat's cores to the seat
  pub takes : (id : ℕ) (v : View P C) (other : ℕ) (w : View P C) → Joins K id v other w (joined v w) (view nothing)
  takes id v other w s h at apart there =
      let t = h.trace in
      let both : View P C = joined v w in
      let was : get_elem? s.views other ≡ some w =
      ⊎_elim (λ (z : (other ≡ id) × (both ≡ w)). absurd (apart z.0)) (λ (z : (other ≢ id) × (get_elem? s.views other ≡ some w)). z.1)
      (at_set s.views id other both w there) in
      let owner : ℕ → ℕ = λ c. moved other id (h.owner c) in
      let stays : (j : ℕ) (p : Part P C) → j ≢ other → Fits start t h.owner j p → Fits start t owner j p =
      λ j p n f. owned_by start t h.owner owner j j p f (λ c low high is. moved_else other id (h.owner c) (λ e. n (sym is ∙ e)) ∙ is) in
      record {
        trace = t;
        count = h.count;
        words = h.words;
        sound = h.sound;
        owner = owner;
        own = λ j u e. ⊎_elim
            (λ (y : (j ≡ other) × (view nothing ≡ u)). subst (λ (z : View P C). Fits start t owner j z.own) y.1
            (fits_nothing start t owner j))
            (λ (y : (j ≢ other) × (get_elem? (set s.views id both) j ≡ some u)). ⊎_elim
            (λ (z : (j ≡ id) × (both ≡ u)). subst (λ (x : ℕ × View P C). Fits start t owner x.0 x.1.own) (λ i. (sym z.0 i, z.1 i))
            (stays id v.own (λ x. apart (sym x)) (h.own id v at)))
            (λ (z : (j ≢ id) × (get_elem? s.views j ≡ some u)). stays j u.own y.0 (h.own j u z.1))
            (at_set s.views id j both u y.1))
            (at_set (set s.views id both) other j (view nothing) u e);
        told = λ j u e. ⊎_elim
            (λ (y : (j ≡ other) × (view nothing ≡ u)). subst (λ (z : View P C). Fits start t owner j z.told) y.1
            (fits_nothing start t owner j))
            (λ (y : (j ≢ other) × (get_elem? (set s.views id both) j ≡ some u)). ⊎_elim
            (λ (z : (j ≡ id) × (both ≡ u)). subst (λ (x : ℕ × View P C). Fits start t owner x.0 x.1.told) (λ i. (sym z.0 i, z.1 i))
            (owned_by start t h.owner owner other id w.own (h.own other w was) (λ c low high is. moved_here other id (h.owner c) is)))
            (λ (z : (j ≢ id) × (get_elem? s.views j ≡ some u)). stays j u.told y.0 (h.told j u z.1))
            (at_set s.views id j both u y.1))
            (at_set (set s.views id both) other j (view nothing) u e);
      }

  -- a view that has seen all
  caught_up : (s : State (Unit {0}) (View P C)) (h : K s) (id : ℕ) (v : View P C) → get_elem? s.views id ≡ some v → (to : ℕ)
      → ((c : ℕ) → v.own.from ≤ c → c < to → h.owner c ≡ id) → v.own.live ≡ true
      → (c : List (ℕ × Unit {0})) → K (stepped s 0 (get_or s.words 0 0) id c (view (part v.own.start v.own.from to h.trace)) keeps)
  caught_up s h id v at to owns live c = let t = h.trace in let w : View P C = view (part v.own.start v.own.from to t) in record {
    trace = t;
    count = ap length (set_same s.words 0) ∙ h.count;
    words = λ i lt. ap (λ (l : List ℕ). get_or l (position spread i) 0) (set_same s.words 0) ∙ h.words i lt;
    sound = h.sound;
    owner = h.owner;
    own = λ j u e. ⊎_elim
        (λ (z : (j ≡ id) × (w ≡ u)). subst (λ (y : ℕ × View P C). Fits start t h.owner y.0 y.1.own) (λ i. (sym z.0 i, z.1 i))
        record { same = λ _. (h.own id v at).same live; begins = has_all v.own.start v.own.from to t; owns = owns })
        (λ (z : (j ≢ id) × (get_elem? s.views j ≡ some u)). h.own j u z.1)
        (at_set s.views id j w u e);
    told = λ j u e. ⊎_elim
        (λ (z : (j ≡ id) × (w ≡ u)). subst (λ (y : ℕ × View P C). Fits start t h.owner y.0 y.1.told) (λ i. (sym z.0 i, z.1 i))
        (fits_nothing start t h.owner id))
        (λ (z : (j ≢ id) × (get_elem? s.views j ≡ some u)). h.told j u z.1)
        (at_set s.views id j w u e);
  }

  stays_at : (t : List (Entry C)) (v : Part P C) → IsSound T start t → v.start ≡ start → (to : ℕ) → Stays T v to (part v.start v.from to t)
  stays_at t v sound same to = record {
    live = refl;
    start = refl;
    from = refl;
    end = refl;
    sound = subst (λ (z : Start P). IsSound T z t) (sym same) sound;
  }

  gathers : (s : State (Unit {0}) (View P C)) (h : K s) (id : ℕ) (v : View P C) → get_elem? s.views id ≡ some v → (to : ℕ)
      → v.own.live ≡ true
      → Gathers T v.own v.told to (part v.own.start v.own.from to h.trace)
  gathers s h id v at to live = let mine = h.own id v at in let other = h.told id v at in record {
    own = mine.begins;
    other = other.begins;
    stays = stays_at h.trace v.own h.sound (mine.same live) to;
    same = λ on. other.same on ∙ sym (mine.same live);
  }

  -- the load of a meet
  pub meets : (slots id : ℕ) (me : Me (Unit {0}) (View P C)) → me.0.own.live ≡ true
      → Allows K slots id me 0 (λ n. n) (met T (step slots 0 0 0 none) me)
  meets slots id me live s h _ at _ = let v = me.0 in
      (_, keeps, tt, caught_up s h id v at v.own.to (h.own id v at).owns live me.1, (gathers s h id v at v.own.to live, refl))

  -- the load with which a seat takes over the next cores
  pub gathers_all : (slots id : ℕ) (me : Me (Unit {0}) (View P C)) → me.0.own.live ≡ true → me.0.told.from ≡ me.0.own.to
      → Allows K slots id me 0 (λ n. n) (gathered T (step slots 0 0 0 none) me)
  gathers_all slots id me live next s h _ at _ = let v = me.0 in (
    _,
    keeps,
    tt,
    caught_up s h id v at v.told.to
        (λ c low high. by_part h.owner v (h.own id v at).owns (h.told id v at).owns next c low high (dec_le v.own.to c)) live me.1,
    (gathers s h id v at v.told.to live, refl),
  )
    where
      by_part : (owner : ℕ → ℕ) (v : View P C) → ((c : ℕ) → v.own.from ≤ c → c < v.own.to → owner c ≡ id)
          → ((c : ℕ) → v.told.from ≤ c → c < v.told.to → owner c ≡ id) → v.told.from ≡ v.own.to
          → (c : ℕ) → v.own.from ≤ c → c < v.told.to → Dec (v.own.to ≤ c) → owner c ≡ id
      by_part owner v owns owns_told next c low high (yes d) = owns_told c (omega arith) high
      by_part owner v owns owns_told next c low high (no d) = owns c low (lt_of_not-le d)

  -- a new seat of no core
  pub comes : (slots : ℕ) (v : View P C) → v.own.live ≡ true → v.own.start ≡ start → v.own.from ≡ 0
      → Enters K slots 0 (λ n w. starts T (step slots 0 0 0 none) (v, []) n (w, []))
  comes slots v live same low s h _ _ = let t = h.trace in let w : View P C = view (part v.own.start v.own.from 0 t) in (
    w,
    record {
      trace = t;
      count = h.count;
      words = h.words;
      sound = h.sound;
      owner = h.owner;
      own = λ j u e. ⊎_elim
          (λ (z : get_elem? s.views j ≡ some u). h.own j u z)
          (λ (z : w ≡ u). subst (λ (y : View P C). Fits start t h.owner j y.own) z
          record { same = λ _. same; begins = has_all v.own.start v.own.from 0 t; owns = λ c low high. absurd (omega arith) })
          (at_snoc s.views w u j e);
      told = λ j u e. ⊎_elim
          (λ (z : get_elem? s.views j ≡ some u). h.told j u z)
          (λ (z : w ≡ u). subst (λ (y : View P C). Fits start t h.owner j y.told) z (fits_nothing start t h.owner j))
          (at_snoc s.views w u j e);
    },
    stays_at t v.own h.sound same 0,
  )

  -- the first core gets a seat of its own
  pub deals : (id : ℕ) (v : View P C) → v.own.from < v.own.to → Splits K id v (other_cores v) (first_core v)
  deals id v some_core s h at =
      let mine = h.own id v at in
      let t = h.trace in
      let c0 : ℕ = v.own.from in
      let left : View P C = other_cores v in
      let right : View P C = first_core v in
      let new : ℕ = length (set s.views id left) in
      let owner : ℕ → ℕ = λ c. if c == c0 then new else h.owner c in
      let here : owner c0 ≡ new = ap (λ b. if b then new else h.owner c0) (eq-eqb c0 c0 refl) in
      let apart_from : (c : ℕ) → c ≢ c0 → owner c ≡ h.owner c = λ c n. ap (λ b. if b then new else h.owner c) (ne_eqb c c0 n) in
      let its : h.owner c0 ≡ id = mine.owns c0 (omega arith) some_core in
      let stays : (j : ℕ) (p : Part P C) → j ≢ id → Fits start t h.owner j p → Fits start t owner j p =
      λ j p n f. owned_by start t h.owner owner j j p f (λ c low high is. apart_from c (λ e. n (sym is ∙ ap h.owner e ∙ its)) ∙ is) in
      record {
        trace = t;
        count = h.count;
        words = h.words;
        sound = h.sound;
        owner = owner;
        own = λ j u e. ⊎_elim
            (λ (y : get_elem? (set s.views id left) j ≡ some u). ⊎_elim
            (λ (z : (j ≡ id) × (left ≡ u)). subst (λ (x : ℕ × View P C). Fits start t owner x.0 x.1.own) (λ i. (sym z.0 i, z.1 i))
            (narrower start t h.owner owner id id v.own left.own mine refl refl refl (λ c low high. (omega arith, high))
            (λ c low high is. apart_from c (λ e. let same = e in omega arith) ∙ is)))
            (λ (z : (j ≢ id) × (get_elem? s.views j ≡ some u)). stays j u.own z.0 (h.own j u z.1))
            (at_set s.views id j left u y))
            (λ (y : (j ≡ new) × (right ≡ u)). subst (λ (x : ℕ × View P C). Fits start t owner x.0 x.1.own) (λ i. (sym y.0 i, y.1 i))
            (narrower start t h.owner owner id new v.own right.own mine refl refl refl (λ c low high. (low, omega arith))
            (λ c low high _. let same : c ≡ c0 = omega arith in ap owner same ∙ here)))
            (pushed_at (set s.views id left) right u j e);
        told = λ j u e. ⊎_elim
            (λ (y : get_elem? (set s.views id left) j ≡ some u). ⊎_elim
            (λ (z : (j ≡ id) × (left ≡ u)). subst (λ (x : ℕ × View P C). Fits start t owner x.0 x.1.told) (λ i. (sym z.0 i, z.1 i))
            (fits_nothing start t owner id))
            (λ (z : (j ≢ id) × (get_elem? s.views j ≡ some u)). stays j u.told z.0 (h.told j u z.1))
            (at_set s.views id j left u y))
            (λ (y : (j ≡ new) × (right ≡ u)). subst (λ (x : View P C). Fits start t owner j x.told) y.1 (fits_nothing start t owner j))
            (pushed_at (set s.views id left) right u j e);
      }

module _ {P C : Type 0} (T : Steps P C) where
  -- after a meet the seat is one again
  pub met_on : (core : ℕ) (me now : Me (Unit {0}) (View P C)) (told : Part P C) (p : P) → IsSeated T core me p
      → Gathers T me.0.own told me.0.own.to now.0.own → now.1 ≡ me.1 → IsSeated T core now p
  met_on core me now told p seated g slots = let from = seated.from in let end = seated.end in record {
    live = g.stays.live;
    from = g.stays.from ∙ seated.from;
    end = g.stays.end ∙ seated.end;
    follows = record {
      sound = g.stays.sound;
      runs = ap (λ (z : Start P). program_after T z now.0.own.seen core) g.stays.start
          ∙ program_seen T me.0.own.start now.0.own.seen me.0.own core g.own (omega arith) (omega arith) ∙ seated.follows.runs;
    };
    no_slot = slots ∙ seated.no_slot;
    size = seated.size ∙ sym (ap (λ (z : Start P). length z.words) g.stays.start);
  }
