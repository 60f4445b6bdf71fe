-- Seats that have told each other have all seen one trace, in which none of them has made a step since it met.
use Rattle.std.proofs.Common.{◌≡◌, ◌≢◌, inl, inr, ℕ, zero, suc, ◌+◌, ◌<◌, List, [], ◌∷◌, ◌++◌, length, get_or, All, Option, Some, refl, sym}
use Rattle.std.proofs.Common.{◌∙◌, ap, subst, arith, append_assoc, slice_get, slice_set, length-set, get_or-set_same}
use Rattle.core_kernel.specs.{AreOfOthers, KernelValue, CoreSeatValue, HasSeen, Extends, ExtendsByOthers, Meets}
use Rattle.ends_runners.specs.{AreOf, HasGathered, HasSpread, HaveMet}
use Rattle.std.proofs.{lemmas.Bool.cases_eq, lemmas.List.Elements.All-nil, lemmas.List.Elements.All-cons, lemmas.List.Elements.All-append}
use Rattle.ends_runners.specs.Meets.{GoesOn, Tells, IsTold, HasMet}
use Rattle.{std.proofs.lemmas.List.append_cancel_right, std.proofs.lemmas.List.set-get_or, std.proofs.lemmas.Option.slice_get_read}
use Rattle.{core_kernel.specs.kernel_history.specs.Trace.Trace, core_kernel.specs.Kernel.CoreNoteValue, core_kernel.proofs.Closing.at_of}

abbrev pub Seats : Type 0
Seats = List CoreSeatValue

-- ---- lists

get_set_same : (xs : Seats) (i : ℕ) (v : CoreSeatValue) → i < length xs → slice_get (slice_set xs i v) i ≡ Some v
get_set_same xs i v lt =
    slice_get_read (slice_set xs i v) (length (slice_set xs i v)) i v refl (let n = length-set xs i v in omega arith)
    (sym (get_or-set_same xs i v v lt))

get_set_other : (xs : Seats) (i j : ℕ) (v : CoreSeatValue) → j ≢ i → slice_get (slice_set xs i v) j ≡ slice_get xs j
get_set_other [] i j v other = refl
get_set_other (x ∷ xs) zero zero v other = absurd (other refl)
get_set_other (x ∷ xs) zero (suc j) v other = refl
get_set_other (x ∷ xs) (suc i) zero v other = refl
get_set_other (x ∷ xs) (suc i) (suc j) v other = get_set_other xs i j v (λ e. other (ap suc e))

the_same : (x y : CoreSeatValue) (o : Option CoreSeatValue) → o ≡ Some x → o ≡ Some y → x ≡ y
the_same x y o i j = cc

all_parts : {A : Type 0} (P : A → Type 0) (xs ys : List A) → All P (xs ++ ys) → All P xs × All P ys
all_parts P [] ys h = (All-nil P, h)
all_parts P (x ∷ xs) ys h =
    let rest = all_parts P xs ys (λ k d lt. h (suc k) d (omega arith)) in
    (All-cons P x xs (h 0 x (omega arith)) rest.0, rest.1)

-- ---- traces

-- steps of others after steps of others
pub others_on : (c : ℕ) (t u v : Trace) → ExtendsByOthers c t u → ExtendsByOthers c u v → ExtendsByOthers c t v
others_on c t u v x y = record {
  since = y.since ++ x.since;
  begins = y.begins ∙ ap (λ (s : Trace). y.since ++ s) x.begins ∙ sym (append_assoc y.since x.since t);
  apart = All-append (λ e. e.core ≢ c) y.since x.since y.apart x.apart;
}

others_none : (c : ℕ) (t : Trace) → ExtendsByOthers c t t
others_none c t = record { since = []; begins = refl; apart = All-nil (λ e. e.core ≢ c) }

extends_on : (c : ℕ) (t u v : Trace) → Extends t u → ExtendsByOthers c u v → Extends t v
extends_on c t u v x y = record {
  since = y.since ++ x.since;
  begins = y.begins ∙ ap (λ (s : Trace). y.since ++ s) x.begins ∙ sym (append_assoc y.since x.since t);
}

pub goes_on : (x y z : CoreSeatValue) → GoesOn x y → GoesOn y z → GoesOn x z
goes_on x y z h k = record {
  own = others_on x.core x.seen y.seen z.seen h.own (subst (λ (c : ℕ). ExtendsByOthers c y.seen z.seen) h.core k.own);
  core = k.core ∙ h.core;
  kernel = k.kernel ∙ h.kernel;
}

goes_none : (x : CoreSeatValue) → GoesOn x x
goes_none x = record { own = others_none x.core x.seen; core = refl; kernel = refl }

-- a trace between what a core had seen and what it has seen since, in which it has made no step, has none of its steps either
between : (c : ℕ) (was first on : Trace) → Extends was first → Extends first on → ExtendsByOthers c was on
    → ExtendsByOthers c was first × ExtendsByOthers c first on
between c was first on x y z =
    let whole : (y.since ++ x.since) ++ was ≡ z.since ++ was =
    append_assoc y.since x.since was ∙ ap (λ (s : Trace). y.since ++ s) (sym x.begins) ∙ sym y.begins ∙ z.begins in
    let same : y.since ++ x.since ≡ z.since = append_cancel_right (y.since ++ x.since) z.since was whole in
    let parts = all_parts (λ e. e.core ≢ c) y.since x.since (subst (AreOfOthers c) (sym same) z.apart) in
    (record { since = x.since; begins = x.begins; apart = parts.1 }, record { since = y.since; begins = y.begins; apart = parts.0 })

-- ---- telling

pub meets_goes : (s met : CoreSeatValue) (note : CoreNoteValue) → Meets s note met → GoesOn s met
meets_goes s met note m = record { own = m.own; core = m.core; kernel = m.kernel }

-- a seat that is put back as it was leaves all as they were
pub unchanged : (from : ℕ) (seats mid : Seats) (a left : CoreSeatValue) → a ≡ get_or seats from a → left ≡ a
    → mid ≡ slice_set seats from left → mid ≡ seats
unchanged from seats mid a left a_is same mid_is =
    mid_is ∙ ap (λ (v : CoreSeatValue). slice_set seats from v) (same ∙ a_is) ∙ set-get_or seats from a

-- one seat tells another
pub tells_one : (from to : ℕ) (seats mid new : Seats) (a left b met : CoreSeatValue) (note : CoreNoteValue) → from < length seats
    → to < length seats → a ≡ get_or seats from a → left ≡ a → mid ≡ slice_set seats from left → note.seen ≡ a.seen
    → b ≡ get_or mid to b → Meets b note met → new ≡ slice_set mid to met → Tells from to seats new
tells_one from to seats mid new a left b met note low high a_is same mid_is seen b_is m new_is =
    let back : mid ≡ seats = unchanged from seats mid a left a_is same mid_is in
    record {
      teller = a;
      from_is = slice_get_read seats (length seats) from a refl low a_is;
      told = b;
      to_was = slice_get_read seats (length seats) to b refl high (b_is ∙ ap (λ (l : Seats). get_or l to b) back);
      met = met;
      is = new_is ∙ ap (λ (l : Seats). slice_set l to met) back;
      goes = meets_goes b met note m;
      knows = subst (λ (t : Trace). Extends t met.seen) seen m.told;
    }

pub still_of : (of : KernelValue) (seats new : Seats) (to : ℕ) (met : CoreSeatValue) → AreOf of seats → to < length seats
    → new ≡ slice_set seats to met → met.kernel ≡ of → HasSeen met → AreOf of new
still_of of seats new to met are lt is kernel seen k s at = elim (cases_eq k to) [
  | inl here ↦
      let same : met ≡ s = the_same met s (slice_get new k)
      (ap (λ (l : Seats). slice_get l k) is ∙ subst (λ (i : ℕ). slice_get (slice_set seats to met) i ≡ Some met) (sym here)
      (get_set_same seats to met lt)) at in
      subst (λ (z : CoreSeatValue). (z.kernel ≡ of) × HasSeen z) same (kernel, seen)
  | inr other ↦ are k s (sym (get_set_other seats to k met other) ∙ ap (λ (l : Seats). slice_get l k) (sym is) ∙ at)
]

-- no seat has told the first one yet
pub gathered_none : (seats : Seats) → 0 < length seats → HasGathered 1 seats seats
gathered_none seats some =
    let f = at_of seats 0 some in
    record {
      count = refl;
      first = record { was = f.x; was_at = f.at; on = f.x; at = f.at; goes = goes_none f.x };
      same = λ k lt. refl;
      knows = λ k s lt at.
          let here : k ≡ 0 = omega arith in
          let is : s ≡ f.x = the_same s f.x (slice_get seats 0) (subst (λ (i : ℕ). slice_get seats i ≡ Some s) here at) f.at in
          record { since = []; begins = ap (λ z. z.seen) (sym is) };
    }

-- one more has
pub gathered_more : (n : ℕ) (seats mid new : Seats) → 0 < n → n < length seats → HasGathered n seats mid → Tells n 0 mid new
    → HasGathered (n + 1) seats new
gathered_more n seats mid new some lt h t =
    let told : h.first.on ≡ t.told = the_same h.first.on t.told (slice_get mid 0) h.first.at t.to_was in
    let went : GoesOn h.first.on t.met = subst (λ (z : CoreSeatValue). GoesOn z t.met) (sym told) t.goes in
    let size = h.count in
    let now : slice_get new 0 ≡ Some t.met = ap (λ (l : Seats). slice_get l 0) t.is ∙ get_set_same mid 0 t.met (omega arith) in
    record {
      count = ap length t.is ∙ length-set mid 0 t.met ∙ h.count;
      first = record {
        was = h.first.was;
        was_at = h.first.was_at;
        on = t.met;
        at = now;
        goes = goes_on h.first.was h.first.on t.met h.first.goes went;
      };
      same = λ k above. ap (λ (l : Seats). slice_get l k) t.is ∙ get_set_other mid 0 k t.met (λ e. omega arith) ∙ h.same k above;
      knows = λ k s below at. elim (cases_eq k n) [
        | inl last ↦
            let is : t.teller ≡ s = the_same t.teller s (slice_get mid n) t.from_is
            (h.same n some ∙ subst (λ (i : ℕ). slice_get seats i ≡ Some s) last at) in
            subst (λ (z : CoreSeatValue). Extends z.seen t.met.seen) is t.knows
        | inr earlier ↦ extends_on h.first.on.core s.seen h.first.on.seen t.met.seen (h.knows k s (omega arith) at) went.own
      ];
    }

-- the first has told none yet
pub spread_none : (seats : Seats) → HasSpread 1 seats seats
spread_none seats = record { count = refl; first = refl; told = λ k above below. absurd (omega arith); same = λ k from. refl }

-- and one more
pub spread_more : (n : ℕ) (seats mid new : Seats) → 0 < n → n < length seats → HasSpread n seats mid → Tells 0 n mid new
    → HasSpread (n + 1) seats new
spread_more n seats mid new some lt h t =
    let size = h.count in
    let elsewhere : (k : ℕ) → k ≢ n → slice_get new k ≡ slice_get mid k =
    λ k other. ap (λ (l : Seats). slice_get l k) t.is ∙ get_set_other mid n k t.met other in
    record {
      count = ap length t.is ∙ length-set mid n t.met ∙ h.count;
      first = elsewhere 0 (λ e. omega arith) ∙ h.first;
      told = λ k above below. elim (cases_eq k n) [
        | inl last ↦ subst (IsTold seats new) (sym last) record {
          on = record {
            was = t.told;
            was_at = sym (h.same n (omega arith)) ∙ t.to_was;
            on = t.met;
            at = ap (λ (l : Seats). slice_get l n) t.is ∙ get_set_same mid n t.met (omega arith);
            goes = t.goes;
          };
          knows = λ s at.
              let is : t.teller ≡ s = the_same t.teller s (slice_get mid 0) t.from_is (h.first ∙ at) in
              subst (λ (z : CoreSeatValue). Extends z.seen t.met.seen) is t.knows;
        }
        | inr earlier ↦
            let was = h.told k above (omega arith) in
            record {
              on = record {
                was = was.on.was;
                was_at = was.on.was_at;
                on = was.on.on;
                at = elsewhere k earlier ∙ was.on.at;
                goes = was.on.goes;
              };
              knows = was.knows;
            }
      ];
      same = λ k from. elsewhere k (λ e. omega arith) ∙ h.same k (omega arith);
    }

-- all have told each other
pub have_met : (seats mid new : Seats) → HasGathered (length seats) seats mid → HasSpread (length mid) mid new → HaveMet seats new
have_met seats mid new g p = record {
  first = g.first.on.seen;
  count = p.count ∙ g.count;
  seen = λ s at. ap (λ z. z.seen) (the_same s g.first.on (slice_get mid 0) (sym p.first ∙ at) g.first.at);
  each = λ k lt. elim (cases_eq k 0) [
    | inl first ↦ subst (HasMet g.first.on.seen seats new) (sym first) record {
      on = record {
        was = g.first.was;
        was_at = g.first.was_at;
        on = g.first.on;
        at = p.first ∙ g.first.at;
        goes = g.first.goes;
      };
      begins = g.first.goes.own;
      ends = others_none g.first.was.core g.first.on.seen;
    }
    | inr other ↦
        let size = g.count in
        let t = p.told k (omega arith) (omega arith) in
        let at : slice_get seats k ≡ Some t.on.was = sym (g.same k (omega arith)) ∙ t.on.was_at in
        let b = between t.on.was.core t.on.was.seen g.first.on.seen t.on.on.seen (g.knows k t.on.was lt at) (t.knows g.first.on g.first.at)
        t.on.goes.own in
        record {
          on = record { was = t.on.was; was_at = at; on = t.on.on; at = t.on.at; goes = t.on.goes };
          begins = b.0;
          ends = b.1;
        }
  ];
}
