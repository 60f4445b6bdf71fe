-- What a call answers is in range.
use Rattle.state_laws.specs.kernel_laws.proofs as low
use low.{◌≡◌, ℕ, ◌<◌, ◌≤◌, ◌^◌, Bool, true, false, List, [], ◌∷◌, Option, Some, None, IsTrue, inl, inr, refl, sym, ap, ◌∙◌, subst, arith}
use low.{if◌then◌else◌, find, false≢true, Capability, Kind, Call, Look, Make as make_call}
use low.{Touch, Gate, Tick, Test, Translation, Value, Holds}
use low.{Untyped, State, comp_of, place_at, to_look, any, Change, Judged, Refused, Found, IsFoundAnd, outcome}
use low.{touch_by, translation_of, preemption, preempts, tcap_at, rule_of, fits, EndsWithin, IsGood}
use low.{InRanges, IfFound, IsOpen, ChangesFrom, outcome_from, named_good, Shaped, IsFitted, held_is, mapped_page}
use Rattle.state_laws.specs.kernel_rules.proofs.Rows.{Looks}
use Rattle.state_laws.specs.kernel_invariant.proofs.Facts.{LedBy, HoldsAt, from_left}
use Rattle.state_laws.specs.kernel_laws.proofs.{Edit}
use Rattle.reply_ranges.proofs.Tidy.{NumberFits, IsCap, IsTidy, named_cap, held_cap, mapped_at}
use Rattle.{state_laws.specs.kernel_rules.specs.least_rights, state_laws.specs.kernel_rules.specs.Make, std.specs.List.AllByRecursion}
use Rattle.{std.proofs.lemmas.Bool.cases_lt}
use Rattle.{state_laws.specs.kernel_rules.specs.Rules.RuleAnswers, state_laws.specs.Cached.Stands, reply_ranges.specs.Ranges.CapFits}
use Rattle.{reply_ranges.specs.Ranges.ValueFits}

-- What is found in a list is as all of it are.
find_is : (P : Translation → Type 0) (test : Translation → Bool) (ts : List Translation) (t : Translation) → AllByRecursion P ts
    → find test ts ≡ Some t → P t
find_is P test [] t h is = absurd (cc)
find_is P test (x ∷ ts) t h is = by (test x) is (find_is P test ts t h.1)
  where
    by : (b : Bool) → (if b then Some x else find test ts) ≡ Some t → (find test ts ≡ Some t → P t) → P t
    by true is more = let same : x ≡ t = cc in subst P same h.0
    by false is more = more is

abbrev Answers : Change → Type 0
Answers change = ValueFits change.value

module _ (s : State) (o : ℕ → Bool) (c : ℕ) (opens : IsOpen s o c) (w : IsFitted s o) (shape : Shaped s) (epochs : s.limits.epochs < 2 ^ 16)
    (h : IsTidy s) (ranges : InRanges s) (stands : AllByRecursion (Stands s c) (s.core c).cached) (frames : s.limits.frames ≤ 512) where
  -- A frame with an object, or a user frame, is one of the machine's.
  small : (j : Kind) (f : ℕ) → fits j Untyped ≡ false → IsTrue (fits j (s.frame f)) → f ≤ 511
  small j f bare fit = elim (cases_lt f s.limits.frames) [
    | inl below ↦ omega arith
    | inr past ↦ absurd (false≢true (sym bare ∙ sym (ap (fits j) (opens.sound.beyond f past)) ∙ fit))
  ]

  cap_by : (j : Kind) (f a r : ℕ) → NumberFits j f a → least_rights j ≤ r → r < 4 → IsTrue (fits j (s.frame f))
      → EndsWithin j f a s.limits.frames → CapFits (record { kind = j; frame = f; arg = a; rights = r })
  cap_by Kind.Range f a r number least most fit ends =
      record { frame = number; least = omega arith; below = omega arith; rights = least; most = omega arith }
  cap_by Kind.Gate f a r number least most fit ends =
      record { frame = small Kind.Gate f refl fit; least = number.0; below = number.1; rights = least; most = omega arith }
  cap_by Kind.Page f a r number least most fit ends =
      record { frame = small Kind.Page f refl fit; least = omega arith; below = number; rights = least; most = omega arith }
  cap_by Kind.Table f a r number least most fit ends =
      record { frame = small Kind.Table f refl fit; least = omega arith; below = number; rights = least; most = omega arith }
  cap_by Kind.Leaf f a r number least most fit ends =
      record { frame = small Kind.Leaf f refl fit; least = omega arith; below = number; rights = least; most = omega arith }
  cap_by Kind.Pages f a r number least most fit ends =
      record { frame = small Kind.Pages f refl fit; least = omega arith; below = number; rights = least; most = omega arith }
  cap_by Kind.Pleaf f a r number least most fit ends =
      record { frame = small Kind.Pleaf f refl fit; least = omega arith; below = number; rights = least; most = omega arith }
  cap_by Kind.Comp f a r number least most fit ends =
      record { frame = small Kind.Comp f refl fit; least = omega arith; below = number; rights = least; most = omega arith }
  cap_by Kind.Thread f a r number least most fit ends =
      record { frame = small Kind.Thread f refl fit; least = omega arith; below = number; rights = least; most = omega arith }
  cap_by Kind.Tcap f a r number least most fit ends =
      record { frame = small Kind.Tcap f refl fit; least = omega arith; below = number; rights = least; most = omega arith }
  cap_by Kind.Link f a r number least most fit ends =
      record { frame = small Kind.Link f refl fit; least = omega arith; below = number; rights = least; most = omega arith }

  cap_fits : (k : Capability) → IsCap k → IsGood s k → CapFits k
  cap_fits k is good = cap_by k.kind k.frame k.arg k.rights is.number is.least is.most good.fit good.within

  -- By the value and the edits.
  abbrev FitsBy : Value → List Edit → Type 0
  FitsBy v es = ValueFits v

  cached_values : (t : Translation) → Stands s c t → t.flags.0 < 4 → (t.frame ≤ 511) × (t.flags.0 ≤ 3)
  cached_values t stands few = (small Kind.Page t.frame refl (ap (fits Kind.Page) stands.user), omega arith)

  page_frame : (k : Kind) (f a : ℕ) → k ≡ Kind.Page → NumberFits k f a → IsTrue (fits k (s.frame f)) → (f ≤ 511) × (a ≤ 3)
  page_frame k f a is number fit =
      let few : a < 4 = subst (λ (j : Kind). NumberFits j f a) is number in
      (small Kind.Page f refl (subst (λ (j : Kind). IsTrue (fits j (s.frame f))) is fit), omega arith)

  touch_values : (v : ℕ) (t : Option Translation) → translation_of (s.core c).cached (comp_of s c).pages v ≡ t
      → (g : Looks) → LedBy s c (touch_by (comp_of s c).pages v t) g → HoldsAt FitsBy (touch_by (comp_of s c).pages v t) g
  touch_values v None is g led =
      let mapping : Capability = g.held 0 in
      let at = mapped_at s c (comp_of s c).pages v mapping led.0 in
      let place : s.place at.0.node at.0.index ≡ Holds mapping = held_is s o c opens w (place_at s at.0) mapping at.1 in
      page_frame mapping.kind mapping.frame mapping.arg (mapped_page s o c opens w v mapping led.0)
      (held_cap s o c opens w shape epochs frames h at.0.node at.0.index mapping place).number
      (opens.sound.held at.0.node at.0.index mapping place).fit
  touch_values v (Some t) is g led =
      cached_values t (find_is (Stands s c) _ (s.core c).cached t stands is)
      (find_is (λ (t : Translation). t.flags.0 < 4) _ (s.core c).cached t (h.flags c) is)

  preempts_fits : (b : Bool) → ValueFits (preemption b)
  preempts_fits true = tt
  preempts_fits false = tt

  row_values : (call : Call) (g : Looks) → LedBy s c (rule_of s c call) g → HoldsAt FitsBy (rule_of s c call) g
  row_values (Look a) g led =
      cap_fits (g.caps 0) (named_cap s o c opens w shape epochs frames h a (to_look any) (g.caps 0) led.0)
      (named_good s o c a (to_look any) (g.caps 0) opens.sound opens.is led.0).0
  row_values (make_call Make.Table r f t b) g led = tt
  row_values (Touch v) g led = touch_values v (translation_of (s.core c).cached (comp_of s c).pages v) refl g led
  row_values (Tick n) g led =
      let spending = ranges.spending (s.core c).tcap c (opens.sound.inside c opens.is).1 in
      omega (arith, spending)
  row_values (Test a b) g led = preempts_fits (preempts (tcap_at s (g.caps 0).frame) (tcap_at s (g.caps 1).frame))
  row_values _ g led = tt

  rule_values : (call : Call) → ChangesFrom Answers s c (rule_of s c call)
  rule_values call = from_left FitsBy s c (rule_of s c call) (row_values call)

  both : (x : Judged Change) (v : Value) → IfFound x Answers → IsFoundAnd x (λ change. change.value ≡ v) → ValueFits v
  both (Refused r) v fits is = absurd is
  both (Found change) v fits is = subst ValueFits is fits

  pub answers_fit : (call : Call) (v : Value) → RuleAnswers s c (rule_of s c call) v → ValueFits v
  answers_fit call v is =
      both (outcome s c (rule_of s c call)) v (outcome_from Answers s c (rule_of s c call) (rule_values call)) is
