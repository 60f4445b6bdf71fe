-- What the look-up of a call with one name and no target ends in: a look answers what its name has led to; a retype has found its range,
-- which has the frame or does not.
use Rattle.comp_invariant.specs.step_ways.proofs.{acts, IsTrue, ◌≡◌, ◌≢◌, ◌⊎◌, inl, inr, ℕ, ◌+◌, ◌<◌, ◌≤◌, ◌&&◌, not, leb as nat_le}
use Rattle.comp_invariant.specs.step_ways.proofs.{ltb as nat_lt, Bool, true, false, List, [], ◌∷◌, Some, None, arith, refl, sym, ◌∙◌, ap}
use Rattle.comp_invariant.specs.step_ways.proofs.{subst, if◌then◌else◌, map, ltb-true, lt-ltb, false≢true, Capability, Setting, IsSetting}
use Rattle.comp_invariant.specs.step_ways.proofs.{FrameKind, Kind, Retype, EntryAt, LoadOf, State, Slot, found, own, Refused, RuleMay, Does}
use Rattle.comp_invariant.specs.step_ways.proofs.{first_of, first_cause, outcome, unless, Found, named, has_frame, outside, rule_of}
use Rattle.comp_invariant.specs.step_ways.proofs.{change_of, are_calls_spent, MayReply, counted, begins, ends, flushes, state_by, Step}
use Rattle.comp_invariant.specs.step_ways.proofs.{Trace, Open, state_after, last_left, own_left, refused_first, ok_first, Carries, GoesBy}
use Rattle.comp_invariant.specs.step_ways.proofs.{own_pages, rule_after, Leads, LeadsIn, names_after, outcome_left, left_may, CapNames}
use Rattle.comp_invariant.specs.step_ways.proofs.{Acquired, Untyping, UntypesBy, Goes, Act, act_begun, Undecided, ActiveCall, landed}
use Rattle.comp_invariant.specs.step_ways.proofs.{found_more, Core, holds_counts, due_of, NamesAre, phase_at, own_in, holds_in, Invariant}
use Rattle.comp_invariant.specs.step_ways.proofs.{IsSome, alone, way_to, HasReached, IsJustified, Name, own_kept, Untype as untype_act}
use Rattle.comp_invariant.specs.step_ways.proofs.{OnlyLooks, step_to, core_is, loads_on, decides_on, GoodTook, not_spent, does, plan_for}
use Rattle.comp_invariant.specs.kernel_rules.specs.{retypes, to_look, Range, Look as look_call, any, not_retyped, Cap, Nothing as no_value}
use Rattle.comp_invariant.specs.act_states.specs.{with_found, end_of_frames, types_if, types_at}
use Rattle.comp_invariant.specs.count_invariant.proofs.{Arrives, own_is, way_gone}
use Rattle.comp_invariant.specs.core_invariant.specs.{Retype as type_act, TypesBy}
use Rattle.comp_invariant.specs.act_states.specs.{declared.typings.TypingAt.TheVariants.Load}
use Rattle.comp_invariant.specs.act_states.specs.{declared.untypings.UntypingAt.TheVariants.Load as untype_load}
use Rattle.comp_invariant.specs.act_states.specs.{declared.work.Act.Act as ActOf, Acts.typing_to}
use Rattle.std.proofs.lemmas.List.Elements.{All-nil, All-append}
use Rattle.work_invariant.proofs.ByCall.{one_left, first_same, look_state, look_begins, look_answers}
use Rattle.{comp_invariant.specs.step_ways.proofs.Reply, comp_invariant.specs.call_plans.specs.GoesBy.wants}
use Rattle.{comp_invariant.specs.spk_nums.specs.declared.kinds.FrameKind.TheVariants.Untyped}
use Rattle.{comp_invariant.specs.count_invariant.proofs.Findings.gone_with}

-- A frame of a range is one of the machine's.
pub range_below : (frames : ℕ) (kind : Kind) (first number f : ℕ) → kind ≡ Range → end_of_frames kind first number ≤ frames
    → (nat_le first f && nat_lt f (first + number)) ≡ true → f < frames
range_below frames kind first number f is names has =
    let most : first + number ≤ frames = subst (λ (k : Kind). end_of_frames k first number ≤ frames) is names in
    let low : f < first + number = ltb-true f (first + number) (both (nat_le first f) (nat_lt f (first + number)) has) in
    omega arith
  where
    both : (x y : Bool) → (x && y) ≡ true → y ≡ true
    both true y h = h
    both false y h = absurd (false≢true h)

-- A name that is the only one of a plan, and is looked up.
pub one_name : (names : List Name) (one name : Name) (rest : List Name) (ks : List Capability) (kind : Kind) → names ≡ one ∷ []
    → names_after names ks ≡ name ∷ rest → wants (with_found [] ks) name.wanted kind ≡ true
    → (ks ≡ []) × (name ≡ one) × (wants [] one.wanted kind ≡ true)
one_name names one name rest ks kind is left wanted = (
  none,
  named,
  subst (λ (x : Name). wants [] x.wanted kind ≡ true) named (subst (λ (ks : List Capability). wants (with_found [] ks) name.wanted kind ≡
      true) none
      wanted),
)
  where
    after : names_after (one ∷ []) ks ≡ name ∷ rest
    after = subst (λ (names : List Name). names_after names ks ≡ name ∷ rest) is left

    none : ks ≡ []
    none = one_left one name rest ks after

    named : name ≡ one
    named = first_same name rest one (sym (subst (λ (ks : List Capability). names_after (one ∷ []) ks ≡ name ∷ rest) none after))

-- The act of a retype: to another kind than untyped, or to untyped.
abbrev pub IsTypedBy : ℕ → ℕ → FrameKind → Type 0
IsTypedBy core f k = ((k ≢ Untyped) × (typing_to core f k ≡ type_act (record { frame = f; kind = k; at = Load })))
    ⊎ ((k ≡ Untyped) × (typing_to core f k ≡ untype_act (record { frame = f; core = core; at = untype_load })))

module _ (setup : Setting) (setting : IsSetting setup) (cores : ℕ → Core) (t : Trace) (stands : Invariant setup cores t) (c : ℕ)
    (here : c < setup.cores)
    (a : ActiveCall) (active : (cores c).active ≡ Some a) (opens : phase_at a.call a.stage ≡ Open a.call)
    (held_is : holds_in (Some a) ≡ holds_counts None a.counts) (no_counts : a.counts ≡ [])
    (room : (cores c).own.made < (cores c).own.limit)
    (by_plan : GoesBy (own_pages (state_after setup t) c) (plan_for a.call) (rule_of (state_after setup t) c a.call))
    (at : Slot) (looks : OnlyLooks setup t c a.call (LoadOf (EntryAt at.node at.index)))
    (range : Capability) (leads : Leads (LeadsIn (state_after setup t) c) (plan_for a.call).names [] (range ∷ []))
    (names : Carries setup t (step_to c None (LoadOf (EntryAt at.node at.index)) (last_left setup t (EntryAt at.node at.index)) None None) c
    → NamesAre setup (step_to c None (LoadOf (EntryAt at.node at.index)) (last_left setup t (EntryAt at.node at.index)) None None ∷ t) c
    (cores c).own.table (plan_for a.call) (range ∷ []))
    (r f : ℕ) (k : FrameKind) (call_is : a.call ≡ Retype r f k) (kind_is : range.kind ≡ Range) (within : CapNames setup.frames range)
    (to : IsTypedBy (cores c).own.core f k) (may_act : IsTrue (acts (state_after setup t) c a.call)) where
  abbrev s : State
  s = state_after setup t

  abbrev Ends : Bool → Type 0
  Ends has = GoodTook setup cores t c (LoadOf (EntryAt at.node at.index))
      (landed (found_more a (range ∷ [])) (types_if has (cores c).own.core f k))

  left : rule_after (rule_of s c a.call) (range ∷ []) ≡ Does (outside (found range) f ∷ not_retyped s f k) no_value (retypes f k ∷ [])
  left = ap (λ x. rule_after (rule_of s c x) (range ∷ [])) call_is

  unspent : are_calls_spent s c ≡ false
  unspent = not_spent setup (cores c) t c (core_is setup setting cores t stands c here a active) room

  -- the frame is in the range
  types_now : k ≢ Untyped → has_frame (found range) f ≡ true → GoodTook setup cores t c (LoadOf (EntryAt at.node at.index))
      (landed (found_more a (range ∷ [])) (Goes (Act (type_act (record { frame = f; kind = k; at = Load })))))
  types_now types_so has lands =
      loads_on setup setting cores t stands c here a active (LoadOf (EntryAt at.node at.index)) (range ∷ [])
      (Undecided (Act (type_act (record { frame = f; kind = k; at = Load })))) looks lands (sym held_is) opens
      (λ carries. record {
        acts = may_act;
        names = names carries;
        knows = record {
          knows = record {
            types = subst (λ x. TypesBy x (range ∷ []) (record { frame = f; kind = k; at = Load })) (sym call_is)
                (record { frame = refl; kind = refl; types = types_so; within = has });
            met = tt;
          };
          all = ap (λ (xs : List Acquired). map due_of xs) (sym no_counts);
          goes = refl;
        };
      })

  -- and is to be made untyped
  abbrev untyping : Untyping
  untyping = record { frame = f; core = (cores c).own.core; at = untype_load }

  untypes_now : k ≡ Untyped → has_frame (found range) f ≡ true → GoodTook setup cores t c (LoadOf (EntryAt at.node at.index))
      (landed (found_more a (range ∷ [])) (Goes (Act (untype_act untyping))))
  untypes_now untyped has lands =
      loads_on setup setting cores t stands c here a active (LoadOf (EntryAt at.node at.index)) (range ∷ [])
      (Undecided (Act (untype_act untyping))) looks lands (sym held_is) opens
      (λ carries. record {
        acts = may_act;
        names = names carries;
        knows = record {
          knows = record {
            untypes = subst (λ x. UntypesBy x (range ∷ []) untyping) (sym (call_is ∙ ap (Retype r f) untyped))
                (record { frame = refl; within = has });
            core = (stands.each c here).number;
            at = tt;
          };
          all = ap (λ (xs : List Acquired). map due_of xs) (sym no_counts);
          goes = refl;
        };
      })

  in_range : has_frame (found range) f ≡ true → Ends true
  in_range has = elim to [
    | inl types ↦ subst (λ (act : ActOf). GoodTook setup cores t c (LoadOf (EntryAt at.node at.index))
        (landed (found_more a (range ∷ [])) (Goes (Act act)))) (sym types.1) (types_now types.0 has)
    | inr untypes ↦ subst (λ (act : ActOf). GoodTook setup cores t c (LoadOf (EntryAt at.node at.index))
        (landed (found_more a (range ∷ [])) (Goes (Act act)))) (sym untypes.1) (untypes_now untypes.0 has)
  ]

  -- it is not
  past : has_frame (found range) f ≡ false → Ends false
  past none lands =
      decides_on setup setting cores t stands c here a active (LoadOf (EntryAt at.node at.index)) Reply.OutOfRange (range ∷ []) looks lands
      (sym held_is) opens refl refl (λ x. refl) (λ x. refl) refl (
        unspent,
        left_may s c (own_pages s c) (plan_for a.call) (rule_of s c a.call) (range ∷ []) by_plan leads Reply.OutOfRange
            (subst (λ x. RuleMay s c x Reply.OutOfRange) (sym left) (inl (ap (λ b. not b) none, refl))),
      ) tt
      (λ is_alone. refused_first s c a.call Reply.OutOfRange may_act unspent refused)
    where
      refused : change_of s c a.call ≡ Refused Reply.OutOfRange
      refused = outcome_left s c (own_pages s c) (plan_for a.call) (rule_of s c a.call) (range ∷ []) by_plan leads ∙ ap (outcome s c) left
          ∙ ap (λ b. unless (first_of (if not b then Some Reply.OutOfRange else None) (first_cause s c (not_retyped s f k)))
          (does c s no_value (retypes f k ∷ []))) none

  pub ranges_good : GoodTook setup cores t c (LoadOf (EntryAt at.node at.index))
      (landed (found_more a (range ∷ [])) (types_at (cores c).own (Some range) f k))
  ranges_good = by (has_frame (found range) f) refl
    where
      by : (has : Bool) → has_frame (found range) f ≡ has → Ends (has && nat_lt f (cores c).own.layout.frames)
      by true has = subst Ends (sym (lt-ltb f (cores c).own.layout.frames
          (subst (λ (n : ℕ). f < n) (sym (ap (λ x. x.frames) (stands.each c here).shape))
          (range_below setup.frames range.kind range.frame range.arg f kind_is within has)))) (in_range has)
      by false has = past has

-- A look answers its capability.
module _ (setup : Setting) (setting : IsSetting setup) (cores : ℕ → Core) (t : Trace) (stands : Invariant setup cores t) (c : ℕ)
    (here : c < setup.cores)
    (a : ActiveCall) (active : (cores c).active ≡ Some a) (opens : phase_at a.call a.stage ≡ Open a.call)
    (held_is : holds_in (Some a) ≡ holds_counts None a.counts) (no_counts : a.counts ≡ [])
    (room : (cores c).own.made < (cores c).own.limit)
    (at : Slot) (looks : OnlyLooks setup t c a.call (LoadOf (EntryAt at.node at.index)))
    (n : ℕ) (arrives : Arrives setup t c (own_in (cores c).own.table n) at)
    (k : Capability) (is : named (state_after setup t) c n (to_look any) ≡ Found k) (call_is : a.call ≡ look_call n)
    (may_act : IsTrue (acts (state_after setup t) c a.call)) where
  abbrev now : State
  now = state_after setup t

  abbrev answer : Step
  answer = step_to c None (LoadOf (EntryAt at.node at.index)) (last_left setup t (EntryAt at.node at.index)) (Some (Reply.Ok (Cap k))) None

  own_slot : own_in (cores c).own.table n ≡ own now c n
  own_slot = own_is now c (cores c).own.table n (stands.each c here).works.table

  permitted : MayReply now c (look_call n) (Reply.Ok (Cap k))
  permitted = (
    not_spent setup (cores c) t c (core_is setup setting cores t stands c here a active) room,
    (subst (λ x. IsTrue (acts now c x)) call_is may_act, look_answers now c n k is),
  )

  stepped : HasReached (answer ∷ t) c (way_to now c (own now c n))
  stepped = subst (λ x. HasReached (answer ∷ t) c (way_to now c x)) own_slot
      (way_gone setup t (answer ∷ t) c (own_in (cores c).own.table n) at arrives.reached
      (gone_with setup t c (own_in (cores c).own.table n) at answer refl refl (own_kept t answer c refl refl) arrives))

  pub looked_good : GoodTook setup cores t c (LoadOf (EntryAt at.node at.index))
      (landed (found_more a (k ∷ [])) (act_begun (cores c).own (look_call n) (k ∷ []) None None))
  looked_good lands =
      decides_on setup setting cores t stands c here a active (LoadOf (EntryAt at.node at.index)) (Reply.Ok (Cap k)) (k ∷ []) looks
      lands (ap (holds_counts (Some None)) no_counts ∙ sym (ap (holds_counts None) no_counts) ∙ sym held_is) opens
      (subst (λ x. state_by now c x (Reply.Ok (Cap k)) ≡ counted now c) (sym call_is) (look_state now c n k is)) refl
      (λ x. subst (λ y. begins now c y (Reply.Ok (Cap k)) x ≡ false) (sym call_is) (look_begins now c n k is x))
      (λ x. subst (λ y. ends y (Reply.Ok (Cap k)) x ≡ false) (sym call_is) refl)
      (subst (λ y. flushes y (Reply.Ok (Cap k)) ≡ false) (sym call_is) refl)
      (subst (λ x. MayReply now c x (Reply.Ok (Cap k))) (sym call_is) permitted)
      (subst (λ x. IsJustified setup t answer x (Reply.Ok (Cap k))) (sym call_is)
      (All-append (λ (x : Slot). IsSome (own_left (answer ∷ t) c (EntryAt x.node x.index))) (way_to now c (own now c n)) [] stepped
      (All-nil (λ (x : Slot). IsSome (own_left (answer ∷ t) c (EntryAt x.node x.index))))))
      (λ is_alone. subst (λ x. Reply.Ok (Cap k) ≡ alone now c x) (sym call_is) (ok_first now c (look_call n) (Cap k) permitted))
