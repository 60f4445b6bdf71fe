-- A core that works inside a world that is split: where two states are one for the world, its call may be decided alike in both.
use Rattle.same_changes.specs as low
use low.kernel_laws.proofs.{◌≡◌, ℕ, ◌<◌, Bool, true, refl, sym, ◌∙◌, ap, subst, leb as nat_le, inl, inr, Some, Capability, Kind, Call}
use low.kernel_laws.proofs.{Make as make_call, Value, Reply, CompFields, Limits, Thing, PlaceOf, FrameOf, NumberOf, State, comp_of, Slot}
use low.kernel_laws.proofs.{usable, is_live_in, Change, Judged, Refused, Found, IsFoundAnd, change_of, are_calls_spent, MayReply}
use Rattle.split_laws.specs.{World, MakesOwn, AgreeIn, TellsOwn}
use low.{IsIn, AgreeOn, AgreeOutcome, NamesIn}
use Rattle.same_changes.proofs.{Reaching.TwinsOn, Reaching.core_agree, Reaching.comp_agree, Reaching.number_in, EveryCall.call_agrees}
use low.{seq_state.specs.HasIndex, seq_state.specs.SameGrace, Region.Region, Region.LeadsIn, Region.ReachesOnly}
use Rattle.{world_laws.specs.kernel_rules.specs.lives, world_laws.specs.kernel_rules.specs.Make, std.specs.List.AllByRecursion}
use Rattle.{world_laws.specs.Worlds.LeadsTo, split_laws.specs.Split.is_of, split_laws.proofs.Working.WorksOn}
use Rattle.{split_laws.proofs.MayRules.rule_may}

-- The region of a world, where this says which cores are of it.
abbrev pub region : World → (ℕ → Bool) → Region
region w cores = record { frame = w.frame; number = w.number; core = cores }

-- A thing of a world is in its region.
pub thing_in : (w : World) (cores : ℕ → Bool) (x : Thing) → is_of w x ≡ true → HasIndex x → IsIn (region w cores) x
thing_in w cores (PlaceOf f i) of small = (of, small)
thing_in w cores (FrameOf f) of small = of
thing_in w cores (NumberOf l) of small = of

pub thing_of : (w : World) (cores : ℕ → Bool) (x : Thing) → IsIn (region w cores) x → is_of w x ≡ true
thing_of w cores (PlaceOf f i) is = is.0
thing_of w cores (FrameOf f) is = is
thing_of w cores (NumberOf l) is = is

-- Two states that are one on the region are one for the world.
pub agree_in : (w : World) (cores : ℕ → Bool) (t s : State) → AgreeOn (region w cores) t s
    → ((c : ℕ) → w.frame (t.core c).thread ≡ cores c) → ((c : ℕ) → w.frame (s.core c).thread ≡ cores c) → AgreeIn w t s
agree_in w cores t s a here there =
    let same : s.limits.cores ≡ t.limits.cores = ap (λ (l : Limits). l.cores) (sym a.limits) in
    record {
      limits = a.limits;
      frame = a.frame;
      place = a.place;
      number = a.number;
      grace = λ x of small. subst (λ n. SameGrace n (t.grace x) (s.grace x)) same
          (a.grace x (thing_in w cores x of small));
      thread = λ c below. here c ∙ sym (there c);
      core = λ c below of. a.core c (sym (here c) ∙ of);
      inside = λ c below. a.inside c (subst (λ n. c < n) (sym same) below);
    }

names_in : (w : World) (cores : ℕ → Bool) (call : Call) → MakesOwn w true call → NamesIn (region w cores) call
names_in w cores (make_call (Make.Comp table pages live) r f t b) own = own
names_in w cores _ own = tt

-- A core that works inside reaches nothing outside.
pub reaches_only : (w : World) (cores : ℕ → Bool) (s : State) (c : ℕ) → cores c ≡ true → WorksOn w s c true
    → ReachesOnly (region w cores) s c
reaches_only w cores s c of on = record {
  core = of;
  thread = on.thread;
  tcap = on.split.cores c on.is_core ∙ on.thread;
  places = λ at k here e. leads_in at k here e k.kind refl;
  comps = λ f k here e. let p = on.split.comps f k e in (p.0 ∙ here, p.1 ∙ here, p.2 ∙ here);
  stacks = λ f h here e. subst (λ b. AllByRecursion (λ g. w.frame g ≡ b) h.stack) here (on.split.stacks f h e);
}
  where
    leads_in : (at : Slot) (k : Capability) → w.frame at.node ≡ true → usable s c at ≡ Some k → (j : Kind) → k.kind ≡ j
        → LeadsIn (region w cores) j k
    leads_in at k here e Kind.Range is = λ f has.
        on.split.places at.node at.index c f k e (subst (λ i. LeadsTo i k f) (sym is) has) ∙ here
    leads_in at k here e _ is = on.split.places at.node at.index c k.frame k e (subst (λ i. LeadsTo i k k.frame) (sym is) refl) ∙ here

-- ---- what may be replied

value_same : (w : Region) (v : Value) (x y : Judged Change) → AgreeOutcome w x y → IsFoundAnd y (λ k. k.value ≡ v)
    → IsFoundAnd x (λ k. k.value ≡ v)
value_same w v (Found x) (Found y) same is = same.value ∙ is
value_same w v (Refused r) (Found y) same is = absurd same
value_same w v (Found x) (Refused q) same is = absurd is
value_same w v (Refused r) (Refused q) same is = absurd is

module _ (w : World) (cores : ℕ → Bool) {t s : State} {o : ℕ → Bool} {c : ℕ} (l : TwinsOn (region w cores) t s o c) (call : Call)
    (own : MakesOwn w true call) where
  pub outcome_agrees : AgreeOutcome (region w cores) (change_of t c call) (change_of s c call)
  outcome_agrees = (call_agrees l call (names_in w cores call own)).1

  spent_same : are_calls_spent t c ≡ are_calls_spent s c
  spent_same = λ i. nat_le (l.agree.limits i).calls (core_agree l i).counted

  lives_same : lives t c ≡ lives s c
  lives_same = ap (λ (k : CompFields). is_live_in (t.number k.number) k.epoch) (comp_agree l)
      ∙ ap (λ n. is_live_in n (comp_of s c).epoch) (l.agree.number (comp_of s c).number (number_in l))

  pub may_reply : (r : Reply) → TellsOwn w.frame true call r → MayReply s c call r → MayReply t c call r
  may_reply (Reply.Ok v) tells may = (
    spent_same ∙ may.0,
    (
      (call_agrees l call (names_in w cores call own)).0 ∙ may.1.0,
      value_same (region w cores) v (change_of t c call) (change_of s c call) outcome_agrees may.1.1,
    ),
  )
  may_reply Reply.CallsSpent tells may = spent_same ∙ may
  may_reply Reply.Raced tells may = (spent_same ∙ may.0, tt)
  may_reply (Reply.Busy d) tells may = (spent_same ∙ may.0, tt)
  may_reply Reply.Dead tells may = (
    spent_same ∙ may.0,
    elim may.1 [
      | inl dead ↦ inl (dead.0, lives_same ∙ dead.1)
      | inr rule ↦ inr (rule_may l call Reply.Dead (names_in w cores call own) tells rule)
    ],
  )
  may_reply r tells may = (spent_same ∙ may.0, rule_may l call r (names_in w cores call own) tells may.1)
