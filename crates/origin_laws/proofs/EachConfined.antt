-- What a core puts in a part of a run is covered by what it reached there.
use Rattle.call_names.specs.kernel_rules.proofs.{◌≡◌, ◌≢◌, ◌⊎◌, inl, inr, ℕ, ◌+◌, ◌<◌, ◌≤◌, true, IsTrue, refl, sym, ◌∙◌, ap, subst, arith}
use Rattle.call_names.specs.kernel_rules.proofs.{List, [], ◌∷◌, ◌++◌, append_assoc, Capability, has_rights, right_to_use, Setting, Make}
use Rattle.call_names.specs.kernel_rules.proofs.{Call, Want, found, any, only, to_copy, to_use, to_part, Found, named, has_frame, make_rule}
use Rattle.call_names.specs.kernel_rules.proofs.{rule_of, Event, Enters, Decides, Returns, after, frame_in, Kind, Reply}
use Rattle.origin_rules.specs.{decided, origin_of, Gives, HasChain}
use Rattle.origin_rules.specs.{declared.chains.Step.Step, declared.chains.Step.TheVariants.Copied, declared.chains.Step.TheVariants.Made}
use Rattle.origin_rules.specs.{declared.chains.Step.TheVariants.Gated, declared.chains.Step.TheVariants.Parted}
use Rattle.origin_laws.specs.Confined.{IsWithin, Covers, HasReached, CoresAreConfined}
use Rattle.{origin_laws.specs.IsForeign, origin_laws.specs.IsCovered, std.proofs.lemmas.Bool.cases_eq, std.proofs.lemmas.Bool.cases_lt}
use Rattle.{call_names.specs.kernel_rules.specs.State.State, call_names.specs.Names.IsName}
use Rattle.{origin_rules.specs.declared.chains.ChainLink.ChainLink, origin_rules.specs.Derived.kind_of}
use Rattle.{origin_rules.proofs.EachChain.chains_are_real, origin_rules.proofs.Falling.rights_only_fall}

-- ---- two ends of one run

pub record IsEnd (whole part : List Event) : Type 0 where
  pub more : List Event
  pub is : whole ≡ more ++ part

-- Of two ends of a list one is an end of the other.
ends : (xs a ys b : List Event) → xs ++ a ≡ ys ++ b → IsEnd b a ⊎ IsEnd a b
ends [] a ys b e = inr (record { more = ys; is = e })
ends (x ∷ xs) a [] b e = inl (record { more = x ∷ xs; is = sym e })
ends (x ∷ xs) a (y ∷ ys) b e = ends xs a ys b (tail_same e)
  where
    tail_same : {x y : Event} {xs ys : List Event} → x ∷ xs ≡ y ∷ ys → xs ≡ ys
    tail_same e = cc

-- An end of a run has no more decisions.
fewer : (more part : List Event) → decided part ≤ decided (more ++ part)
fewer [] part = omega arith
fewer (Enters c call ∷ more) part = fewer more part
fewer (Decides c call r ∷ more) part = let h = fewer more part in omega (arith, h)
fewer (Returns c ∷ more) part = fewer more part

-- ---- covering

made_kind : (what : Make) → kind_of what ≢ Kind.Range
made_kind Make.Table e = cc
made_kind Make.Leaf e = cc
made_kind Make.Pages e = cc
made_kind Make.Pleaf e = cc
made_kind (Make.Thread comp) e = cc
made_kind (Make.Tcap sched quality) e = cc
made_kind (Make.Comp table pages live) e = cc

-- A parent covers what a call puts from it.
step_covers : (s : State) (c : ℕ) (call : Call) (what : Step) (parent k : Capability) → Gives s c call what parent k → Covers parent k
step_covers s c (Call.Copy a t b rights) Copied parent k g =
    let falls = rights_only_fall s c (Call.Copy a t b rights) Copied parent k g in
    inl (record { kind = falls.kind; frame = falls.frame; arg = falls.arg; rights = falls.rights })
step_covers s c (Call.Make what r f t b) Made parent k g =
    let falls = rights_only_fall s c (Call.Make what r f t b) Made parent k g in
    inr (inr (inl (record {
      is_range = falls.kind;
      may_use = falls.may_use;
      other = λ e. made_kind what (sym (ap (λ (j : Capability). j.kind) g.is) ∙ e);
      frame = subst (λ (j : Capability). has_frame (found parent) j.frame ≡ true) (sym g.is) g.frame;
    })))
step_covers s c (Call.Gate comp t b) Gated parent k g =
    let falls = rights_only_fall s c (Call.Gate comp t b) Gated parent k g in
    inr (inl (record {
      is_comp = falls.kind;
      may_use = falls.may_use;
      is_gate = ap (λ (j : Capability). j.kind) g.is;
      frame = falls.frame;
    }))
step_covers s c (Call.Part r f n t b) Parted parent k g =
    let falls = rights_only_fall s c (Call.Part r f n t b) Parted parent k g in
    inr (inr (inr (record {
      is_range = falls.parent_kind;
      kind = falls.kind;
      frames = λ f has. frame_in (found parent) (found k) f falls.frames has;
      rights = λ needs h. subst (λ (own : ℕ). IsTrue (has_rights own needs)) falls.rights h;
    })))
step_covers s c call what parent k g = absurd g

within_range : (r p : Capability) (f : ℕ) → IsWithin r p → has_frame (found p) f ≡ true → has_frame (found r) f ≡ true
within_range r p f w h =
    ap (λ (n : ℕ). has_frame (found (record r { frame = n })) f) (sym w.frame)
    ∙ ap (λ (n : ℕ). has_frame (found (record r { frame = p.frame; arg = n })) f) (sym w.arg) ∙ h

-- What is covered by what is covered is covered.
pub covers_on : (r p k : Capability) → Covers r p → Covers p k → Covers r k
covers_on r p k (inl w) (inl v) = inl (record {
  kind = v.kind ∙ w.kind;
  frame = v.frame ∙ w.frame;
  arg = v.arg ∙ w.arg;
  rights = λ needs h. w.rights needs (v.rights needs h);
})
covers_on r p k (inl w) (inr (inl v)) = inr (inl (record {
  is_comp = sym w.kind ∙ v.is_comp;
  may_use = w.rights right_to_use v.may_use;
  is_gate = v.is_gate;
  frame = v.frame ∙ w.frame;
}))
covers_on r p k (inl w) (inr (inr (inl v))) = inr (inr (inl (record {
  is_range = sym w.kind ∙ v.is_range;
  may_use = w.rights right_to_use v.may_use;
  other = v.other;
  frame = within_range r p k.frame w v.frame;
})))
covers_on r p k (inr (inl w)) (inl v) = inr (inl (record {
  is_comp = w.is_comp;
  may_use = w.may_use;
  is_gate = v.kind ∙ w.is_gate;
  frame = v.frame ∙ w.frame;
}))
covers_on r p k (inr (inl w)) (inr (inl v)) = let e = sym w.is_gate ∙ v.is_comp in absurd (cc)
covers_on r p k (inr (inl w)) (inr (inr (inl v))) = let e = sym w.is_gate ∙ v.is_range in absurd (cc)
covers_on r p k (inr (inr (inl w))) (inl v) = inr (inr (inl (record {
  is_range = w.is_range;
  may_use = w.may_use;
  other = λ e. w.other (sym v.kind ∙ e);
  frame = subst (λ n. has_frame (found r) n ≡ true) (sym v.frame) w.frame;
})))
covers_on r p k (inr (inr (inl w))) (inr (inl v)) = inr (inr (inl (record {
  is_range = w.is_range;
  may_use = w.may_use;
  other = λ e. let d = sym v.is_gate ∙ e in absurd (cc);
  frame = subst (λ n. has_frame (found r) n ≡ true) (sym v.frame) w.frame;
})))
covers_on r p k (inr (inr (inl w))) (inr (inr (inl v))) = absurd (w.other v.is_range)
covers_on r p k (inl w) (inr (inr (inr v))) = inr (inr (inr (record {
  is_range = sym w.kind ∙ v.is_range;
  kind = v.kind;
  frames = λ f has. within_range r p f w (v.frames f has);
  rights = λ needs h. w.rights needs (v.rights needs h);
})))
covers_on r p k (inr (inl w)) (inr (inr (inr v))) = let e = sym w.is_gate ∙ v.is_range in absurd (cc)
covers_on r p k (inr (inr (inl w))) (inr (inr (inr v))) = absurd (w.other v.is_range)
covers_on r p k (inr (inr (inr w))) (inl v) = inr (inr (inr (record {
  is_range = w.is_range;
  kind = v.kind ∙ w.kind;
  frames = λ f has. w.frames f (within_range p k f v has);
  rights = λ needs h. w.rights needs (v.rights needs h);
})))
covers_on r p k (inr (inr (inr w))) (inr (inl v)) = let e = sym w.kind ∙ v.is_comp in absurd (cc)
covers_on r p k (inr (inr (inr w))) (inr (inr (inl v))) = inr (inr (inl (record {
  is_range = w.is_range;
  may_use = w.rights right_to_use v.may_use;
  other = v.other;
  frame = w.frames k.frame v.frame;
})))
covers_on r p k (inr (inr (inr w))) (inr (inr (inr v))) = inr (inr (inr (record {
  is_range = w.is_range;
  kind = v.kind;
  frames = λ f has. w.frames f (v.frames f has);
  rights = λ needs h. w.rights needs (v.rights needs h);
})))

-- ---- the law

-- What a call named.
pub record Names (s : State) (c : ℕ) (call : Call) (r : Capability) : Type 0 where
  pub number : ℕ
  pub want : Want
  pub is_name : IsName s c (rule_of s c call) number want
  pub is : named s c number want ≡ Found r

range_name : (s : State) (c : ℕ) (what : Make) (r f t b : ℕ) → IsName s c (make_rule s what r f t b) r (to_use (only Kind.Range))
range_name s c Make.Table r f t b = inl (refl, refl)
range_name s c Make.Leaf r f t b = inl (refl, refl)
range_name s c Make.Pages r f t b = inl (refl, refl)
range_name s c Make.Pleaf r f t b = inl (refl, refl)
range_name s c (Make.Thread comp) r f t b = inl (refl, refl)
range_name s c (Make.Tcap sched quality) r f t b = inl (refl, refl)
range_name s c (Make.Comp table pages live) r f t b = inl (refl, refl)

named_by : (s : State) (c : ℕ) (call : Call) (what : Step) (parent k : Capability) → Gives s c call what parent k → Names s c call parent
named_by s c (Call.Copy a t b rights) Copied parent k g = record {
  number = a;
  want = to_copy any;
  is_name = inl (refl, refl);
  is = g.names;
}
named_by s c (Call.Make what r f t b) Made parent k g = record {
  number = r;
  want = to_use (only Kind.Range);
  is_name = range_name s c what r f t b;
  is = g.names;
}
named_by s c (Call.Gate comp t b) Gated parent k g = record {
  number = comp;
  want = to_use (only Kind.Comp);
  is_name = inl (refl, refl);
  is = g.names;
}
named_by s c (Call.Part r f n t b) Parted parent k g = record {
  number = r;
  want = to_part (only Kind.Range);
  is_name = inl (refl, refl);
  is = g.names;
}
named_by s c call what parent k g = absurd g

-- What was reached before some events was reached before more.
reached_later : (setting : Setting) (before : List Event) (c : ℕ) (events more : List Event) (whole : List Event) (r : Capability)
    → whole ≡ more ++ events → HasReached setting before c events r → HasReached setting before c whole r
reached_later setting before c events more whole r is h = record {
  moment = h.moment;
  since = h.since;
  later = more ++ h.later;
  call = h.call;
  value = h.value;
  is_part = is ∙ ap (λ es. more ++ es) h.is_part
      ∙ sym (append_assoc more h.later (Decides c h.call (Reply.Ok h.value) ∷ h.moment));
  is_since = h.is_since;
  number = h.number;
  want = h.want;
  is_name = h.is_name;
  names = h.names;
  links = h.links;
  start = h.start;
  chain = h.chain;
  foreign = h.foreign;
}

confined : (setting : Setting) (before : List Event) (c : ℕ) (xs : List ChainLink) (start : ℕ) (later events : List Event) (k : Capability)
    → events ≡ later ++ before → HasChain setting xs start events k
    → IsForeign before c events xs ⊎ IsCovered setting before c events k
confined setting before c [] start later events k is h = inl tt
confined setting before c (x ∷ xs) start later events k is h = elim (cases_lt (decided before) x.decision) [
  | inr old ↦ inl (inl old)
  | inl new ↦ elim (cases_eq h.core c) [
    | inr other ↦ inl (inr (record {
      before = h.before;
      later = h.later;
      core = h.core;
      call = h.call;
      value = h.value;
      is_part = h.is_part;
      number = h.number;
      other = other;
    }))
    | inl own ↦ inr (by_end own (ends later before h.later (Decides h.core h.call (Reply.Ok h.value) ∷ h.before) (sym is ∙ h.is_part)) new
        (λ more rest. confined setting before c xs start more h.before h.parent rest h.chain))
  ]
]
  where
    part_is : h.core ≡ c → events ≡ (h.later ++ (Decides c h.call (Reply.Ok h.value) ∷ [])) ++ h.before
    part_is own = h.is_part ∙ ap (λ d. h.later ++ (Decides d h.call (Reply.Ok h.value) ∷ h.before)) own
        ∙ sym (append_assoc h.later (Decides c h.call (Reply.Ok h.value) ∷ []) h.before)

    by_parent : h.core ≡ c → (since : List Event) → h.before ≡ since ++ before
        → IsForeign before c h.before xs ⊎ IsCovered setting before c h.before h.parent → IsCovered setting before c events k
    by_parent own since is_since (inl foreign) =
        let n = named_by (after setting h.before) h.core h.call x.what h.parent k h.gives in
        record {
          root = h.parent;
          reached = record {
            moment = h.before;
            since = since;
            later = h.later;
            call = h.call;
            value = h.value;
            is_part = h.is_part ∙ ap (λ d. h.later ++ (Decides d h.call (Reply.Ok h.value) ∷ h.before)) own;
            is_since = is_since;
            number = n.number;
            want = n.want;
            is_name = subst (λ d. IsName (after setting h.before) d (rule_of (after setting h.before) d h.call) n.number n.want) own
                n.is_name;
            names = subst (λ d. named (after setting h.before) d n.number n.want ≡ Found h.parent) own n.is;
            links = xs;
            start = start;
            chain = h.chain;
            foreign = foreign;
          };
          covers = step_covers (after setting h.before) h.core h.call x.what h.parent k h.gives;
        }
    by_parent own since is_since (inr covered) = record {
      root = covered.root;
      reached = reached_later setting before c h.before (h.later ++ (Decides c h.call (Reply.Ok h.value) ∷ [])) events covered.root
          (part_is own) covered.reached;
      covers = covers_on covered.root h.parent k covered.covers
          (step_covers (after setting h.before) h.core h.call x.what h.parent k h.gives);
    }

    by_end : h.core ≡ c → IsEnd (Decides h.core h.call (Reply.Ok h.value) ∷ h.before) before
        ⊎ IsEnd before (Decides h.core h.call (Reply.Ok h.value) ∷ h.before) → decided before < x.decision
        → ((more : List Event) → h.before ≡ more ++ before
        → IsForeign before c h.before xs ⊎ IsCovered setting before c h.before h.parent) → IsCovered setting before c events k
    by_end own (inl after_it) new parent = by_more own after_it.more after_it.is
      where
        by_more : h.core ≡ c → (more : List Event) → Decides h.core h.call (Reply.Ok h.value) ∷ h.before ≡ more ++ before
            → IsCovered setting before c events k
        by_more own [] e =
            let same : decided h.before + 1 ≡ decided before = ap decided e in
            let number = h.number in
            absurd (omega (arith, same, number, new))
        by_more own (d ∷ more) e =
            let rest : h.before ≡ more ++ before = cc in
            by_parent own more rest (parent more rest)
    by_end own (inr before_it) new parent =
        let most : decided h.before + 1 ≤ decided (before_it.more ++ (Decides h.core h.call (Reply.Ok h.value) ∷ h.before)) =
        fewer before_it.more (Decides h.core h.call (Reply.Ok h.value) ∷ h.before) in
        let same : decided before ≡ decided (before_it.more ++ (Decides h.core h.call (Reply.Ok h.value) ∷ h.before)) =
        ap decided before_it.is in
        let number = h.number in
        absurd (omega (arith, most, same, number, new))

pub cores_are_confined : CoresAreConfined
cores_are_confined setting lim before later run c f i k is own =
    confined setting before c (origin_of setting (later ++ before) f i).links (origin_of setting (later ++ before) f i).start later
    (later ++ before) k refl (chains_are_real setting lim (later ++ before) run f i k is own)
