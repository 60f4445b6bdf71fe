-- What a core that works outside a sealed world names lies outside, or may not be used.
use Rattle.authority_laws.specs.kernel_laws.proofs.{◌≡◌, ◌⊎◌, inl, inr, ℕ, Bool, true, false, refl, sym, ◌∙◌, ap, subst, if◌then◌else◌}
use Rattle.authority_laws.specs.kernel_laws.proofs.{IsTrue, Option, Some, None, false≢true, true≢false, Capability, both, kept, has_rights}
use Rattle.authority_laws.specs.kernel_laws.proofs.{part_of, Kind, Call, Comp, Frame, Kernel, State, comp_in, comp_of, plain_cap, Slot}
use Rattle.authority_laws.specs.kernel_laws.proofs.{only, linked, usable, reached, own, found, fits, only_is, IsOpen, none_some, some_inj}
use Rattle.world_laws.specs.{works_in, LeadsTo, gates, OnlyGates, HoldsNone, IsSealed}
use Rattle.authority_laws.proofs.{LedTo, InRange, InNode, IsGiven, used_at}
use Rattle.authority_laws.proofs.Acts.{IsCopied, IsParted, is_given, under_leaf}
use Rattle.{authority_laws.specs.IsUnder, authority_laws.specs.MayUse, authority_laws.specs.kernel_rules.proofs.right_to_use}
use Rattle.{authority_laws.specs.kernel_rules.proofs.frame_in, authority_laws.specs.spk_nums.proofs.KeptRights.kept_has}
use Rattle.{authority_laws.specs.found_stays.proofs.Stays.comp_fit, world_laws.proofs.Puts.Put}

-- What is sealed where fewer kinds cross is so where gates do.
pub sealed_for_gates : (w : ℕ → Bool) (crosses : Kind → Bool) (s : State) → OnlyGates crosses → IsSealed w crosses s → IsSealed w gates s
sealed_for_gates w crosses s only h = record {
  places = λ f i d k out e right crossing g leads. h.places f i d k out e right (only k.kind crossing) g leads;
  comps = h.comps;
}

-- Each link that a core may use has both rights.
abbrev pub LinksHaveBoth : State → Type 0
LinksHaveBoth s = (f i d : ℕ) (k : Capability) → usable s d (record { node = f; index = i }) ≡ Some k → IsTrue (only Kind.Link k.kind)
    → k.rights ≡ both

-- A capability that is no range leads to its frame.
pub leads_plain : (j : Kind) (k : Capability) (f : ℕ) → only Kind.Range j ≡ false → f ≡ k.frame → LeadsTo j k f
leads_plain Kind.Range k f other e = absurd (true≢false other)
leads_plain _ k f other e = e

-- A capability that holds nothing leads outside, where it may be used and may not cross.
pub led_out : (w : ℕ → Bool) (k : Capability) (j : Kind) (f : ℕ) → HoldsNone w gates k → IsTrue (has_rights k.rights right_to_use)
    → k.kind ≡ j → gates j ≡ false → LeadsTo j k f → w f ≡ false
led_out w k j f none right is crosses leads =
    none right (ap gates is ∙ crosses) f (subst (λ i. LeadsTo i k f) (sym is) leads)

comp_is : (x : Frame) → IsTrue (fits Kind.Comp x) → x ≡ Kernel (Comp (comp_in x))
comp_is (Kernel (Comp k)) fit = refl
comp_is _ fit = absurd (false≢true fit)

-- Core c works outside a sealed world.
pub record WorksOutside (w : ℕ → Bool) (s : State) (c : ℕ) : Type 0 where
  pub sealed : IsSealed w gates s
  pub links : LinksHaveBoth s
  pub table : w (comp_of s c).table ≡ false

pub works_outside : (w : ℕ → Bool) (s : State) (c : ℕ) (o : ℕ → Bool) → IsOpen s o c → LinksHaveBoth s → IsSealed w gates s
    → w (works_in s c) ≡ false → WorksOutside w s c
works_outside w s c o h links sealed out = record {
  sealed = sealed;
  links = links;
  table = (sealed.comps (works_in s c) (comp_of s c) out
      (comp_is (s.frame (works_in s c)) (comp_fit s o c h.sound (h.sound.inside c h.is).1))).0;
}

module _ (w : ℕ → Bool) (s : State) (c : ℕ) (h : WorksOutside w s c) where
  -- a leaf of a root that is outside is outside
  pub under_out : (root f : ℕ) → w root ≡ false → IsUnder s c root f → w f ≡ false
  under_out root f out (inl same) = ap w same ∙ out
  under_out root f out (inr (i, e)) = by_link (usable s c (record { node = root; index = i })) refl e
    where
      by_kind : (j : Capability) (b : Bool) → only Kind.Link j.kind ≡ b → usable s c (record { node = root; index = i }) ≡ Some j
          → (if b then Some j.frame else None) ≡ Some f → w f ≡ false
      by_kind j false is u q = absurd (none_some f q)
      by_kind j true is u q = led_out w j Kind.Link f (h.sealed.places root i c j out u)
          (subst (λ r. IsTrue (has_rights r right_to_use)) (sym (h.links root i c j u is)) refl)
          (only_is Kind.Link j.kind is) refl (sym (some_inj j.frame f q))

      by_link : (u : Option Capability) → usable s c (record { node = root; index = i }) ≡ u → linked u ≡ Some f → w f ≡ false
      by_link None is q = absurd (none_some f q)
      by_link (Some j) is q = by_kind j (only Kind.Link j.kind) refl is q

  -- a slot that a number leads to is outside
  reached_out : (n : ℕ) (at : Slot) → reached s c (own s c n) ≡ Some at → w at.node ≡ false
  reached_out n at e =
      under_out (comp_of s c).table at.node h.table (under_leaf s c (plain_cap Kind.Table (comp_of s c).table) n at e)

  pub may_none : {call : Call} (k : Capability) → MayUse call s c k → HoldsNone w gates k
  may_none k m = let x = used_at s c k m in h.sealed.places x.at.node x.at.index c k (reached_out m.number x.at x.reaches) x.from

  pub may_out : {call : Call} (k : Capability) (j : Kind) (f : ℕ) → MayUse call s c k → k.kind ≡ j → gates j ≡ false → LeadsTo j k f
      → w f ≡ false
  may_out k j f m = led_out w k j f (may_none k m) (used_at s c k m).rights

  pub range_out : {call : Call} (f : ℕ) → InRange call s c f → w f ≡ false
  range_out f r = may_out r.range Kind.Range f r.may r.kind refl r.has

  pub node_out : {call : Call} (f : ℕ) → InNode call s c f → w f ≡ false
  node_out f n = under_out n.root.frame f (by_kind n.kind) n.under
    where
      by_kind : (n.root.kind ≡ Kind.Table) ⊎ (n.root.kind ≡ Kind.Pages) → w n.root.frame ≡ false
      by_kind (inl is) = may_out n.root Kind.Table n.root.frame n.may is refl refl
      by_kind (inr is) = may_out n.root Kind.Pages n.root.frame n.may is refl refl

  -- a capability of one kind, which is neither a gate's nor a range's
  pub led_frame : {call : Call} (j : Kind) (f : ℕ) → gates j ≡ false → only Kind.Range j ≡ false → LedTo call s c (only j) f → w f ≡ false
  led_frame j f crosses other l =
      may_out l.cap j f l.may (only_is j l.cap.kind l.kind) crosses (leads_plain j l.cap f other (sym l.frame))

  given_kind : (j : Kind) → IsTrue (is_given j) → (gates j ≡ false) × (only Kind.Range j ≡ false)
  given_kind Kind.Leaf given = (refl, refl)
  given_kind Kind.Pleaf given = (refl, refl)
  given_kind Kind.Comp given = (refl, refl)
  given_kind _ given = absurd (false≢true given)

  -- what core c puts holds nothing of the world, whatever may cross
  copied_none : (crosses : Kind → Bool) → IsSealed w crosses s → (k : Capability) → IsCopied s c k → HoldsNone w crosses k
  copied_none crosses sealed k x = subst (HoldsNone w crosses) (sym x.is) (λ right crossing f leads.
      sealed.places x.at.node x.at.index c x.source (reached_out x.number x.at x.reaches) x.from
      (kept_has x.source.kind x.source.rights x.rights right_to_use right) crossing f (leads_kept x.source.kind f leads))
    where
      leads_kept : (j : Kind) (f : ℕ) → LeadsTo j (kept x.source x.rights) f → LeadsTo j x.source f
      leads_kept Kind.Range f leads = leads
      leads_kept _ f leads = leads

  parted_none : (crosses : Kind → Bool) → IsSealed w crosses s → (k : Capability) → IsParted s c k → HoldsNone w crosses k
  parted_none crosses sealed k x = subst (HoldsNone w crosses) (sym x.is) (λ right crossing f leads.
      sealed.places x.at.node x.at.index c x.source (reached_out x.number x.at x.reaches) x.from right (ap crosses x.kind ∙ crossing) f
      (subst (λ j. LeadsTo j x.source f) (sym x.kind)
      (frame_in (found x.source) (found (part_of x.source x.frame x.count)) f x.has leads)))

  given_none : {call : Call} (crosses : Kind → Bool) (k : Capability) → IsGiven call s c k → HoldsNone w crosses k
  given_none {call = call} crosses k x right crossing f leads = ap w (leads_frame k.kind x.kind leads) ∙ by_frame x.frame
    where
      leads_frame : (j : Kind) → only Kind.Range j ≡ false → LeadsTo j k f → f ≡ k.frame
      leads_frame Kind.Range other l = absurd (true≢false other)
      leads_frame _ other l = l

      by_frame : InRange call s c k.frame ⊎ LedTo call s c is_given k.frame → w k.frame ≡ false
      by_frame (inl r) = range_out k.frame r
      by_frame (inr l) =
          let g = given_kind l.cap.kind l.kind in
          may_out l.cap l.cap.kind k.frame l.may refl g.0 (leads_plain l.cap.kind l.cap k.frame g.1 (sym l.frame))

  pub put_none : {call : Call} (crosses : Kind → Bool) → IsSealed w crosses s → (f : ℕ) (k : Capability) → Put call s c f k
      → HoldsNone w crosses k
  put_none crosses sealed f k (node, inl (inl x)) = copied_none crosses sealed k x
  put_none crosses sealed f k (node, inl (inr x)) = parted_none crosses sealed k x
  put_none crosses sealed f k (node, inr x) = given_none crosses k x
