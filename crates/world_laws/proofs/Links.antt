-- In every state that a run reaches, each link that a core may use has both rights; and who waits after a return waited before.
use Rattle.authority_laws.specs.kernel_laws.proofs as low
use low.{◌≡◌, inl, inr, ℕ, Bool, true, false, refl, ◌∙◌, ap, subst, if◌then◌else◌, IsTrue, List, [], ◌∷◌, Some, None, false≢true, Setting}
use low.{IsSetting, Capability, both, Kind, Call, Place, Free, Holds, Quiescing, PlaceOf, State, Slot, only, usable, usable_in, returned}
use low.{Event, Enters, Decides, Returns, after, is_open, IsRun, none_some, put_all, only_is, opened, open_is}
use Rattle.world_laws.proofs.{Puts.Put, Puts.usable_from, Outside.LinksHaveBoth}
use Rattle.{authority_laws.specs.spk_nums.specs.Rights.kept_rights, authority_laws.specs.state_laws.proofs.BothRights.both_stay}

fewer_use : (p : Place) (a b : Bool) (k : Capability) → (a ≡ true → b ≡ true) → usable_in p a ≡ Some k → usable_in p b ≡ Some k
fewer_use Free a b k less e = e
fewer_use (Holds j) a b k less e = e
fewer_use (Quiescing j) true b k less e = ap (λ x. if x then Some j else None) (less refl) ∙ e
fewer_use (Quiescing j) false b k less e = absurd (none_some k e)

-- What a core may use after a return it might use before.
pub returned_uses : (s : State) (c d : ℕ) (at : Slot) (k : Capability) → usable (returned s c) d at ≡ Some k → usable s d at ≡ Some k
returned_uses s c d at k = fewer_use (s.place at.node at.index) _ ((s.grace (PlaceOf at.node at.index)).waits d) k
    (put_all (λ d x. x ≡ true → (s.grace (PlaceOf at.node at.index)).waits d ≡ true) (s.grace (PlaceOf at.node at.index)).waits c false d
    (λ same e. absurd (false≢true e)) (λ other e. e))

link_kept : (j : Kind) (own these : ℕ) → IsTrue (only Kind.Link j) → own ≡ both → kept_rights j own these ≡ both
link_kept j own these is e = by_kind j (only_is Kind.Link j is)
  where
    by_kind : (j : Kind) → j ≡ Kind.Link → kept_rights j own these ≡ both
    by_kind j same = ap (λ i. kept_rights i own these) same ∙ e

put_both : {call : Call} (s : State) (c f : ℕ) (k : Capability) → LinksHaveBoth s → Put call s c f k
    → IsTrue (only Kind.Link k.kind) → k.rights ≡ both
put_both s c f k h (node, inr given) is = given.rights
put_both s c f k h (node, inl (inr part)) is =
    absurd (false≢true (subst (λ (j : Capability). IsTrue (only Kind.Link j.kind)) part.is is))
put_both s c f k h (node, inl (inl copied)) is =
    let link : IsTrue (only Kind.Link copied.source.kind) = subst (λ (j : Capability). IsTrue (only Kind.Link j.kind)) copied.is is in
    ap (λ (j : Capability). j.rights) copied.is
    ∙ link_kept copied.source.kind copied.source.rights copied.rights link
    (h copied.at.node copied.at.index c copied.source copied.from link)

pub links_have_both : (setting : Setting) → IsSetting setting → (events : List Event) → IsRun setting events
    → LinksHaveBoth (after setting events)
links_have_both setting lim [] run f i d k e is = (both_stay setting [] tt).used d (record { node = f; index = i }) k e
links_have_both setting lim (Enters c call ∷ events) run f i d k e is = links_have_both setting lim events run.0 f i d k e is
links_have_both setting lim (Returns c ∷ events) run f i d k e is =
    links_have_both setting lim events run.0 f i d k (returned_uses (after setting events) c d (record { node = f; index = i }) k e) is
links_have_both setting lim (Decides c call r ∷ events) run f i d k e is =
    elim (usable_from (after setting events) c (opened events) (open_is setting lim events c run.0 (ap is_open run.1.is_open)) call r
    run.1.permitted f i d k e) [
      | inl was ↦ links_have_both setting lim events run.0 f i d k was is
      | inr new ↦ put_both (after setting events) c f k (links_have_both setting lim events run.0) new is
    ]
