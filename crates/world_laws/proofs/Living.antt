-- In the states that runs reach, a component lives exactly where its number is live for its frame.
use Rattle.authority_laws.specs.kernel_laws.proofs.{◌≡◌, ℕ, ◌≤◌, arith, Bool, true, false, ◌==◌, refl, sym, ◌∙◌, ap, IsTrue, List}
use Rattle.authority_laws.specs.kernel_laws.proofs.{false≢true, eqb-true, eq-eqb, Setting, IsSetting, Comp, Frame, Kernel, Liveness, Unused}
use Rattle.authority_laws.specs.kernel_laws.proofs.{Live, Dead, State, comp_in, fits, is_live_in, FrameInRange, Event, after, IsRun, Kind}
use Rattle.authority_laws.specs.state_laws.proofs.{Lives.live_numbers_fit, CompsApart.comps_apart}
use Rattle.{authority_laws.specs.kernel_laws.proofs.RangesLaw.ranges_hold, authority_laws.specs.state_laws.specs.Lives.IsCompOf}
use Rattle.{world_laws.specs.Worlds.lives_at}

-- The number of a component that lives is live for its frame.
pub record LivesFor (s : State) (f : ℕ) : Type 0 where
  pub comp : IsTrue (fits Kind.Comp (s.frame f))
  pub live : s.number (comp_in (s.frame f)).number ≡ Live (comp_in (s.frame f)).epoch f

pub life_from : (s : State) (f : ℕ) → LivesFor s f → lives_at s f ≡ true
life_from s f h = ap (λ x. is_live_in x (comp_in (s.frame f)).epoch) h.live ∙ same_self (comp_in (s.frame f)).epoch
  where
    same_self : (n : ℕ) → (n == n) ≡ true
    same_self n = eq-eqb n n refl

least_epoch : (epochs : ℕ) (x : Frame) → IsTrue (fits Kind.Comp x) → FrameInRange epochs x → 1 ≤ (comp_in x).epoch
least_epoch epochs (Kernel (Comp k)) fit h = h.epoch.least
least_epoch epochs _ fit h = absurd (false≢true fit)

no_epoch : (x : Frame) → fits Kind.Comp x ≡ false → (comp_in x).epoch ≡ 0
no_epoch (Kernel (Comp k)) none = absurd (false≢true (sym none))
no_epoch _ none = refl

module _ (setting : Setting) (lim : IsSetting setting) (events : List Event) (run : IsRun setting events) (f : ℕ) where
  abbrev s : State
  s = after setting events

  by_comp : (b : Bool) → fits Kind.Comp (s.frame f) ≡ b → (d g : ℕ) → s.number (comp_in (s.frame f)).number ≡ Live d g
      → d ≡ (comp_in (s.frame f)).epoch → IsCompOf (s.frame g) (comp_in (s.frame f)).number d → LivesFor s f
  by_comp true fit d g is epoch comp =
      let same : f ≡ g = comps_apart setting lim events run f g fit comp.comp (sym comp.number) (sym epoch ∙ sym comp.epoch) in
      record { comp = fit; live = is ∙ ap (λ n. Live n g) epoch ∙ ap (Live (comp_in (s.frame f)).epoch) (sym same) }
  by_comp false none d g is epoch comp =
      let least : 1 ≤ (comp_in (s.frame g)).epoch =
      least_epoch s.limits.epochs (s.frame g) comp.comp ((ranges_hold setting lim events run).frames g) in
      let zero : (comp_in (s.frame g)).epoch ≡ 0 = comp.epoch ∙ epoch ∙ no_epoch (s.frame f) none in
      absurd (omega (arith, least, zero))

  by_number : (x : Liveness) → s.number (comp_in (s.frame f)).number ≡ x → is_live_in x (comp_in (s.frame f)).epoch ≡ true → LivesFor s f
  by_number Unused is live = absurd (false≢true live)
  by_number (Dead d) is live = absurd (false≢true live)
  by_number (Live d g) is live =
      by_comp (fits Kind.Comp (s.frame f)) refl d g is (eqb-true d (comp_in (s.frame f)).epoch live)
      (live_numbers_fit setting lim events run (comp_in (s.frame f)).number d g is)

  pub lives_for : lives_at s f ≡ true → LivesFor s f
  lives_for lives = by_number (s.number (comp_in (s.frame f)).number) refl lives
