-- What the names of a call have led to are capabilities.
use Rattle.comp_invariant.specs.core_invariant.proofs.{◌≡◌, ℕ, List, [], ◌∷◌, ◌++◌, Some, subst, Capability, Setting, EntryFits, Named}
use Rattle.comp_invariant.specs.core_invariant.proofs.{found, some_inj, Trace, Name, First, Second, at_place, Leads, HasFound, own_in}
use Rattle.comp_invariant.specs.act_states.specs.{Third, Fourth}
use Rattle.comp_invariant.specs.call_plans.specs.{declared.plans.Nth.Nth, Plans.head, Plans.tail}
use Rattle.{comp_invariant.specs.core_invariant.proofs.Entry, comp_invariant.specs.kernel_invariant.proofs.Facts.none_some}

module _ (setup : Setting) (t : Trace) (c table : ℕ) where
  abbrev Led : List Name → List Named → List Capability → Type 0
  Led names caps ks = Leads (λ n wanted k. HasFound setup t c (own_in table n) wanted k) names caps ks

  first_fits : (names : List Name) (caps : List Named) (ks : List Capability) (k : Capability) → Led names caps ks → head ks ≡ Some k
      → EntryFits (Entry.Held k)
  first_fits names caps [] k led is = absurd (none_some k is)
  first_fits [] caps (j ∷ ks) k led is = absurd led
  first_fits (name ∷ names) caps (j ∷ ks) k led is = subst (λ (x : Capability). EntryFits (Entry.Held x)) (some_inj j k is) led.0.fits

  -- those after the first
  record Later (ks : List Capability) : Type 0 where
    names : List Name
    caps : List Named
    led : Led names caps (tail ks)

  later : (names : List Name) (caps : List Named) (ks : List Capability) → Led names caps ks → Later ks
  later names caps [] led = record { names = []; caps = []; led = tt }
  later [] caps (j ∷ ks) led = absurd led
  later (name ∷ names) caps (j ∷ ks) led = record { names = names; caps = caps ++ found j ∷ []; led = led.1 }

  pub found_fits : (names : List Name) (caps : List Named) (ks : List Capability) (nth : Nth) (k : Capability) → Led names caps ks
      → at_place ks nth ≡ Some k → EntryFits (Entry.Held k)
  found_fits names caps ks First k led is = first_fits names caps ks k led is
  found_fits names caps ks Second k led is =
      let one = later names caps ks led in first_fits one.names one.caps (tail ks) k one.led is
  found_fits names caps ks Third k led is =
      let one = later names caps ks led in
      let two = later one.names one.caps (tail ks) one.led in first_fits two.names two.caps (tail (tail ks)) k two.led is
  found_fits names caps ks Fourth k led is =
      let one = later names caps ks led in
      let two = later one.names one.caps (tail ks) one.led in
      let three = later two.names two.caps (tail (tail ks)) two.led in
      first_fits three.names three.caps (tail (tail (tail ks))) k three.led is
