-- In every state that a run reaches, what a place holds leads to frames of the machine alone.
use Rattle.seal_check.specs.world_laws.specs.kernel_laws.proofs.{◌≡◌, inl, inr, ℕ, ◌+◌, ◌<◌, ◌≤◌, Bool, true, refl, sym}
use Rattle.seal_check.specs.world_laws.specs.kernel_laws.proofs.{ap, subst, arith, List, IsTrue, false≢true, ltb-true, Setting, IsSetting}
use Rattle.seal_check.specs.world_laws.specs.kernel_laws.proofs.{Capability, Kind, Holds, Untyped, Kernel, Comp, CompFields, Limits, State}
use Rattle.seal_check.specs.world_laws.specs.kernel_laws.proofs.{found, has_frame, fits, EndsWithin, IsGood, Event, after, IsRun}
use Rattle.seal_check.specs.world_laws.specs.kernel_laws.proofs.{IsObjectGood, IsSound, opened, limits_stay, runs_sound}
use Rattle.{std.proofs.lemmas.Bool.and_parts, std.proofs.lemmas.Bool.cases_lt, seal_check.specs.world_laws.specs.Worlds.LeadsTo}

-- A capability leads to the machine's frames alone.
abbrev pub LeadsWithin : ℕ → Capability → Type 0
LeadsWithin n k = (f : ℕ) → LeadsTo k.kind k f → f < n

-- Whether the object of a frame is one that capabilities name.
typed : (j : Kind) → IsTrue (fits j Untyped) → j ≡ Kind.Range
typed Kind.Range e = refl
typed _ e = absurd (false≢true e)

in_range : (k : Capability) (f n : ℕ) → has_frame (found k) f ≡ true → k.frame + k.arg ≤ n → f < n
in_range k f n e within =
    let parts = and_parts _ _ e in
    let below : f < k.frame + k.arg = ltb-true f (k.frame + k.arg) parts.1 in
    omega (arith, below, within)

by_kind : (j : Kind) (k : Capability) (n : ℕ) → EndsWithin j k.frame k.arg n → ((j ≡ Kind.Range → ⊥) → k.frame < n)
    → (f : ℕ) → LeadsTo j k f → f < n
by_kind Kind.Range k n within other f e = in_range k f n e within
by_kind _ k n within other f e = subst (λ g. g < n) (sym e) (other (λ q. cc))

good_within : (s : State) (o : ℕ → Bool) (k : Capability) → IsSound s o → IsGood s k → LeadsWithin s.limits.frames k
good_within s o k sound good = by_kind k.kind k s.limits.frames good.within below
  where
    below : (k.kind ≡ Kind.Range → ⊥) → k.frame < s.limits.frames
    below other = elim (cases_lt k.frame s.limits.frames) [
      | inl low ↦ low
      | inr past ↦ absurd (other (typed k.kind (subst (λ x. IsTrue (fits k.kind x)) (sound.beyond k.frame past) good.fit)))
    ]

frames_are : (setting : Setting) (events : List Event) → (after setting events).limits.frames ≡ setting.frames
frames_are setting events = ap (λ (l : Limits). l.frames) (limits_stay setting events)

-- In every state that a run reaches.
pub held_leads : (setting : Setting) → IsSetting setting → (events : List Event) → IsRun setting events → (f i : ℕ) (k : Capability)
    → (after setting events).place f i ≡ Holds k → LeadsWithin setting.frames k
held_leads setting lim events run f i k is =
    let sound = runs_sound setting lim events run in
    subst (λ n. LeadsWithin n k) (frames_are setting events)
    (good_within (after setting events) (opened events) k sound (sound.held f i k is))

-- And a component has its table and its pages there.
pub fields_within : (setting : Setting) → IsSetting setting → (events : List Event) → IsRun setting events → (f : ℕ) (k : CompFields)
    → (after setting events).frame f ≡ Kernel (Comp k) → (k.table < setting.frames) × (k.pages < setting.frames)
fields_within setting lim events run f k is =
    let s : State = after setting events in
    let good : IsTrue (fits Kind.Table (s.frame k.table)) × IsTrue (fits Kind.Pages (s.frame k.pages)) =
    subst (IsObjectGood (after setting events)) is (sound.objects f) in
    (within Kind.Table k.table (λ e. cc) good.0, within Kind.Pages k.pages (λ e. cc) good.1)
  where
    sound : IsSound (after setting events) (opened events)
    sound = runs_sound setting lim events run

    within : (j : Kind) (g : ℕ) → (j ≡ Kind.Range → ⊥) → IsTrue (fits j ((after setting events).frame g)) → g < setting.frames
    within j g other fit = elim (cases_lt g (after setting events).limits.frames) [
      | inl low ↦ subst (λ n. g < n) (frames_are setting events) low
      | inr past ↦ absurd (other (typed j (subst (λ x. IsTrue (fits j x)) (sound.beyond g past) fit)))
    ]
