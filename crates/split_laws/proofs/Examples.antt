-- Worked examples, which the checker computes: states in which the world of frame 5 and number 1 is not split, and one in which a world is.
use Rattle.same_changes.specs.kernel_laws.proofs.{◌≡◌, inl, inr, ℕ, arith, false, ◌==◌, ltb as nat_lt, refl, sym, ◌∙◌, ap, subst, [], ◌∷◌}
use Rattle.same_changes.specs.kernel_laws.proofs.{Some, None, true≢false, Capability, cap_of, Kind, Retype, Translation, Free, Holds}
use Rattle.same_changes.specs.kernel_laws.proofs.{Quiescing, CompFields, ThreadFields, Comp, Thread, Untyped, User, Kernel, Unused, Core}
use Rattle.same_changes.specs.kernel_laws.proofs.{State, with_place, with_frame, with_core, with_grace, plain_cap, no_grace, only}
use Rattle.same_changes.specs.kernel_laws.proofs.{usable_in, RuleMay, rule_of, put_all, place_all, none_some, some_inj, FrameKind, Reply}
use Rattle.{split_laws.specs.World, split_laws.specs.IsSplit, std.specs.List.AllByRecursion, world_laws.specs.spk_nums.specs.Rights.neither}
use Rattle.{world_laws.specs.Worlds.LeadsTo, world_laws.proofs.Outside.leads_plain}

-- The world of frame 5 and number 1, and a state without anything.
abbrev five : World
five = record { frame = λ f. f == 5; number = λ l. l == 1 }

abbrev idle : Core
idle = record { inside = false; thread = 0; tcap = 0; cached = []; spent = 0; back = 0; owed = 0; counted = 0; grant = (0, 0) }

abbrev nothing : State
nothing = record {
  place = λ f i. Free;
  frame = λ f. Untyped;
  number = λ l. Unused;
  core = λ c. idle;
  grace = λ x. no_grace;
  limits = record { cores = 3; frames = 12; calls = 8; epochs = 8 };
}

-- A place outside has a capability of any kind to frame 5, also a gate.
held_crosses : (k : Kind) → only Kind.Range k ≡ false → IsSplit five (with_place nothing 1 0 (Holds (plain_cap k 5))) → ⊥
held_crosses k plain h = true≢false (h.places 1 0 0 5 (plain_cap k 5) refl (leads_plain k (plain_cap k 5) 5 plain refl))

gate_crosses : IsSplit five (with_place nothing 1 0 (Holds (plain_cap Kind.Gate 5))) → ⊥
gate_crosses = held_crosses Kind.Gate refl

-- One without rights, and a range of the frames 4 to 6.
abbrev dull : Capability
dull = record { kind = Kind.Comp; frame = 5; arg = 0; rights = neither }

dull_crosses : IsSplit five (with_place nothing 1 0 (Holds dull)) → ⊥
dull_crosses h = true≢false (h.places 1 0 0 5 dull refl refl)

range_crosses : IsSplit five (with_place nothing 1 0 (Holds (cap_of Kind.Range 4 3))) → ⊥
range_crosses h = true≢false (h.places 1 0 0 5 (cap_of Kind.Range 4 3) refl refl)

-- One that was removed, while core 2 is still in the call in which the removal met it.
removed_crosses : IsSplit five
    (with_grace (with_place nothing 1 0 (Quiescing (plain_cap Kind.Comp 5))) (λ x. record no_grace { waits = λ d. d == 2 })) → ⊥
removed_crosses h = true≢false (h.places 1 0 2 5 (plain_cap Kind.Comp 5) refl refl)

-- A component outside has its table, its pages or its number there.
abbrev fields : ℕ → ℕ → ℕ → CompFields
fields table pages number = record { table = table; pages = pages; number = number; epoch = 1 }

own_table_crosses : IsSplit five (with_frame nothing 1 (Kernel (Comp (fields 5 2 0)))) → ⊥
own_table_crosses h = true≢false (h.comps 1 (fields 5 2 0) refl).0

own_pages_cross : IsSplit five (with_frame nothing 1 (Kernel (Comp (fields 2 5 0)))) → ⊥
own_pages_cross h = true≢false (h.comps 1 (fields 2 5 0) refl).1

own_number_crosses : IsSplit five (with_frame nothing 1 (Kernel (Comp (fields 2 2 1)))) → ⊥
own_number_crosses h = true≢false (h.comps 1 (fields 2 2 1) refl).2

-- A thread outside has it on its stack.
abbrev called : ThreadFields
called = record { stack = 2 ∷ 5 ∷ []; runs_on = None }

stack_crosses : IsSplit five (with_frame nothing 1 (Kernel (Thread called))) → ⊥
stack_crosses h = true≢false (h.stacks 1 called refl).1.0

-- A core on a thread outside runs on its time, or has cached it by pages outside.
time_crosses : IsSplit five (with_core nothing 0 (record idle { tcap = 5 })) → ⊥
time_crosses h = true≢false (h.cores 0 (omega arith))

abbrev cached_page : Translation
cached_page = record { pages = 2; page = 0; frame = 5; flags = record { 0 = 0 } }

translation_crosses : IsSplit five (with_core nothing 0 (record idle { cached = cached_page ∷ [] })) → ⊥
translation_crosses h = true≢false (h.cached 0 (omega arith)).0

-- The frames from 5 on and the numbers from 1 on, and a component on each side, of which the one in the world has a name for itself.
abbrev upper : World
upper = record { frame = λ f. nat_lt 4 f; number = λ l. nat_lt 0 l }

abbrev outer : State
outer = with_frame nothing 1 (Kernel (Comp (fields 2 3 0)))

abbrev made : State
made = with_frame outer 5 (Kernel (Comp (fields 6 7 1)))

abbrev halves : State
halves = with_place made 6 0 (Holds (plain_cap Kind.Comp 5))

-- Of a component, and of a thread, in a frame.
abbrev Sided : ℕ → CompFields → Type 0
Sided f k = (upper.frame k.table ≡ upper.frame f) × (upper.frame k.pages ≡ upper.frame f) × (upper.number k.number ≡ upper.frame f)

abbrev OnStack : ℕ → ThreadFields → Type 0
OnStack f t = AllByRecursion (λ g. upper.frame g ≡ upper.frame f) t.stack

comp_inj : (j k : CompFields) → Kernel (Comp j) ≡ Kernel (Comp k) → j ≡ k
comp_inj j k e = cc

no_comp : (k : CompFields) → Untyped ≡ Kernel (Comp k) → ⊥
no_comp k e = cc

no_thread : (t : ThreadFields) → Untyped ≡ Kernel (Thread t) → ⊥
no_thread t e = cc

comp_thread : (k : CompFields) (t : ThreadFields) → Kernel (Comp k) ≡ Kernel (Thread t) → ⊥
comp_thread k t e = cc

sided : (f g : ℕ) (k j : CompFields) → f ≡ g → j ≡ k → Sided g j → Sided f k
sided f g k j here same h = subst (λ n. Sided n k) (sym here) (subst (Sided g) same h)

own_name : (f g : ℕ) (k : Capability) → f ≡ 6 → plain_cap Kind.Comp 5 ≡ k → LeadsTo k.kind k g → upper.frame g ≡ upper.frame f
own_name f g k here same leads =
    let to : g ≡ 5 = subst (λ (j : Capability). LeadsTo j.kind j g) (sym same) leads in
    ap upper.frame to ∙ ap upper.frame (sym here)

halves_split : IsSplit upper halves
halves_split = record {
  places = λ f i d g k. place_all (λ f i p. usable_in p false ≡ Some k → LeadsTo k.kind k g → upper.frame g ≡ upper.frame f)
      made 6 0 (Holds (plain_cap Kind.Comp 5)) f i
      (λ here at e leads. own_name f g k here (some_inj (plain_cap Kind.Comp 5) k e) leads)
      (λ e. absurd (none_some k e));
  comps = λ f k. put_all (λ f x. x ≡ Kernel (Comp k) → Sided f k) outer.frame 5 (Kernel (Comp (fields 6 7 1))) f
      (λ here e. sided f 5 k (fields 6 7 1) here (comp_inj (fields 6 7 1) k e) (refl, refl, refl))
      (λ other. put_all (λ f x. x ≡ Kernel (Comp k) → Sided f k) nothing.frame 1 (Kernel (Comp (fields 2 3 0))) f
      (λ here e. sided f 1 k (fields 2 3 0) here (comp_inj (fields 2 3 0) k e) (refl, refl, refl)) (λ elsewhere e. absurd (no_comp k e)));
  stacks = λ f t. put_all (λ f x. x ≡ Kernel (Thread t) → OnStack f t) outer.frame 5 (Kernel (Comp (fields 6 7 1))) f
      (λ here e. absurd (comp_thread (fields 6 7 1) t e))
      (λ other. put_all (λ f x. x ≡ Kernel (Thread t) → OnStack f t) nothing.frame 1 (Kernel (Comp (fields 2 3 0))) f
      (λ here e. absurd (comp_thread (fields 2 3 0) t e)) (λ elsewhere e. absurd (no_thread t e)));
  cores = λ c below. refl;
  cached = λ c below. tt;
}

-- Core 0 works outside the world, and names a frame of it, 8, by its number. It may be refused for what that frame is, though no range of
-- its own has it: so it is told of the world, and in another state of the world it is not.
abbrev typed : State
typed = with_frame halves 8 User

frame_told : RuleMay typed 0 (rule_of typed 0 (Retype 0 8 FrameKind.Kernel)) Reply.FrameKind
frame_told = inr (inr (inl (refl, refl)))

none_told : RuleMay halves 0 (rule_of halves 0 (Retype 0 8 FrameKind.Kernel)) Reply.FrameKind → ⊥
none_told (inl name) = name
none_told (inr (inl range)) = true≢false (sym range.0)
none_told (inr (inr (inl frame))) = true≢false (sym frame.0)
none_told (inr (inr (inr none))) = none
