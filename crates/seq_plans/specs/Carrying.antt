-- The change of a call, given what was looked up, and what it must have found beside that none of its causes stands. What an edit needs is
-- said once an edit, whatever call makes it.
use Rattle.std.specs.Prelude.{◌≡◌, ◌≢◌, ◌<◌, ◌≤◌, ◌+◌, ◌^◌, ◌∷◌}
use Rattle.seq_state.specs.kernel_rules.specs.{ℕ, Bool, true, false, List, [], length, Option, Some, None, is_some, IsSome, IsSomeAnd}
use Rattle.seq_state.specs.kernel_rules.specs.{IsTrue, IsFalse, Capability, Kind, Call, Reply, comp_of, thread_in, thread_of, Rule}
use Rattle.seq_state.specs.kernel_rules.specs.{Name as name_rule, Vacant, Held as held_rule, Mapped, Does, Change, does, Judged, Refused}
use Rattle.seq_state.specs.kernel_rules.specs.{Found as Carried, rule_of, translation_of, is_live_in, budget_at, slot_of, Edit, Fill}
use Rattle.seq_state.specs.kernel_rules.specs.{Edits.Remove, Node, Become, Untype, Component, Deaden, Push, Pop, Edits.Switch, Cache}
use Rattle.seq_state.specs.kernel_rules.specs.{Edits.Flush, Charge, Move, Merge, Give, unwrap_or, Rows.Findings, Rows.first, Rows.no_cap}
use Rattle.call_plans.specs.{at_place, plan_for, declared.plans.Nth.TheVariants.First, declared.plans.Nth.TheVariants.Second}
use Rattle.call_plans.specs.{declared.plans.Nth.TheVariants.Third, declared.plans.Nth.TheVariants.Fourth, declared.plans.Wanted.Wanted}
use Rattle.call_plans.specs.{declared.plans.Name.Name, declared.plans.Target.Target, declared.plans.Target.TheVariants.Nowhere}
use Rattle.call_plans.specs.{declared.plans.Target.TheVariants.Free, declared.plans.Target.TheVariants.Held}
use Rattle.call_plans.specs.{declared.plans.Target.TheVariants.Own, declared.plans.Plan.Plan}
use Rattle.{seq_state.specs.State, seq_lookups.specs.Ranges.TicksFit, seq_plans.specs.declared.walking.Looked.Looked}
use Rattle.{seq_state.specs.kernel_rules.specs.Rows.edits_at, seq_plans.specs.Reaches.named_of}

-- The change of what is left of a rule of core c, where its look-ups have been made.
abbrev pub change_in : State → ℕ → Rule → Judged Change
change_in s c (Does causes value edits) = Carried (does c s value edits)
change_in s c (name_rule n want rest) = Refused Reply.Raced
change_in s c (Vacant target rest) = Refused Reply.Raced
change_in s c (held_rule target rest) = Refused Reply.Raced
change_in s c (Mapped table v rest) = Refused Reply.Raced

-- A name, if there is one, has led to something.
abbrev pub HasLed : Option Name → Option Capability → Type 0
HasLed None k = Unit {0}
HasLed (Some name) k = IsSome k

-- A target was found, and what it holds, where that is asked for; a page, where its translation is not cached.
abbrev pub WasReached : State → ℕ → Target → Looked → Type 0
WasReached s c Nowhere l = Unit {0}
WasReached s c (Free spot) l = IsSome l.at
WasReached s c (Held spot) l = IsSome l.at × IsSome l.held
WasReached s c (Own v) l = IsFalse (is_some (translation_of (s.core c).cached (comp_of s c).pages v)) → IsSome l.held

-- All that a plan looks up was found: what each of its names leads to, and its target.
abbrev pub WasFound : State → ℕ → Plan → Looked → Type 0
WasFound s c plan l =
    HasLed (at_place plan.names First) l.first × HasLed (at_place plan.names Second) l.second × HasLed (at_place plan.names Third) l.third
    × HasLed (at_place plan.names Fourth) l.fourth × WasReached s c plan.target l

-- Whether a capability of any kind is wanted.
abbrev pub is_any : Wanted → Bool
is_any Wanted.Any = true
is_any wanted = false

-- Whether a call copies, by its first name: one that names a capability of any kind fills a place with a copy of that.
abbrev pub copies : Option Name → Bool
copies None = false
copies (Some name) = is_any name.wanted

-- What is put into a place, by its kind, frame and number: a page and a range begin at a frame of the machine, and a gate has an epoch,
-- which counts from 1.
abbrev pub MayPut : State → Kind → ℕ → ℕ → Type 0
MayPut s Kind.Page f n = f < s.limits.frames
MayPut s Kind.Range f n = f < s.limits.frames
MayPut s Kind.Gate f n = 1 ≤ n
MayPut s kind f n = Unit {0}

-- What fills a place: of a copy nothing is asked, since it has the kind, the frame and the number of what was found.
abbrev pub MayFill : Bool → State → Capability → Type 0
MayFill true s k = Unit {0}
MayFill false s k = MayPut s k.kind k.frame k.arg

-- What core c must have found for an edit, in the state before the call and by the call's plan.
abbrev pub MayEdit : State → ℕ → Plan → Looked → Edit → Type 0
-- A place is filled with a copy, or with what may be put anew.
MayEdit s c plan l (Fill at k) = MayFill (copies (at_place plan.names First)) s k
-- What a place holds is removed: nothing more than that it was found.
MayEdit s c plan l (Remove at k) = Unit {0}
-- A frame of the machine becomes a node, or has another object.
MayEdit s c plan l (Node f object) = f < s.limits.frames
MayEdit s c plan l (Become f x) = f < s.limits.frames
-- It becomes untyped: a thread in it is in at most one component.
MayEdit s c plan l (Untype f) = (f < s.limits.frames) × (length (thread_in (s.frame f)).stack ≤ 1)
-- It becomes a component, in an epoch that is within the limit.
MayEdit s c plan l (Component f k) = (f < s.limits.frames) × (k.epoch ≤ s.limits.epochs)
-- A liveness number dies that is live in this epoch.
MayEdit s c plan l (Deaden n epoch) = IsTrue (is_live_in (s.number n) epoch)
-- The core's thread enters a component: it is in fewer than 16.
MayEdit s c plan l (Push f) = length (thread_of s c).stack < 16
-- It leaves one: it is in more than one.
MayEdit s c plan l Pop = 1 < length (thread_of s c).stack
-- The core goes on as an idle thread.
MayEdit s c plan l (Switch h q) = (thread_in (s.frame h)).runs_on ≡ None
-- The core caches what it found mapped: a page.
MayEdit s c plan l (Cache t) = IsSomeAnd l.held λ k. k.kind ≡ Kind.Page
-- It flushes.
MayEdit s c plan l Flush = Unit {0}
-- It is charged ticks, and those that it owes: they fit their words.
MayEdit s c plan l (Charge n) = TicksFit s c n
-- Ticks move between two temporal capabilities, and fit the other's budget.
MayEdit s c plan l (Move a b m) = (a ≢ b) × (budget_at s b + m < 2 ^ 32)
-- A list of at most 8 qualities is put.
MayEdit s c plan l (Merge f qualities) = length qualities ≤ 8
-- Ticks are given back, and fit the budget and what the core has had back.
MayEdit s c plan l (Give f m) = (budget_at s f + m < 2 ^ 32) × ((s.core c).back + m < 2 ^ 64)

-- All edits of a list have found what they need.
abbrev pub AllMay : State → ℕ → Plan → Looked → List Edit → Type 0
AllMay s c plan l [] = Unit {0}
AllMay s c plan l (edit ∷ edits) = MayEdit s c plan l edit × AllMay s c plan l edits

-- What was looked up, as what the look-ups of a rule find: its names in their order, its target, and what that holds.
abbrev pub findings_of : Looked → Findings
findings_of l = record {
  names = first (named_of l.first) (first (named_of l.second) (first (named_of l.third) (λ i. named_of l.fourth)));
  slots = λ i. slot_of l.at;
  held = λ i. unwrap_or l.held no_cap;
}

-- What a call of core c must have found to be carried out: all that its plan looks up, and what each edit of its rule needs.
abbrev pub MayCarry : State → ℕ → Call → Looked → Type 0
MayCarry s c call l = WasFound s c (plan_for call) l × AllMay s c (plan_for call) l (edits_at (rule_of s c call) (findings_of l))
