-- What it means that the plain kernel has judged a decision.
use Rattle.std.specs.Prelude.{◌≡◌, ◌⊎◌}
use Rattle.plain_kernel.specs.seq_state.specs.{ℕ, Bool, true, false, List, Option, Some, None, IsTrue, IsFalse, Setting, IsSetting, Call}
use Rattle.plain_kernel.specs.seq_state.specs.{Value}
use Rattle.plain_kernel.specs.seq_state.specs.{Reply, State, RuleMay, Change, Judged, Refused as refused, Found as carried, IsRefusal, acts}
use Rattle.plain_kernel.specs.seq_state.specs.{MayReply}
use Rattle.plain_kernel.specs.seq_state.specs.{change_of, owed_by, state_by, reply_in, Event, after, Open, phase_of, IsRun, Represents}
use Rattle.plain_kernel.specs.seq_plans.specs.{judged_rule, Decides}
use Rattle.call_judge.specs.declared.deciding.Sort.TheVariants.{Spent, Carried, Lost, Refused}
use Rattle.{std.specs.Prelude.MatchBool, plain_kernel.specs.kernel_rules.specs.CallRelation.MayBeDead}
use Rattle.{plain_kernel.specs.seq_state.specs.Maps.Maps}
use Rattle.{plain_kernel.specs.seq_lookups.specs.Carried.IsCarriedOut, call_judge.specs.declared.deciding.Sort.Sort}

-- A lost race, and a refusal of a call's own.
abbrev pub IsLost : Reply → Type 0
IsLost Reply.Raced = Unit {0}
IsLost (Reply.Busy d) = Unit {0}
IsLost _ = ⊥

abbrev pub IsOwn : Reply → Type 0
IsOwn (Reply.Ok v) = ⊥
IsOwn Reply.Raced = ⊥
IsOwn (Reply.Busy d) = ⊥
IsOwn Reply.CallsSpent = ⊥
IsOwn _ = Unit {0}

-- A reply is of this sort.
abbrev pub IsOfSort : Sort → Reply → Type 0
IsOfSort Spent r = r ≡ Reply.CallsSpent
IsOfSort (Carried v) r = r ≡ Reply.Ok v
IsOfSort Lost r = IsLost r
IsOfSort Refused r = IsOwn r

-- The answer of a reply that is none of a refusal.
abbrev pub IsAnswerOf : Option Value → Reply → Type 0
IsAnswerOf None r = IsRefusal r
IsAnswerOf (Some v) r = r ≡ Reply.Ok v

-- What is judged is refused with a refusal, if it is.
abbrev pub RefusesPlainly : Judged Change → Type 0
RefusesPlainly (refused r) = IsRefusal r
RefusesPlainly (carried change) = Unit {0}

-- What is judged is carried out where its reply is `ok` with this value; else the kernel represents s as before.
abbrev pub CarriesOut : State → Judged Change → Value → Bool → Maps → Type 0
CarriesOut s outcome v b k = MatchBool b (IsCarriedOut s outcome (Reply.Ok v) k) ((reply_in outcome ≡ Reply.Ok v → ⊥) × Represents k s)

-- In state s, core c's call may be decided so, and the kernel then represents the state that the decision leaves.
pub record IsDecided (s : State) (c : ℕ) (call : Call) (r : Reply) (k : Maps) : Type 0 where
  pub permitted : MayReply s c call r
  pub state : Represents k (state_by s c call r)

-- It may not, and the kernel represents s as before.
pub record IsNotDecided (s : State) (c : ℕ) (call : Call) (r : Reply) (k : Maps) : Type 0 where
  pub forbidden : MayReply s c call r → ⊥
  pub state : Represents k s

-- True exactly where the call relation permits the decision.
abbrev pub IsJudged : State → ℕ → Call → Reply → Bool → Maps → Type 0
IsJudged s c call r b k = MatchBool b (IsDecided s c call r k) (IsNotDecided s c call r k)

-- So it is in every state that a run reaches, with this call of core c open, and that the kernel k represents.
abbrev pub JudgesExactly : Maps → ℕ → Call → Reply → Bool → Maps → Type 0
JudgesExactly k c call r b k' =
    (setting : Setting) → IsSetting setting → (events : List Event) → IsRun setting events → phase_of events c ≡ Open call
    → Represents k (after setting events) → IsJudged (after setting events) c call r b k'

-- So it is of a call that its core may make; one that it may not is not carried out, and the kernel represents s as before.
abbrev pub CarriesOutActing : State → ℕ → Call → Value → Bool → Maps → Type 0
CarriesOutActing s c call v b k = (IsTrue (acts s c call) → CarriesOut s (change_of s c call) v b k)
    × (IsFalse (acts s c call) → (b ≡ false) × Represents k s)

-- A call may be refused so: by its rule, and with `dead` also before all else.
abbrev pub MayRefuse : State → ℕ → Call → Reply → Type 0
MayRefuse s c call Reply.Dead = MayBeDead s c call ⊎ RuleMay s c (judged_rule s c call) Reply.Dead
MayRefuse s c call r = RuleMay s c (judged_rule s c call) r

-- What is decided of a call of core c in state s whose calls are not spent, before it is counted.
abbrev pub DecidesAs : State → ℕ → Call → Reply → Bool → Maps → Type 0
DecidesAs s c call (Reply.Ok v) b k = CarriesOutActing s c call v b k
DecidesAs s c call Reply.Raced b k = (b ≡ true) × Represents k (owed_by s c call)
DecidesAs s c call (Reply.Busy d) b k = (b ≡ true) × Represents k (owed_by s c call)
DecidesAs s c call Reply.CallsSpent b k = (b ≡ false) × Represents k s
DecidesAs s c call r b k = Decides b (MayRefuse s c call r) × Represents k s
