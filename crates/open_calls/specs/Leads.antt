-- What the names of a call lead to.
use Rattle.std.specs.Prelude.{◌++◌}
use Rattle.plain_kernel.specs.seq_state.specs.kernel_rules.specs.{ℕ, List, [], Option, Some, None, codes, decimal, Capability, reply_text}
use Rattle.plain_kernel.specs.seq_state.specs.kernel_rules.specs.{Call, any}
use Rattle.plain_kernel.specs.seq_state.specs.kernel_rules.specs.{to_look, Judged, Refused, Found, named}
use Rattle.plain_kernel.specs.call_plans.specs.{at_place, plan_for}
use Rattle.plain_kernel.specs.call_plans.specs.declared.plans.Nth.TheVariants.{First, Second, Third, Fourth}
use Rattle.{spk_nums.specs.Texts.cap_text, plain_kernel.specs.seq_state.specs.kernel_rules.specs.State.State}
use Rattle.{plain_kernel.specs.call_plans.specs.declared.plans.Name.Name}

-- the capability to which a number leads core c, of whichever kind and with whichever rights: what a `look` of it would find
abbrev pub lead : State → ℕ → ℕ → Judged Capability
lead s c n = named s c n (to_look any)

-- what was found, or why nothing was: `no-slot` or `empty`
abbrev pub lead_text : Judged Capability → List ℕ
lead_text (Found k) = cap_text k
lead_text (Refused r) = codes "nothing: " ++ reply_text r

-- the line that tells it
abbrev pub lead_line : ℕ → Judged Capability → List ℕ
lead_line n found = decimal n ++ codes " leads to " ++ lead_text found ++ codes "\n"

-- that of a name, if there is one
abbrev pub some_name : State → ℕ → Option Name → List ℕ
some_name s c None = []
some_name s c (Some name) = lead_line name.number (lead s c name.number)

-- a line for each name of a call, in their order
abbrev pub names_text : State → ℕ → Call → List ℕ
names_text s c call = some_name s c (at_place (plan_for call).names First) ++ some_name s c (at_place (plan_for call).names Second)
    ++ some_name s c (at_place (plan_for call).names Third) ++ some_name s c (at_place (plan_for call).names Fourth)
