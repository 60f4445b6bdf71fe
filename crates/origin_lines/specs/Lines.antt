-- The lines that tell where each capability came from.
use Rattle.confinement.specs.origin_rules.specs as low
use Rattle.std.specs.Prelude.{◌≡◌, ◌++◌}
use Rattle.table_lines.specs.kernel_history.specs.{ℕ, List, [], codes, decimal, Option, Some, None, flat_map, Capability}
use Rattle.table_lines.specs.kernel_history.specs.{Setting, IsSetting, Event, IsRun, lines_below}
use low.declared.chains.Step.TheVariants.{Copied, Made, Gated, Parted}
use low.{ChainValue, chain_of, declared.chains.Step.Step, declared.chains.ChainLink.ChainLink}
use Rattle.{spk_nums.specs.Texts.cap_text, confinement.specs.Known.Known, confinement.specs.Known.StandsFor}

-- How a capability was put.
abbrev pub step_word : Step → List ℕ
step_word Copied = codes "copy"
step_word Made = codes "make"
step_word Gated = codes "gate"
step_word Parted = codes "part"

-- A decision with how it put.
abbrev pub link_words : ℕ → List ℕ → List ℕ
link_words decision word = codes " < " ++ decimal decision ++ codes " " ++ word

abbrev pub link_text : ChainLink → List ℕ
link_text x = link_words x.decision (step_word x.what)

-- A place and what it holds.
abbrev pub place_text : ℕ → ℕ → Capability → List ℕ
place_text f i k = decimal f ++ codes " " ++ decimal i ++ codes " " ++ cap_text k

-- The index of the capability of the start.
abbrev pub start_text : ℕ → List ℕ
start_text i = codes " < start " ++ decimal i ++ codes "\n"

-- The line of a place that holds a capability: the place, the capability, each decision of its chain, the newest first, and the index
-- of the capability of the start. A place that holds none has no line.
abbrev pub chain_line : ℕ → ℕ → Option ChainValue → List ℕ
chain_line f i None = []
chain_line f i (Some x) = place_text f i x.cap ++ (flat_map link_text x.links ++ start_text x.start)

-- The lines of the places of a node, and of the nodes below n.
abbrev pub node_lines : (ℕ → ℕ → Option ChainValue) → ℕ → List ℕ
node_lines chain f = lines_below (λ i. chain_line f i (chain f i)) 64

abbrev pub lines_known : (ℕ → ℕ → Option ChainValue) → ℕ → List ℕ
lines_known chain n = lines_below (node_lines chain) n

-- The lines of the origins after the events of a run.
abbrev pub origins_text : Setting → List Event → List ℕ
origins_text setting events = lines_known (chain_of setting events) setting.frames

-- A text goes on by them, for each run whose events were taken.
abbrev pub TellsOrigins : Known → List ℕ → List ℕ → Type 0
TellsOrigins o old new = (setting : Setting) → IsSetting setting → (events : List Event) → IsRun setting events
    → StandsFor setting events o → new ≡ old ++ origins_text setting events
