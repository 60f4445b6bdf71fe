-- One more call, and the end.
use Rattle.std.proofs.Common.{◌≡◌, ℕ, zero, suc, ◌<◌, true, false, List, [], ◌∷◌, ◌++◌, length, take, get_or, Ok, sym, ap, ◌∙◌, refl, arith}
use Rattle.script_reader.specs.{is_whole, Meaning, meaning_of, meaning_at}
use Rattle.ends_reader.specs.Inputs.{Input_draft, ask_lists, asks_of, with_ask, is_script, input_in, input_at}
use Rattle.{std.proofs.Common.slice_set, std.proofs.Common.slice_index_or, std.specs.Global.Vec, std.proofs.lemmas.List.map-set}
use Rattle.{async_ends.specs.declared.asks.EndAsk.EndAsk, script_tokens.specs.declared.scanning.Ending.Ending}
use Rattle.{script_tokens.specs.declared.scanning.Ending.TheVariants.Whole, line_reader.specs.Lines.and_then}
use Rattle.{line_reader.specs.Lines.whole_lines, line_reader.proofs.Judged.read_is}

get_or_lists : (asks : List (Vec EndAsk)) (i : ℕ) (d : Vec EndAsk) → i < length asks
    → slice_index_or (ask_lists asks) i [] ≡ (get_or asks i d).items
get_or_lists [] i d lt = absurd (omega arith)
get_or_lists (v ∷ vs) zero d lt = refl
get_or_lists (v ∷ vs) (suc i) d lt = get_or_lists vs i d (omega arith)

pub ask_added : (asks : List (Vec EndAsk)) (i core : ℕ) (ask : EndAsk) (old new : Vec EndAsk) → i < length asks → i ≡ core
    → old ≡ get_or asks i old → new.items ≡ old.items ++ ask ∷ []
    → ask_lists (slice_set asks i new) ≡ with_ask (ask_lists asks) core ask
ask_added asks i core ask old new lt at is more =
    let had : asks_of (ask_lists asks) i ≡ old.items = get_or_lists asks i old lt ∙ ap (λ v. v.items) (sym is) in
    let same : ask_lists (slice_set asks i new) ≡ slice_set (ask_lists asks) i new.items = map-set (λ v. v.items) asks i new in
    let step : with_ask (ask_lists asks) i ask ≡ slice_set (ask_lists asks) i new.items =
    ap (λ l. slice_set (ask_lists asks) i (l ++ ask ∷ [])) had ∙ ap (slice_set (ask_lists asks) i) (sym more) in
    same ∙ sym step ∙ ap (λ k. with_ask (ask_lists asks) k ask) at

-- what lines that have come to the line `ends` say
pub ended : (d : Input_draft) (ending : Ending) (lines : ℕ) (m : Meaning) (asks : List (List EndAsk)) → whole_lines ending ≡ Ok lines
    → is_script d.section ≡ false → is_whole d.script.head.section ≡ true → meaning_at d.script (Whole lines) ≡ Ok m
    → asks ≡ take d.script.head.cores d.asks → input_at d ending ≡ Ok (record { script = m; asks = asks })
ended d ending lines m asks end part whole is same =
    let said : meaning_of d.script ≡ m = read_is (meaning_of d.script) m (rw whole at is) in
    ap (λ r. and_then r (input_in d)) end ∙ rw part (λ i. Ok (record { script = said i; asks = sym same i }))
