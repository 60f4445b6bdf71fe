use Rattle.std.specs.Prelude.{◌≡◌, List, length, take}
use Rattle.spk_nums.specs.Listed.{IsListed, padded, padded-listed, length-listed}
use Rattle.spk_nums.specs.declared.translations.Translation.{Translation}
use Rattle.spk_nums.specs.declared.translations.Translations.TheInside.{Inside}

-- an unused cell
abbrev pub blank_translation : Translation
blank_translation = record { pages = 0; page = 0; frame = 0; flags = record { 0 = 0 } }

-- the translations that the cells hold
abbrev pub translations_of : Inside → List Translation
translations_of a = take a.len a.cells

abbrev pub AreTranslations : Inside → Type 0
AreTranslations a = IsListed blank_translation 64 a.len a.cells

-- the cells that hold a list of translations
abbrev pub translation_cells : List Translation → Inside
translation_cells xs = record { cells = padded blank_translation 64 xs; len = length xs }

pub translation_cells-back : (a : Inside) → AreTranslations a → translation_cells (translations_of a) ≡ a
translation_cells-back a h =
    let same : padded blank_translation 64 (take a.len a.cells) ≡ a.cells = padded-listed blank_translation 64 a.len a.cells h in
    let n : length (take a.len a.cells) ≡ a.len = length-listed blank_translation 64 a.len a.cells h in
    λ i. record { cells = same i; len = n i }
