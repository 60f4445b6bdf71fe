-- The lines of the setup, and the `core` and `order` lines, are read as what was printed.
use Rattle.std.proofs.Common.{◌≡◌, ℕ, ◌+◌, ◌*◌, ◌<◌, ◌≤◌, ◌^◌, ◌⊎◌, List, [], ◌∷◌, Ok, refl, arith, inl, inr, codes, decimal}
use Rattle.script_reader.specs.{no_head, granted, line_of, line_by, core_line, order_line}
use Rattle.script_reader.specs.line_reader.specs.{number_of, is_word, word_at, number_at, end_at}
use Rattle.script_reader.specs.call_reader.specs.{first_word, most_calls}
use Rattle.spk_nums.specs.{declared.grants.Grant.Grant, Setting.GrantFits}
use Rattle.script_reader.specs.{declared.head.Section.Section, declared.head.Head.Head, Heads.speck_line, Heads.cores_line}
use Rattle.script_reader.specs.{Heads.frames_line, Heads.grant_line, Heads.calls_line, Heads.epochs_line, declared.head.Line.Line}
use Rattle.script_printer.proofs.{NumberWords.number_back, NumberWords.core_back, KnownWords.most_machine}

-- the words of the lines
abbrev pub speck_words : ℕ → List (List ℕ)
speck_words n = codes "speck" ∷ decimal n ∷ []

abbrev pub cores_words : ℕ → List (List ℕ)
cores_words n = codes "cores" ∷ decimal n ∷ []

abbrev pub frames_words : ℕ → List (List ℕ)
frames_words n = codes "frames" ∷ decimal n ∷ []

abbrev pub grant_words : Grant → List (List ℕ)
grant_words g = codes "grant" ∷ decimal g.budget ∷ decimal g.sched ∷ decimal g.quality ∷ []

abbrev pub calls_words : ℕ → List (List ℕ)
calls_words n = codes "calls" ∷ decimal n ∷ []

abbrev pub epochs_words : ℕ → List (List ℕ)
epochs_words n = codes "epochs" ∷ decimal n ∷ []

abbrev pub core_words : ℕ → List (List ℕ)
core_words n = codes "core" ∷ decimal n ∷ []

abbrev pub order_words : List (List ℕ)
order_words = codes "order" ∷ []

-- between the limits and the order: after the limits, or in the list of a core
abbrev pub IsListing : Section → Type 0
IsListing s = (s ≡ Section.Lists) ⊎ (s ≡ Section.List)

pub speck_back : (n : ℕ) → 1 ≤ n → n ≤ 3
    → line_of no_head (speck_words n) ≡ Ok (Line.Head (record no_head { section = Section.Cores; version = n; calls = most_calls n }))
unfolding line_of line_by speck_line end_at first_word is_word
speck_back n low high = rw (number_back (speck_words n) 1 1 3 n refl low high (omega arith)) refl

pub cores_back : (h : Head) (n : ℕ) → h.section ≡ Section.Cores → 1 ≤ n → n ≤ 8
    → line_of h (cores_words n) ≡ Ok (Line.Head (record h { section = Section.Frames; cores = n }))
unfolding line_of line_by cores_line end_at first_word is_word
cores_back h n e low high = rw (e, number_back (cores_words n) 1 1 8 n refl low high (omega arith)) refl

pub frames_back : (h : Head) (n : ℕ) → h.section ≡ Section.Frames → 4 + 2 * h.cores ≤ n → n ≤ 512
    → line_of h (frames_words n) ≡ Ok (Line.Head (record h { section = Section.Grants; frames = n }))
unfolding line_of line_by frames_line end_at first_word is_word
frames_back h n e low high = rw (e, number_back (frames_words n) 1 (4 + 2 * h.cores) 512 n refl low high (omega arith)) refl

pub grant_back : (h : Head) (g : Grant) → h.section ≡ Section.Grants
    → GrantFits g → line_of h (grant_words g) ≡ Ok (Line.Head (granted h g))
unfolding line_of line_by grant_line end_at first_word is_word
grant_back h g e fits =
    let budget : g.budget ≤ 500000000 = fits.0 in
    let sched : g.sched < 64 = fits.1 in
    let quality : g.quality < 2 ^ 24 = fits.3 in
    rw (
      e,
      number_back (grant_words g) 1 0 500000000 g.budget refl (omega arith) budget (omega arith),
      number_back (grant_words g) 2 0 63 g.sched refl (omega arith) (omega arith) (omega arith),
      number_back (grant_words g) 3 1 16777215 g.quality refl fits.2 (omega arith) (omega arith),
    ) refl

pub calls_back : (h : Head) (n : ℕ) → h.section ≡ Section.Calls → n ≤ most_calls h.version
    → line_of h (calls_words n) ≡ Ok (Line.Head (record h { section = Section.Epochs; calls = n }))
unfolding line_of line_by calls_line end_at first_word is_word
calls_back h n e high =
    let most = most_machine h.version in
    rw (e, number_back (calls_words n) 1 0 (most_calls h.version) n refl (omega arith) high (omega arith)) refl

pub epochs_back : (h : Head) (n : ℕ) → h.section ≡ Section.Epochs → 1 ≤ n → n ≤ 65535
    → line_of h (epochs_words n) ≡ Ok (Line.Head (record h { section = Section.Lists; epochs = n }))
unfolding line_of line_by epochs_line end_at first_word is_word
epochs_back h n e low high = rw (e, number_back (epochs_words n) 1 1 65535 n refl low high (omega arith)) refl

pub core_line_back : (h : Head) (n : ℕ) → IsListing h.section → n < h.cores → h.cores ≤ 8
    → line_of h (core_words n) ≡ Ok (Line.Head (record h { section = Section.List; core = n }))
unfolding line_of line_by core_line end_at first_word is_word
core_line_back h n (inl e) below fits = rw (e, core_back (core_words n) 1 h.cores n refl below fits) refl
core_line_back h n (inr e) below fits = rw (e, core_back (core_words n) 1 h.cores n refl below fits) refl

pub order_back : (h : Head) → IsListing h.section → line_of h order_words ≡ Ok (Line.Head (record h { section = Section.Order }))
unfolding line_of line_by order_line end_at first_word is_word
order_back h (inl e) = rw e refl
order_back h (inr e) = rw e refl
