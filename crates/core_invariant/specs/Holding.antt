-- What cores hold of the words. A core's mark keeps a word for it until it gives the word back; what the word will then be is
-- its settled value, and all that is said of words is said of settled ones. So a step that only marks a word, or gives it
-- back, changes nothing that is said. A core may also keep a word that carries no mark, where it alone may store it: this settles to what
-- the core has still to store there.
use Rattle.std.specs.Prelude.{◌≡◌, ◌∷◌, if◌then◌else◌, ◌==◌, ◌&&◌}
use Rattle.act_fits.specs.act_states.specs.{ℕ, zero, suc, Bool, true, false, List, [], Option, Some, None, leb as nat_le, Setting}
use Rattle.act_fits.specs.act_states.specs.{word_of_count, Word, EntryAt, FrameAt, CountAt, CoreAt, FlushAt, LiveAt, ClockAt, same_word}
use Rattle.act_fits.specs.act_states.specs.{word_of_entry, Close, AtCompare, AtDraw, AtStore}
use Rattle.{act_fits.specs.act_states.specs.Acquired, act_fits.specs.act_states.specs.commit_of, kernel_history.specs.marked_by}
use Rattle.{kernel_history.specs.last_left, kernel_history.specs.entry_words.specs.declared.entry.Entry.TheVariants.Quiescing}
use Rattle.{act_fits.specs.stage_pins.specs.Commit.settled_word, kernel_history.specs.Trace.Trace}

-- What a core holds: the words that carry its mark, and the unmarked word that each of these stands for; a word that carries no mark,
-- and is still to be stored, stands for what will be; and the words of frames that it keeps without a mark, each with the value that it
-- settles to.
pub record Holding : Type 0 where
  pub marks : Word → Bool
  pub stands : Word → ℕ
  pub bare : ℕ → ℕ → Option ℕ

-- No word is held.
abbrev pub nothing : Holding
nothing = record { marks = λ w. false; stands = λ w. 0; bare = λ f i. None }

-- One word more is held, and stands for this.
abbrev pub keeps : Word → ℕ → Holding → Holding
keeps w x h = record {
  marks = λ u. if same_word u w then true else h.marks u;
  stands = λ u. if same_word u w then x else h.stands u;
  bare = h.bare;
}

-- One word more is kept without a mark, word i of frame f, and settles to this.
abbrev pub keeps_bare : ℕ → ℕ → ℕ → Holding → Holding
keeps_bare f i x h = record {
  marks = h.marks;
  stands = h.stands;
  bare = λ g j. if g == f && j == i then Some x else h.bare g j;
}

-- The words of a list in frame f are kept without a mark, from this one to the eighth, and settle to these.
abbrev pub keeps_list : ℕ → ℕ → (ℕ → ℕ) → Holding → Holding
keeps_list f from words h = record {
  marks = h.marks;
  stands = h.stands;
  bare = λ g j. if g == f && (nat_le from j && nat_le j 8) then Some (words j) else h.bare g j;
}

-- One word more is still to be stored, without a mark.
abbrev pub will_store : Word → ℕ → Holding → Holding
will_store w x h = record { marks = h.marks; stands = λ u. if same_word u w then x else h.stands u; bare = h.bare }

-- The word of a count that a call has acquired.
abbrev pub count_of : Acquired → Word
count_of x = CountAt x.pin.frame x.pin.core

-- What it stands for: the word that its commit stores, where the call is not carried out, or is, and has drawn this stamp or none.
abbrev pub committed : Option (Option ℕ) → Acquired → ℕ
committed None x = word_of_count (settled_word (commit_of false None x))
committed (Some drawn) x = word_of_count (settled_word (commit_of true drawn x))

-- The counts that a call has acquired are held.
abbrev pub holds_counts : Option (Option ℕ) → List Acquired → Holding
holds_counts fate [] = nothing
holds_counts fate (x ∷ xs) = keeps (count_of x) (committed fate x) (holds_counts fate xs)

-- An entry that a call has closed stands, once the stamp is drawn, for the entry that quiesces since the stamp.
abbrev pub holds_drawn : Close → Holding → Holding
holds_drawn (AtCompare node entry word core) h = h
holds_drawn (AtDraw node entry) h = h
holds_drawn (AtStore node entry stamp) h = keeps (EntryAt node entry) (word_of_entry (Quiescing stamp)) h

-- No count is acquired twice.
abbrev pub AreApart : List Acquired → Type 0
AreApart [] = Unit {0}
AreApart (x ∷ xs) = ((holds_counts None xs).marks (count_of x) ≡ false) × AreApart xs

-- A word as it will be when the core that keeps it without a mark has stored it, among the cores below n; else as it is.
abbrev pub kept_or : Option ℕ → ℕ → ℕ
kept_or None x = x
kept_or (Some v) x = v

unfoldable pub kept_below : ℕ → (ℕ → Holding) → ℕ → ℕ → ℕ → ℕ
kept_below zero held f i x = x
kept_below (suc n) held f i x = kept_or ((held n).bare f i) (kept_below n held f i x)

-- There are at most 8 cores, and none but words of frames are kept without a mark.
abbrev pub bare_value : (ℕ → Holding) → Word → ℕ → ℕ
bare_value held (EntryAt f i) x = kept_below 8 held f i x
bare_value held (FrameAt f) x = x
bare_value held (CountAt f c) x = x
bare_value held (CoreAt c) x = x
bare_value held (FlushAt c) x = x
bare_value held (LiveAt l) x = x
bare_value held ClockAt x = x

-- A word as it will be when the core that keeps it gives it back.
abbrev pub settled_by : Option ℕ → (ℕ → Holding) → Word → ℕ → ℕ
settled_by None held w x = bare_value held w x
settled_by (Some d) held w x = (held d).stands w

-- The settled value of a word, where the cores hold this.
abbrev pub settled : Setting → (ℕ → Holding) → Trace → Word → ℕ
settled setup held t w = settled_by (marked_by setup t w) held w (last_left setup t w)

-- A word carries the mark of core d exactly where d holds it.
pub record MarkIs (setup : Setting) (held : ℕ → Holding) (t : Trace) (w : Word) (d : ℕ) : Type 0 where
  pub owned : marked_by setup t w ≡ Some d → (held d).marks w ≡ true
  pub kept : (held d).marks w ≡ true → marked_by setup t w ≡ Some d
