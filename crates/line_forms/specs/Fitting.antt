-- Whether a word fits its place.
use Rattle.std.specs.Prelude.{ℕ, ◌-◌, ◌==◌, ◌||◌, List, length, take, slice_get, Bool, false, is_some, Option, Some, None, codes}
use Rattle.line_forms.specs.{declared.context.Context.Context, declared.slots.Slot.Slot, Slots.is_between, Slots.is_below, Slots.fits_end}
use Rattle.line_forms.specs.{Calls.verb_of, Replies.is_reply_name, Replies.is_value, Firsts.first_fits, Lines.slot_at}
use Rattle.{std.specs.Prelude.if◌then◌else◌, line_reader.specs.Arguments.is_word}

-- a sign of an item: `<`, `!` or `.`
abbrev pub is_sign : ℕ → Bool
is_sign b = b == 60 || (b == 33 || b == 46)

abbrev pub unsigned_by : List ℕ → Option ℕ → List ℕ
unsigned_by word None = word
unsigned_by word (Some b) = if is_sign b then take (length word - 1) word else word

-- the digits of an item, without its sign
abbrev pub unsigned : List ℕ → List ℕ
unsigned word = unsigned_by word (slice_get word (length word - 1))

-- an item of a core below that number
abbrev pub is_item : List ℕ → ℕ → Bool
is_item word cores = is_below (unsigned word) cores

-- a kind of frame
unfoldable pub is_frame_kind : List ℕ → Bool
is_frame_kind word = is_word word (codes "untyped") || (is_word word (codes "user") || is_word word (codes "kernel"))

-- what a `make` makes
unfoldable pub is_object : List ℕ → Bool
is_object word = is_word word (codes "table") || (is_word word (codes "leaf") || (is_word word (codes "pages")
    || (is_word word (codes "pleaf") || (is_word word (codes "thread") || (is_word word (codes "tcap")
    || is_word word (codes "comp"))))))

-- the word fits
abbrev pub fits_word : Context → List (List ℕ) → Slot → List ℕ → Bool
fits_word context words Slot.First word = first_fits context words word
fits_word context words (Slot.Number least most) word = is_between word least most
fits_word context words (Slot.MayNumber least most) word = is_between word least most
fits_word context words (Slot.Core cores) word = is_below word cores
fits_word context words Slot.FrameKind word = is_frame_kind word
fits_word context words Slot.Object word = is_object word
fits_word context words Slot.Verb word = is_some (verb_of context.version word)
fits_word context words (Slot.Item cores) word = is_item word cores
fits_word context words Slot.ReplyName word = is_reply_name word
fits_word context words Slot.Value word = is_value word
fits_word context words Slot.Rights word = is_word word (codes "rights")
fits_word context words Slot.Equals word = is_word word (codes "=")
fits_word context words Slot.End word = false

abbrev pub fits_by : Context → List (List ℕ) → Slot → Option (List ℕ) → Bool
fits_by context words slot None = fits_end slot
fits_by context words slot (Some word) = fits_word context words slot word

-- what stands at a place of a line fits there
abbrev pub fits : Context → List (List ℕ) → ℕ → Bool
fits context words place = fits_by context words (slot_at context words place) (slice_get words place)
