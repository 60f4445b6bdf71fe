-- The word of a link to a frame of the machine shows that link.
use Rattle.std.proofs.Common.{◌≡◌, ℕ, ◌+◌, ◌/◌, ◌%◌, ◌<◌, ◌≤◌, Some, refl, arith, le-leb}
use Rattle.{entry_words.specs.EntryFits, entry_words.specs.word_of_entry, entry_words.specs.entry_of_word}
use Rattle.{word_map.specs.spk_nums.specs.Capability.cap_of}
use Rattle.{word_map.specs.spk_nums.specs.declared.kinds.Kind.TheVariants.Link, entry_words.specs.declared.entry.Entry.TheVariants.Held}
use Rattle.{entry_words.proofs.Spelling.entry_reads, stage_look.specs.Shown.shown_in}

-- its word has the number of its kind, and its leaf above that
word_of_link : (leaf word : ℕ) → word % 64 ≡ 37 → leaf ≡ word / 64 → word_of_entry (Held (cap_of Link leaf 0)) ≡ word
unfolding word_of_entry
word_of_link leaf word low is = omega arith

link_fits : (leaf : ℕ) → leaf < 512 → EntryFits (Held (cap_of Link leaf 0))
link_fits leaf below = (below, omega arith, omega arith, omega arith, omega arith)

pub link_shown : (frames word leaf : ℕ) → frames ≤ 512 → word % 64 ≡ 37 → leaf ≡ word / 64 → leaf < frames
    → shown_in frames word ≡ Some (Held (cap_of Link leaf 0))
link_shown frames word leaf few low is below =
    let fits : EntryFits (Held (cap_of Link leaf 0)) = link_fits leaf (omega arith) in
    let read : entry_of_word word ≡ Some (Held (cap_of Link leaf 0)) =
    entry_reads (entry_of_word word) word refl (Held (cap_of Link leaf 0)) fits (word_of_link leaf word low is) in
    rw (read, le-leb (leaf + 1) frames (omega arith))
