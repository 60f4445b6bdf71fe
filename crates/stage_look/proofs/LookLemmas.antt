-- A look-up stays on the frames of the machine, whatever words it finds.
use Rattle.std.proofs.Common.{◌≡◌, ℕ, ◌%◌, ◌<◌, ◌≤◌, Bool, true, false, nat_le, Option, Some, None, IfSome, refl, arith, leb-true}
use Rattle.stage_look.specs.{end_of_frames, CapNames, EntryNames, held_if, entry_within, shown_in, is_link, LookFits, look_move}
use Rattle.stage_look.specs.{end_by_link, place_end, look_end, after_link, look_after}
use Rattle.word_map.specs.{Shape, IsIn, word_of}
use Rattle.word_map.specs.spk_nums.specs.{Capability.Capability, declared.kinds.Kind.Kind, declared.kinds.Kind.TheVariants.Link}
use Rattle.entry_words.specs.declared.entry.Entry.TheVariants.{Free, Held, Closing, Quiescing}
use Rattle.stage_look.specs.{Lookup.EndFits, declared.look.Look.Look, declared.look.Look.TheVariants.AtRoot}
use Rattle.stage_look.specs.{declared.look.Look.TheVariants.AtLeaf, declared.look.Look.TheVariants.AtEntry}
use Rattle.{entry_words.specs.EntryWord.entry_of_word, entry_words.specs.declared.entry.Entry.Entry}

held_names : (within : Bool) (frames : ℕ) (k : Capability)
    → within ≡ nat_le (end_of_frames k.kind k.frame k.arg) frames → IfSome (held_if within k) (EntryNames frames)
held_names true frames k h = leb-true (end_of_frames k.kind k.frame k.arg) frames (cc)
held_names false frames k h = tt

-- what is read from a word names no frame past the machine's
pub names_within : (frames : ℕ) (o : Option Entry) → IfSome (entry_within frames o) (EntryNames frames)
names_within frames None = tt
names_within frames (Some Free) = tt
names_within frames (Some (Held k)) = held_names _ frames k refl
names_within frames (Some (Closing by)) = tt
names_within frames (Some (Quiescing stamp)) = tt

pub shown_names : (frames word : ℕ) → IfSome (shown_in frames word) (EntryNames frames)
shown_names frames word = names_within frames (entry_of_word word)

-- a link names a frame of the machine
pub leaf_below : (frames : ℕ) (kind : Kind) (frame arg : ℕ) → is_link kind ≡ true → end_of_frames kind frame arg ≤ frames → frame < frames
leaf_below frames Link frame arg h names = omega arith
leaf_below frames kind frame arg h names = absurd (cc)

after_link_fits : (s : Shape) (linked : Bool) (root number : ℕ) (k : Capability) → linked ≡ is_link k.kind
    → CapNames s.frames k → LookFits s (AtRoot root number) → LookFits s (after_link linked root number k.frame)
after_link_fits s true root number k is names h = leaf_below s.frames k.kind k.frame k.arg (cc) names
after_link_fits s false root number k is names h = h

-- it names frames of the machine after each step
pub after_fits : (s : Shape) (look : Look) (shown : Option Entry)
    → IfSome shown (EntryNames s.frames) → LookFits s look → LookFits s (look_after look shown)
after_fits s (AtRoot root number) None names h = h
after_fits s (AtRoot root number) (Some Free) names h = h
after_fits s (AtRoot root number) (Some (Held k)) names h = after_link_fits s _ root number k refl names h
after_fits s (AtRoot root number) (Some (Closing by)) names h = h
after_fits s (AtRoot root number) (Some (Quiescing stamp)) names h = h
after_fits s (AtLeaf leaf number) shown names h = h
after_fits s (AtEntry root entry) shown names h = h

link_end_fits : (s : Shape) (linked : Bool) → EndFits s (end_by_link linked)
link_end_fits s true = tt
link_end_fits s false = tt

place_end_fits : (s : Shape) (node entry word : ℕ) (shown : Option Entry) → IfSome shown (EntryNames s.frames)
    → node < s.frames → entry < 64 → EndFits s (place_end node entry word shown)
place_end_fits s node entry word None names n e = tt
place_end_fits s node entry word (Some Free) names n e = record { node = n; entry = e; names = tt }
place_end_fits s node entry word (Some (Held k)) names n e = record { node = n; entry = e; names = names }
place_end_fits s node entry word (Some (Closing by)) names n e = tt
place_end_fits s node entry word (Some (Quiescing stamp)) names n e = record { node = n; entry = e; names = tt }

-- the place that it finds is one of the machine
pub end_fits : (s : Shape) (look : Look) (word : ℕ) (shown : Option Entry)
    → IfSome shown (EntryNames s.frames) → LookFits s look → EndFits s (look_end look word shown)
end_fits s (AtRoot root number) word None names h = tt
end_fits s (AtRoot root number) word (Some Free) names h = tt
end_fits s (AtRoot root number) word (Some (Held k)) names h = link_end_fits s (is_link k.kind)
end_fits s (AtRoot root number) word (Some (Closing by)) names h = tt
end_fits s (AtRoot root number) word (Some (Quiescing stamp)) names h = tt
end_fits s (AtLeaf leaf number) word shown names h = place_end_fits s leaf (number % 64) word shown names h (omega arith)
end_fits s (AtEntry root entry) word shown names h = place_end_fits s root entry word shown names h.0 h.1

-- its next step is on a word of the machine
pub look_is_in : (s : Shape) (look : Look) → LookFits s look → IsIn s (word_of (look_move look))
look_is_in s (AtRoot root number) h = (h.0, omega arith)
look_is_in s (AtLeaf leaf number) h = (h, omega arith)
look_is_in s (AtEntry root entry) h = h
