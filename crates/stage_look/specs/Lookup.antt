-- The steps of a look-up, and what each takes from the word that it finds.
use Rattle.std.specs.Prelude.{ℕ, ◌/◌, ◌%◌, ◌<◌, ◌≤◌, ◌==◌, ◌&&◌, nat_lt, is_some, Bool, false, Option, Some, None, if◌then◌else◌}
use Rattle.word_map.specs.{EntryAt, Shape, Move, LoadOf}
use Rattle.word_map.specs.spk_nums.specs.declared.steps.StageEnd.TheVariants.{Going, Decided, Done, Refuse}
use Rattle.entry_words.specs.declared.entry.Entry.TheVariants.{Free, Held, Closing, Quiescing}
use Rattle.stage_look.specs.{Shown.EntryNames, Shown.is_link, declared.look.Look.Look, declared.look.Look.TheVariants.AtRoot}
use Rattle.stage_look.specs.{declared.look.Look.TheVariants.AtLeaf, declared.look.Look.TheVariants.AtEntry, declared.look.Found.Found}
use Rattle.{word_map.specs.spk_nums.specs.declared.steps.StageEnd.StageEnd, word_map.specs.spk_nums.specs.declared.replies.Reply.Reply}
use Rattle.{entry_words.specs.declared.entry.Entry.Entry}

-- a look-up names a frame of the machine; its number has a root entry, its root entry is one of the node's
abbrev pub LookFits : Shape → Look → Type 0
LookFits s (AtRoot root number) = (root < s.frames) × (number ≤ 4095)
LookFits s (AtLeaf leaf number) = leaf < s.frames
LookFits s (AtEntry root entry) = (root < s.frames) × (entry < 64)

-- the next step loads the root entry of the number, then the entry of the leaf
abbrev pub look_move : Look → Move
look_move (AtRoot root number) = LoadOf (EntryAt root (number / 64))
look_move (AtLeaf leaf number) = LoadOf (EntryAt leaf (number % 64))
look_move (AtEntry root entry) = LoadOf (EntryAt root entry)

-- after a root entry that holds a link the leaf is loaded; one that holds another capability leads to no slot
abbrev pub end_by_link : Bool → StageEnd Found
end_by_link linked = if linked then Going else Refuse Reply.NoSlot

-- what the word of a root entry leads to
abbrev pub root_end : Option Entry → StageEnd Found
root_end None = Refuse Reply.Raced
root_end (Some Free) = Refuse Reply.NoSlot
root_end (Some (Held k)) = end_by_link (is_link k.kind)
root_end (Some (Closing by)) = Refuse (Reply.Busy by)
root_end (Some (Quiescing stamp)) = Refuse Reply.NoSlot

-- the place that was looked for, and what its word shows
abbrev pub found_at : ℕ → ℕ → ℕ → Entry → Found
found_at node entry word value = record { node = node; entry = entry; word = word; value = value }

-- what the word of the place that is looked for leads to
abbrev pub place_end : ℕ → ℕ → ℕ → Option Entry → StageEnd Found
place_end node entry word None = Refuse Reply.Raced
place_end node entry word (Some Free) = Done (found_at node entry word Free)
place_end node entry word (Some (Held k)) = Done (found_at node entry word (Held k))
place_end node entry word (Some (Closing by)) = Refuse (Reply.Busy by)
place_end node entry word (Some (Quiescing stamp)) = Done (found_at node entry word (Quiescing stamp))

-- what a step leads to that finds this word, which shows this
abbrev pub look_end : Look → ℕ → Option Entry → StageEnd Found
look_end (AtRoot root number) word shown = root_end shown
look_end (AtLeaf leaf number) word shown = place_end leaf (number % 64) word shown
look_end (AtEntry root entry) word shown = place_end root entry word shown

-- where a look-up stands after a root entry that does or does not hold the link to this leaf
abbrev pub after_link : Bool → ℕ → ℕ → ℕ → Look
after_link linked root number leaf = if linked then AtLeaf leaf number else AtRoot root number

-- where it stands after a root entry that shows this
abbrev pub root_after : ℕ → ℕ → Option Entry → Look
root_after root number None = AtRoot root number
root_after root number (Some Free) = AtRoot root number
root_after root number (Some (Held k)) = after_link (is_link k.kind) root number k.frame
root_after root number (Some (Closing by)) = AtRoot root number
root_after root number (Some (Quiescing stamp)) = AtRoot root number

-- where a look-up stands after a step on a word that shows this
abbrev pub look_after : Look → Option Entry → Look
look_after (AtRoot root number) shown = root_after root number shown
look_after (AtLeaf leaf number) shown = AtLeaf leaf number
look_after (AtEntry root entry) shown = AtEntry root entry

-- the leaf of a link to a frame of a machine of so many, where the word is that of one: its low bits are those of a link, and above them it
-- has its leaf alone
abbrev pub leaf_of_word : ℕ → ℕ → Option ℕ
leaf_of_word frames word = if (word % 64 == 37) && nat_lt (word / 64) frames then Some (word / 64) else None

-- whether a look-up has found the word of a link in a root
abbrev pub is_followed : Look → ℕ → ℕ → Bool
is_followed (AtRoot root number) frames word = is_some (leaf_of_word frames word)
is_followed (AtLeaf leaf number) frames word = false
is_followed (AtEntry root entry) frames word = false

-- a place that was found is one of a node of the machine, and names no frame past the machine's
pub record FoundFits (s : Shape) (f : Found) : Type 0 where
  pub node : f.node < s.frames
  pub entry : f.entry < 64
  pub names : EntryNames s.frames f.value

-- what a step led to has such a place, if it has one
abbrev pub EndFits : Shape → StageEnd Found → Type 0
EndFits s Going = Unit {0}
EndFits s (Decided r) = Unit {0}
EndFits s (Done f) = FoundFits s f
EndFits s (Refuse r) = Unit {0}
