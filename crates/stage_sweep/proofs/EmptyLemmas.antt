-- An entry is looked at as a look-up of it does.
use Rattle.std.proofs.Common.{◌≡◌, ℕ, Option, Some, None, refl}
use Rattle.stage_sweep.specs.Emptiness.{entry_refuses, refusal_by}
use Rattle.{stage_look.specs.entry_words.specs.declared.entry.Entry.Entry, stage_look.specs.Lookup.place_end}

-- what a look-up of an entry is refused with, or finds, is what the entry is refused with
pub looked : (node at word : ℕ) (o : Option Entry) → refusal_by (place_end node at word o) ≡ entry_refuses o
looked node at word None = refl
looked node at word (Some Entry.Free) = refl
looked node at word (Some (Entry.Held k)) = refl
looked node at word (Some (Entry.Closing by)) = refl
looked node at word (Some (Entry.Quiescing stamp)) = refl
