-- What the word of a place of a node is: it carries the mark of a core that is in a call, or says what the place is.
use Rattle.kept_facts.proofs.{◌≡◌, ◌⊎◌, inl, inr, ℕ, ◌<◌, Option, Some, None, refl, sym, ◌∙◌, ap, subst, IsTrue, false≢true, Setting, Entry}
use Rattle.kept_facts.proofs.{entry_of_word, EntryAt, Place, Frame, Kernel, Table, Leaf, Pages, Pleaf, PlaceOf, is_node, entry_mark}
use Rattle.kept_facts.proofs.{mark_in_frame, Trace, state_after, last_left, stamp, Core, marked_by, settled_by, PlaceIs, IsFrameWord}
use Rattle.kept_facts.proofs.{held_by, Invariant, limits_of, not_exclusive_value, node_keeps_none}
use Rattle.kept_facts.specs.entry_words.specs.declared.entry.Entry.TheVariants.{Closing}

-- The word of a place carries the mark of a core.
pub record IsMarked (setup : Setting) (t : Trace) (f i : ℕ) : Type 0 where
  pub by : ℕ
  pub says : entry_of_word (last_left setup t (EntryAt f i)) ≡ Some (Closing by)
  pub mark : marked_by setup t (EntryAt f i) ≡ Some by

-- It carries no mark, and says what the place is.
pub record IsUnmarked (setup : Setting) (t : Trace) (f i : ℕ) : Type 0 where
  pub mark : marked_by setup t (EntryAt f i) ≡ None
  pub says : PlaceIs setup.frames ((state_after setup t).place f i) (stamp setup t (PlaceOf f i))
      (entry_of_word (last_left setup t (EntryAt f i)))

pub node_says : (n : ℕ) (x : Frame) (p : Place) (r i v : ℕ) → IsTrue (is_node x) → i < 64 → IsFrameWord n x p r i v
    → PlaceIs n p r (entry_of_word v)
node_says n (Kernel Table) p r i v node below h = h below
node_says n (Kernel Leaf) p r i v node below h = h below
node_says n (Kernel Pages) p r i v node below h = h below
node_says n (Kernel Pleaf) p r i v node below h = h below
node_says n _ p r i v node below h = absurd (false≢true node)

pub node_mark : (x : Frame) (i v : ℕ) → IsTrue (is_node x) → mark_in_frame x i v ≡ entry_mark (entry_of_word v)
node_mark (Kernel Table) i v node = refl
node_mark (Kernel Leaf) i v node = refl
node_mark (Kernel Pages) i v node = refl
node_mark (Kernel Pleaf) i v node = refl
node_mark _ i v node = absurd (false≢true node)

closing_by : (o : Option Entry) (d : ℕ) → entry_mark o ≡ Some d → o ≡ Some (Closing d)
closing_by (Some (Closing e)) d h = ap (λ o. Rattle.std.specs.Prelude.option_map Closing o) h
closing_by _ d h = absurd (cc)

-- What is read at a place of a node.
pub place_reads : (setup : Setting) (cores : ℕ → Core) (t : Trace) → Invariant setup cores t → (f i : ℕ)
    → IsTrue (is_node ((state_after setup t).frame f)) → i < 64
    → IsMarked setup t f i ⊎ IsUnmarked setup t f i
place_reads setup cores t stands f i node below = by_mark (marked_by setup t (EntryAt f i)) refl
  where
    by_mark : (o : Option ℕ) → marked_by setup t (EntryAt f i) ≡ o → IsMarked setup t f i ⊎ IsUnmarked setup t f i
    by_mark None is = inr (record {
      mark = is;
      says = subst (λ n. PlaceIs n ((state_after setup t).place f i) (stamp setup t (PlaceOf f i))
          (entry_of_word (last_left setup t (EntryAt f i))))
          (ap (λ l. l.frames) (limits_of setup t))
          (node_says (state_after setup t).limits.frames
          ((state_after setup t).frame f) ((state_after setup t).place f i)
          (stamp setup t (PlaceOf f i)) i (last_left setup t (EntryAt f i)) node below
          (subst (λ (n : ℕ). IsFrameWord (state_after setup t).limits.frames ((state_after setup t).frame f)
          ((state_after setup t).place f i) (stamp setup t (PlaceOf f i)) i n)
          (not_exclusive_value setup cores t stands f (node_keeps_none ((state_after setup t).frame f) node) i (last_left setup t
          (EntryAt f i)))
          (subst (λ o. IsFrameWord (state_after setup t).limits.frames
          ((state_after setup t).frame f) ((state_after setup t).place f i)
          (stamp setup t (PlaceOf f i)) i
          (settled_by o (held_by cores) (EntryAt f i) (last_left setup t (EntryAt f i)))) is (stands.words (EntryAt f i)))));
    })
    by_mark (Some d) is = inl (record {
      by = d;
      says = closing_by (entry_of_word (last_left setup t (EntryAt f i))) d
          (sym (node_mark ((state_after setup t).frame f) i (last_left setup t (EntryAt f i)) node) ∙ is);
      mark = is;
    })
