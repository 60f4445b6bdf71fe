-- Where the head of a temporal capability is found as it was read, without a mark, its list is the one that was read since.
use Rattle.count_invariant.specs.step_ways.proofs.{◌≡◌, ◌⊎◌, inl, inr, ℕ, true, List, Option, Some, None, sym, ◌∙◌, ap, subst, false≢true}
use Rattle.count_invariant.specs.step_ways.proofs.{Setting, IsSetting, HeadFits, word_of_head, head_of_word, HeadWord, spelling, EntryAt}
use Rattle.count_invariant.specs.step_ways.proofs.{Kernel, Tcap, TcapFields, head_mark, marked_by, Trace, state_after, last_left, Core}
use Rattle.count_invariant.specs.step_ways.proofs.{list_changed, read_up, Invariant, HeadIs, IsSome, is_some, list_word}
use Rattle.pair_invariant.proofs.{ListsKnown.range_of, ListsRead.reads_whole, ShareSteps.mark_is, ShareSteps.head_says}
use Rattle.{count_invariant.specs.core_invariant.specs.Shares.HasSeenB, pair_invariant.proofs.ShareSteps.list_plain}

module _ (setup : Setting) (setting : IsSetting setup) (cores : ℕ → Core) (t : Trace) (stands : Invariant setup cores t) (f : ℕ)
    (q : TcapFields) (is : (state_after setup t).frame f ≡ Kernel (Tcap q)) (h : HeadWord) (fits : HeadFits h) (bare : h.mark ≡ None)
    (equal : last_left setup t (EntryAt f 0) ≡ word_of_head h) where
  pub shown : head_of_word (last_left setup t (EntryAt f 0)) ≡ Some h
  shown = ap head_of_word equal ∙ spelling.reads h fits

  pub unmarked : marked_by setup t (EntryAt f 0) ≡ None
  unmarked = mark_is setup setting cores t stands f q is (last_left setup t (EntryAt f 0)) ∙ ap head_mark shown ∙ bare

  pub says : HeadIs q (Some h)
  says = subst (HeadIs q) shown (head_says setup setting cores t stands f q is unmarked)

  pub head_is : h ≡ record { budget = q.budget; mark = None; version = says.version }
  head_is = same_head _ _ says.says
    where
      same_head : (v u : HeadWord) → Some v ≡ Some u → v ≡ u
      same_head v u h = cc

  -- so many words of it were read
  pub as_read : (list : Option (List (ℕ × ℕ))) (n : ℕ) → HasSeenB setup t f h.version list n → list ≡ read_up (list_word setup t f) n
  as_read list n seen = by (seen.same (ap (λ (v : HeadWord). v.version) now_is))
    where
      now_is : seen.now ≡ h
      now_is = same_head _ _ (sym seen.shown ∙ shown)
        where
          same_head : (v u : HeadWord) → Some v ≡ Some u → v ≡ u
          same_head v u h = cc

      by : (list ≡ read_up (list_word setup t f) n) ⊎ ((list_changed t f ≡ true) × IsSome seen.now.mark)
          → list ≡ read_up (list_word setup t f) n
      by (inl same) = same
      by (inr other) = absurd (false≢true (sym (ap (λ (v : HeadWord). is_some v.mark) now_is ∙ ap is_some bare) ∙ other.1))

  -- and all of them are its list
  pub whole : read_up (list_word setup t f) 8 ≡ Some q.qualities
  whole =
      let range = range_of setup setting cores t stands f q is in
      reads_whole q.qualities (list_word setup t f) range.pairs range.most (list_plain setup setting cores t stands f q is unmarked)
