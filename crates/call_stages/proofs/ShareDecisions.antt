-- Which steps of a call on two temporal capabilities answer, and which only refuse.
use Rattle.act_states.specs.{ℕ, ◌==◌, Bool, true, false, Option, Some, None, Capability, Reply, word_of_head, head_of_word, quality_of_word}
use Rattle.act_states.specs.{HeadWord, QualityWord, end_by_mark, head_end, decided_by_mark, b_end, list_end, again_end, marked_end, Pair}
use Rattle.act_states.specs.{PairAt, LoadA, MarkA, ListA, LoadB, ListB, CompareB, AgainB, StoreList, StoreB, StoreA, PairWork, shared}
use Rattle.act_states.specs.{took_shared, took_share, shares_if, shares_at, Value}
use Rattle.act_states.specs.Shares.{is_carried, is_sharing}
use Rattle.call_stages.proofs.Answering.{NoAnswer, EndsBy}

share_no : (same : Bool) (core : ℕ) (what : PairWork) (f g : ℕ) → NoAnswer (shares_if same core what f g)
share_no true core what f g = tt
share_no false core what f g = tt

pub shares_no : (core : ℕ) (what : PairWork) (a b : Option Capability) → NoAnswer (shares_at core what a b)
shares_no core what (Some a) (Some b) = share_no _ core what a.frame b.frame
shares_no core what None b = tt
shares_no core what (Some a) None = tt

marking_no : (p : Pair) (same short : Bool) (budget : ℕ) → NoAnswer (took_shared p (marked_end same short budget))
marking_no p true true budget = tt
marking_no p true false budget = tt
marking_no p false short budget = tt

loading_no : (p : Pair) (o : Option HeadWord) → NoAnswer (took_shared p (head_end o))
loading_no p None = tt
loading_no p (Some h) = by h.mark
  where
    by : (mark : Option ℕ) → NoAnswer (took_shared p (end_by_mark mark))
    by None = tt
    by (Some d) = tt

again_loading_no : (p : Pair) (o : Option HeadWord) → NoAnswer (took_shared p (b_end o))
again_loading_no p None = tt
again_loading_no p (Some h) = by h.mark
  where
    by : (mark : Option ℕ) → NoAnswer (took_shared p (decided_by_mark mark))
    by None = tt
    by (Some d) = tt

reading_no : (p : Pair) (o : Option QualityWord) → NoAnswer (took_shared p (list_end o))
reading_no p None = tt
reading_no p (Some v) = tt

shared_ends : (p : Pair) (r : Reply) → EndsBy (is_carried r) (shared p r)
shared_ends p (Reply.Ok v) = (tt, tt)
shared_ends p r = tt

again_ends : (p : Pair) (same : Bool) (r : Reply) → EndsBy (is_carried r) (took_shared p (again_end same r))
again_ends p true r = shared_ends p r
again_ends p false (Reply.Ok v) = (tt, tt)
again_ends p false r = tt

pub share_ends : (p : Pair) (at : PairAt) (found : ℕ) → EndsBy (is_sharing at) (took_share (record p { at = at }) found)
share_ends p LoadA found = loading_no _ (head_of_word found)
share_ends p MarkA found = marking_no _ _ _ _
share_ends p (ListA entry) found = reading_no _ (quality_of_word found)
share_ends p LoadB found = again_loading_no _ (head_of_word found)
share_ends p (ListB entry) found = reading_no _ (quality_of_word found)
share_ends p CompareB found = again_ends _ (found == word_of_head p.head_b) (Reply.Ok Value.Nothing)
share_ends p (AgainB r) found = again_ends _ (found == word_of_head p.head_b) r
share_ends p (StoreList entry) found = tt
share_ends p StoreB found = tt
share_ends p (StoreA moved v) found = tt
