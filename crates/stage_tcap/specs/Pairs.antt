-- The steps of a call on two temporal capabilities, and what each takes from the word that it finds.
use Rattle.std.specs.Prelude.{ℕ, ◌+◌, ◌-◌, ◌<◌, ◌≤◌, ◌==◌, ◌&&◌, nat_lt, is_none, not, Bool, true, false, Option, Some, None, List}
use Rattle.word_map.specs.{EntryAt, Shape, Move, LoadOf, CompareOf, StoreOf}
use Rattle.tcap_words.specs.{word_of_head, head_of_word, word_of_quality, quality_of_word}
use Rattle.word_map.specs.spk_nums.specs.{Merging.preempts_by, declared.replies.Reply.Reply, declared.replies.Value.Value}
use Rattle.word_map.specs.spk_nums.specs.{declared.steps.StageEnd.StageEnd, declared.steps.StageEnd.TheVariants.Going}
use Rattle.word_map.specs.spk_nums.specs.{declared.steps.StageEnd.TheVariants.Decided, declared.steps.StageEnd.TheVariants.Done}
use Rattle.stage_tcap.specs.Heads.{head, marked, relisted, debited, credited, VersionFits}
use Rattle.stage_tcap.specs.Lists.{read_word, in_order, same_list, merge_of}
use Rattle.stage_tcap.specs.declared.pair.PairAt.TheVariants.{LoadA, MarkA, ListA, LoadB, ListB, CompareB, AgainB, StoreList, StoreB}
use Rattle.stage_tcap.specs.declared.pair.PairWork.TheVariants.{Transfer, Delegate, Test}
use Rattle.{std.specs.Prelude.slice_get, std.specs.Prelude.if◌then◌else◌}
use Rattle.{word_map.specs.spk_nums.specs.declared.steps.StageEnd.TheVariants.Refuse}
use Rattle.{tcap_words.specs.declared.head_word.HeadWord.HeadWord, tcap_words.specs.declared.quality_word.QualityWord.QualityWord}
use Rattle.{stage_tcap.specs.Charging.head_end, stage_tcap.specs.declared.pair.Pair.Pair, stage_tcap.specs.declared.pair.PairAt.PairAt}
use Rattle.{stage_tcap.specs.declared.pair.PairAt.TheVariants.StoreA, stage_tcap.specs.declared.pair.PairWork.PairWork}

-- a word of a list is one of its eight
abbrev pub EntryFits : ℕ → Type 0
EntryFits entry = (1 ≤ entry) × (entry ≤ 8)

abbrev pub AtFits : PairAt → Type 0
AtFits (ListA entry) = EntryFits entry
AtFits (ListB entry) = EntryFits entry
AtFits (StoreList entry) = EntryFits entry
AtFits _ = Unit {0}

-- both temporal capabilities are frames of the machine, and the versions that were found are within their range
pub record PairFits (s : Shape) (p : Pair) : Type 0 where
  pub a : p.a < s.frames
  pub b : p.b < s.frames
  pub head_a : VersionFits p.head_a
  pub head_b : VersionFits p.head_b
  pub at : AtFits p.at

-- the ticks that are moved
abbrev pub amount_of : PairWork → ℕ
amount_of (Transfer ticks) = ticks
amount_of (Delegate ticks) = ticks
amount_of Test = 0

-- what is put in the place of head B: a transfer gives it the ticks, a delegation marks it first
abbrev pub next_b : PairWork → ℕ → HeadWord → HeadWord
next_b (Transfer ticks) core h = credited h ticks
next_b (Delegate ticks) core h = marked core h
next_b Test core h = h

-- what head A is left as: with the ticks less, or as it was
abbrev pub left_a : Bool → HeadWord → ℕ → HeadWord
left_a moved h ticks = if moved then debited h ticks else h

-- the pair in a word of list B
abbrev pub word_of_list : List (ℕ × ℕ) → ℕ → ℕ
word_of_list xs entry = word_of_quality (record { 0 = slice_get xs (entry - 1) })

-- the next step, where it stands there
abbrev pub move_at : Pair → PairAt → Move
move_at p LoadA = LoadOf (EntryAt p.a 0)
move_at p MarkA = CompareOf (EntryAt p.a 0) (word_of_head p.head_a) (word_of_head (marked p.core p.head_a))
move_at p (ListA entry) = LoadOf (EntryAt p.a entry)
move_at p LoadB = LoadOf (EntryAt p.b 0)
move_at p (ListB entry) = LoadOf (EntryAt p.b entry)
move_at p CompareB = CompareOf (EntryAt p.b 0) (word_of_head p.head_b) (word_of_head (next_b p.what p.core p.head_b))
move_at p (AgainB r) = LoadOf (EntryAt p.b 0)
move_at p (StoreList entry) = StoreOf (EntryAt p.b entry) (word_of_list (in_order p.list_b) entry)
move_at p StoreB = StoreOf (EntryAt p.b 0) (word_of_head (credited (relisted p.grows p.head_b) (amount_of p.what)))
move_at p (StoreA moved v) = StoreOf (EntryAt p.a 0) (word_of_head (left_a moved p.head_a (amount_of p.what)))

abbrev pub pair_move : Pair → Move
pair_move p = move_at p p.at

-- a head as it was found, without the mark
abbrev pub noted : HeadWord → Option HeadWord → HeadWord
noted old None = old
noted old (Some h) = head h.budget h.version

abbrev pub head_a_after : PairAt → HeadWord → ℕ → HeadWord
head_a_after LoadA h found = noted h (head_of_word found)
head_a_after _ h found = h

abbrev pub head_b_after : PairAt → HeadWord → ℕ → HeadWord
head_b_after LoadB h found = noted h (head_of_word found)
head_b_after _ h found = h

-- list A with the word found
abbrev pub list_a_after : PairAt → Option (List (ℕ × ℕ)) → ℕ → Option (List (ℕ × ℕ))
list_a_after (ListA entry) xs found = read_word xs (quality_of_word found)
list_a_after _ xs found = xs

-- list B, once its last word is read: a delegation keeps the merged list, if that has room for each scheduler
abbrev pub whole_b : PairWork → List (ℕ × ℕ) → List (ℕ × ℕ) → Option (List (ℕ × ℕ))
whole_b (Transfer ticks) xs ys = Some ys
whole_b (Delegate ticks) xs ys = merge_of xs ys
whole_b Test xs ys = Some ys

-- whether the list that B is given is another than its own
abbrev pub grows_to : PairWork → Option (List (ℕ × ℕ)) → List (ℕ × ℕ) → Bool
grows_to (Transfer ticks) given ys = false
grows_to (Delegate ticks) given ys = not (same_list (in_order given) ys)
grows_to Test given ys = false

abbrev pub read_b : Bool → PairWork → List (ℕ × ℕ) → Option (List (ℕ × ℕ)) → Option (List (ℕ × ℕ))
read_b more what xs ys = if more then ys else whole_b what xs (in_order ys)

-- list B with the word found
abbrev pub list_b_after : PairAt → PairWork → Option (List (ℕ × ℕ)) → Option (List (ℕ × ℕ)) → ℕ → Option (List (ℕ × ℕ))
list_b_after (ListB entry) what xs ys found = read_b (nat_lt entry 8) what (in_order xs) (read_word ys (quality_of_word found))
list_b_after _ what xs ys found = ys

-- whether it is, once the last word of list B is read
abbrev pub read_grows : Bool → PairWork → List (ℕ × ℕ) → List (ℕ × ℕ) → Bool → Bool
read_grows more what xs ys old = if more then old else grows_to what (whole_b what xs ys) ys

abbrev pub grows_after : PairAt → PairWork → Option (List (ℕ × ℕ)) → Option (List (ℕ × ℕ)) → Bool → ℕ → Bool
grows_after (ListB entry) what xs ys old found =
    read_grows (nat_lt entry 8) what (in_order xs) (in_order (read_word ys (quality_of_word found))) old
grows_after _ what xs ys old found = old

-- what is known after a step that finds this word
abbrev pub noted_by : Pair → ℕ → Pair
noted_by p found = record {
  a = p.a;
  b = p.b;
  what = p.what;
  core = p.core;
  head_a = head_a_after p.at p.head_a found;
  head_b = head_b_after p.at p.head_b found;
  list_a = list_a_after p.at p.list_a found;
  list_b = list_b_after p.at p.what p.list_a p.list_b found;
  grows = grows_after p.at p.what p.list_a p.list_b p.grows found;
  at = p.at;
}

-- head A is given back as it was
abbrev pub giving_back : PairAt
giving_back = StoreA false Value.Nothing

-- after the last word of list B: lists that differ, and a merged list with no room, are refused where head B is still the same
abbrev pub by_alike : Bool → PairAt
by_alike same = if same then CompareB else AgainB Reply.Unlike

abbrev pub by_room : Option (List (ℕ × ℕ)) → PairAt
by_room None = AgainB Reply.TooMany
by_room (Some xs) = CompareB

abbrev pub by_preempting : Bool → PairAt
by_preempting preempts = AgainB (Reply.Ok (if preempts then Value.Preempts else Value.Stays))

abbrev pub judged : PairWork → Pair → PairAt
judged (Transfer ticks) p = by_alike (same_list (in_order p.list_a) (in_order p.list_b))
judged (Delegate ticks) p = by_room p.list_b
judged Test p = by_preempting (preempts_by p.head_a.budget (in_order p.list_a) p.head_b.budget (in_order p.list_b))

-- where it stands after the load of a head
abbrev pub at_by_mark : PairAt → PairAt → Option ℕ → PairAt
at_by_mark going refused None = going
at_by_mark going refused (Some by) = refused

abbrev pub at_by_head : PairAt → PairAt → Option HeadWord → PairAt
at_by_head going refused None = refused
at_by_head going refused (Some h) = at_by_mark going refused h.mark

-- after the compare that marks head A
abbrev pub at_by_budget : Bool → PairAt
at_by_budget short = if short then giving_back else ListA 1

abbrev pub at_marked : Bool → Bool → PairAt
at_marked same short = if same then at_by_budget short else MarkA

-- after the load of a word of a list
abbrev pub at_read : Option QualityWord → PairAt → PairAt
at_read None next = giving_back
at_read (Some v) next = next

-- after a word of list A the next one is loaded, and after the last head B
abbrev pub a_next : Bool → ℕ → PairAt
a_next more entry = if more then ListA (entry + 1) else LoadB

-- after a word of list B the next one is loaded, and after the last the two are judged
abbrev pub b_next : Bool → ℕ → Pair → PairAt
b_next more entry p = if more then ListB (entry + 1) else judged p.what p

-- after a word of list B is stored the next one is, and after the last head B
abbrev pub store_next : Bool → ℕ → PairAt
store_next more entry = if more then StoreList (entry + 1) else StoreB

-- after the compare of head B
abbrev pub at_decided : PairWork → PairAt
at_decided (Transfer ticks) = StoreA true Value.Nothing
at_decided (Delegate ticks) = StoreList 1
at_decided Test = giving_back

abbrev pub compared_after : Bool → PairWork → PairAt
compared_after same what = if same then at_decided what else giving_back

-- the value of a reply
abbrev pub value_of : Reply → Value
value_of (Reply.Ok v) = v
value_of _ = Value.Nothing

-- the value of a reply that is decided where head B is still the same
abbrev pub again_value : Bool → Reply → Value
again_value same r = if same then value_of r else Value.Nothing

-- where it stands after a step that finds this word; `p` has what is known then
abbrev pub at_after : Pair → PairAt → ℕ → PairAt
at_after p LoadA found = at_by_head MarkA LoadA (head_of_word found)
at_after p MarkA found = at_marked (found == word_of_head p.head_a) (nat_lt p.head_a.budget (amount_of p.what))
at_after p (ListA entry) found = at_read (quality_of_word found) (a_next (nat_lt entry 8) entry)
at_after p LoadB found = at_by_head (ListB 1) giving_back (head_of_word found)
at_after p (ListB entry) found = at_read (quality_of_word found) (b_next (nat_lt entry 8) entry p)
at_after p CompareB found = compared_after (found == word_of_head p.head_b) p.what
at_after p (AgainB r) found = StoreA false (again_value (found == word_of_head p.head_b) r)
at_after p (StoreList entry) found = store_next (nat_lt entry 8) entry
at_after p StoreB found = StoreA true Value.Nothing
at_after p (StoreA moved v) found = StoreA moved v

-- where it stands after a step that finds this word
abbrev pub pair_after : Pair → ℕ → Pair
pair_after p found = record {
  a = p.a;
  b = p.b;
  what = p.what;
  core = p.core;
  head_a = head_a_after p.at p.head_a found;
  head_b = head_b_after p.at p.head_b found;
  list_a = list_a_after p.at p.list_a found;
  list_b = list_b_after p.at p.what p.list_a p.list_b found;
  grows = grows_after p.at p.what p.list_a p.list_b p.grows found;
  at = at_after (noted_by p found) p.at found;
}

-- whether the word of a list has no pair
abbrev pub has_no_pair : Option QualityWord → Bool
has_no_pair None = false
has_no_pair (Some v) = is_none v.0

-- whether such a word was found, and that not the last of list B: then the call goes on to the next one, and nothing else changes
abbrev pub is_passed : PairAt → ℕ → Bool
is_passed (ListA entry) found = has_no_pair (quality_of_word found)
is_passed (ListB entry) found = has_no_pair (quality_of_word found) && nat_lt entry 8
is_passed _ found = false

-- the compare that marks head A: a budget that is too small is told there
abbrev pub end_by_budget : Bool → ℕ → StageEnd Value
end_by_budget short budget = if short then Decided (Reply.Short budget) else Going

abbrev pub marked_end : Bool → Bool → ℕ → StageEnd Value
marked_end same short budget = if same then end_by_budget short budget else Refuse Reply.Raced

-- after it a refusal decides, since head A is still to be given back
abbrev pub decided_by_mark : Option ℕ → StageEnd Value
decided_by_mark None = Going
decided_by_mark (Some by) = Decided (Reply.Busy by)

abbrev pub b_end : Option HeadWord → StageEnd Value
b_end None = Decided Reply.Raced
b_end (Some h) = decided_by_mark h.mark

abbrev pub list_end : Option QualityWord → StageEnd Value
list_end None = Decided Reply.Raced
list_end (Some v) = Going

-- the deciding step, where head B is still the same or not
abbrev pub again_end : Bool → Reply → StageEnd Value
again_end same r = if same then Decided r else Decided Reply.Raced

-- what a step leads to that finds this word; `p` has what is known then
abbrev pub end_at : Pair → PairAt → ℕ → StageEnd Value
end_at p LoadA found = head_end (head_of_word found)
end_at p MarkA found = marked_end (found == word_of_head p.head_a) (nat_lt p.head_a.budget (amount_of p.what)) p.head_a.budget
end_at p (ListA entry) found = list_end (quality_of_word found)
end_at p LoadB found = b_end (head_of_word found)
end_at p (ListB entry) found = list_end (quality_of_word found)
end_at p CompareB found = again_end (found == word_of_head p.head_b) (Reply.Ok Value.Nothing)
end_at p (AgainB r) found = again_end (found == word_of_head p.head_b) r
end_at p (StoreList entry) found = Going
end_at p StoreB found = Going
end_at p (StoreA moved v) found = Done v

abbrev pub pair_end : Pair → ℕ → StageEnd Value
pair_end p found = end_at (noted_by p found) p.at found
