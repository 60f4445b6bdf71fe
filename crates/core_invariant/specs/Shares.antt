-- What a call on two temporal capabilities knows where it stands, and which steps on the words of a temporal capability it relies on.
use Rattle.act_fits.specs.act_states.specs as low
use Rattle.std.specs.Prelude.{◌≡◌, ◌≢◌, ◌⊎◌, ◌<◌, ◌≤◌, ◌==◌, ◌&&◌, ◌∷◌, ◌^◌, ◌+◌, if◌then◌else◌}
use low.{not, ℕ, zero, suc, Bool, true, false, IsTrue, IsSome, List, [], Option, Some}
use low.{None, slice_get, Setting, Capability, Call, HeadFits, word_of_head, head_of_word, quality_of_word, HeadWord, Word}
use low.{EntryAt, FrameAt, CountAt, CoreAt, FlushAt, LiveAt, ClockAt, word_of, left_of, State, fits, IsGuarded, marked, read_word, in_order}
use low.{amount_of, judged, Pair, PairAt, LoadA, MarkA, ListA, LoadB, ListB, CompareB, AgainB, StoreList, StoreB, StoreA, PairWork}
use Rattle.kernel_history.specs.{Step, state_after, last_left, own_read, WasAt, marked_by, changes_budgets, IsInFootprint}
use Rattle.act_fits.specs.stage_tcap.specs.{word_of_list, whole_b}
use Rattle.{kernel_history.specs.spk_nums.specs.declared.kinds.Kind.TheVariants.Tcap as tcap_kind}
use Rattle.{kernel_history.specs.tcap_words.specs.Quality.QualityFits, kernel_history.specs.Trace.Trace}
use Rattle.{act_fits.specs.stage_tcap.specs.Pairs.grows_to}

-- Whether the list of the temporal capability in a frame was changed by a step since its head was changed last.
abbrev pub turns_list : Word → Bool → ℕ → Bool → Bool
turns_list (EntryAt g zero) same f before = if g == f && not same then false else before
turns_list (EntryAt g (suc i)) same f before = if g == f && not same then true else before
turns_list (FrameAt g) same f before = before
turns_list (CountAt g d) same f before = before
turns_list (CoreAt d) same f before = before
turns_list (FlushAt d) same f before = before
turns_list (LiveAt l) same f before = before
turns_list ClockAt same f before = before

abbrev pub list_changed : Trace → ℕ → Bool
list_changed [] f = false
list_changed (e ∷ t) f = turns_list (word_of e.move) (left_of e.move e.found == e.found) f (list_changed t f)

-- A core changes a head that no other core has marked. It raises its version; where it does not, no core had marked the head, or its list
-- was not changed since the head was.
abbrev pub MayTurn : ℕ → Option ℕ → Type 0
MayTurn core mark = (mark ≡ None) ⊎ (mark ≡ Some core)

abbrev pub TurnsHead : ℕ → Bool → Option HeadWord → Option HeadWord → Type 0
TurnsHead core changed (Some h) (Some k) =
    MayTurn core h.mark
    × ((h.version < k.version) ⊎ ((h.version ≡ k.version) × ((h.mark ≡ None) ⊎ (changed ≡ false))))
TurnsHead core changed None k = ⊥
TurnsHead core changed (Some h) None = ⊥

-- A step on a word of the temporal capability in a frame leaves it as found, or changes its head so, or a word of its list where its core
-- has marked the head.
abbrev pub SparesTcap : Setting → Trace → Step → ℕ → ℕ → Type 0
SparesTcap setup t e f zero =
    (left_of e.move e.found ≡ e.found) ⊎ TurnsHead e.core (list_changed t f) (head_of_word e.found) (head_of_word (left_of e.move e.found))
SparesTcap setup t e f (suc j) =
    (left_of e.move e.found ≡ e.found) ⊎ ((marked_by setup t (EntryAt f 0) ≡ Some e.core)
    × IsSome (quality_of_word (left_of e.move e.found)))

-- The words of a list, and the list that is read from the first of them.
abbrev pub list_word : Setting → Trace → ℕ → ℕ → ℕ
list_word setup t f j = last_left setup t (EntryAt f (suc j))

abbrev pub read_up : (ℕ → ℕ) → ℕ → Option (List (ℕ × ℕ))
read_up words zero = Some []
read_up words (suc n) = read_word (read_up words n) (quality_of_word (words n))

-- A temporal capability that no other core may retype.
pub record HasTcap (s : State) (c f : ℕ) : Type 0 where
  pub tcap : IsTrue (fits tcap_kind (s.frame f))
  pub guarded : IsGuarded s c f

-- The head of one is expected that the call's last step on it has read there, and that no core has marked.
pub record ReadsHead (t : Trace) (c f : ℕ) (h : HeadWord) : Type 0 where
  pub own : own_read t c (EntryAt f 0) ≡ Some (word_of_head h)
  pub fits : HeadFits h
  pub bare : h.mark ≡ None

-- The head of A carries the core's mark, its budget is no less than the ticks, and so many words of its list are read.
pub record HasMarkedA (setup : Setting) (t : Trace) (p : Pair) (n : ℕ) : Type 0 where
  pub raw : last_left setup t (EntryAt p.a 0) ≡ word_of_head (marked p.core p.head_a)
  pub fits : HeadFits p.head_a
  pub bare : p.head_a.mark ≡ None
  pub enough : amount_of p.what ≤ p.head_a.budget
  pub list : p.list_a ≡ read_up (list_word setup t p.a) n
  pub clean : list_changed t p.a ≡ false

-- Since the head of B was read in this version, its version has not fallen; and where it is the same, so many words of its list are as
-- they were read, or a core has marked the head and changed the list.
pub record HasSeenB (setup : Setting) (t : Trace) (f version : ℕ) (list : Option (List (ℕ × ℕ))) (n : ℕ) : Type 0 where
  pub now : HeadWord
  pub shown : head_of_word (last_left setup t (EntryAt f 0)) ≡ Some now
  pub later : version ≤ now.version
  pub same : now.version ≡ version
      → (list ≡ read_up (list_word setup t f) n) ⊎ ((list_changed t f ≡ true) × IsSome now.mark)
  pub valid : (j : ℕ) → j < 8 → IsSome (quality_of_word (list_word setup t f j))

pub record HasReadB (setup : Setting) (t : Trace) (c : ℕ) (p : Pair) (list : Option (List (ℕ × ℕ))) (n : ℕ) : Type 0 where
  pub head : ReadsHead t c p.b p.head_b
  pub seen : HasSeenB setup t p.b p.head_b.version list n

-- Both lists are read, and what they lead to is that the deciding step comes next.
pub record HasBoth (setup : Setting) (t : Trace) (c : ℕ) (p : Pair) (at : PairAt) : Type 0 where
  pub a : HasMarkedA setup t p 8
  pub read : Option (List (ℕ × ℕ))
  pub b : HasReadB setup t c p read 8
  pub whole : p.list_b ≡ whole_b p.what (in_order p.list_a) (in_order read)
  pub grows : p.grows ≡ grows_to p.what p.list_b (in_order read)
  pub judges : judged p.what p ≡ at

-- Nothing of a list is read yet.
abbrev pub IsUnread : Option (List (ℕ × ℕ)) → Type 0
IsUnread list = list ≡ Some []

-- What it knows where it stands there.
abbrev pub KnowsPairAt : Setting → Trace → ℕ → Pair → PairAt → Type 0
KnowsPairAt setup t c p LoadA = IsUnread p.list_a × IsUnread p.list_b
KnowsPairAt setup t c p MarkA = ReadsHead t c p.a p.head_a × IsUnread p.list_a × IsUnread p.list_b
KnowsPairAt setup t c p (ListA zero) = ⊥
KnowsPairAt setup t c p (ListA (suc n)) = HasMarkedA setup t p n × IsUnread p.list_b
KnowsPairAt setup t c p LoadB = HasMarkedA setup t p 8 × IsUnread p.list_b
KnowsPairAt setup t c p (ListB zero) = ⊥
KnowsPairAt setup t c p (ListB (suc n)) = HasMarkedA setup t p 8 × HasReadB setup t c p p.list_b n
KnowsPairAt setup t c p CompareB = HasBoth setup t c p CompareB
KnowsPairAt setup t c p (AgainB r) = HasBoth setup t c p (AgainB r)
KnowsPairAt setup t c p (StoreList entry) = ⊥
KnowsPairAt setup t c p StoreB = ⊥
KnowsPairAt setup t c p (StoreA moved v) = ⊥

-- It is of these two, to which its names have led and which differ, and moves so many ticks.
pub record IsShared (a b : Capability) (what : PairWork) (p : Pair) : Type 0 where
  pub first : p.a ≡ a.frame
  pub second : p.b ≡ b.frame
  pub first_kind : a.kind ≡ tcap_kind
  pub second_kind : b.kind ≡ tcap_kind
  pub differ : a.frame ≢ b.frame
  pub work : p.what ≡ what

abbrev pub SharesBy : Call → List Capability → Pair → Type 0
SharesBy (Call.Transfer x y m) (a ∷ b ∷ []) p = IsShared a b (PairWork.Transfer m) p
SharesBy (Call.Delegate x y m) (a ∷ b ∷ []) p = IsShared a b (PairWork.Delegate m) p
SharesBy (Call.Test x y) (a ∷ b ∷ []) p = IsShared a b PairWork.Test p
SharesBy call ks p = ⊥

pub record KnowsShare (setup : Setting) (t : Trace) (c : ℕ) (call : Call) (ks : List Capability) (p : Pair) : Type 0 where
  pub shares : SharesBy call ks p
  pub core : p.core ≡ c
  pub tcap_a : HasTcap (state_after setup t) c p.a
  pub tcap_b : HasTcap (state_after setup t) c p.b
  pub at : KnowsPairAt setup t c p p.at

-- The head of A is still to be stored, less the ticks or as it was found: it carries the core's mark.
pub record StoresA (setup : Setting) (t : Trace) (p : Pair) : Type 0 where
  pub raw : last_left setup t (EntryAt p.a 0) ≡ word_of_head (marked p.core p.head_a)
  pub fits : HeadFits p.head_a
  pub bare : p.head_a.mark ≡ None
  pub clean : list_changed t p.a ≡ false

-- The list of B was not changed since its head was, and its words are those that are still to be stored.
pub record KeepsList (setup : Setting) (t : Trace) (p : Pair) : Type 0 where
  pub clean : list_changed t p.b ≡ false
  pub words : (j : ℕ) → j < 8 → list_word setup t p.b j ≡ word_of_list (in_order p.list_b) (suc j)

-- So is the head of B, which carries the core's mark too, and words of its list, each of which is spelled. Its version can be raised, and
-- where it is not, the list is B's own.
pub record StoresB (setup : Setting) (t : Trace) (c : ℕ) (call : Call) (p : Pair) : Type 0 where
  pub a : StoresA setup t p
  pub raw : last_left setup t (EntryAt p.b 0) ≡ word_of_head (marked p.core p.head_b)
  pub fits : HeadFits p.head_b
  pub bare : p.head_b.mark ≡ None
  pub few : p.head_b.version + 1 < 2 ^ 28
  pub footprint : WasAt (IsInFootprint c call (EntryAt p.b 0)) setup t c
  pub tcap : HasTcap (state_after setup t) c p.b
  pub differ : p.a ≢ p.b
  pub spelled : (i : ℕ) → QualityFits (record { 0 = slice_get (in_order p.list_b) i })
  pub same : p.grows ≡ false → KeepsList setup t p

abbrev pub KnowsStoresAt : Setting → Trace → ℕ → Call → Pair → PairAt → Type 0
KnowsStoresAt setup t c call p LoadA = ⊥
KnowsStoresAt setup t c call p MarkA = ⊥
KnowsStoresAt setup t c call p (ListA n) = ⊥
KnowsStoresAt setup t c call p LoadB = ⊥
KnowsStoresAt setup t c call p (ListB n) = ⊥
KnowsStoresAt setup t c call p CompareB = ⊥
KnowsStoresAt setup t c call p (AgainB r) = ⊥
KnowsStoresAt setup t c call p (StoreList n) = (1 ≤ n) × (n ≤ 8) × StoresB setup t c call p
KnowsStoresAt setup t c call p StoreB = StoresB setup t c call p
KnowsStoresAt setup t c call p (StoreA moved v) = StoresA setup t p

-- What a decided call knows that has still to store the words of two temporal capabilities.
pub record KnowsShared (setup : Setting) (t : Trace) (c : ℕ) (call : Call) (p : Pair) : Type 0 where
  pub budgets : changes_budgets call ≡ true
  pub core : p.core ≡ c
  pub footprint : WasAt (IsInFootprint c call (EntryAt p.a 0)) setup t c
  pub tcap_a : HasTcap (state_after setup t) c p.a
  pub at : KnowsStoresAt setup t c call p p.at
