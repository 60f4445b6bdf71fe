-- One spelling for each entry.
use Rattle.std.proofs.Common.{◌≡◌, ◌≢◌, ℕ, ◌+◌, ◌-◌, ◌*◌, ◌/◌, ◌%◌, ◌^◌, ◌<◌, ◌≤◌, ◌==◌, ◌&&◌, nat_lt, nat_le, Option, Some, None, IfSome}
use Rattle.std.proofs.Common.{refl, subst, arith, ne_eqb, lt-ltb, le-leb, ltb-true, leb-true, eqb-true}
use Rattle.entry_words.specs.{EntryFits, word_of_entry, entry_of_word}
use Rattle.spk_nums.proofs.{Choices.kept, Choices.chosen, KeptRights.kept_above, KeptRights.kept_below, OneSpelling.spelling_reads}
use Rattle.spk_nums.specs.declared.kinds.Kind.TheVariants.{Range, Table, Leaf, Pages, Pleaf, Comp, Gate, Thread, Tcap, Link, Page}
use Rattle.entry_words.specs.Kinds.{number_of_kind, kind_of_number, most_withheld}
use Rattle.entry_words.specs.EntryWord.{held_of, closing_of, quiescing_of}
use Rattle.entry_words.specs.declared.entry.Entry.TheVariants.{Free, Held, Closing, Quiescing}
use Rattle.{std.proofs.lemmas.Bool.and_parts, std.proofs.lemmas.Bool.Decides.nat_tests, spk_nums.proofs.OneSpelling.spelling_spells}
use Rattle.{spk_nums.specs.Capability.Capability, spk_nums.specs.Limits.least_arg, spk_nums.specs.Limits.end_of_arg}
use Rattle.{spk_nums.specs.Rights.least_rights, spk_nums.specs.Rights.kept as kept_cap, spk_nums.specs.Spelling.IsOneSpelling}
use Rattle.{spk_nums.specs.declared.kinds.Kind.Kind, entry_words.specs.declared.entry.Entry.Entry}

-- a kind has a number below 16 and is found again from it; its capabilities' numbers are below 2 ^ 24; the rights that it may withhold
-- are those that it need not have
record IsNumbered (k : Kind) : Type 0 where
  below : number_of_kind k < 16
  back : kind_of_number (number_of_kind k) ≡ Some k
  arg : end_of_arg k ≤ 2 ^ 24
  withheld : most_withheld k + least_rights k ≡ 3

numbered : (k : Kind) → IsNumbered k
numbered Range = record { below = omega arith; back = refl; arg = omega arith; withheld = refl }
numbered Table = record { below = omega arith; back = refl; arg = omega arith; withheld = refl }
numbered Leaf = record { below = omega arith; back = refl; arg = omega arith; withheld = refl }
numbered Pages = record { below = omega arith; back = refl; arg = omega arith; withheld = refl }
numbered Pleaf = record { below = omega arith; back = refl; arg = omega arith; withheld = refl }
numbered Comp = record { below = omega arith; back = refl; arg = omega arith; withheld = refl }
numbered Gate = record { below = omega arith; back = refl; arg = omega arith; withheld = refl }
numbered Thread = record { below = omega arith; back = refl; arg = omega arith; withheld = refl }
numbered Tcap = record { below = omega arith; back = refl; arg = omega arith; withheld = refl }
numbered Link = record { below = omega arith; back = refl; arg = omega arith; withheld = refl }
numbered Page = record { below = omega arith; back = refl; arg = omega arith; withheld = refl }

-- what a word may withhold leaves the rights that a kind needs, and no others than the two
pub withheld_least : (k : Kind) (n : ℕ) → n ≤ most_withheld k → least_rights k ≤ 3 - n
withheld_least k n h = let is : most_withheld k + least_rights k ≡ 3 = (numbered k).withheld in omega (arith, is)

number_of_kind_of : (n : ℕ) (k : Kind) → kind_of_number n ≡ Some k → number_of_kind k ≡ n
number_of_kind_of n k h = grind (arith, nat_tests)

-- the fields of the word of a capability are these
record ReadsAs (w k f a n : ℕ) : Type 0 where
  some : w ≢ 0
  tag : w % 2 ^ 2 ≡ 1
  kind : w / 2 ^ 2 % 2 ^ 4 ≡ k
  frame : w / 2 ^ 6 % 2 ^ 10 ≡ f
  arg : w / 2 ^ 16 % 2 ^ 24 ≡ a
  withheld : w / 2 ^ 40 ≡ n

fields : (k f a n w : ℕ) → w ≡ 1 + 2 ^ 2 * k + 2 ^ 6 * f + 2 ^ 16 * a + 2 ^ 40 * n
    → k < 16 → f < 512 → a < 2 ^ 24 → ReadsAs w k f a n
fields k f a n w is small first last = record {
  some = omega arith;
  tag = omega arith;
  kind = omega arith;
  frame = omega arith;
  arg = omega arith;
  withheld = omega arith;
}

reads : (v : Entry) → EntryFits v → entry_of_word (word_of_entry v) ≡ Some v
unfolding word_of_entry entry_of_word
reads Free h = refl
reads (Held cap) h =
    let k : ℕ = number_of_kind cap.kind in
    let n : IsNumbered cap.kind = numbered cap.kind in
    let small : k < 16 = n.below in
    let last : cap.arg < 2 ^ 24 = omega (arith, n.arg, h.2) in
    let withheld : ℕ = 3 - cap.rights in
    let few : withheld ≤ most_withheld cap.kind = omega (arith, n.withheld, h.3, h.4) in
    let whole : 3 - withheld ≡ cap.rights = omega (arith, h.4) in
    let w : ℕ = 1 + 2 ^ 2 * k + 2 ^ 6 * cap.frame + 2 ^ 16 * cap.arg + 2 ^ 40 * withheld in
    let f : ReadsAs w k cap.frame cap.arg withheld = fields k cap.frame cap.arg withheld w refl small h.0 last in
    rw (
      ne_eqb w 0 f.some,
      f.tag,
      f.kind,
      f.frame,
      f.arg,
      f.withheld,
      n.back,
      lt-ltb cap.frame 512 h.0,
      le-leb (least_arg cap.kind) cap.arg h.1,
      lt-ltb cap.arg (end_of_arg cap.kind) h.2,
      le-leb withheld (most_withheld cap.kind) few,
      whole,
    )
reads (Closing by) h =
    let w : ℕ = 2 + 2 ^ 2 * by in
    let some : w ≢ 0 = omega arith in
    let tag : w % 2 ^ 2 ≡ 2 = omega arith in
    let core : w / 2 ^ 2 ≡ by = omega arith in
    rw (ne_eqb w 0 some, tag, core, lt-ltb by 8 h)
reads (Quiescing s) h =
    let w : ℕ = 3 + 2 ^ 4 * s in
    let some : w ≢ 0 = omega arith in
    let tag : w % 2 ^ 2 ≡ 3 = omega arith in
    let low : w % 2 ^ 4 ≡ 3 = omega arith in
    let stamp : w / 2 ^ 4 ≡ s = omega arith in
    rw (ne_eqb w 0 some, tag, low, stamp, le-leb 1 s h.0, lt-ltb s (2 ^ 43) h.1)

-- an entry within its ranges, whose word is this one
Spells : ℕ → Entry → Type 0
Spells w v = EntryFits v × (word_of_entry v ≡ w)

spells_free : (w : ℕ) (v : Entry) → w ≡ 0 → Some Free ≡ Some v → Spells w v
unfolding Spells word_of_entry
spells_free w v none h =
    let value : Free ≡ v = cc in
    subst (Spells w) value (tt, omega arith)

-- a word is put together again from its fields
whole_word : (w k f a n m : ℕ) → w % 2 ^ 2 ≡ 1 → k ≡ w / 2 ^ 2 % 2 ^ 4 → f ≡ w / 2 ^ 6 % 2 ^ 10 → a ≡ w / 2 ^ 16 % 2 ^ 24 → n ≡ w / 2 ^ 40
    → m ≡ n → 1 + 2 ^ 2 * k + 2 ^ 6 * f + 2 ^ 16 * a + 2 ^ 40 * m ≡ w
whole_word w k f a n m tag kind frame arg withheld same = omega arith

spells_held : (o : Option Kind) (w : ℕ) (v : Entry) → o ≡ kind_of_number (w / 2 ^ 2 % 2 ^ 4)
    → w % 2 ^ 2 ≡ 1 → held_of o (w / 2 ^ 6 % 2 ^ 10) (w / 2 ^ 16 % 2 ^ 24) (w / 2 ^ 40) ≡ Some v → Spells w v
unfolding Spells word_of_entry
spells_held None w v from tag h = absurd (cc)
spells_held (Some k) w v from tag h =
    let f : ℕ = w / 2 ^ 6 % 2 ^ 10 in
    let a : ℕ = w / 2 ^ 16 % 2 ^ 24 in
    let n : ℕ = w / 2 ^ 40 in
    let value : Capability = record { kind = k; frame = f; arg = a; rights = 3 - n } in
    let (tests, is) = kept (nat_lt f 512 && (nat_le (least_arg k) a && (nat_lt a (end_of_arg k) && nat_le n (most_withheld k))))
    (Held value) v h in
    let (frame, arg) = and_parts (nat_lt f 512) _ tests in
    let (least, last) = and_parts (nat_le (least_arg k) a) _ arg in
    let (end, few) = and_parts (nat_lt a (end_of_arg k)) _ last in
    let most : n ≤ most_withheld k = leb-true n (most_withheld k) few in
    let three : most_withheld k + least_rights k ≡ 3 = (numbered k).withheld in
    let fits : EntryFits (Held value) = (
      ltb-true f 512 frame,
      leb-true (least_arg k) a least,
      ltb-true a (end_of_arg k) end,
      withheld_least k n most,
      omega arith,
    ) in
    let kind : number_of_kind k ≡ w / 2 ^ 2 % 2 ^ 4 = number_of_kind_of (w / 2 ^ 2 % 2 ^ 4) k (cc) in
    let back : 3 - (3 - n) ≡ n = omega (arith, most, three) in
    subst (Spells w) is (fits, whole_word w (number_of_kind k) f a n (3 - (3 - n)) tag kind refl refl refl back)

spells_closing : (w : ℕ) (v : Entry) → w % 2 ^ 2 ≡ 2 → closing_of (w / 2 ^ 2) ≡ Some v → Spells w v
unfolding Spells word_of_entry
spells_closing w v tag h =
    let by : ℕ = w / 2 ^ 2 in
    let (core, value) = kept (nat_lt by 8) (Closing by) v h in
    subst (Spells w) value (ltb-true by 8 core, omega arith)

spells_quiescing : (w : ℕ) (v : Entry) → w % 2 ^ 4 ≡ 3 → quiescing_of (w / 2 ^ 4) ≡ Some v → Spells w v
unfolding Spells word_of_entry
spells_quiescing w v tag h =
    let s : ℕ = w / 2 ^ 4 in
    let (tests, value) = kept (nat_le 1 s && nat_lt s (2 ^ 43)) (Quiescing s) v h in
    let (least, last) = and_parts (nat_le 1 s) _ tests in
    subst (Spells w) value ((leb-true 1 s least, ltb-true s (2 ^ 43) last), omega arith)

spells : (w : ℕ) (v : Entry) → entry_of_word w ≡ Some v → Spells w v
unfolding Spells word_of_entry entry_of_word
spells w v h =
    chosen (w == 0) _ _ (Some v) h
    (λ e f. spells_free w v (eqb-true w 0 e) f)
    (λ _ h1. chosen (w % 2 ^ 2 == 1) _ _ (Some v) h1
    (λ e f. spells_held _ w v refl (eqb-true (w % 2 ^ 2) 1 e) f)
    (λ _ h2. chosen (w % 2 ^ 2 == 2) _ _ (Some v) h2
    (λ e f. spells_closing w v (eqb-true (w % 2 ^ 2) 2 e) f)
    (λ _ h3. chosen (w % 2 ^ 4 == 3) _ _ (Some v) h3
    (λ e f. spells_quiescing w v (eqb-true (w % 2 ^ 4) 3 e) f)
    (λ _ f. absurd (cc)))))

small_held : (k f a n : ℕ) → k < 16 → f < 512 → a < 2 ^ 24 → n ≤ 3
    → 1 + 2 ^ 2 * k + 2 ^ 6 * f + 2 ^ 16 * a + 2 ^ 40 * n < 2 ^ 64
small_held k f a n kind frame arg few = omega arith

small : (v : Entry) → EntryFits v → word_of_entry v < 2 ^ 64
unfolding word_of_entry
small Free h = omega arith
small (Held cap) h =
    let n : IsNumbered cap.kind = numbered cap.kind in
    let last : end_of_arg cap.kind ≤ 2 ^ 24 = n.arg in
    let few : 3 - cap.rights ≤ 3 = omega arith in
    small_held (number_of_kind cap.kind) cap.frame cap.arg (3 - cap.rights) n.below h.0 (omega (arith, last, h.2)) few
small (Closing by) h = omega arith
small (Quiescing s) h = omega arith

pub spelling : IsOneSpelling EntryFits word_of_entry entry_of_word
unfolding Spells
spelling = record { reads = reads; spells = spells; small = small }

-- what `unpack` says of the value read from a word
pub entry_reads : (o : Option Entry) (w : ℕ) → o ≡ entry_of_word w → (v : Entry) → EntryFits v → word_of_entry v ≡ w → o ≡ Some v
entry_reads = spelling_reads spelling

pub entry_spells : (o : Option Entry) (w : ℕ) → o ≡ entry_of_word w → IfSome o (λ v. EntryFits v × (word_of_entry v ≡ w))
entry_spells = spelling_spells spelling

-- a capability that keeps fewer rights is within its ranges
pub kept_fits : (cap : Capability) (these : ℕ) → EntryFits (Held cap) → EntryFits (Held (kept_cap cap these))
kept_fits cap these h = (h.0, h.1, h.2, kept_above cap.kind cap.rights these h.3, kept_below cap.kind cap.rights these h.4)
