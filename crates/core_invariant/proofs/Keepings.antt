-- What a call holds of what it keeps beside its counts: of a word that is not among this nothing, and no word without a mark.
use Rattle.core_invariant.specs.{◌≡◌, ℕ, Bool, true, false, if◌then◌else◌, List, [], ◌∷◌, Option, Some, None, refl, Word, EntryAt, FrameAt}
use Rattle.core_invariant.specs.{CountAt, LiveAt, same_word, AtDraw, swept_of, PairAt, ListA, LoadB, ListB, CompareB, AgainB, CompAt}
use Rattle.core_invariant.specs.{KillingAt, Draw as kill_draw, MakingAt, Load as making_load, Mark, UntypingAt, Remove as remove_act}
use Rattle.core_invariant.specs.{Make as make_act, Kill as kill_act, Untype as untype_act, MakeComp as comp_act, Share as share_act}
use Rattle.core_invariant.specs.{Switch as switch_act, SwitchAt, Thaw, is_frozen, holds_act, thaw_of, Frozen.thawed, Frozen.holds_one}
use Rattle.core_invariant.specs.{Frozen.holds_all, Holding.Holding, ◌≢◌, ◌&&◌, length, ThawsFrame, ltb as nat_lt, leb as nat_le}
use Rattle.act_fits.specs.act_states.proofs.{ap, ◌∙◌, ne_eqb}
use Rattle.act_fits.specs.act_states.specs.{Keeping.Keeping, KeepsWord, KeepsCounters, phases_of, Untypings.untyping_keeps}
use Rattle.act_fits.specs.act_states.specs.{Makings.making_keeps, Kills.killing_keeps, Comps.comp_keeps, Shares.share_keeps}
use Rattle.act_fits.specs.act_states.specs.{Switches.switching_keeps, declared.work.Act.Act as ActOf}
use Rattle.act_fits.specs.stage_thread.specs.declared.claim.Claim.TheVariants.{AtStack}
use Rattle.core_invariant.proofs.Freezing.{SameAt, is_count, thaw_over, thaw_bare}

-- Whether a word is kept.
abbrev pub are_frozen : Option Thaw → Word → Bool
are_frozen None w = false
are_frozen (Some t) w = is_frozen t w

abbrev pub is_kept : Keeping → Word → Bool
is_kept (KeepsWord v x) w = same_word w v
is_kept (KeepsCounters o) w = are_frozen o w

abbrev pub IsBeside : Word → List Keeping → Type 0
IsBeside w [] = Unit {0}
IsBeside w (k ∷ ks) = (is_kept k w ≡ false) × IsBeside w ks

one_beside : (k : Keeping) (h : Holding) (w : Word) → is_kept k w ≡ false → SameAt (holds_one k h) h w
one_beside (KeepsWord v x) h w not = (ap (λ b. if b then true else h.marks w) not, ap (λ b. if b then x else h.stands w) not)
one_beside (KeepsCounters None) h w not = (refl, refl)
one_beside (KeepsCounters (Some t)) h w not =
    (ap (λ b. if b then true else h.marks w) not, ap (λ b. if b then thawed t w else h.stands w) not)

-- Of a word beside those that are kept nothing is held.
pub all_beside : (ks : List Keeping) (h : Holding) (w : Word) → IsBeside w ks → SameAt (holds_all ks h) h w
all_beside [] h w beside = (refl, refl)
all_beside (k ∷ ks) h w beside =
    let one = one_beside k (holds_all ks h) w beside.0 in
    let rest = all_beside ks h w beside.1 in
    (one.0 ∙ rest.0, one.1 ∙ rest.1)

-- What is held of a word does not depend on what is held before of others.
one_over : (k : Keeping) (h g : Holding) (w : Word) → SameAt h g w → SameAt (holds_one k h) (holds_one k g) w
one_over (KeepsWord v x) h g w same = (
  ap (λ b. if same_word w v then true else b) same.0,
  ap (λ (n : ℕ). if same_word w v then x else n) same.1,
)
one_over (KeepsCounters o) h g w same = thaw_over o h g w same

pub all_over : (ks : List Keeping) (h g : Holding) (w : Word) → SameAt h g w → SameAt (holds_all ks h) (holds_all ks g) w
all_over [] h g w same = same
all_over (k ∷ ks) h g w same = one_over k (holds_all ks h) (holds_all ks g) w (all_over ks h g w same)

pub act_over : (act : ActOf) (h g : Holding) (w : Word) → SameAt h g w → SameAt (holds_act act h) (holds_act act g) w
act_over act h g w same = all_over (phases_of act).keeps h g w same

-- No word is kept without a mark.
pub all_bare : (ks : List Keeping) (h : Holding) (f i : ℕ) → (holds_all ks h).bare f i ≡ h.bare f i
all_bare [] h f i = refl
all_bare (KeepsWord w x ∷ ks) h f i = all_bare ks h f i
all_bare (KeepsCounters o ∷ ks) h f i = thaw_bare o (holds_all ks h) f i ∙ all_bare ks h f i

pub act_bare : (act : ActOf) (h : Holding) (f i : ℕ) → (holds_act act h).bare f i ≡ h.bare f i
act_bare act h f i = all_bare (phases_of act).keeps h f i

-- Frozen counters are counts.
pub counts_beside : (o : Option Thaw) (w : Word) → is_count w ≡ false → are_frozen o w ≡ false
counts_beside (Some t) (CountAt f d) not = absurd (true_false not)
  where
    true_false : true ≡ false → ⊥
    true_false h = cc
counts_beside _ w not = refl

pub frozen_away : (o : Option Thaw) (f g d : ℕ) → ThawsFrame g o → f ≢ g → are_frozen o (CountAt f d) ≡ false
frozen_away None f g d of other = refl
frozen_away (Some t) f g d of other =
    ap (λ b. b && (nat_le t.at d && nat_lt d (length t.words))) (ne_eqb f t.frame (λ same. other (same ∙ of)))

-- A word that is neither one of a frame, nor a frame's word, nor a number's: a count, a core's word, a flush or the clock.
pub record IsApart (w : Word) : Type 0 where
  pub entries : (f i : ℕ) → same_word w (EntryAt f i) ≡ false
  pub frames : (f : ℕ) → same_word w (FrameAt f) ≡ false
  pub numbers : (l : ℕ) → same_word w (LiveAt l) ≡ false

-- It is none of the counters that an act has frozen.
abbrev pub SparesWordAt : UntypingAt → Word → Type 0
SparesWordAt UntypingAt.Load w = Unit {0}
SparesWordAt (UntypingAt.Mark word v) w = Unit {0}
SparesWordAt (UntypingAt.Sweep word x) w = are_frozen (thaw_of (swept_of x) false) w ≡ false
SparesWordAt (UntypingAt.Draw word x) w = are_frozen (thaw_of x false) w ≡ false

abbrev pub SparesWord : ActOf → Word → Type 0
SparesWord (untype_act m) w = SparesWordAt m.at w
SparesWord act w = Unit {0}

-- A word that is no count is none of them.
pub plain_spared : (act : ActOf) (w : Word) → is_count w ≡ false → SparesWord act w
plain_spared (untype_act m) w not = by m.at
  where
    by : (at : UntypingAt) → SparesWordAt at w
    by (UntypingAt.Sweep word x) = counts_beside (thaw_of (swept_of x) false) w not
    by (UntypingAt.Draw word x) = counts_beside (thaw_of x false) w not
    by _ = tt
plain_spared act w not = tt

-- Words of frames, numbers and counters are all that an act keeps.
pub act_beside : (act : ActOf) (w : Word) → IsApart w → SparesWord act w → IsBeside w (phases_of act).keeps
act_beside (remove_act (AtDraw node index) cap) w apart spares = (apart.entries node index, tt)
act_beside (make_act m) w apart spares = by m.at
  where
    by : (at : MakingAt) → IsBeside w (making_keeps m.frame at)
    by making_load = tt
    by (Mark word) = tt
    by at = (apart.frames m.frame, tt)
act_beside (kill_act m) w apart spares = by m.at
  where
    by : (at : KillingAt) → IsBeside w (killing_keeps at)
    by (kill_draw life word) = (apart.numbers life.number, tt)
    by at = tt
act_beside (untype_act m) w apart spares = by m.at spares
  where
    by : (at : UntypingAt) → SparesWordAt at w → IsBeside w (untyping_keeps m.frame at)
    by (UntypingAt.Sweep word x) spared = (apart.frames m.frame, (spared, tt))
    by (UntypingAt.Draw word x) spared = (apart.frames m.frame, (spared, tt))
    by _ spared = tt
act_beside (comp_act m) w apart spares = by m.at
  where
    by : (at : CompAt) → IsBeside w (comp_keeps m at)
    by CompAt.Load = tt
    by (CompAt.Mark word) = tt
    by (CompAt.Store word last entry) = (apart.numbers m.number, (apart.frames m.frame, tt))
    by (CompAt.Fill word last) = (apart.numbers m.number, (apart.frames m.frame, tt))
    by at = (apart.frames m.frame, tt)
act_beside (share_act p) w apart spares = by p.at
  where
    by : (at : PairAt) → IsBeside w (share_keeps p at)
    by (ListA n) = (apart.entries p.a 0, tt)
    by LoadB = (apart.entries p.a 0, tt)
    by (ListB n) = (apart.entries p.a 0, tt)
    by CompareB = (apart.entries p.a 0, tt)
    by (AgainB r) = (apart.entries p.a 0, tt)
    by at = tt
act_beside (switch_act m) w apart spares = by m.at
  where
    by : (at : SwitchAt) → IsBeside w (switching_keeps m at)
    by (SwitchAt.Claim (AtStack f depth)) = (apart.entries f 0, tt)
    by (SwitchAt.LoadTable to) = (apart.entries to.thread 0, tt)
    by (SwitchAt.LoadPages to table) = (apart.entries to.thread 0, tt)
    by (SwitchAt.Leave to table pages) = (apart.entries to.thread 0, tt)
    by (SwitchAt.Draw to table pages) = (apart.entries to.thread 0, (apart.entries m.old 0, tt))
    by _ = tt
act_beside _ w apart spares = tt

-- The entries that an act keeps are those of a removal, of an act on two temporal capabilities and of a switch.
abbrev pub KeepsNoEntry : ActOf → Type 0
KeepsNoEntry (remove_act close cap) = ⊥
KeepsNoEntry (share_act p) = ⊥
KeepsNoEntry (switch_act m) = ⊥
KeepsNoEntry act = Unit {0}

pub entry_beside : (act : ActOf) (f i : ℕ) → KeepsNoEntry act → IsBeside (EntryAt f i) (phases_of act).keeps
entry_beside (make_act m) f i none = by m.at
  where
    by : (at : MakingAt) → IsBeside (EntryAt f i) (making_keeps m.frame at)
    by making_load = tt
    by (Mark word) = tt
    by at = (refl, tt)
entry_beside (kill_act m) f i none = by m.at
  where
    by : (at : KillingAt) → IsBeside (EntryAt f i) (killing_keeps at)
    by (kill_draw life word) = (refl, tt)
    by at = tt
entry_beside (untype_act m) f i none = by m.at
  where
    by : (at : UntypingAt) → IsBeside (EntryAt f i) (untyping_keeps m.frame at)
    by (UntypingAt.Sweep word x) = (refl, (counts_beside (thaw_of (swept_of x) false) (EntryAt f i) refl, tt))
    by (UntypingAt.Draw word x) = (refl, (counts_beside (thaw_of x false) (EntryAt f i) refl, tt))
    by _ = tt
entry_beside (comp_act m) f i none = by m.at
  where
    by : (at : CompAt) → IsBeside (EntryAt f i) (comp_keeps m at)
    by CompAt.Load = tt
    by (CompAt.Mark word) = tt
    by (CompAt.Store word last entry) = (refl, (refl, tt))
    by (CompAt.Fill word last) = (refl, (refl, tt))
    by at = (refl, tt)
entry_beside (remove_act close cap) f i none = absurd none
entry_beside (share_act p) f i none = absurd none
entry_beside (switch_act m) f i none = absurd none
entry_beside act f i none = tt
