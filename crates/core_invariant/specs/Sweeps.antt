-- What a call knows that makes a frame untyped: of the frame's word, of the counters that it has frozen, of those who may still use the
-- frame, and of the object in it.
use Rattle.act_fits.specs.act_states.specs as low
use Rattle.std.specs.Prelude.{◌≡◌, ◌≢◌, ◌<◌, ◌≤◌, ◌&&◌, ◌==◌, ◌∷◌, ◌++◌, if◌then◌else◌}
use low.{ltb as nat_lt, leb as nat_le, ℕ, Bool, true, false, All, List, [], length, Option, Some}
use low.{None, IsTrue, Capability, Setting, Call, Retype, CountFits, word_of_count, frame_of_word, residue, CountWord}
use low.{FrameWord, CountAt, FrameAt, Frame, Kernel, Table, Leaf, Pages, Pleaf, Comp, Thread, Tcap, FrameOf, State, found, held_in}
use low.{has_frame, frame_names, unheld, Acquired, Quiet, AtCore, AtFlush, sum_of_counts, latest_stamp, loads_of, may_be_cached, Owned}
use low.{Sweep, SweepAt, Load as sweep_load, Compare, Scan, Empty, Swept, Thaw}
use Rattle.kernel_history.specs.{counters, counts_references, clock, stamp, state_after, own_read}
use low.declared.untypings.UntypingAt.TheVariants.{Load, Mark, Sweep as sweep_at, Draw}
use Rattle.{kernel_history.specs.spk_nums.specs.declared.kinds.FrameKind.TheVariants.Untyped, kernel_history.specs.Trace.Trace}
use low.{declared.untypings.Release.Release, declared.untypings.UntypingAt.UntypingAt, declared.untypings.Untyping.Untyping}

-- The call makes this frame untyped, which the range has to which its name has led.
pub record IsUntyped (f : ℕ) (m : Untyping) (has : Bool) : Type 0 where
  pub frame : m.frame ≡ f
  pub within : has ≡ true

abbrev pub UntypesBy : Call → List Capability → Untyping → Type 0
UntypesBy (Retype r f Untyped) (range ∷ []) m = IsUntyped f m (has_frame (found range) f)
UntypesBy call ks m = ⊥

-- The frame's word as it was found says that it is this: a user frame or a kernel frame, which no core has marked.
pub record SaysTyped (word : ℕ) (v : FrameWord) : Type 0 where
  pub says : frame_of_word word ≡ Some v
  pub mark : v.mark ≡ None
  pub kind : v.kind ≢ Untyped

-- Before the compare that marks it, the call's last step on the frame's word has read there this word.
pub record HasMetTyped (t : Trace) (c f word : ℕ) (v : FrameWord) : Type 0 where
  pub own : own_read t c (FrameAt f) ≡ Some word
  pub met : SaysTyped word v

-- Before the compare that freezes a counter, the call's last step on it has read there the count that is expected.
pub record HasReadCount (t : Trace) (c f d : ℕ) (v : CountWord) : Type 0 where
  pub own : own_read t c (CountAt f d) ≡ Some (word_of_count v)
  pub fits : CountFits v

-- The counters were found within their ranges.
abbrev pub AreKept : List CountWord → Type 0
AreKept kept = All (λ v. CountFits (unheld v.count v.stamp)) kept

-- All counters of the frame are frozen, and no reference to it stands: they sum to 0, modulo 2 ^ 16.
pub record AreFrozen (cores : ℕ) (kept : List CountWord) : Type 0 where
  pub all : length kept ≡ length (counters cores)
  pub none : residue (sum_of_counts kept) ≡ 0

-- A stamp is past, and while it is the frame's, no core below `upto` waits for the frame, but for c, and none below `flushes` is to flush
-- it.
pub record IsQuiet (setup : Setting) (t : Trace) (c f at upto flushes : ℕ) : Type 0 where
  pub past : at < clock setup t
  pub passed : (d : ℕ) → d < upto → d ≢ c → stamp setup t (FrameOf f) ≡ at → ((state_after setup t).grace (FrameOf f)).waits d ≡ false
  pub flushed : (d : ℕ) → d < flushes → stamp setup t (FrameOf f) ≡ at → ((state_after setup t).grace (FrameOf f)).unflushed d ≡ false

-- A node of which the first entries were looked at holds nothing there.
abbrev pub HoldsNone : State → ℕ → ℕ → Type 0
HoldsNone s f upto = (i : ℕ) → i < upto → held_in (s.place f i) ≡ None

-- A component of which the first words were looked at names these frames.
pub record NamesFields (table pages upto : ℕ) (o : Owned) : Type 0 where
  pub first : 1 ≤ upto → o.first ≡ Some table
  pub second : 2 ≤ upto → o.second ≡ Some pages

-- A thread of which the first words were looked at is in one component alone, which is this.
pub record NamesBottom (comps : List ℕ) (upto : ℕ) (o : Owned) : Type 0 where
  pub single : 1 ≤ upto → length comps ≡ 1
  pub bottom : ℕ
  pub first : 2 ≤ upto → o.first ≡ Some bottom
  pub stack : 2 ≤ upto → comps ≡ bottom ∷ []

-- What is known of an object of which the first words were looked at, and have named these frames.
abbrev pub IsLookedAt : State → ℕ → Frame → ℕ → Owned → Type 0
IsLookedAt s f (Kernel Table) upto o = HoldsNone s f upto
IsLookedAt s f (Kernel Leaf) upto o = HoldsNone s f upto
IsLookedAt s f (Kernel Pages) upto o = HoldsNone s f upto
IsLookedAt s f (Kernel Pleaf) upto o = HoldsNone s f upto
IsLookedAt s f (Kernel (Comp k)) upto o = NamesFields k.table k.pages upto o
IsLookedAt s f (Kernel (Thread k)) upto o = NamesBottom k.stack upto o
IsLookedAt s f (Kernel (Tcap q)) upto o = 1 ≤ upto → q.budget ≡ 0
IsLookedAt s f _ upto o = Unit {0}

-- The frames that an object itself names, as they were found.
abbrev pub names_of : Option ℕ → Option ℕ → List ℕ
names_of None None = []
names_of None (Some g) = g ∷ []
names_of (Some f) None = f ∷ []
names_of (Some f) (Some g) = f ∷ g ∷ []

-- The frame is swept: its counters are frozen, nobody else may use it, and so much of its object was looked at.
pub record IsSwept (setup : Setting) (t : Trace) (c f : ℕ) (kept : List CountWord) (upto : ℕ) (o : Owned) : Type 0 where
  pub frozen : AreFrozen setup.cores kept
  pub quiet : IsQuiet setup t c f (latest_stamp kept) setup.cores setup.cores
  pub looked : IsLookedAt (state_after setup t) f ((state_after setup t).frame f) upto o

-- A sweep that scans: the core words before this one were scanned, and so many flush words, for the latest stamp of the counters.
pub record IsScanning (setup : Setting) (t : Trace) (c f : ℕ) (w : Sweep) (at by upto flushes : ℕ) (paged : Bool) : Type 0 where
  pub frozen : AreFrozen setup.cores w.kept
  pub core : by ≡ c
  pub stamp : at ≡ latest_stamp w.kept
  pub some : 1 ≤ at
  pub quiet : IsQuiet setup t c f at upto flushes
  pub page : paged ≡ may_be_cached w.word.kind w.word.object

abbrev pub KnowsSweepScan : Setting → Trace → ℕ → ℕ → Sweep → Quiet → Type 0
KnowsSweepScan setup t c f w (AtCore at by upto page) = IsScanning setup t c f w at by upto 0 page
KnowsSweepScan setup t c f w (AtFlush at upto) = IsScanning setup t c f w at c setup.cores upto true

abbrev pub KnowsSweepAt : Setting → Trace → ℕ → ℕ → Sweep → SweepAt → Type 0
KnowsSweepAt setup t c f w sweep_load = Unit {0}
KnowsSweepAt setup t c f w (Compare count stamp) = HasReadCount t c f (length w.kept) (unheld count stamp)
KnowsSweepAt setup t c f w (Scan q) = KnowsSweepScan setup t c f w q
KnowsSweepAt setup t c f w (Empty entry) = IsSwept setup t c f w.kept entry w.owned

-- A sweep is of the frame, by the call's own core; the frame's word is the one that was found, and so are the frozen counters.
pub record KnowsSweep (setup : Setting) (t : Trace) (c f word : ℕ) (w : Sweep) : Type 0 where
  pub frame : w.frame ≡ f
  pub core : w.core ≡ c
  pub met : SaysTyped word w.word
  pub kept : AreKept w.kept
  pub at : KnowsSweepAt setup t c f w w.at

-- Before the draw the whole object was looked at, and what it names itself is known.
pub record KnowsSwept (setup : Setting) (t : Trace) (c f word : ℕ) (w : Swept) : Type 0 where
  pub frame : w.frame ≡ f
  pub shown : FrameWord
  pub met : SaysTyped word shown
  pub kept : AreKept w.words
  pub swept : IsSwept setup t c f w.words (loads_of shown.object) w.owned
  pub names : names_of w.owned.first w.owned.second ≡ frame_names ((state_after setup t).frame f)

abbrev pub KnowsUntypingAt : Setting → Trace → ℕ → ℕ → UntypingAt → Type 0
KnowsUntypingAt setup t c f Load = Unit {0}
KnowsUntypingAt setup t c f (Mark word v) = HasMetTyped t c f word v
KnowsUntypingAt setup t c f (sweep_at word w) = KnowsSweep setup t c f word w
KnowsUntypingAt setup t c f (Draw word w) = KnowsSwept setup t c f word w

pub record KnowsUntyping (setup : Setting) (t : Trace) (c : ℕ) (call : Call) (ks : List Capability) (m : Untyping) : Type 0 where
  pub untypes : UntypesBy call ks m
  pub core : m.core ≡ c
  pub at : KnowsUntypingAt setup t c m.frame m.at

-- The counters that are still to be released are those of the frame whose word is then stored, and no count that the call has acquired is
-- one of them; the call makes that frame untyped.
abbrev pub ThawsFrame : ℕ → Option Thaw → Type 0
ThawsFrame f None = Unit {0}
ThawsFrame f (Some t) = t.frame ≡ f

pub record KnowsRelease (call : Call) (counts : List Acquired) (x : Release) : Type 0 where
  pub range : ℕ
  pub retypes : call ≡ Retype range x.frame Untyped
  pub counting : IsTrue (counts_references call)
  pub thaws : ThawsFrame x.frame x.thaw
  pub apart : All (λ y. y.pin.frame ≢ x.frame) counts
