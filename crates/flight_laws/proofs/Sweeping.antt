-- A call that makes a frame untyped looks at the object in it. What it finds held in the entry of a node refuses it; so a word of the frame
-- that it reads and goes on from, and that says that something is held, is of no node.
use Rattle.time_laws.specs as low
use low.step_ways.proofs.{◌≡◌, ℕ, ℤ, ◌+◌, leb as nat_le, Bool, true, false, List, [], ◌∷◌, length, slice_get, Option, Some, None, refl, sym}
use low.step_ways.proofs.{◌∙◌, ap, subst, eq-eqb, false≢true, Capability, Setting, Call, Retype, Obj, Reply, StageEnd, entry_of_word}
use low.step_ways.proofs.{frame_of_word, FrameWord, Word, EntryAt, FrameAt, word_of, Frame, Untyped, Kernel, Blank, Table, Leaf, Pages}
use low.step_ways.proofs.{Pleaf, is_node, frame_value, Trace, Open, phase, state_after, last_left, open_inj, shown_in, Pin, AtCore, end_by}
use low.step_ways.proofs.{swept_of, Sweep, SweepAt, Empty, Swept, dues, took_sweep, release_of, Own, UntypingAt, Untyping, Untype, Due}
use low.step_ways.proofs.{Work, Lookup, Read, Scan, Acquire, Act, absorbed, absorbed_in, core_after, told_by, told_in, landed, stage_move}
use low.step_ways.proofs.{Core, ActiveCall, Stage, Enter, Living, Undecided, Decided, Leave, holds_untyping, Holding, holds_counts, settled}
use low.step_ways.proofs.{settled_by, Invariant, held_by, holds_act, holds_at, holds_in, CallIs, KnowsAt, phase_at, KnowsSweep}
use low.step_ways.proofs.{KnowsUntypingAt, UntypesBy, Acquires, move_in, told_of_step, took_at, took_count, FrameKind, Entry, Absorbed}
use low.act_states.specs.{end_of_frames, AtLoad, pin_after, pin_end, Pinned, move_at, Scan as sweep_scan}
use low.act_states.specs.{acquires, took_untyping_at, untyping_at}
use low.stage_sweep.specs.{empty_refuses, entry_refuses, refuses_at, sweep_after, sweep_end, sweep_kept, sweep_next, sweep_refuses}
use low.{stage_look.specs.entry_within, stage_look.specs.held_if, stage_pins.specs.declared.pin.Pin.TheVariants.AtCompare as pin_compare}
use low.{act_states.specs.declared.work.Act.Act as ActOf, core_invariant.proofs.Freezing.release_frame, history_laws.specs.Frames.untypes}
use low.{history_laws.specs.Frames.asks_untyped}
use Rattle.time_laws.specs.act_states.specs.declared.untypings.UntypingAt.TheVariants as untype

-- Whether an object is a node, and whether a frame's word says so.
abbrev is_node_object : Obj → Bool
is_node_object Obj.Table = true
is_node_object Obj.Leaf = true
is_node_object Obj.Pages = true
is_node_object Obj.Pleaf = true
is_node_object _ = false

abbrev is_node_word : Option FrameWord → Bool
is_node_word None = false
is_node_word (Some v) = is_node_object v.object

node_value : (x : Frame) → is_node_object (frame_value x).object ≡ is_node x
node_value (Kernel Blank) = refl
node_value _ = refl

-- The act that makes a frame untyped, at which a call stands, and the frame's word as it was found, from when it is marked.
abbrev untyping_act : ActOf → Option Untyping
untyping_act (Untype m) = Some m
untyping_act _ = None

abbrev pub untyping_in : Work → Option Untyping
untyping_in (Lookup look) = None
untyping_in (Read comp look) = None
untyping_in (Scan q act) = None
untyping_in (Acquire pin change act) = untyping_act act
untyping_in (Act act) = untyping_act act

abbrev pub untyping_of : Stage → Option Untyping
untyping_of Enter = None
untyping_of (Living alive) = None
untyping_of (Undecided work) = untyping_in work
untyping_of (Decided r drawn tail) = None
untyping_of (Leave r x) = None

abbrev word_found : UntypingAt → Option ℕ
word_found untype.Load = None
word_found (untype.Mark word v) = None
word_found (untype.Sweep word w) = Some word
word_found (untype.Draw word w) = Some word

-- A call is making this frame untyped, has marked its word, and that says that it is no node.
pub record IsSweptIn (a : ActiveCall) (f : ℕ) : Type 0 where
  pub act : Untyping
  pub at : untyping_of a.stage ≡ Some act
  pub frame : act.frame ≡ f
  pub word : ℕ
  pub found : word_found act.at ≡ Some word
  pub plain : is_node_word (frame_of_word word) ≡ false

abbrev pub IsSwept : Option ActiveCall → ℕ → Type 0
IsSwept None f = ⊥
IsSwept (Some a) f = IsSweptIn a f

none_some : {A : Type 0} (x : A) → None ≡ Some x → ⊥
none_some x h = cc

some_act : (m n : Untyping) → Some m ≡ Some n → m ≡ n
some_act m n h = cc

act_is : (act : ActOf) (m : Untyping) → untyping_act act ≡ Some m → act ≡ Untype m
act_is (Untype m) n is = ap (λ x. Untype x) (some_act m n is)
act_is act n is = absurd (none_some n is)

not_going : (r : Reply) → Absorbed.Decided r ≡ Absorbed.Going → ⊥
not_going r h = cc

-- What a core knows that goes on at such an act.
module _ (own : Own) (a : ActiveCall) (f : ℕ) where
  -- from the act, where the word stays
  from_act : (act : Untyping) (word : ℕ) → act.frame ≡ f → is_node_word (frame_of_word word) ≡ false → (at : UntypingAt)
      → word_found at ≡ Some word → (found : ℕ)
      → told_by (landed a (took_untyping_at own.layout act at found)) ≡ Absorbed.Going
      → IsSwept (core_after own (landed a (took_untyping_at own.layout act at found))).active f
  from_act act word same plain (untype.Draw x w) is found goes = absurd (not_going _ goes)
  from_act act word same plain (untype.Sweep x w) is found goes = by (sweep_end own.layout w found) goes
    where
      by : (e : StageEnd Swept) → told_by (landed a (took_sweep act x (sweep_after own.layout w found) e)) ≡ Absorbed.Going
          → IsSwept (core_after own (landed a (took_sweep act x (sweep_after own.layout w found) e))).active f
      by StageEnd.Going goes = record {
        act = record act { at = untype.Sweep x (sweep_after own.layout w found) };
        at = refl;
        frame = same;
        word = word;
        found = is;
        plain = plain;
      }
      by (StageEnd.Decided r) goes = absurd (not_going _ goes)
      by (StageEnd.Refuse r) goes = absurd (not_going _ goes)
      by (StageEnd.Done swept) goes = by_due (slice_get (dues (Untype drawing)) 0)
        where
          drawing : Untyping
          drawing = record act { at = untype.Draw x swept }

          by_due : (o : Option Due)
              → IsSweptIn (record a { steps = a.steps + 1; stage = Undecided (acquires act.core (Untype drawing) o) }) f
          by_due None = record { act = drawing; at = refl; frame = same; word = word; found = is; plain = plain }
          by_due (Some due) = record { act = drawing; at = refl; frame = same; word = word; found = is; plain = plain }
  from_act act word same plain _ is found goes = absurd (none_some word is)

  -- from the acquiring of a count
  from_count : (core n : ℕ) (change : ℤ) (act : Untyping) (word : ℕ) → act.frame ≡ f → is_node_word (frame_of_word word) ≡ false
      → word_found act.at ≡ Some word → (pin : Pin) (e : StageEnd Pinned)
      → told_by (landed a (took_count core n change (Untype act) pin e)) ≡ Absorbed.Going
      → IsSwept (core_after own (landed a (took_count core n change (Untype act) pin e))).active f
  from_count core n change act word same plain is pin StageEnd.Going goes =
      record { act = act; at = refl; frame = same; word = word; found = is; plain = plain }
  from_count core n change act word same plain is pin (StageEnd.Done p) goes = by (slice_get (dues (Untype act)) (n + 1))
    where
      by : (o : Option Due) → IsSwept (core_after own (landed a
          (Acquires (record { pin = p; change = change })
          (acquires core (Untype act) o)))).active f
      by None = record { act = act; at = refl; frame = same; word = word; found = is; plain = plain }
      by (Some due) = record { act = act; at = refl; frame = same; word = word; found = is; plain = plain }
  from_count core n change act word same plain is pin _ goes = absurd (not_going _ goes)

  by_work : (work : Work) (m : Untyping) → untyping_in work ≡ Some m → (word : ℕ) → m.frame ≡ f → word_found m.at ≡ Some word
      → is_node_word (frame_of_word word) ≡ false → (found : ℕ)
      → told_by (took_at own a (Undecided work) found) ≡ Absorbed.Going
      → IsSwept (core_after own (took_at own a (Undecided work) found)).active f
  by_work (Acquire pin change act) m is word same shown plain found goes =
      subst (λ x. told_by (took_at own a (Undecided (Acquire pin change x)) found) ≡ Absorbed.Going
      → IsSwept (core_after own (took_at own a (Undecided (Acquire pin change x)) found)).active f) (sym (act_is act m is))
      (from_count own.core (length a.counts) change m word same plain shown (pin_after pin found) (pin_end pin found)) goes
  by_work (Act act) m is word same shown plain found goes =
      subst (λ x. told_by (took_at own a (Undecided (Act x)) found) ≡ Absorbed.Going
      → IsSwept (core_after own (took_at own a (Undecided (Act x)) found)).active f) (sym (act_is act m is))
      (from_act m word same plain m.at shown found) goes
  by_work _ m is word same shown plain found goes = absurd (none_some m is)

  by_stage : (stage : Stage) (m : Untyping) → untyping_of stage ≡ Some m → (word : ℕ) → m.frame ≡ f → word_found m.at ≡ Some word
      → is_node_word (frame_of_word word) ≡ false → (found : ℕ) → told_by (took_at own a stage found) ≡ Absorbed.Going
      → IsSwept (core_after own (took_at own a stage found)).active f
  by_stage (Undecided work) m is word same shown plain found goes = by_work work m is word same shown plain found goes
  by_stage _ m is word same shown plain found goes = absurd (none_some m is)

-- It stays so while the call goes on.
swept_in_on : (own : Own) (o : Option ActiveCall) (f found : ℕ) → IsSwept o f → told_in own o found ≡ Absorbed.Going
    → IsSwept (absorbed_in own o found).active f
swept_in_on own None f found has goes = absurd has
swept_in_on own (Some a) f found has goes =
    by_stage own a f a.stage has.act has.at has.word has.frame has.found has.plain found goes

pub swept_on : (core : Core) (f found : ℕ) → IsSwept core.active f → told_of_step core found ≡ Absorbed.Going
    → IsSwept (absorbed core found).active f
swept_on core f found has goes = swept_in_on core.own core.active f found has goes

-- A word of a node's entry which says that something is held refuses the call.
refuses_held : (frames : ℕ) (o : Obj) (at found : ℕ) (k : Capability) → entry_of_word found ≡ Some (Entry.Held k)
    → is_node_object o ≡ true → empty_refuses frames o at found ≡ None → ⊥
refuses_held frames o at found k held node none = by o node none
  where
    shown : entry_refuses (shown_in frames found) ≡ None → ⊥
    shown none = by_within (nat_le (end_of_frames k.kind k.frame k.arg) frames)
        (ap (λ x. entry_refuses (entry_within frames x)) (sym held) ∙ none)
      where
        by_within : (b : Bool) → entry_refuses (held_if b k) ≡ None → ⊥
        by_within true h = cc
        by_within false h = cc

    by : (o : Obj) → is_node_object o ≡ true → empty_refuses frames o at found ≡ None → ⊥
    by Obj.Table node none = shown none
    by Obj.Leaf node none = shown none
    by Obj.Pages node none = shown none
    by Obj.Pleaf node none = shown none
    by _ node none = absurd (false≢true node)

-- A load of an entry by which a call looks at an object, and goes on, though it has found there that something is held: the frame is no
-- node.
module _ (setup : Setting) (t : Trace) (c : ℕ) (own : Own) (a : ActiveCall) (m : Untyping) (f i found : ℕ) (k : Capability)
    (held : entry_of_word found ≡ Some (Entry.Held k)) where
  -- what it leads to
  abbrev Leads : UntypingAt → Type 0
  Leads at = told_by (landed a (took_untyping_at own.layout m at found)) ≡ Absorbed.Going
      → IsSwept (core_after own (landed a (took_untyping_at own.layout m at found))).active f

  same_frame : (g j : ℕ) → EntryAt g j ≡ EntryAt f i → g ≡ f
  same_frame g j h = cc

  at_entry : (word entry_no : ℕ) (w : Sweep) → w.at ≡ Empty entry_no → KnowsSweep setup t c m.frame word w → w.frame ≡ f
      → Leads (untype.Sweep word w)
  at_entry word entry_no w at_is knows same goes = by (is_node_object w.word.object) refl
    where
      refused : (o : Option Reply) → sweep_refuses own.layout w found ≡ o → is_node_object w.word.object ≡ true → ⊥
      refused None none node = refuses_held own.layout.frames w.word.object entry_no found k held node
          (ap (λ x. refuses_at own.layout w.word.object (sweep_kept w found) x found) (sym at_is) ∙ none)
      refused (Some r) some node = not_going _ (subst
          (λ o. told_by (landed a (took_sweep m word (sweep_after own.layout w found)
          (end_by o (sweep_next own.layout w found) (swept_of (sweep_after own.layout w found))))) ≡ Absorbed.Going) some goes)

      by : (b : Bool) → is_node_object w.word.object ≡ b
          → IsSwept (core_after own (landed a (took_untyping_at own.layout m (untype.Sweep word w) found))).active f
      by true node = absurd (refused (sweep_refuses own.layout w found) refl node)
      by false plain = from_act own a f m word (sym knows.frame ∙ same) (ap is_node_word knows.met.says ∙ plain) (untype.Sweep word w) refl
          found goes

  at_sweep : (word : ℕ) (w : Sweep) → KnowsSweep setup t c m.frame word w → (at : SweepAt) → w.at ≡ at
      → word_of (move_at w.frame w.core (length w.kept) at) ≡ EntryAt f i → Leads (untype.Sweep word w)
  at_sweep word w knows (sweep_scan (AtCore x by at page)) is on goes = absurd (cc)
  at_sweep word w knows (Empty entry_no) is on goes = at_entry word entry_no w is knows (same_frame w.frame entry_no on) goes
  at_sweep word w knows _ is on goes = absurd (cc)

  at_act : (at : UntypingAt) → KnowsUntypingAt setup t c m.frame at → word_of (untyping_at m.frame m.core at) ≡ EntryAt f i → Leads at
  at_act (untype.Sweep word w) knows on goes = at_sweep word w knows w.at refl on goes
  at_act _ knows on goes = absurd (cc)

-- The frame of such an act is none.
holds_word : (f : ℕ) (at : UntypingAt) (word : ℕ) → word_found at ≡ Some word → (h : Holding)
    → ((holds_untyping f at h).marks (FrameAt f) ≡ true) × ((holds_untyping f at h).stands (FrameAt f) ≡ word)
holds_word f (untype.Sweep x w) word is h =
    let frame = release_frame (release_of f x (swept_of w) false) h in (frame.0, frame.1 ∙ same_word x word is)
  where
    same_word : (x y : ℕ) → Some x ≡ Some y → x ≡ y
    same_word x y h = cc
holds_word f (untype.Draw x w) word is h =
    let frame = release_frame (release_of f x w false) h in (frame.0, frame.1 ∙ same_word x word is)
  where
    same_word : (x y : ℕ) → Some x ≡ Some y → x ≡ y
    same_word x y h = cc
holds_word f _ word is h = absurd (none_some word is)

holds_stage_word : (a : ActiveCall) (m : Untyping) (stage : Stage) → untyping_of stage ≡ Some m → (word : ℕ) → word_found m.at ≡ Some word
    → ((holds_at stage a.counts).marks (FrameAt m.frame) ≡ true) × ((holds_at stage a.counts).stands (FrameAt m.frame) ≡ word)
holds_stage_word a m (Undecided (Acquire pin change act)) is word shown =
    subst (λ x. ((holds_act x (holds_counts None a.counts)).marks (FrameAt m.frame) ≡ true)
    × ((holds_act x (holds_counts None a.counts)).stands (FrameAt m.frame) ≡ word)) (sym (act_is act m is))
    (holds_word m.frame m.at word shown (holds_counts None a.counts))
holds_stage_word a m (Undecided (Act act)) is word shown =
    subst (λ x. ((holds_act x (holds_counts None a.counts)).marks (FrameAt m.frame) ≡ true)
    × ((holds_act x (holds_counts None a.counts)).stands (FrameAt m.frame) ≡ word)) (sym (act_is act m is))
    (holds_word m.frame m.at word shown (holds_counts None a.counts))
holds_stage_word a m _ is word shown = absurd (none_some m is)

pub swept_no_node : (setup : Setting) (cores : ℕ → Core) (t : Trace) → Invariant setup cores t → (c f : ℕ) → IsSwept (cores c).active f
    → is_node ((state_after setup t).frame f) ≡ false
swept_no_node setup cores t stands c f has = by (cores c).active refl has
  where
    by : (o : Option ActiveCall) → (cores c).active ≡ o → IsSwept o f → is_node ((state_after setup t).frame f) ≡ false
    by None active has = absurd has
    by (Some a) active has =
        subst (λ (n : ℕ). is_node ((state_after setup t).frame n) ≡ false) has.frame
        (let held = holds_stage_word a has.act a.stage has.at has.word has.found in
        let w : Word = FrameAt has.act.frame in
        let mine : (held_by cores c).marks w ≡ true = ap (λ o. (holds_in o).marks w) active ∙ held.0 in
        let settled_is : settled setup (held_by cores) t w ≡ has.word =
        ap (λ o. settled_by o (held_by cores) w (last_left setup t w)) ((stands.marks w c).kept mine)
        ∙ ap (λ o. (holds_in o).stands w) active ∙ held.1 in
        let says : frame_of_word has.word ≡ Some (frame_value ((state_after setup t).frame has.act.frame)) =
        subst (λ (n : ℕ). frame_of_word n ≡ Some (frame_value ((state_after setup t).frame has.act.frame))) settled_is (stands.words w) in
        sym (node_value ((state_after setup t).frame has.act.frame)) ∙ ap is_node_word (sym says) ∙ has.plain)

-- The act at which a core stands that makes a frame untyped.
abbrev pub untyping_now : Option ActiveCall → Option Untyping
untyping_now None = None
untyping_now (Some a) = untyping_of a.stage

untypes_true : (call : Call) (ks : List Capability) (m : Untyping) → UntypesBy call ks m → untypes call ≡ true
untypes_true (Retype r f FrameKind.Untyped) (range ∷ []) m is = refl
untypes_true _ _ m is = absurd is

-- Such a core steps on an entry only where its call looks at the object: the call makes a frame untyped, and an entry that it goes on from,
-- though it says that something is held, is of no node.
module _ (setup : Setting) (t : Trace) (c table : ℕ) (own : Own) (call : Call) (is_open : phase t c ≡ Open call) (f i : ℕ) where
  its_call : (a : ActiveCall) → phase t c ≡ Open a.call → untypes a.call ≡ true → untypes call ≡ true
  its_call a phase_is is = ap untypes (open_inj call a.call (sym phase_is ∙ is_open)) ∙ is

  stage_untypes : (a : ActiveCall) (m : Untyping) (stage : Stage) → phase t c ≡ phase_at a.call stage → KnowsAt setup t c table a stage
      → word_of (stage_move own a.counts stage) ≡ EntryAt f i → untyping_of stage ≡ Some m → untypes call ≡ true
  stage_untypes a m (Undecided (Acquire (AtLoad frame core) change act)) at has on is = absurd (cc)
  stage_untypes a m (Undecided (Acquire (pin_compare frame core count stamp) change act)) at has on is = absurd (cc)
  stage_untypes a m (Undecided (Act (Untype n))) at has on is =
      its_call a at (untypes_true a.call a.found n has.knows.knows.untypes)
  stage_untypes a m _ at has on is = absurd (none_some m is)

  pub looks_untypes : (o : Option ActiveCall) → CallIs setup t c table o → word_of (move_in own o) ≡ EntryAt f i → (m : Untyping)
      → untyping_now o ≡ Some m → untypes call ≡ true
  looks_untypes None has on m is = absurd (none_some m is)
  looks_untypes (Some a) has on m is = stage_untypes a m a.stage has.phase has.knows on is

  -- the entry is one of the frame that the call is asked to make untyped
  frame_there : (g j : ℕ) → EntryAt g j ≡ EntryAt f i → g ≡ f
  frame_there g j h = cc

  untypes_asked : (asked : Call) (ks : List Capability) (m : Untyping) → UntypesBy asked ks m → m.frame ≡ f → asks_untyped asked f ≡ true
  untypes_asked (Retype r g FrameKind.Untyped) (range ∷ []) m is same = eq-eqb f g (sym same ∙ is.frame)
  untypes_asked _ _ m is same = absurd is

  at_frame : (m : Untyping) (at : UntypingAt) → KnowsUntypingAt setup t c m.frame at → word_of (untyping_at m.frame m.core at) ≡ EntryAt f i
      → m.frame ≡ f
  at_frame m (untype.Sweep word w) knows on = by_sweep w.at on
    where
      by_sweep : (at : SweepAt) → word_of (move_at w.frame w.core (length w.kept) at) ≡ EntryAt f i → m.frame ≡ f
      by_sweep (sweep_scan (AtCore x by at page)) on = absurd (cc)
      by_sweep (Empty entry_no) on = sym knows.frame ∙ frame_there w.frame entry_no on
      by_sweep _ on = absurd (cc)
  at_frame m _ knows on = absurd (cc)

  stage_asks : (a : ActiveCall) (m : Untyping) (stage : Stage) → phase t c ≡ phase_at a.call stage → KnowsAt setup t c table a stage
      → word_of (stage_move own a.counts stage) ≡ EntryAt f i → untyping_of stage ≡ Some m → asks_untyped call f ≡ true
  stage_asks a m (Undecided (Acquire (AtLoad frame core) change act)) at has on is = absurd (cc)
  stage_asks a m (Undecided (Acquire (pin_compare frame core count stamp) change act)) at has on is = absurd (cc)
  stage_asks a m (Undecided (Act (Untype n))) at has on is =
      ap (λ k. asks_untyped k f) (open_inj call a.call (sym at ∙ is_open))
      ∙ untypes_asked a.call a.found n has.knows.knows.untypes (at_frame n n.at has.knows.knows.at on)
  stage_asks a m _ at has on is = absurd (none_some m is)

  pub looks_asked : (o : Option ActiveCall) → CallIs setup t c table o → word_of (move_in own o) ≡ EntryAt f i → (m : Untyping)
      → untyping_now o ≡ Some m → asks_untyped call f ≡ true
  looks_asked None has on m is = absurd (none_some m is)
  looks_asked (Some a) has on m is = stage_asks a m a.stage has.phase has.knows on is

  stage_swept : (a : ActiveCall) (m : Untyping) (stage : Stage) → KnowsAt setup t c table a stage
      → word_of (stage_move own a.counts stage) ≡ EntryAt f i → untyping_of stage ≡ Some m → (found : ℕ) (k : Capability)
      → entry_of_word found ≡ Some (Entry.Held k) → told_by (took_at own a stage found) ≡ Absorbed.Going
      → IsSwept (core_after own (took_at own a stage found)).active f
  stage_swept a m (Undecided (Acquire (AtLoad frame core) change act)) has on is found k held goes = absurd (cc)
  stage_swept a m (Undecided (Acquire (pin_compare frame core count stamp) change act)) has on is found k held goes = absurd (cc)
  stage_swept a m (Undecided (Act (Untype n))) has on is found k held goes =
      at_act setup t c own a n f i found k held n.at has.knows.knows.at on goes
  stage_swept a m _ has on is found k held goes = absurd (none_some m is)

  pub looks_swept : (o : Option ActiveCall) → CallIs setup t c table o → word_of (move_in own o) ≡ EntryAt f i → (m : Untyping)
      → untyping_now o ≡ Some m → (found : ℕ) (k : Capability) → entry_of_word found ≡ Some (Entry.Held k)
      → told_in own o found ≡ Absorbed.Going → IsSwept (absorbed_in own o found).active f
  looks_swept None has on m is found k held goes = absurd (none_some m is)
  looks_swept (Some a) has on m is found k held goes = stage_swept a m a.stage has.knows on is found k held goes
