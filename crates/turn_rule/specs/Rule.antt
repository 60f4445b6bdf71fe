-- The rule of the shared words: there is one trace, and each seat has seen a beginning of it.
use Rattle.std.specs.Prelude.{◌≡◌, ℕ, ◌+◌, ◌<◌, ◌≤◌, true, false, List, [], ◌∷◌, ◌++◌, length, slice_index, Option, Some}
use Rattle.atomic_table.specs.Table.{State, Me, Step}
use Rattle.spk_nums.specs.{declared.steps.WordOp.WordOp, WordSteps.place_in, WordSteps.told_by}
use Rattle.turn_rule.specs.{declared.view.Entry.Entry, declared.view.Start.Start, declared.view.Part.Part, declared.view.View.View}
use Rattle.turn_rule.specs.{Steps.Steps, Positions.SpreadValue, Positions.position, Trace.entry, Trace.AreOfOthers, Trace.word_after}
use Rattle.turn_rule.specs.{Trace.called, Trace.MayCall, Trace.IsSound, Trace.Follows}
use mathlib.Core.Option.{some}
use lib.ListN.{get_elem?}

abbrev pub start_of : {P : Type 0} → List ℕ → List P → Start P
start_of words programs = record { words = words; programs = programs }

module _ {P C : Type 0} where
  -- what the cores from `from` below `to` have seen
  abbrev pub part : Start P → ℕ → ℕ → List (Entry C) → Part P C
  part start from to seen = record { live = true; start = start; from = from; to = to; seen = seen }

  -- what a seat keeps that was joined into another one
  abbrev pub nothing : Part P C
  nothing = record { live = false; start = start_of [] []; from = 0; to = 0; seen = [] }

  -- a view with nothing joined in
  abbrev pub view : Part P C → View P C
  view p = record { own = p; told = nothing }

  -- a note of what was seen stands for no core
  abbrev pub note_of : View P C → View P C
  note_of v = view record { live = v.own.live; start = v.own.start; from = 0; to = 0; seen = v.own.seen }

  -- the view's first core, and its other ones
  abbrev pub first_core : View P C → View P C
  first_core v = view record { live = v.own.live; start = v.own.start; from = v.own.from; to = v.own.from + 1; seen = v.own.seen }

  abbrev pub other_cores : View P C → View P C
  other_cores v = view record { live = v.own.live; start = v.own.start; from = v.own.from + 1; to = v.own.to; seen = v.own.seen }

  -- the view with what another one had seen
  abbrev pub joined : View P C → View P C → View P C
  joined v w = record { own = v.own; told = w.own }

  -- the trace begins with what the part has seen, and goes on by steps of cores that are not in the part
  pub record Begins (trace : List (Entry C)) (p : Part P C) : Type 0 where
    pub since : List (Entry C)
    pub whole : trace ≡ since ++ p.seen
    pub apart : (c : ℕ) → p.from ≤ c → c < p.to → AreOfOthers c since

  -- the part is of this start and has seen a beginning of the trace, and its cores are the seat's alone
  pub record Fits (start : Start P) (trace : List (Entry C)) (owner : ℕ → ℕ) (id : ℕ) (p : Part P C) : Type 0 where
    pub same : p.live ≡ true → p.start ≡ start
    pub begins : Begins trace p
    pub owns : (c : ℕ) → p.from ≤ c → c < p.to → owner c ≡ id

module _ {P C : Type 0} (T : Steps P C) where
  -- There is one sound trace, which leaves the words at their positions, and what each seat has seen or was told fits it. One seat owns a
  -- core
  pub record Kept (spread : SpreadValue) (start : Start P) (s : State (Unit {0}) (View P C)) : Type 0 where
    pub trace : List (Entry C)
    pub count : length s.words ≡ position spread (length start.words)
    pub words : (i : ℕ) → i < length start.words → slice_index s.words (position spread i) ≡ word_after start trace i
    pub sound : IsSound T start trace
    pub owner : ℕ → ℕ
    pub own : (id : ℕ) (v : View P C) → get_elem? s.views id ≡ some v → Fits start trace owner id v.own
    pub told : (id : ℕ) (v : View P C) → get_elem? s.views id ≡ some v → Fits start trace owner id v.told

  -- what the seat of a core keeps
  pub record IsSeated (core : ℕ) (me : Me (Unit {0}) (View P C)) (p : P) : Type 0 where
    pub live : me.0.own.live ≡ true
    pub from : me.0.own.from ≡ core
    pub end : me.0.own.to ≡ core + 1
    pub follows : Follows T me.0.own.start me.0.own.seen core p
    pub no_slot : me.1 ≡ []
    pub size : T.size p ≡ length me.0.own.start.words

  -- the program of the seat's core makes the step op, at one of so many places, once the call, if any, is begun
  pub record IsDue (words : ℕ) (me : Me (Unit {0}) (View P C)) (call : Option C) (op : WordOp) : Type 0 where
    pub core : ℕ
    pub program : P
    pub seated : IsSeated core me program
    pub may : MayCall T program call
    pub next : T.next (called T program call) ≡ Some op
    pub inside : place_in op < words

  -- the part is of the same start, has the cores from the same one below `to`, and has seen a sound trace
  pub record Stays (v : Part P C) (to : ℕ) (w : Part P C) : Type 0 where
    pub live : w.live ≡ true
    pub start : w.start ≡ v.start
    pub from : w.from ≡ v.from
    pub end : w.to ≡ to
    pub sound : IsSound T w.start w.seen

  -- the part's first core made the step op, and was told a word: what it sees is all that it saw, steps of other cores, and its own
  pub record Goes (v : Part P C) (call : Option C) (op : WordOp) (told : ℕ) (w : Part P C) : Type 0 where
    pub found : ℕ
    pub told_is : told ≡ told_by op found
    pub others : List (Entry C)
    pub apart : AreOfOthers v.from others
    pub seen : w.seen ≡ entry v.from op found call ∷ (others ++ v.seen)
    pub stays : Stays v v.to w

  -- what was seen and what was told are beginnings of what is seen now, which goes on by steps of other cores than theirs
  pub record Gathers (v told : Part P C) (to : ℕ) (w : Part P C) : Type 0 where
    pub own : Begins w.seen v
    pub other : Begins w.seen told
    pub stays : Stays v to w
    pub same : told.live ≡ true → told.start ≡ w.start

  abbrev pub M : Type 0
  M = Me (Unit {0}) (View P C)

  -- what the step op tells, where the call, if any, began with it: wherever its word lies
  abbrev pub made : Option C → WordOp → Step (Unit {0}) → M → ℕ → M → Type 0
  made call op at me n now = Goes me.0.own call op n now.0.own × (now.1 ≡ me.1)

  -- what the load of a meet tells
  abbrev pub met : Step (Unit {0}) → M → ℕ → M → Type 0
  met at me n now = Gathers me.0.own me.0.told me.0.own.to now.0.own × (now.1 ≡ me.1)

  -- what the load tells with which a seat takes over the cores of the one joined in
  abbrev pub gathered : Step (Unit {0}) → M → ℕ → M → Type 0
  gathered at me n now = Gathers me.0.own me.0.told me.0.told.to now.0.own × (now.1 ≡ me.1)

  -- what the load tells that makes a seat of no core, which has seen all so far
  abbrev pub starts : Step (Unit {0}) → M → ℕ → M → Type 0
  starts at me n now = Stays me.0.own 0 now.0.own
