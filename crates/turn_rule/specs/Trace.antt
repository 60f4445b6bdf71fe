-- A trace of atomic steps, the newest first, and what it leaves.
use Rattle.std.specs.Prelude.{◌≡◌, ◌≢◌, ℕ, ◌<◌, ◌^◌, ◌==◌, List, [], ◌∷◌, ◌++◌, length, if◌then◌else◌, slice_get, slice_index, Option, Some}
use Rattle.std.specs.Prelude.{None, IsNone, option_map}
use Rattle.spk_nums.specs.{declared.steps.WordOp.WordOp, WordSteps.place_in, WordSteps.left_by, WordSteps.told_by}
use Rattle.turn_rule.specs.{declared.view.Entry.Entry, declared.view.Start.Start, Steps.Steps}

module _ {C : Type 0} where
  -- the entry of a step of core c that found n, and of the call that began with it, if any
  abbrev pub entry : ℕ → WordOp → ℕ → Option C → Entry C
  entry c op n call = record { core = c; at = place_in op; found = n; left = left_by op n; call = call }

  -- no entry is core c's
  abbrev pub AreOfOthers : ℕ → List (Entry C) → Type 0
  AreOfOthers c [] = Unit {0}
  AreOfOthers c (e ∷ t) = (e.core ≢ c) × AreOfOthers c t

  -- the newer trace begins with the older one
  pub record Extends (older newer : List (Entry C)) : Type 0 where
    pub since : List (Entry C)
    pub whole : newer ≡ since ++ older

  -- the newer trace begins with the older one, and goes on by steps of other cores than c
  pub record ExtendsByOthers (c : ℕ) (older newer : List (Entry C)) : Type 0 where
    pub since : List (Entry C)
    pub whole : newer ≡ since ++ older
    pub apart : AreOfOthers c since

module _ {P C : Type 0} where
  -- the word at place i after a trace: what the newest step on it left, or the word at the start
  abbrev pub word_after : Start P → List (Entry C) → ℕ → ℕ
  word_after start [] i = slice_index start.words i
  word_after start (e ∷ t) i = if e.at == i then e.left else word_after start t i

module _ {P C : Type 0} (T : Steps P C) where
  -- the program once the call, if any, is begun
  abbrev pub called : P → Option C → P
  called p None = p
  called p (Some call) = T.begun p call

  -- the program once its step found n
  abbrev pub told : P → Option WordOp → ℕ → P
  told p None n = p
  told p (Some op) n = T.after p (told_by op n)

  -- the program after its entry
  abbrev pub after_entry : P → Entry C → P
  after_entry p e = told (called p e.call) (T.next (called p e.call)) e.found

  -- core c's program after a trace
  abbrev pub program_after : Start P → List (Entry C) → ℕ → Option P
  program_after start [] c = slice_get start.programs c
  program_after start (e ∷ t) c = if e.core == c then option_map (λ p. after_entry p e)
      (program_after start t c) else program_after start t c

  -- a call may begin: the program has no next step, and the call is fit for it
  abbrev pub MayCall : P → Option C → Type 0
  MayCall p None = Unit {0}
  MayCall p (Some call) = IsNone (T.next p) × T.fit p call

  -- the entry is the step that the program p makes
  pub record IsStep (p : P) (e : Entry C) : Type 0 where
    pub may : MayCall p e.call
    pub op : WordOp
    pub next : T.next (called p e.call) ≡ Some op
    pub place : e.at ≡ place_in op
    pub left : e.left ≡ left_by op e.found

  -- the entry may follow the trace: it found the word last left at its place, and is the step that its core's program makes
  pub record MayFollow (start : Start P) (t : List (Entry C)) (e : Entry C) : Type 0 where
    pub inside : e.at < length start.words
    pub found : e.found ≡ word_after start t e.at
    pub in_range : e.found < 2 ^ 64
    pub program : P
    pub runs : program_after start t e.core ≡ Some program
    pub step : IsStep program e

  -- each entry may follow those before it
  abbrev pub IsSound : Start P → List (Entry C) → Type 0
  IsSound start [] = Unit {0}
  IsSound start (e ∷ t) = IsSound start t × MayFollow start t e

  -- the trace is sound, and p is core c's program after it
  pub record Follows (start : Start P) (t : List (Entry C)) (c : ℕ) (p : P) : Type 0 where
    pub sound : IsSound start t
    pub runs : program_after start t c ≡ Some p
