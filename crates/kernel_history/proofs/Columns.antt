-- What the discipline lets a call change is what its edits change, in whatever state and wherever its look-ups lead. So a call is let
-- through by no default: one whose rule has an edit of a kind must be let change the words of that kind.
use Rattle.kernel_rules.specs.{◌≡◌, ℕ, Bool, true, false, ◌||◌, IsTrue, List, [], ◌∷◌, Option, Some, None, refl, Make, Call, FrameKind}
use Rattle.kernel_rules.specs.{Translation, Blank, Kernel, comp_of, touch_by, translation_of, rule_of, Edit, Fill, Node, Become, Untype}
use Rattle.kernel_rules.specs.{Component, Deaden, Push, Pop, Charge, Move, Merge, Give}
use Rattle.kernel_rules.specs.{State.State, Edits.Remove, Edits.Switch, Edits.Flush, Rows.Findings, Rows.edits_at}
use Rattle.kernel_history.specs.Discipline.{changes_places, makes_objects, changes_threads, changes_budgets, changes_frames}
use Rattle.kernel_history.specs.Discipline.{changes_numbers, stores_flush, raises_clock}
use Rattle.{std.specs.List.list_any}

-- Kinds of edits, by the words that they change.
abbrev puts : Edit → Bool
puts (Fill at k) = true
puts (Remove at k) = true
puts _ = false

abbrev makes : Edit → Bool
makes (Node f object) = true
makes (Become f (Kernel Blank)) = false
makes (Become f (Kernel object)) = true
makes (Component f k) = true
makes _ = false

abbrev moves_thread : Edit → Bool
moves_thread (Push f) = true
moves_thread Pop = true
moves_thread (Switch h q) = true
moves_thread _ = false

abbrev moves_budget : Edit → Bool
moves_budget (Charge n) = true
moves_budget (Move a b m) = true
moves_budget (Merge f list) = true
moves_budget (Give f m) = true
moves_budget _ = false

abbrev types : Edit → Bool
types (Node f object) = true
types (Become f x) = true
types (Untype f) = true
types (Component f k) = true
types _ = false

abbrev lives : Edit → Bool
lives (Component f k) = true
lives (Deaden l e) = true
lives _ = false

abbrev flushes : Edit → Bool
flushes Flush = true
flushes _ = false

-- Edits that begin grace periods.
abbrev begins : Edit → Bool
begins (Remove at k) = true
begins (Untype f) = true
begins (Deaden l e) = true
begins Pop = true
begins (Switch h q) = true
begins _ = false

-- A `test` steps on heads that it only compares, and each retype may raise the clock.
record IsTold (call : Call) (edits : List Edit) : Type 0 where
  places : list_any puts edits ≡ changes_places call
  objects : list_any makes edits ≡ makes_objects call
  threads : list_any moves_thread edits ≡ changes_threads call
  budgets : IsTrue (list_any moves_budget edits) → IsTrue (changes_budgets call)
  frames : list_any types edits ≡ changes_frames call
  numbers : list_any lives edits ≡ changes_numbers call
  flush : list_any flushes edits ≡ stores_flush call
  clock : IsTrue (list_any begins edits) → IsTrue (raises_clock call)

touch_told : (pages v : ℕ) (t : Option Translation) (f : Findings) → IsTold (Call.Touch v) (edits_at (touch_by pages v t) f)
touch_told pages v None f = record {
  places = refl;
  objects = refl;
  threads = refl;
  budgets = λ is. is;
  frames = refl;
  numbers = refl;
  flush = refl;
  clock = λ is. is;
}
touch_told pages v (Some t) f = record {
  places = refl;
  objects = refl;
  threads = refl;
  budgets = λ is. is;
  frames = refl;
  numbers = refl;
  flush = refl;
  clock = λ is. is;
}

told : (s : State) (c : ℕ) (call : Call) (f : Findings) → IsTold call (edits_at (rule_of s c call) f)
told s c (Call.Retype r g FrameKind.Untyped) f = record {
  places = refl;
  objects = refl;
  threads = refl;
  budgets = λ is. is;
  frames = refl;
  numbers = refl;
  flush = refl;
  clock = λ is. refl;
}
told s c (Call.Make Make.Table r g t b) f = record {
  places = refl;
  objects = refl;
  threads = refl;
  budgets = λ is. is;
  frames = refl;
  numbers = refl;
  flush = refl;
  clock = λ is. is;
}
told s c (Call.Touch v) f = touch_told (comp_of s c).pages v (translation_of (s.core c).cached (comp_of s c).pages v) f
told s c _ f = record {
  places = refl;
  objects = refl;
  threads = refl;
  budgets = λ is. cc;
  frames = refl;
  numbers = refl;
  flush = refl;
  clock = λ is. cc;
}
