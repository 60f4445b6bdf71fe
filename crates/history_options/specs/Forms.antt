-- Where a line stands, and how a reply is written in its place.
use Rattle.std.specs.Prelude.{◌≡◌, ◌<◌, ◌∷◌, ◌++◌}
use Rattle.open_calls.specs.seq_state.specs.{ℕ, List, [], InLimits, Call, Reply, Out as out, Open}
use Rattle.marked_history.specs.{declared.marks.Mark.Mark, declared.marks.Mark.TheVariants.Enter, declared.marks.Mark.TheVariants.Decide}
use Rattle.marked_history.specs.{declared.marks.Mark.TheVariants.Return, declared.marks.Said.Said, declared.marks.Said.TheVariants.One}
use Rattle.marked_history.specs.{declared.marks.Said.TheVariants.Whole as whole_line, declared.marks.Line.Line, Histories.phase}
use Rattle.check_run.specs.history_check.specs.declared.seen.At.{At}
use Rattle.history_options.specs.{declared.forms.Form.Form, declared.forms.Form.TheVariants.Decided, declared.forms.Form.TheVariants.Whole}
use Rattle.history_options.specs.{declared.forms.Place.Place, declared.forms.Place.TheVariants.Without}
use Rattle.history_options.specs.{declared.forms.Place.TheVariants.Done, declared.forms.Place.TheVariants.During}

-- the core of a line
abbrev pub core_of : Said → ℕ
core_of (One (Enter c call)) = c
core_of (One (Decide c r)) = c
core_of (One (Return c)) = c
core_of (whole_line c i call r) = c

-- where a line stands, by where its core is, and the number of that core's next call: a reply would decide the call that is open, or that
-- of a line that makes one whole
abbrev pub place_of : Said → At → ℕ → Place
place_of said (At.Open call) next = During call Decided
place_of said At.Decided next = Done
place_of (One m) At.Out next = Without next
place_of (whole_line c i call r) At.Out next = During call (Whole next)

-- the line with a reply to a call of core c
abbrev pub with_form : ℕ → Call → Form → Reply → Said
with_form c call Decided r = One (Decide c r)
with_form c call (Whole i) r = whole_line c i call r

-- the marks after which the call is open
abbrev pub marks_at : List Mark → ℕ → Call → Form → List Mark
marks_at marks c call Decided = marks
marks_at marks c call (Whole i) = Enter c call ∷ marks

-- lines of which these are the marks, after lines that come before
abbrev pub lines_at : List Line → ℕ → Call → Form → List Line
lines_at before c call Decided = before
lines_at before c call (Whole i) = before ++ record { number = 0; said = One (Enter c call) } ∷ []

-- the core is in no call where the line makes one whole
abbrev pub Stands : List Mark → ℕ → Form → Type 0
Stands marks c Decided = Unit {0}
Stands marks c (Whole i) = phase marks c ≡ out

-- what is known of a call that a reply in the place of a line would decide
pub record CanDecide (cores : ℕ) (marks : List Mark) (c : ℕ) (call : Call) (form : Form) : Type 0 where
  pub is_core : c < cores
  pub in_limits : InLimits call
  pub stands : Stands marks c form
  pub opens : phase (marks_at marks c call form) c ≡ Open call

-- so it is at a place, if it is one of such a call
abbrev pub DecidesAt : ℕ → List Mark → ℕ → Place → Type 0
DecidesAt cores marks c (During call form) = CanDecide cores marks c call form
DecidesAt cores marks c (Without next) = Unit {0}
DecidesAt cores marks c Done = Unit {0}
