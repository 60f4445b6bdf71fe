pub mod Histories
pub mod Verdicts
pub mod Laws
-- The names that are used most outside of this library.
pub use Rattle.marked_history.specs.Histories.{phase, IsHistory, events_of, state, MayFollow, HasMet, MayDecideIn, CanBeDecided, IsOfMachine, MayBeHeldUp, with_decision}
pub use Rattle.marked_history.specs.Verdicts.{marks_of, AreHistory, AreLegal, LineBreaks, decisions, entered, IsVerdict, LinesFit, MarkBreaks, SaidFits, said_marks}
pub use Rattle.marked_history.specs.Verdicts.{AllFollow, FirstBreaks, LineFollows, Misnumbered, Numbered}
