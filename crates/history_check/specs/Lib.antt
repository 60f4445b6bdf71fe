pub mod Judging
pub mod Findings
-- The names that are used most outside of this library.
pub use Rattle.history_check.specs.Findings.{BreaksAfter}
pub use Rattle.history_check.specs.Judging.{seen_of, JudgesLine, HasCome, at_of, IsJudge, JudgesMark, is_inside}
