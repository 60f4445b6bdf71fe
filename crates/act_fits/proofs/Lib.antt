-- The names that most files use.
pub mod Common
-- What holds of all acts.
pub mod NamedFit
pub mod DuesFit
pub mod StepsFit
pub mod LandsFit
pub mod ScansFit
-- Each family of acts.
pub mod TouchesFit
pub mod KillsFit
pub mod UntypingsFit
pub mod CompsFit
pub mod InvocationsFit
pub mod SwitchesFit
pub mod SharesFit
pub mod RefillsFit
-- The names that are used most outside of this library.
pub use Rattle.act_fits.proofs.{DuesFit.cap_one, DuesFit.few_dues, LandsFit.TookFits}
