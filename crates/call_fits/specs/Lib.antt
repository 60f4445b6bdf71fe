-- What the crates above name through this one.
pub use Rattle.act_fits.specs.call_stages
pub use Rattle.act_fits
