pub mod Leads
pub mod JoinLaws
pub mod Steps
pub mod SeenLaw
pub mod FinestLaw
