pub mod RenewalLaws
pub mod Renewals
pub mod ReuseLaws
pub mod Reuses
