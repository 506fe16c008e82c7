pub mod ReplayLaws
pub mod DrainLaws
pub mod WhatIfLaws
mod Numbering
pub mod SettleLaws
pub mod Failed
pub mod Replays
pub mod TraceLaws
pub mod WaitingLaws
pub mod PromisesLaws
mod Telling
mod OneText
pub mod ImpactLaws
mod Nothing
pub mod MultipathLaws
pub mod Situated
