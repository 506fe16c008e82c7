mod Ordering
mod Claiming
mod Changing
mod Ranking
mod Rowing
mod Whole
mod ImpactTelling
