pub mod TopologyText
pub mod TopologyLaws
