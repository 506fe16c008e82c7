pub mod Below
pub mod SampleNames
pub mod SampleSites
pub mod SampleLinks
pub mod SampleNet
pub mod SampleSets
pub mod SamplePolicies
pub mod SampleTexts
