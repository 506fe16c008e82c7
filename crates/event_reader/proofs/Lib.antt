pub mod ReadPrefixes
pub mod RulesKept
pub mod ShapeFaults
pub mod TextLaws
