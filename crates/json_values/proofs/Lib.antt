pub mod JsonLists
pub mod JsonTexts
mod Line
pub mod PlainItems
pub mod ReadAgain
pub mod EachStep
pub mod FirstRule
pub mod ItemsRead
pub mod OnlyFaults
pub mod StepFaults
pub mod TextLaws
