pub mod PolicyText
pub mod ConfigText
pub mod Laws
