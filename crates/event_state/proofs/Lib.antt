pub mod Blank
pub mod Firsts
pub mod Idleness
pub mod Neighbouring
pub mod Ways
pub mod Written
