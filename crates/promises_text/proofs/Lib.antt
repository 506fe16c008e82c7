mod Whole
mod PartLines
