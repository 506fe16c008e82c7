mod Cells
mod Layered
mod Premises
mod Prefs
mod Safe
