pub mod Styles
mod ListedColors
mod OfKept
mod Refusals
mod Sizes
