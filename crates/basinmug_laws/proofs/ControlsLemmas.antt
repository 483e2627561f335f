pub mod CleanedTexts
pub mod PrintedControls
