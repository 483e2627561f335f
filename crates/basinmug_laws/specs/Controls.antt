pub mod ControlTexts
pub mod Written
