pub mod NotNamed
pub mod ClosedNames
pub mod ClosedLists
pub mod DigitTexts
pub mod OneMore
