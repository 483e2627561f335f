-- Why a table fits its sizes.
pub mod Reach
pub mod TextWidths
pub mod First
pub mod Ranges
pub mod Estimated
pub mod TotalSizes
pub mod Rooms
pub mod SameTexts
pub mod Listed
