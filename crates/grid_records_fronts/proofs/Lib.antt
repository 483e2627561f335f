pub mod EmojiKinds
pub mod EmojiSteps
pub mod Beginnings
pub mod Addends
pub mod FirstBytes
pub mod NoSimple
pub mod HasFront
pub mod BoundsLemmas
