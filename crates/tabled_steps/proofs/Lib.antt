pub mod Changing
pub mod Setting
pub mod Estimating
pub mod Places
pub mod ChangedTexts
