pub mod Asking
pub mod Command
pub mod Messages
pub mod Names
pub mod Refusing
pub mod Worked
