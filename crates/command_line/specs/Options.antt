pub mod Given
pub mod Names
pub mod Rules
