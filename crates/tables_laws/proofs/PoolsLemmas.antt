pub mod AllLines
pub mod PlainLines
pub mod Pools
