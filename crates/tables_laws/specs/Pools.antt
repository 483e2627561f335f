pub mod WholeNestings
pub mod PoolLines
