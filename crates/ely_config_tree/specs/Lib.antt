pub mod Faults
pub mod Shapes
pub mod Ranks
pub mod Table
pub mod Leaves
pub mod Tree
pub mod Paths
