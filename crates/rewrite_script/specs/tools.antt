pub mod LineWalk
pub mod Gives
pub mod Judged
pub mod Printed
