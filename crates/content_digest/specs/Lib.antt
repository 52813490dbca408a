pub mod Algorithms
pub mod Digests
pub mod Faults
pub mod Laws
pub mod tools
pub use Rattle.sfv_read.specs.Reads
