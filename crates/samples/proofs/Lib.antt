mod DrawnSteps
mod FirstHeld
mod FirstReady
mod HopSteps
mod KeptHops
pub mod KeptReports
mod LineOrders
pub mod MadeChains
mod MadeHops
mod MadeItems
mod NameCounts
pub mod OneSample
mod Parts
mod Ready
mod ShortLines
pub mod Signable
mod Signed
pub mod SomeSample
mod StepCounts
mod TakenSteps
pub mod Unsigned
mod Valid
