pub mod Answers
pub mod BareWalk
pub mod DisplayWalk
pub mod Gives
pub mod InnerWalk
pub mod ItemWalk
pub mod MemberWalk
