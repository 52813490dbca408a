mod Preferring
pub mod Wishing
mod Digesting
pub mod Chains
mod Signing
pub mod Negotiating
pub mod SignedKeys
pub mod WishedSignatures
pub mod ChosenDigests
