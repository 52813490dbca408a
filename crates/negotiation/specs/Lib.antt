pub mod Preferences
pub mod Each
pub mod Negotiated
pub mod NegotiateCauses
pub mod Words
pub mod Laws
pub mod tools
