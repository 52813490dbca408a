-- What the values of components are drawn from by a verification (RFC 9421 sections 1.1 and 2.4).
pub use Rattle.signatures.specs.Contexts.{context_for}
