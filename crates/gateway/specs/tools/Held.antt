-- What holds of a gateway. No public clause cites this module.
use Rattle.std.specs.Prelude.{◌≡◌, IsSome}
use Rattle.nonces.specs.Books.{Book}
use Rattle.settings.specs.Configuration.{Configuration}
use Rattle.verdicts.specs.Choice.{window_of}

-- the configuration says what is signed and what a gateway does, and the book is that of its policy
pub record IsGatewayHeld (conf : Configuration) (book : Book) : Type 0 where
  pub sign : IsSome conf.sign
  pub gateway : IsSome conf.gateway
  pub capacity : book.capacity ≡ conf.nonces
  pub window : book.window ≡ window_of conf
