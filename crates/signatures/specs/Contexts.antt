-- What the values of components are drawn from under a configuration (RFC 9421 sections 1.1 and
-- 2.4).
use Rattle.std.specs.Prelude.{Option}
use Rattle.msg_body.specs.Messages.{Message}
use Rattle.component_values.specs.Context.{MessageContext}
use Rattle.settings.specs.Configuration.{Configuration}

-- the message, the request that it answers, where that is known, and what the configuration says
abbrev pub context_for : Configuration → Message → Option Message → MessageContext
context_for conf message related = record {
  message = message;
  related = related;
  scheme = conf.scheme;
  types = conf.types;
}
