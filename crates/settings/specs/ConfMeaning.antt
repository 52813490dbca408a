-- The configuration that a value of the code is.
use Rattle.settings.specs.declared.conf.Conf.{Conf}
use Rattle.settings.specs.Configuration.{Configuration}

-- the configuration that a `Conf` stands for, part by part
abbrev pub meaning : Conf → Configuration
meaning conf =
    record {
      scheme = conf.scheme;
      keys = conf.keys;
      types = conf.types;
      policies = conf.policies;
      nonces = conf.nonces;
      sign = conf.sign;
      gateway = conf.gateway;
    }
