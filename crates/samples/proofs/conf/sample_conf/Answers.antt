use Rattle.settings.specs.ConfMeaning.{meaning}
use Rattle.samples.specs.Requests.{sample_keyid}
use Rattle.samples.proofs.Valid.{conf_is, conf_valid, no_key, policies_are, without_key}
use Rattle.samples.proofs.conf.sample_conf.Goals as goal

pub new-conf-requires : goal.new-conf-requires
new-conf-requires c =
    conf_valid c.new.result c.in_ok-types.types c.push.new.self c.new.ensures
    (policies_are c.new-policies.result c.push.new.self c.standard-policy.result c.new-policies.ensures c.standard-policy.ensures c.in_ok-push.ensures.ok)

pub add_key-requires-clause-new : goal.add_key-requires-clause-new
add_key-requires-clause-new c =
    no_key c.new-conf.result.keys (without_key (meaning c.new-conf.result) c.new.result c.in_ok-types.types _ c.new-conf.ensures c.new.ensures) sample_keyid

pub returns : goal.returns
returns c =
    conf_is (meaning c.add_key.new.self) (meaning c.new-conf.result) c.new.result c.in_ok-types.types c.push.new.self c.new-conf.ensures c.new.ensures c.in_ok-types.ensures
    (policies_are c.new-policies.result c.push.new.self c.standard-policy.result c.new-policies.ensures c.standard-policy.ensures c.in_ok-push.ensures.ok)
    c.in_ok-add_key.ensures.keys c.add_key.ensures.scheme c.add_key.ensures.types c.add_key.ensures.policies c.add_key.ensures.nonces c.add_key.ensures.sign c.add_key.ensures.gateway
