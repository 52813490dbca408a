use Rattle.std.proofs.Common.{sym, ◌∙◌}
use Rattle.settings.specs.ConfMeaning.{meaning}
use Rattle.signing.proofs.Wishing.{cannot, algorithm_fails, key_unknown}
use Rattle.signing.proofs.wish.key_of_wish.Goals as goal

pub returns-then-not-can_all_be_met-clause-fault : goal.returns-then-not-can_all_be_met-clause-fault
returns-then-not-can_all_be_met-clause-fault c = λ ids are. cannot (meaning c.args.conf.now) c.args.sign.now c.args.list.now ids are (sym c.can_all_be_met.ensures ∙ c.if-not-can_all_be_met.true)

pub returns-in-Err-clause-fault : goal.returns-in-Err-clause-fault
returns-in-Err-clause-fault c = λ ids are.
    algorithm_fails (meaning c.args.conf.now) c.args.sign.now c.args.list.now ids are (sym c.can_all_be_met.ensures ∙ c.if-not-can_all_be_met.false) c.in-Err.fault c.in-Err.ensures

pub returns-in-None-clause-fault : goal.returns-in-None-clause-fault
returns-in-None-clause-fault c = λ ids are.
    key_unknown (meaning c.args.conf.now) c.args.sign.now c.args.list.now ids are (sym c.can_all_be_met.ensures ∙ c.if-not-can_all_be_met.false) c.in_default.ensures
    (sym (rw c.wished_keyid.ensures at c.in-None.ensures.is))

pub returns-in-Some-clause-ok : goal.returns-in-Some-clause-ok
returns-in-Some-clause-ok c = record {
  can = sym c.can_all_be_met.ensures ∙ c.if-not-can_all_be_met.false;
  alg = c.in_default.ensures;
  key_is = sym (rw c.wished_keyid.ensures at c.in-Some.ensures.is);
  keyid = rw c.wished_keyid.ensures at c.in-Some.ensures.keyid;
}
