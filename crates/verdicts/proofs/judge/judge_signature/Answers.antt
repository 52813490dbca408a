use Rattle.std.proofs.lemmas.Result.{err_from_is_err_and}
use Rattle.settings.proofs.ValidInside.{valid_inside}
use Rattle.verdicts.specs.Rules.{key_in}
use Rattle.verdicts.specs.Verification.{verification_by}
use Rattle.verdicts.specs.tools.Judged.{FailsByAlgorithm, FailsByKey, FailsByKeyid, HasKeyid}
use Rattle.verdicts.proofs.Judging.{says_judged, says_first, algorithm_fails, keyid_fails, key_fails, none_below_17}
use Rattle.verdicts.proofs.judge.judge_signature.Goals as goal

pub returns-in_err-judge_algorithm-clause-explains : goal.returns-in_err-judge_algorithm-clause-explains
returns-in_err-judge_algorithm-clause-explains g c =
    let signed = c.args.signed.now in
    let v = verification_by c.args.verifier.now c.args.exchange.now.context signed.label.now in
    let valid = (valid_inside v.conf c.args.verifier.now.conf.now.valid).policies.each in
    let read = signed.read.now in
    let has = c.requires.has in
    let p = err_from_is_err_and c.from_residual.result c.from_residual.ensures.1 in
    rw (p.1, p.2)
    (says_first v valid (FailsByAlgorithm read.params) c.in_err-judge_algorithm.field-0.0 (algorithm_fails v read.params read.tag has) c.in_err-judge_algorithm.ensures)

pub returns-in_err-keyid-clause-explains : goal.returns-in_err-keyid-clause-explains
returns-in_err-keyid-clause-explains g c =
    let signed = c.args.signed.now in
    let v = verification_by c.args.verifier.now c.args.exchange.now.context signed.label.now in
    let valid = (valid_inside v.conf c.args.verifier.now.conf.now.valid).policies.each in
    let read = signed.read.now in
    let has = c.requires.has in
    let p = err_from_is_err_and c.from_residual-in_err-keyid.result c.from_residual-in_err-keyid.ensures.1 in
    rw (p.1, p.2)
    (says_first v valid (FailsByKeyid read.params) c.in_err-keyid.field-0.0 (keyid_fails v read.params read.tag has c.in_ok-judge_algorithm.ensures) c.in_err-keyid.ensures)

pub returns-in_err-key-clause-explains : goal.returns-in_err-key-clause-explains
returns-in_err-key-clause-explains g c =
    let signed = c.args.signed.now in
    let v = verification_by c.args.verifier.now c.args.exchange.now.context signed.label.now in
    let valid = (valid_inside v.conf c.args.verifier.now.conf.now.valid).policies.each in
    let read = signed.read.now in
    let keyid = c.in_ok-keyid.keyid.now in
    let p = err_from_is_err_and c.from_residual-in_err-key.result c.from_residual-in_err-key.ensures.1 in
    rw (p.1, p.2)
    (says_first v valid (FailsByKey (key_in v.conf keyid)) c.in_err-key.field-0.0 (key_fails v read.params read.tag c.requires.has c.in_ok-judge_algorithm.ensures keyid c.in_ok-keyid.ensures) c.in_err-key.ensures.explains)

pub judge_policy-requires-clause-keyid : goal.judge_policy-requires-clause-keyid
judge_policy-requires-clause-keyid g c = c.in_ok-keyid.ensures

pub returns-in_err-policy-clause-explains : goal.returns-in_err-policy-clause-explains
returns-in_err-policy-clause-explains g c =
    let signed = c.args.signed.now in
    let v = verification_by c.args.verifier.now c.args.exchange.now.context signed.label.now in
    let valid = (valid_inside v.conf c.args.verifier.now.conf.now.valid).policies.each in
    let read = signed.read.now in
    let has = c.requires.has in
    let below = none_below_17 v read.params read.tag has c.in_ok-judge_algorithm.ensures c.in_ok-keyid.keyid.now c.in_ok-keyid.ensures c.in_ok-key.key.now c.in_ok-key.ensures.explains in
    let p = err_from_is_err_and c.from_residual-in_err-policy.result c.from_residual-in_err-policy.ensures.1 in
    rw (p.1, p.2) (says_judged v valid c.in_err-policy.field-0.0 (c.in_err-policy.ensures.explains signed.label.now read.tag has below))

pub judge_content-requires-clause-has : goal.judge_content-requires-clause-has
judge_content-requires-clause-has g c =
    let signed = c.args.signed.now in
    let v = verification_by c.args.verifier.now c.args.exchange.now.context signed.label.now in
    let read = signed.read.now in
    let has = c.requires.has in
    let keyid = c.in_ok-keyid.keyid.now in
    let under : HasKeyid v read.params read.tag keyid = record { signature = has; alg = c.in_ok-judge_algorithm.ensures; is = c.in_ok-keyid.ensures } in
    let below = none_below_17 v read.params read.tag has c.in_ok-judge_algorithm.ensures keyid c.in_ok-keyid.ensures c.in_ok-key.key.now c.in_ok-key.ensures.explains in
    let by = c.in_ok-policy.ensures.explains signed.label.now read.tag has below in
    (keyid, record { under = under; is = c.in_ok-key.ensures.explains; by = by })

pub judge_content-requires-clause-in_range : goal.judge_content-requires-clause-in_range
judge_content-requires-clause-in_range g c = c.requires.in_range

pub returns-in_err-judge_content-clause-explains : goal.returns-in_err-judge_content-clause-explains
returns-in_err-judge_content-clause-explains g c =
    let v = verification_by c.args.verifier.now c.args.exchange.now.context c.args.signed.now.label.now in
    let valid = (valid_inside v.conf c.args.verifier.now.conf.now.valid).policies.each in
    let p = err_from_is_err_and c.from_residual-in_err-judge_content.result c.from_residual-in_err-judge_content.ensures.1 in
    rw (p.1, p.2) (says_judged v valid c.in_err-judge_content.field-0.0 c.in_err-judge_content.ensures.explains)

pub returns-clause-explains : goal.returns-clause-explains
returns-clause-explains g c =
    let signed = c.args.signed.now in
    let v = verification_by c.args.verifier.now c.args.exchange.now.context signed.label.now in
    let read = signed.read.now in
    let has = c.requires.has in
    let keyid = c.in_ok-keyid.keyid.now in
    let below = none_below_17 v read.params read.tag has c.in_ok-judge_algorithm.ensures keyid c.in_ok-keyid.ensures c.in_ok-key.key.now c.in_ok-key.ensures.explains in
    let by = c.in_ok-policy.ensures.explains signed.label.now read.tag has below in
    let content = c.in_ok-judge_content.ensures.explains in
    rw c.in_ok-from_bytes.ensures.ok
    (record {
      params = read.params;
      tag = read.tag;
      signature = has;
      alg = c.in_ok-judge_algorithm.ensures;
      keyid_is = c.in_ok-keyid.ensures;
      key = c.in_ok-key.key.now;
      key_is = c.in_ok-key.ensures.explains;
      policy = c.in_ok-policy.policy.now;
      chosen = by.chosen;
      accepted = by.accepted;
      values = content.values;
      have = content.have;
      mac = content.mac;
      digest = content.digest;
      room = content.room;
    })
