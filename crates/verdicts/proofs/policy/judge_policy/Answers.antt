use Rattle.std.proofs.Common.{ℕ, List, Bool}
use Rattle.std.proofs.lemmas.Result.{err_from_is_err_and}
use Rattle.verdicts.specs.Choice.{policy_of}
use Rattle.verdicts.specs.Parameters.{created_of, expires_of, nonce_of, tag_param_of}
use Rattle.verdicts.specs.Policies.{required_of, is_replay}
use Rattle.verdicts.specs.Rules.{Fails}
use Rattle.verdicts.specs.Verification.{verification_by}
use Rattle.verdicts.specs.tools.Judged.{FailsByChoice, FailsByCoverage, FailsByCreated, FailsByExpires, FailsByNonce, FailsByTagParam, moment_of}
use Rattle.verdicts.proofs.RuleOrder.{says_failure}
use Rattle.verdicts.proofs.PolicyFailures.{accepted, choice_fails, coverage_fails, created_fails, expires_fails, nonce_fails, replay_where, tag_fails}
use Rattle.verdicts.proofs.policy.judge_policy.Goals as goal

pub returns-in_err-policy-clause-explains : goal.returns-in_err-policy-clause-explains
returns-in_err-policy-clause-explains g c = λ label tag has below.
    let v = verification_by c.args.verifier.now c.args.exchange.now.context label in
    let params = c.args.params.now in
    let p = err_from_is_err_and c.from_residual.result c.from_residual.ensures.1 in
    rw (p.1, p.2) (says_failure (Fails v) (FailsByChoice (policy_of v.conf params)) c.in_err-policy.field-0.0 (choice_fails v params tag has below) c.in_err-policy.ensures)

pub returns-in_err-judge_coverage-clause-explains : goal.returns-in_err-judge_coverage-clause-explains
returns-in_err-judge_coverage-clause-explains g c = λ label tag has below.
    let v = verification_by c.args.verifier.now c.args.exchange.now.context label in
    let params = c.args.params.now in
    let policy = c.in_ok-policy.policy.now in
    let chosen = c.in_ok-policy.ensures in
    let p = err_from_is_err_and c.from_residual-in_err-judge_coverage.result c.from_residual-in_err-judge_coverage.ensures.1 in
    rw (p.1, p.2) (says_failure (Fails v) (FailsByCoverage params.ids (required_of v policy)) c.in_err-judge_coverage.field-0.0 (coverage_fails v params tag has policy chosen below) (rw (c.as_slice.ensures, c.required_of-required.ensures) at c.in_err-judge_coverage.ensures))

pub returns-in_err-judge_created-clause-explains : goal.returns-in_err-judge_created-clause-explains
returns-in_err-judge_created-clause-explains g c = λ label tag has below.
    let v = verification_by c.args.verifier.now c.args.exchange.now.context label in
    let params = c.args.params.now in
    let policy = c.in_ok-policy.policy.now in
    let chosen = c.in_ok-policy.ensures in
    let covered = rw (c.as_slice.ensures, c.required_of-required.ensures) at c.in_ok-judge_coverage.ensures in
    let p = err_from_is_err_and c.from_residual-in_err-judge_created.result c.from_residual-in_err-judge_created.ensures.1 in
    rw (p.1, p.2) (says_failure (Fails v) (FailsByCreated policy v.now (created_of params)) c.in_err-judge_created.field-0.0 (created_fails v params tag has policy chosen below covered) c.in_err-judge_created.ensures)

pub returns-in_err-judge_expires-clause-explains : goal.returns-in_err-judge_expires-clause-explains
returns-in_err-judge_expires-clause-explains g c = λ label tag has below.
    let v = verification_by c.args.verifier.now c.args.exchange.now.context label in
    let params = c.args.params.now in
    let policy = c.in_ok-policy.policy.now in
    let chosen = c.in_ok-policy.ensures in
    let covered = rw (c.as_slice.ensures, c.required_of-required.ensures) at c.in_ok-judge_coverage.ensures in
    let p = err_from_is_err_and c.from_residual-in_err-judge_expires.result c.from_residual-in_err-judge_expires.ensures.1 in
    rw (p.1, p.2) (says_failure (Fails v) (FailsByExpires policy v.now (expires_of params)) c.in_err-judge_expires.field-0.0 (expires_fails v params tag has policy chosen below covered c.in_ok-judge_created.ensures) c.in_err-judge_expires.ensures)

pub returns-in_err-judge_tag_param-clause-explains : goal.returns-in_err-judge_tag_param-clause-explains
returns-in_err-judge_tag_param-clause-explains g c = λ label tag has below.
    let v = verification_by c.args.verifier.now c.args.exchange.now.context label in
    let params = c.args.params.now in
    let policy = c.in_ok-policy.policy.now in
    let chosen = c.in_ok-policy.ensures in
    let covered = rw (c.as_slice.ensures, c.required_of-required.ensures) at c.in_ok-judge_coverage.ensures in
    let p = err_from_is_err_and c.from_residual-in_err-judge_tag_param.result c.from_residual-in_err-judge_tag_param.ensures.1 in
    rw (p.1, p.2) (says_failure (Fails v) (FailsByTagParam policy.tag (tag_param_of params)) c.in_err-judge_tag_param.field-0.0 (tag_fails v params tag has policy chosen below covered c.in_ok-judge_created.ensures c.in_ok-judge_expires.ensures) c.in_err-judge_tag_param.ensures)

pub returns-in_err-judge_nonce-clause-explains : goal.returns-in_err-judge_nonce-clause-explains
returns-in_err-judge_nonce-clause-explains g c = λ label tag has below.
    let v = verification_by c.args.verifier.now c.args.exchange.now.context label in
    let params = c.args.params.now in
    let policy = c.in_ok-policy.policy.now in
    let chosen = c.in_ok-policy.ensures in
    let covered = rw (c.as_slice.ensures, c.required_of-required.ensures) at c.in_ok-judge_coverage.ensures in
    let test : List ℕ → Bool = λ nonce. is_replay v.seen (moment_of v.seen) c.args.keyid.now nonce in
    let replays = replay_where v params c.args.keyid.now c.requires.keyid c.requires.now in
    let p = err_from_is_err_and c.from_residual-in_err-judge_nonce.result c.from_residual-in_err-judge_nonce.ensures.1 in
    rw (p.1, p.2) (says_failure (Fails v) (FailsByNonce policy.nonce test (nonce_of params)) c.in_err-judge_nonce.field-0.0 (nonce_fails v params tag has policy chosen below covered c.in_ok-judge_created.ensures c.in_ok-judge_expires.ensures c.in_ok-judge_tag_param.ensures test replays) c.in_err-judge_nonce.ensures.explains)

pub returns-clause-explains : goal.returns-clause-explains
returns-clause-explains g c = λ label tag has below.
    let v = verification_by c.args.verifier.now c.args.exchange.now.context label in
    let params = c.args.params.now in
    let policy = c.in_ok-policy.policy.now in
    let chosen = c.in_ok-policy.ensures in
    let covered = rw (c.as_slice.ensures, c.required_of-required.ensures) at c.in_ok-judge_coverage.ensures in
    let test : List ℕ → Bool = λ nonce. is_replay v.seen (moment_of v.seen) c.args.keyid.now nonce in
    let replays = replay_where v params c.args.keyid.now c.requires.keyid c.requires.now in
    record {
      chosen = chosen;
      accepted = accepted v params tag has policy chosen below covered c.in_ok-judge_created.ensures c.in_ok-judge_expires.ensures c.in_ok-judge_tag_param.ensures test replays c.in_ok-judge_nonce.ensures.explains;
    }
