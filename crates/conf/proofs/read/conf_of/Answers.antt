use Rattle.std.proofs.Common.{◌≡◌, sym, ap, subst, ◌∙◌}
use Rattle.std.specs.Option.{ForSome}
use Rattle.std.proofs.lemmas.Result.{err_from_is_err_and}
use Rattle.toml.specs.View.{table_view}
use Rattle.settings.specs.ConfMeaning.{meaning}
use Rattle.settings.specs.Configuration.{Configuration}
use Rattle.settings.specs.Keys.{KeyMap}
use Rattle.settings.specs.Valid.{IsValidSign}
use Rattle.conf.specs.Sections.{kept_nonces}
use Rattle.conf.specs.Table.{version_in}
use Rattle.conf.specs.tools.Judged.{IsClearBelow, IsFirstIn, IsJudged}
use Rattle.conf.specs.tools.SectionReads.{AreSections}
use Rattle.conf.proofs.ConfLaws.{is_valid, same_says, valid_signs, with_gateway, with_sign}
use Rattle.conf.proofs.GatewayLaws.{valid_gateway}
use Rattle.conf.proofs.KeyTextLaws.{are_keys, below_lists, keys_fault}
use Rattle.conf.proofs.TypeLaws.{have_types}
use Rattle.conf.proofs.read.conf_of.Goals as goal

pub returns-in_err-keys-clause-err : goal.returns-in_err-keys-clause-err
returns-in_err-keys-clause-err c =
    let p = err_from_is_err_and c.from_residual-in_err-keys.result c.from_residual-in_err-keys.ensures.1 in
    rw (p.1, p.2) (keys_fault (table_view c.args.document.now) c.in_err-keys.field-0.0 (rw c.of-tables.ensures.document at c.in_ok-judge_document.ensures.ok) c.in_err-keys.ensures.distinct c.in_err-keys.ensures.err)

pub returns-in_err-policies-clause-err : goal.returns-in_err-policies-clause-err
returns-in_err-policies-clause-err c =
    let p = err_from_is_err_and c.from_residual-in_err-policies.result c.from_residual-in_err-policies.ensures.1 in
    let document = table_view c.args.document.now in
    let first : IsClearBelow 7 document → IsFirstIn document c.in_err-policies.field-0.0 = rw c.of-tables.ensures.document at c.in_err-policies.ensures.err in
    rw (p.1, p.2) (first (below_lists (table_view c.args.document.now) (rw c.of-tables.ensures.document at c.in_ok-judge_document.ensures.ok) c.in_ok-keys.ensures.spell))

pub new-judged-requires : goal.new-judged-requires
new-judged-requires c =
    let document = table_view c.args.document.now in
    let judged : IsJudged document = rw c.of-tables.ensures.document at c.in_ok-judge_document.ensures.ok in
    let sections : AreSections document c.in_ok-policies.field-0 = rw c.of-tables.ensures.document at c.in_ok-policies.ensures.ok in
    let keys = are_keys document judged c.in_ok-keys.ensures.spell c.in_ok-keys.ensures.distinct c.in_ok-keys.keys c.in_ok-keys.ensures.ok in
    let nonces : c.nonces_of.result ≡ kept_nonces (version_in document) document = rw c.of-tables.ensures.document at c.nonces_of.ensures in
    rw nonces (is_valid document judged c.scheme_in.result c.in_ok-keys.keys c.in_ok-types.types c.in_ok-policies.field-0.policies keys sections.policies)

pub with_sign_of-signing-requires-clause-none : goal.with_sign_of-signing-requires-clause-none
with_sign_of-signing-requires-clause-none c = ap (λ (conf : Configuration). conf.sign) c.new-judged.ensures

pub with_sign_of-signing-requires-clause-valid : goal.with_sign_of-signing-requires-clause-valid
with_sign_of-signing-requires-clause-valid c =
    let document = table_view c.args.document.now in
    let judged : IsJudged document = rw c.of-tables.ensures.document at c.in_ok-judge_document.ensures.ok in
    let sections : AreSections document c.in_ok-policies.field-0 = rw c.of-tables.ensures.document at c.in_ok-policies.ensures.ok in
    let keys = are_keys document judged c.in_ok-keys.ensures.spell c.in_ok-keys.ensures.distinct c.in_ok-keys.keys c.in_ok-keys.ensures.ok in
    subst (λ (map : KeyMap). ForSome c.in_ok-policies.field-0.sign (IsValidSign map)) (sym (ap (λ (conf : Configuration). conf.keys) c.new-judged.ensures))
    (valid_signs document judged c.in_ok-keys.keys keys c.in_ok-policies.field-0.sign sections.sign)

pub with_gateway_of-requires-clause-none : goal.with_gateway_of-requires-clause-none
with_gateway_of-requires-clause-none c =
    ap (λ (conf : Configuration). conf.gateway) c.with_sign_of-signing.ensures ∙ ap (λ (conf : Configuration). conf.gateway) c.new-judged.ensures

pub with_gateway_of-requires-clause-valid : goal.with_gateway_of-requires-clause-valid
with_gateway_of-requires-clause-valid c =
    let document = table_view c.args.document.now in
    let judged : IsJudged document = rw c.of-tables.ensures.document at c.in_ok-judge_document.ensures.ok in
    let sections : AreSections document c.in_ok-policies.field-0 = rw c.of-tables.ensures.document at c.in_ok-policies.ensures.ok in
    valid_gateway document c.in_ok-policies.field-0.gateway judged sections.gateway

pub returns-clause-ok : goal.returns-clause-ok
returns-clause-ok c =
    let document = table_view c.args.document.now in
    let judged : IsJudged document = rw c.of-tables.ensures.document at c.in_ok-judge_document.ensures.ok in
    let sections : AreSections document c.in_ok-policies.field-0 = rw c.of-tables.ensures.document at c.in_ok-policies.ensures.ok in
    let nonces : c.nonces_of.result ≡ kept_nonces (version_in document) document = rw c.of-tables.ensures.document at c.nonces_of.ensures in
    let sign = c.in_ok-policies.field-0.sign in
    let gateway = c.in_ok-policies.field-0.gateway in
    same_says document (meaning c.with_gateway_of.result) _
    (c.with_gateway_of.ensures ∙ ap (λ (conf : Configuration). with_gateway conf gateway) c.with_sign_of-signing.ensures
    ∙ ap (λ (conf : Configuration). with_gateway (with_sign conf sign) gateway) c.new-judged.ensures) (record {
      known = judged.known;
      typed = judged.typed;
      allowed = judged.allowed;
      complete = sections.complete;
      scheme = c.scheme_in.ensures;
      keys = are_keys document judged c.in_ok-keys.ensures.spell c.in_ok-keys.ensures.distinct c.in_ok-keys.keys c.in_ok-keys.ensures.ok;
      types = have_types document judged c.in_ok-types.ensures.distinct c.in_ok-types.types c.in_ok-types.ensures.ok;
      policies = sections.policies;
      nonces = nonces;
      sign = sections.sign;
      gateway = sections.gateway;
    })
