use Rattle.std.proofs.Common.{sym, refl, subst}
use Rattle.std.proofs.lemmas.Result.{err_from_is_err_and}
use Rattle.sfv_text.specs.declared.value.Member.{Member}
use Rattle.settings.specs.ConfMeaning.{meaning}
use Rattle.signing.specs.tools.Wished.{ExplainsFault}
use Rattle.signing.proofs.WishSpecs.{wish_met}
use Rattle.signing.proofs.wish.spec_of_wish.Goals as goal

pub returns-in_err-key : goal.returns-in_err-key
returns-in_err-key c =
    let p = err_from_is_err_and c.from_residual-in_err-key.result c.from_residual-in_err-key.ensures.1 in
    rw (p.1, p.2)
    (subst (λ (m : Member). ExplainsFault (meaning c.args.conf.now) c.args.sign.now m c.in_err-key.field-0.0) (sym c.in-InnerList.is) (c.in_err-key.ensures.fault c.in_ok-ids.ids c.in_ok-ids.ensures))

pub returns : goal.returns
returns c =
    let key = c.in_ok-key.ensures.ok in
    rw (c.in_ok-new.ensures, c.ids.view_is)
    (wish_met (meaning c.args.conf.now) c.args.sign.now c.args.now c.args.wish.now c.in-InnerList.list
    (record {
      label = c.args.wish.now.key;
      params = record { ids = c.in_ok-ids.ids; params = c.in_ok-wished_params.field-0 };
      key = c.in_ok-key.key.now;
      digest = c.digest_algorithm-digest.result;
    }) c.requires.sign c.requires.in_range c.in-InnerList.is c.requires.now key.keyid c.in_ok-ids.ensures key.can key.alg refl c.in_ok-wished_params.ensures key.key_is c.digest_algorithm-digest.ensures)
