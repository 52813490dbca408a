-- A message that passes keeps the accepted signature, and the gateway's own is rightly signed in it.
use Rattle.std.proofs.Common.{◌≡◌, ℕ, Option, Some, None, List, ◌++◌, codes, refl, sym, ap, subst, ◌∙◌}
use Rattle.std.specs.Prelude.{option_and_then}
use Rattle.sfv_text.specs.Keys.{value_of}
use Rattle.sfv_text.specs.Parts.{string_in}
use Rattle.sfv_text.specs.declared.pair.Pair.{Pair}
use Rattle.sfv_text.specs.declared.value.BareItem.{BareItem}
use Rattle.sfv_text.specs.declared.value.BareItem.TheVariants.{Str}
use Rattle.framing.specs.Framings.{is_request}
use Rattle.msg_body.specs.Messages.{Message, Spells}
use Rattle.component_values.specs.Context.{HasWholeMessage, MessageContext, answers_head, context_with}
use Rattle.component_values.specs.Values.{HaveValues}
use Rattle.nonces.specs.Books.{Book}
use Rattle.settings.specs.Configuration.{Configuration}
use Rattle.settings.specs.ValidSections.{IsValidGateway}
use Rattle.settings.specs.declared.gateway_conf.GatewayConf.{GatewayConf}
use Rattle.settings.specs.declared.sign_conf.SignConf.{SignConf}
use Rattle.signatures.specs.Signatures.{HasSignature}
use Rattle.signing.specs.Asked.{IsSpecOf, given, moment_item}
use Rattle.signing.specs.Specs.{IsValidSpec}
use Rattle.signing.specs.declared.spec.SignSpec.{SignSpec}
use Rattle.signing.proofs.SomeSigned.{valid_where_asked}
use Rattle.rewrites.specs.Laws.{IsBaseOf, verification_over}
use Rattle.verdicts.specs.Laws.{IsRightlySigned}
use Rattle.verdicts.specs.Parameters.{keyid_of}
use Rattle.verdicts.specs.Rules.{key_in}
use Rattle.verdicts.specs.Verdicts.{Accepts}
use Rattle.verdicts.specs.Verification.{verification_for}
use Rattle.verdicts.specs.declared.outcome.Verdict.TheVariants.{Ok as Accepted}
use Rattle.gateway.specs.Accepted.{verification_seen}
use Rattle.gateway.specs.Forwarded.{IsPassed}
use Rattle.gateway.specs.Laws.{IsKeptWherePassed, IsOwnLabelRight, IsReady, KeepsAccepted}
use Rattle.gateway.specs.Records.{GatewayState, IsLetOn}
use Rattle.gateway.proofs.ReadMessages.{whole_read}
use Rattle.gateway.proofs.SignedValues.{accepts_still, same_written, signature_kept, spelled, values_stay, verifiable}
use Rattle.gateway.proofs.TakenSteps.{KeepsTo, kept_to}

-- ---- the key that signs

asked_is : (now : ℕ) (expires : Option ℕ) (alg : Option (List ℕ)) (name : List ℕ) (rest : List (Pair BareItem))
    → value_of (given (codes "created") moment_item (Some now) ++ (given (codes "expires") moment_item expires ++ (given (codes "nonce") Str None
    ++ (given (codes "alg") Str alg ++ (given (codes "keyid") Str (Some name) ++ rest))))) (codes "keyid") ≡ Some (Str name)
asked_is now None None name rest = refl
asked_is now None (Some a) name rest = refl
asked_is now (Some e) None name rest = refl
asked_is now (Some e) (Some a) name rest = refl

-- what a configuration asks for names the key that it is signed with
asked_names_key : (conf : Configuration) (of_request : _) (now : ℕ) (spec : SignSpec) (is : IsSpecOf conf of_request now None spec) → keyid_of spec.params ≡ Some is.sign.keyid
asked_names_key conf of_request now spec is =
    ap (λ (params : List (Pair BareItem)). option_and_then string_in (value_of params (codes "keyid"))) is.params
    ∙ ap (option_and_then string_in) (asked_is now _ _ is.sign.keyid _)

-- ---- a message that passes

module _ (settings : GatewayConf) (state : GatewayState) (ready : IsReady settings state) (context : MessageContext) (whole : HasWholeMessage context) (label text : List ℕ) (after : Book)
    (on : IsLetOn settings state context label (λ made params spec. IsPassed made params spec text) after) where
  gateway : IsValidGateway settings
  gateway = ready.valid.gateway settings ready.settings_are

  abbrev made : MessageContext
  made = context_with context on.forwarded

  abbrev passed : Message
  passed = on.outcome.written

  kept : KeepsTo label on.params context on.let_in.tag on.forwarded
  kept = kept_to label on.params settings.steps context on.let_in.tag on.forwarded gateway.writable gateway.values on.let_in.signature whole on.steps

  valid : IsValidSpec on.spec
  valid = valid_where_asked state.conf (is_request on.forwarded.head.start) state.seen.moment None on.spec ready.valid ready.early tt on.spec_is

  pub passed_spelled : Spells (answers_head context.related) passed text
  passed_spelled =
      subst (λ (t : List ℕ). Spells (answers_head context.related) passed t) (sym on.outcome.text_is)
      (spelled made on.spec passed valid kept.whole on.outcome.signed on.outcome.signable)

  base_kept : (base : List ℕ) → IsBaseOf context on.params base → IsBaseOf (context_with context passed) on.params base
  base_kept base is =
      let here = (kept.keeps.base base).0 is in
      (here.0, values_stay made on.spec passed valid kept.whole on.outcome.signed on.outcome.signable label on.params on.let_in.tag kept.keeps.signature on.outcome.uncovered here.0 here.1, here.2)

  accepted_still : Accepts (verification_seen state.conf state.seen (context_with context passed) label) on.keyid
  accepted_still =
      let accepted : Accepts (verification_over context label state.conf state.seen.moment (Some state.seen)) on.keyid =
      subst (λ (l : List ℕ). Accepts (verification_seen state.conf state.seen context l) on.keyid) on.let_in.accepted.label_is on.let_in.accepted.is.accepts in
      let here = (kept.keeps.verdict state.conf state.seen.moment (Some state.seen) (Accepted on.keyid)).0 accepted in
      accepts_still made on.spec passed valid kept.whole on.outcome.signed on.outcome.signable label on.params on.let_in.tag kept.keeps.signature on.outcome.uncovered state.conf state.seen.moment (Some state.seen) on.keyid here

  pub keeps_accepted : KeepsAccepted settings state context label passed
  keeps_accepted = record {
    keyid = on.keyid;
    params = on.params;
    let_in = on.let_in;
    signature = signature_kept made on.spec passed valid kept.whole on.outcome.signed on.outcome.signable label on.params on.let_in.tag kept.keeps.signature on.outcome.uncovered;
    base = base_kept;
    accepts = accepted_still;
  }

  -- ---- the gateway's own signature

  pub own_is_right : IsRightlySigned (verification_for state.conf state.seen.moment (context_with context passed) ready.sign.label) ready.sign.keyid
  own_is_right =
      let spec = on.spec in
      let is = verifiable made spec passed valid kept.whole on.outcome.signed on.outcome.signable in
      let same = same_written made spec passed valid kept.whole on.outcome.signed on.outcome.signable in
      let of_conf = on.spec_is.sign_is in
      let configured = ready.sign_is in
      let sign : on.spec_is.sign ≡ ready.sign = cc (of_conf, configured) in
      let label_is : spec.label ≡ ready.sign.label = on.spec_is.label ∙ ap (λ (s : SignConf). s.label) sign in
      record {
        params = spec.params;
        tag = is.tag;
        signature = subst (λ (l : List ℕ). HasSignature passed l spec.params is.tag) label_is (subst (λ (m : Message). HasSignature m spec.label spec.params is.tag) same is.signature);
        keyid_is = asked_names_key state.conf (is_request on.forwarded.head.start) state.seen.moment spec on.spec_is ∙ ap (λ (s : SignConf). Some s.keyid) sign;
        key = spec.key;
        key_is = ap (λ (s : SignConf). key_in state.conf s.keyid) (sym sign) ∙ on.spec_is.key;
        values = is.values;
        have = subst (λ (m : Message). HaveValues (context_with context m) spec.params.ids is.values) same is.have;
        mac = is.mac;
      }

pub kept_where_passed : IsKeptWherePassed
kept_where_passed settings state arrival index label text after ready is =
    let whole = whole_read state.conf arrival is.1 is.2 in
    let on = is.3 in
    (is.1, is.2, on.outcome.written, passed_spelled settings state ready is.1 whole label text after on, keeps_accepted settings state ready is.1 whole label text after on)

pub own_label_is_right : IsOwnLabelRight
own_label_is_right settings state arrival index label text after ready is =
    let whole = whole_read state.conf arrival is.1 is.2 in
    let on = is.3 in
    (is.1, is.2, on.outcome.written, passed_spelled settings state ready is.1 whole label text after on, own_is_right settings state ready is.1 whole label text after on)
