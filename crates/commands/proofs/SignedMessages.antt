-- What is signed is rightly signed.
use Rattle.std.proofs.Common.{◌≡◌, ◌≤◌, ℕ, zero, suc, Option, Some, None, List, [], ◌∷◌, ◌++◌, append-nil, arith, refl, sym, ap, subst, ◌∙◌, inl, inr}
use Rattle.std.specs.List.{All, Contains, list_all}
use Rattle.std.specs.Prelude.{⊤, IfSome, IsSomeAnd, IsTrue}
use Rattle.std.proofs.lemmas.List.Elements.{All-cons, All-head, All-nil, All-tail}
use Rattle.msg_body.specs.Messages.{Message, Spells, message_text}
use Rattle.msg_body.specs.Views.{lines_on}
use Rattle.msg_body.proofs.OneMessages.{one_message_law}
use Rattle.msg_head.specs.Lines.{FieldLine}
use Rattle.msg_head.specs.Values.{combined_value}
use Rattle.msg_head.specs.declared.error.Side.TheVariants.{Header}
use Rattle.framing.specs.Framings.{is_request}
use Rattle.sfv_text.specs.Range.{is_string_byte}
use Rattle.sfv_text.specs.declared.pair.Pair.{Pair}
use Rattle.sfv_text.specs.declared.value.Member.{Member}
use Rattle.sfv_read.proofs.Readings.{dict_has_one_value}
use Rattle.component_ids.specs.declared.params.SigParams.{SigParams}
use Rattle.component_values.specs.Context.{MessageContext, answers_head, context_with}
use Rattle.component_values.specs.Values.{HaveValues}
use Rattle.nonces.specs.declared.limits.TheConstants.{MAX_MOMENT}
use Rattle.conf.specs.Configuration.{Configuration}
use Rattle.settings.specs.Valid.{IsValid}
use Rattle.settings.specs.declared.sign_conf.SignConf.{SignConf}
use Rattle.signatures.specs.Signatures.{HasSignature}
use Rattle.signing.specs.Asked.{digest_algorithm}
use Rattle.signing.specs.Signed.{IsSignedMessage, IsVerifiable}
use Rattle.signing.specs.Specs.{IsValidSpec}
use Rattle.signing.specs.Wishes.{MeetWishes, MeetsWish, wish_name, wished_keyid}
use Rattle.signing.specs.Written.{context_with_digest, digest_lines, with_lines}
use Rattle.signing.specs.declared.spec.SignSpec.{SignSpec}
use Rattle.signing.proofs.SomeSigned.{verifiable_where_signed, valid_where_asked, valid_where_wished}
use Rattle.verdicts.specs.Laws.{IsRightlySigned}
use Rattle.verdicts.specs.Parameters.{keyid_of}
use Rattle.verdicts.specs.Rules.{key_in}
use Rattle.commands.specs.Layers.{IsUnrefused}
use Rattle.commands.specs.Sign.{IsSignRefused, ReportsEach, ReportsSigning}
use Rattle.commands.specs.SignedMessages.{IsKeptWhereSigned, IsMessageWhereSigned, IsRightWhereSigned}
use Rattle.verdicts.specs.Verification.{verification_for}
use Rattle.negotiation.proofs.SignedKeys.{wish_names_key}
use Rattle.commands.specs.declared.outcome.Outcome.TheVariants.{Done}
use Rattle.commands.proofs.OneSigning.{refusal_of}
use Rattle.commands.proofs.SignedKeys.{asked_names_key}

-- ---- one signature after the other

-- the message that is signed without a refusal is one, and can be verified
step : (context : MessageContext) (spec : SignSpec) (bytes : List ℕ) (written : Message) → IsValidSpec spec → Spells (answers_head context.related) context.message bytes
    → IsUnrefused (IsSignedMessage context spec) (IsSignRefused context spec) written
    → Spells (answers_head context.related) written (message_text written) × IsVerifiable context spec (message_text written)
step context spec bytes written valid spells is =
    verifiable_where_signed context spec bytes written valid spells is.made (λ f holds. let refusal = refusal_of context spec f holds in is.none refusal.0 refusal.1)

text_of_done : (text written : List ℕ) → Done written ≡ Done text → text ≡ written
text_of_done text written same = cc

-- the message that is written in the end has what each signature keeps
module _ (P : MessageContext → Type 0) (Q : SignSpec → Type 0)
    (keeps : (context : MessageContext) (spec : SignSpec) (written : Message) → Q spec → Spells (answers_head context.related) written (message_text written) → IsVerifiable context spec (message_text written) → P context
    → P (context_with context written)) where
  over_each : (specs : List SignSpec) (context : MessageContext) (bytes text : List ℕ) → All IsValidSpec specs → All Q specs → Spells (answers_head context.related) context.message bytes → P context → ReportsEach context specs (Done text)
      → (message : Message) × Spells (answers_head context.related) message text × (message.head.start ≡ context.message.head.start) × P (context_with context message)
  over_each [] context bytes text valid are spells holds done =
      (context.message, record { is = spells.is; text = sym (text_of_done (message_text context.message) text done) }, refl, holds)
  over_each (spec ∷ specs) context bytes text valid are spells holds (inr cause) = absurd (cc cause.2)
  over_each (spec ∷ specs) context bytes text valid are spells holds (inl made) =
      let is = step context spec bytes made.0 (All-head IsValidSpec spec specs valid) spells made.1 in
      let rest = over_each specs (context_with context made.0) (message_text made.0) text (All-tail IsValidSpec spec specs valid) (All-tail Q spec specs are) is.0
      (keeps context spec made.0 (All-head Q spec specs are) is.0 is.1 holds) made.2 in
      (rest.0, rest.1, rest.2 ∙ ap (λ (m : Message). m.head.start) made.1.made.written_is, rest.3)

-- ---- a signature that was there

-- the message has the label's signature
module _ (label : List ℕ) (params : SigParams) (tag : List ℕ) where
  abbrev Has : MessageContext → Type 0
  Has context = HasSignature context.message label params tag

  still_there : (context : MessageContext) (spec : SignSpec) (written : Message) → IsValidSpec spec → Spells (answers_head context.related) written (message_text written) → IsVerifiable context spec (message_text written) → Has context
      → Has (context_with context written)
  still_there context spec written valid spells is has =
      let one : is.written ≡ written = one_message_law (answers_head context.related) (message_text written) is.written written is.spells spells in
      subst (λ (m : Message). HasSignature m label params tag) one (is.kept label params tag has)

-- ---- a signature that was made

-- the message of the context has the signature, and the line of its digest
record HasMade (spec : SignSpec) (context : MessageContext) : Type 0 where
  before : MessageContext
  text : List ℕ
  is : IsVerifiable before spec text
  signature : HasSignature context.message spec.label spec.params is.tag
  have : HaveValues context spec.params.ids is.values
  digested : digest_lines context.message spec.digest ≡ []

made_of : (context : MessageContext) (spec : SignSpec) (written : Message) → Spells (answers_head context.related) written (message_text written) → IsVerifiable context spec (message_text written) → HasMade spec (context_with context written)
made_of context spec written spells is =
    let one : is.written ≡ written = one_message_law (answers_head context.related) (message_text written) is.written written is.spells spells in
    subst (λ (m : Message). HasMade spec (context_with context m)) one
    (record { before = context; text = message_text written; is = is; signature = is.signature; have = is.have; digested = is.digested })

-- a message with no further lines is as it was
no_lines : (context : MessageContext) (lines : List FieldLine) → lines ≡ [] → context_with context (with_lines context.message lines) ≡ context
no_lines context lines none = λ i. record {
  message = record {
    head = record { start = context.message.head.start; lines = (ap (λ (ls : List FieldLine). context.message.head.lines ++ ls) none ∙ append-nil context.message.head.lines) i };
    framing = context.message.framing;
    body = context.message.body;
  };
  related = context.related;
  scheme = context.scheme;
  types = context.types;
}

-- it is there still after one with the same digest
module _ (first : SignSpec) (own : IsValidSpec first) where
  still_made : (context : MessageContext) (spec : SignSpec) (written : Message) → first.digest ≡ spec.digest → Spells (answers_head context.related) written (message_text written) → IsVerifiable context spec (message_text written)
      → HasMade first context → HasMade first (context_with context written)
  still_made context spec written same spells is made =
      let one : is.written ≡ written = one_message_law (answers_head context.related) (message_text written) is.written written is.spells spells in
      let before : digest_lines context.message spec.digest ≡ [] = subst (λ d. digest_lines context.message d ≡ []) same made.digested in
      let have : HaveValues (context_with_digest context spec.digest) first.params.ids made.is.values =
      subst (λ (c : MessageContext). HaveValues c first.params.ids made.is.values) (sym (no_lines context (digest_lines context.message spec.digest) before)) made.have in
      subst (λ (m : Message). HasMade first (context_with context m)) one
      (record {
        before = made.before;
        text = made.text;
        is = made.is;
        signature = is.kept first.label first.params made.is.tag made.signature;
        have = is.others first.params.ids made.is.values own.params.each made.is.apart have;
        digested = subst (λ d. digest_lines is.written d ≡ []) (sym same) is.digested;
      })

-- the signature has the configured digest
abbrev HasDigest : SignConf → SignSpec → Type 0
HasDigest sign spec = digest_algorithm sign.digest ≡ spec.digest

-- and that of another that has it
abbrev HasDigestOf : SignSpec → SignSpec → Type 0
HasDigestOf first spec = first.digest ≡ spec.digest

digest_of : (sign : SignConf) (first : SignSpec) → HasDigest sign first → (specs : List SignSpec) → All (HasDigest sign) specs → All (HasDigestOf first) specs
digest_of sign first own [] are = All-nil (HasDigestOf first)
digest_of sign first own (spec ∷ specs) are =
    All-cons (HasDigestOf first) spec specs (sym own ∙ All-head (HasDigest sign) spec specs are) (digest_of sign first own specs (All-tail (HasDigest sign) spec specs are))

-- what is made of one of these
abbrev IsMadeIn : MessageContext → List ℕ → SignSpec → Type 0
IsMadeIn context text spec = (message : Message) × Spells (answers_head context.related) message text × HasMade spec (context_with context message)

each_made : (sign : SignConf) (specs : List SignSpec) (context : MessageContext) (bytes text : List ℕ) → All IsValidSpec specs → All (HasDigest sign) specs → Spells (answers_head context.related) context.message bytes
    → ReportsEach context specs (Done text) → (spec : SignSpec) → Contains specs spec → IsMadeIn context text spec
each_made sign [] context bytes text valid are spells done spec there = absurd (let below = there.1 in omega (arith, below))
each_made sign (s ∷ specs) context bytes text valid are spells (inr cause) spec there = absurd (cc cause.2)
each_made sign (s ∷ specs) context bytes text valid are spells (inl made) spec (zero, below, same) =
    let own = All-head IsValidSpec s specs valid in
    let is = step context s bytes made.0 own spells made.1 in
    let last = over_each (HasMade s) (HasDigestOf s) (still_made s own) specs (context_with context made.0) (message_text made.0) text (All-tail IsValidSpec s specs valid)
    (digest_of sign s (All-head (HasDigest sign) s specs are) specs (All-tail (HasDigest sign) s specs are)) is.0 (made_of context s made.0 is.0 is.1) made.2 in
    subst (λ (t : SignSpec). IsMadeIn context text t) same (last.0, last.1, last.3)
each_made sign (s ∷ specs) context bytes text valid are spells (inl made) spec (suc k, below, same) =
    let is = step context s bytes made.0 (All-head IsValidSpec s specs valid) spells made.1 in
    each_made sign specs (context_with context made.0) (message_text made.0) text (All-tail IsValidSpec s specs valid) (All-tail (HasDigest sign) s specs are) is.0 made.2 spec (k, omega (arith, below), same)

-- ---- wishes

-- each wish is met by a signature
one_met : (conf : Configuration) (now : ℕ) (wishes : List (Pair Member)) (specs : List SignSpec) → MeetWishes conf now wishes specs → (wish : Pair Member) → Contains wishes wish
    → (spec : SignSpec) × Contains specs spec × MeetsWish conf now wish spec
one_met conf now [] specs met wish there = absurd (let below = there.1 in omega (arith, below))
one_met conf now (w ∷ wishes) [] met wish there = absurd met
one_met conf now (w ∷ wishes) (spec ∷ specs) met wish (zero, below, same) =
    (spec, (0, omega arith, refl), subst (λ (v : Pair Member). MeetsWish conf now v spec) same met.0)
one_met conf now (w ∷ wishes) (spec ∷ specs) met wish (suc k, below, same) =
    let rest = one_met conf now wishes specs met.1 wish (k, omega (arith, below), same) in
    (rest.0, (suc rest.1.0, (let more = rest.1.1 in omega (arith, more)), rest.1.2), rest.2)

-- all signatures have the configured digest
one_digest : (conf : Configuration) (now : ℕ) (sign : SignConf) → conf.sign ≡ Some sign → (wishes : List (Pair Member)) (specs : List SignSpec) → MeetWishes conf now wishes specs → All (HasDigest sign) specs
one_digest conf now sign is [] [] met = All-nil (HasDigest sign)
one_digest conf now sign is [] (spec ∷ specs) met = absurd met
one_digest conf now sign is (w ∷ wishes) [] met = absurd met
one_digest conf now sign is (w ∷ wishes) (spec ∷ specs) met =
    let own = met.0 in
    let same : own.sign ≡ sign = cc (own.sign_is, is) in
    All-cons (HasDigest sign) spec specs (sym (own.digest ∙ ap (λ (s : SignConf). digest_algorithm s.digest) same)) (one_digest conf now sign is wishes specs met.1)

-- ---- the message that was written

module _ (conf : Configuration) (moment : ℕ) (context : MessageContext) (written label keyid : List ℕ) (message : Message) (spells : Spells (answers_head context.related) message written) where
  rightly : (spec : SignSpec) → keyid_of spec.params ≡ Some keyid → key_in conf keyid ≡ Some spec.key → label ≡ spec.label → IsMadeIn context written spec
      → IsRightlySigned (verification_for conf moment (context_with context message) label) keyid
  rightly spec keyid_is key_is label_is last =
      let one : last.0 ≡ message = one_message_law (answers_head context.related) written last.0 message last.1 spells in
      let is = subst (λ (m : Message). HasMade spec (context_with context m)) one last.2 in
      record {
        params = spec.params;
        tag = is.is.tag;
        signature = subst (λ (l : List ℕ). HasSignature message l spec.params is.is.tag) (sym label_is) is.signature;
        keyid_is = keyid_is;
        key = spec.key;
        key_is = key_is;
        values = is.is.values;
        have = is.have;
        mac = is.is.mac;
      }

-- the label and the key of the table `sign` are those of what it asks for
configured_as : (o : Option SignConf) (label keyid : List ℕ) (sign : SignConf) → IsSomeAnd o (λ (s : SignConf). (label ≡ s.label) × (keyid ≡ s.keyid)) → o ≡ Some sign → (label ≡ sign.label) × (keyid ≡ sign.keyid)
configured_as (Some s) label keyid sign is there =
    let same : s ≡ sign = cc in
    (is.0 ∙ ap (λ (t : SignConf). t.label) same, is.1 ∙ ap (λ (t : SignConf). t.keyid) same)
configured_as None label keyid sign is there = absurd is

one_spec_valid : (spec : SignSpec) → IsValidSpec spec → All IsValidSpec (spec ∷ [])
one_spec_valid spec valid = All-cons IsValidSpec spec [] valid (All-nil IsValidSpec)

-- the specs that are signed
pub over_signing : (P : MessageContext → Type 0)
    → ((context : MessageContext) (spec : SignSpec) (written : Message) → IsValidSpec spec → Spells (answers_head context.related) written (message_text written) → IsVerifiable context spec (message_text written) → P context
    → P (context_with context written))
    → (text : Option (List ℕ)) (moment : ℕ) (conf : Configuration) (wishes : Option Message) (context : MessageContext) (bytes written : List ℕ) → IsValid conf → moment ≤ MAX_MOMENT
    → IfSome text (λ text. IsTrue (list_all is_string_byte text)) → Spells (answers_head context.related) context.message bytes → ReportsSigning text moment conf wishes context (Done written) → P context
    → (message : Message) × Spells (answers_head context.related) message written × (message.head.start ≡ context.message.head.start) × P (context_with context message)
over_signing P keeps text moment conf None context bytes written valid timely characters spelled reports holds =
    let fine = one_spec_valid reports.spec (valid_where_asked conf (is_request context.message.head.start) moment text reports.spec valid timely characters reports.is) in
    over_each P IsValidSpec keeps (reports.spec ∷ []) context bytes written fine fine spelled holds reports.reports
over_signing P keeps text moment conf (Some wishes) context bytes written valid timely characters spelled (inr cause) holds = absurd (cc cause.2)
over_signing P keeps text moment conf (Some wishes) context bytes written valid timely characters spelled (inl reports) holds =
    let fine = valid_where_wished conf moment wishes reports.0 valid timely reports.1.made in
    over_each P IsValidSpec keeps reports.0 context bytes written fine fine spelled holds reports.2

pub message_where_signed : IsMessageWhereSigned
message_where_signed text moment conf wishes context bytes written valid timely characters spelled reports =
    let end = over_signing (λ _. ⊤) (λ _ _ _ _ _ _ _. tt) text moment conf wishes context bytes written valid timely characters spelled reports tt in
    (end.0, end.1, end.2)

pub kept_where_signed : IsKeptWhereSigned
kept_where_signed text moment conf wishes context bytes written label params tag message valid timely characters spelled reports spells has =
    let end = over_signing (Has label params tag) (still_there label params tag) text moment conf wishes context bytes written valid timely characters spelled reports has in
    subst (λ (m : Message). HasSignature m label params tag) (one_message_law (answers_head context.related) written end.0 message end.1 spells) end.3

pub right_where_signed : IsRightWhereSigned
right_where_signed text moment conf None context bytes written label keyid message valid timely characters spelled reports wished spells =
    let own = reports.is in
    let is = configured_as conf.sign label keyid own.sign wished own.sign_is in
    let spec = reports.spec in
    let digest : All (HasDigest own.sign) (spec ∷ []) = All-cons (HasDigest own.sign) spec [] (sym own.digest) (All-nil (HasDigest own.sign)) in
    let fine = one_spec_valid spec (valid_where_asked conf (is_request context.message.head.start) moment text spec valid timely characters own) in
    rightly conf moment context written label keyid message spells spec (asked_names_key conf (is_request context.message.head.start) moment text spec own ∙ ap (λ (k : List ℕ). Some k) (sym is.1))
    (ap (key_in conf) is.1 ∙ own.key) (is.0 ∙ sym own.label) (each_made own.sign (spec ∷ []) context bytes written fine digest spelled reports.reports spec (0, omega arith, refl))
right_where_signed text moment conf (Some wishes) context bytes written label keyid message valid timely characters spelled (inr cause) wished spells = absurd (cc cause.2)
right_where_signed text moment conf (Some wishes) context bytes written label keyid message valid timely characters spelled (inl reports) wished spells =
    let specs = reports.0 in
    let are = reports.1.made in
    let same : are.0 ≡ wished.list = dict_has_one_value (combined_value (lines_on Header wishes) wish_name) are.0 wished.list are.1.reads wished.dict.reads in
    let met = subst (λ (ws : List (Pair Member)). MeetWishes conf moment ws specs) same are.2 in
    let one = one_met conf moment wished.list specs met wished.wish wished.there in
    let wish = one.2 in
    let sign : wish.sign ≡ wished.sign = cc (wish.sign_is, wished.sign_is) in
    let list : wish.list ≡ wished.components = cc (wish.list_is, wished.components_are) in
    let named : wished_keyid wish.sign wish.list ≡ keyid = (λ i. wished_keyid (sign i) (list i)) ∙ sym wished.keyid_is in
    rightly conf moment context written label keyid message spells one.0 (wish_names_key conf moment wished.wish one.0 wish ∙ ap (λ (k : List ℕ). Some k) named) (ap (key_in conf) (sym named) ∙ wish.key)
    (wished.label_is ∙ sym wish.label)
    (each_made wished.sign specs context bytes written (valid_where_wished conf moment wishes specs valid timely are) (one_digest conf moment wished.sign wished.sign_is wished.list specs met) spelled reports.2
    one.0 one.1)
