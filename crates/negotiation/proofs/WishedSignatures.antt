-- In a response that is signed as its request asks each wished signature is right, and those that it had are kept.
use Rattle.std.proofs.Common.{◌≡◌, ◌≤◌, ℕ, zero, suc, Option, Some, None, List, [], ◌∷◌, ◌++◌, append-nil, map, arith, refl, sym, ap, subst, ◌∙◌}
use Rattle.std.specs.List.{All, Contains}
use Rattle.std.proofs.lemmas.List.Elements.{All-cons, All-head, All-nil, All-tail, All-weaker}
use Rattle.sfv_text.specs.declared.pair.Pair.{Pair}
use Rattle.sfv_text.specs.declared.value.Member.{Member}
use Rattle.msg_head.specs.Lines.{FieldLine}
use Rattle.msg_body.specs.Messages.{Message, Spells, message_text}
use Rattle.msg_body.proofs.OneMessages.{one_message_law}
use Rattle.component_ids.specs.declared.params.SigParams.{SigParams}
use Rattle.component_values.specs.Context.{HasWholeMessage, MessageContext, answers_head, context_with}
use Rattle.component_values.specs.Values.{HaveValues}
use Rattle.content_digest.specs.declared.algorithm.Algorithm.{Algorithm}
use Rattle.nonces.specs.declared.limits.TheConstants.{MAX_MOMENT}
use Rattle.settings.specs.Configuration.{Configuration}
use Rattle.settings.specs.Valid.{IsValid}
use Rattle.settings.specs.declared.sign_conf.SignConf.{SignConf}
use Rattle.signatures.specs.Signatures.{HasDict, HasSignature}
use Rattle.signing.specs.Asked.{digest_algorithm}
use Rattle.signing.specs.Signed.{IsVerifiable}
use Rattle.signing.specs.Specs.{IsValidSpec}
use Rattle.signing.specs.Wishes.{MeetWishes, MeetsWish, wish_name}
use Rattle.signing.specs.Written.{context_with_digest, digest_lines, with_lines}
use Rattle.signing.specs.declared.spec.SignSpec.{SignSpec}
use Rattle.signing.proofs.SomeSigned.{valid_where_wished}
use Rattle.verdicts.specs.Parameters.{keyid_of}
use Rattle.negotiation.specs.Each.{IsSignedEach, IsSignedFaultless}
use Rattle.negotiation.specs.Laws.{HasEachWished, IsMessageWhereNegotiated, IsSignedAsWished, KeepsEachSignature}
use Rattle.negotiation.specs.Negotiated.{AreNegotiated, with_digest_by}
use Rattle.negotiation.proofs.Chains.{message_where_each, over_each, step}
use Rattle.negotiation.proofs.Negotiating.{all_valid_by, as_wished}
use Rattle.negotiation.proofs.SignedKeys.{wish_names_key}
use Rattle.negotiation.proofs.Wishing.{one_dict}

-- ---- what can be signed

module _ (conf : Configuration) (now : ℕ) (valid : IsValid conf) (timely : now ≤ MAX_MOMENT) (request : Message) (specs : List SignSpec) (are : AreNegotiated conf now request specs) where
  pub all_valid : All IsValidSpec specs
  all_valid = subst (λ (ss : List SignSpec). All IsValidSpec ss) (sym are.specs_are) (all_valid_by are.digest are.wished (valid_where_wished conf now request are.wished valid timely are.are))

-- ---- a signature that was there

module _ (label : List ℕ) (params : SigParams) (tag : List ℕ) where
  abbrev Has : MessageContext → Type 0
  Has context = HasSignature context.message label params tag

  still_there : (context : MessageContext) (spec : SignSpec) (written : Message) → IsValidSpec spec → IsValidSpec spec → HasWholeMessage context → IsSignedFaultless context spec written → Has context → Has (context_with context written)
  still_there context spec written valid _ whole is has =
      let next = step context spec written valid whole is in
      let one : next.1.written ≡ written = one_message_law (answers_head context.related) (message_text written) next.1.written written next.1.spells next.0 in
      subst (λ (m : Message). HasSignature m label params tag) one (next.1.kept label params tag has)

pub kept_signatures : KeepsEachSignature
kept_signatures conf now context written label params tag valid timely whole is has =
    let fine = all_valid conf now valid timely is.request is.specs is.specs_are in
    (over_each (Has label params tag) IsValidSpec (still_there label params tag) context is.specs written fine fine whole has is.signed).2

pub message_where_negotiated : IsMessageWhereNegotiated
message_where_negotiated conf now context written valid timely whole is =
    message_where_each context is.specs written whole (all_valid conf now valid timely is.request is.specs is.specs_are) is.signed

-- ---- a signature that was made

-- the message of the context has the signature, and the line of its digest
record HasMade (spec : SignSpec) (context : MessageContext) : Type 0 where
  before : MessageContext
  text : List ℕ
  is : IsVerifiable before spec text
  signature : HasSignature context.message spec.label spec.params is.tag
  have : HaveValues context spec.params.ids is.values
  digested : digest_lines context.message spec.digest ≡ []

made_of : (context : MessageContext) (spec : SignSpec) (written : Message) → Spells (answers_head context.related) written (message_text written) → IsVerifiable context spec (message_text written) → HasMade spec (context_with context written)
made_of context spec written spells is =
    let one : is.written ≡ written = one_message_law (answers_head context.related) (message_text written) is.written written is.spells spells in
    subst (λ (m : Message). HasMade spec (context_with context m)) one
    (record { before = context; text = message_text written; is = is; signature = is.signature; have = is.have; digested = is.digested })

-- a message with no further lines is as it was
no_lines : (context : MessageContext) (lines : List FieldLine) → lines ≡ [] → context_with context (with_lines context.message lines) ≡ context
no_lines context lines none = λ i. record {
  message = record {
    head = record { start = context.message.head.start; lines = (ap (λ (ls : List FieldLine). context.message.head.lines ++ ls) none ∙ append-nil context.message.head.lines) i };
    framing = context.message.framing;
    body = context.message.body;
  };
  related = context.related;
  scheme = context.scheme;
  types = context.types;
}

-- the signature has this digest
abbrev pub HasDigest : Option Algorithm → SignSpec → Type 0
HasDigest digest spec = spec.digest ≡ digest

-- it is there still after one with the same digest
module _ (first : SignSpec) (own : IsValidSpec first) where
  still_made : (context : MessageContext) (spec : SignSpec) (written : Message) → IsValidSpec spec → HasDigest first.digest spec → HasWholeMessage context → IsSignedFaultless context spec written → HasMade first context
      → HasMade first (context_with context written)
  still_made context spec written valid same whole signed made =
      let next = step context spec written valid whole signed in
      let is = next.1 in
      let one : is.written ≡ written = one_message_law (answers_head context.related) (message_text written) is.written written is.spells next.0 in
      let before : digest_lines context.message spec.digest ≡ [] = subst (λ (d : Option Algorithm). digest_lines context.message d ≡ []) (sym same) made.digested in
      let have : HaveValues (context_with_digest context spec.digest) first.params.ids made.is.values =
      subst (λ (c : MessageContext). HaveValues c first.params.ids made.is.values) (sym (no_lines context (digest_lines context.message spec.digest) before)) made.have in
      subst (λ (m : Message). HasMade first (context_with context m)) one
      (record {
        before = made.before;
        text = made.text;
        is = made.is;
        signature = is.kept first.label first.params made.is.tag made.signature;
        have = is.others first.params.ids made.is.values own.params.each made.is.apart have;
        digested = subst (λ (d : Option Algorithm). digest_lines is.written d ≡ []) same is.digested;
      })

-- what is made of one of these
each_made : (digest : Option Algorithm) (specs : List SignSpec) (context : MessageContext) (written : Message) → All IsValidSpec specs → All (HasDigest digest) specs → HasWholeMessage context
    → IsSignedEach context specs written → (spec : SignSpec) → Contains specs spec → HasMade spec (context_with context written)
each_made digest [] context written valid are whole is spec there = absurd (let below = there.1 in omega (arith, below))
each_made digest (s ∷ specs) context written valid are whole is spec (zero, below, same) =
    let own = All-head IsValidSpec s specs valid in
    let next = step context s is.0 own whole is.1 in
    let one = All-head (HasDigest digest) s specs are in
    let alike = All-weaker (HasDigest digest) (HasDigest s.digest) (λ (other : SignSpec) has. has ∙ sym one) specs (All-tail (HasDigest digest) s specs are) in
    let last = over_each (HasMade s) (HasDigest s.digest) (still_made s own) (context_with context is.0) specs written (All-tail IsValidSpec s specs valid) alike next.0.is (made_of context s is.0 next.0 next.1) is.2 in
    subst (λ (t : SignSpec). HasMade t (context_with context written)) same last.2
each_made digest (s ∷ specs) context written valid are whole is spec (suc k, below, same) =
    let next = step context s is.0 (All-head IsValidSpec s specs valid) whole is.1 in
    each_made digest specs (context_with context is.0) written (All-tail IsValidSpec s specs valid) (All-tail (HasDigest digest) s specs are) next.0.is is.2 spec (k, omega (arith, below), same)

-- ---- wishes

-- each wish is met by a signature
one_met : (conf : Configuration) (now : ℕ) (wishes : List (Pair Member)) (specs : List SignSpec) → MeetWishes conf now wishes specs → (wish : Pair Member) → Contains wishes wish
    → (spec : SignSpec) × Contains specs spec × MeetsWish conf now wish spec
one_met conf now [] specs met wish there = absurd (let below = there.1 in omega (arith, below))
one_met conf now (w ∷ wishes) [] met wish there = absurd met
one_met conf now (w ∷ wishes) (spec ∷ specs) met wish (zero, below, same) =
    (spec, (0, omega arith, refl), subst (λ (v : Pair Member). MeetsWish conf now v spec) same met.0)
one_met conf now (w ∷ wishes) (spec ∷ specs) met wish (suc k, below, same) =
    let rest = one_met conf now wishes specs met.1 wish (k, omega (arith, below), same) in
    (rest.0, (suc rest.1.0, (let more = rest.1.1 in omega (arith, more)), rest.1.2), rest.2)

-- all signatures that are wished have one digest
wished_digest : (conf : Configuration) (now : ℕ) (sign : SignConf) → conf.sign ≡ Some sign → (wishes : List (Pair Member)) (specs : List SignSpec) → MeetWishes conf now wishes specs
    → All (HasDigest (digest_algorithm sign.digest)) specs
wished_digest conf now sign is [] [] met = All-nil (HasDigest (digest_algorithm sign.digest))
wished_digest conf now sign is [] (spec ∷ specs) met = absurd met
wished_digest conf now sign is (w ∷ wishes) [] met = absurd met
wished_digest conf now sign is (w ∷ wishes) (spec ∷ specs) met =
    let own = met.0 in
    let own_is = own.sign_is in
    let same : own.sign ≡ sign = cc (own_is, is) in
    All-cons (HasDigest (digest_algorithm sign.digest)) spec specs (own.digest ∙ ap (λ (s : SignConf). digest_algorithm s.digest) same) (wished_digest conf now sign is wishes specs met.1)

-- and so have those with the digest that is asked for
pub asked_digest : (algorithm : Algorithm) (specs : List SignSpec) → All (HasDigest (Some algorithm)) (map (with_digest_by (Some algorithm)) specs)
asked_digest algorithm [] = All-nil (HasDigest (Some algorithm))
asked_digest algorithm (spec ∷ specs) = All-cons (HasDigest (Some algorithm)) (with_digest_by (Some algorithm) spec) (map (with_digest_by (Some algorithm)) specs) refl (asked_digest algorithm specs)

one_digest : (conf : Configuration) (now : ℕ) (sign : SignConf) → conf.sign ≡ Some sign → (wishes : List (Pair Member)) (wished : List SignSpec) → MeetWishes conf now wishes wished
    → (digest : Option Algorithm) → (one : Option Algorithm) × All (HasDigest one) (map (with_digest_by digest) wished)
one_digest conf now sign is wishes wished met None =
    (digest_algorithm sign.digest, subst (λ (ss : List SignSpec). All (HasDigest (digest_algorithm sign.digest)) ss) (sym (as_wished wished)) (wished_digest conf now sign is wishes wished met))
one_digest conf now sign is wishes wished met (Some algorithm) = (Some algorithm, asked_digest algorithm wished)

-- the one of a list is among them all
among : (digest : Option Algorithm) (specs : List SignSpec) (spec : SignSpec) → Contains specs spec → Contains (map (with_digest_by digest) specs) (with_digest_by digest spec)
among digest [] spec there = absurd (let below = there.1 in omega (arith, below))
among digest (s ∷ specs) spec (zero, below, same) = (0, omega arith, ap (λ (t : SignSpec). with_digest_by digest t) same)
among digest (s ∷ specs) spec (suc k, below, same) =
    let rest = among digest specs spec (k, omega (arith, below), same) in
    (suc rest.0, (let more = rest.1 in omega (arith, more)), rest.2)

-- the digest is all that differs
same_label : (digest : Option Algorithm) (spec : SignSpec) → (with_digest_by digest spec).label ≡ spec.label
same_label None spec = refl
same_label (Some algorithm) spec = refl

same_params : (digest : Option Algorithm) (spec : SignSpec) → (with_digest_by digest spec).params ≡ spec.params
same_params None spec = refl
same_params (Some algorithm) spec = refl

same_key : (digest : Option Algorithm) (spec : SignSpec) → (with_digest_by digest spec).key ≡ spec.key
same_key None spec = refl
same_key (Some algorithm) spec = refl

-- ---- the response

module _ (conf : Configuration) (now : ℕ) (context : MessageContext) (wish : Pair Member) (spec : SignSpec) (meets : MeetsWish conf now wish spec) where
  signed_as : (made : SignSpec) → made.label ≡ spec.label → made.params ≡ spec.params → made.key ≡ spec.key → HasMade made context → IsSignedAsWished conf now context wish
  signed_as made label params key has =
      let named : wish.key ≡ made.label = sym meets.label ∙ sym label in
      let signature : HasSignature context.message wish.key spec.params has.is.tag =
      subst (λ (p : SigParams). HasSignature context.message wish.key p has.is.tag) params (subst (λ (l : List ℕ). HasSignature context.message l made.params has.is.tag) (sym named) has.signature) in
      record {
        spec = spec;
        meets = meets;
        tag = has.is.tag;
        signature = signature;
        right = record {
          params = made.params;
          tag = has.is.tag;
          signature = subst (λ (l : List ℕ). HasSignature context.message l made.params has.is.tag) (sym named) has.signature;
          keyid_is = ap keyid_of params ∙ wish_names_key conf now wish spec meets;
          key = made.key;
          key_is = meets.key ∙ ap (λ (k : List ℕ). Some k) (sym key);
          values = has.is.values;
          have = has.have;
          mac = has.is.mac;
        };
      }

module _ (conf : Configuration) (now : ℕ) (valid : IsValid conf) (timely : now ≤ MAX_MOMENT) (context : MessageContext) (whole : HasWholeMessage context) (written request : Message)
    (specs : List SignSpec) (are : AreNegotiated conf now request specs) (signed : IsSignedEach context specs written)
    (wishes : List (Pair Member)) (dict : HasDict request wish_name wishes) (wish : Pair Member) (there : Contains wishes wish) where
  met : MeetWishes conf now wishes are.wished
  met = subst (λ (ws : List (Pair Member)). MeetWishes conf now ws are.wished) (one_dict request wish_name are.are.0 wishes are.are.1 dict) are.are.2

  own : (spec : SignSpec) × Contains are.wished spec × MeetsWish conf now wish spec
  own = one_met conf now wishes are.wished met wish there

  alike : (one : Option Algorithm) × All (HasDigest one) (map (with_digest_by are.digest) are.wished)
  alike = one_digest conf now own.2.sign own.2.sign_is wishes are.wished met are.digest

  asked : Contains specs (with_digest_by are.digest own.0)
  asked = subst (λ (ss : List SignSpec). Contains ss (with_digest_by are.digest own.0)) (sym are.specs_are) (among are.digest are.wished own.0 own.1)

  made : HasMade (with_digest_by are.digest own.0) (context_with context written)
  made =
      each_made alike.0 specs context written (all_valid conf now valid timely request specs are) (subst (λ (ss : List SignSpec). All (HasDigest alike.0) ss) (sym are.specs_are) alike.1) whole signed
      (with_digest_by are.digest own.0) asked

  one_wished : IsSignedAsWished conf now (context_with context written) wish
  one_wished =
      signed_as conf now (context_with context written) wish own.0 own.2 (with_digest_by are.digest own.0) (same_label are.digest own.0) (same_params are.digest own.0) (same_key are.digest own.0) made

pub each_wished : HasEachWished
each_wished conf now context written request wishes wish valid timely whole is related dict there =
    let is_related = is.request_is in
    let same : is.request ≡ request = cc (is_related, related) in
    one_wished conf now valid timely context whole written request is.specs (subst (λ (r : Message). AreNegotiated conf now r is.specs) same is.specs_are) is.signed wishes dict wish there
