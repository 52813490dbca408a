-- What `negotiate` writes has what its request asks for, and is accepted by `verify`, or fails a rule of the policy.
use Rattle.std.proofs.Common.{◌≡◌, ◌<◌, ◌≤◌, ◌^◌, ℕ, Option, Some, None, List, [], ◌∷◌, refl, sym, ap, subst, ◌∙◌, inl, inr, arith}
use Rattle.std.specs.List.{Contains}
use Rattle.sfv_text.specs.declared.pair.Pair.{Pair}
use Rattle.sfv_text.specs.declared.value.Member.{Member}
use Rattle.command_line.specs.Command.{CommandLine, Negotiate, Verify, NegotiateWords, VerifyWords, IsCommand}
use Rattle.command_line.proofs.CommandLaws.{one_command}
use Rattle.command_line.proofs.CommandWords.{timely}
use Rattle.nonces.specs.declared.limits.TheConstants.{MAX_MOMENT}
use Rattle.msg_body.specs.Messages.{Message, Spells, message_text}
use Rattle.msg_body.specs.WholeTexts.{reading_for}
use Rattle.component_values.specs.Context.{MessageContext, HasWholeMessage, answers_head}
use Rattle.component_values.specs.Values.{HaveValues}
use Rattle.conf.specs.Configuration.{Configuration}
use Rattle.settings.specs.Valid.{IsValid}
use Rattle.negotiation.specs.Laws.{IsSignedAsWished}
use Rattle.negotiation.specs.NegotiateCauses.{IsNegotiateFault}
use Rattle.negotiation.specs.Negotiated.{IsNegotiated}
use Rattle.signatures.specs.Signatures.{HasDict}
use Rattle.signing.specs.Wishes.{wish_name, wished_keyid}
use Rattle.verdicts.specs.Contexts.{context_for}
use Rattle.verdicts.specs.Laws.{IsRightlySigned}
use Rattle.verdicts.specs.Rules.{key_in}
use Rattle.verdicts.specs.Verification.{verification_for}
use Rattle.verdicts.specs.declared.outcome.Verdict.{Verdict}
use Rattle.intake.specs.Configured.{IsConfigured}
use Rattle.intake.specs.Files.{Found, Conf as ConfFile, Request as RequestFile}
use Rattle.commands.specs.Layers.{IsUnrefused}
use Rattle.intake.specs.MessageFiles.{IsRequested}
use Rattle.intake.specs.Messages.{IsInputMessage}
use Rattle.commands.specs.SignedMessages.{IsWishedAs}
use Rattle.commands.specs.Verify.{verdicts_outcome}
use Rattle.commands.specs.declared.outcome.Outcome.{Outcome}
use Rattle.commands.specs.declared.outcome.Outcome.TheVariants.{Done}
use Rattle.program.specs.Laws.{IsAcceptedWhereNegotiated, IsOkOrPolicy, KnowsNegotiator, VerifiesNegotiated}
use Rattle.program.specs.Meanings.{HasNegotiated, TellsNegotiated}
use Rattle.program.specs.Report.{Reports, ReportsCommand}
use Rattle.program.proofs.CommandLaws.{conf_decided, digest_where_chosen, each_wished, keeps_each_signature, message_where_negotiated, request_decided, valid_where_configured}
use Rattle.program.proofs.SignedInputs.{label_verdict, ok_or_policy, short_of, verdicts_of, verify_parts, whole_is}
use Rattle.program.proofs.Sources.{spelled_input}

-- ---- what `negotiate` read

pub negotiates_timely : (arguments : List (List ℕ)) (words : NegotiateWords) → IsCommand arguments (Negotiate words) → words.now ≤ MAX_MOMENT
negotiates_timely arguments words is =
    let below : words.now < 10 ^ 15 = timely arguments (Negotiate words) is in
    omega (arith, below)

-- the parts of a response that was signed
record IsSignedAsAsked (words : NegotiateWords) (found : Found) (input output : List ℕ) : Type 0 where
  conf : Configuration
  configured : IsConfigured (Some words.conf) (found ConfFile) conf
  request : Message
  requested : IsRequested (Some words.request) (found RequestFile) (Some request)
  message : Message
  is : IsInputMessage (reading_for (Some request)) input message
  written : Message
  made : IsUnrefused (IsNegotiated conf words.now (context_for conf message (Some request))) (IsNegotiateFault conf words.now (context_for conf message (Some request))) written
  output_is : output ≡ message_text written

some_request : (name found : Option (List ℕ)) (related : Option Message) (word : List ℕ) → name ≡ Some word → IsRequested name found related → (request : Message) × (related ≡ Some request)
some_request name found related word named is = of_name related (subst (λ (n : Option (List ℕ)). IsRequested n found related) named is)
  where
    of_name : (o : Option Message) → IsRequested (Some word) found o → (request : Message) × (o ≡ Some request)
    of_name (Some request) there = (request, refl)
    of_name None there = absurd there

done_is : (output text : List ℕ) → Done output ≡ Done text → output ≡ text
done_is output text same = cc

of_files : (words : NegotiateWords) (found : Found) (input output : List ℕ) → ReportsCommand (Negotiate words) found input (Done output) → IsSignedAsAsked words found input output
of_files words found input output (inr cause) = absurd (cc cause.2)
of_files words found input output (inl (taken, is, inr cause)) = absurd (cc cause.2)
of_files words found input output (inl (taken, is, inl (written, made, same))) =
    let known = some_request (Some words.request) (found RequestFile) taken.context.related words.request refl is.requested in
    let context : taken.context ≡ context_for taken.conf taken.context.message (Some known.0) =
    is.context_is ∙ ap (λ (r : Option Message). context_for taken.conf taken.context.message r) known.1 in
    record {
      conf = taken.conf;
      configured = is.conf.configured;
      request = known.0;
      requested = subst (λ (r : Option Message). IsRequested (Some words.request) (found RequestFile) r) known.1 is.requested;
      message = taken.context.message;
      is = subst (λ (r : Option Message). IsInputMessage (reading_for r) input taken.context.message) known.1 is.is;
      written = written;
      made = subst (λ (c : MessageContext). IsUnrefused (IsNegotiated taken.conf words.now c) (IsNegotiateFault taken.conf words.now c) written) context made;
      output_is = done_is output (message_text written) same;
    }

asked_parts : (arguments : List (List ℕ)) (words : NegotiateWords) (found : Found) (input output : List ℕ) → IsCommand arguments (Negotiate words) → Reports arguments found input (Done output)
    → IsSignedAsAsked words found input output
asked_parts arguments words found input output is (inr cause) = absurd (cc cause.2)
asked_parts arguments words found input output is (inl (command, spells, reports)) =
    of_files words found input output
    (subst (λ (c : CommandLine). ReportsCommand c found input (Done output)) (one_command arguments command (Negotiate words) spells is) reports)

-- ---- both

-- a label that is rightly signed is so by a configuration with the same scheme, kinds of fields and key, at any moment
right_by : (conf next : Configuration) (now moment : ℕ) (message : Message) (related : Option Message) (label keyid : List ℕ) → next.scheme ≡ conf.scheme → next.types ≡ conf.types → key_in next keyid ≡ key_in conf keyid
    → IsRightlySigned (verification_for conf now (context_for conf message related) label) keyid → IsRightlySigned (verification_for next moment (context_for next message related) label) keyid
right_by conf next now moment message related label keyid scheme types key is =
    let context : context_for conf message related ≡ context_for next message related = λ i. record { message = message; related = related; scheme = sym scheme i; types = sym types i } in
    record {
      params = is.params;
      tag = is.tag;
      signature = is.signature;
      keyid_is = is.keyid_is;
      key = is.key;
      key_is = key ∙ is.key_is;
      values = is.values;
      have = subst (λ (c : MessageContext). HaveValues c is.params.ids is.values) context is.have;
      mac = is.mac;
    }

module _ (words : NegotiateWords) (found : Found) (input output : List ℕ) (now : words.now ≤ MAX_MOMENT) (parts : IsSignedAsAsked words found input output) where
  valid : IsValid parts.conf
  valid = valid_where_configured (Some words.conf) (found ConfFile) parts.conf parts.configured

  whole : HasWholeMessage (context_for parts.conf parts.message (Some parts.request))
  whole = (spelled_input (Some parts.request) input parts.message parts.is).is

  written_spells : Spells (answers_head (Some parts.request)) parts.written (message_text parts.written) × (parts.written.head.start ≡ parts.message.head.start)
  written_spells = message_where_negotiated parts.conf words.now (context_for parts.conf parts.message (Some parts.request)) parts.written valid now whole parts.made.made

  output_spells : Spells (answers_head (Some parts.request)) parts.written output
  output_spells = subst (λ (text : List ℕ). Spells (answers_head (Some parts.request)) parts.written text) (sym parts.output_is) written_spells.0

  as_wished : (wishes : List (Pair Member)) (wish : Pair Member) → HasDict parts.request wish_name wishes → Contains wishes wish
      → IsSignedAsWished parts.conf words.now (context_for parts.conf parts.written (Some parts.request)) wish
  as_wished wishes wish dict there =
      each_wished parts.conf words.now (context_for parts.conf parts.message (Some parts.request)) parts.written parts.request wishes wish valid now whole parts.made.made refl dict there

  told : TellsNegotiated words found input output
  told = record {
    conf = parts.conf;
    configured = parts.configured;
    request = parts.request;
    requested = parts.requested;
    message = parts.message;
    is = parts.is;
    written = parts.written;
    spells = output_spells;
    wished = as_wished;
    kept = λ label params tag. keeps_each_signature parts.conf words.now (context_for parts.conf parts.message (Some parts.request)) parts.written label params tag valid now whole parts.made.made;
    digest = λ algorithm. digest_where_chosen parts.conf words.now (context_for parts.conf parts.message (Some parts.request)) parts.written parts.request algorithm parts.made.made parts.made.none refl;
  }

  -- by a configuration with the same scheme, kinds of fields and key
  module _ (verified : VerifyWords) (other : Found) (label keyid : List ℕ) (knows : KnowsNegotiator words found other verified label keyid) where
    conf_is : knows.conf ≡ parts.conf
    conf_is = (conf_decided (Some words.conf) (found ConfFile)).value knows.conf parts.conf knows.configured parts.configured

    some_is : (one also : Message) → Some one ≡ Some also → one ≡ also
    some_is one also same = cc

    request_is : knows.request ≡ parts.request
    request_is = some_is knows.request parts.request ((request_decided (Some words.request) (found RequestFile)).value (Some knows.request) (Some parts.request) knows.requested parts.requested)

    asked : IsWishedAs parts.conf parts.request label keyid
    asked = subst (λ (c : Configuration). IsWishedAs c parts.request label keyid) conf_is (subst (λ (m : Message). IsWishedAs knows.conf m label keyid) request_is knows.wished)

    rightly : IsRightlySigned (verification_for parts.conf words.now (context_for parts.conf parts.written (Some parts.request)) label) keyid
    rightly =
        let signed = as_wished asked.list asked.wish asked.dict asked.there in
        let sign : signed.meets.sign ≡ asked.sign = cc (signed.meets.sign_is, asked.sign_is) in
        let list : signed.meets.list ≡ asked.components = cc (signed.meets.list_is, asked.components_are) in
        let named : wished_keyid signed.meets.sign signed.meets.list ≡ keyid = (λ i. wished_keyid (sign i) (list i)) ∙ sym asked.keyid_is in
        subst (λ (l : List ℕ). IsRightlySigned (verification_for parts.conf words.now (context_for parts.conf parts.written (Some parts.request)) l) keyid) (sym asked.label_is)
        (subst (λ (k : List ℕ). IsRightlySigned (verification_for parts.conf words.now (context_for parts.conf parts.written (Some parts.request)) asked.wish.key) k) named signed.right)

    by_next : (moment : ℕ) → IsRightlySigned (verification_for knows.next moment (context_for knows.next parts.written (Some parts.request)) label) keyid
    by_next moment =
        right_by parts.conf knows.next words.now moment parts.written (Some parts.request) label keyid (knows.scheme ∙ ap (λ (c : Configuration). c.scheme) conf_is) (knows.types ∙ ap (λ (c : Configuration). c.types) conf_is)
        (knows.key ∙ ap (λ (c : Configuration). key_in c keyid) conf_is) rightly

    accepted : (outcome : Outcome) → VerifiesNegotiated words verified label → other RequestFile ≡ found RequestFile → ReportsCommand (Verify verified) other output outcome
        → (verdict : Verdict) × IsOkOrPolicy verdict × (outcome ≡ verdicts_outcome (label ∷ []) (verdict ∷ []))
    accepted outcome same request reports =
        let short = short_of (answers_head (Some parts.request)) parts.written output output_spells in
        let requested : IsRequested verified.request (other RequestFile) (Some parts.request) =
        subst (λ (text : Option (List ℕ)). IsRequested verified.request text (Some parts.request)) (sym request)
        (subst (λ (name : Option (List ℕ)). IsRequested name (found RequestFile) (Some parts.request)) (sym same.request) parts.requested) in
        let is = whole_is (Some parts.request) input output parts.message parts.written parts.is output_spells written_spells.1 in
        let verdicts = verdicts_of verified other output (Some parts.request) parts.written requested short is knows.next outcome knows.next_configured reports in
        let one = label_verdict verified.label verified.now knows.next (context_for knows.next parts.written (Some parts.request)) outcome label same.label_is verdicts in
        (one.0, ok_or_policy (verification_for knows.next verified.now (context_for knows.next parts.written (Some parts.request)) label) keyid one.0 (by_next verified.now) one.1, one.2)

pub has_negotiated : HasNegotiated
has_negotiated arguments words found input output is wrote = told words found input output (negotiates_timely arguments words is) (asked_parts arguments words found input output is wrote)

pub accepted_where_negotiated : IsAcceptedWhereNegotiated
accepted_where_negotiated negotiating verifying negotiated verified label keyid found other input written outcome is also same request knows wrote reports =
    let parts = asked_parts negotiating negotiated found input written is wrote in
    accepted negotiated found input written (negotiates_timely negotiating negotiated is) parts verified other label keyid knows outcome same request (verify_parts verifying verified other written outcome also reports)
