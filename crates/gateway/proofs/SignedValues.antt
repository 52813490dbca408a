-- What an accepted signature rests on, where the message is signed by another: its components keep their values, and it is accepted still.
use Rattle.std.proofs.Common.{◌≡◌, ℕ, Bool, true, false, ◌&&◌, not, Option, Some, None, Ok, Err, List, [], ◌∷◌, ◌++◌, append-nil, codes, refl, sym, ap, subst, ◌∙◌, inl, inr}
use Rattle.std.specs.List.{All, join_by, list_any}
use Rattle.std.specs.Str.{bytes_eq}
use Rattle.std.proofs.lemmas.Bool.{and_parts, cases_Bool, false≢true, not-true, or_parts}
use Rattle.std.proofs.lemmas.List.Elements.{All-cons, All-nil}
use Rattle.std.proofs.lemmas.Slice.Eq.{bytes_eq-Decides}
use Rattle.sfv_text.specs.Strict.{dict_text}
use Rattle.sfv_text.specs.declared.pair.Pair.{Pair}
use Rattle.sfv_text.specs.declared.value.BareItem.{BareItem}
use Rattle.msg_head.specs.Lines.{FieldLine}
use Rattle.msg_head.specs.Names.{has_name}
use Rattle.msg_head.specs.Values.{combined_value, is_there, values}
use Rattle.msg_head.specs.declared.error.Side.TheVariants.{Header}
use Rattle.msg_head.proofs.MoreLines.{there_same, values_same}
use Rattle.framing.specs.Framings.{is_request}
use Rattle.msg_body.specs.Messages.{Message, Spells, message_text}
use Rattle.msg_body.specs.Views.{lines_on, message_content}
use Rattle.msg_body.proofs.OneMessages.{one_message_law}
use Rattle.component_ids.specs.Table.{has_param, is_field_name, is_listed}
use Rattle.component_ids.specs.Types.{kind_in}
use Rattle.component_ids.specs.declared.id.ComponentId.{ComponentId}
use Rattle.component_ids.specs.declared.params.SigParams.{SigParams}
use Rattle.component_ids.specs.declared.types.FieldKind.{FieldKind}
use Rattle.component_values.specs.Alike.{ComesToSame, is_own_field}
use Rattle.component_values.specs.Context.{HasWholeMessage, MessageContext, answers_head, context_with}
use Rattle.component_values.specs.Forms.{member_key}
use Rattle.component_values.specs.Values.{Has, HaveValues, LineRow}
use Rattle.component_values.proofs.LineLaws.{depends_on_kind}
use Rattle.component_values.proofs.RowLaws.{has_one_value, lacks_no_value}
use Rattle.content_digest.specs.Digests.{digest_dict, digest_name}
use Rattle.content_digest.specs.declared.algorithm.Algorithm.{Algorithm}
use Rattle.hmac_sha256.specs.Hmac.{hmac}
use Rattle.signatures.specs.SignatureBase.{signature_base}
use Rattle.settings.specs.Configuration.{Configuration}
use Rattle.nonces.specs.Books.{Book}
use Rattle.signatures.specs.Signatures.{HasSignature, input_name, signature_name}
use Rattle.signatures.proofs.Reading.{has_one_signature}
use Rattle.verdicts.specs.ContentDigest.{covers_digest, digest_text}
use Rattle.verdicts.specs.Verdicts.{Accepts}
use Rattle.verdicts.specs.declared.outcome.Verdict.TheVariants.{Ok as Accepted}
use Rattle.verdicts.proofs.AlikeMessages.{depends_on_signature}
use Rattle.line_rewrites.specs.Covered.{is_field_on, is_on}
use Rattle.rewrites.specs.Laws.{verification_over}
use Rattle.rewrites.proofs.AlikeParts.{derived_as_well, field_as_well, read_alike}
use Rattle.rewrites.proofs.CoveredFields.{digest_is_covered}
use Rattle.signing.specs.SignCauses.{covers_itself, covers_signatures}
use Rattle.signing.specs.Signed.{IsSignedMessage, IsVerifiable}
use Rattle.signing.specs.Specs.{IsValidSpec}
use Rattle.signing.specs.Written.{context_with_digest, digest_lines, line_of, signature_lines, with_lines}
use Rattle.signing.specs.declared.spec.SignSpec.{SignSpec}
use Rattle.signing.proofs.SomeSigned.{verifiable_where_signed}
use Rattle.gateway.specs.Forwarded.{IsSignable}

-- ---- components that cover the new signature

and_false : (a : Bool) → (a && false) ≡ false
and_false true = refl
and_false false = refl

-- what doesn't cover the new signature isn't a whole field of signatures
one_apart : (label : List ℕ) (id : ComponentId) → covers_itself label id ≡ false → covers_signatures id ≡ false
one_apart label id is = by_key (member_key id.params) refl
  where
    by_key : (key : Option (List ℕ)) → member_key id.params ≡ key → covers_signatures id ≡ false
    by_key None none = rw none (rw none at is)
    by_key (Some key) named =
        rw (named, and_false (not (has_param id.params (codes "tr"))), and_false (not (has_param id.params (codes "req")))) (and_false (is_listed (signature_name ∷ input_name ∷ []) id.name))

all_apart : (label : List ℕ) (ids : List ComponentId) → list_any (covers_itself label) ids ≡ false → list_any covers_signatures ids ≡ false
all_apart label [] none = refl
all_apart label (id ∷ ids) none =
    let parts = or_parts (covers_itself label id) (list_any (covers_itself label) ids) none in
    rw (one_apart label id parts.0, all_apart label ids parts.1) refl

-- ---- components with values

-- a field that has a value is there
line_there : (b : Bool) (params : List (Pair BareItem)) (kind : Option FieldKind) (lines : List FieldLine) (name value : List ℕ) → LineRow b params kind lines name (Ok value) → b ≡ true
line_there false params kind lines name value row = absurd cc
line_there true params kind lines name value row = refl

module _ (context : MessageContext) where
  there_where_valued : (id : ComponentId) (name value : List ℕ) → is_field_on Header name id ≡ true → Has context id value → is_there (lines_on Header context.message) name ≡ true
  there_where_valued id name value is has =
      let on = and_parts (is_own_field id) (is_on Header id && bytes_eq id.name name) is in
      let own = and_parts (is_field_name id.name) (not (has_param id.params (codes "req"))) on.0 in
      let at = and_parts (is_on Header id) (bytes_eq id.name name) on.1 in
      let asks = not-true (has_param id.params (codes "req")) own.1 in
      let header = not-true (has_param id.params (codes "tr")) at.0 in
      let row = rw (asks, own.0, header) at has in
      subst (λ (n : List ℕ). is_there (lines_on Header context.message) n ≡ true) ((bytes_eq-Decides id.name name).0 at.1)
      (line_there (is_there (lines_on Header context.message) id.name) id.params (kind_in context.types id.name) (lines_on Header context.message) id.name value row)

  there_where_covered : (name : List ℕ) (ids : List ComponentId) (values : List (List ℕ)) → list_any (is_field_on Header name) ids ≡ true → HaveValues context ids values
      → is_there (lines_on Header context.message) name ≡ true
  there_where_covered name [] values covered have = absurd (false≢true covered)
  there_where_covered name (id ∷ ids) [] covered have = absurd have
  there_where_covered name (id ∷ ids) (value ∷ values) covered have = elim (cases_Bool (is_field_on Header name id)) [
    | inl is ↦ there_where_valued id name value is have.0
    | inr other ↦ there_where_covered name ids values (rw other at covered) have.1
  ]

  -- ---- the line of the digest

  module _ (algorithm : Algorithm) (none : is_there (lines_on Header context.message) digest_name ≡ false) where
    abbrev line : FieldLine
    line = line_of (codes "Content-Digest") (dict_text (digest_dict algorithm (message_content context.message)))

    abbrev added : Message
    added = with_lines context.message (line ∷ [])

    absent : (name : List ℕ) → has_name name line ≡ false → is_there (line ∷ []) name ≡ false
    absent name off = rw off refl

    field_kept : (id : ComponentId) (value : List ℕ) → is_field_name id.name ≡ true → has_param id.params (codes "req") ≡ false → Has context id value → Has (context_with context added) id value
    field_kept id value field own has = elim (cases_Bool (has_param id.params (codes "tr"))) [
      | inl trailer ↦ (field_as_well context added id (rw (field, own) refl) (rw trailer (record { there = refl; same = refl })) (Ok value)).0 has
      | inr header ↦ elim (cases_Bool (has_name id.name line)) [
        | inr other ↦
            let off = absent id.name other in
            (field_as_well context added id (rw (field, own) refl)
            (rw header (record { there = there_same context.message.head.lines (line ∷ []) id.name off; same = values_same context.message.head.lines (line ∷ []) id.name off })) (Ok value)).0 has
        | inl named ↦
            let same : digest_name ≡ id.name = (bytes_eq-Decides digest_name id.name).0 named in
            let is : bytes_eq id.name digest_name ≡ true = (bytes_eq-Decides id.name digest_name).1 (sym same) in
            absurd (false≢true (sym none ∙ there_where_valued id digest_name value (rw (field, own, header, is) refl) has))
      ]
    ]

    value_kept : (id : ComponentId) (value : List ℕ) → Has context id value → Has (context_with context added) id value
    value_kept id value has = elim (cases_Bool (has_param id.params (codes "req"))) [
      | inl asks ↦ (depends_on_kind context added id asks refl (Ok value)).0 has
      | inr own ↦ elim (cases_Bool (is_field_name id.name)) [
        | inl field ↦ field_kept id value field own has
        | inr derived ↦
            (derived_as_well context added id refl (values_same context.message.head.lines (line ∷ []) (codes "host") (absent (codes "host") refl)) derived (Ok value)).0 has
      ]
    ]

    values_kept : (ids : List ComponentId) (values : List (List ℕ)) → HaveValues context ids values → HaveValues (context_with context added) ids values
    values_kept [] [] have = tt
    values_kept [] (value ∷ values) have = absurd have
    values_kept (id ∷ ids) [] have = absurd have
    values_kept (id ∷ ids) (value ∷ values) have = (value_kept id value have.0, values_kept ids values have.1)

  -- values are kept where no line is added
  none_added : (lines : List FieldLine) (ids : List ComponentId) (values : List (List ℕ)) → lines ≡ [] → HaveValues context ids values
      → HaveValues (context_with context (with_lines context.message lines)) ids values
  none_added lines ids values none have =
      let same : with_lines context.message lines ≡ context.message = λ i. record {
        head = record { start = context.message.head.start; lines = (ap (λ (ls : List FieldLine). context.message.head.lines ++ ls) none ∙ append-nil context.message.head.lines) i };
        framing = context.message.framing;
        body = context.message.body;
      }
      in
      subst (λ (m : Message). HaveValues (context_with context m) ids values) (sym same) have

  digest_kept : (digest : Option Algorithm) (ids : List ComponentId) (values : List (List ℕ)) → HaveValues context ids values → HaveValues (context_with_digest context digest) ids values
  digest_kept None ids values have = none_added [] ids values refl have
  digest_kept (Some algorithm) ids values have = elim (cases_Bool (is_there (lines_on Header context.message) digest_name)) [
    | inl there ↦ none_added (digest_lines context.message (Some algorithm)) ids values (rw there refl) have
    | inr none ↦
        let lines : digest_lines context.message (Some algorithm) ≡ line algorithm none ∷ [] = rw none refl in
        subst (λ (ls : List FieldLine). HaveValues (context_with context (with_lines context.message ls)) ids values) (sym lines) (values_kept algorithm none ids values have)
  ]

  no_digest : (digest : Option Algorithm) → is_there (lines_on Header context.message) digest_name ≡ true → digest_lines context.message digest ≡ []
  no_digest None there = refl
  no_digest (Some algorithm) there = rw there refl

  -- ---- values that are the same

  module _ (other : Message) where
    comes_to_same : (id : ComponentId) (value : List ℕ) → Has context id value → Has (context_with context other) id value → ComesToSame context other id
    comes_to_same id value has also (Ok v) = (
      λ is. subst (λ (t : List ℕ). Has (context_with context other) id t) (has_one_value context id value v has is) also,
      λ is. subst (λ (t : List ℕ). Has context id t) (has_one_value (context_with context other) id value v also is) has,
    )
    comes_to_same id value has also (Err lack) = (
      λ is. absurd (lacks_no_value context id value lack has is),
      λ is. absurd (lacks_no_value (context_with context other) id value lack also is),
    )

    all_come_to_same : (ids : List ComponentId) (values : List (List ℕ)) → HaveValues context ids values → HaveValues (context_with context other) ids values → All (ComesToSame context other) ids
    all_come_to_same [] [] have also = All-nil (ComesToSame context other)
    all_come_to_same [] (value ∷ values) have also = absurd have
    all_come_to_same (id ∷ ids) [] have also = absurd have
    all_come_to_same (id ∷ ids) (value ∷ values) have also =
        All-cons (ComesToSame context other) id ids (comes_to_same id value have.0 also.0) (all_come_to_same ids values have.1 also.1)

-- ---- the signed message

module _ (context : MessageContext) (spec : SignSpec) (written : Message) (valid : IsValidSpec spec) (whole : HasWholeMessage context) (signed : IsSignedMessage context spec written) (signable : IsSignable context spec) where
  is_verifiable : Spells (answers_head context.related) written (message_text written) × IsVerifiable context spec (message_text written)
  is_verifiable = verifiable_where_signed context spec (message_text context.message) written valid (record { is = whole; text = refl }) signed signable

  pub spelled : Spells (answers_head context.related) written (message_text written)
  spelled = is_verifiable.0

  pub verifiable : IsVerifiable context spec (message_text written)
  verifiable = is_verifiable.1

  pub same_written : verifiable.written ≡ written
  same_written = one_message_law (answers_head context.related) (message_text written) verifiable.written written verifiable.spells spelled

  -- a signature that covers nothing of the new one
  module _ (label : List ℕ) (params : SigParams) (tag : List ℕ) (has : HasSignature context.message label params tag) (uncovered : list_any (covers_itself spec.label) params.ids ≡ false) where
    pub signature_kept : HasSignature written label params tag
    signature_kept = subst (λ (m : Message). HasSignature m label params tag) same_written (verifiable.kept label params tag has)

    pub values_stay : (values : List (List ℕ)) → HaveValues context params.ids values → HaveValues (context_with context written) params.ids values
    values_stay values have =
        subst (λ (m : Message). HaveValues (context_with context m) params.ids values) same_written
        (verifiable.others params.ids values has.are.each (all_apart spec.label params.ids uncovered) (digest_kept context spec.digest params.ids values have))

    -- the field of the digests stays, where it is covered
    digest_stays : (values : List (List ℕ)) → HaveValues context params.ids values → covers_digest params.ids ≡ true → digest_text written ≡ digest_text context.message
    digest_stays values have covered =
        let there = there_where_covered context digest_name params.ids values (digest_is_covered params covered) have in
        let further = signature_lines spec (hmac spec.key (signature_base spec.params signed.values)) in
        let lines : written.head.lines ≡ context.message.head.lines ++ further =
        ap (λ (m : Message). m.head.lines) signed.written_is ∙ ap (λ (ls : List FieldLine). context.message.head.lines ++ (ls ++ further)) (no_digest context spec.digest there) in
        ap (λ (ls : List FieldLine). combined_value ls digest_name) lines
        ∙ ap (λ (ts : List (List ℕ)). join_by (λ (t : List ℕ). t) (codes ", ") ts) (values_same context.message.head.lines further digest_name refl)

    pub accepts_still : (conf : Configuration) (now : ℕ) (seen : Option Book) (keyid : List ℕ) → Accepts (verification_over context label conf now seen) keyid
        → Accepts (verification_over (context_with context written) label conf now seen) keyid
    accepts_still conf now seen keyid accepts =
        let one = has_one_signature context.message label accepts.params params accepts.tag tag accepts.signature has in
        let have = subst (λ (p : SigParams). HaveValues context p.ids accepts.values) one.0 accepts.have in
        (depends_on_signature (verification_over context label conf now seen) params tag written (Accepted keyid) (record {
          signature = has;
          other_signature = signature_kept;
          kind = ap (λ (m : Message). is_request m.head.start) signed.written_is;
          content = ap message_content signed.written_is;
          components = all_come_to_same context written params.ids accepts.values have (values_stay accepts.values have);
          digests = λ covered. read_alike (digest_text context.message) (digest_text written) (digest_stays accepts.values have covered);
        })).0 accepts
