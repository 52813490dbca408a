-- The signed message can be verified, and the signatures that were there are kept.
use Rattle.std.proofs.Common.{◌≡◌, ℕ, lit<, Bool, true, false, ◌&&◌, ◌||◌, not, Option, Some, None, is_some, Result, Ok, Err, List, [], ◌∷◌, ◌++◌, codes, suc, refl, sym, ap, subst, ◌∙◌, append_assoc, inl, inr}
use Rattle.std.specs.Prelude.{IfOk, option_and_then}
use Rattle.std.specs.List.{join_by, list_all, list_any}
use Rattle.std.specs.Str.{bytes_eq}
use Rattle.std.proofs.lemmas.Bool.{and_parts, cases_Bool, false≢true, or_cases}
use Rattle.std.proofs.lemmas.List.{map-append}
use Rattle.std.proofs.lemmas.List.Elements.{All-append}
use Rattle.std.proofs.lemmas.List.Folds.{list_any-append}
use Rattle.std.proofs.lemmas.Slice.Eq.{bytes_eq-Decides}
use Rattle.sfv_text.specs.Keys.{value_of}
use Rattle.sfv_text.specs.Parts.{string_in}
use Rattle.sfv_text.specs.Range.{is_byte}
use Rattle.sfv_text.specs.declared.pair.Pair.{Pair}
use Rattle.sfv_text.specs.declared.value.BareItem.{BareItem}
use Rattle.sfv_text.specs.declared.value.Member.{Member}
use Rattle.sfv_read.specs.Reads.{ReadsDict}
use Rattle.msg_head.specs.Lines.{FieldLine, IsLine}
use Rattle.msg_head.specs.Names.{has_name}
use Rattle.msg_head.specs.Values.{is_there, values}
use Rattle.msg_head.proofs.MoreLines.{there_same, values_same}
use Rattle.msg_body.specs.Messages.{IsMessage, Message, Spells}
use Rattle.msg_body.specs.SameFields.{HasSameField, HasSameValues}
use Rattle.component_ids.specs.Identifiers.{is_identifier, item_of}
use Rattle.component_ids.specs.Table.{has_param, has_value_type, goes_with, have_clash, is_field_name, is_listed, is_name}
use Rattle.component_ids.specs.Types.{kind_in}
use Rattle.component_ids.specs.declared.id.ComponentId.{ComponentId}
use Rattle.component_ids.specs.declared.params.SigParams.{SigParams}
use Rattle.component_ids.specs.declared.types.FieldKind.{FieldKind}
use Rattle.component_values.specs.Alike.{AreAlikeFor, AreSameIn}
use Rattle.component_values.specs.Context.{MessageContext, answers_head, context_with}
use Rattle.component_values.specs.Forms.{Form, form_of, member_key}
use Rattle.component_values.specs.Forms as form
use Rattle.component_values.specs.Values.{FieldRow, Has, HaveValues, NameRow, side_of}
use Rattle.component_values.proofs.LineLaws.{depends_on_its_lines}
use Rattle.msg_body.specs.Views.{lines_on}
use Rattle.content_digest.specs.declared.algorithm.Algorithm.{Algorithm}
use Rattle.hmac_sha256.specs.Hmac.{hmac}
use Rattle.signatures.specs.SignatureBase.{signature_base}
use Rattle.signatures.specs.Signatures.{AreLabels, HasSignature, input_name, signature_name}
use Rattle.signing.specs.SignCauses.{HasLabel, IsFirstSelfCover, any_tag, covers_itself, covers_signatures, is_label_or_none, passed_limit}
use Rattle.signing.specs.Signed.{IsVerifiable, SpellsSigned}
use Rattle.signing.specs.Specs.{IsValidSpec}
use Rattle.signing.specs.Written.{context_with_digest, digest_lines, digest_name, signature_lines, signed_message, with_digest, with_lines}
use Rattle.signing.specs.declared.fault.SignFault.TheVariants.{InputMalformed, SignatureMalformed, LabelThere, SelfCover, TooLong}
use Rattle.signing.specs.declared.fault.SignFault.{SignFault}
use Rattle.signing.specs.declared.spec.SignSpec.{SignSpec}
use Rattle.signing.specs.tools.Judged.{ExplainsSign, IsMade, NoneBelow}
use Rattle.signing.proofs.AddedLines.{FrameNothing, digest_are_lines, digest_frame_nothing}
use Rattle.signing.proofs.MemberValues.{found_field, key_field}
use Rattle.signing.proofs.DigestBytes.{sha256_bytes}
use Rattle.signing.proofs.Lengthened.{is_lengthened}
use Rattle.signing.proofs.Making.{fits_where_none}
use Rattle.signing.proofs.SignatureLines.{digest_other, input_member, signature_are_lines, signature_frame_nothing, signature_member, signature_other, takes_input, takes_signature}
use Rattle.signing.proofs.TagLengths.{limit_same, tag_length}
use Rattle.signing.proofs.TakenMembers.{TakesMember, combined_same, dict_begun, dict_taken, member_kept, member_taken, some_member, takes_before}

-- ---- identifiers

-- `bs` and `key` are no parameters of one identifier
no_clash : (id : ComponentId) → is_identifier (item_of id) ≡ true → have_clash id.params ≡ false
no_clash id is = elim (cases_Bool (have_clash id.params)) [
  | inr no_one ↦ no_one
  | inl clash ↦ absurd (go (not (is_name id.name)) (list_any (λ p. not (goes_with id.name p.key)) id.params) (list_any (λ p. not (has_value_type p)) id.params) refl refl refl clash)
]
  where
    go : (a b c : Bool) → not (is_name id.name) ≡ a → list_any (λ p. not (goes_with id.name p.key)) id.params ≡ b → list_any (λ p. not (has_value_type p)) id.params ≡ c → have_clash id.params ≡ true → ⊥
    go true b c p q r s = false≢true (rw p at is)
    go false true c p q r s = false≢true (rw (p, q) at is)
    go false false true p q r s = false≢true (rw (p, q, r) at is)
    go false false false p q r s = false≢true (rw (p, q, r, s) at is)

has_key_param : (params : List (Pair BareItem)) (key : List ℕ) → member_key params ≡ Some key → has_param params (codes "key") ≡ true
has_key_param params key is = go (value_of params (codes "key")) refl is
  where
    go : (o : Option BareItem) → value_of params (codes "key") ≡ o → option_and_then string_in o ≡ Some key → is_some o ≡ true
    go None same there = absurd cc
    go (Some v) same there = refl

-- the form is that of a member where a key is named
form_is : (id : ComponentId) (key : List ℕ) → is_identifier (item_of id) ≡ true → member_key id.params ≡ Some key → form_of id.params ≡ form.member key
form_is id key is named = elim (cases_Bool (has_param id.params (codes "bs"))) [
  | inl wrapped ↦ absurd (false≢true (sym (no_clash id is) ∙ rw (wrapped, has_key_param id.params key named) (or_true (has_param id.params (codes "sf")))))
  | inr plain ↦ rw (plain, named) refl
]
  where
    or_true : (a : Bool) → (a || true) ≡ true
    or_true true = refl
    or_true false = refl

-- the same values are the same in each form
same_in : (xs ys : List FieldLine) (name : List ℕ) (form : Form) → HasSameValues xs ys name → AreSameIn form xs ys name
same_in xs ys name shape same = by_form shape
  where
    field : HasSameField xs ys name
    field = record { there = same.there; combined = ap (λ (ts : List (List ℕ)). join_by (λ t. t) (codes ", ") ts) same.same }

    by_form : (form : Form) → AreSameIn form xs ys name
    by_form form.wrapped = same
    by_form (form.member key) = field
    by_form form.strict = field
    by_form form.plain = field

-- a field of the message isn't one of the request that it answers
not_related : (field related : Bool) → (field && not related) ≡ true → related ≡ false
not_related true false own = refl
not_related true true own = absurd cc
not_related false related own = absurd cc

-- a component of these fields that doesn't cover the signature names a key
key_named : (label : List ℕ) (o : Option (List ℕ)) → is_label_or_none label o ≡ false → (key : List ℕ) × (o ≡ Some key)
key_named label None is = absurd (false≢true (sym is))
key_named label (Some key) is = (key, refl)

false_of : (a : Bool) → not a ≡ true → a ≡ false
false_of true is = absurd (false≢true is)
false_of false is = refl

-- both fields of signatures have field names
listed_is_field : (name : List ℕ) → is_listed (signature_name ∷ input_name ∷ []) name ≡ true → is_field_name name ≡ true
listed_is_field name listed = elim (or_cases (bytes_eq name signature_name) (bytes_eq name input_name || false) listed) [
  | inl one ↦ ap is_field_name ((bytes_eq-Decides name signature_name).0 one)
  | inr two ↦ elim (or_cases (bytes_eq name input_name) false two) [
    | inl is ↦ ap is_field_name ((bytes_eq-Decides name input_name).0 is)
    | inr no_more ↦ absurd (false≢true no_more)
  ]
]

-- ---- no component covers the signature

pub first_cover : (label : List ℕ) (ids : List ComponentId) → list_any (covers_itself label) ids ≡ true → (index : ℕ) × IsFirstSelfCover label ids index
first_cover label [] some = absurd (false≢true some)
first_cover label (id ∷ ids) some = elim (cases_Bool (covers_itself label id)) [
  | inl covers ↦ (0, record { before = refl; there = covers })
  | inr other ↦
      let more = first_cover label ids (rw other at some) in
      (suc more.0, record { before = rw other more.1.before; there = more.1.there })
]

or_parts : (a b : Bool) → (a || b) ≡ false → (a ≡ false) × (b ≡ false)
or_parts true b h = absurd cc
or_parts false b h = (refl, h)

-- what doesn't cover the new signature isn't a whole field of them
and_false : (a : Bool) → (a && false) ≡ false
and_false true = refl
and_false false = refl

one_apart : (label : List ℕ) (id : ComponentId) → covers_itself label id ≡ false → covers_signatures id ≡ false
one_apart label id is = by_key (member_key id.params) refl
  where
    by_key : (key : Option (List ℕ)) → member_key id.params ≡ key → covers_signatures id ≡ false
    by_key None none = rw none (rw none at is)
    by_key (Some key) named =
        rw (named, and_false (not (has_param id.params (codes "tr"))), and_false (not (has_param id.params (codes "req")))) (and_false (is_listed (signature_name ∷ input_name ∷ []) id.name))

pub all_apart : (label : List ℕ) (ids : List ComponentId) → list_any (covers_itself label) ids ≡ false → list_any covers_signatures ids ≡ false
all_apart label [] none = refl
all_apart label (id ∷ ids) none =
    let parts = or_parts (covers_itself label id) (list_any (covers_itself label) ids) none in
    rw (one_apart label id parts.0, all_apart label ids parts.1) refl

-- ---- the signed message

module _ (context : MessageContext) (spec : SignSpec) (valid : IsValidSpec spec) (none : NoneBelow context spec 8) (tag : List ℕ) (bytes : list_all is_byte tag ≡ true) where
  -- the lines of the message, those before the signature's, and all of them
  module _ (name : List ℕ) (other : is_there (digest_lines context.message spec.digest) name ≡ false) (member : Pair Member)
      (takes : TakesMember (context.message.head.lines ++ digest_lines context.message spec.digest) ((context.message.head.lines ++ digest_lines context.message spec.digest) ++ signature_lines spec tag) name member) where
    from_digest : TakesMember (context.message.head.lines ++ digest_lines context.message spec.digest) (signed_message context.message spec tag).head.lines name member
    from_digest =
        subst (λ (ls : List FieldLine). TakesMember (context.message.head.lines ++ digest_lines context.message spec.digest) ls name member)
        (append_assoc context.message.head.lines (digest_lines context.message spec.digest) (signature_lines spec tag)) takes

    from_own : TakesMember context.message.head.lines (signed_message context.message spec tag).head.lines name member
    from_own = takes_before context.message.head.lines (digest_lines context.message spec.digest) (signed_message context.message spec tag).head.lines name member other from_digest

    -- the digest's line brings no member of the field
    digest_label : (label : List ℕ) → HasLabel (with_digest context.message spec.digest) name label → HasLabel context.message name label
    digest_label label there = (
      there.0,
      record {
        dict = there.1.dict;
        has = record {
          there = sym (there_same context.message.head.lines (digest_lines context.message spec.digest) name other) ∙ there.1.has.there;
          reads = subst (λ (t : List ℕ). ReadsDict t there.1.dict) (combined_same context.message.head.lines (digest_lines context.message spec.digest) name other) there.1.has.reads;
        };
        member_is = there.1.member_is;
      },
    )

    -- a member's value stays
    key_kept : ¬ HasLabel context.message name member.key → (params : List (Pair BareItem)) (field : Option FieldKind) (key value : List ℕ) → form_of params ≡ form.member key
        → FieldRow params field (with_digest context.message spec.digest).head.lines name (Ok value) → FieldRow params field (signed_message context.message spec tag).head.lines name (Ok value)
    key_kept free params field key value form row =
        let one = with_digest context.message spec.digest in
        let two = signed_message context.message spec tag in
        key_field one.head.lines two.head.lines name key from_digest.there
        (λ dict found there reads is.
        let more = member_kept one two name member from_digest (λ label. free (digest_label member.key label)) key found (record { dict = dict; has = record { there = there; reads = reads }; member_is = is }) in
        (more.dict, more.has.reads, more.member_is)) params field value form row

  input_other : is_there (digest_lines context.message spec.digest) input_name ≡ false
  input_other = digest_other context.message spec.digest input_name refl

  signature_name_other : is_there (digest_lines context.message spec.digest) signature_name ≡ false
  signature_name_other = digest_other context.message spec.digest signature_name refl

  input_takes : TakesMember (context.message.head.lines ++ digest_lines context.message spec.digest) ((context.message.head.lines ++ digest_lines context.message spec.digest) ++ signature_lines spec tag) input_name (input_member spec)
  input_takes = takes_input spec valid tag bytes (context.message.head.lines ++ digest_lines context.message spec.digest)

  signature_takes : TakesMember (context.message.head.lines ++ digest_lines context.message spec.digest) ((context.message.head.lines ++ digest_lines context.message spec.digest) ++ signature_lines spec tag) signature_name (signature_member spec tag)
  signature_takes = takes_signature spec valid tag bytes (context.message.head.lines ++ digest_lines context.message spec.digest)

  input_free : ¬ HasLabel context.message input_name spec.label
  input_free there = none LabelThere (lit< tt) (inl there)

  signature_free : ¬ HasLabel context.message signature_name spec.label
  signature_free there = none LabelThere (lit< tt) (inr there)

  -- the new signature
  pub new_signature : HasSignature (signed_message context.message spec tag) spec.label spec.params tag
  new_signature =
      let written = signed_message context.message spec tag in
      record {
        input = member_taken context.message written input_name (input_member spec) (from_own input_name input_other (input_member spec) input_takes) input_free (none InputMalformed (lit< tt));
        are = valid.params;
        member = (signature_member spec tag).value;
        signature =
            member_taken context.message written signature_name (signature_member spec tag) (from_own signature_name signature_name_other (signature_member spec tag) signature_takes) signature_free (none SignatureMalformed (lit< tt));
        tag_is = refl;
      }

  -- those that were there
  pub old_signatures : (label : List ℕ) (params : SigParams) (other : List ℕ) → HasSignature context.message label params other → HasSignature (signed_message context.message spec tag) label params other
  old_signatures label params other has =
      let written = signed_message context.message spec tag in
      record {
        input = member_kept context.message written input_name (input_member spec) (from_own input_name input_other (input_member spec) input_takes) input_free label _ has.input;
        are = has.are;
        member = has.member;
        signature = member_kept context.message written signature_name (signature_member spec tag) (from_own signature_name signature_name_other (signature_member spec tag) signature_takes) signature_free label has.member has.signature;
        tag_is = has.tag_is;
      }

  -- the labels that were there, and the new one
  pub all_labels : (labels : List (List ℕ)) → AreLabels context.message labels → AreLabels (signed_message context.message spec tag) (labels ++ spec.label ∷ [])
  all_labels labels (inl were) =
      let member = input_member spec in
      let has = dict_taken context.message (signed_message context.message spec tag) input_name member (from_own input_name input_other member input_takes) input_free were.0 were.1 (some_member context.message (signed_message context.message spec tag) input_name member (from_own input_name input_other member input_takes) input_free (none InputMalformed (lit< tt)) were.0 were.1) in
      inl (were.0 ++ member ∷ [], has, ap (λ (ls : List (List ℕ)). ls ++ spec.label ∷ []) were.2 ∙ sym (map-append (λ (m : Pair Member). m.key) were.0 (member ∷ [])))
  all_labels labels (inr no_one) =
      let member = input_member spec in
      inl (
        member ∷ [],
        dict_begun context.message (signed_message context.message spec tag) input_name member (from_own input_name input_other member input_takes) input_free (none InputMalformed (lit< tt)) no_one.0,
        ap (λ (ls : List (List ℕ)). ls ++ spec.label ∷ []) no_one.1,
      )

  -- ---- values

  none_of : (name : List ℕ) → is_there (signature_lines spec tag) name ≡ false
      → (is_there (signed_message context.message spec tag).head.lines name ≡ is_there (with_digest context.message spec.digest).head.lines name)
      × (values (signed_message context.message spec tag).head.lines name ≡ values (with_digest context.message spec.digest).head.lines name)
  none_of name other =
      let own = context.message.head.lines in
      let added = digest_lines context.message spec.digest in
      let further = signature_lines spec tag in
      let joined = sym (append_assoc own added further) in (
        ap (λ (ls : List FieldLine). is_there ls name) joined ∙ there_same (own ++ added) further name other,
        ap (λ (ls : List FieldLine). values ls name) joined ∙ values_same (own ++ added) further name other,
      )

  listed_kept : (id : ComponentId) (value : List ℕ) → is_listed (signature_name ∷ input_name ∷ []) id.name ≡ true → (key : List ℕ) → form_of id.params ≡ form.member key
      → FieldRow id.params (kind_in context.types id.name) (with_digest context.message spec.digest).head.lines id.name (Ok value)
      → FieldRow id.params (kind_in context.types id.name) (signed_message context.message spec tag).head.lines id.name (Ok value)
  listed_kept id value listed key form row = elim (or_cases (bytes_eq id.name signature_name) (bytes_eq id.name input_name || false) listed) [
    | inl one ↦
        let same = (bytes_eq-Decides id.name signature_name).0 one in
        subst (λ (n : List ℕ). FieldRow id.params (kind_in context.types id.name) (signed_message context.message spec tag).head.lines n (Ok value)) (sym same)
        (key_kept signature_name signature_name_other (signature_member spec tag) signature_takes signature_free id.params (kind_in context.types id.name) key value form
        (subst (λ (n : List ℕ). FieldRow id.params (kind_in context.types id.name) (with_digest context.message spec.digest).head.lines n (Ok value)) same row))
    | inr two ↦ elim (or_cases (bytes_eq id.name input_name) false two) [
      | inl is ↦
          let same = (bytes_eq-Decides id.name input_name).0 is in
          subst (λ (n : List ℕ). FieldRow id.params (kind_in context.types id.name) (signed_message context.message spec tag).head.lines n (Ok value)) (sym same)
          (key_kept input_name input_other (input_member spec) input_takes input_free id.params (kind_in context.types id.name) key value form
          (subst (λ (n : List ℕ). FieldRow id.params (kind_in context.types id.name) (with_digest context.message spec.digest).head.lines n (Ok value)) same row))
      | inr no_more ↦ absurd (false≢true no_more)
    ]
  ]

  alike : (id : ComponentId) → (has_param id.params (codes "req") ≡ false → HasSameValues (lines_on (side_of id.params) (with_digest context.message spec.digest)) (lines_on (side_of id.params) (signed_message context.message spec tag)) id.name)
      → AreAlikeFor id (with_digest context.message spec.digest) (signed_message context.message spec tag)
  alike id own =
      let before = lines_on (side_of id.params) (with_digest context.message spec.digest) in
      let after = lines_on (side_of id.params) (signed_message context.message spec tag) in
      record {
        start = refl;
        hosts = (none_of (codes "host") (signature_other spec valid tag bytes (codes "host") refl)).1;
        own = λ is. same_in before after id.name (form_of id.params) (own (not_related (is_field_name id.name) (has_param id.params (codes "req")) is));
      }

  kept_alike : (id : ComponentId) (value : List ℕ)
      → (has_param id.params (codes "req") ≡ false → HasSameValues (lines_on (side_of id.params) (with_digest context.message spec.digest)) (lines_on (side_of id.params) (signed_message context.message spec tag)) id.name)
      → Has (context_with_digest context spec.digest) id value → Has (context_with context (signed_message context.message spec tag)) id value
  kept_alike id value own has = (depends_on_its_lines (context_with_digest context spec.digest) (signed_message context.message spec tag) id (alike id own) (Ok value)).0 has

  name_kept : (field : Bool) (id : ComponentId) (value : List ℕ) → is_field_name id.name ≡ field → is_listed (signature_name ∷ input_name ∷ []) id.name ≡ true → has_param id.params (codes "tr") ≡ false → (key : List ℕ)
      → form_of id.params ≡ form.member key → NameRow field (context_with_digest context spec.digest) id (with_digest context.message spec.digest) (Ok value)
      → NameRow field (context_with context (signed_message context.message spec tag)) id (signed_message context.message spec tag) (Ok value)
  name_kept false id value is listed header key form row = absurd (false≢true (sym is ∙ listed_is_field id.name listed))
  name_kept true id value is listed header key form row = rw header (listed_kept id value listed key form (rw header at row))

  value_kept : (id : ComponentId) (value : List ℕ) → is_identifier (item_of id) ≡ true → covers_itself spec.label id ≡ false → Has (context_with_digest context spec.digest) id value
      → Has (context_with context (signed_message context.message spec tag)) id value
  value_kept id value is uncovered has = elim (cases_Bool (has_param id.params (codes "req"))) [
    | inl req ↦ kept_alike id value (λ own. absurd (false≢true (sym own ∙ req))) has
    | inr own ↦ elim (cases_Bool (has_param id.params (codes "tr"))) [
      | inl trailer ↦ kept_alike id value (λ _. rw trailer (record { there = refl; same = refl })) has
      | inr header ↦ elim (cases_Bool (is_listed (signature_name ∷ input_name ∷ []) id.name)) [
        | inl listed ↦
            let named = key_named spec.label (member_key id.params) (rw (listed, own, header) at uncovered) in
            rw own (name_kept (is_field_name id.name) id value refl listed header named.0 (form_is id named.0 is named.1) (rw own at has))
        | inr other ↦
            let same = none_of id.name (signature_other spec valid tag bytes id.name other) in
            kept_alike id value (λ _. rw header (record { there = same.0; same = same.1 })) has
      ]
    ]
  ]

  pub values_kept : (ids : List ComponentId) (texts : List (List ℕ)) → list_all (λ id. is_identifier (item_of id)) ids ≡ true → list_any (covers_itself spec.label) ids ≡ false
      → HaveValues (context_with_digest context spec.digest) ids texts → HaveValues (context_with context (signed_message context.message spec tag)) ids texts
  values_kept [] [] each uncovered have = tt
  values_kept [] (text ∷ texts) each uncovered have = absurd have
  values_kept (id ∷ ids) [] each uncovered have = absurd have
  values_kept (id ∷ ids) (text ∷ texts) each uncovered have =
      let are = and_parts (is_identifier (item_of id)) (list_all (λ id. is_identifier (item_of id)) ids) each in
      let others = or_parts (covers_itself spec.label id) (list_any (covers_itself spec.label) ids) uncovered in
      (value_kept id text are.0 others.0 have.0, values_kept ids texts are.1 others.1 have.1)

  -- a member of the new label has no value
  new_member : (id : ComponentId) (value name : List ℕ) (other : is_there (digest_lines context.message spec.digest) name ≡ false) (member : Pair Member)
      (takes : TakesMember (context.message.head.lines ++ digest_lines context.message spec.digest) ((context.message.head.lines ++ digest_lines context.message spec.digest) ++ signature_lines spec tag) name member)
      → ¬ HasLabel context.message name spec.label → form_of id.params ≡ form.member spec.label
      → FieldRow id.params (kind_in context.types id.name) (with_digest context.message spec.digest).head.lines name (Ok value) → ⊥
  new_member id value name other member takes free form row =
      let found = found_field (with_digest context.message spec.digest).head.lines name spec.label id.params (kind_in context.types id.name) value form row in
      free (digest_label name other member takes spec.label
      (found.1, record { dict = found.0; has = record { there = found.2; reads = found.3 }; member_is = found.4 }))

  new_field : (id : ComponentId) (value : List ℕ) → is_listed (signature_name ∷ input_name ∷ []) id.name ≡ true → form_of id.params ≡ form.member spec.label
      → FieldRow id.params (kind_in context.types id.name) (with_digest context.message spec.digest).head.lines id.name (Ok value) → ⊥
  new_field id value listed form row = elim (or_cases (bytes_eq id.name signature_name) (bytes_eq id.name input_name || false) listed) [
    | inl one ↦
        new_member id value signature_name signature_name_other (signature_member spec tag) signature_takes signature_free form
        (subst (λ (n : List ℕ). FieldRow id.params (kind_in context.types id.name) (with_digest context.message spec.digest).head.lines n (Ok value)) ((bytes_eq-Decides id.name signature_name).0 one) row)
    | inr two ↦ elim (or_cases (bytes_eq id.name input_name) false two) [
      | inl is ↦
          new_member id value input_name input_other (input_member spec) input_takes input_free form
          (subst (λ (n : List ℕ). FieldRow id.params (kind_in context.types id.name) (with_digest context.message spec.digest).head.lines n (Ok value)) ((bytes_eq-Decides id.name input_name).0 is) row)
      | inr no_more ↦ absurd (false≢true no_more)
    ]
  ]

  new_name : (field : Bool) (id : ComponentId) (value : List ℕ) → is_field_name id.name ≡ field → is_listed (signature_name ∷ input_name ∷ []) id.name ≡ true → has_param id.params (codes "tr") ≡ false
      → form_of id.params ≡ form.member spec.label → NameRow field (context_with_digest context spec.digest) id (with_digest context.message spec.digest) (Ok value) → ⊥
  new_name false id value is listed header form row = false≢true (sym is ∙ listed_is_field id.name listed)
  new_name true id value is listed header form row = new_field id value listed form (rw header at row)

  -- so what has a value and isn't a whole field doesn't cover the new signature
  covers_none : (id : ComponentId) (value : List ℕ) → is_identifier (item_of id) ≡ true → covers_signatures id ≡ false → Has (context_with_digest context spec.digest) id value → covers_itself spec.label id ≡ false
  covers_none id value is part has = elim (cases_Bool (covers_itself spec.label id)) [
    | inr uncovered ↦ uncovered
    | inl covers ↦ absurd (by_key (member_key id.params) refl covers)
  ]
    where
      by_key : (key : Option (List ℕ)) → member_key id.params ≡ key → covers_itself spec.label id ≡ true → ⊥
      by_key None none covers =
          let whole : covers_signatures id ≡ true = rw none (rw none at covers) in
          false≢true (sym part ∙ whole)
      by_key (Some key) named covers =
          let listed = and_parts (is_listed (signature_name ∷ input_name ∷ []) id.name) (not (has_param id.params (codes "req")) && (not (has_param id.params (codes "tr")) && is_label_or_none spec.label (member_key id.params))) covers in
          let own = and_parts (not (has_param id.params (codes "req"))) (not (has_param id.params (codes "tr")) && is_label_or_none spec.label (member_key id.params)) listed.1 in
          let header = and_parts (not (has_param id.params (codes "tr"))) (is_label_or_none spec.label (member_key id.params)) own.1 in
          let label : key ≡ spec.label = (bytes_eq-Decides key spec.label).0 (rw named at header.1) in
          new_name (is_field_name id.name) id value refl listed.0 (false_of (has_param id.params (codes "tr")) header.0) (form_is id spec.label is (named ∙ ap (λ (k : List ℕ). Some k) label))
          (rw (false_of (has_param id.params (codes "req")) own.0) at has)

  pub others_kept : (ids : List ComponentId) (texts : List (List ℕ)) → list_all (λ id. is_identifier (item_of id)) ids ≡ true → list_any covers_signatures ids ≡ false
      → HaveValues (context_with_digest context spec.digest) ids texts → HaveValues (context_with context (signed_message context.message spec tag)) ids texts
  others_kept [] [] each part have = tt
  others_kept [] (text ∷ texts) each part have = absurd have
  others_kept (id ∷ ids) [] each part have = absurd have
  others_kept (id ∷ ids) (text ∷ texts) each part have =
      let are = and_parts (is_identifier (item_of id)) (list_all (λ id. is_identifier (item_of id)) ids) each in
      let parts = or_parts (covers_signatures id) (list_any covers_signatures ids) part in
      (value_kept id text are.0 (covers_none id text are.0 parts.0 have.0) have.0, others_kept ids texts are.1 parts.1 have.1)

  pub none_covers : list_any (covers_itself spec.label) spec.params.ids ≡ false
  none_covers = elim (cases_Bool (list_any (covers_itself spec.label) spec.params.ids)) [
    | inl some ↦ let first = first_cover spec.label spec.params.ids some in absurd (none (SelfCover first.0) (lit< tt) first.1)
    | inr no_one ↦ no_one
  ]

-- the line of the digest is there
pub digest_there : (message : Message) (digest : Option Algorithm) (more : List FieldLine) → digest_lines (with_lines message (digest_lines message digest ++ more)) digest ≡ []
digest_there message None more = refl
digest_there message (Some algorithm) more = elim (cases_Bool (is_there message.head.lines digest_name)) [
  | inl there ↦
      let joined : is_there (message.head.lines ++ more) digest_name ≡ true = list_any-append (has_name digest_name) message.head.lines more ∙ rw there refl in
      rw (there, joined) refl
  | inr none ↦
      let line = digest_lines message (Some algorithm) in
      let joined : is_there (message.head.lines ++ (line ++ more)) digest_name ≡ true = list_any-append (has_name digest_name) message.head.lines (line ++ more) ∙ rw none refl in
      rw joined refl
]

-- ---- the signed message is one

frames_joined : (xs ys : List FieldLine) → FrameNothing xs → FrameNothing ys → FrameNothing (xs ++ ys)
frames_joined xs ys a b = record {
  codings = list_any-append (has_name (codes "transfer-encoding")) xs ys ∙ rw (a.codings, b.codings) refl;
  lengths = list_any-append (has_name (codes "content-length")) xs ys ∙ rw (a.lengths, b.lengths) refl;
}

pub is_one : (to_head : Bool) (message : Message) (spec : SignSpec) (valid : IsValidSpec spec) (tag : List ℕ) (bytes : list_all is_byte tag ≡ true) → IsMessage to_head message
    → passed_limit (signed_message message spec tag) ≡ None → IsMessage to_head (signed_message message spec tag)
is_one to_head message spec valid tag bytes is none =
    let digest = digest_lines message spec.digest in
    let signature = signature_lines spec tag in
    let written = signed_message message spec tag in
    let fits = fits_where_none written none in
    is_lengthened to_head message (digest ++ signature) is (All-append IsLine digest signature (digest_are_lines message spec.digest) (signature_are_lines spec valid tag bytes))
    (frames_joined digest signature (digest_frame_nothing message spec.digest) (signature_frame_nothing spec valid tag bytes)) fits.head_fits fits.lines_fit fits.whole_fits

limit_none : (o : Option ℕ) → ((limit : ℕ) → ¬ (o ≡ Some limit)) → o ≡ None
limit_none None none = refl
limit_none (Some limit) none = absurd (none limit refl)

pub verifiable : (context : MessageContext) (spec : SignSpec) (bytes text : List ℕ) → IsValidSpec spec → Spells (answers_head context.related) context.message bytes → IsMade context spec text → IsVerifiable context spec text
verifiable context spec bytes text valid spells made =
    let signed = made.signed in
    let base = signature_base spec.params signed.values in
    let tag = hmac spec.key base in
    let are : list_all is_byte tag ≡ true = sha256_bytes _ in
    let fits : passed_limit (signed_message context.message spec tag) ≡ None =
    limit_same context.message spec tag any_tag (tag_length spec.key base) ∙ limit_none (passed_limit (signed_message context.message spec any_tag)) (λ limit. made.none (TooLong limit) (lit< tt)) in
    record {
      written = signed_message context.message spec tag;
      spells = record { is = is_one (answers_head context.related) context.message spec valid tag are spells.is fits; text = signed.text_is };
      tag = tag;
      signature = new_signature context spec valid made.none tag are;
      values = signed.values;
      have = values_kept context spec valid made.none tag are spec.params.ids signed.values valid.params.each (none_covers context spec valid made.none tag are) signed.have;
      mac = refl;
      kept = old_signatures context spec valid made.none tag are;
      labels = all_labels context spec valid made.none tag are;
      apart = all_apart spec.label spec.params.ids (none_covers context spec valid made.none tag are);
      others = others_kept context spec valid made.none tag are;
      digested = digest_there context.message spec.digest (signature_lines spec tag);
    }

pub verifiable_is : (context : MessageContext) (spec : SignSpec) (bytes : List ℕ) (result : Result (List ℕ) SignFault) → IsValidSpec spec → Spells (answers_head context.related) context.message bytes
    → ExplainsSign context spec (IsMade context spec) result → IfOk result (IsVerifiable context spec)
verifiable_is context spec bytes (Ok text) valid spells x = verifiable context spec bytes text valid spells x
verifiable_is context spec bytes (Err fault) valid spells x = tt

pub spells_signed : (context : MessageContext) (spec : SignSpec) (bytes text : List ℕ) → IsValidSpec spec → Spells (answers_head context.related) context.message bytes → IsMade context spec text → SpellsSigned context spec text
unfolding verifiable
spells_signed context spec bytes text valid spells made =
    let signed = made.signed in (
      signed_message context.message spec (hmac spec.key (signature_base spec.params signed.values)),
      record { values = signed.values; have = signed.have; written_is = refl },
      (verifiable context spec bytes text valid spells made).spells,
    )

pub spells_is : (context : MessageContext) (spec : SignSpec) (bytes : List ℕ) (result : Result (List ℕ) SignFault) → IsValidSpec spec → Spells (answers_head context.related) context.message bytes
    → ExplainsSign context spec (IsMade context spec) result → IfOk result (SpellsSigned context spec)
spells_is context spec bytes (Ok text) valid spells x = spells_signed context spec bytes text valid spells x
spells_is context spec bytes (Err fault) valid spells x = tt
