-- The lines of a further label keep what a signature that permits them rests on.
use Rattle.std.proofs.Common.{◌≡◌, ◌↔◌, ◌<◌, ℕ, ◌&&◌, ◌||◌, [], ◌∷◌, ◌++◌, ◌∙◌, append_assoc, Bool, true, false, not, Option, Some, None, Result, Ok, Err, List, codes, length, get_or, refl, sym, subst, ap, inl, inr}
use Rattle.std.specs.Cmp.Derive.{both_true}
use Rattle.std.specs.List.{join_by, list_all}
use Rattle.std.specs.Prelude.{◌==◌, IsSomeAnd, is_some, option_and_then, option_map, reverse, unwrap_or, if◌then◌else◌}
use Rattle.std.specs.Str.{byte, bytes_eq}
use Rattle.std.proofs.lemmas.Bool.{and_from, and_parts, both_ways, cases_Bool, eqb-true, false_from_ne_true, false≢true, not-true, or_left, or_right}
use Rattle.std.proofs.lemmas.List.{append-nil, reverse-append, reverse-reverse}
use Rattle.std.proofs.lemmas.List.Folds.{list_any-append, list_any_at}
use Rattle.std.proofs.lemmas.Slice.Eq.{bytes_eq-Decides}
use Rattle.byte_grammar.specs.Classes.{is_line_byte, is_space}
use Rattle.byte_grammar.specs.Language.{starts_in}
use Rattle.byte_grammar.proofs.ListLaws.{all_implied, all_joined}
use Rattle.sfv_text.specs.Keys.{put, value_of}
use Rattle.sfv_text.specs.Parts.{string_in}
use Rattle.sfv_text.specs.Range.{is_key, is_key_first, is_key_rest}
use Rattle.sfv_text.specs.Strict.{member_text}
use Rattle.sfv_text.specs.declared.pair.Pair.{Pair}
use Rattle.sfv_text.specs.declared.value.BareItem.{BareItem}
use Rattle.sfv_text.specs.declared.value.BareItem.TheVariants.{Bytes}
use Rattle.sfv_text.specs.declared.value.InnerList.{InnerList}
use Rattle.sfv_text.specs.declared.value.Item.{Item}
use Rattle.sfv_text.specs.declared.value.Member.{Member}
use Rattle.sfv_text.specs.declared.value.Member.TheVariants.{Item as ItemMember, InnerList as InnerMember}
use Rattle.sfv_text.proofs.PutLaws.{bytes_eq-sym, put_value}
use Rattle.sfv_read.specs.Inner.{IsInner}
use Rattle.sfv_read.specs.Item.{IsItem, IsKey}
use Rattle.sfv_read.specs.Member.{IsDictMember, IsMember}
use Rattle.sfv_read.specs.Reads.{ReadsDict, ReadsInner}
use Rattle.sfv_read.proofs.Base64Letters.{all_bytes}
use Rattle.sfv_read.proofs.MoreMembers.{no_blank_ends, dict_more_text}
use Rattle.sfv_read.proofs.Readings.{dict_has_one_value}
use Rattle.msg_head.specs.Lines.{FieldLine}
use Rattle.msg_head.specs.Names.{has_name}
use Rattle.msg_head.specs.Values.{combined_value, has_bytes, is_there, value}
use Rattle.msg_head.specs.declared.error.Side.{Side}
use Rattle.msg_head.specs.declared.error.Side.TheVariants.{Header, Trailer}
use Rattle.msg_head.proofs.LineBytes.{line_byte_of}
use Rattle.msg_head.proofs.MoreLines.{combined_more, there_same, value_after_space, values_same}
use Rattle.msg_head.proofs.NameCounts.{positive}
use Rattle.msg_body.specs.SameFields.{HasSameValues}
use Rattle.msg_body.specs.Messages.{Message}
use Rattle.msg_body.specs.Views.{lines_on}
use Rattle.component_ids.specs.Identifiers.{is_identifier, item_of}
use Rattle.component_ids.specs.Table.{has_param}
use Rattle.component_ids.specs.Types.{kind_in}
use Rattle.component_ids.specs.declared.id.ComponentId.{ComponentId}
use Rattle.component_ids.specs.declared.params.SigParams.{SigParams}
use Rattle.component_ids.specs.declared.types.FieldKind.{FieldKind}
use Rattle.component_ids.specs.declared.types.FieldKind.TheVariants as kind
use Rattle.derived_values.specs.declared.lack.Lack.{Lack}
use Rattle.derived_values.specs.declared.lack.Lack.TheVariants.{Absent, Ambiguous, NotAscii, Underivable, Unreadable}
use Rattle.component_values.specs.Alike.{ComesToSame, is_own_field}
use Rattle.component_values.specs.Context.{MessageContext, answers_head}
use Rattle.component_values.specs.Forms.{form_of, member_key}
use Rattle.component_values.specs.Forms as form
use Rattle.component_values.specs.Values.{FieldRow, KeyRow, MemberRow, side_of}
use Rattle.component_values.proofs.SameReadings.{has_form_of_reading}
use Rattle.signatures.specs.Signatures.{HasMember, HasSignature, input_name, signature_name}
use Rattle.verdicts.specs.ContentDigest.{digest_name, digest_text}
use Rattle.rewrite_script.specs.Lines.{IsBase64, ReadsAsInner, ends_in_space, is_base64_byte, is_list_text, is_whole_writable}
use Rattle.rewrite_script.specs.declared.rewrite.WholeRewrite.TheVariants.{AddLabel}
use Rattle.line_rewrites.specs.Covered.{is_field_on, is_on}
use Rattle.line_rewrites.specs.Steps.{with_lines_on}
use Rattle.whole_rewrites.specs.Covered.{is_of_other, rests_on_label}
use Rattle.rewrites.specs.Laws.{IsAlikeAfter, IsAlikeForLabel}
use Rattle.whole_rewrites.specs.Lines.{label_lines, member_line}
use Rattle.whole_rewrites.specs.Permitted.{LacksLabel, MayAddLabel}
use Rattle.rewrites.proofs.AlikeParts.{all_at, come_to_same, derived_as_well, field_as_well, field_of_values, field_row_kept, read_alike, side_is}
use Rattle.rewrites.proofs.CoveredFields.{own_field}

-- ---- texts of a further member

-- the text is the key
key_spelt : (key : List ℕ) → is_key key ≡ true → IsKey key key
key_spelt [] is = absurd cc
key_spelt (c ∷ rest) is = let parts = and_parts (is_key_first c) (list_all is_key_rest rest) is in (refl, parts.0, parts.1)

key_bytes : (key : List ℕ) → is_key key ≡ true → list_all is_line_byte key ≡ true
key_bytes [] is = refl
key_bytes (c ∷ rest) is =
    let parts = and_parts (is_key_first c) (list_all is_key_rest rest) is in
    and_from (is_line_byte c) (list_all is_line_byte rest) (line_byte_of is_key_first c refl refl refl parts.0)
    (all_implied is_key_rest is_line_byte (λ b passes. line_byte_of is_key_rest b refl refl refl passes) rest parts.1)

key_some : (key rest : List ℕ) → is_key key ≡ true → has_bytes (key ++ rest) ≡ true
key_some [] rest is = absurd cc
key_some (c ∷ key) rest is = sym (positive (length (key ++ rest)))

-- spaces that no space ends are none
no_spaces : (spaces : List ℕ) → list_all is_space spaces ≡ true → starts_in is_space spaces ≡ false → spaces ≡ []
no_spaces [] all none = refl
no_spaces (c ∷ rest) all none = absurd (both_ways (is_space c) none (and_parts (is_space c) (list_all is_space rest) all).0)

starts_joined : (class : ℕ → Bool) (front rest : List ℕ) → starts_in class front ≡ true → starts_in class (front ++ rest) ≡ true
starts_joined class [] rest starts = absurd cc
starts_joined class (c ∷ front) rest starts = starts

all_reversed : (test : ℕ → Bool) (text : List ℕ) → list_all test text ≡ true → list_all test (reverse text) ≡ true
all_reversed test [] all = refl
all_reversed test (c ∷ rest) all =
    let parts = and_parts (test c) (list_all test rest) all in
    ap (list_all test) (reverse-append (c ∷ []) rest) ∙ all_joined test (reverse rest) (c ∷ []) (all_reversed test rest parts.1) (and_from (test c) true parts.0 refl)

no_spaces_before : (spaces rest : List ℕ) → list_all is_space spaces ≡ true → starts_in is_space (spaces ++ rest) ≡ false → spaces ≡ []
no_spaces_before spaces rest all none = no_spaces spaces all (false_from_ne_true (starts_in is_space spaces) (λ starts. both_ways (starts_in is_space (spaces ++ rest)) none (starts_joined is_space spaces rest starts)))

no_spaces_after : (front spaces : List ℕ) → list_all is_space spaces ≡ true → starts_in is_space (reverse (front ++ spaces)) ≡ false → spaces ≡ []
no_spaces_after front spaces all none =
    let turned = no_spaces_before (reverse spaces) (reverse front) (all_reversed is_space spaces all) (ap (starts_in is_space) (sym (reverse-append front spaces)) ∙ none) in
    sym (reverse-reverse spaces) ∙ ap (λ (t : List ℕ). reverse t) turned

opened : (text : List ℕ) → starts_in (λ c. c == 40) text ≡ true → starts_in is_space text ≡ false
opened [] starts = absurd cc
opened (c ∷ rest) starts = let same : c ≡ 40 = eqb-true c 40 starts in ap is_space same

-- a text without spaces around it that reads as an Inner List is one
inner_spelt : (text : List ℕ) (list : InnerList) → is_list_text text ≡ true → ReadsInner text list → IsInner text list
inner_spelt text list writable reads =
    let ends = and_parts (starts_in (λ c. c == 40) text) (not (ends_in_space text)) (and_parts (list_all is_line_byte text) (starts_in (λ c. c == 40) text && not (ends_in_space text)) writable).1 in
    let before : reads.before ≡ [] = no_spaces_before reads.before (reads.middle ++ reads.after) reads.class_before (ap (starts_in is_space) (sym reads.joined) ∙ opened text ends.0) in
    let joined : text ≡ reads.middle ++ reads.after = reads.joined ∙ ap (λ (t : List ℕ). t ++ (reads.middle ++ reads.after)) before in
    let after : reads.after ≡ [] = no_spaces_after reads.middle reads.after reads.class_after
    (ap (λ (t : List ℕ). starts_in is_space (reverse t)) (sym joined) ∙ not-true (ends_in_space text) ends.1) in
    subst (λ (t : List ℕ). IsInner t list) (sym (joined ∙ (ap (λ (t : List ℕ). reads.middle ++ t) after ∙ append-nil reads.middle))) reads.spells

-- the Item of these bytes
abbrev bytes_item : List ℕ → Item
bytes_item bytes = record { bare = Bytes bytes; params = [] }

bytes_spelt : (tag : List ℕ) (base64 : IsBase64 tag) → IsItem (byte ":" ∷ (tag ++ codes ":")) (bytes_item base64.bytes)
bytes_spelt tag base64 = record {
  bare = byte ":" ∷ (tag ++ codes ":");
  params = [];
  written = [];
  joined = sym (append-nil (byte ":" ∷ (tag ++ codes ":")));
  is_bare = record {
    are_bytes = all_bytes base64.bytes base64.are_bytes;
    joined = inl (ap (λ (t : List ℕ). byte ":" ∷ (t ++ codes ":")) base64.encoded);
  };
  are_params = refl;
  are_distinct = refl;
}

-- the member of the key with this value
abbrev member_of : List ℕ → Member → Pair Member
member_of key member = record { key = key; value = member }

member_spelt : (key text : List ℕ) (member : Member) → is_key key ≡ true → IsMember text member → IsDictMember (key ++ byte "=" ∷ text) (member_of key member)
member_spelt key text member is spells = record {
  key = key;
  rest = byte "=" ∷ text;
  joined = refl;
  is_key = key_spelt key is;
  value = inl (text, refl, spells);
}

-- the value of its line is its text
member_value : (name key text : List ℕ) (member : Member) → is_key key ≡ true → list_all is_line_byte text ≡ true → IsMember text member
    → value (member_line name key text).raw ≡ key ++ byte "=" ∷ text
member_value name key text member is bytes spells =
    let ends = no_blank_ends (key ++ byte "=" ∷ text) (member_of key member) (member_spelt key text member is spells) in
    value_after_space (key ++ byte "=" ∷ text) (all_joined is_line_byte key (byte "=" ∷ text) (key_bytes key is) bytes) (key_some key (byte "=" ∷ text) is) ends.0 ends.1

-- ---- a Dictionary with a further member

-- the field reads as a Dictionary without the key, and in the other message as that with the key put in
record Extended (message other : Message) (name added : List ℕ) : Type 0 where
  dict : List (Pair Member)
  member : Member
  there : is_there (lines_on Header message) name ≡ true
  there_too : is_there (lines_on Header other) name ≡ true
  reads : ReadsDict (combined_value (lines_on Header message) name) dict
  reads_more : ReadsDict (combined_value (lines_on Header other) name) (put dict added member)
  none : value_of dict added ≡ None

module _ (message other : Message) (name added : List ℕ) (extended : Extended message other name added) where
  -- another key has its value in both
  value_kept : (key : List ℕ) → bytes_eq added key ≡ false → value_of (put extended.dict added extended.member) key ≡ value_of extended.dict key
  value_kept key apart =
      let puts : value_of (put extended.dict added extended.member) key ≡ (if bytes_eq added key then Some extended.member else value_of extended.dict key) = put_value added extended.member key extended.dict in
      rw apart at puts

  -- a member that is there is of another key
  other_key : (label : List ℕ) (member : Member) → value_of extended.dict label ≡ Some member → bytes_eq added label ≡ false
  other_key label member is = false_from_ne_true (bytes_eq added label) (λ same.
      let key : added ≡ label = (bytes_eq-Decides added label).0 same in
      absurd (cc (extended.none, ap (λ (k : List ℕ). value_of extended.dict k) key, is)))

  extended_member : (label : List ℕ) (member : Member) → HasMember message name label member → HasMember other name label member
  extended_member label member has =
      let same : has.dict ≡ extended.dict = dict_has_one_value (combined_value (lines_on Header message) name) has.dict extended.dict has.has.reads extended.reads in
      let is : value_of extended.dict label ≡ Some member = ap (λ (d : List (Pair Member)). value_of d label) (sym same) ∙ has.member_is in
      record {
        dict = put extended.dict added extended.member;
        has = record { there = extended.there_too; reads = extended.reads_more };
        member_is = value_kept label (other_key label member is) ∙ is;
      }

-- where texts read as Dictionaries that have one member of the key, the rows of the member are the same
member_rows : (key one other : List ℕ) (dict more : List (Pair Member)) → ReadsDict one dict → ReadsDict other more → value_of more key ≡ value_of dict key → (result : Result (List ℕ) Lack)
    → MemberRow key one result → MemberRow key other result
member_rows key one other dict more reads reads_more same (Ok found) row =
    let is : row.0 ≡ dict = dict_has_one_value one row.0 dict row.1 reads in
    (more, reads_more, subst (λ (v : Option Member). IsSomeAnd v (λ member. found ≡ member_text member)) (ap (λ (d : List (Pair Member)). value_of d key) is ∙ sym same) row.2)
member_rows key one other dict more reads reads_more same (Err Absent) row =
    let is : row.0 ≡ dict = dict_has_one_value one row.0 dict row.1 reads in
    (more, reads_more, same ∙ (ap (λ (d : List (Pair Member)). value_of d key) (sym is) ∙ row.2))
member_rows key one other dict more reads reads_more same (Err Ambiguous) row = absurd (row.1 dict reads)
member_rows key one other dict more reads reads_more same (Err Underivable) row = absurd (row.1 dict reads)
member_rows key one other dict more reads reads_more same (Err Unreadable) row = absurd (row.1 dict reads)
member_rows key one other dict more reads reads_more same (Err NotAscii) row = absurd (row.1 dict reads)

key_rows : (known : Option FieldKind) (key one other : List ℕ) (dict more : List (Pair Member)) → ReadsDict one dict → ReadsDict other more → value_of more key ≡ value_of dict key
    → (result : Result (List ℕ) Lack) → KeyRow known key one result ↔ KeyRow known key other result
key_rows (Some kind.Item) key one other dict more reads reads_more same result = (λ row. row, λ row. row)
key_rows (Some kind.List) key one other dict more reads reads_more same result = (λ row. row, λ row. row)
key_rows (Some kind.Dictionary) key one other dict more reads reads_more same result =
    (member_rows key one other dict more reads reads_more same result, member_rows key other one more dict reads_more reads (sym same) result)
key_rows None key one other dict more reads reads_more same result =
    (member_rows key one other dict more reads reads_more same result, member_rows key other one more dict reads_more reads (sym same) result)

-- ---- components of another label

-- the component is a member, and of another key
other_label : (added : List ℕ) (params : List (Pair BareItem)) (found : Option (List ℕ)) → member_key params ≡ found → unwrap_or (option_map (λ key. not (bytes_eq key added)) found) false ≡ true
    → (key : List ℕ) × (member_key params ≡ Some key) × (bytes_eq added key ≡ false)
other_label added params (Some key) is other = (key, is, bytes_eq-sym added key ∙ not-true (bytes_eq key added) other)
other_label added params None is other = absurd (false≢true other)

string_there : (found : Option BareItem) (key : List ℕ) → option_and_then string_in found ≡ Some key → is_some found ≡ true
string_there (Some bare) key is = refl
string_there None key is = absurd cc

key_there : (params : List (Pair BareItem)) (key : List ℕ) → member_key params ≡ Some key → has_param params (codes "key") ≡ true
key_there params key is = string_there (value_of params (codes "key")) key is

form_is : (params : List (Pair BareItem)) (key : List ℕ) → has_param params (codes "bs") ≡ false → member_key params ≡ Some key → form_of params ≡ form.member key
form_is params key no_bs is = rw (no_bs, is) refl

module _ (context : MessageContext) (added tag text : List ℕ) (writable : is_whole_writable (AddLabel added tag text) ≡ true) (base64 : IsBase64 tag) (inner : ReadsAsInner text) where
  abbrev lines : List FieldLine
  lines = context.message.head.lines

  abbrev input_line : FieldLine
  input_line = member_line (codes "Signature-Input") added text

  abbrev tag_line : FieldLine
  tag_line = member_line (codes "Signature") added (byte ":" ∷ (tag ++ codes ":"))

  abbrev labelled : Message
  labelled = with_lines_on (answers_head context.related) Header context.message (lines ++ label_lines added tag text)

  is_key_added : is_key added ≡ true
  is_key_added = (and_parts (is_key added) (list_all is_base64_byte tag && is_list_text text) writable).0

  tag_is_base64 : list_all is_base64_byte tag ≡ true
  tag_is_base64 = (and_parts (list_all is_base64_byte tag) (is_list_text text) (and_parts (is_key added) (list_all is_base64_byte tag && is_list_text text) writable).1).0

  text_is_list : is_list_text text ≡ true
  text_is_list = (and_parts (list_all is_base64_byte tag) (is_list_text text) (and_parts (is_key added) (list_all is_base64_byte tag && is_list_text text) writable).1).1

  text_bytes : list_all is_line_byte text ≡ true
  text_bytes = (and_parts (list_all is_line_byte text) (starts_in (λ c. c == 40) text && not (ends_in_space text)) text_is_list).0

  tag_bytes : list_all is_line_byte (byte ":" ∷ (tag ++ codes ":")) ≡ true
  tag_bytes = and_from (is_line_byte 58) (list_all is_line_byte (tag ++ codes ":")) refl
      (all_joined is_line_byte tag (codes ":") (all_implied is_base64_byte is_line_byte (λ c is. line_byte_of is_base64_byte c refl refl refl is) tag tag_is_base64) refl)

  input_spelt : IsMember text (InnerMember inner.list)
  input_spelt = inner_spelt text inner.list text_is_list inner.reads

  tag_spelt : IsMember (byte ":" ∷ (tag ++ codes ":")) (ItemMember (bytes_item base64.bytes))
  tag_spelt = bytes_spelt tag base64

  -- ---- the fields of signatures

  -- both lines come one after the other
  in_turn : lines ++ label_lines added tag text ≡ (lines ++ input_line ∷ []) ++ tag_line ∷ []
  in_turn = sym (append_assoc lines (input_line ∷ []) (tag_line ∷ []))

  input_combined : is_there lines input_name ≡ true
      → combined_value (lines ++ label_lines added tag text) input_name ≡ combined_value lines input_name ++ (codes ", " ++ (added ++ byte "=" ∷ text))
  input_combined there =
      ap (λ (ls : List FieldLine). combined_value ls input_name) in_turn
      ∙ (ap (λ (vs : List (List ℕ)). join_by (λ (t : List ℕ). t) (codes ", ") vs) (values_same (lines ++ input_line ∷ []) (tag_line ∷ []) input_name refl)
      ∙ (combined_more lines input_line input_name refl there
      ∙ ap (λ (t : List ℕ). combined_value lines input_name ++ (codes ", " ++ t)) (member_value (codes "Signature-Input") added text (InnerMember inner.list) is_key_added text_bytes input_spelt)))

  tag_combined : is_there lines signature_name ≡ true
      → combined_value (lines ++ label_lines added tag text) signature_name ≡ combined_value lines signature_name ++ (codes ", " ++ (added ++ byte "=" ∷ (byte ":" ∷ (tag ++ codes ":"))))
  tag_combined there =
      let before = lines ++ input_line ∷ [] in
      let same : combined_value before signature_name ≡ combined_value lines signature_name =
      ap (λ (vs : List (List ℕ)). join_by (λ (t : List ℕ). t) (codes ", ") vs) (values_same lines (input_line ∷ []) signature_name refl) in
      ap (λ (ls : List FieldLine). combined_value ls signature_name) in_turn
      ∙ (combined_more before tag_line signature_name refl (there_same lines (input_line ∷ []) signature_name refl ∙ there)
      ∙ (ap (λ (t : List ℕ). t ++ (codes ", " ++ value tag_line.raw)) same
      ∙ ap (λ (t : List ℕ). combined_value lines signature_name ++ (codes ", " ++ t))
      (member_value (codes "Signature") added (byte ":" ∷ (tag ++ codes ":")) (ItemMember (bytes_item base64.bytes)) is_key_added tag_bytes tag_spelt)))

  there_still : (name : List ℕ) → is_there lines name ≡ true → is_there (lines ++ label_lines added tag text) name ≡ true
  there_still name there = list_any-append (has_name name) lines (label_lines added tag text) ∙ rw there refl

  some_member : (dict : List (Pair Member)) (label : List ℕ) (member : Member) → value_of dict label ≡ Some member → ¬ (dict ≡ [])
  some_member [] label member is none = absurd cc
  some_member (first ∷ dict) label member is none = absurd (cc none)

  -- the Dictionary with the label, where the label's text comes after its text
  further : (name more label : List ℕ) (member had : Member) → LacksLabel context.message name added → HasMember context.message name label had → IsMember more member
      → combined_value (lines ++ label_lines added tag text) name ≡ combined_value lines name ++ (codes ", " ++ (added ++ byte "=" ∷ more)) → Extended context.message labelled name added
  further name more label member had lacks has spells combined =
      let same : has.dict ≡ lacks.dict = dict_has_one_value (combined_value lines name) has.dict lacks.dict has.has.reads lacks.has.reads in
      let is : value_of lacks.dict label ≡ Some had = ap (λ (d : List (Pair Member)). value_of d label) (sym same) ∙ has.member_is in
      record {
        dict = lacks.dict;
        member = member;
        there = lacks.has.there;
        there_too = there_still name lacks.has.there;
        reads = lacks.has.reads;
        reads_more = subst (λ (t : List ℕ). ReadsDict t (put lacks.dict added member)) (sym combined)
            (dict_more_text (combined_value lines name) (added ++ byte "=" ∷ more) lacks.dict (member_of added member) lacks.has.reads (some_member lacks.dict label had is)
            (member_spelt added more member is_key_added spells));
        none = lacks.none;
      }

  module _ (label : List ℕ) (params : SigParams) (own_tag : List ℕ) (has : HasSignature context.message label params own_tag) (may : MayAddLabel context.message added params) where
    input_extended : Extended context.message labelled input_name added
    input_extended = further input_name text label (InnerMember inner.list) _ may.input has.input input_spelt (input_combined may.input.has.there)

    tag_extended : Extended context.message labelled signature_name added
    tag_extended = further signature_name (byte ":" ∷ (tag ++ codes ":")) label (ItemMember (bytes_item base64.bytes)) has.member may.signature has.signature tag_spelt (tag_combined may.signature.has.there)

    labelled_signature : HasSignature labelled label params own_tag
    labelled_signature = record {
      input = extended_member context.message labelled input_name added input_extended label _ has.input;
      are = has.are;
      member = has.member;
      signature = extended_member context.message labelled signature_name added tag_extended label has.member has.signature;
      tag_is = has.tag_is;
    }

    -- ---- components

    -- a field of another name, or of the trailer
    others_same : (side : Side) (name : List ℕ) → (side ≡ Header → (bytes_eq input_name name ≡ false) × (bytes_eq signature_name name ≡ false))
        → HasSameValues (lines_on side context.message) (lines_on side labelled) name
    others_same Trailer name apart = record { there = refl; same = refl }
    others_same Header name apart =
        let both = apart refl in
        let none : is_there (label_lines added tag text) name ≡ false = rw (both.0, both.1) refl in
        record { there = there_same lines (label_lines added tag text) name none; same = values_same lines (label_lines added tag text) name none }

    -- a member of another label
    member_same : (name : List ℕ) (id : ComponentId) → Extended context.message labelled name added → is_own_field id ≡ true → id.name ≡ name → side_of id.params ≡ Header
        → is_identifier (item_of id) ≡ true → is_of_other added id ≡ true → ComesToSame context labelled id
    member_same name id extended own named on identifier other =
        let key = other_label added id.params (member_key id.params) refl other in
        let reads : (has_param id.params (codes "sf") || has_param id.params (codes "key")) ≡ true = or_right (has_param id.params (codes "sf")) (has_param id.params (codes "key")) (key_there id.params key.0 key.1) in
        let no_bs = (has_form_of_reading id identifier reads).1 in
        let form = form_is id.params key.0 no_bs key.1 in
        field_row_kept context labelled id own (λ result.
        let rows : KeyRow (kind_in context.types name) key.0 (combined_value lines name) result ↔ KeyRow (kind_in context.types name) key.0 (combined_value (lines_on Header labelled) name) result =
        key_rows (kind_in context.types name) key.0 (combined_value lines name) (combined_value (lines_on Header labelled) name) extended.dict (put extended.dict added extended.member) extended.reads extended.reads_more
        (value_kept context.message labelled name added extended key.0 key.2) result in
        let formed : FieldRow id.params (kind_in context.types name) lines name result ↔ FieldRow id.params (kind_in context.types name) (lines_on Header labelled) name result =
        rw (extended.there, extended.there_too, form) rows in
        rw (named, on) formed)

    not_resting : (k : ℕ) (d : ComponentId) → k < length params.ids → (is_field_on Header input_name (get_or params.ids k d) || is_field_on Header signature_name (get_or params.ids k d)) ≡ true
        → is_of_other added (get_or params.ids k d) ≡ true
    not_resting k d lt on =
        let id = get_or params.ids k d in
        elim (cases_Bool (is_of_other added id)) [
          | inl other ↦ other
          | inr own ↦ absurd (false≢true (sym may.covered ∙ list_any_at (rests_on_label added) params.ids k d lt (both_true on (rw own refl))))
        ]

    field_on : (name : List ℕ) (id : ComponentId) → is_field_on Header name id ≡ true → (id.name ≡ name) × (side_of id.params ≡ Header)
    field_on name id on =
        let parts = and_parts (is_on Header id) (bytes_eq id.name name) (and_parts (is_own_field id) (is_on Header id && bytes_eq id.name name) on).1 in
        ((bytes_eq-Decides id.name name).0 parts.1, side_is Header id parts.0)

    labelled_field : (k : ℕ) (d : ComponentId) → k < length params.ids → is_own_field (get_or params.ids k d) ≡ true → ComesToSame context labelled (get_or params.ids k d)
    labelled_field k d lt own =
        let id = get_or params.ids k d in
        let identifier = all_at (λ (i : ComponentId). is_identifier (item_of i)) params.ids k d lt has.are.each in
        elim (cases_Bool (is_field_on Header input_name id)) [
          | inl input ↦
              let at = field_on input_name id input in
              member_same input_name id input_extended own at.0 at.1 identifier (not_resting k d lt (or_left (is_field_on Header input_name id) (is_field_on Header signature_name id) input))
          | inr no_input ↦ elim (cases_Bool (is_field_on Header signature_name id)) [
            | inl signed ↦
                let at = field_on signature_name id signed in
                member_same signature_name id tag_extended own at.0 at.1 identifier (not_resting k d lt (or_right (is_field_on Header input_name id) (is_field_on Header signature_name id) signed))
            | inr no_tag ↦ field_as_well context labelled id own (others_same (side_of id.params) id.name (λ header. (
              apart_from input_name id own header no_input,
              apart_from signature_name id own header no_tag,
            )))
          ]
        ]
      where
        apart_from : (name : List ℕ) (id : ComponentId) → is_own_field id ≡ true → side_of id.params ≡ Header → is_field_on Header name id ≡ false → bytes_eq name id.name ≡ false
        apart_from name id own header off = false_from_ne_true (bytes_eq name id.name) (λ same.
            let is : name ≡ id.name = (bytes_eq-Decides name id.name).0 same in
            false≢true (sym off ∙ (ap (λ (n : List ℕ). is_field_on Header n id) is ∙ (ap (λ (s : Side). is_field_on s id.name id) (sym header) ∙ own_field id own))))

    labelled_alike : IsAlikeForLabel context label params own_tag labelled
    labelled_alike =
        let hosts = (others_same Header (codes "host") (λ _. (refl, refl))).same in
        let digest = field_of_values lines (lines_on Header labelled) digest_name (others_same Header digest_name (λ _. (refl, refl))) in
        record {
          kind = refl;
          content = refl;
          signature = labelled_signature;
          components = come_to_same context labelled params.ids refl labelled_field
              (λ k d lt own derived. derived_as_well context labelled (get_or params.ids k d) refl hosts derived);
          digests = λ covered. read_alike (digest_text context.message) (digest_text labelled) digest.combined;
        }

pub label_alike : (added tag text : List ℕ) → IsAlikeAfter (AddLabel added tag text)
label_alike added tag text context label params own_tag made writable has_values has gives may =
    let is = gives.makes in
    let made_is : made ≡ labelled context added tag text writable has_values.0 has_values.1 =
    is.made_is ∙ ap (λ (ls : List FieldLine). with_lines_on (answers_head context.related) Header context.message ls) is.change in
    subst (λ (m : Message). IsAlikeForLabel context label params own_tag m) (sym made_is)
    (labelled_alike context added tag text writable has_values.0 has_values.1 label params own_tag has may)
