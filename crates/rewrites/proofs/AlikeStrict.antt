-- A field in its strict form keeps what a signature that permits it rests on.
use Rattle.std.proofs.Common.{◌≡◌, ◌≢◌, ◌↔◌, ◌<◌, ℕ, ◌&&◌, ◌||◌, [], ◌∷◌, ◌++◌, ◌∙◌, Bool, true, false, Option, Some, None, Ok, List, codes, length, get_or, refl, sym, subst, ap, inl, inr}
use Rattle.std.specs.Cmp.Derive.{both_true}
use Rattle.std.specs.List.{join_by, list_all}
use Rattle.std.specs.Str.{byte, bytes_eq}
use Rattle.std.proofs.lemmas.Bool.{and_parts, cases_Bool, false≢true}
use Rattle.std.proofs.lemmas.List.{append-nil}
use Rattle.std.proofs.lemmas.List.Folds.{list_any_at}
use Rattle.std.proofs.lemmas.Slice.Eq.{bytes_eq-Decides}
use Rattle.byte_grammar.specs.Classes.{is_line_byte}
use Rattle.byte_grammar.proofs.ListLaws.{all_implied}
use Rattle.sfv_text.specs.Range.{is_dict_in_range, is_item_in_range, is_list_in_range, is_string_byte}
use Rattle.sfv_text.specs.Strict.{dict_text, item_text, list_text}
use Rattle.sfv_text.specs.declared.pair.Pair.{Pair}
use Rattle.sfv_text.specs.declared.value.Member.{Member}
use Rattle.sfv_text.proofs.Printable.{dict_is, item_is, list_is}
use Rattle.sfv_read.specs.Reads.{ReadsDict, ReadsItem, ReadsList}
use Rattle.sfv_read.proofs.InRange.{dict_read_in_range, item_read_in_range, list_read_in_range}
use Rattle.sfv_read.proofs.Readings.{dict_has_one_value}
use Rattle.sfv_read.proofs.SameDicts.{reads_as_same_dict}
use Rattle.sfv_read.proofs.StrictReads.{dict_text_reads}
use Rattle.msg_head.specs.Lines.{FieldLine}
use Rattle.msg_head.specs.Names.{has_name}
use Rattle.msg_head.specs.Values.{combined_value, has_bytes, is_there, value, values}
use Rattle.msg_head.specs.declared.error.Side.{Side}
use Rattle.msg_head.specs.declared.error.Side.TheVariants.{Header, Trailer}
use Rattle.msg_head.proofs.LineBytes.{line_byte_of}
use Rattle.msg_head.proofs.MoreLines.{value_after_space}
use Rattle.msg_head.proofs.NameCounts.{positive}
use Rattle.msg_body.specs.SameFields.{HasSameValues}
use Rattle.framing.specs.Framings.{is_request}
use Rattle.msg_body.specs.Bodies.{Body, chunked, content_in, plain, trailers_in}
use Rattle.msg_body.specs.Messages.{Message}
use Rattle.msg_body.specs.Views.{lines_on, message_content}
use Rattle.component_ids.specs.Identifiers.{is_identifier, item_of}
use Rattle.component_ids.specs.Table.{has_param, is_listed}
use Rattle.component_ids.specs.Types.{kind_in}
use Rattle.component_ids.specs.declared.id.ComponentId.{ComponentId}
use Rattle.component_ids.specs.declared.params.SigParams.{SigParams}
use Rattle.component_ids.specs.declared.types.FieldKind.{FieldKind}
use Rattle.component_ids.specs.declared.types.FieldKind.TheVariants as kind
use Rattle.component_values.specs.Alike.{ComesToSame, is_own_field}
use Rattle.component_values.specs.Context.{MessageContext, answers_head}
use Rattle.component_values.specs.Values.{FieldRow, KindRow, StrictRow, side_of}
use Rattle.component_values.proofs.SameReadings.{depends_on_its_reading, has_form_of_reading}
use Rattle.component_values.proofs.StrictEnds.{has_no_blank_ends}
use Rattle.signatures.specs.Signatures.{HasMember, HasSignature, input_name, signature_name}
use Rattle.verdicts.specs.ContentDigest.{digest_name}
use Rattle.rewrite_script.specs.declared.rewrite.WholeRewrite.TheVariants.{Resf}
use Rattle.line_rewrites.specs.Covered.{is_field_on, is_on}
use Rattle.line_rewrites.specs.LineLists.{line_of}
use Rattle.line_rewrites.specs.Permitted.{counted_names}
use Rattle.line_rewrites.specs.Steps.{with_lines_on, with_trailers}
use Rattle.whole_rewrites.specs.Covered.{covers_unread, is_unread_on}
use Rattle.sfv_read.specs.Laws.{ReadAlike}
use Rattle.rewrites.specs.Laws.{IsAlikeAfter, IsAlikeForLabel}
use Rattle.whole_rewrites.specs.Lines.{IsStrict}
use Rattle.rewrites.proofs.AlikeParts.{all_at, come_to_same, derived_as_well, field_as_well, field_of_values, field_row_kept, read_alike, no_values, one_value, values_parts, side_is}
use Rattle.rewrites.proofs.CoveredFields.{own_field}
use Rattle.whole_rewrites.proofs.FieldParts.{is_named, there_at}
use Rattle.whole_rewrites.proofs.FieldValues.{keeps_others_in_one_line, without}

-- ---- a side that changes

lines_kept : (to_head : Bool) (side : Side) (message : Message) (lines : List FieldLine) (line : FieldLine) (before after : List FieldLine) → lines_on side message ≡ before ++ line ∷ after
    → lines_on side (with_lines_on to_head side message lines) ≡ lines
lines_kept to_head Header message lines line before after there = refl
lines_kept to_head Trailer message lines line before after there = go message.body there
  where
    nowhere : (before : List FieldLine) → [] ≡ before ++ line ∷ after → ⊥
    nowhere [] is = absurd (cc is)
    nowhere (x ∷ before) is = absurd (cc is)

    go : (body : Body) → trailers_in body ≡ before ++ line ∷ after → trailers_in (with_trailers lines body) ≡ lines
    go (plain content) is = absurd (nowhere before is)
    go (chunked chunks trailers) is = refl

start_kept : (to_head : Bool) (side : Side) (message : Message) (lines : List FieldLine) → (with_lines_on to_head side message lines).head.start ≡ message.head.start
start_kept to_head Header message lines = refl
start_kept to_head Trailer message lines = refl

content_in_kept : (lines : List FieldLine) (body : Body) → content_in (with_trailers lines body) ≡ content_in body
content_in_kept lines (plain content) = refl
content_in_kept lines (chunked chunks trailers) = refl

content_kept : (to_head : Bool) (side : Side) (message : Message) (lines : List FieldLine) → message_content (with_lines_on to_head side message lines) ≡ message_content message
content_kept to_head Header message lines = refl
content_kept to_head Trailer message lines = content_in_kept lines message.body

-- ---- the strict text

printed : {V : Type 0} (Reads : List ℕ → V → Type 0) (test : V → Bool) (text_of : V → List ℕ) → ((text : List ℕ) (v : V) → Reads text v → test v ≡ true)
    → ((v : V) → test v ≡ true → list_all is_string_byte (text_of v) ≡ true) → (text strict : List ℕ) → StrictRow Reads text_of text (Ok strict) → list_all is_line_byte strict ≡ true
printed Reads test text_of in_range prints text strict row =
    ap (list_all is_line_byte) row.2
    ∙ all_implied is_string_byte is_line_byte (λ c is. line_byte_of is_string_byte c refl refl refl is) (text_of row.0) (prints row.0 (in_range text row.0 row.1))

strict_printed : (known : Option FieldKind) (text strict : List ℕ) → KindRow known text (Ok strict) → list_all is_line_byte strict ≡ true
strict_printed (Some kind.Item) text strict row = printed ReadsItem is_item_in_range item_text item_read_in_range item_is text strict row
strict_printed (Some kind.List) text strict row = printed ReadsList is_list_in_range list_text list_read_in_range list_is text strict row
strict_printed (Some kind.Dictionary) text strict row = printed ReadsDict is_dict_in_range dict_text dict_read_in_range dict_is text strict row
strict_printed None text strict row = absurd cc

no_bytes : (text : List ℕ) → has_bytes text ≡ false → text ≡ []
no_bytes [] none = refl
no_bytes (c ∷ rest) none = absurd (false≢true (sym none ∙ sym (positive (length rest))))

dict_alike : (text : List ℕ) (dict : List (Pair Member)) → ReadsDict text dict → ReadAlike text (dict_text dict)
dict_alike text dict reads other = (
  λ is. subst (λ (d : List (Pair Member)). ReadsDict (dict_text dict) d) (dict_has_one_value text dict other reads is) (dict_text_reads dict (dict_read_in_range text dict reads)),
  λ is. subst (λ (d : List (Pair Member)). ReadsDict text d)
      (dict_has_one_value (dict_text dict) dict other (dict_text_reads dict (dict_read_in_range text dict reads)) is) reads,
)

strict_alike : (known : Option FieldKind) (text strict : List ℕ) → KindRow known text (Ok strict) → ReadAlike text strict
strict_alike (Some kind.Item) text strict row = subst (λ (t : List ℕ). ReadAlike text t) (sym row.2) (reads_as_same_dict.item text row.0 row.1)
strict_alike (Some kind.List) text strict row = subst (λ (t : List ℕ). ReadAlike text t) (sym row.2) (reads_as_same_dict.list text row.0 row.1)
strict_alike (Some kind.Dictionary) text strict row = subst (λ (t : List ℕ). ReadAlike text t) (sym row.2) (dict_alike text row.0 row.1)
strict_alike None text strict row = absurd cc

-- the value of the line
strict_value : (known : Option FieldKind) (text strict : List ℕ) → KindRow known text (Ok strict) → value (byte " " ∷ strict) ≡ strict
strict_value known text strict row = elim (cases_Bool (has_bytes strict)) [
  | inl some ↦
      let ends = has_no_blank_ends known text strict row in
      value_after_space strict (strict_printed known text strict row) some ends.0 ends.1
  | inr none ↦ let empty = no_bytes strict none in ap (λ (t : List ℕ). value (byte " " ∷ t)) empty ∙ sym empty
]

-- no line that is left has the name
none_left : (name : List ℕ) (lines : List FieldLine) → is_there (without name lines) name ≡ false
none_left name [] = refl
none_left name (line ∷ lines) = elim (cases_Bool (has_name name line)) [
  | inl is ↦ rw is (none_left name lines)
  | inr not_named ↦ rw not_named (rw not_named (none_left name lines))
]

strict_combined : (known : Option FieldKind) (name : List ℕ) (lines fewer : List FieldLine) (strict : IsStrict known name lines fewer) → combined_value fewer name ≡ strict.text
strict_combined known name lines fewer strict =
    let is = strict.one_line in
    let new = line_of is.line.name strict.text in
    let rest = without name is.after in
    let has : has_name name new ≡ true = is_named name is.line is.named in
    let all : values fewer name ≡ value (byte " " ∷ strict.text) ∷ [] =
    ap (λ (ls : List FieldLine). values ls name) is.fewer_are
    ∙ (values_parts is.before (new ∷ rest) name
    ∙ (ap (λ (vs : List (List ℕ)). vs ++ values (new ∷ rest) name) (no_values is.before name is.none_before)
    ∙ (one_value new rest name has ∙ ap (λ (vs : List (List ℕ)). value (byte " " ∷ strict.text) ∷ vs) (no_values rest name (none_left name is.after))))) in
    ap (λ (vs : List (List ℕ)). join_by (λ (text : List ℕ). text) (codes ", ") vs) all
    ∙ (append-nil (value (byte " " ∷ strict.text)) ∙ strict_value known (combined_value lines name) strict.text strict.reads)

-- ---- a field in its strict form

module _ (context : MessageContext) (name : List ℕ) where
  abbrev known : Option FieldKind
  known = kind_in context.types name

  -- the message with the lines of the side
  abbrev reformed : Side → List FieldLine → Message
  reformed side fewer = with_lines_on (answers_head context.related) side context.message fewer

  abbrev IsReformed : Side → List FieldLine → Type 0
  IsReformed side fewer = IsStrict known name (lines_on side context.message) fewer

  there_now : (side : Side) (fewer : List FieldLine) → IsReformed side fewer → lines_on side (reformed side fewer) ≡ fewer
  there_now side fewer strict =
      lines_kept (answers_head context.related) side context.message fewer strict.one_line.line strict.one_line.before strict.one_line.after strict.one_line.lines_are

  -- a field of another name, or of the other side
  others_kept : (side other : Side) (fewer : List FieldLine) (n : List ℕ) → IsReformed side fewer → (other ≡ side → n ≢ name)
      → HasSameValues (lines_on other context.message) (lines_on other (reformed side fewer)) n
  others_kept Header Header fewer n strict apart = keeps_others_in_one_line name strict.text n context.message.head.lines fewer strict.one_line (apart refl)
  others_kept Header Trailer fewer n strict apart = record { there = refl; same = refl }
  others_kept Trailer Header fewer n strict apart = record { there = refl; same = refl }
  others_kept Trailer Trailer fewer n strict apart =
      subst (λ (ls : List FieldLine). HasSameValues (lines_on Trailer context.message) ls n) (sym (there_now Trailer fewer strict))
      (keeps_others_in_one_line name strict.text n (lines_on Trailer context.message) fewer strict.one_line (apart refl))

  -- the field itself is there in both
  field_was : (side : Side) (fewer : List FieldLine) → IsReformed side fewer → is_there (lines_on side context.message) name ≡ true
  field_was side fewer strict =
      let is = strict.one_line in
      ap (λ (ls : List FieldLine). is_there ls name) is.lines_are ∙ there_at name is.before is.after is.line is.named

  field_is : (side : Side) (fewer : List FieldLine) → IsReformed side fewer → is_there fewer name ≡ true
  field_is side fewer strict =
      let is = strict.one_line in
      ap (λ (ls : List FieldLine). is_there ls name) is.fewer_are ∙ there_at name is.before (without name is.after) (line_of is.line.name strict.text) is.named

  -- ---- fields that read as before

  header_alike : (side : Side) (fewer : List FieldLine) (n : List ℕ) → IsReformed side fewer
      → (is_there (lines_on Header (reformed side fewer)) n ≡ is_there (lines_on Header context.message) n)
      × ReadAlike (combined_value (lines_on Header context.message) n) (combined_value (lines_on Header (reformed side fewer)) n)
  header_alike Trailer fewer n strict = (refl, read_alike (combined_value (lines_on Header context.message) n) (combined_value (lines_on Header context.message) n) refl)
  header_alike Header fewer n strict = elim (cases_Bool (bytes_eq n name)) [
    | inl same ↦
        let is : n ≡ name = (bytes_eq-Decides n name).0 same in
        subst (λ (m : List ℕ). (is_there fewer m ≡ is_there context.message.head.lines m) × ReadAlike (combined_value context.message.head.lines m) (combined_value fewer m)) (sym is) (
          field_is Header fewer strict ∙ sym (field_was Header fewer strict),
          subst (λ (t : List ℕ). ReadAlike (combined_value context.message.head.lines name) t) (sym (strict_combined known name context.message.head.lines fewer strict))
              (strict_alike known (combined_value context.message.head.lines name) strict.text strict.reads),
        )
    | inr other ↦
        let apart : n ≢ name = λ is. false≢true (sym other ∙ (bytes_eq-Decides n name).1 is) in
        let kept = others_kept Header Header fewer n strict (λ _. apart) in
        let field = field_of_values context.message.head.lines fewer n kept in
        (field.there, read_alike (combined_value context.message.head.lines n) (combined_value fewer n) field.combined)
  ]

  member_kept : (side : Side) (fewer : List FieldLine) (n label : List ℕ) (member : Member) → IsReformed side fewer → HasMember context.message n label member
      → HasMember (reformed side fewer) n label member
  member_kept side fewer n label member strict has =
      let alike = header_alike side fewer n strict in
      record {
        dict = has.dict;
        has = record { there = alike.0 ∙ has.has.there; reads = (alike.1 has.dict).0 has.has.reads };
        member_is = has.member_is;
      }

  signature_kept : (side : Side) (fewer : List FieldLine) (label : List ℕ) (params : SigParams) (tag : List ℕ) → IsReformed side fewer → HasSignature context.message label params tag
      → HasSignature (reformed side fewer) label params tag
  signature_kept side fewer label params tag strict has = record {
    input = member_kept side fewer input_name label _ strict has.input;
    are = has.are;
    member = has.member;
    signature = member_kept side fewer signature_name label has.member strict has.signature;
    tag_is = has.tag_is;
  }

  -- ---- components

  -- the field itself, in its strict form or a member of it
  read_kept : (side : Side) (fewer : List FieldLine) (id : ComponentId) → IsReformed side fewer → is_own_field id ≡ true → id.name ≡ name → side_of id.params ≡ side
      → is_identifier (item_of id) ≡ true → (has_param id.params (codes "sf") || has_param id.params (codes "key")) ≡ true → ComesToSame context (reformed side fewer) id
  read_kept side fewer id strict own named on identifier reads =
      let form = has_form_of_reading id identifier reads in
      field_row_kept context (reformed side fewer) id own (λ result.
      let rows : FieldRow id.params known (lines_on side context.message) name result ↔ FieldRow id.params known fewer name result =
      depends_on_its_reading id.params known name strict.text (lines_on side context.message) fewer result form.0 form.1 reads strict.reads
      (strict_combined known name (lines_on side context.message) fewer strict) (field_was side fewer strict) (field_is side fewer strict) in
      rw (named, on, there_now side fewer strict) rows)

  field_kept : (side : Side) (fewer : List FieldLine) (params : SigParams) (k : ℕ) (d : ComponentId) → IsReformed side fewer → covers_unread side name params ≡ false → k < length params.ids
      → is_identifier (item_of (get_or params.ids k d)) ≡ true → is_own_field (get_or params.ids k d) ≡ true → ComesToSame context (reformed side fewer) (get_or params.ids k d)
  field_kept side fewer params k d strict none lt identifier own =
      let id = get_or params.ids k d in
      elim (cases_Bool (is_field_on side name id)) [
        | inl on ↦
            let parts = and_parts (is_on side id) (bytes_eq id.name name) (and_parts (is_own_field id) (is_on side id && bytes_eq id.name name) on).1 in
            let reads : (has_param id.params (codes "sf") || has_param id.params (codes "key")) ≡ true = elim (cases_Bool (has_param id.params (codes "sf") || has_param id.params (codes "key"))) [
              | inl is ↦ is
              | inr unread ↦ absurd (false≢true (sym none ∙ list_any_at (is_unread_on side name) params.ids k d lt (both_true on (rw unread refl))))
            ] in
            read_kept side fewer id strict own ((bytes_eq-Decides id.name name).0 parts.1) (side_is side id parts.0) identifier reads
        | inr off ↦
            let apart : side_of id.params ≡ side → id.name ≢ name = λ same is. false≢true (sym off ∙ (ap (λ (s : Side). is_field_on s name id) (sym same)
            ∙ (ap (λ (n : List ℕ). is_field_on (side_of id.params) n id) (sym is) ∙ own_field id own))) in
            field_as_well context (reformed side fewer) id own (others_kept side (side_of id.params) fewer id.name strict apart)
      ]

  reformed_alike : (side : Side) (fewer : List FieldLine) (label : List ℕ) (params : SigParams) (tag : List ℕ) → IsReformed side fewer → HasSignature context.message label params tag
      → is_listed counted_names name ≡ false → covers_unread side name params ≡ false → IsAlikeForLabel context label params tag (reformed side fewer)
  reformed_alike side fewer label params tag strict has counted none =
      let start = start_kept (answers_head context.related) side context.message fewer in
      let kind_is : is_request (reformed side fewer).head.start ≡ is_request context.message.head.start = ap is_request start in
      let hosts = (others_kept side Header fewer (codes "host") strict (λ same is. false≢true (sym counted ∙ ap (is_listed counted_names) (sym is)))).same in
      record {
        kind = kind_is;
        content = content_kept (answers_head context.related) side context.message fewer;
        signature = signature_kept side fewer label params tag strict has;
        components = come_to_same context (reformed side fewer) params.ids kind_is
            (λ k d lt own. field_kept side fewer params k d strict none lt (all_at (λ (id : ComponentId). is_identifier (item_of id)) params.ids k d lt has.are.each) own)
            (λ k d lt own derived. derived_as_well context (reformed side fewer) (get_or params.ids k d) start hosts derived);
        digests = λ covered. (header_alike side fewer digest_name strict).1;
      }

pub resf_alike : (side : Side) (name : List ℕ) → IsAlikeAfter (Resf side name)
resf_alike side name context label params tag made writable has_values has gives may =
    let is = gives.makes in
    subst (λ (m : Message). IsAlikeForLabel context label params tag m) (sym is.made_is)
    (reformed_alike context name side is.lines label params tag is.change has may.0 may.1)
