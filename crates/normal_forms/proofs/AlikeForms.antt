-- Normal messages of one basis are alike exactly where the messages agree on each component that is covered.
use Rattle.std.proofs.Common.{◌≡◌, ◌<◌, ℕ, Bool, true, false, ◌&&◌, Option, Some, None, List, [], ◌∷◌, ◌++◌, length, get_or, codes, refl, sym, subst, ap, ◌∙◌, inl, inr}
use Rattle.std.specs.Cmp.Derive.{both_true}
use Rattle.std.specs.List.{All}
use Rattle.std.specs.Prelude.{filter, option_map, unwrap_or, if◌then◌else◌}
use Rattle.std.specs.Str.{bytes_eq}
use Rattle.std.proofs.lemmas.Bool.{and_parts, cases_Bool, false≢true, not-true, or_cases, or_right}
use Rattle.std.proofs.lemmas.List.Elements.{All-nil}
use Rattle.std.proofs.lemmas.List.Folds.{Any-from_list_any, list_any_at}
use Rattle.std.proofs.lemmas.Slice.Eq.{bytes_eq-Decides}
use Rattle.sfv_text.specs.declared.pair.Pair.{Pair}
use Rattle.sfv_text.specs.declared.value.BareItem.{BareItem}
use Rattle.msg_head.specs.Heads.{Head}
use Rattle.msg_head.specs.Lines.{FieldLine, IsLine}
use Rattle.msg_head.specs.Names.{has_name}
use Rattle.msg_head.specs.Starts.{StartLine}
use Rattle.msg_head.specs.declared.error.Side.{Side}
use Rattle.msg_head.specs.declared.error.Side.TheVariants.{Header, Trailer}
use Rattle.framing.specs.Chunks.{Chunks}
use Rattle.framing.specs.declared.kind.Framing.{Framing}
use Rattle.framing.specs.declared.kind.Framing.TheVariants as framing
use Rattle.framing.specs.Framings.{content_length_of, framing_by, framing_of, has_codings, has_lengths}
use Rattle.msg_body.specs.Bodies.{Body, plain, chunked, IsBodyOf, content_in, trailers_in}
use Rattle.msg_body.specs.Messages.{Message, IsMessage}
use Rattle.msg_body.specs.Views.{lines_on}
use Rattle.msg_body.specs.SameFields.{HasSameField, HasSameValues}
use Rattle.component_ids.specs.Table.{has_param, is_listed}
use Rattle.component_ids.specs.declared.id.ComponentId.{ComponentId}
use Rattle.component_ids.specs.declared.params.SigParams.{SigParams}
use Rattle.component_values.specs.Alike.{AreSameIn, is_own_field}
use Rattle.component_values.specs.Forms.{Form, form_of, member_key}
use Rattle.component_values.specs.Forms as form
use Rattle.component_values.specs.Values.{side_of}
use Rattle.signatures.specs.Signatures.{HasSignature, input_name, signature_name}
use Rattle.signatures.proofs.SameFields.{have_same_signature}
use Rattle.rewrite_script.specs.declared.rewrite.Rewrite.{Rewrite}
use Rattle.line_rewrites.specs.Covered.{covers_field, covers_lines, is_field_on, is_on, is_wrapped_on}
use Rattle.line_rewrites.specs.Permitted.{counted_names, framing_names, kept_names}
use Rattle.line_rewrites.specs.Steps.{with_trailers}
use Rattle.normal_forms.specs.Agreement.{AgreeOn, AreOfOneBasis}
use Rattle.normal_forms.specs.Laws.{AreAlikeWhereAgreed}
use Rattle.normal_forms.specs.NormalLines.{AreNormalLines, is_kept}
use Rattle.normal_forms.specs.NormalMessages.{AreAlike, normal_chunks}
use Rattle.normal_forms.specs.Steps.{HasNormalSteps, normal_message, with_normal_chunks}
use Rattle.normal_forms.specs.declared.basis.Basis.TheVariants.{Content, Field, StartLine as BasisStart}
use Rattle.normal_forms.specs.declared.basis.FixedName.TheVariants.{Host, ContentLength, TransferEncoding, Signature, SignatureInput}
use Rattle.normal_forms.proofs.LineKeeps.{KeepsLines, keeps_itself}
use Rattle.normal_forms.proofs.NormalLists.{makes_keep, makes_normal}
use Rattle.normal_forms.proofs.AlikeLists.{as_field, field_around, field_between, lines_by_field, lines_by_values, lines_gone, of_lines, of_values, values_around, values_between}

-- ---- what messages of one basis have in common

module _ (message other : Message) (basis : AreOfOneBasis message other) (side : Side) where
  counted_same : (name : List ℕ) → is_listed counted_names name ≡ true → HasSameValues (lines_on side message) (lines_on side other) name
  counted_same name listed =
      let here = λ (n : List ℕ). HasSameValues (lines_on side message) (lines_on side other) n in
      elim (or_cases (bytes_eq name (codes "host")) (is_listed framing_names name) listed) [
        | inl is ↦ subst here (sym ((bytes_eq-Decides name (codes "host")).0 is))
            (of_values (lines_on side message) (lines_on side other) (codes "host") (basis (Field side Host)))
        | inr more ↦ elim (or_cases (bytes_eq name (codes "content-length")) (is_listed (codes "transfer-encoding" ∷ []) name) more) [
          | inl is ↦ subst here (sym ((bytes_eq-Decides name (codes "content-length")).0 is))
              (of_values (lines_on side message) (lines_on side other) (codes "content-length") (basis (Field side ContentLength)))
          | inr last ↦ elim (or_cases (bytes_eq name (codes "transfer-encoding")) false last) [
            | inl is ↦ subst here (sym ((bytes_eq-Decides name (codes "transfer-encoding")).0 is))
                (of_values (lines_on side message) (lines_on side other) (codes "transfer-encoding") (basis (Field side TransferEncoding)))
            | inr none ↦ absurd (false≢true none)
          ]
        ]
      ]

  kept_same : (name : List ℕ) → is_listed kept_names name ≡ true → HasSameField (lines_on side message) (lines_on side other) name
  kept_same name listed =
      let here = λ (n : List ℕ). HasSameField (lines_on side message) (lines_on side other) n in
      elim (or_cases (bytes_eq name signature_name) (is_listed (input_name ∷ counted_names) name) listed) [
        | inl is ↦ subst here (sym ((bytes_eq-Decides name signature_name).0 is)) (basis (Field side Signature))
        | inr more ↦ elim (or_cases (bytes_eq name input_name) (is_listed counted_names name) more) [
          | inl is ↦ subst here (sym ((bytes_eq-Decides name input_name).0 is)) (basis (Field side SignatureInput))
          | inr counted ↦ as_field (lines_on side message) (lines_on side other) name (counted_same name counted)
        ]
      ]

-- of a label they have the same signature
pub same_signature : (message other : Message) (label : List ℕ) (params : SigParams) (tag : List ℕ) → AreOfOneBasis message other
    → HasSignature message label params tag → HasSignature other label params tag
same_signature message other label params tag basis has =
    (have_same_signature message other label params tag (record { input = basis (Field Header SignatureInput); signature = basis (Field Header Signature) })).0 has

-- ---- components and their forms

-- the component's lines are those of the side
side_is : (side : Side) (id : ComponentId) → is_on side id ≡ true → side_of id.params ≡ side
side_is Header id on = let none : has_param id.params (codes "tr") ≡ false = not-true (has_param id.params (codes "tr")) on in rw none refl
side_is Trailer id on = rw on refl

on_its_side : (id : ComponentId) → is_on (side_of id.params) id ≡ true
on_its_side id = elim (cases_Bool (has_param id.params (codes "tr"))) [
  | inl trailer ↦ rw trailer trailer
  | inr header ↦ rw header (rw header refl)
]

module _ (lines others : List FieldLine) (name : List ℕ) where
  field_of_form : (kind : Form) → AreSameIn kind lines others name → HasSameField lines others name
  field_of_form form.wrapped same = as_field lines others name same
  field_of_form (form.member key) same = same
  field_of_form form.strict same = same
  field_of_form form.plain same = same

  pub values_of_form : (params : List (Pair BareItem)) → has_param params (codes "bs") ≡ true → AreSameIn (form_of params) lines others name → HasSameValues lines others name
  values_of_form params wrapped same =
      let is : form_of params ≡ form.wrapped = rw wrapped refl in
      subst (λ (kind : Form). AreSameIn kind lines others name) is same

  module _ (field : HasSameField lines others name) where
    same_by_form : (bs : Bool) (key : Option (List ℕ)) (sf : Bool) → (bs ≡ true → HasSameValues lines others name)
        → AreSameIn (if bs then form.wrapped else unwrap_or (option_map form.member key) (if sf then form.strict else form.plain)) lines others name
    same_by_form true key sf by_line = by_line refl
    same_by_form false (Some key) sf by_line = field
    same_by_form false None true by_line = field
    same_by_form false None false by_line = field

    pub same_in_form : (params : List (Pair BareItem)) → (has_param params (codes "bs") ≡ true → HasSameValues lines others name) → AreSameIn (form_of params) lines others name
    same_in_form params by_line = same_by_form (has_param params (codes "bs")) (member_key params) (has_param params (codes "sf")) by_line

-- ---- what messages that agree have in common

module _ (message other : Message) (side : Side) (params : SigParams) where
  id_same : (name : List ℕ) (id : ComponentId) → is_field_on side name id ≡ true → AgreeOn message other id → AreSameIn (form_of id.params) (lines_on side message) (lines_on side other) name
  id_same name id is agree =
      let parts = and_parts (is_own_field id) (is_on side id && bytes_eq id.name name) is in
      let on = and_parts (is_on side id) (bytes_eq id.name name) parts.1 in
      let there = subst (λ (s : Side). AreSameIn (form_of id.params) (lines_on s message) (lines_on s other) id.name) (side_is side id on.0) (agree parts.0) in
      subst (λ (n : List ℕ). AreSameIn (form_of id.params) (lines_on side message) (lines_on side other) n) ((bytes_eq-Decides id.name name).0 on.1) there

  module _ (agree : All (AgreeOn message other) params.ids) where
    field_same : (name : List ℕ) → covers_field side name params ≡ true → HasSameField (lines_on side message) (lines_on side other) name
    field_same name covered =
        let at = Any-from_list_any (is_field_on side name) params.ids covered in
        let here = subst (AgreeOn message other) at.3 (agree at.0 at.1 at.2) in
        field_of_form (lines_on side message) (lines_on side other) name (form_of at.1.params) (id_same name at.1 at.4 here)

    lines_same : (name : List ℕ) → covers_lines side name params ≡ true → HasSameValues (lines_on side message) (lines_on side other) name
    lines_same name covered =
        let at = Any-from_list_any (is_wrapped_on side name) params.ids covered in
        let here = subst (AgreeOn message other) at.3 (agree at.0 at.1 at.2) in
        let both = and_parts (is_field_on side name at.1) (has_param at.1.params (codes "bs")) at.4 in
        values_of_form (lines_on side message) (lines_on side other) name at.1.params both.1 (id_same name at.1 both.0 here)

-- ---- a side of two normal messages

-- the message's lines on the side are normal, and keep what the other message's are
record IsMade (side : Side) (params : SigParams) (message normal : Message) : Type 0 where
  pub normal_lines : AreNormalLines side params (lines_on side normal)
  pub keeps : KeepsLines side params (lines_on side message) (lines_on side normal)

module _ (params : SigParams) (message other normal another : Message) (basis : AreOfOneBasis message other) where
  module _ (side : Side) (made : IsMade side params message normal) (other_made : IsMade side params other another) where
    -- names of which the values are the same in both messages, and those of which the combined value is
    module _ (name : List ℕ) where
      as_values : HasSameValues (lines_on side message) (lines_on side normal) name → HasSameValues (lines_on side other) (lines_on side another) name
          → HasSameValues (lines_on side message) (lines_on side other) name → filter (has_name name) (lines_on side another) ≡ filter (has_name name) (lines_on side normal)
      as_values one two same =
          lines_by_values side params (lines_on side normal) (lines_on side another) name made.normal_lines other_made.normal_lines
          (values_between (lines_on side message) (lines_on side normal) (lines_on side other) (lines_on side another) name one two same)

    counted_values : (name : List ℕ) → is_listed counted_names name ≡ true → HasSameValues (lines_on side normal) (lines_on side another) name
    counted_values name counted =
        values_between (lines_on side message) (lines_on side normal) (lines_on side other) (lines_on side another) name
        (made.keeps.counted name counted) (other_made.keeps.counted name counted) (counted_same message other basis side name counted)

    module _ (agree : All (AgreeOn message other) params.ids) where
      kept_field : (name : List ℕ) → is_kept side params name ≡ true → HasSameField (lines_on side message) (lines_on side other) name
      kept_field name kept = elim (or_cases (is_listed kept_names name) (covers_field side name params) kept) [
        | inl listed ↦ kept_same message other basis side name listed
        | inr covered ↦ field_same message other side params agree name covered
      ]

      lines_alike : (name : List ℕ) → filter (has_name name) (lines_on side another) ≡ filter (has_name name) (lines_on side normal)
      lines_alike name = elim (cases_Bool (is_kept side params name)) [
        | inr goes ↦ lines_gone side params (lines_on side normal) (lines_on side another) name made.normal_lines other_made.normal_lines goes
        | inl kept ↦ elim (cases_Bool (is_listed counted_names name)) [
          | inl counted ↦ as_values name (made.keeps.counted name counted) (other_made.keeps.counted name counted) (counted_same message other basis side name counted)
          | inr uncounted ↦ elim (cases_Bool (covers_lines side name params)) [
            | inl covered ↦ as_values name (made.keeps.wrapped name covered) (other_made.keeps.wrapped name covered) (lines_same message other side params agree name covered)
            | inr uncovered ↦
                lines_by_field side params (lines_on side normal) (lines_on side another) name made.normal_lines other_made.normal_lines
                (record { counted = uncounted; covered = uncovered })
                (field_between (lines_on side message) (lines_on side normal) (lines_on side other) (lines_on side another) name
                (made.keeps.fields name kept) (other_made.keeps.fields name kept) (kept_field name kept))
          ]
        ]
      ]

  -- ---- messages that are alike agree

  module _ (made : (side : Side) → IsMade side params message normal) (other_made : (side : Side) → IsMade side params other another) where
    agree_on : AreAlike normal another → (k : ℕ) (d : ComponentId) → k < length params.ids → AgreeOn message other (get_or params.ids k d)
    agree_on alike k d lt own =
        let id = get_or params.ids k d in
        let side = side_of id.params in
        let on : is_field_on side id.name id ≡ true = both_true own (both_true (on_its_side id) ((bytes_eq-Decides id.name id.name).1 refl)) in
        let covered : covers_field side id.name params ≡ true = list_any_at (is_field_on side id.name) params.ids k d lt on in
        let kept : is_kept side params id.name ≡ true = or_right (is_listed kept_names id.name) (covers_field side id.name params) covered in
        let same = of_lines (lines_on side normal) (lines_on side another) id.name (alike.lines side id.name) in
        let field = field_around (lines_on side message) (lines_on side normal) (lines_on side other) (lines_on side another) id.name
        ((made side).keeps.fields id.name kept) ((other_made side).keeps.fields id.name kept) (as_field (lines_on side normal) (lines_on side another) id.name same) in
        same_in_form (lines_on side message) (lines_on side other) id.name field id.params
        (λ wrapped.
        let by_line : covers_lines side id.name params ≡ true = list_any_at (is_wrapped_on side id.name) params.ids k d lt (both_true on wrapped) in
        values_around (lines_on side message) (lines_on side normal) (lines_on side other) (lines_on side another) id.name
        ((made side).keeps.wrapped id.name by_line) ((other_made side).keeps.wrapped id.name by_line) same)

-- ---- bodies

not_both : (kind : Framing) (count size : ℕ) (content : List ℕ) (chunks : Chunks) (trailers : List FieldLine) → IsBodyOf kind count (plain content)
    → IsBodyOf kind size (chunked chunks trailers) → ⊥
not_both framing.None count size content chunks trailers one other = other
not_both framing.Length count size content chunks trailers one other = other
not_both framing.ToEnd count size content chunks trailers one other = other
not_both framing.Chunked count size content chunks trailers one other = one

body_alike : (kind : Framing) (count size : ℕ) (one other : Body) (lines others : List FieldLine) → IsBodyOf kind count one → IsBodyOf kind size other → content_in other ≡ content_in one
    → with_trailers [] (with_normal_chunks (with_trailers others other)) ≡ with_trailers [] (with_normal_chunks (with_trailers lines one))
body_alike kind count size (plain content) (plain text) lines others is also same = ap (λ (t : List ℕ). plain t) same
body_alike kind count size (chunked chunks trailers) (chunked some more) lines others is also same = ap (λ (t : List ℕ). chunked (normal_chunks t) []) same
body_alike kind count size (plain content) (chunked chunks trailers) lines others is also same = absurd (not_both kind count size content chunks trailers is also)
body_alike kind count size (chunked chunks trailers) (plain content) lines others is also same = absurd (not_both kind size count content chunks trailers also is)

-- a body that isn't in chunks has no trailer section, and normal lines of it are none
none_normal : (params : SigParams) → AreNormalLines Trailer params []
none_normal params = record { kept = All-nil _; clean = All-nil _; joined = λ before line after are may there. absurd (not_empty before line after are) }
  where
    not_empty : (before : List FieldLine) (line : FieldLine) (after : List FieldLine) → [] ≡ before ++ line ∷ after → ⊥
    not_empty [] line after are = absurd cc
    not_empty (first ∷ before) line after are = absurd cc

none_keeps : (params : SigParams) → KeepsLines Trailer params [] []
none_keeps params = keeps_itself Trailer params [] (All-nil IsLine)

-- ---- normal messages

pub lines_of_body : (kind : Framing) (count : ℕ) (body : Body) → IsBodyOf kind count body → All IsLine (trailers_in body)
lines_of_body kind count (plain content) is = All-nil IsLine
lines_of_body framing.Chunked count (chunked chunks trailers) is = is.1.each
lines_of_body framing.None count (chunked chunks trailers) is = absurd is
lines_of_body framing.Length count (chunked chunks trailers) is = absurd is
lines_of_body framing.ToEnd count (chunked chunks trailers) is = absurd is

made_trailer : (params : SigParams) (body : Body) (trailer : List FieldLine) → AreNormalLines Trailer params trailer × KeepsLines Trailer params (trailers_in body) trailer
    → AreNormalLines Trailer params (trailers_in (with_normal_chunks (with_trailers trailer body)))
    × KeepsLines Trailer params (trailers_in body) (trailers_in (with_normal_chunks (with_trailers trailer body)))
made_trailer params (plain content) trailer made = (none_normal params, none_keeps params)
made_trailer params (chunked chunks trailers) trailer made = made

made_side : (to_head : Bool) (params : SigParams) (message : Message) (steps : List Rewrite) (normal : Message) → IsMessage to_head message
    → HasNormalSteps to_head params message steps normal → (side : Side) → IsMade side params message normal
made_side to_head params message steps normal is has side = subst (λ (m : Message). IsMade side params message m) (sym has.normal_is) (on side)
  where
    on : (side : Side) → IsMade side params message (normal_message to_head message has.header has.trailer)
    on Header =
        record {
          normal_lines = makes_normal Header params message.head.lines has.header_steps has.header has.header_made;
          keeps = makes_keep Header params message.head.lines has.header_steps has.header is.head.lines has.header_made;
        }
    on Trailer =
        let lines = lines_of_body message.framing (content_length_of message.head) message.body is.body in
        let normal_lines = makes_normal Trailer params (trailers_in message.body) has.trailer_steps has.trailer has.trailer_made in
        let keeps = makes_keep Trailer params (trailers_in message.body) has.trailer_steps has.trailer lines has.trailer_made in
        let both = made_trailer params message.body has.trailer (normal_lines, keeps) in
        record { normal_lines = both.0; keeps = both.1 }

-- heads with one start line that have the same of the fields that frame are framed the same
framing_same : (to_head : Bool) (one other : Head) → other.start ≡ one.start → has_codings other ≡ has_codings one → has_lengths other ≡ has_lengths one
    → framing_of to_head other ≡ framing_of to_head one
framing_same to_head one other start codings lengths =
    ap (λ (s : StartLine). framing_by to_head s (has_codings other) (has_lengths other)) start
    ∙ (ap (λ (b : Bool). framing_by to_head one.start b (has_lengths other)) codings ∙ ap (λ (b : Bool). framing_by to_head one.start (has_codings one) b) lengths)

alike_framing : (to_head : Bool) (message other : Message) → IsMessage to_head message → IsMessage to_head other → AreOfOneBasis message other → other.framing ≡ message.framing
alike_framing to_head message other is also basis =
    also.framing
    ∙ (framing_same to_head message.head other.head (basis BasisStart) (counted_same message other basis Header (codes "transfer-encoding") refl).there
    (counted_same message other basis Header (codes "content-length") refl).there
    ∙ sym is.framing)

pub alike_where_agreed : AreAlikeWhereAgreed
alike_where_agreed to_head params message other steps others normal another is also basis one two =
    let made = made_side to_head params message steps normal is one in
    let other_made = made_side to_head params other others another also two in
    let counted = counted_values params message other normal another basis Header (made Header) (other_made Header) in
    let heads : another.head.start ≡ normal.head.start = ap (λ (m : Message). m.head.start) two.normal_is ∙ (basis BasisStart ∙ sym (ap (λ (m : Message). m.head.start) one.normal_is)) in
    let framed = λ (m : Message). λ (header trailer : List FieldLine). λ (n : Message). λ (e : n ≡ normal_message to_head m header trailer).
    subst (λ (k : Message). k.framing ≡ framing_of to_head k.head) (sym e) refl in
    let body = body_alike message.framing (content_length_of message.head) (content_length_of other.head) message.body other.body one.trailer two.trailer is.body
    (subst (λ (f : Framing). IsBodyOf f (content_length_of other.head) other.body) (alike_framing to_head message other is also basis) also.body) (basis Content) in (
      λ alike. agree_on params message other normal another basis made other_made alike,
      λ agree. record {
        start = heads;
        framing = framed other two.header two.trailer another two.normal_is
            ∙ (framing_same to_head normal.head another.head heads (counted (codes "transfer-encoding") refl).there (counted (codes "content-length") refl).there
            ∙ sym (framed message one.header one.trailer normal one.normal_is));
        body = ap (λ (m : Message). with_trailers [] m.body) two.normal_is ∙ (body ∙ sym (ap (λ (m : Message). with_trailers [] m.body) one.normal_is));
        lines = λ side. lines_alike params message other normal another basis side (made side) (other_made side) agree;
      },
    )
