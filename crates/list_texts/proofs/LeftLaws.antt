-- The causes of faults from the left.
use Rattle.std.proofs.Common.{◌≡◌, ◌+◌, ℕ, List, [], ◌∷◌, ◌++◌, length, take, drop, replicate, inl, inr, sym, ap, subst, ◌∙◌, append_assoc, arith, codes}
use Rattle.std.proofs.lemmas.List.{append-nil, length-append, take-append-drop, take-append-le}
use Rattle.std.proofs.lemmas.List.Elements.{All-nil, All-push}
use Rattle.std.proofs.lemmas.Bool.{cases_lt}
use Rattle.std.proofs.lemmas.Grind.{flat_map-append}
use Rattle.std.specs.List.{All, flat_map}
use Rattle.byte_grammar.specs.Language.{Begins}
use Rattle.byte_grammar.specs.Numbers.{IsNumber, number_line}
use Rattle.byte_grammar.proofs.OffsetLaws.{begins_shorter}
use Rattle.list_texts.specs.declared.list.Field.{Field}
use Rattle.list_texts.specs.declared.list.FieldList.{FieldList}
use Rattle.list_texts.specs.Causes.{IsLongField, IsLongContent, IsLongAfterFields, IsLongAfterContent}
use Rattle.list_texts.specs.Laws.{FormFaultIsAfter}
use Rattle.list_texts.specs.Lists.{numbers_line, field_text, content_text, fields_text, list_text, IsCountable, HasForm}
use Rattle.list_texts.proofs.FormLaws.{pair_of, list_of, zeros_size}
use Rattle.list_texts.proofs.LongLaws.{IsLong, all_countable}

-- ---- one more field

text_snoc : (word : List ℕ) (fs : List Field) (f : Field) → flat_map (field_text word) (fs ++ f ∷ []) ≡ flat_map (field_text word) fs ++ field_text word f
text_snoc word fs f = flat_map-append (field_text word) fs (f ∷ []) ∙ ap (λ (y : List ℕ). flat_map (field_text word) fs ++ y) (append-nil (field_text word f))

-- a field whose text begins with the line
record Begun (word line : List ℕ) : Type 0 where
  field : Field
  countable : IsCountable field
  more : List ℕ
  parts : field_text word field ≡ line ++ more

zeros : ℕ → List ℕ
zeros n = replicate n 0

begun : (word line : List ℕ) → IsLongField word line → Begun word line
unfolding zeros
begun word line l =
    let f = pair_of (zeros l.name) (zeros l.value) in
    let more : List ℕ = f.name ++ (f.value ++ codes "\n") in
    let name : length f.name ≡ l.name = zeros_size l.name in
    let value : length f.value ≡ l.value = zeros_size l.value in
    record {
      field = f;
      countable = record { name = subst IsNumber (sym name) l.name_number; value = subst IsNumber (sym value) l.value_number };
      more = more;
      parts = (λ i. numbers_line word (name i) (value i) ++ more) ∙ ap (λ (y : List ℕ). y ++ more) (sym l.is);
    }

-- ---- what begins a text of the form

begins : (front rest : List ℕ) (l : FieldList) → All IsCountable l.fields → IsNumber (length l.content) → All IsCountable l.trailers → front ++ rest ≡ list_text l → Begins HasForm front
begins front rest l fields content trailers e = (rest, l, record { fields = fields; content = content; trailers = trailers; joined = e })

-- a line of a field after fields
after_fields : (f l t c e g : List ℕ) → g ≡ f ++ (l ++ t) → (f ++ l) ++ (t ++ (c ++ e)) ≡ (g ++ c) ++ e
after_fields f l t c e g same = cc (same, append_assoc f l (t ++ (c ++ e)), append_assoc l t (c ++ e), append_assoc f (l ++ t) (c ++ e), append_assoc g c e)

-- a line of the content after them
after_line : (f l d e c : List ℕ) → c ≡ l ++ d → (f ++ l) ++ (d ++ e) ≡ (f ++ (c ++ [])) ++ e
after_line f l d e c same = cc (same, append-nil c, append_assoc f l (d ++ e), append_assoc l d e, append_assoc f c e)

-- a line of a trailer field after the content
after_content : (f c r l t e s : List ℕ) → s ≡ r ++ (l ++ t) → ((f ++ (c ++ r)) ++ l) ++ (t ++ e) ≡ (f ++ (c ++ s)) ++ e
after_content f c r l t e s same = cc (
  same,
  append_assoc (f ++ (c ++ r)) l (t ++ e),
  append_assoc f (c ++ r) (l ++ (t ++ e)),
  append_assoc c r (l ++ (t ++ e)),
  append_assoc f (c ++ s) e,
  append_assoc c s e,
  append_assoc r (l ++ t) e,
  append_assoc l t e,
)

-- the text of the field after the text of the fields
snoc_parts : (word line : List ℕ) (fs : List Field) (b : Begun word line) → flat_map (field_text word) (fs ++ b.field ∷ []) ≡ flat_map (field_text word) fs ++ (line ++ b.more)
snoc_parts word line fs b = text_snoc word fs b.field ∙ ap (λ (y : List ℕ). flat_map (field_text word) fs ++ y) b.parts

fields_parts : (line : List ℕ) (fs : List Field) (b : Begun (codes "field ") line) → fields_text (fs ++ b.field ∷ []) ≡ fields_text fs ++ (line ++ b.more)
fields_parts line fs b =
    let word = codes "field " in
    let texts : List ℕ = flat_map (field_text word) fs in
    ap (λ (y : List ℕ). codes "hms-fields 1\n" ++ y) (snoc_parts word line fs b) ∙ sym (append_assoc (codes "hms-fields 1\n") texts (line ++ b.more))

begins_field : (before line : List ℕ) (l : IsLongAfterFields before line) → IsLongField (codes "field ") line → Begins HasForm (before ++ line)
begins_field before line l long =
    let b = begun (codes "field ") line long in
    let list = list_of (l.fields ++ b.field ∷ []) [] [] in
    let rest : List ℕ = content_text [] ++ flat_map (field_text (codes "trailer ")) [] in
    begins (before ++ line) (b.more ++ (rest ++ codes "end\n")) list (All-push IsCountable l.fields b.field (all_countable l.fields l.short) b.countable) (omega arith) (All-nil IsCountable)
    (ap (λ (y : List ℕ). (y ++ line) ++ (b.more ++ (rest ++ codes "end\n"))) l.before_is
    ∙ after_fields (fields_text l.fields) line b.more rest (codes "end\n") (fields_text list.fields) (fields_parts line l.fields b))

begins_content : (before line : List ℕ) (l : IsLongAfterFields before line) → IsLongContent line → Begins HasForm (before ++ line)
unfolding zeros
begins_content before line l long =
    let content : List ℕ = zeros long.size in
    let size : length content ≡ long.size = zeros_size long.size in
    let list = list_of l.fields content [] in
    let parts : content_text content ≡ line ++ (content ++ codes "\n") = ap (λ (n : ℕ). number_line (codes "content ") n ++ (content ++ codes "\n")) size ∙ ap (λ (y : List ℕ). y ++ (content ++ codes "\n")) (sym long.is) in
    begins (before ++ line) ((content ++ codes "\n") ++ codes "end\n") list (all_countable l.fields l.short) (subst IsNumber (sym size) long.number) (All-nil IsCountable)
    (ap (λ (y : List ℕ). (y ++ line) ++ ((content ++ codes "\n") ++ codes "end\n")) l.before_is
    ∙ after_line (fields_text l.fields) line (content ++ codes "\n") (codes "end\n") (content_text content) parts)

begins_trailer : (before line : List ℕ) → IsLongAfterContent before line → Begins HasForm (before ++ line)
begins_trailer before line l =
    let b = begun (codes "trailer ") line l.long in
    let list = l.list in
    let longer = list_of list.fields list.content (list.trailers ++ b.field ∷ []) in
    let number = l.within.content in
    let texts : List ℕ = flat_map (field_text (codes "trailer ")) list.trailers in
    let more : List ℕ = flat_map (field_text (codes "trailer ")) (list.trailers ++ b.field ∷ []) in
    begins (before ++ line) (b.more ++ codes "end\n") longer (all_countable list.fields l.within.fields) (omega (arith, number)) (All-push IsCountable list.trailers b.field (all_countable list.trailers l.within.trailers) b.countable)
    (ap (λ (y : List ℕ). (y ++ line) ++ (b.more ++ codes "end\n")) l.before_is
    ∙ after_content (fields_text list.fields) (content_text list.content) texts line b.more (codes "end\n") more (snoc_parts (codes "trailer ") line list.trailers b))

begins_long : (before line : List ℕ) → IsLong before line → Begins HasForm (before ++ line)
begins_long before line (inr l) = begins_trailer before line l
begins_long before line (inl l) = elim l.long [
  | inl long ↦ begins_field before line l long
  | inr long ↦ begins_content before line l long
]

-- ---- what begins a text of the form ends before its fault

pub form_fault_is_after : FormFaultIsAfter
form_fault_is_after text offset place l f =
    let front : List ℕ = l.before ++ l.line in
    let parts : text ≡ front ++ l.more = l.joined ∙ sym (append_assoc l.before l.line l.more) in
    let size = length-append l.before l.line in
    let start : Begins HasForm front = begins_long l.before l.line l.long in
    elim (cases_lt place (length front)) [
      | inl less ↦
          let cut : take (place + 1) text ≡ take (place + 1) front = ap (λ (y : List ℕ). take (place + 1) y) parts ∙ take-append-le (place + 1) front l.more (omega (arith, less)) in
          let shorter : Begins HasForm (take (place + 1) front) = begins_shorter HasForm (take (place + 1) front) (drop (place + 1) front) (subst (λ (y : List ℕ). Begins HasForm y) (sym (take-append-drop (place + 1) front)) start) in
          absurd (f.last (omega (arith, less, ap (λ (y : List ℕ). length y) parts, length-append front l.more)) (subst (λ (y : List ℕ). Begins HasForm y) (sym cut) shorter))
      | inr more ↦ omega (arith, more, size, l.place)
    ]
