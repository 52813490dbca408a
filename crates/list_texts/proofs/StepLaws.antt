-- The readers of lists of fields that judge limits, beside those of the form.
use Rattle.std.proofs.Common.{not, ltb, ◌||◌, ◌≡◌, ℕ, ◌<◌, ◌≤◌, Bool, true, false, List, ◌∷◌, ◌++◌, length, Some, Result, Ok, refl, sym, ap, subst, ◌∙◌, arith, codes}
use Rattle.std.proofs.lemmas.Bool.{eq-eqb, ltb-false, le-ltb}
use Rattle.std.specs.List.{All}
use Rattle.byte_grammar.specs.Language.{starts_in}
use Rattle.byte_grammar.specs.Numbers.{number_line}
use Rattle.byte_grammar.specs.Walk.{◌>>=◌}
use Rattle.byte_grammar.specs.tools.CountedTexts.{Anything, IsLiteral}
use Rattle.byte_grammar.specs.tools.CountedWalk.{is_end, literal_read, counted_read}
use Rattle.byte_grammar.specs.tools.Languages.{Optional}
use Rattle.byte_grammar.specs.tools.Walks.{Next, optional_read}
use Rattle.byte_grammar.proofs.ChoiceLaws.{meets_optional, optional_follow}
use Rattle.byte_grammar.proofs.CountedLaws.{meets_counted}
use Rattle.byte_grammar.proofs.Laws.{Meets, any_next, bind_ok}
use Rattle.byte_grammar.proofs.LiteralLaws.{meets_literal}
use Rattle.byte_grammar.proofs.TurnLaws.{starts_length}
use Rattle.framing.specs.declared.chunk_limits.TheConstants.{MAX_CONTENT_BYTES}
use Rattle.list_texts.specs.declared.limits.TheConstants.{MAX_FIELD_BYTES}
use Rattle.list_texts.specs.declared.list.Field.{Field}
use Rattle.list_texts.specs.declared.list.FieldList.{FieldList}
use Rattle.list_texts.specs.Lists.{numbers_line, content_text, IsShort, IsWithinLimits}
use Rattle.list_texts.specs.tools.FieldTexts.{IsSizes, IsFieldText, AreFields, IsSize, IsContentText, IsBeginText}
use Rattle.list_texts.specs.tools.FieldWalk.{pair_read, field_read, fields_read, begin_read, content_read, end_read, form_read, is_long_pair, is_long_content, field_step, next_step, fields_step, begin_step, content_step, end_step, form_step, ◌>>-◌}
use Rattle.list_texts.proofs.Checks.{Checks, Any, NoLine, GoodOption, Further, LongLine, LongEach, LongThen, in_first, in_second, checks_lifted, checks_judged, checks_optional, checks_each, checks_then, checks_map}
use Rattle.list_texts.proofs.FormLaws.{meets_sizes, meets_pair, meets_field, field_starts, meets_fields, meets_begin, meets_size, meets_content, list_of}

-- ---- a field

none_of : (a b : Bool) → (a || b) ≡ false → (a ≡ false) × (b ≡ false)
none_of true b e = absurd cc
none_of false b e = (refl, e)

pub short_pair : (s : ℕ × ℕ) → is_long_pair s ≡ false → (s.0 ≤ MAX_FIELD_BYTES) × (s.1 ≤ MAX_FIELD_BYTES)
short_pair s e = let n = none_of (ltb MAX_FIELD_BYTES s.0) (ltb MAX_FIELD_BYTES s.1) e in (ltb-false _ _ n.0, ltb-false _ _ n.1)

pub pair_short : (s : ℕ × ℕ) → s.0 ≤ MAX_FIELD_BYTES → s.1 ≤ MAX_FIELD_BYTES → is_long_pair s ≡ false
pair_short s a b = rw (le-ltb MAX_FIELD_BYTES s.0 a, le-ltb MAX_FIELD_BYTES s.1 b) refl

-- a line that says too many bytes of a name or of a value
abbrev pub LongField : List ℕ → List ℕ → List ℕ → Type 0
LongField word = LongLine (IsSizes word) is_long_pair

pub checks_field : (word : List ℕ) → Checks IsShort (LongField word) (field_read word) (field_step word)
unfolding field_read field_step
checks_field word = checks_judged (meets_sizes word) is_long_pair (λ s. pair_read s.0 s.1) IsShort good back
  where
    good : (s : ℕ × ℕ) (bytes : List ℕ) (f : Field) (after : List ℕ) → pair_read s.0 s.1 bytes ≡ Ok (f, after) → is_long_pair s ≡ false → IsShort f
    good s bytes f after e is =
        let p = (meets_pair s.0 s.1).ok bytes f after e in
        let short = short_pair s is in
        record { name = omega (arith, p.2.name_size, short.0); value = omega (arith, p.2.value_size, short.1) }

    back : (s : ℕ × ℕ) (bytes : List ℕ) (f : Field) (after : List ℕ) → pair_read s.0 s.1 bytes ≡ Ok (f, after) → IsShort f → is_long_pair s ≡ false
    back s bytes f after e g =
        let p = (meets_pair s.0 s.1).ok bytes f after e in
        pair_short s (omega (arith, p.2.name_size, g.name)) (omega (arith, p.2.value_size, g.value))

-- ---- fields

-- it begins with the first byte of the word
line_starts : (first : ℕ) (others front line more : List ℕ) → LongField (first ∷ others) front line → starts_in (is_end first) (front ++ (line ++ more)) ≡ true
line_starts first others front line more l =
    let same : front ++ (line ++ more) ≡ numbers_line (first ∷ others) l.1.0 l.1.1 ++ more = ap (λ (y : List ℕ). y ++ (line ++ more)) l.0 ∙ ap (λ (y : List ℕ). y ++ more) l.2.is in
    subst (λ (y : List ℕ). starts_in (is_end first) y ≡ true) (sym same) (eq-eqb first first refl)

pub checks_next : (first : ℕ) (others : List ℕ) → Checks (GoodOption IsShort) (LongField (first ∷ others)) (optional_read (is_end first) (field_read (first ∷ others))) (next_step first (first ∷ others))
unfolding next_step
checks_next first others = checks_optional (is_end first) (checks_field (first ∷ others)) (λ front line more l. line_starts first others front line more l)

pub meets_next : (first : ℕ) (others : List ℕ) → Meets (Optional (IsFieldText (first ∷ others))) (optional_follow (is_end first) Anything) (optional_read (is_end first) (field_read (first ∷ others)))
meets_next first others = meets_optional (is_end first) (meets_field (first ∷ others)) (λ x f h. field_starts first others x f h)

pub next_grows : (first : ℕ) (others : List ℕ) (x : List ℕ) (f : Field) → Optional (IsFieldText (first ∷ others)) x (Some f) → 0 < length x
next_grows first others x f h = starts_length (is_end first) x (field_starts first others x f h)

-- fields, and such a line
abbrev pub LongFields : List ℕ → List ℕ → List ℕ → Type 0
LongFields word = LongEach (Further (Optional (IsFieldText word))) IsShort (LongField word)

pub checks_fields : (first : ℕ) (others : List ℕ) → Checks (All IsShort) (LongFields (first ∷ others)) (fields_read first (first ∷ others)) (fields_step first (first ∷ others))
unfolding fields_read fields_step
checks_fields first others = checks_each (meets_next first others) (λ x f h. next_grows first others x f h) (λ f r. any_next r) (checks_next first others)

-- ---- the parts of a list

abbrev pub LongBegin : List ℕ → List ℕ → Type 0
LongBegin = LongThen (IsLiteral (codes "hms-fields 1\n")) Any NoLine (λ _. LongFields (codes "field "))

pub checks_begin : Checks (All IsShort) LongBegin begin_read begin_step
unfolding begin_read begin_step
checks_begin =
    checks_then (meets_literal (codes "hms-fields 1\n")) (checks_lifted (literal_read (codes "hms-fields 1\n"))) (λ _. checks_fields 102 (codes "ield ")) (All IsShort)
    (λ u bytes v rest e g h. h) (λ u bytes v rest e g. (tt, g)) (λ u y line more l. any_next (y ++ (line ++ more)))

abbrev pub IsShortContent : List ℕ → Type 0
IsShortContent content = length content ≤ MAX_CONTENT_BYTES

abbrev pub LongContent : List ℕ → List ℕ → Type 0
LongContent = LongLine IsSize is_long_content

pub checks_content : Checks IsShortContent LongContent content_read content_step
unfolding content_read content_step
checks_content = checks_judged meets_size is_long_content (λ n. counted_read n) IsShortContent good back
  where
    good : (n : ℕ) (bytes c after : List ℕ) → counted_read n bytes ≡ Ok (c, after) → is_long_content n ≡ false → IsShortContent c
    good n bytes c after e is = let s = (meets_counted n).ok bytes c after e in omega (arith, s.2.1, ltb-false MAX_CONTENT_BYTES n is)

    back : (n : ℕ) (bytes c after : List ℕ) → counted_read n bytes ≡ Ok (c, after) → IsShortContent c → is_long_content n ≡ false
    back n bytes c after e g = let s = (meets_counted n).ok bytes c after e in le-ltb MAX_CONTENT_BYTES n (omega (arith, s.2.1, g))

abbrev pub LongEnd : List ℕ → List ℕ → Type 0
LongEnd = LongThen (AreFields (codes "trailer ")) (All IsShort) (LongFields (codes "trailer ")) (λ _. NoLine)

fields_is : (a b : List Field × List ℕ) → ◌≡◌ {A = Result (List Field × List ℕ) ℕ} (Ok a) (Ok b) → a ≡ b
fields_is a b e = cc

list_is : (a b : FieldList × List ℕ) → ◌≡◌ {A = Result (FieldList × List ℕ) ℕ} (Ok a) (Ok b) → a ≡ b
list_is a b e = cc

-- the last line, after these fields
abbrev last_line : List Field → List ℕ → Result (List Field × List ℕ) ℕ
last_line t bytes = literal_read (codes "end\n") bytes >>= λ e. Ok (t, e.1)

-- it changes no field
same_fields : (t : List Field) (bytes : List ℕ) (v : List Field) (rest : List ℕ) → last_line t bytes ≡ Ok (v, rest) → t ≡ v
same_fields t bytes v rest e =
    let b = bind_ok (literal_read (codes "end\n") bytes) (λ e. Ok (t, e.1)) (v, rest) e in
    ap (λ (a : List Field × List ℕ). a.0) (fields_is _ _ b.2)

pub checks_end : Checks (All IsShort) LongEnd end_read end_step
unfolding end_read end_step
checks_end =
    checks_then (meets_fields 116 (codes "railer ")) (checks_fields 116 (codes "railer ")) (λ t. checks_lifted (last_line t)) (All IsShort)
    (λ t bytes v rest e g h. subst (λ (v : List Field). All IsShort v) (same_fields t bytes v rest e) g)
    (λ t bytes v rest e g. (subst (λ (v : List Field). All IsShort v) (sym (same_fields t bytes v rest e)) g, tt))
    (λ t y line more l. absurd l)

-- ---- the list

abbrev pub LongRest : List ℕ → List ℕ → Type 0
LongRest = LongThen IsContentText IsShortContent LongContent (λ _. LongEnd)

abbrev pub IsShortRest : FieldList → Type 0
IsShortRest list = IsShortContent list.content × All IsShort list.trailers

abbrev with_list : List Field → List ℕ → List ℕ → Result (FieldList × List ℕ) ℕ
with_list f c bytes = end_read bytes >>= λ t. Ok (list_of f c t.0, t.1)

-- what is read before is in the list
with_content : (f : List Field) (c bytes : List ℕ) (l : FieldList) (rest : List ℕ) → with_list f c bytes ≡ Ok (l, rest) → (l.fields ≡ f) × (l.content ≡ c)
with_content f c bytes l rest e =
    let b = bind_ok (end_read bytes) (λ t. Ok (list_of f c t.0, t.1)) (l, rest) e in
    let same : list_of f c b.0.0 ≡ l = ap (λ (a : FieldList × List ℕ). a.0) (list_is _ _ b.2) in
    (ap (λ (l : FieldList). l.fields) (sym same), ap (λ (l : FieldList). l.content) (sym same))

abbrev rest_read : List Field → List ℕ → Result (FieldList × List ℕ) ℕ
rest_read f bytes = content_read bytes >>= λ c. with_list f c.0 c.1

with_fields_of : (f : List Field) (bytes : List ℕ) (l : FieldList) (rest : List ℕ) → rest_read f bytes ≡ Ok (l, rest) → l.fields ≡ f
with_fields_of f bytes l rest e =
    let b = bind_ok (content_read bytes) (λ c. with_list f c.0 c.1) (l, rest) e in
    (with_content f b.0.0 b.0.1 l rest b.2).0

-- a line after the fields begins no field
rest_starts : (y line more : List ℕ) → LongRest y line → Next (λ c. not (is_end 102 c)) (y ++ (line ++ more))
rest_starts y line more (in_first l) =
    let same : y ++ (line ++ more) ≡ number_line (codes "content ") l.1 ++ more = ap (λ (z : List ℕ). z ++ (line ++ more)) l.0 ∙ ap (λ (z : List ℕ). z ++ more) l.2.is in
    subst (λ (z : List ℕ). Next (λ c. not (is_end 102 c)) z) (sym same) refl
rest_starts y line more (in_second c x z e is g l) =
    let same : y ++ (line ++ more) ≡ (content_text c ++ z) ++ (line ++ more) = ap (λ (w : List ℕ). w ++ (line ++ more)) (e ∙ ap (λ (w : List ℕ). w ++ z) is.is) in
    subst (λ (w : List ℕ). Next (λ c. not (is_end 102 c)) w) (sym same) refl

abbrev pub LongForm : List ℕ → List ℕ → Type 0
LongForm = LongThen IsBeginText (All IsShort) LongBegin (λ _. LongRest)

checks_rest : (f : List Field) → Checks IsShortRest LongRest (rest_read f) (λ bytes. content_step bytes >>- λ c. end_step c.1 >>- λ t. Ok (list_of f c.0 t.0, t.1))
checks_rest f =
    checks_then meets_content checks_content (λ c. checks_map checks_end (λ t. list_of f c t) (λ l. All IsShort l.trailers) (λ t g. g) (λ t g. g)) IsShortRest
    (λ c bytes l rest e g h. (subst IsShortContent (sym (with_content f c bytes l rest e).1) g, h))
    (λ c bytes l rest e g. (subst IsShortContent (with_content f c bytes l rest e).1 g.0, g.1))
    (λ c y line more l. any_next (y ++ (line ++ more)))

pub checks_form : Checks IsWithinLimits LongForm form_read form_step
unfolding form_read form_step
checks_form =
    checks_then meets_begin checks_begin checks_rest IsWithinLimits
    (λ f bytes l rest e g h. record { fields = subst (λ (f : List Field). All IsShort f) (sym (with_fields_of f bytes l rest e)) g; content = h.0; trailers = h.1 })
    (λ f bytes l rest e g. (subst (λ (f : List Field). All IsShort f) (with_fields_of f bytes l rest e) g.fields, (g.content, g.trailers)))
    (λ f y line more l. rest_starts y line more l)
