-- Lines that pass a limit, as the readers find them and as the causes of faults have them.
use Rattle.std.proofs.Common.{ltb, ◌||◌, ◌≡◌, ℕ, ◌<◌, Bool, true, false, List, [], ◌∷◌, ◌++◌, refl, sym, ap, ◌∙◌, arith, inl, inr, ◌⊎◌, codes}
use Rattle.std.proofs.lemmas.Bool.{ltb-true, lt-ltb}
use Rattle.std.proofs.lemmas.List.{append-nil}
use Rattle.std.proofs.lemmas.List.Elements.{All-nil, All-cons, All-head, All-tail}
use Rattle.std.specs.List.{All, flat_map}
use Rattle.byte_grammar.specs.Language.{Each}
use Rattle.byte_grammar.specs.tools.Languages.{Optional}
use Rattle.framing.specs.declared.chunk_limits.TheConstants.{MAX_CONTENT_BYTES}
use Rattle.list_texts.specs.declared.limits.TheConstants.{MAX_FIELD_BYTES}
use Rattle.list_texts.specs.declared.list.Field.{Field}
use Rattle.list_texts.specs.Causes.{IsLongField, IsLongContent, IsLongAfterFields, IsLongAfterContent}
use Rattle.list_texts.specs.Lists.{field_text, content_text, fields_text, IsCountable, IsShort}
use Rattle.list_texts.specs.tools.FieldTexts.{IsFieldText, IsContentText, IsBeginText}
use Rattle.list_texts.specs.tools.FieldWalk.{is_long_pair}
use Rattle.list_texts.proofs.Checks.{Further, in_first, in_second}
use Rattle.list_texts.proofs.FormLaws.{each_fields, fields_each, list_of}
use Rattle.list_texts.proofs.StepLaws.{LongField, LongFields, LongBegin, LongContent, LongEnd, LongRest, LongForm, IsShortContent}

-- ---- numbers that are past a limit

some_of : (a b : Bool) → (a || b) ≡ true → (a ≡ true) ⊎ (b ≡ true)
some_of true b e = inl refl
some_of false b e = inr e

past_one : (s : ℕ × ℕ) → is_long_pair s ≡ true → (MAX_FIELD_BYTES < s.0) ⊎ (MAX_FIELD_BYTES < s.1)
past_one s e = elim (some_of (ltb MAX_FIELD_BYTES s.0) (ltb MAX_FIELD_BYTES s.1) e) [
  | inl a ↦ inl (ltb-true _ _ a)
  | inr b ↦ inr (ltb-true _ _ b)
]

or_true : (a : Bool) → (a || true) ≡ true
or_true true = refl
or_true false = refl

one_past : (s : ℕ × ℕ) → (MAX_FIELD_BYTES < s.0) ⊎ (MAX_FIELD_BYTES < s.1) → is_long_pair s ≡ true
one_past s (inl a) = rw (lt-ltb MAX_FIELD_BYTES s.0 a) refl
one_past s (inr b) = rw (lt-ltb MAX_FIELD_BYTES s.1 b) (or_true (ltb MAX_FIELD_BYTES s.0))

-- ---- lines

long_field : (word front line : List ℕ) → LongField word front line → IsLongField word line
long_field word front line l = record { name = l.1.0; value = l.1.1; is = l.2.is; name_number = l.2.name; value_number = l.2.value; long = past_one l.1 l.3 }

field_long : (word line : List ℕ) → IsLongField word line → LongField word [] line
field_long word line l = (refl, (l.name, l.value), record { is = l.is; name = l.name_number; value = l.value_number }, one_past (l.name, l.value) l.long)

long_content : (front line : List ℕ) → LongContent front line → IsLongContent line
long_content front line l = record { size = l.1; is = l.2.is; number = l.2.number; long = ltb-true _ _ l.3 }

content_long : (line : List ℕ) → IsLongContent line → LongContent [] line
content_long line l = (refl, l.size, record { is = l.is; number = l.number }, lt-ltb MAX_CONTENT_BYTES l.size l.long)

-- ---- fields

-- short fields are countable
pub countable : (f : Field) → IsShort f → IsCountable f
countable f s = record { name = omega (arith, s.name); value = omega (arith, s.value) }

pub all_countable : (fs : List Field) → All IsShort fs → All IsCountable fs
all_countable [] all = All-nil IsCountable
all_countable (f ∷ fs) all = All-cons IsCountable f fs (countable f (All-head IsShort f fs all)) (all_countable fs (All-tail IsShort f fs all))

-- texts of fields one after the other
pub turned_each : (word : List ℕ) (fs : List Field) (x : List ℕ) → Each (Further (Optional (IsFieldText word))) x fs → Each (IsFieldText word) x fs
turned_each word [] x h = h
turned_each word (f ∷ fs) x h = (h.0, h.1, h.2, h.3, turned_each word fs h.1 h.4)

pub each_turned : (word : List ℕ) (fs : List Field) (x : List ℕ) → Each (IsFieldText word) x fs → Each (Further (Optional (IsFieldText word))) x fs
each_turned word [] x h = h
each_turned word (f ∷ fs) x h = (h.0, h.1, h.2, h.3, each_turned word fs h.1 h.4)

-- what comes before the line is the text of fields
fields_before : (word front line : List ℕ) (l : LongFields word front line) → front ≡ flat_map (field_text word) l.values
fields_before word front line l =
    l.joined ∙ ap (λ (y : List ℕ). l.first ++ y) l.such.0 ∙ append-nil l.first ∙ (each_fields word l.values l.first (turned_each word l.values l.first l.are)).is

fields_long : (word line : List ℕ) (fs : List Field) → All IsShort fs → IsLongField word line → LongFields word (flat_map (field_text word) fs) line
fields_long word line fs all l = record {
  values = fs;
  first = flat_map (field_text word) fs;
  second = [];
  joined = sym (append-nil (flat_map (field_text word) fs));
  are = each_turned word fs (flat_map (field_text word) fs) (fields_each word fs (flat_map (field_text word) fs) (record { is = refl; countable = all_countable fs all }));
  good = all;
  such = field_long word line l;
}

-- ---- lists

abbrev pub IsLong : List ℕ → List ℕ → Type 0
IsLong before line = IsLongAfterFields before line ⊎ IsLongAfterContent before line

begin_to : (front line : List ℕ) → LongBegin front line → IsLongAfterFields front line
begin_to front line (in_first l) = absurd l
begin_to front line (in_second u x y e is g l) = record {
  fields = l.values;
  short = l.good;
  before_is = cc (e, is.0, fields_before (codes "field ") y line l);
  long = inl (long_field (codes "field ") l.second line l.such);
}

end_to : (f : List Field) (c x y z front line : List ℕ) → All IsShort f → IsShortContent c → front ≡ x ++ (y ++ z) → IsBeginText x f → IsContentText y c → LongEnd z line → IsLongAfterContent front line
end_to f c x y z front line short few e is content (in_second u a b n k g l) = absurd l
end_to f c x y z front line short few e is content (in_first l) = record {
  list = list_of f c l.values;
  within = record { fields = short; content = few; trailers = l.good };
  before_is = cc (e, is.is, content.is, fields_before (codes "trailer ") z line l);
  long = long_field (codes "trailer ") l.second line l.such;
}

rest_to : (f : List Field) (x y front line : List ℕ) → All IsShort f → front ≡ x ++ y → IsBeginText x f → LongRest y line → IsLong front line
rest_to f x y front line short e is (in_first l) = inl (record {
  fields = f;
  short = short;
  before_is = e ∙ ap (λ (z : List ℕ). x ++ z) l.0 ∙ append-nil x ∙ is.is;
  long = inr (long_content y line l);
})
rest_to f x y front line short e is (in_second c a b n content g l) = inr (end_to f c x a b front line short g (e ∙ ap (λ (z : List ℕ). x ++ z) n) is content l)

pub long_to : (front line : List ℕ) → LongForm front line → IsLong front line
long_to front line (in_first l) = inl (begin_to front line l)
long_to front line (in_second f x y e is short l) = rest_to f x y front line short e is l

begin_is : (fs : List Field) → All IsShort fs → IsBeginText (fields_text fs) fs
begin_is fs short = record { is = refl; countable = all_countable fs short }

after_fields : (front line : List ℕ) → IsLongAfterFields front line → LongForm front line
after_fields front line l = elim l.long [
  | inl long ↦ in_first (in_second (codes "hms-fields 1\n") (codes "hms-fields 1\n") (flat_map (field_text (codes "field ")) l.fields) l.before_is (refl, refl) tt (fields_long (codes "field ") line l.fields l.short long))
  | inr long ↦ in_second l.fields (fields_text l.fields) [] (l.before_is ∙ sym (append-nil (fields_text l.fields))) (begin_is l.fields l.short) l.short (in_first (content_long line long))
]

after_content : (front line : List ℕ) → IsLongAfterContent front line → LongForm front line
after_content front line l =
    let list = l.list in
    let trailers : List ℕ = flat_map (field_text (codes "trailer ")) list.trailers in
    let number = l.within.content in
    in_second list.fields (fields_text list.fields) (content_text list.content ++ trailers) l.before_is (begin_is list.fields l.within.fields) l.within.fields
    (in_second list.content (content_text list.content) trailers refl (record { is = refl; number = omega (arith, number) }) l.within.content
    (in_first (fields_long (codes "trailer ") line list.trailers l.within.trailers l.long)))

pub long_from : (front line : List ℕ) → IsLong front line → LongForm front line
long_from front line (inl l) = after_fields front line l
long_from front line (inr l) = after_content front line l
