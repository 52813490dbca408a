-- Readers of lists of fields over lists of bytes, from left to right. No public clause cites this
-- module.
use Rattle.std.specs.Prelude.{ℕ, Bool, true, false, zero, suc, ◌||◌, nat_lt, List, [], ◌∷◌, ◌++◌, length, codes, Option, Some, None, Result, Ok, Err, if◌then◌else◌}
use Rattle.std.specs.Str.{byte}
use Rattle.byte_grammar.specs.Language.{starts_in}
use Rattle.byte_grammar.specs.Walk.{Reader, ◌>>=◌}
use Rattle.byte_grammar.specs.tools.CountedWalk.{is_end, literal_read, number_read, bytes_read, counted_read}
use Rattle.byte_grammar.specs.tools.Walks.{optional_read, turns_read}
use Rattle.framing.specs.declared.chunk_limits.TheConstants.{MAX_CONTENT_BYTES}
use Rattle.list_texts.specs.declared.limits.TheConstants.{MAX_FIELD_BYTES}
use Rattle.list_texts.specs.declared.list.Field.{Field}
use Rattle.list_texts.specs.declared.list.FieldList.{FieldList}
use Rattle.list_texts.specs.declared.read.FieldView.{FieldView}
use Rattle.list_texts.specs.declared.stop.Stop.{Stop}
use Rattle.list_texts.specs.declared.stop.Stop.TheVariants as stop

-- the field that the view is of
abbrev pub field_view : FieldView → Field
field_view view = record { name = view.name.now; value = view.value.now }

-- ---- the form, without limits

-- the line of a field, after this word
unfoldable pub sizes_read : List ℕ → Reader (ℕ × ℕ)
sizes_read word bytes = do
  w ← literal_read word bytes
  n ← number_read (byte " ") w.1
  v ← number_read (byte "\n") n.1
  Ok ((n.0, v.0), v.1)

-- a name and a value of so many bytes, and LF
unfoldable pub pair_read : ℕ → ℕ → Reader Field
pair_read name value bytes = do
  n ← bytes_read name bytes
  v ← counted_read value n.1
  Ok (record { name = n.0; value = v.0 }, v.1)

unfoldable pub field_read : List ℕ → Reader Field
field_read word bytes = do
  s ← sizes_read word bytes
  pair_read s.0.0 s.0.1 s.1

-- fields, while lines come that begin with this byte
unfoldable pub fields_read : ℕ → List ℕ → Reader (List Field)
fields_read first word bytes = turns_read (optional_read (is_end first) (field_read word)) bytes

-- the line that names the format, and the fields
unfoldable pub begin_read : Reader (List Field)
begin_read bytes = do
  l ← literal_read (codes "hms-fields 1\n") bytes
  fields_read (byte "f") (codes "field ") l.1

-- the line of the content
unfoldable pub size_read : Reader ℕ
size_read bytes = do
  w ← literal_read (codes "content ") bytes
  number_read (byte "\n") w.1

unfoldable pub content_read : Reader (List ℕ)
content_read bytes = do
  s ← size_read bytes
  counted_read s.0 s.1

-- the trailer fields, and the last line
unfoldable pub end_read : Reader (List Field)
end_read bytes = do
  t ← fields_read (byte "t") (codes "trailer ") bytes
  e ← literal_read (codes "end\n") t.1
  Ok (t.0, e.1)

unfoldable pub form_read : Reader FieldList
form_read bytes = do
  f ← begin_read bytes
  c ← content_read f.1
  t ← end_read c.1
  Ok (record { fields = f.0; content = c.0; trailers = t.0 }, t.1)

-- ---- the same with limits

-- a reader that judges limits
abbrev pub Judging : Type 0 → Type 0
Judging V = List ℕ → Result (V × List ℕ) Stop

infixl 10 ◌>>-◌
-- one reader, and then another over what the first gives; a failed one ends both
abbrev pub ◌>>-◌ : {A B : Type 0} → Result A Stop → (A → Result B Stop) → Result B Stop
(Ok a) >>- f = f a
(Err s) >>- f = Err s

-- a reader that judges none
abbrev pub lifted : {A : Type 0} → Result A ℕ → Result A Stop
lifted (Ok a) = Ok a
lifted (Err n) = Err (stop.Left n)

-- a line, which is judged, and then what comes after it
abbrev pub judged_step : {S V : Type 0} → Reader S → (S → Bool) → (S → Reader V) → Judging V
judged_step line is_long rest bytes =
    lifted (line bytes)
    >>- λ s. if is_long s.0 then Err (stop.TooLong (length bytes)) else lifted (rest s.0 s.1)

-- too many bytes of a name or of a value
abbrev pub is_long_pair : ℕ × ℕ → Bool
is_long_pair sizes = nat_lt MAX_FIELD_BYTES sizes.0 || nat_lt MAX_FIELD_BYTES sizes.1

unfoldable pub field_step : List ℕ → Judging Field
field_step word bytes =
    judged_step (sizes_read word) is_long_pair (λ s. pair_read s.0 s.1) bytes

abbrev pub optional_step_if : {V : Type 0} → Bool → Judging V → Judging (Option V)
optional_step_if true p bytes = p bytes >>- λ a. Ok (Some a.0, a.1)
optional_step_if false p bytes = Ok (None, bytes)

-- a field, where a line comes that begins with this byte
unfoldable pub next_step : ℕ → List ℕ → Judging (Option Field)
next_step first word bytes =
    optional_step_if (starts_in (is_end first) bytes) (field_step word) bytes

-- what a turn and the turns after it give
abbrev pub with_others : {V : Type 0}
    → Option V → List ℕ → Result (List V × List ℕ) Stop → Result (List V × List ℕ) Stop
with_others None rest others = Ok ([], rest)
with_others (Some v) rest others = others >>- λ b. Ok (v ∷ b.0, b.1)

unfoldable pub each_in : {V : Type 0} → ℕ → Judging (Option V) → Judging (List V)
each_in zero p bytes = Err (stop.Left (length bytes))
each_in (suc n) p bytes = p bytes >>- λ a. with_others a.0 a.1 (each_in n p a.1)

-- turns until one has no value
unfoldable pub each_step : {V : Type 0} → Judging (Option V) → Judging (List V)
each_step p bytes = each_in (suc (length bytes)) p bytes

unfoldable pub fields_step : ℕ → List ℕ → Judging (List Field)
fields_step first word bytes = each_step (next_step first word) bytes

-- the fields before, and what the rest gives
abbrev pub with_fields : List Field
    → Result (List Field × List ℕ) Stop → Result (List Field × List ℕ) Stop
with_fields fields read = read >>- λ b. Ok (fields ++ b.0, b.1)

unfoldable pub begin_step : Judging (List Field)
begin_step bytes =
    lifted (literal_read (codes "hms-fields 1\n") bytes)
    >>- λ l. fields_step (byte "f") (codes "field ") l.1

-- too many bytes of content
abbrev pub is_long_content : ℕ → Bool
is_long_content size = nat_lt MAX_CONTENT_BYTES size

unfoldable pub content_step : Judging (List ℕ)
content_step bytes = judged_step size_read is_long_content counted_read bytes

unfoldable pub end_step : Judging (List Field)
end_step bytes =
    fields_step (byte "t") (codes "trailer ") bytes
    >>- λ t. lifted (literal_read (codes "end\n") t.1 >>= λ e. Ok (t.0, e.1))

unfoldable pub form_step : Judging FieldList
form_step bytes =
    begin_step bytes
    >>- λ f. content_step f.1
    >>- λ c. end_step c.1
    >>- λ t. Ok (record { fields = f.0; content = c.0; trailers = t.0 }, t.1)
