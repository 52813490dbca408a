-- Messages whose lines of a side changed, and a signature for which they are the same.
use Rattle.std.proofs.Common.{◌≡◌, ℕ, Bool, true, false, ◌&&◌, List, [], ◌∷◌, codes, refl, sym, subst, ◌∙◌, ap, inl, inr}
use Rattle.std.specs.List.{list_any}
use Rattle.std.proofs.lemmas.Bool.{and_parts, both_ways, false_from_ne_true, or_cases, or_left, or_right}
use Rattle.std.proofs.lemmas.Slice.Eq.{bytes_eq-Decides}
use Rattle.msg_head.specs.declared.error.Side.{Side}
use Rattle.msg_head.specs.declared.error.Side.TheVariants.{Header, Trailer}
use Rattle.msg_head.specs.Lines.{FieldLine}
use Rattle.msg_head.specs.Names.{has_name}
use Rattle.msg_body.specs.Bodies.{Body, plain, chunked, content_in}
use Rattle.msg_body.specs.Messages.{Message}
use Rattle.msg_body.specs.Views.{lines_on, message_content}
use Rattle.component_ids.specs.Table.{has_param, is_listed}
use Rattle.component_ids.specs.declared.id.ComponentId.{ComponentId}
use Rattle.component_ids.specs.declared.params.SigParams.{SigParams}
use Rattle.component_values.specs.Context.{MessageContext}
use Rattle.signatures.specs.Signatures.{input_name, signature_name}
use Rattle.msg_body.specs.SameFields.{HasSameField, HasSameValues, name_of}
use Rattle.component_values.specs.Context.{answers_head}
use Rattle.line_rewrites.specs.Covered.{covers_field, covers_lines, is_field_on}
use Rattle.line_rewrites.specs.Permitted.{MayChangeNumber, MayChangeValue, counted_names, kept_names}
use Rattle.line_rewrites.specs.SameFor.{SameFor}
use Rattle.line_rewrites.specs.Steps.{ChangesLines, with_lines_on, with_trailers}
use Rattle.line_rewrites.proofs.LineKinds.{KeepsFields}
use Rattle.line_rewrites.proofs.SameLists.{field_itself, field_of_values, itself}

-- ---- a side and the other

start_kept : (to_head : Bool) (side : Side) (message : Message) (lines : List FieldLine) → (with_lines_on to_head side message lines).head.start ≡ message.head.start
start_kept to_head Header message lines = refl
start_kept to_head Trailer message lines = refl

content_in_kept : (lines : List FieldLine) (body : Body) → content_in (with_trailers lines body) ≡ content_in body
content_in_kept lines (plain content) = refl
content_in_kept lines (chunked chunks trailers) = refl

content_kept : (to_head : Bool) (side : Side) (message : Message) (lines : List FieldLine) → message_content (with_lines_on to_head side message lines) ≡ message_content message
content_kept to_head Header message lines = refl
content_kept to_head Trailer message lines = content_in_kept lines message.body

-- what a list is to itself, and what the side's lines are to the new ones, holds on each side
each_side : (Is : Side → List FieldLine → List FieldLine → Type 0) → ((side : Side) (lines : List FieldLine) → Is side lines lines)
    → (to_head : Bool) (side : Side) (message : Message) (lines : List FieldLine) → Is side (lines_on side message) (lines_on side (with_lines_on to_head side message lines))
    → (other : Side) → Is other (lines_on other message) (lines_on other (with_lines_on to_head side message lines))
each_side Is same to_head Header message lines here Header = here
each_side Is same to_head Header message lines here Trailer = same Trailer (lines_on Trailer message)
each_side Is same to_head Trailer message lines here Header = same Header (lines_on Header message)
each_side Is same to_head Trailer message lines here Trailer = here

-- ---- what a signature asks of the lines of a side

-- the lines are the same for a signature
pub record AreSameFor (side : Side) (params : SigParams) (lines others : List FieldLine) : Type 0 where
  pub fields : (name : List ℕ) → covers_field side name params ≡ true → HasSameField lines others name
  pub by_line : (name : List ℕ) → covers_lines side name params ≡ true → HasSameValues lines others name
  pub hosts : HasSameValues lines others (codes "host")
  pub input : HasSameField lines others input_name
  pub signature : HasSameField lines others signature_name

same_itself : (params : SigParams) (side : Side) (lines : List FieldLine) → AreSameFor side params lines lines
same_itself params side lines = record {
  fields = λ name covered. field_itself lines name;
  by_line = λ name covered. itself lines name;
  hosts = itself lines (codes "host");
  input = field_itself lines input_name;
  signature = field_itself lines signature_name;
}

pub same_for : (context : MessageContext) (side : Side) (Change : List FieldLine → List FieldLine → Type 0) (after : Message) (params : SigParams)
    (is : ChangesLines context side Change after) → AreSameFor side params (lines_on side context.message) is.lines → SameFor params context.message after
same_for context side Change after params is same =
    let to_head = answers_head context.related in
    let message = context.message in
    let new = with_lines_on to_head side message is.lines in
    let there : lines_on side new ≡ is.lines = sym (ap (lines_on side) is.after_is) ∙ is.there in
    let on = each_side (λ (s : Side). λ (one : List FieldLine). λ (other : List FieldLine). AreSameFor s params one other) (same_itself params) to_head side message is.lines
    (subst (λ (ls : List FieldLine). AreSameFor side params (lines_on side message) ls) (sym there) same) in
    subst (λ (m : Message). SameFor params message m) (sym is.after_is) (record {
      start = start_kept to_head side message is.lines;
      content = content_kept to_head side message is.lines;
      fields = λ s. (on s).fields;
      lines = λ s. (on s).by_line;
      hosts = (on Header).hosts;
      input = (on Header).input;
      signature = (on Header).signature;
    })

-- ---- three ways in which they are the same

-- the values of every name are
pub by_values : (side : Side) (params : SigParams) (lines others : List FieldLine) → ((name : List ℕ) → HasSameValues lines others name) → AreSameFor side params lines others
by_values side params lines others same = record {
  fields = λ name covered. field_of_values lines others name (same name);
  by_line = λ name covered. same name;
  hosts = same (codes "host");
  input = field_of_values lines others input_name (same input_name);
  signature = field_of_values lines others signature_name (same signature_name);
}

-- a test that the line's name fails and another one passes parts the names
other_name : (test : List ℕ → Bool) (line : FieldLine) (name : List ℕ) → test (name_of line) ≡ false → test name ≡ true → has_name name line ≡ false
other_name test line name fails passes =
    false_from_ne_true (has_name name line) (λ is. both_ways (test name) (sym (ap test ((bytes_eq-Decides (name_of line) name).0 is)) ∙ fails) passes)

-- the combined values are, and the values of every name but that of a line of which the number may change
pub by_fields : (side : Side) (params : SigParams) (line : FieldLine) (lines others : List FieldLine) → KeepsFields line lines others → MayChangeNumber side (name_of line) params
    → AreSameFor side params lines others
by_fields side params line lines others same may = record {
  fields = λ name covered. same.combined name;
  by_line = λ name covered. same.values name (other_name (λ (n : List ℕ). covers_lines side n params) line name may.covered covered);
  hosts = same.values (codes "host") (other_name (is_listed counted_names) line (codes "host") may.counted refl);
  input = same.combined input_name;
  signature = same.combined signature_name;
}

any_weaker : (test more : ComponentId → Bool) (ids : List ComponentId) → list_any (λ id. test id && more id) ids ≡ true → list_any test ids ≡ true
any_weaker test more [] any = any
any_weaker test more (id ∷ ids) any = elim (or_cases (test id && more id) (list_any (λ id. test id && more id) ids) any) [
  | inl first ↦ or_left (test id) (list_any test ids) (and_parts (test id) (more id) first).0
  | inr rest ↦ or_right (test id) (list_any test ids) (any_weaker test more ids rest)
]

-- what is covered line by line is covered
lines_covered : (side : Side) (name : List ℕ) (params : SigParams) → covers_lines side name params ≡ true → covers_field side name params ≡ true
lines_covered side name params covered = any_weaker (is_field_on side name) (λ id. has_param id.params (codes "bs")) params.ids covered

-- the values of every name are, but for that of a line that may come and go
pub by_others : (side : Side) (params : SigParams) (line : FieldLine) (lines others : List FieldLine)
    → ((name : List ℕ) → has_name name line ≡ false → HasSameValues lines others name) → MayChangeValue side (name_of line) params → AreSameFor side params lines others
by_others side params line lines others same may =
    let covered_other : (name : List ℕ) → covers_field side name params ≡ true → has_name name line ≡ false =
    λ name covered. other_name (λ (n : List ℕ). covers_field side n params) line name may.covered covered in
    let kept_other : (name : List ℕ) → is_listed kept_names name ≡ true → has_name name line ≡ false =
    λ name kept. other_name (is_listed kept_names) line name may.kept kept in
    record {
      fields = λ name covered. field_of_values lines others name (same name (covered_other name covered));
      by_line = λ name covered. same name (covered_other name (lines_covered side name params covered));
      hosts = same (codes "host") (kept_other (codes "host") refl);
      input = field_of_values lines others input_name (same input_name (kept_other input_name refl));
      signature = field_of_values lines others signature_name (same signature_name (kept_other signature_name refl));
    }
