-- What is asked of two messages holds or doesn't: equations of their parts, fields, components and all that isn't explained.
use Rattle.std.proofs.Common.{◌≡◌, ◌⊎◌, ℕ, zero, suc, Bool, true, false, Option, Some, None, List, [], ◌∷◌, codes, refl, sym, ap, ◌∙◌, inl, inr}
use Rattle.std.specs.Prelude.{IsSomeAnd, slice_get, take}
use Rattle.std.specs.List.{All}
use Rattle.std.specs.Str.{bytes_eq}
use Rattle.std.proofs.lemmas.Bool.{both_ways, cases_Bool, false≢true}
use Rattle.std.proofs.lemmas.List.Elements.{All-cons, All-nil}
use Rattle.std.proofs.lemmas.Slice.Eq.{bytes_eq-Decides}
use Rattle.msg_head.specs.Lines.{FieldLine}
use Rattle.msg_head.specs.Starts.{StartLine, request, status}
use Rattle.msg_head.specs.Values.{combined_value, is_there, values}
use Rattle.framing.specs.Chunks.{Chunk, Chunks, content_of}
use Rattle.msg_body.specs.Bodies.{Body, plain, chunked}
use Rattle.msg_body.specs.Messages.{Message}
use Rattle.msg_body.specs.Views.{lines_on, message_content}
use Rattle.msg_body.specs.SameFields.{HasSameField, HasSameValues}
use Rattle.component_ids.specs.declared.id.ComponentId.{ComponentId}
use Rattle.component_values.specs.Alike.{AreSameIn, is_own_field}
use Rattle.component_values.specs.Forms.{Form, form_of}
use Rattle.component_values.specs.Forms as form
use Rattle.component_values.specs.Values.{side_of}
use Rattle.normal_forms.specs.Agreement.{AgreeOn, HasSameBasis}
use Rattle.normal_forms.specs.NormalMessages.{HasNormalChunks, normal_chunks}
use Rattle.normal_forms.specs.declared.basis.Basis.{Basis}
use Rattle.normal_forms.specs.declared.basis.Basis.TheVariants.{Content, Field, StartLine as BasisStart}
use Rattle.normal_forms.specs.declared.basis.FixedName.TheVariants.{Host, ContentLength, TransferEncoding, Signature, SignatureInput}
use Rattle.normal_forms.proofs.AlikeLists.{of_values}

-- it holds, or it doesn't
abbrev pub IsOrNot : Type 0 → Type 0
IsOrNot Holds = Holds ⊎ (Holds → ⊥)

-- ---- equations

bytes_or_not : (xs ys : List ℕ) → IsOrNot (xs ≡ ys)
bytes_or_not xs ys = elim (cases_Bool (bytes_eq xs ys)) [
  | inl same ↦ inl ((bytes_eq-Decides xs ys).0 same)
  | inr other ↦ inr (λ same. both_ways (bytes_eq xs ys) other ((bytes_eq-Decides xs ys).1 same))
]

lists_or_not : {X : Type 0} → ((x y : X) → IsOrNot (x ≡ y)) → (xs ys : List X) → IsOrNot (xs ≡ ys)
lists_or_not decided [] [] = inl refl
lists_or_not decided [] (y ∷ ys) = inr (λ same. cc)
lists_or_not decided (x ∷ xs) [] = inr (λ same. cc)
lists_or_not {X} decided (x ∷ xs) (y ∷ ys) = elim (decided x y) [
  | inr other ↦ inr (λ (same : x ∷ xs ≡ y ∷ ys). let first : x ≡ y = cc in other first)
  | inl first ↦ elim (lists_or_not decided xs ys) [
    | inl rest ↦ inl (ap (λ (z : X). z ∷ xs) first ∙ ap (λ (zs : List X). y ∷ zs) rest)
    | inr other ↦ inr (λ (same : x ∷ xs ≡ y ∷ ys). let rest : xs ≡ ys = cc in other rest)
  ]
]

bools_or_not : (x y : Bool) → IsOrNot (x ≡ y)
bools_or_not true true = inl refl
bools_or_not true false = inr (λ same. false≢true (sym same))
bools_or_not false true = inr false≢true
bools_or_not false false = inl refl

-- ---- start lines

abbrev reason_parts : Option (List ℕ) → List (List ℕ)
reason_parts None = []
reason_parts (Some reason) = reason ∷ []

-- the parts of a start line, after a text that is empty for a request line alone
abbrev start_parts : StartLine → List (List ℕ)
start_parts (request line) = [] ∷ line.method ∷ line.target ∷ line.version ∷ []
start_parts (status line) = codes " " ∷ line.version ∷ line.code ∷ reason_parts line.reason

abbrev first_or_none : List (List ℕ) → Option (List ℕ)
first_or_none [] = None
first_or_none (reason ∷ more) = Some reason

abbrev start_of : List (List ℕ) → StartLine
start_of ([] ∷ a ∷ b ∷ c ∷ more) = request (record { method = a; target = b; version = c })
start_of ((x ∷ xs) ∷ a ∷ b ∷ more) = status (record { version = a; code = b; reason = first_or_none more })
start_of other = request (record { method = []; target = []; version = [] })

status_is : (version code : List ℕ) (reason : Option (List ℕ)) → let line = status (record { version = version; code = code; reason = reason }) in start_of (start_parts line) ≡ line
status_is version code None = refl
status_is version code (Some reason) = refl

start_is : (start : StartLine) → start_of (start_parts start) ≡ start
start_is (request line) = refl
start_is (status line) = status_is line.version line.code line.reason

starts_or_not : (one other : StartLine) → IsOrNot (one ≡ other)
starts_or_not one other = elim (lists_or_not bytes_or_not (start_parts one) (start_parts other)) [
  | inl same ↦ inl (sym (start_is one) ∙ (ap start_of same ∙ start_is other))
  | inr apart ↦ inr (λ same. apart (ap start_parts same))
]

-- ---- chunks

chunk_or_not : (one other : Chunk) → IsOrNot (one ≡ other)
chunk_or_not one other = elim (bytes_or_not one.line other.line) [
  | inr apart ↦ inr (λ same. apart (ap (λ (c : Chunk). c.line) same))
  | inl lines ↦ elim (bytes_or_not one.chunk_data other.chunk_data) [
    | inr apart ↦ inr (λ same. apart (ap (λ (c : Chunk). c.chunk_data) same))
    | inl datas ↦ inl (λ i. record { line = lines i; chunk_data = datas i })
  ]
]

chunks_or_not : (one other : Chunks) → IsOrNot (one ≡ other)
chunks_or_not one other = elim (lists_or_not chunk_or_not one.chunks other.chunks) [
  | inr apart ↦ inr (λ same. apart (ap (λ (c : Chunks). c.chunks) same))
  | inl all ↦ elim (bytes_or_not one.last other.last) [
    | inr apart ↦ inr (λ same. apart (ap (λ (c : Chunks). c.last) same))
    | inl last ↦ inl (λ i. record { chunks = all i; last = last i })
  ]
]

pub one_chunk_or_not : (body : Body) → IsOrNot (HasNormalChunks body)
one_chunk_or_not (plain content) = inl tt
one_chunk_or_not (chunked chunks trailers) = chunks_or_not chunks (normal_chunks (content_of chunks))

-- ---- fields

module _ (lines others : List FieldLine) (name : List ℕ) where
  values_equal_or_not : IsOrNot (values others name ≡ values lines name)
  values_equal_or_not = lists_or_not bytes_or_not (values others name) (values lines name)

  values_or_not : IsOrNot (HasSameValues lines others name)
  values_or_not = elim values_equal_or_not [
    | inl same ↦ inl (of_values lines others name same)
    | inr apart ↦ inr (λ is. apart is.same)
  ]

  field_or_not : IsOrNot (HasSameField lines others name)
  field_or_not = elim (bools_or_not (is_there others name) (is_there lines name)) [
    | inr apart ↦ inr (λ is. apart is.there)
    | inl there ↦ elim (bytes_or_not (combined_value others name) (combined_value lines name)) [
      | inl combined ↦ inl (record { there = there; combined = combined })
      | inr apart ↦ inr (λ is. apart is.combined)
    ]
  ]

  in_form_or_not : (kind : Form) → IsOrNot (AreSameIn kind lines others name)
  in_form_or_not form.wrapped = values_or_not
  in_form_or_not (form.member key) = field_or_not
  in_form_or_not form.strict = field_or_not
  in_form_or_not form.plain = field_or_not

-- ---- messages

module _ (message other : Message) where
  pub agree_or_not : (id : ComponentId) → IsOrNot (AgreeOn message other id)
  agree_or_not id = elim (cases_Bool (is_own_field id)) [
    | inr foreign ↦ inl (λ own. absurd (both_ways (is_own_field id) foreign own))
    | inl own ↦ elim (in_form_or_not (lines_on (side_of id.params) message) (lines_on (side_of id.params) other) id.name (form_of id.params)) [
      | inl same ↦ inl (λ is. same)
      | inr apart ↦ inr (λ agree. apart (agree own))
    ]
  ]

  pub basis_or_not : (basis : Basis) → IsOrNot (HasSameBasis message other basis)
  basis_or_not BasisStart = starts_or_not other.head.start message.head.start
  basis_or_not Content = bytes_or_not (message_content other) (message_content message)
  basis_or_not (Field side Host) = values_equal_or_not (lines_on side message) (lines_on side other) (codes "host")
  basis_or_not (Field side ContentLength) = values_equal_or_not (lines_on side message) (lines_on side other) (codes "content-length")
  basis_or_not (Field side TransferEncoding) = values_equal_or_not (lines_on side message) (lines_on side other) (codes "transfer-encoding")
  basis_or_not (Field side Signature) = field_or_not (lines_on side message) (lines_on side other) (codes "signature")
  basis_or_not (Field side SignatureInput) = field_or_not (lines_on side message) (lines_on side other) (codes "signature-input")

-- ---- the first that fails

-- all pass, or a first one fails
pub all_or_first : {X : Type 0} (Holds : X → Type 0) → ((x : X) → IsOrNot (Holds x)) → (xs : List X)
    → All Holds xs ⊎ ((i : ℕ) × All Holds (take i xs) × IsSomeAnd (slice_get xs i) (λ x. Holds x → ⊥))
all_or_first Holds decided [] = inl (All-nil Holds)
all_or_first Holds decided (x ∷ xs) = elim (decided x) [
  | inr fails ↦ inr (zero, All-nil Holds, fails)
  | inl holds ↦ elim (all_or_first Holds decided xs) [
    | inl all ↦ inl (All-cons Holds x xs holds all)
    | inr first ↦ inr (suc first.0, All-cons Holds x (take first.0 xs) holds first.1, first.2)
  ]
]
