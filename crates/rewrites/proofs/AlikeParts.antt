-- What a signature rests on, part by part, where a message changes: the fields of signatures, components, and names of derived components.
use Rattle.std.proofs.Common.{[], ◌∷◌, ◌≡◌, ◌↔◌, ◌⊎◌, ◌<◌, ℕ, ◌∙◌, ◌++◌, not, Result, Bool, true, false, Option, Some, None, List, codes, length, get_or, refl, sym, subst, ap, inl, inr}
use Rattle.std.specs.List.{All, join_by, list_all}
use Rattle.std.specs.Prelude.{option_map, if◌then◌else◌, filter, map}
use Rattle.std.specs.Str.{bytes_eq}
use Rattle.std.proofs.lemmas.Bool.{and_parts, both_ways, cases_Bool, false_from_ne_true, false≢true, not-true, or_left}
use Rattle.std.proofs.lemmas.List.{map-append}
use Rattle.std.proofs.lemmas.List.Elements.{filter-append}
use Rattle.std.proofs.lemmas.List.Folds.{list_all_at, list_any_at}
use Rattle.std.proofs.lemmas.Slice.Eq.{bytes_eq-Decides}
use Rattle.sfv_read.specs.Reads.{ReadsDict}
use Rattle.msg_head.specs.Lines.{FieldLine}
use Rattle.msg_head.specs.Names.{has_name}
use Rattle.msg_head.specs.Values.{values, is_there, value}
use Rattle.msg_head.specs.declared.error.Side.{Side}
use Rattle.msg_head.specs.declared.error.Side.TheVariants.{Header, Trailer}
use Rattle.msg_body.specs.SameFields.{HasSameField, HasSameValues}
use Rattle.framing.specs.Framings.{is_request}
use Rattle.msg_body.specs.Messages.{Message}
use Rattle.msg_body.specs.Views.{lines_on}
use Rattle.component_ids.specs.Table.{has_param, is_field_name, is_listed}
use Rattle.component_ids.specs.Types.{kind_in}
use Rattle.component_ids.specs.declared.id.ComponentId.{ComponentId}
use Rattle.component_ids.specs.declared.params.SigParams.{SigParams}
use Rattle.derived_values.specs.Derived.{derived_of, target_name_of}
use Rattle.derived_values.specs.declared.derived.DerivedName.{DerivedName}
use Rattle.derived_values.specs.declared.derived.DerivedName.TheVariants.{Method, RequestTarget, Status, OfTarget as FromTarget}
use Rattle.derived_values.specs.declared.derived.TargetName.{TargetName}
use Rattle.derived_values.specs.declared.derived.TargetName.TheVariants as name
use Rattle.derived_values.specs.declared.lack.Lack.{Lack}
use Rattle.component_values.specs.Alike.{ComesToSame, is_own_field}
use Rattle.component_values.specs.Context.{MessageContext}
use Rattle.component_values.specs.Values.{FieldRow, side_of}
use Rattle.component_values.proofs.LineLaws.{depends_on_its_lines, depends_on_kind, depends_on_own_lines}
use Rattle.signatures.specs.Signatures.{HasSignature, input_name, signature_name}
use Rattle.signatures.proofs.SameFields.{have_same_signature}
use Rattle.line_rewrites.specs.Covered.{is_on}
use Rattle.whole_rewrites.specs.Covered.{covers_one_of, is_own_of}
use Rattle.sfv_read.specs.Laws.{ReadAlike}
use Rattle.rewrites.proofs.CoveredFields.{same_in_form}

-- ---- fields

pub field_itself : (lines : List FieldLine) (name : List ℕ) → HasSameField lines lines name
field_itself lines name = record { there = refl; combined = refl }

pub field_of_values : (lines others : List FieldLine) (name : List ℕ) → HasSameValues lines others name → HasSameField lines others name
field_of_values lines others name same = record {
  there = same.there;
  combined = ap (λ (texts : List (List ℕ)). join_by (λ (text : List ℕ). text) (codes ", ") texts) same.same;
}

-- ---- values of lists in parts

pub values_parts : (lines others : List FieldLine) (name : List ℕ) → values (lines ++ others) name ≡ values lines name ++ values others name
values_parts lines others name =
    ap (λ (ls : List FieldLine). map (λ (line : FieldLine). value line.raw) ls) (filter-append (has_name name) lines others)
    ∙ map-append (λ (line : FieldLine). value line.raw) (filter (has_name name) lines) (filter (has_name name) others)

line_not_there : (line : FieldLine) (lines : List FieldLine) (name : List ℕ) → has_name name line ≡ false → is_there (line ∷ lines) name ≡ is_there lines name
line_not_there line lines name not = rw not refl

pub no_values : (lines : List FieldLine) (name : List ℕ) → is_there lines name ≡ false → values lines name ≡ []
no_values [] name none = refl
no_values (line ∷ lines) name none = elim (cases_Bool (has_name name line)) [
  | inl is ↦ absurd (cc (none, or_left (has_name name line) (is_there lines name) is))
  | inr not ↦ rw not (no_values lines name (sym (line_not_there line lines name not) ∙ none))
]

pub one_value : (line : FieldLine) (lines : List FieldLine) (name : List ℕ) → has_name name line ≡ true → values (line ∷ lines) name ≡ value line.raw ∷ values lines name
one_value line lines name is = rw is refl

-- ---- fields that read as before

-- a text reads as an equal one
pub read_alike : (one other : List ℕ) → other ≡ one → ReadAlike one other
read_alike one other same dict = (
  λ reads. subst (λ (t : List ℕ). ReadsDict t dict) (sym same) reads,
  λ reads. subst (λ (t : List ℕ). ReadsDict t dict) same reads,
)

-- a message with the same fields of signatures has the label's signature
pub signed_as_well : (message other : Message) (label : List ℕ) (params : SigParams) (tag : List ℕ) → HasSameField (lines_on Header message) (lines_on Header other) input_name
    → HasSameField (lines_on Header message) (lines_on Header other) signature_name → HasSignature message label params tag → HasSignature other label params tag
signed_as_well message other label params tag input signature has = (have_same_signature message other label params tag (record { input = input; signature = signature })).0 has

-- ---- components

-- what holds of each component of the message itself, be it a field or derived, is asked of no other
module _ (context : MessageContext) (other : Message) (ids : List ComponentId) where
  pub come_to_same : is_request other.head.start ≡ is_request context.message.head.start
      → ((k : ℕ) (d : ComponentId) → k < length ids → is_own_field (get_or ids k d) ≡ true → ComesToSame context other (get_or ids k d))
      → ((k : ℕ) (d : ComponentId) → k < length ids → has_param (get_or ids k d).params (codes "req") ≡ false → is_field_name (get_or ids k d).name ≡ false
      → ComesToSame context other (get_or ids k d))
      → All (ComesToSame context other) ids
  come_to_same kind fields derived k d lt =
      let id = get_or ids k d in
      elim (cases_Bool (has_param id.params (codes "req"))) [
        | inl req ↦ depends_on_kind context other id req kind
        | inr own ↦ elim (cases_Bool (is_field_name id.name)) [
          | inl field ↦ fields k d lt (rw (field, own) refl)
          | inr other_name ↦ derived k d lt own other_name
        ]
      ]

-- its side is the one that its lines are on
pub side_is : (side : Side) (id : ComponentId) → is_on side id ≡ true → side_of id.params ≡ side
side_is Header id on = rw (not-true (has_param id.params (codes "tr")) on) refl
side_is Trailer id on = rw on refl

-- what passes on each passes at a place
pub all_at : (test : ComponentId → Bool) (ids : List ComponentId) (k : ℕ) (d : ComponentId) → k < length ids → list_all test ids ≡ true → test (get_or ids k d) ≡ true
all_at test ids k d lt all = elim (cases_Bool (test (get_or ids k d))) [
  | inl is ↦ is
  | inr fails ↦ absurd (both_ways (list_all test ids) (list_all_at test ids k d lt fails) all)
]

-- a field comes to the same where its rows are the same
pub field_row_kept : (context : MessageContext) (other : Message) (id : ComponentId) → is_own_field id ≡ true
    → ((result : Result (List ℕ) Lack) → FieldRow id.params (kind_in context.types id.name) (lines_on (side_of id.params) context.message) id.name result
    ↔ FieldRow id.params (kind_in context.types id.name) (lines_on (side_of id.params) other) id.name result) → ComesToSame context other id
field_row_kept context other id own rows result =
    let parts = and_parts (is_field_name id.name) (not (has_param id.params (codes "req"))) own in
    rw (not-true (has_param id.params (codes "req")) parts.1, parts.0) (rows result)

-- so does one that has the same values
pub field_as_well : (context : MessageContext) (other : Message) (id : ComponentId) → is_own_field id ≡ true
    → HasSameValues (lines_on (side_of id.params) context.message) (lines_on (side_of id.params) other) id.name → ComesToSame context other id
field_as_well context other id own same =
    let lines = lines_on (side_of id.params) context.message in
    let others = lines_on (side_of id.params) other in
    depends_on_own_lines context other id own (same_in_form lines others id.name (field_of_values lines others id.name same) id.params (λ wrapped. same))

-- and a derived component, where the start line and the values of `Host` are the same
pub derived_as_well : (context : MessageContext) (other : Message) (id : ComponentId) → other.head.start ≡ context.message.head.start
    → values (lines_on Header other) (codes "host") ≡ values (lines_on Header context.message) (codes "host") → is_field_name id.name ≡ false → ComesToSame context other id
derived_as_well context other id start hosts derived = depends_on_its_lines context other id (record {
  start = start;
  hosts = hosts;
  own = λ own. absurd (false≢true (sym derived ∙ (and_parts (is_field_name id.name) (not (has_param id.params (codes "req"))) own).0));
})

-- where no component of the message itself has one of the names, none of its names is listed
pub is_not_listed : (names : List (List ℕ)) (params : SigParams) (k : ℕ) (d : ComponentId) → k < length params.ids → covers_one_of names params ≡ false
    → has_param (get_or params.ids k d).params (codes "req") ≡ false → is_listed names (get_or params.ids k d).name ≡ false
is_not_listed names params k d lt none own =
    let id = get_or params.ids k d in
    false_from_ne_true (is_listed names id.name) (λ listed. both_ways (covers_one_of names params) none (list_any_at (is_own_of names) params.ids k d lt (rw (own, listed) refl)))

-- ---- the names of derived components

abbrev pub target_name : TargetName → List ℕ
target_name name.TargetUri = codes "@target-uri"
target_name name.Authority = codes "@authority"
target_name name.Scheme = codes "@scheme"
target_name name.Path = codes "@path"
target_name name.Query = codes "@query"
target_name name.QueryParam = codes "@query-param"

abbrev pub derived_name : DerivedName → List ℕ
derived_name Method = codes "@method"
derived_name RequestTarget = codes "@request-target"
derived_name Status = codes "@status"
derived_name (FromTarget of_target) = target_name of_target

-- what a choice gives is its first, where the test passes, or comes of the rest
chosen : {X : Type 0} (test : Bool) (first : X) (rest : Option X) (x : X) → (if test then Some first else rest) ≡ Some x → ((test ≡ true) × (first ≡ x)) ⊎ (rest ≡ Some x)
chosen true first rest x is = inl (refl, cc)
chosen false first rest x is = inr is

text_is : {X : Type 0} (name_of : X → List ℕ) (text name : List ℕ) (first x : X) → bytes_eq text name ≡ true → name ≡ name_of first → first ≡ x → text ≡ name_of x
text_is name_of text name first x hit own same = (bytes_eq-Decides text name).0 hit ∙ (own ∙ ap name_of same)

target_named : (text : List ℕ) (of_target : TargetName) → target_name_of text ≡ Some of_target → text ≡ target_name of_target
target_named text x is = elim (chosen (bytes_eq text (codes "@target-uri")) name.TargetUri _ x is) [
  | inl hit ↦ text_is target_name text (codes "@target-uri") name.TargetUri x hit.0 refl hit.1
  | inr others ↦ elim (chosen (bytes_eq text (codes "@authority")) name.Authority _ x others) [
    | inl hit ↦ text_is target_name text (codes "@authority") name.Authority x hit.0 refl hit.1
    | inr others ↦ elim (chosen (bytes_eq text (codes "@scheme")) name.Scheme _ x others) [
      | inl hit ↦ text_is target_name text (codes "@scheme") name.Scheme x hit.0 refl hit.1
      | inr others ↦ elim (chosen (bytes_eq text (codes "@path")) name.Path _ x others) [
        | inl hit ↦ text_is target_name text (codes "@path") name.Path x hit.0 refl hit.1
        | inr others ↦ elim (chosen (bytes_eq text (codes "@query")) name.Query _ x others) [
          | inl hit ↦ text_is target_name text (codes "@query") name.Query x hit.0 refl hit.1
          | inr others ↦ elim (chosen (bytes_eq text (codes "@query-param")) name.QueryParam None x others) [
            | inl hit ↦ text_is target_name text (codes "@query-param") name.QueryParam x hit.0 refl hit.1
            | inr none ↦ absurd cc
          ]
        ]
      ]
    ]
  ]
]

-- what is mapped to a value was there
mapped : (found : Option TargetName) (x : DerivedName) → option_map FromTarget found ≡ Some x → (of_target : TargetName) × (found ≡ Some of_target) × (FromTarget of_target ≡ x)
mapped (Some of_target) x is = (of_target, refl, cc)
mapped None x is = absurd cc

-- a text is the name of the component that it stands for
pub derived_named : (text : List ℕ) (derived : DerivedName) → derived_of text ≡ Some derived → text ≡ derived_name derived
derived_named text x is = elim (chosen (bytes_eq text (codes "@method")) Method _ x is) [
  | inl hit ↦ text_is derived_name text (codes "@method") Method x hit.0 refl hit.1
  | inr others ↦ elim (chosen (bytes_eq text (codes "@request-target")) RequestTarget _ x others) [
    | inl hit ↦ text_is derived_name text (codes "@request-target") RequestTarget x hit.0 refl hit.1
    | inr others ↦ elim (chosen (bytes_eq text (codes "@status")) Status _ x others) [
      | inl hit ↦ text_is derived_name text (codes "@status") Status x hit.0 refl hit.1
      | inr others ↦ let found = mapped (target_name_of text) x others in target_named text found.0 found.1 ∙ ap derived_name found.2
    ]
  ]
]
