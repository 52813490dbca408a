-- What was read of the fields of a context.
use Rattle.std.proofs.Common.{◌≡◌, ◌↔◌, ◌+◌, ◌<◌, ◌≤◌, ◌∙◌, ℕ, Bool, false, IsTrue, List, ◌∷◌, [], ◌++◌, get_or, length, take, Some, Result, Ok, Err, refl, subst, sym}
use Rattle.std.specs.List.{All, Contains}
use Rattle.std.proofs.lemmas.Bool.{false≢true}
use Rattle.std.proofs.lemmas.List.{take_all}
use Rattle.std.proofs.lemmas.List.Elements.{All-contains, All-more, All-push, Contains-push}
use Rattle.sfv_text.specs.declared.pair.Pair.{Pair}
use Rattle.sfv_text.specs.declared.value.Member.{Member}
use Rattle.component_ids.specs.Types.{kind_in}
use Rattle.derived_values.specs.Answers.{AnswersRow}
use Rattle.derived_values.specs.declared.lack.Lack.{Lack}
use Rattle.derived_values.specs.declared.lack.NoValue.{NoValue}
use Rattle.derived_values.specs.declared.lack.NoValue.TheVariants.{Memory, Lacks}
use Rattle.component_values.specs.Context.{MessageContext}
use Rattle.component_values.specs.Values.{KindRow}
use Rattle.component_values.specs.Readings.{text_at, DictRow, IsStrictTextIn, IsDictIn, HasReading}
use Rattle.component_values.specs.declared.context_field.ContextField.{ContextField}
use Rattle.component_values.specs.declared.readings.FieldAnswer.{FieldAnswer}

-- ---- what was kept

pub strict_more : (context : MessageContext) (own : List (FieldAnswer (List ℕ))) (field : ContextField) (answer : Result (List ℕ) Lack) (text : List ℕ) → All (IsStrictTextIn context) own
    → text_at context field ≡ Some text → KindRow (kind_in context.types field.name) text answer → All (IsStrictTextIn context) (own ++ record { field = field; answer = answer } ∷ [])
strict_more context own field answer text all is row = All-push (IsStrictTextIn context) own (record { field = field; answer = answer }) all (rw is row)

pub dict_kept : (context : MessageContext) (own : List (FieldAnswer (List (Pair Member)))) (field : ContextField) (answer : Result (List (Pair Member)) Lack) (text : List ℕ) → All (IsDictIn context) own
    → Contains own (record { field = field; answer = answer }) → text_at context field ≡ Some text → DictRow text answer
dict_kept context own field answer text all there is = rw is at (All-contains (IsDictIn context) own (record { field = field; answer = answer }) all there)

pub dict_more : (context : MessageContext) (own : List (FieldAnswer (List (Pair Member)))) (field : ContextField) (answer : Result (List (Pair Member)) Lack) (text : List ℕ) → All (IsDictIn context) own
    → text_at context field ≡ Some text → DictRow text answer → All (IsDictIn context) (own ++ record { field = field; answer = answer } ∷ [])
dict_more context own field answer text all is row = All-push (IsDictIn context) own (record { field = field; answer = answer }) all (rw is row)

-- none of them is of the field
abbrev pub IsNoneOf : {T : Type 0} → ContextField → List (FieldAnswer T) → Type 0
IsNoneOf {T} field own = All (λ (one : FieldAnswer T). ¬ (one.field ≡ field)) own

pub none_more : {T : Type 0} (own : List (FieldAnswer T)) (i : ℕ) (one : FieldAnswer T) (field : ContextField) (is : Bool) → i < length own → one ≡ get_or own i one → IsNoneOf field (take i own)
    → IsTrue is ↔ (one.field ≡ field) → is ≡ false → IsNoneOf field (take (i + 1) own)
none_more {T} own i one field is low there none says differs =
    let Other = λ (x : FieldAnswer T). ¬ (x.field ≡ field) in
    All-more Other own i one low none (subst Other there (λ same. false≢true (sym differs ∙ says.1 same)))

-- so the field has no reading
pub none_kept : {T : Type 0} (own : List (FieldAnswer T)) (i : ℕ) (field : ContextField) → length own ≤ i → IsNoneOf field (take i own) → ¬ HasReading own field
none_kept {T} own i field all none has =
    let Other = λ (x : FieldAnswer T). ¬ (x.field ≡ field) in
    let each : IsNoneOf field own = subst (λ (xs : List (FieldAnswer T)). IsNoneOf field xs) (take_all i own all) none in
    All-contains Other own (record { field = field; answer = has.0 }) each has.1 refl

-- what holds in any case holds after each answer
pub after_each : {P : Type 0} (result : Result (List ℕ) NoValue) → P → AnswersRow (λ _. P) result
after_each (Ok text) holds = holds
after_each (Err (Lacks lack)) holds = holds
after_each (Err Memory) holds = tt

-- what is kept of the field is a reading of it
pub has_kept : {T : Type 0} (own : List (FieldAnswer T)) (field other : ContextField) (answer : Result T Lack) → Contains own (record { field = field; answer = answer }) → field ≡ other → HasReading own other
has_kept own field other answer there same = (answer, rw (← same) there)

pub has_new : {T : Type 0} (own : List (FieldAnswer T)) (field other : ContextField) (answer : Result T Lack) → field ≡ other → HasReading (own ++ record { field = field; answer = answer } ∷ []) other
has_new own field other answer same = has_kept (own ++ record { field = field; answer = answer } ∷ []) field other answer (Contains-push own (record { field = field; answer = answer })) same
