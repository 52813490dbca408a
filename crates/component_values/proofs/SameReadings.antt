-- Where a field gets its strict text for its combined value, what is read of it stays.
use Rattle.std.proofs.Common.{◌≡◌, ◌⊎◌, ℕ, Bool, true, false, ◌&&◌, ◌||◌, not, Option, Some, None, Ok, List, [], ◌∷◌, codes, refl, sym, subst, inl, inr}
use Rattle.std.specs.List.{list_all, list_any}
use Rattle.std.proofs.lemmas.Bool.{and_from, and_parts, cases_Bool, false≢true}
use Rattle.sfv_text.specs.Keys.{has_key, value_of}
use Rattle.sfv_text.specs.Parts.{is_string}
use Rattle.sfv_text.specs.Range.{is_dict_in_range, is_item_in_range, is_list_in_range}
use Rattle.sfv_text.specs.Strict.{dict_text, item_text, list_text}
use Rattle.sfv_text.specs.declared.pair.Pair.{Pair}
use Rattle.sfv_text.specs.declared.value.BareItem.{BareItem}
use Rattle.sfv_text.specs.declared.value.BareItem.TheVariants.{Str}
use Rattle.sfv_text.specs.declared.value.Member.{Member}
use Rattle.sfv_read.specs.Laws.{ReadsBack, ReadsOnly}
use Rattle.sfv_read.specs.Reads.{ReadsItem, ReadsList, ReadsDict}
use Rattle.sfv_read.proofs.InRange.{item_read_in_range, list_read_in_range, dict_read_in_range}
use Rattle.sfv_read.proofs.StrictReads.{item_text_reads, list_text_reads, dict_text_reads}
use Rattle.msg_head.specs.Lines.{FieldLine}
use Rattle.msg_head.specs.Values.{combined_value}
use Rattle.component_ids.specs.Table.{goes_with, has_param, has_value_type, have_clash, is_name}
use Rattle.component_ids.specs.declared.types.FieldKind.{FieldKind}
use Rattle.component_ids.specs.declared.types.FieldKind.TheVariants as kind
use Rattle.component_values.specs.Forms.{Form, form_of}
use Rattle.component_values.specs.Forms as form
use Rattle.component_values.specs.Laws.{DependsOnItsReading, HasFormOfReading}
use Rattle.component_values.specs.Values.{FormRow, KeyRow, KindRow, MemberRow, StrictRow}
use Rattle.component_values.proofs.DerivedRows.{Answer, same}
use Rattle.component_values.proofs.RowLaws.{kind_one, member_answer, member_read, member_some}

-- ---- the strict text reads as the text does

strict_again : {V : Type 0} (Reads : List ℕ → V → Type 0) (test : V → Bool) (text_of : V → List ℕ) → ReadsOnly Reads test → ReadsBack Reads test text_of → (text strict : List ℕ) → StrictRow Reads text_of text (Ok strict)
    → StrictRow Reads text_of strict (Ok strict)
strict_again {V} Reads test text_of only back text strict row =
    (row.0, subst (λ (t : List ℕ). Reads t row.0) (sym row.2) (back row.0 (only text row.0 row.1)), row.2)

kind_again : (known : Option FieldKind) (text strict : List ℕ) → KindRow known text (Ok strict) → KindRow known strict (Ok strict)
kind_again (Some kind.Item) text strict row = strict_again ReadsItem is_item_in_range item_text item_read_in_range item_text_reads text strict row
kind_again (Some kind.List) text strict row = strict_again ReadsList is_list_in_range list_text list_read_in_range list_text_reads text strict row
kind_again (Some kind.Dictionary) text strict row = strict_again ReadsDict is_dict_in_range dict_text dict_read_in_range dict_text_reads text strict row
kind_again None text strict row = absurd cc

-- both texts have this strict text
kind_moves : (known : Option FieldKind) (one other strict : List ℕ) → KindRow known one (Ok strict) → KindRow known other (Ok strict) → (result : Answer) → KindRow known one result → KindRow known other result
kind_moves known one other strict is also result row =
    let at : result ≡ Ok strict = same (kind_one known one) result (Ok strict) row is in
    subst (λ (answer : Answer). KindRow known other answer) (sym at) also

-- both texts read as this Dictionary
member_moves : (key one other : List ℕ) (dict : List (Pair Member)) → ReadsDict one dict → ReadsDict other dict → (result : Answer) → MemberRow key one result → MemberRow key other result
member_moves key one other dict is also result row =
    let at : result ≡ member_answer (value_of dict key) = member_read key one dict is result row in
    subst (λ (answer : Answer). MemberRow key other answer) (sym at) (member_some key other dict also (value_of dict key) refl)

key_moves : (known : Option FieldKind) (key text strict : List ℕ) → KindRow known text (Ok strict) → (result : Answer)
    → (KeyRow known key text result → KeyRow known key strict result) × (KeyRow known key strict result → KeyRow known key text result)
key_moves (Some kind.Item) key text strict is result = (λ row. row, λ row. row)
key_moves (Some kind.List) key text strict is result = (λ row. row, λ row. row)
key_moves (Some kind.Dictionary) key text strict is result =
    let again = dict_text_reads is.0 (dict_read_in_range text is.0 is.1) in
    let also : ReadsDict strict is.0 = subst (λ (t : List ℕ). ReadsDict t is.0) (sym is.2) again in
    (member_moves key text strict is.0 is.1 also result, member_moves key strict text is.0 also is.1 result)
key_moves None key text strict is result = absurd cc

-- ---- the form

key_is_string : (params : List (Pair BareItem)) (value : BareItem) → list_all has_value_type params ≡ true → value_of params (codes "key") ≡ Some value → is_string value ≡ true
key_is_string [] value all is = absurd cc
key_is_string (param ∷ params) value all is =
    let both = and_parts (has_value_type param) (list_all has_value_type params) all in elim (cases_Bool (has_key (codes "key") param)) [
      | inl found ↦
          let at : param.value ≡ value = let e = rw found at is in cc in
          subst (λ (v : BareItem). is_string v ≡ true) at (rw found at both.0)
      | inr other ↦ key_is_string params value both.1 (rw other at is)
    ]

-- a member's form, or the strict one
abbrev IsOfReading : Form → Type 0
IsOfReading shape = ((key : List ℕ) × (shape ≡ form.member key)) ⊎ (shape ≡ form.strict)

form_of_reading : (params : List (Pair BareItem)) → list_all has_value_type params ≡ true → has_param params (codes "bs") ≡ false → (has_param params (codes "sf") || has_param params (codes "key")) ≡ true
    → IsOfReading (form_of params)
form_of_reading params typed unwrapped asked = by (value_of params (codes "key")) refl
  where
    by_value : (value : BareItem) → value_of params (codes "key") ≡ Some value → is_string value ≡ true → IsOfReading (form_of params)
    by_value (Str key) is typed = inl (key, rw (unwrapped, is) refl)
    by_value value is typed = absurd (false≢true typed)

    by_strict : (sf : Bool) → has_param params (codes "sf") ≡ sf → value_of params (codes "key") ≡ None → IsOfReading (form_of params)
    by_strict true sf is = inr (rw (unwrapped, is, sf) refl)
    by_strict false sf is = absurd (false≢true (rw (sf, is) at asked))

    by : (found : Option BareItem) → value_of params (codes "key") ≡ found → IsOfReading (form_of params)
    by (Some value) is = by_value value is (key_is_string params value typed is)
    by None is = by_strict (has_param params (codes "sf")) refl is

-- ---- fields

form_moves : (shape : Form) → IsOfReading shape → (known : Option FieldKind) (name text : List ℕ) (lines fewer : List FieldLine) → KindRow known (combined_value lines name) (Ok text) → combined_value fewer name ≡ text
    → (result : Answer) → (FormRow shape known lines name result → FormRow shape known fewer name result) × (FormRow shape known fewer name result → FormRow shape known lines name result)
form_moves shape (inl (key, is)) known name text lines fewer strict same result =
    rw (is, same) (key_moves known key (combined_value lines name) text strict result)
form_moves shape (inr is) known name text lines fewer strict same result =
    let one = combined_value lines name in
    let again = kind_again known one text strict in
    rw (is, same) (kind_moves known one text text strict again result, kind_moves known text one text again strict result)

pub depends_on_its_reading : DependsOnItsReading
depends_on_its_reading params known name text lines fewer result typed unwrapped asked strict same there also =
    rw (there, also) (form_moves (form_of params) (form_of_reading params typed unwrapped asked) known name text lines fewer strict same result)

-- ---- identifiers

none_fails : (params : List (Pair BareItem)) → list_any (λ p. not (has_value_type p)) params ≡ false → list_all has_value_type params ≡ true
none_fails [] is = refl
none_fails (param ∷ params) is = elim (cases_Bool (has_value_type param)) [
  | inl typed ↦ and_from (has_value_type param) (list_all has_value_type params) typed (none_fails params (rw typed at is))
  | inr other ↦ absurd (false≢true (sym (rw other at is)))
]

pub has_form_of_reading : HasFormOfReading
has_form_of_reading id is asked = go (not (is_name id.name)) (list_any (λ p. not (goes_with id.name p.key)) id.params) (list_any (λ p. not (has_value_type p)) id.params) (have_clash id.params) refl refl refl refl
  where
    apart : (bs : Bool) → (bs && true) ≡ false → bs ≡ false
    apart true is = is
    apart false is = refl

    go : (a b c d : Bool) → not (is_name id.name) ≡ a → list_any (λ p. not (goes_with id.name p.key)) id.params ≡ b → list_any (λ p. not (has_value_type p)) id.params ≡ c → have_clash id.params ≡ d
        → (list_all has_value_type id.params ≡ true) × (has_param id.params (codes "bs") ≡ false)
    go true b c d p q r s = absurd (false≢true (rw p at is))
    go false true c d p q r s = absurd (false≢true (rw (p, q) at is))
    go false false true d p q r s = absurd (false≢true (rw (p, q, r) at is))
    go false false false true p q r s = absurd (false≢true (rw (p, q, r, s) at is))
    go false false false false p q r s = (none_fails id.params r, apart (has_param id.params (codes "bs")) (rw asked at s))
