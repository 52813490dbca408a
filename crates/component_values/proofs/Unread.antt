-- Texts that aren't read, and members of Dictionaries.
use Rattle.std.proofs.Common.{◌≡◌, ℕ, List, Some, Result, Ok, Err, refl, sym, ap, ◌∙◌}
use Rattle.std.specs.Prelude.{IsTrue}
use Rattle.std.specs.List.{list_all}
use Rattle.std.proofs.lemmas.Bool.{and_parts}
use Rattle.sfv_text.proofs.ValueLaws.{value_passes}
use Rattle.sfv_text.specs.Keys.{have_distinct_keys, value_of}
use Rattle.sfv_text.specs.Strict.{member_text}
use Rattle.sfv_text.specs.declared.pair.Pair.{Pair}
use Rattle.sfv_text.specs.declared.value.Member.{Member}
use Rattle.sfv_read.specs.Fault.{IsRead}
use Rattle.sfv_read.specs.declared.error.SfError.{SfError}
use Rattle.sfv_read.specs.declared.error.SfError.TheVariants.{Memory, Syntax}
use Rattle.sfv_text.specs.Range.{is_dict_member_in_range, is_key, is_member_in_range}
use Rattle.sfv_read.specs.Reads.{ReadsDict}
use Rattle.sfv_read.proofs.InRange.{dict_read_in_range}
use Rattle.derived_values.specs.declared.lack.Lack.{Lack}
use Rattle.component_values.specs.Values.{StrictRow, MemberRow}
use Rattle.component_values.specs.Readings.{DictRow}
use Rattle.derived_values.specs.Answers.{AnswersRow, no_value_of}

abbrev pub failed : {V : Type 0} → SfError → Result V SfError
failed error = Err error

-- a text that isn't read is unreadable
pub unread : {V : Type 0} (Reads : List ℕ → V → Type 0) (strict : V → List ℕ) (text : List ℕ) (error : SfError)
    → ((v : V) → Reads text v → IsRead (failed {V = V} error) v) → AnswersRow (StrictRow Reads strict text) (Err (no_value_of error))
unread Reads strict text Memory none = tt
unread Reads strict text (Syntax offset) none = (refl, none)

-- a text that reads as no Dictionary has no member
pub no_dict : (key text : List ℕ) (lack : Lack) → DictRow text (Err lack) → MemberRow key text (Err lack)
no_dict key text lack row = rw row.0 (refl, row.1)

-- the strict text of the member that is there
pub has_member : (key text : List ℕ) (dict : List (Pair Member)) (member : Member) (value : List ℕ) → ReadsDict text dict → value_of dict key ≡ Some member → value ≡ member_text member
    → MemberRow key text (Ok value)
has_member key text dict member value reads is value_is = (dict, reads, rw is value_is)

-- a member that is there can be printed
pub member_in_range : (key text : List ℕ) (dict : List (Pair Member)) (member : Member) → ReadsDict text dict → value_of dict key ≡ Some member → IsTrue (is_member_in_range member)
member_in_range key text dict member reads is =
    let fits = and_parts (have_distinct_keys dict) (list_all is_dict_member_in_range dict) (dict_read_in_range text dict reads) in
    let at = value_passes is_dict_member_in_range dict key member fits.1 is in
    ap is_member_in_range (sym at.2) ∙ (and_parts (is_key at.0.key) (is_member_in_range at.0.value) at.1).1
