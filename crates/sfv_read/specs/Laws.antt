-- Laws of the texts that are read.
use Rattle.std.specs.Prelude.{◌≡◌, ◌↔◌, ◌⊎◌, ℕ, Bool, List, [], ◌++◌, IsTrue, IsFalse, reverse, codes}
use Rattle.byte_grammar.specs.Classes.{is_blank}
use Rattle.byte_grammar.specs.FaultOffset.{IsFaultOffset}
use Rattle.byte_grammar.specs.Language.{starts_in}
use Rattle.sfv_text.specs.Keys.{put}
use Rattle.sfv_text.specs.Range.{is_dict_member_in_range}
use Rattle.sfv_text.specs.Strict.{dict_member_text, item_text, list_text}
use Rattle.sfv_text.specs.declared.pair.Pair.{Pair}
use Rattle.sfv_text.specs.declared.value.Item.{Item}
use Rattle.sfv_text.specs.declared.value.Member.{Member}
use Rattle.sfv_read.specs.Fault.{IsSfError}
use Rattle.sfv_read.specs.Member.{IsDictMember}
use Rattle.sfv_read.specs.Reads.{ReadsItem, ReadsList, ReadsDict}
use Rattle.sfv_read.specs.declared.error.SfError.{SfError}
use Rattle.sfv_read.specs.declared.error.SfError.TheVariants.{Memory}

-- a text has at most one value
abbrev pub HasOneValue : {V : Type 0} → (List ℕ → V → Type 0) → Type 0
HasOneValue {V} L = (text : List ℕ) (v w : V) → L text v → L text w → v ≡ w

-- out of memory aside, a text has at most one fault, and none where it has a value
pub record HasOneAnswer {V : Type 0} (L : List ℕ → V → Type 0) : Type 0 where
  pub one_fault : (text : List ℕ) (e f : SfError) → IsSfError L text e → IsSfError L text f
      → ¬ (e ≡ Memory) → ¬ (f ≡ Memory) → e ≡ f
  pub no_fault : (text : List ℕ) (v : V) (e : SfError) → L text v → IsSfError L text e → e ≡ Memory

-- each text has a value or none
abbrev pub HasValueOrNone : {V : Type 0} → (List ℕ → V → Type 0) → Type 0
HasValueOrNone {V} L = (text : List ℕ) → ((v : V) × L text v) ⊎ ((v : V) → ¬ L text v)

-- A text that has no value has an offset of its first fault, and a fault other than being out of
-- memory.
pub record HasFault {V : Type 0} (L : List ℕ → V → Type 0) : Type 0 where
  pub offset : (text : List ℕ) → ((v : V) → ¬ L text v) → (offset : ℕ) × IsFaultOffset L text offset
  pub fault : (text : List ℕ) → ((v : V) → ¬ L text v)
      → (e : SfError) × IsSfError L text e × ¬ (e ≡ Memory)

-- what is read passes the test
abbrev pub ReadsOnly : {V : Type 0} → (List ℕ → V → Type 0) → (V → Bool) → Type 0
ReadsOnly {V} L test = (text : List ℕ) (v : V) → L text v → IsTrue (test v)

-- the text of a value that passes the test reads as that value
abbrev pub ReadsBack : {V : Type 0}
    → (List ℕ → V → Type 0) → (V → Bool) → (V → List ℕ) → Type 0
ReadsBack {V} L test text_of = (v : V) → IsTrue (test v) → L (text_of v) v

-- values that pass the test are equal exactly where their texts are
abbrev pub HasDistinctTexts : {V : Type 0} → (V → Bool) → (V → List ℕ) → Type 0
HasDistinctTexts {V} test text_of =
    (v w : V) → IsTrue (test v) → IsTrue (test w) → (text_of v ≡ text_of w) ↔ (v ≡ w)

-- ---- a further member

-- After a Dictionary that has members, a comma, SP and the strict text of a member put its value at
-- its key.
abbrev pub ReadsFurtherMember : Type 0
ReadsFurtherMember =
    (text : List ℕ) (dict : List (Pair Member)) (member : Pair Member) → ReadsDict text dict
    → ¬ (dict ≡ []) → IsTrue (is_dict_member_in_range member)
    → ReadsDict (text ++ (codes ", " ++ dict_member_text member)) (put dict member.key member.value)

-- so does any other text of a member
abbrev pub ReadsFurtherText : Type 0
ReadsFurtherText =
    (text more : List ℕ) (dict : List (Pair Member)) (member : Pair Member) → ReadsDict text dict
    → ¬ (dict ≡ []) → IsDictMember more member
    → ReadsDict (text ++ (codes ", " ++ more)) (put dict member.key member.value)

-- the strict text of a member has no blank at either end
abbrev pub HasNoBlankEnds : Type 0
HasNoBlankEnds =
    (member : Pair Member) → IsTrue (is_dict_member_in_range member)
    → IsFalse (starts_in is_blank (dict_member_text member))
    × IsFalse (starts_in is_blank (reverse (dict_member_text member)))

-- ---- texts that read as the same Dictionary

-- both texts read as the same Dictionaries
abbrev pub ReadAlike : List ℕ → List ℕ → Type 0
ReadAlike one other = (dict : List (Pair Member)) → ReadsDict one dict ↔ ReadsDict other dict

-- The strict text of what a text reads as, be it an Item or a List, reads as a Dictionary where the
-- text does, and as the same.
pub record ReadsAsSameDict : Type 0 where
  pub item : (text : List ℕ) (item : Item) → ReadsItem text item → ReadAlike text (item_text item)
  pub list : (text : List ℕ) (list : List Member) → ReadsList text list
      → ReadAlike text (list_text list)
