-- Laws of heads, of trailer sections and of values.
use Rattle.std.specs.Prelude.{◌≡◌, ◌≢◌, ◌⊎◌, ◌↔◌, ℕ, ◌<◌, IsTrue, IsFalse, List, [], ◌∷◌, ◌++◌, length, take, reverse, codes}
use Rattle.std.specs.List.{list_all}
use Rattle.std.specs.Str.{byte}
use Rattle.byte_grammar.specs.Classes.{is_blank, is_line_byte}
use Rattle.byte_grammar.specs.Language.{starts_in}
use Rattle.msg_head.specs.Names.{has_name}
use Rattle.msg_head.specs.Cuts.{IsSection}
use Rattle.msg_head.specs.RawValues.{IsRaw}
use Rattle.msg_head.specs.Values.{IsLineValue, combined_value, has_bytes, is_there, value, values}
use Rattle.msg_head.specs.Heads.{Head, IsHead, IsHeadText, SpellsHead, IsUnfinished, head_text}
use Rattle.msg_head.specs.Causes.{IsHeadError}
use Rattle.msg_head.specs.Lines.{FieldLine}
use Rattle.msg_head.specs.Trailers.{SpellsTrailer, IsTrailerSection, IsTrailerUnfinished}
use Rattle.msg_head.specs.TrailerCauses.{IsTrailerError}
use Rattle.msg_head.specs.declared.error.HeadError.{HeadError}

-- Two heads that the same bytes begin with are one head of one length.
abbrev pub OneHead : Type 0
OneHead =
    (bytes : List ℕ) (one other : Head) (n m : ℕ) →
    SpellsHead one n bytes → SpellsHead other m bytes → (one ≡ other) × (n ≡ m)

-- A text is that of at most one head. It follows from `OneHead`, over the text alone.
abbrev pub OneHeadOfText : Type 0
OneHeadOfText =
    (bytes : List ℕ) (one other : Head) →
    IsHeadText one bytes → IsHeadText other bytes → one ≡ other

-- No head's text is a proper prefix of another head's text. It follows from `OneHead`, too.
abbrev pub NoHeadInPrefix : Type 0
NoHeadInPrefix =
    (one other : Head) (n : ℕ) →
    IsHead one → IsHead other → n < length (head_text other) →
    take n (head_text other) ≢ head_text one

-- A head ends at the first CRLF CRLF.
abbrev pub EndsAtFirstEnd : Type 0
EndsAtFirstEnd =
    (bytes : List ℕ) (head : Head) (used : ℕ) →
    SpellsHead head used bytes → IsSection bytes (take used bytes)

-- Bytes begin with a head, or have a fault, or the end of a head may still come.
abbrev pub EachHasAHeadAnswer : Type 0
EachHasAHeadAnswer =
    (bytes : List ℕ) →
    ((head : Head) × (used : ℕ) × SpellsHead head used bytes)
    ⊎ ((fault : HeadError) × IsHeadError bytes fault)
    ⊎ IsUnfinished bytes

-- Bytes have at most one fault.
abbrev pub OneHeadFault : Type 0
OneHeadFault =
    (bytes : List ℕ) (fault other : HeadError) →
    IsHeadError bytes fault → IsHeadError bytes other → fault ≡ other

-- Bytes that begin with a head have no fault.
abbrev pub NoFaultAtHead : Type 0
NoFaultAtHead =
    (bytes : List ℕ) (head : Head) (used : ℕ) (fault : HeadError) →
    SpellsHead head used bytes → ¬ IsHeadError bytes fault

-- Bytes to which the end of a head may still come have no fault, and begin with no head.
abbrev pub NoHeadAnswerYet : Type 0
NoHeadAnswerYet =
    (bytes : List ℕ) → IsUnfinished bytes →
    ((fault : HeadError) → ¬ IsHeadError bytes fault)
    × ((head : Head) (used : ℕ) → ¬ SpellsHead head used bytes)

-- ---- trailer sections

-- Two trailer sections that the same bytes begin with are one of one length.
abbrev pub OneTrailer : Type 0
OneTrailer =
    (bytes : List ℕ) (one other : List FieldLine) (n m : ℕ) →
    SpellsTrailer one n bytes → SpellsTrailer other m bytes → (one ≡ other) × (n ≡ m)

-- A trailer section is CRLF alone where the bytes begin with CRLF, and else the bytes up to and
-- with the first CRLF CRLF.
abbrev pub TrailerSectionIs : Type 0
TrailerSectionIs =
    (bytes section : List ℕ) →
    IsTrailerSection bytes section
    ↔ (((rest : List ℕ) × (bytes ≡ codes "\r\n" ++ rest) × (section ≡ codes "\r\n"))
    ⊎ (((rest : List ℕ) → bytes ≢ codes "\r\n" ++ rest) × IsSection bytes section))

-- A trailer section ends at its first empty line.
abbrev pub TrailerEndsAtFirstEnd : Type 0
TrailerEndsAtFirstEnd =
    (bytes : List ℕ) (lines : List FieldLine) (used : ℕ) →
    SpellsTrailer lines used bytes → IsTrailerSection bytes (take used bytes)

-- Bytes begin with a trailer section, or have a fault as one, or its end may still come.
abbrev pub EachHasATrailerAnswer : Type 0
EachHasATrailerAnswer =
    (bytes : List ℕ) →
    ((lines : List FieldLine) × (used : ℕ) × SpellsTrailer lines used bytes)
    ⊎ ((fault : HeadError) × IsTrailerError bytes fault)
    ⊎ IsTrailerUnfinished bytes

-- Bytes have at most one fault as a trailer section.
abbrev pub OneTrailerFault : Type 0
OneTrailerFault =
    (bytes : List ℕ) (fault other : HeadError) →
    IsTrailerError bytes fault → IsTrailerError bytes other → fault ≡ other

-- Bytes that begin with a trailer section have no fault as one.
abbrev pub NoFaultAtTrailer : Type 0
NoFaultAtTrailer =
    (bytes : List ℕ) (lines : List FieldLine) (used : ℕ) (fault : HeadError) →
    SpellsTrailer lines used bytes → ¬ IsTrailerError bytes fault

-- Bytes to which the end of a trailer section may still come have no fault as one, and begin with
-- none.
abbrev pub NoTrailerAnswerYet : Type 0
NoTrailerAnswerYet =
    (bytes : List ℕ) → IsTrailerUnfinished bytes →
    ((fault : HeadError) → ¬ IsTrailerError bytes fault)
    × ((lines : List FieldLine) (used : ℕ) → ¬ SpellsTrailer lines used bytes)

-- ---- values

-- A line's raw value has one value, the one that is computed.
abbrev pub RawHasOneValue : Type 0
RawHasOneValue = (raw text : List ℕ) → IsRaw raw → (IsLineValue raw text) ↔ (text ≡ value raw)

-- A text without folds that has no blank at either end is the value of the text after SP.
abbrev pub HasItsValueAfterSpace : Type 0
HasItsValueAfterSpace =
    (text : List ℕ) → IsTrue (list_all is_line_byte text) → IsTrue (has_bytes text)
    → IsFalse (starts_in is_blank text) → IsFalse (starts_in is_blank (reverse text))
    → value (byte " " ∷ text) ≡ text

-- ---- further lines

-- Further lines change nothing of a name that none of them has.
abbrev pub KeepsOtherNames : Type 0
KeepsOtherNames =
    (lines further : List FieldLine) (name : List ℕ) → IsFalse (is_there further name)
    → (is_there (lines ++ further) name ≡ is_there lines name)
    × (values (lines ++ further) name ≡ values lines name)

-- The value of a further line comes last, after a comma and a space where another line has the
-- name.
abbrev pub CombinesFurtherLine : Type 0
CombinesFurtherLine =
    (lines : List FieldLine) (line : FieldLine) (name : List ℕ) → IsTrue (has_name name line)
    → (IsTrue (is_there lines name) → combined_value (lines ++ line ∷ []) name
    ≡ combined_value lines name ++ (codes ", " ++ value line.raw))
    × (IsFalse (is_there lines name) → combined_value (lines ++ line ∷ []) name ≡ value line.raw)
