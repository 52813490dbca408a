-- The numbers and the words of the rules, and what faults say.
use Rattle.std.specs.Prelude.{ℕ, List, [], ◌++◌, ◌∷◌, codes}
use Rattle.std.specs.Fmt.{decimal}
use Rattle.std.specs.Str.{byte}
use Rattle.byte_grammar.specs.Displayed.{displayed}
use Rattle.component_ids.specs.Reasons.{word_of}
use Rattle.content_digest.specs.Algorithms.{key_of}
use Rattle.signatures.specs.declared.place.DigestReason.{DigestReason}
use Rattle.signatures.specs.declared.place.DigestReason.TheVariants.{Uncovered, Malformed, NoneKnown, Mismatch}
use Rattle.signatures.specs.declared.place.Place.{Place}
use Rattle.signatures.specs.declared.place.Place.TheVariants.{None as Nowhere, Index, Component, Name, Identifier, Digest as DigestPlace}
use Rattle.signatures.specs.declared.rule.Rule.{Rule}
use Rattle.signatures.specs.declared.rule.Rule.TheVariants.{InputAbsent, InputMalformed, SignatureAbsent, SignatureMalformed, LabelNotInInput, LabelNotInSignature, InputNotList, SignatureNotBytes, ComponentsMany, ComponentBad, ComponentRepeated, ParameterBad, AlgRefused, AlgUnknown, KeyidAbsent, KeyUnknown, ComponentRequired, CreatedAbsent, CreatedAhead, TooOld, ExpiresAbsent, Expired, TagWrong, NonceAbsent, NonceRepeated, NonceLong, Absent, Ambiguous, Underivable, Unreadable, NotAscii, MacMismatch, Digest, NoncesFull}
use Rattle.signatures.specs.declared.label.LabelFault.{LabelFault}
use Rattle.signatures.specs.declared.label.LabelFault.TheVariants as fault

-- the number of a rule, by which the rules are ordered
abbrev pub rule_number : Rule → ℕ
rule_number InputAbsent = 1
rule_number InputMalformed = 2
rule_number SignatureAbsent = 3
rule_number SignatureMalformed = 4
rule_number LabelNotInInput = 5
rule_number LabelNotInSignature = 6
rule_number InputNotList = 7
rule_number SignatureNotBytes = 8
rule_number ComponentsMany = 9
rule_number ComponentBad = 10
rule_number ComponentRepeated = 11
rule_number ParameterBad = 12
rule_number AlgRefused = 13
rule_number AlgUnknown = 14
rule_number KeyidAbsent = 15
rule_number KeyUnknown = 16
rule_number ComponentRequired = 17
rule_number CreatedAbsent = 18
rule_number CreatedAhead = 19
rule_number TooOld = 20
rule_number ExpiresAbsent = 21
rule_number Expired = 22
rule_number TagWrong = 23
rule_number NonceAbsent = 24
rule_number NonceRepeated = 25
rule_number NonceLong = 26
rule_number Absent = 27
rule_number Ambiguous = 28
rule_number Underivable = 29
rule_number Unreadable = 30
rule_number NotAscii = 31
rule_number MacMismatch = 32
rule_number Digest = 33
rule_number NoncesFull = 34

-- the word of a rule, by which output names it
abbrev pub rule_word : Rule → List ℕ
rule_word InputAbsent = codes "input-absent"
rule_word InputMalformed = codes "input-malformed"
rule_word SignatureAbsent = codes "signature-absent"
rule_word SignatureMalformed = codes "signature-malformed"
rule_word LabelNotInInput = codes "label-not-in-input"
rule_word LabelNotInSignature = codes "label-not-in-signature"
rule_word InputNotList = codes "input-not-list"
rule_word SignatureNotBytes = codes "signature-not-bytes"
rule_word ComponentsMany = codes "components-many"
rule_word ComponentBad = codes "component-bad"
rule_word ComponentRepeated = codes "component-repeated"
rule_word ParameterBad = codes "parameter-bad"
rule_word AlgRefused = codes "alg-refused"
rule_word AlgUnknown = codes "alg-unknown"
rule_word KeyidAbsent = codes "keyid-absent"
rule_word KeyUnknown = codes "key-unknown"
rule_word ComponentRequired = codes "component-required"
rule_word CreatedAbsent = codes "created-absent"
rule_word CreatedAhead = codes "created-ahead"
rule_word TooOld = codes "too-old"
rule_word ExpiresAbsent = codes "expires-absent"
rule_word Expired = codes "expired"
rule_word TagWrong = codes "tag-wrong"
rule_word NonceAbsent = codes "nonce-absent"
rule_word NonceRepeated = codes "nonce-repeated"
rule_word NonceLong = codes "nonce-long"
rule_word Absent = codes "absent"
rule_word Ambiguous = codes "ambiguous"
rule_word Underivable = codes "underivable"
rule_word Unreadable = codes "unreadable"
rule_word NotAscii = codes "not-ascii"
rule_word MacMismatch = codes "mac-mismatch"
rule_word Digest = codes "digest"
rule_word NoncesFull = codes "nonces-full"

-- the word of a reason of the rule of the digest
abbrev pub reason_word : DigestReason → List ℕ
reason_word Uncovered = codes "uncovered"
reason_word Malformed = codes "malformed"
reason_word NoneKnown = codes "none-known"
reason_word (Mismatch algorithm) = codes "mismatch " ++ key_of algorithm

-- where a rule fails, after a space; a component by its name alone
abbrev pub displayed_place : Place → List ℕ
displayed_place Nowhere = []
displayed_place (Index index) = byte " " ∷ decimal index
displayed_place (Component index reason) =
    byte " " ∷ (decimal index ++ byte " " ∷ word_of reason)
displayed_place (Name text) = byte " " ∷ displayed text
displayed_place (Identifier id) = byte " " ∷ displayed id.name
displayed_place (DigestPlace reason) = byte " " ∷ reason_word reason

-- what a fault says
abbrev pub label_fault_text : LabelFault → List ℕ
label_fault_text fault.Memory = codes "out of memory"
label_fault_text (fault.Rule rule place) =
    codes "rule " ++ (decimal (rule_number rule)
    ++ byte " " ∷ (rule_word rule ++ displayed_place place))
