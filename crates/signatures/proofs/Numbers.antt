-- The numbers of the rules.
use Rattle.std.proofs.Common.{◌≡◌, lit≤, ℕ, List, [], ◌∷◌, get_or, refl, sym, ap, ◌∙◌}
use Rattle.signatures.specs.declared.rule.Rule.{Rule}
use Rattle.signatures.specs.declared.rule.Rule.TheVariants.{InputAbsent, InputMalformed, SignatureAbsent, SignatureMalformed, LabelNotInInput, LabelNotInSignature, InputNotList, SignatureNotBytes, ComponentsMany, ComponentBad, ComponentRepeated, ParameterBad, AlgRefused, AlgUnknown, KeyidAbsent, KeyUnknown, ComponentRequired, CreatedAbsent, CreatedAhead, TooOld, ExpiresAbsent, Expired, TagWrong, NonceAbsent, NonceRepeated, NonceLong, Absent, Ambiguous, Underivable, Unreadable, NotAscii, MacMismatch, Digest, NoncesFull}
use Rattle.signatures.specs.Words.{rule_number}
use Rattle.signatures.specs.Laws.{HasItsOwnNumber, HasNumber}

-- by its number, the rule; what stands for no rule is never asked for
abbrev rules : List Rule
rules =
    InputAbsent ∷ InputAbsent ∷ InputMalformed ∷ SignatureAbsent ∷ SignatureMalformed ∷ LabelNotInInput ∷ LabelNotInSignature ∷ InputNotList ∷ SignatureNotBytes ∷ ComponentsMany ∷ ComponentBad ∷ ComponentRepeated ∷ ParameterBad ∷ AlgRefused ∷ AlgUnknown ∷ KeyidAbsent ∷ KeyUnknown ∷ ComponentRequired ∷ CreatedAbsent ∷ CreatedAhead ∷ TooOld ∷ ExpiresAbsent ∷ Expired ∷ TagWrong ∷ NonceAbsent ∷ NonceRepeated ∷ NonceLong ∷ Absent ∷ Ambiguous ∷ Underivable ∷ Unreadable ∷ NotAscii ∷ MacMismatch ∷ Digest ∷ NoncesFull ∷ []

by_number : (rule : Rule) → get_or rules (rule_number rule) InputAbsent ≡ rule
by_number InputAbsent = refl
by_number InputMalformed = refl
by_number SignatureAbsent = refl
by_number SignatureMalformed = refl
by_number LabelNotInInput = refl
by_number LabelNotInSignature = refl
by_number InputNotList = refl
by_number SignatureNotBytes = refl
by_number ComponentsMany = refl
by_number ComponentBad = refl
by_number ComponentRepeated = refl
by_number ParameterBad = refl
by_number AlgRefused = refl
by_number AlgUnknown = refl
by_number KeyidAbsent = refl
by_number KeyUnknown = refl
by_number ComponentRequired = refl
by_number CreatedAbsent = refl
by_number CreatedAhead = refl
by_number TooOld = refl
by_number ExpiresAbsent = refl
by_number Expired = refl
by_number TagWrong = refl
by_number NonceAbsent = refl
by_number NonceRepeated = refl
by_number NonceLong = refl
by_number Absent = refl
by_number Ambiguous = refl
by_number Underivable = refl
by_number Unreadable = refl
by_number NotAscii = refl
by_number MacMismatch = refl
by_number Digest = refl
by_number NoncesFull = refl

pub has_its_own_number : HasItsOwnNumber
has_its_own_number rule other same = sym (by_number rule) ∙ (ap (λ (n : ℕ). get_or rules n InputAbsent) same ∙ by_number other)

pub has_number : HasNumber
has_number InputAbsent = (lit≤ tt, lit≤ tt)
has_number InputMalformed = (lit≤ tt, lit≤ tt)
has_number SignatureAbsent = (lit≤ tt, lit≤ tt)
has_number SignatureMalformed = (lit≤ tt, lit≤ tt)
has_number LabelNotInInput = (lit≤ tt, lit≤ tt)
has_number LabelNotInSignature = (lit≤ tt, lit≤ tt)
has_number InputNotList = (lit≤ tt, lit≤ tt)
has_number SignatureNotBytes = (lit≤ tt, lit≤ tt)
has_number ComponentsMany = (lit≤ tt, lit≤ tt)
has_number ComponentBad = (lit≤ tt, lit≤ tt)
has_number ComponentRepeated = (lit≤ tt, lit≤ tt)
has_number ParameterBad = (lit≤ tt, lit≤ tt)
has_number AlgRefused = (lit≤ tt, lit≤ tt)
has_number AlgUnknown = (lit≤ tt, lit≤ tt)
has_number KeyidAbsent = (lit≤ tt, lit≤ tt)
has_number KeyUnknown = (lit≤ tt, lit≤ tt)
has_number ComponentRequired = (lit≤ tt, lit≤ tt)
has_number CreatedAbsent = (lit≤ tt, lit≤ tt)
has_number CreatedAhead = (lit≤ tt, lit≤ tt)
has_number TooOld = (lit≤ tt, lit≤ tt)
has_number ExpiresAbsent = (lit≤ tt, lit≤ tt)
has_number Expired = (lit≤ tt, lit≤ tt)
has_number TagWrong = (lit≤ tt, lit≤ tt)
has_number NonceAbsent = (lit≤ tt, lit≤ tt)
has_number NonceRepeated = (lit≤ tt, lit≤ tt)
has_number NonceLong = (lit≤ tt, lit≤ tt)
has_number Absent = (lit≤ tt, lit≤ tt)
has_number Ambiguous = (lit≤ tt, lit≤ tt)
has_number Underivable = (lit≤ tt, lit≤ tt)
has_number Unreadable = (lit≤ tt, lit≤ tt)
has_number NotAscii = (lit≤ tt, lit≤ tt)
has_number MacMismatch = (lit≤ tt, lit≤ tt)
has_number Digest = (lit≤ tt, lit≤ tt)
has_number NoncesFull = (lit≤ tt, lit≤ tt)
