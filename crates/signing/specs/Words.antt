-- What faults say.
use Rattle.std.specs.Prelude.{ℕ, nat_eq, List, ◌++◌, ◌∷◌, codes, if◌then◌else◌}
use Rattle.std.specs.Fmt.{decimal}
use Rattle.std.specs.Str.{byte}
use Rattle.derived_values.specs.Words.{lack_word}
use Rattle.msg_head.specs.declared.limits.TheConstants.{MAX_HEAD_BYTES, MAX_HEAD_LINES}
use Rattle.signing.specs.declared.fault.SignFault.{SignFault}
use Rattle.signing.specs.declared.fault.SignFault.TheVariants as sign
use Rattle.signing.specs.declared.fault.WantFault.{WantFault}
use Rattle.signing.specs.declared.fault.WantFault.TheVariants as want

-- the limit of a head's bytes, of its lines, or of a message's bytes
abbrev pub limit_word : ℕ → List ℕ
limit_word limit =
    if nat_eq limit MAX_HEAD_BYTES then codes "signed-head"
    else if nat_eq limit MAX_HEAD_LINES then codes "signed-lines"
    else codes "signed-bytes"

-- why a message isn't signed
abbrev pub sign_fault_text : SignFault → List ℕ
sign_fault_text sign.Memory = codes "out of memory"
sign_fault_text sign.InputMalformed = codes "input-malformed"
sign_fault_text sign.SignatureMalformed = codes "signature-malformed"
sign_fault_text sign.LabelThere = codes "label-there"
sign_fault_text (sign.SelfCover index) = codes "self-cover " ++ decimal index
sign_fault_text (sign.TooLong limit) = limit_word limit ++ byte " " ∷ decimal limit
sign_fault_text (sign.Lacks index lack) = lack_word lack ++ byte " " ∷ decimal index

-- why wishes aren't met
abbrev pub want_fault_text : WantFault → List ℕ
want_fault_text want.Memory = codes "out of memory"
want_fault_text want.Absent = codes "wanted-absent"
want_fault_text want.Malformed = codes "wanted-malformed"
want_fault_text (want.NotInnerList index) = codes "wanted-list " ++ decimal index
want_fault_text (want.Ids index fault) = codes "wanted-ids " ++ decimal index
want_fault_text (want.Parameter index) = codes "wanted-parameter " ++ decimal index
want_fault_text (want.AlgRefused index) = codes "wanted-alg-refused " ++ decimal index
want_fault_text (want.AlgUnknown index) = codes "wanted-alg-unknown " ++ decimal index
want_fault_text (want.KeyUnknown index) = codes "wanted-key " ++ decimal index
