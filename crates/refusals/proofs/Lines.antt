-- The line of a refusal has one LF.
use Rattle.std.proofs.Common.{◌≡◌, ℕ, zero, suc, Bool, true, false, ◌/◌, ◌%◌, nat_lt, nat_eq, ◌==◌, ◌++◌, List, [], ◌∷◌, codes, if◌then◌else◌, refl, sym, append_assoc, arith, inl, inr}
use Rattle.std.specs.Fmt.{decimal, digit_glyph, digits, digits_onto}
use Rattle.std.specs.List.{list_all}
use Rattle.std.proofs.lemmas.Bool.{and_from, cases_Bool}
use Rattle.std.proofs.lemmas.Bool.Decides.{nat_tests}
use Rattle.byte_grammar.specs.Classes.{is_line_byte}
use Rattle.byte_grammar.proofs.ListLaws.{all_joined}
use Rattle.derived_values.specs.Words.{lack_word}
use Rattle.derived_values.specs.declared.lack.Lack.{Lack}
use Rattle.derived_values.specs.declared.lack.Lack.TheVariants as lack
use Rattle.field_lists.specs.Words.{from_fault_text, limit_text, to_fault_text}
use Rattle.field_lists.specs.declared.from_fault.FromFault.{FromFault}
use Rattle.field_lists.specs.declared.from_fault.FromFault.TheVariants as from
use Rattle.field_lists.specs.declared.to_fault.MessageLimit.{MessageLimit}
use Rattle.field_lists.specs.declared.to_fault.MessageLimit.TheVariants.{HeadBytes, TrailerBytes, HeadLines, TrailerLines}
use Rattle.field_lists.specs.declared.to_fault.ToFault.{ToFault}
use Rattle.field_lists.specs.declared.to_fault.ToFault.TheVariants as to
use Rattle.list_texts.specs.Words.{fields_fault_text}
use Rattle.list_texts.specs.declared.fault.FieldsFault.{FieldsFault}
use Rattle.list_texts.specs.declared.fault.FieldsFault.TheVariants as fields
use Rattle.msg_head.specs.declared.error.Side.{Side}
use Rattle.msg_head.specs.declared.error.Side.TheVariants.{Header, Trailer}
use Rattle.msg_head.specs.Words.{side_text}
use Rattle.msg_body.specs.Words.{message_error_text, message_fault_text}
use Rattle.msg_body.specs.declared.error.MessageError.{MessageError}
use Rattle.msg_body.specs.declared.error.MessageError.TheVariants as error
use Rattle.msg_body.specs.declared.error.MessageFault.{MessageFault}
use Rattle.msg_body.specs.declared.error.MessageFault.TheVariants as fault
use Rattle.conf.specs.Refusals.{fault_number, fault_path}
use Rattle.normal_forms.specs.Agreement.{fixed_name}
use Rattle.normal_forms.specs.Words.{basis_text, explain_fault_text, side_letter}
use Rattle.normal_forms.specs.declared.basis.Basis.{Basis}
use Rattle.normal_forms.specs.declared.basis.Basis.TheVariants as basis
use Rattle.normal_forms.specs.declared.basis.FixedName.{FixedName}
use Rattle.normal_forms.specs.declared.basis.FixedName.TheVariants as fixed
use Rattle.normal_forms.specs.declared.fault.ExplainFault.{ExplainFault}
use Rattle.normal_forms.specs.declared.fault.ExplainFault.TheVariants as explain
use Rattle.recording.specs.Words.{recording_fault_text}
use Rattle.recording.specs.declared.fault.RecordingFault.{RecordingFault}
use Rattle.recording.specs.declared.fault.RecordingFault.TheVariants as recording
use Rattle.rewrite_script.specs.Words.{script_fault_text}
use Rattle.rewrite_script.specs.declared.fault.ScriptFault.{ScriptFault}
use Rattle.rewrite_script.specs.declared.fault.ScriptFault.TheVariants as script
use Rattle.signing.specs.Words.{limit_word, sign_fault_text, want_fault_text}
use Rattle.signing.specs.declared.fault.SignFault.{SignFault}
use Rattle.signing.specs.declared.fault.SignFault.TheVariants as sign
use Rattle.signing.specs.declared.fault.WantFault.{WantFault}
use Rattle.signing.specs.declared.fault.WantFault.TheVariants as want
use Rattle.refusals.specs.Laws.{IsLineOfRefusal, is_clean, is_clean_command, is_clean_file}
use Rattle.refusals.specs.Refusal.{command_text, digest_text, refusal_text, step_text}
use Rattle.refusals.specs.Texts.{file_text, path_text, role_text}
use Rattle.refusals.specs.declared.file.FileRefusal.{FileRefusal}
use Rattle.refusals.specs.declared.file.FileRefusal.TheVariants.{Missing, TooLong, Message, Conf, Script, Recording, Order, TooManyHops, OutOfPlace, TooManyItems, Fields}
use Rattle.refusals.specs.declared.refusal.CommandRefusal.{CommandRefusal}
use Rattle.refusals.specs.declared.refusal.CommandRefusal.TheVariants.{Syntax, Ids, Lacks, Sign, Wishes, NotTaken, Explain, ToMessage, FromMessage, Digest}
use Rattle.refusals.specs.declared.refusal.Refusal.{Refusal}
use Rattle.refusals.specs.declared.refusal.Refusal.TheVariants.{Arguments, Of, Command}
use Rattle.refusals.specs.declared.refusal.DigestRefusal.{DigestRefusal}
use Rattle.refusals.specs.declared.refusal.DigestRefusal.TheVariants.{Malformed, Unacceptable, Unmet}
use Rattle.refusals.specs.declared.refusal.StepRefusal.{StepRefusal}
use Rattle.refusals.specs.declared.refusal.StepRefusal.TheVariants.{LabelUnread, NotApplicable, NotPermitted}
use Rattle.refusals.specs.declared.role.Role.{Role}
use Rattle.refusals.specs.declared.role.Role.TheVariants as role

-- the text has neither NUL, CR nor LF
abbrev IsClean : List ℕ → Type 0
IsClean text = list_all is_line_byte text ≡ true

-- ---- numbers

glyph_clean : (d : ℕ) → is_line_byte (digit_glyph false d) ≡ true
glyph_clean d = elim (cases_Bool (nat_lt d 10)) [
  | inl digit ↦ rw digit (grind (arith, nat_tests))
  | inr letter ↦ rw letter (grind (arith, nat_tests))
]

onto_clean : (k n : ℕ) (acc : List ℕ) → IsClean acc → IsClean (digits_onto k 10 false n acc)
onto_clean zero n acc clean = clean
onto_clean (suc k) n acc clean =
    let more : IsClean (digit_glyph false (n % 10) ∷ acc) = and_from (is_line_byte (digit_glyph false (n % 10))) (list_all is_line_byte acc) (glyph_clean (n % 10)) clean in
    elim (cases_Bool (n / 10 == 0)) [
      | inl last ↦ rw last more
      | inr other ↦ rw other (onto_clean k (n / 10) (digit_glyph false (n % 10) ∷ acc) more)
    ]

pub number_clean : (n : ℕ) → IsClean (decimal n)
unfolding digits
number_clean n = onto_clean 64 n [] refl

-- a word and a number
joined : (a b : List ℕ) → IsClean a → IsClean b → IsClean (a ++ b)
joined a b x y = all_joined is_line_byte a b x y

worded : (word : List ℕ) (n : ℕ) → IsClean word → IsClean (word ++ decimal n)
worded word n clean = joined word (decimal n) clean (number_clean n)

-- ---- words

lack_clean : (how : Lack) → IsClean (lack_word how)
lack_clean lack.Absent = refl
lack_clean lack.Ambiguous = refl
lack_clean lack.Underivable = refl
lack_clean lack.Unreadable = refl
lack_clean lack.NotAscii = refl

side_clean : (side : Side) → IsClean (side_text side)
side_clean Header = refl
side_clean Trailer = refl

error_clean : (e : MessageError) → IsClean (message_error_text e)
error_clean error.Memory = refl
error_clean (error.TooLong side) = joined (side_text side) _ (side_clean side) (worded (codes "-bytes ") _ refl)
error_clean (error.NakedEnd offset) = worded (codes "naked-end ") offset refl
error_clean error.BadStart = refl
error_clean (error.TooManyLines side) = joined (side_text side) _ (side_clean side) (worded (codes "-lines ") _ refl)
error_clean (error.BadLine side index) = joined (side_text side) _ (side_clean side) (worded (codes "-line ") index refl)
error_clean error.FramingConflict = refl
error_clean error.BadLength = refl
error_clean error.CodingRefused = refl
error_clean (error.BadChunk offset) = worded (codes "chunk ") offset refl
error_clean error.ContentTooLong = worded (codes "content ") _ refl

message_clean : (f : MessageFault) → IsClean (message_fault_text f)
message_clean (fault.Refused e) = error_clean e
message_clean (fault.Truncated count) = worded (codes "truncated ") count refl
message_clean (fault.Trailing offset) = worded (codes "trailing ") offset refl

script_clean : (f : ScriptFault) → IsClean (script_fault_text f)
script_clean script.Memory = refl
script_clean script.TooMany = worded (codes "steps ") _ refl
script_clean (script.BadLine index) = worded (codes "script-line ") index refl

recording_clean : (f : RecordingFault) → IsClean (recording_fault_text f)
recording_clean recording.Memory = refl
recording_clean (recording.Syntax offset) = worded (codes "recording ") offset refl
recording_clean (recording.ItemTooLong offset) = worded (codes "item ") _ refl
recording_clean (recording.MomentFalls offset) = worded (codes "moment ") offset refl

fields_clean : (f : FieldsFault) → IsClean (fields_fault_text f)
fields_clean fields.Memory = refl
fields_clean (fields.Syntax offset) = worded (codes "fields ") offset refl
fields_clean (fields.TooLong offset) = worded (codes "fields-long ") offset refl

file_clean : (refusal : FileRefusal) → is_clean_file refusal ≡ true → IsClean (file_text refusal)
file_clean Missing clean = refl
file_clean (TooLong limit) clean = worded (codes "bytes ") limit refl
file_clean (Message f) clean = message_clean f
file_clean (Conf f) clean = joined (decimal (fault_number f)) (path_text (fault_path f)) (number_clean (fault_number f)) clean
file_clean (Script f) clean = script_clean f
file_clean (Recording f) clean = recording_clean f
file_clean (Order offset) clean = worded (codes "chain ") offset refl
file_clean (TooManyHops limit) clean = worded (codes "hops ") limit refl
file_clean (OutOfPlace offset) clean = worded (codes "chain ") offset refl
file_clean (TooManyItems limit) clean = worded (codes "items ") limit refl
file_clean (Fields f) clean = fields_clean f

role_clean : (r : Role) → IsClean (role_text r)
role_clean role.Conf = refl
role_clean role.Request = refl
role_clean role.Wanted = refl
role_clean role.Script = refl
role_clean role.Other = refl
role_clean role.Input = refl
role_clean (role.Item index) = worded (codes "item ") index refl

limit_clean : (limit : ℕ) → IsClean (limit_word limit)
limit_clean limit = by_tests (nat_eq limit _) (nat_eq limit _)
  where
    by_tests : (a b : Bool) → IsClean (if a then codes "signed-head" else if b then codes "signed-lines" else codes "signed-bytes")
    by_tests true b = refl
    by_tests false true = refl
    by_tests false false = refl

sign_clean : (f : SignFault) → IsClean (sign_fault_text f)
sign_clean sign.Memory = refl
sign_clean sign.InputMalformed = refl
sign_clean sign.SignatureMalformed = refl
sign_clean sign.LabelThere = refl
sign_clean (sign.SelfCover index) = worded (codes "self-cover ") index refl
sign_clean (sign.TooLong limit) = joined (limit_word limit) _ (limit_clean limit) (worded (codes " ") limit refl)
sign_clean (sign.Lacks index how) = joined (lack_word how) _ (lack_clean how) (worded (codes " ") index refl)

want_clean : (f : WantFault) → IsClean (want_fault_text f)
want_clean want.Memory = refl
want_clean want.Absent = refl
want_clean want.Malformed = refl
want_clean (want.NotInnerList index) = worded (codes "wanted-list ") index refl
want_clean (want.Ids index f) = worded (codes "wanted-ids ") index refl
want_clean (want.Parameter index) = worded (codes "wanted-parameter ") index refl
want_clean (want.AlgRefused index) = worded (codes "wanted-alg-refused ") index refl
want_clean (want.AlgUnknown index) = worded (codes "wanted-alg-unknown ") index refl
want_clean (want.KeyUnknown index) = worded (codes "wanted-key ") index refl

step_clean : (refusal : StepRefusal) → IsClean (step_text refusal)
step_clean LabelUnread = refl
step_clean (NotApplicable index) = worded (codes "not-applicable ") index refl
step_clean (NotPermitted index) = worded (codes "not-permitted ") index refl

letter_clean : (side : Side) → IsClean (side_letter side)
letter_clean Header = refl
letter_clean Trailer = refl

fixed_clean : (name : FixedName) → IsClean (fixed_name name)
fixed_clean fixed.Host = refl
fixed_clean fixed.ContentLength = refl
fixed_clean fixed.TransferEncoding = refl
fixed_clean fixed.Signature = refl
fixed_clean fixed.SignatureInput = refl

basis_clean : (b : Basis) → IsClean (basis_text b)
basis_clean basis.StartLine = refl
basis_clean basis.Content = refl
basis_clean (basis.Field side name) = joined (side_letter side) _ (letter_clean side) (joined (codes " ") (fixed_name name) refl (fixed_clean name))

explain_clean : (f : ExplainFault) → IsClean (explain_fault_text f)
explain_clean explain.Memory = refl
explain_clean explain.Unread = refl
explain_clean (explain.NotPlain index) = worded (codes "not-plain ") index refl
explain_clean (explain.OtherBasis b) = joined (codes "basis ") (basis_text b) refl (basis_clean b)

part_clean : (limit : MessageLimit) → IsClean (limit_text limit)
part_clean HeadBytes = worded (codes "head-bytes ") _ refl
part_clean TrailerBytes = worded (codes "trailer-bytes ") _ refl
part_clean HeadLines = worded (codes "head-lines ") _ refl
part_clean TrailerLines = worded (codes "trailer-lines ") _ refl

to_clean : (f : ToFault) → IsClean (to_fault_text f)
to_clean to.Memory = refl
to_clean to.Pseudo = refl
to_clean to.SchemeOther = refl
to_clean (to.BadField index) = worded (codes "fields-line ") index refl
to_clean to.BadLength = refl
to_clean to.BodyRefused = refl
to_clean (to.TooLarge limit) = part_clean limit

from_clean : (f : FromFault) → IsClean (from_fault_text f)
from_clean from.Memory = refl
from_clean from.NoForm = refl
from_clean from.NoAuthority = refl

digest_clean : (cause : DigestRefusal) → IsClean (digest_text cause)
digest_clean Malformed = refl
digest_clean Unacceptable = refl
digest_clean Unmet = refl

command_clean : (refusal : CommandRefusal) → is_clean_command refusal ≡ true → IsClean (command_text refusal)
command_clean (Syntax offset) clean = worded (codes "params-syntax ") offset refl
command_clean (Ids f) clean = clean
command_clean (Lacks how id) clean = joined (lack_word how) _ (lack_clean how) (joined (codes " ") id refl clean)
command_clean (Sign f) clean = sign_clean f
command_clean (Wishes f) clean = want_clean f
command_clean (NotTaken cause) clean = step_clean cause
command_clean (Explain f) clean = explain_clean f
command_clean (ToMessage f) clean = to_clean f
command_clean (FromMessage f) clean = from_clean f
command_clean (Digest cause) clean = digest_clean cause

-- ---- the line

text_clean : (refusal : Refusal) → is_clean refusal ≡ true → IsClean (refusal_text refusal)
text_clean Arguments clean = refl
text_clean (Of r refusal) clean = joined (role_text r ++ codes " ") (file_text refusal) (joined (role_text r) (codes " ") (role_clean r) refl) (file_clean refusal clean)
text_clean (Command refusal) clean = joined (codes "command ") (command_text refusal) refl (command_clean refusal clean)

pub is_line_of_refusal : IsLineOfRefusal
is_line_of_refusal refusal clean = record {
  line = codes "refused " ++ refusal_text refusal;
  text_is = sym (append_assoc (codes "refused ") (refusal_text refusal) (codes "\n"));
  clean = joined (codes "refused ") (refusal_text refusal) refl (text_clean refusal clean);
}
