-- A line of a report has one LF, at its end.
use Rattle.std.proofs.Common.{◌≡◌, ℕ, zero, suc, Bool, true, false, ◌/◌, ◌%◌, nat_lt, ◌==◌, ◌++◌, Option, Some, None, List, [], ◌∷◌, codes, refl, sym, ap, subst, ◌∙◌, append_assoc, arith, inl, inr}
use Rattle.std.specs.Fmt.{decimal, digit_glyph, digits, digits_onto}
use Rattle.std.specs.List.{list_all}
use Rattle.std.proofs.lemmas.Bool.{and_from, and_parts, cases_Bool}
use Rattle.std.proofs.lemmas.Bool.Decides.{nat_tests}
use Rattle.byte_grammar.specs.Classes.{is_line_byte}
use Rattle.byte_grammar.proofs.ListLaws.{all_joined}
use Rattle.component_ids.specs.Identifiers.{id_text}
use Rattle.component_ids.specs.Reasons.{word_of}
use Rattle.component_ids.specs.declared.fault.BadReason.{BadReason}
use Rattle.component_ids.specs.declared.fault.BadReason.TheVariants as reason
use Rattle.content_digest.specs.declared.algorithm.Algorithm.TheVariants as algorithm
use Rattle.signatures.specs.Words.{reason_word, rule_number, rule_word}
use Rattle.signatures.specs.declared.place.DigestReason.{DigestReason}
use Rattle.signatures.specs.declared.place.DigestReason.TheVariants as digest
use Rattle.signatures.specs.declared.place.Place.{Place}
use Rattle.signatures.specs.declared.place.Place.TheVariants.{None as Nowhere, Index, Component, Name, Identifier, Digest as DigestPlace}
use Rattle.signatures.specs.declared.rule.Rule.{Rule}
use Rattle.signatures.specs.declared.rule.Rule.TheVariants as rule
use Rattle.verdicts.specs.VerdictLine.{place_text, verdict_text}
use Rattle.verdicts.specs.declared.outcome.Verdict.{Verdict}
use Rattle.verdicts.specs.declared.outcome.Verdict.TheVariants.{Ok as Accepted, Rule as Failing}
use Rattle.hop_audit.specs.declared.line.AuditLine.TheVariants.{Message, Hop, Unread, Label}
use Rattle.hop_audit.specs.declared.line.Fate.{Fate}
use Rattle.hop_audit.specs.declared.line.Fate.TheVariants.{Dropped, Changed, Lacking, Kept}
use Rattle.hop_audit.specs.Laws.{HasOneLf, IsLine, is_clean_fate, is_clean_place, is_clean_verdict}
use Rattle.hop_audit.specs.Lines.{explanation_text, fate_text, permission_word}

-- the text has neither NUL, CR nor LF
abbrev IsClean : List ℕ → Type 0
IsClean text = list_all is_line_byte text ≡ true

joined : (a b : List ℕ) → IsClean a → IsClean b → IsClean (a ++ b)
joined a b x y = all_joined is_line_byte a b x y

-- a space before a text
spaced : (text : List ℕ) → IsClean text → IsClean (32 ∷ text)
spaced text clean = joined (codes " ") text refl clean

-- ---- numbers

glyph_clean : (d : ℕ) → is_line_byte (digit_glyph false d) ≡ true
glyph_clean d = elim (cases_Bool (nat_lt d 10)) [
  | inl digit ↦ rw digit (grind (arith, nat_tests))
  | inr letter ↦ rw letter (grind (arith, nat_tests))
]

onto_clean : (k n : ℕ) (acc : List ℕ) → IsClean acc → IsClean (digits_onto k 10 false n acc)
onto_clean zero n acc clean = clean
onto_clean (suc k) n acc clean =
    let more : IsClean (digit_glyph false (n % 10) ∷ acc) = and_from (is_line_byte (digit_glyph false (n % 10))) (list_all is_line_byte acc) (glyph_clean (n % 10)) clean in
    elim (cases_Bool (n / 10 == 0)) [
      | inl last ↦ rw last more
      | inr other ↦ rw other (onto_clean k (n / 10) (digit_glyph false (n % 10) ∷ acc) more)
    ]

number_clean : (n : ℕ) → IsClean (decimal n)
unfolding digits
number_clean n = onto_clean 64 n [] refl

-- ---- verdicts

reason_clean : (r : BadReason) → IsClean (word_of r)
reason_clean reason.NotAString = refl
reason_clean reason.Name = refl
reason_clean reason.ParameterUnknown = refl
reason_clean reason.ParameterType = refl
reason_clean reason.ParametersClash = refl
reason_clean reason.NameMissing = refl

digest_clean : (r : DigestReason) → IsClean (reason_word r)
digest_clean digest.Uncovered = refl
digest_clean digest.Malformed = refl
digest_clean digest.NoneKnown = refl
digest_clean (digest.Mismatch algorithm.Sha256) = refl
digest_clean (digest.Mismatch algorithm.Sha512) = refl

place_clean : (place : Place) → is_clean_place place ≡ true → IsClean (place_text place)
place_clean Nowhere clean = refl
place_clean (Index index) clean = spaced (decimal index) (number_clean index)
place_clean (Component index r) clean = spaced (decimal index ++ (32 ∷ word_of r)) (joined (decimal index) (32 ∷ word_of r) (number_clean index) (spaced (word_of r) (reason_clean r)))
place_clean (Name text) clean = spaced text clean
place_clean (Identifier id) clean = spaced (id_text id) clean
place_clean (DigestPlace r) clean = spaced (reason_word r) (digest_clean r)

rule_clean : (r : Rule) → IsClean (rule_word r)
rule_clean rule.InputAbsent = refl
rule_clean rule.InputMalformed = refl
rule_clean rule.SignatureAbsent = refl
rule_clean rule.SignatureMalformed = refl
rule_clean rule.LabelNotInInput = refl
rule_clean rule.LabelNotInSignature = refl
rule_clean rule.InputNotList = refl
rule_clean rule.SignatureNotBytes = refl
rule_clean rule.ComponentsMany = refl
rule_clean rule.ComponentBad = refl
rule_clean rule.ComponentRepeated = refl
rule_clean rule.ParameterBad = refl
rule_clean rule.AlgRefused = refl
rule_clean rule.AlgUnknown = refl
rule_clean rule.KeyidAbsent = refl
rule_clean rule.KeyUnknown = refl
rule_clean rule.ComponentRequired = refl
rule_clean rule.CreatedAbsent = refl
rule_clean rule.CreatedAhead = refl
rule_clean rule.TooOld = refl
rule_clean rule.ExpiresAbsent = refl
rule_clean rule.Expired = refl
rule_clean rule.TagWrong = refl
rule_clean rule.NonceAbsent = refl
rule_clean rule.NonceRepeated = refl
rule_clean rule.NonceLong = refl
rule_clean rule.Absent = refl
rule_clean rule.Ambiguous = refl
rule_clean rule.Underivable = refl
rule_clean rule.Unreadable = refl
rule_clean rule.NotAscii = refl
rule_clean rule.MacMismatch = refl
rule_clean rule.Digest = refl
rule_clean rule.NoncesFull = refl

verdict_clean : (verdict : Verdict) → is_clean_verdict verdict ≡ true → IsClean (verdict_text verdict)
verdict_clean (Accepted keyid) clean = refl
verdict_clean (Failing r place) clean =
    joined (codes "rule ") (decimal (rule_number r) ++ (32 ∷ (rule_word r ++ place_text place))) refl (joined (decimal (rule_number r)) (32 ∷ (rule_word r ++ place_text place)) (number_clean (rule_number r))
    (spaced (rule_word r ++ place_text place) (joined (rule_word r) (place_text place) (rule_clean r) (place_clean place clean))))

-- ---- hops

explanation_clean : (explained : Bool) (stopped : Option ℕ) → IsClean (explanation_text explained stopped)
explanation_clean true stopped = refl
explanation_clean false None = refl
explanation_clean false (Some index) = joined (codes "unexplained ") (decimal index) refl (number_clean index)

permission_clean : (permitted : Bool) → IsClean (permission_word permitted)
permission_clean true = refl
permission_clean false = refl

fate_clean : (fate : Fate) → is_clean_fate fate ≡ true → IsClean (fate_text fate)
fate_clean Dropped clean = refl
fate_clean (Changed id) clean =
    let own : IsClean (id_text id) = clean in
    joined (codes "changed ") (id_text id) refl own
fate_clean (Lacking id) clean =
    let own : IsClean (id_text id) = clean in
    joined (codes "lacking ") (id_text id) refl own
fate_clean Kept clean = refl

-- ---- lines

-- a text after a number and a space, and LF, is a line
line_of : (word : List ℕ) (index : ℕ) (text : List ℕ) → IsClean word → IsClean text → IsLine (word ++ (decimal index ++ 32 ∷ (text ++ codes "\n")))
line_of word index text first clean = record {
  line = word ++ (decimal index ++ 32 ∷ text);
  text_is = sym (append_assoc word (decimal index ++ 32 ∷ text) (codes "\n") ∙ ap (λ (x : List ℕ). word ++ x) (append_assoc (decimal index) (32 ∷ text) (codes "\n")));
  clean = joined word (decimal index ++ 32 ∷ text) first (joined (decimal index) (32 ∷ text) (number_clean index) (spaced text clean));
}

pub has_one_lf : HasOneLf
has_one_lf (Message index label verdict) clean =
    let parts = and_parts (list_all is_line_byte label) (is_clean_verdict verdict) clean in
    let text = label ++ 32 ∷ verdict_text verdict in
    subst (λ (x : List ℕ). IsLine (codes "message " ++ (decimal index ++ 32 ∷ x))) (append_assoc label (32 ∷ verdict_text verdict) (codes "\n"))
    (line_of (codes "message ") index text refl (joined label (32 ∷ verdict_text verdict) parts.0 (spaced (verdict_text verdict) (verdict_clean verdict parts.1))))
has_one_lf (Hop index explained stopped) clean = line_of (codes "hop ") index (explanation_text explained stopped) refl (explanation_clean explained stopped)
has_one_lf (Unread index label) clean = line_of (codes "hop ") index (label ++ codes " unread") refl (joined label (codes " unread") clean refl)
has_one_lf (Label index label permitted fate) clean =
    let parts = and_parts (list_all is_line_byte label) (is_clean_fate fate) clean in
    let rest = permission_word permitted ++ 32 ∷ fate_text fate in
    line_of (codes "hop ") index (label ++ 32 ∷ rest) refl
    (joined label (32 ∷ rest) parts.0 (spaced rest (joined (permission_word permitted) (32 ∷ fate_text fate) (permission_clean permitted) (spaced (fate_text fate) (fate_clean fate parts.1)))))
