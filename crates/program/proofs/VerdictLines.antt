-- Each line of `verify` has one LF.
use Rattle.std.proofs.Common.{◌≡◌, ℕ, true, Option, Some, None, List, [], ◌∷◌, ◌++◌, codes, map, refl, sym, subst, append_assoc, inl, inr}
use Rattle.std.specs.Prelude.{IfSome, IsFalse, IsSomeAnd, IsTrue, option_and_then}
use Rattle.std.specs.Fmt.{decimal}
use Rattle.std.specs.List.{All, list_all, slice_get, zip}
use Rattle.std.proofs.lemmas.Bool.{and_from, and_parts, cases_Bool}
use Rattle.std.proofs.lemmas.List.Elements.{All-cons, All-nil}
use Rattle.byte_grammar.specs.Classes.{is_line_byte}
use Rattle.byte_grammar.proofs.Indices.{some_and_parts}
use Rattle.byte_grammar.proofs.ListLaws.{all_implied}
use Rattle.sfv_text.specs.Classes.{is_key, is_key_first, is_key_rest}
use Rattle.sfv_text.specs.Keys.{has_key, have_distinct_keys, value_of}
use Rattle.sfv_text.specs.Parts.{string_in}
use Rattle.sfv_text.proofs.Printable.{bare_is}
use Rattle.sfv_text.specs.Range.{are_params_in_range, is_bare_in_range, is_dict_member_in_range, is_member_in_range, is_param_in_range}
use Rattle.sfv_text.specs.Strict.{string_text}
use Rattle.sfv_text.specs.declared.pair.Pair.{Pair}
use Rattle.sfv_text.specs.declared.value.BareItem.{BareItem}
use Rattle.sfv_text.specs.declared.value.BareItem.TheVariants.{Str}
use Rattle.sfv_text.specs.declared.value.Member.{Member}
use Rattle.sfv_read.proofs.InRange.{dict_read_in_range}
use Rattle.component_ids.specs.Identifiers.{id_text, is_id_in_range}
use Rattle.component_ids.specs.Reasons.{word_of}
use Rattle.component_ids.specs.SignatureParams.{are_sig_params_in_range}
use Rattle.component_ids.specs.Table.{is_listed}
use Rattle.component_ids.specs.declared.id.ComponentId.{ComponentId}
use Rattle.component_ids.specs.declared.params.SigParams.{SigParams}
use Rattle.component_ids.proofs.PrintLaws.{id_is_printable}
use Rattle.msg_head.specs.Values.{combined_value}
use Rattle.msg_head.specs.declared.error.Side.TheVariants.{Header}
use Rattle.msg_body.specs.Messages.{Message}
use Rattle.msg_body.specs.Views.{lines_on}
use Rattle.component_values.specs.Context.{MessageContext}
use Rattle.conf.specs.Configuration.{Configuration}
use Rattle.settings.specs.Valid.{IsValid}
use Rattle.settings.specs.declared.policy.Policy.{Policy}
use Rattle.signatures.specs.Algorithms.{refused_algorithms, supported_algorithm}
use Rattle.signatures.specs.Signatures.{AreLabels, input_name}
use Rattle.signatures.specs.Words.{reason_word, rule_number, rule_word}
use Rattle.content_digest.specs.declared.algorithm.Algorithm.TheVariants as algorithm
use Rattle.signatures.specs.declared.place.DigestReason.{DigestReason}
use Rattle.signatures.specs.declared.place.DigestReason.TheVariants.{Uncovered, Malformed, NoneKnown, Mismatch}
use Rattle.signatures.specs.declared.place.Place.{Place}
use Rattle.signatures.specs.declared.place.Place.TheVariants.{None as Nowhere, Index, Component, Name, Identifier, Digest as DigestPlace}
use Rattle.signatures.specs.declared.rule.Rule.{Rule}
use Rattle.signatures.specs.declared.rule.Rule.TheVariants.{InputAbsent, InputMalformed, SignatureAbsent, SignatureMalformed, LabelNotInInput, LabelNotInSignature, InputNotList, SignatureNotBytes, ComponentsMany, ComponentBad, ComponentRepeated, ParameterBad, AlgRefused, AlgUnknown, KeyidAbsent, KeyUnknown, ComponentRequired, CreatedAbsent, CreatedAhead, TooOld, ExpiresAbsent, Expired, TagWrong, NonceAbsent, NonceRepeated, NonceLong, Absent, Ambiguous, Underivable, Unreadable, NotAscii, MacMismatch, Digest, NoncesFull}
use Rattle.signatures.proofs.InRange.{is_signature_in_range}
use Rattle.verdicts.specs.Choice.{policy_of}
use Rattle.verdicts.specs.Parameters.{alg_of}
use Rattle.verdicts.specs.Policies.{IsFirstUncovered, required_of}
use Rattle.verdicts.specs.Rules.{Fails}
use Rattle.verdicts.specs.VerdictLine.{place_text, verdict_line, verdict_text}
use Rattle.verdicts.specs.Verdicts.{IsVerdict}
use Rattle.verdicts.specs.Verification.{Verification, or_no_label, verification_for}
use Rattle.verdicts.specs.declared.outcome.Verdict.{Verdict}
use Rattle.verdicts.specs.declared.outcome.Verdict.TheVariants.{Ok as Accepted, Rule as Failing}
use Rattle.verdicts.proofs.Places.{place_in_range}
use Rattle.command_options.proofs.OptionLists.{word_had}
use Rattle.command_line.specs.Command.{SpellsVerify, VerifyWords}
use Rattle.command_options.specs.Options.{may_have}
use Rattle.commands.specs.Verify.{AreAsked, AreVerdicts}
use Rattle.refusals.specs.Laws.{IsLine}
use Rattle.refusals.proofs.Lines.{number_clean}
use Rattle.program.proofs.OneLines.{first_ill_typed, joined, key_clean, line_byte_of, printable_clean, reason_clean}

-- ---- places

digest_clean : (reason : DigestReason) → list_all is_line_byte (reason_word reason) ≡ true
digest_clean Uncovered = refl
digest_clean Malformed = refl
digest_clean NoneKnown = refl
digest_clean (Mismatch algorithm.Sha256) = refl
digest_clean (Mismatch algorithm.Sha512) = refl

-- the characters of a parameter that is a String
string_clean : (params : List (Pair BareItem)) (key text : List ℕ) → list_all is_param_in_range params ≡ true → option_and_then string_in (value_of params key) ≡ Some text → list_all is_line_byte (string_text text) ≡ true
string_clean [] key text ranged is = absurd (cc is)
string_clean (p ∷ params) key text ranged is =
    let parts = and_parts (is_param_in_range p) (list_all is_param_in_range params) ranged in
    elim (cases_Bool (has_key key p)) [
      | inl found ↦ of_bare p.value (and_parts (is_key p.key) (is_bare_in_range p.value) parts.0).1 (rw found at is)
      | inr other ↦ string_clean params key text parts.1 (rw other at is)
    ]
  where
    of_bare : (bare : BareItem) → is_bare_in_range bare ≡ true → string_in bare ≡ Some text → list_all is_line_byte (string_text text) ≡ true
    of_bare (Str own) ranged is =
        let same : own ≡ text = cc is in
        subst (λ (t : List ℕ). list_all is_line_byte (string_text t) ≡ true) same (printable_clean (string_text own) (bare_is (Str own) ranged))
    of_bare bare ranged is = absurd (cc is)

rule_clean : (rule : Rule) → list_all is_line_byte (rule_word rule) ≡ true
rule_clean InputAbsent = refl
rule_clean InputMalformed = refl
rule_clean SignatureAbsent = refl
rule_clean SignatureMalformed = refl
rule_clean LabelNotInInput = refl
rule_clean LabelNotInSignature = refl
rule_clean InputNotList = refl
rule_clean SignatureNotBytes = refl
rule_clean ComponentsMany = refl
rule_clean ComponentBad = refl
rule_clean ComponentRepeated = refl
rule_clean ParameterBad = refl
rule_clean AlgRefused = refl
rule_clean AlgUnknown = refl
rule_clean KeyidAbsent = refl
rule_clean KeyUnknown = refl
rule_clean ComponentRequired = refl
rule_clean CreatedAbsent = refl
rule_clean CreatedAhead = refl
rule_clean TooOld = refl
rule_clean ExpiresAbsent = refl
rule_clean Expired = refl
rule_clean TagWrong = refl
rule_clean NonceAbsent = refl
rule_clean NonceRepeated = refl
rule_clean NonceLong = refl
rule_clean Absent = refl
rule_clean Ambiguous = refl
rule_clean Underivable = refl
rule_clean Unreadable = refl
rule_clean NotAscii = refl
rule_clean MacMismatch = refl
rule_clean Digest = refl
rule_clean NoncesFull = refl

-- a place that is a name
module _ (v : Verification) (text : List ℕ) where
  abbrev IsClean : Type 0
  IsClean = list_all is_line_byte text ≡ true

  refused_alg : (params : SigParams) → IsSomeAnd (alg_of params) (λ alg. IsTrue (is_listed refused_algorithms alg) × (Name text ≡ Name alg)) → IsClean
  refused_alg params fact =
      let at = some_and_parts (λ (alg : List ℕ). IsTrue (is_listed refused_algorithms alg) × (Name text ≡ Name alg)) (alg_of params) fact in
      let same : text ≡ at.0 = cc (at.2.1) in
      rw same (key_clean (λ k. k) refused_algorithms at.0 refl at.2.0)

  unknown_alg : (params : SigParams) → are_sig_params_in_range params ≡ true → IsSomeAnd (alg_of params) (λ alg. IsFalse (is_listed (supported_algorithm ∷ refused_algorithms) alg) × (Name text ≡ Name (string_text alg))) → IsClean
  unknown_alg params ranged fact =
      let at = some_and_parts (λ (alg : List ℕ). IsFalse (is_listed (supported_algorithm ∷ refused_algorithms) alg) × (Name text ≡ Name (string_text alg))) (alg_of params) fact in
      let same : text ≡ string_text at.0 = cc (at.2.1) in
      rw same (string_clean params.params (codes "alg") at.0 (and_parts (have_distinct_keys params.params) (list_all is_param_in_range params.params) (and_parts (list_all is_id_in_range params.ids) (are_params_in_range params.params) ranged).1).1 at.1)

  name_clean : (rule : Rule) → Fails v rule (Name text) → IsClean
  name_clean ParameterBad fails = let same : text ≡ fails.0 = cc (fails.1) in rw same (first_ill_typed (λ k. k) refl refl fails.2.0.params fails.0 fails.2.2)
  name_clean AlgRefused fails = refused_alg fails.0 fails.3
  name_clean AlgUnknown fails = unknown_alg fails.0 (is_signature_in_range v.context.message v.label fails.0 fails.1 fails.2) fails.3
  name_clean ComponentBad fails = absurd (cc (fails.2))
  name_clean ComponentRepeated fails = absurd (cc (fails.1))
  name_clean ComponentRequired fails = absurd (
      let at = some_and_parts (λ (policy : Policy). (id : ComponentId) × (Name text ≡ Identifier id) × IsFirstUncovered fails.0.ids (required_of v policy) id) (policy_of v.conf fails.0) fails.3 in
      cc (at.2.1))
  name_clean Digest fails = absurd (cc (fails.1))
  name_clean InputAbsent fails = absurd (cc (fails.0))
  name_clean InputMalformed fails = absurd (cc (fails.0))
  name_clean SignatureAbsent fails = absurd (cc (fails.0))
  name_clean SignatureMalformed fails = absurd (cc (fails.0))
  name_clean LabelNotInInput fails = absurd (cc (fails.0))
  name_clean LabelNotInSignature fails = absurd (cc (fails.0))
  name_clean InputNotList fails = absurd (cc (fails.0))
  name_clean SignatureNotBytes fails = absurd (cc (fails.0))
  name_clean ComponentsMany fails = absurd (cc (fails.0))
  name_clean KeyidAbsent fails = absurd (cc (fails.0))
  name_clean KeyUnknown fails = absurd (cc (fails.0))
  name_clean CreatedAbsent fails = absurd (cc (fails.0))
  name_clean CreatedAhead fails = absurd (cc (fails.0))
  name_clean TooOld fails = absurd (cc (fails.0))
  name_clean ExpiresAbsent fails = absurd (cc (fails.0))
  name_clean Expired fails = absurd (cc (fails.0))
  name_clean TagWrong fails = absurd (cc (fails.0))
  name_clean NonceAbsent fails = absurd (cc (fails.0))
  name_clean NonceRepeated fails = absurd (cc (fails.0))
  name_clean NonceLong fails = absurd (cc (fails.0))
  name_clean MacMismatch fails = absurd (cc (fails.0))
  name_clean NoncesFull fails = absurd (cc (fails.0))
  name_clean Absent fails = absurd (let at = some_and_parts (λ (id : ComponentId). Name text ≡ Identifier id) (slice_get fails.0.ids fails.3.0) fails.3.2 in cc (at.2))
  name_clean Ambiguous fails = absurd (let at = some_and_parts (λ (id : ComponentId). Name text ≡ Identifier id) (slice_get fails.0.ids fails.3.0) fails.3.2 in cc (at.2))
  name_clean Underivable fails = absurd (let at = some_and_parts (λ (id : ComponentId). Name text ≡ Identifier id) (slice_get fails.0.ids fails.3.0) fails.3.2 in cc (at.2))
  name_clean Unreadable fails = absurd (let at = some_and_parts (λ (id : ComponentId). Name text ≡ Identifier id) (slice_get fails.0.ids fails.3.0) fails.3.2 in cc (at.2))
  name_clean NotAscii fails = absurd (let at = some_and_parts (λ (id : ComponentId). Name text ≡ Identifier id) (slice_get fails.0.ids fails.3.0) fails.3.2 in cc (at.2))

place_clean : (v : Verification) → IsValid v.conf → (rule : Rule) (place : Place) → Fails v rule place → list_all is_line_byte (place_text place) ≡ true
place_clean v valid rule Nowhere fails = refl
place_clean v valid rule (Index index) fails = joined (codes " ") (decimal index) refl (number_clean index)
place_clean v valid rule (Component index reason) fails = joined (codes " ") (decimal index ++ 32 ∷ word_of reason) refl (joined (decimal index) (32 ∷ word_of reason) (number_clean index) (reason_clean reason))
place_clean v valid rule (Name text) fails = name_clean v text rule fails
place_clean v valid rule (Identifier id) fails = printable_clean (id_text id) (id_is_printable id (place_in_range v valid.policies.each rule (Identifier id) fails))
place_clean v valid rule (DigestPlace reason) fails = digest_clean reason

pub verdict_clean : (v : Verification) → IsValid v.conf → (verdict : Verdict) → IsVerdict v verdict → list_all is_line_byte (verdict_text verdict) ≡ true
verdict_clean v valid (Accepted keyid) is = refl
verdict_clean v valid (Failing rule place) is =
    joined (codes "rule ") (decimal (rule_number rule) ++ 32 ∷ (rule_word rule ++ place_text place)) refl (joined (decimal (rule_number rule)) (32 ∷ (rule_word rule ++ place_text place)) (number_clean (rule_number rule)) (joined (rule_word rule) (place_text place) (rule_clean rule) (place_clean v valid rule place is.holds)))

-- ---- labels

word_clean : (text : List ℕ) → is_key text ≡ true → list_all is_line_byte text ≡ true
word_clean [] is = refl
word_clean (c ∷ text) is =
    let parts = and_parts (is_key_first c) (list_all is_key_rest text) is in
    and_from (is_line_byte c) (list_all is_line_byte text) (line_byte_of is_key_first refl refl refl c parts.0) (all_implied is_key_rest is_line_byte (line_byte_of is_key_rest refl refl refl) text parts.1)

keys_clean : (dict : List (Pair Member)) → list_all is_dict_member_in_range dict ≡ true → list_all (λ (label : List ℕ). list_all is_line_byte label) (map (λ (member : Pair Member). member.key) dict) ≡ true
keys_clean [] ranged = refl
keys_clean (m ∷ dict) ranged =
    let parts = and_parts (is_dict_member_in_range m) (list_all is_dict_member_in_range dict) ranged in
    and_from (list_all is_line_byte m.key) (list_all (λ (label : List ℕ). list_all is_line_byte label) (map (λ (member : Pair Member). member.key) dict)) (word_clean m.key (and_parts (is_key m.key) (is_member_in_range m.value) parts.0).0)
    (keys_clean dict parts.1)

pub or_clean : (labels : List (List ℕ)) → list_all (λ (label : List ℕ). list_all is_line_byte label) labels ≡ true → list_all (λ (label : List ℕ). list_all is_line_byte label) (or_no_label labels) ≡ true
or_clean [] clean = refl
or_clean (label ∷ labels) clean = clean

pub labels_clean : (message : Message) (labels : List (List ℕ)) → AreLabels message labels → list_all (λ (label : List ℕ). list_all is_line_byte label) labels ≡ true
labels_clean message labels (inl (dict, has, same)) =
    rw same (keys_clean dict (and_parts (have_distinct_keys dict) (list_all is_dict_member_in_range dict) (dict_read_in_range (combined_value (lines_on Header message) input_name) dict has.reads)).1)
labels_clean message labels (inr (none, same)) = rw same refl

asked_clean : (label : Option (List ℕ)) (message : Message) (labels : List (List ℕ)) → IfSome label (λ given. is_key given ≡ true) → AreAsked label message labels
    → list_all (λ (label : List ℕ). list_all is_line_byte label) labels ≡ true
asked_clean (Some label) message labels key asked = rw asked (and_from (list_all is_line_byte label) true (word_clean label key) refl)
asked_clean None message labels key (found, are, same) = rw same (or_clean found (labels_clean message found are))

-- ---- lines

pub line_is : (label : List ℕ) (verdict : Verdict) → list_all is_line_byte label ≡ true → list_all is_line_byte (verdict_text verdict) ≡ true → IsLine (verdict_line (label, verdict))
line_is label verdict clean text = record {
  line = label ++ (32 ∷ verdict_text verdict);
  text_is = sym (append_assoc label (32 ∷ verdict_text verdict) (codes "\n"));
  clean = joined label (32 ∷ verdict_text verdict) clean text;
}

abbrev IsVerdictLine : List ℕ × Verdict → Type 0
IsVerdictLine line = IsLine (verdict_line line)

lines_are : (conf : Configuration) (moment : ℕ) (context : MessageContext) (labels : List (List ℕ)) (verdicts : List Verdict) → IsValid conf → list_all (λ (label : List ℕ). list_all is_line_byte label) labels ≡ true
    → AreVerdicts conf moment context labels verdicts → All IsVerdictLine (zip labels verdicts)
lines_are conf moment context [] [] valid clean are = All-nil IsVerdictLine
lines_are conf moment context [] (v ∷ vs) valid clean are = absurd are
lines_are conf moment context (l ∷ ls) [] valid clean are = absurd are
lines_are conf moment context (l ∷ ls) (v ∷ vs) valid clean are =
    let parts = and_parts (list_all is_line_byte l) (list_all (λ (label : List ℕ). list_all is_line_byte label) ls) clean in
    All-cons IsVerdictLine (l, v) (zip ls vs) (line_is l v parts.0 (verdict_clean (verification_for conf moment context l) valid v are.0)) (lines_are conf moment context ls vs valid parts.1 are.1)

-- the label of `verify` is a key
pub verifies_key : (arguments : List (List ℕ)) (words : VerifyWords) → SpellsVerify arguments words → IfSome words.label (λ label. IsTrue (is_key label))
verifies_key arguments words spells = of_option words.label (word_had (codes "--label") spells.options words.label spells.are.had spells.label_is) where
  of_option : (o : Option (List ℕ)) → IfSome o (λ word. may_have (codes "--label") word ≡ true) → IfSome o (λ label. IsTrue (is_key label))
  of_option None had = tt
  of_option (Some label) had = had

pub verdict_lines_are : (label : Option (List ℕ)) (conf : Configuration) (moment : ℕ) (context : MessageContext) (labels : List (List ℕ)) (verdicts : List Verdict) → IsValid conf → IfSome label (λ given. is_key given ≡ true)
    → AreAsked label context.message labels → AreVerdicts conf moment context labels verdicts → All IsVerdictLine (zip labels verdicts)
verdict_lines_are label conf moment context labels verdicts valid key asked are = lines_are conf moment context labels verdicts valid (asked_clean label context.message labels key asked) are
