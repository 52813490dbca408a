use Rattle.std.proofs.Common.{◌≡◌, true, false, Option, Some, None, is_some, not, option_copied, Bor, refl, sym, subst, ap, ◌∙◌}
use Rattle.std.proofs.lemmas.Bool.{false≢true}
use Rattle.sfv_text.specs.Keys.{value_of}
use Rattle.sfv_text.specs.declared.value.Member.{Member}
use Rattle.msg_body.specs.Views.{message_of}
use Rattle.content_digest.specs.Algorithms.{key_of}
use Rattle.content_digest.specs.Digests.{digest_name}
use Rattle.signatures.specs.Fields.{IsFieldOf}
use Rattle.signatures.specs.declared.field.DictField.{DictField}
use Rattle.negotiation.proofs.Digesting.{bad_digests, none_by, right}
use Rattle.negotiation.proofs.digest.judge_digests.Goals as goal

-- what is found, by whether something is
nothing : (o : Option (Bor Member)) → is_some o ≡ false → option_copied o ≡ None
nothing None is = refl
nothing (Some member) is = absurd (false≢true (sym is))

something : (o : Option (Bor Member)) → is_some o ≡ true → (member : Member) × (option_copied o ≡ Some member)
something (Some member) is = (member.now, refl)
something None is = absurd (false≢true is)

pub returns-in-Malformed : goal.returns-in-Malformed
returns-in-Malformed c =
    let response = message_of c.args.response.now in
    rw c.in-Some.is (bad_digests response c.in-Some.algorithm (subst (λ (f : DictField). IsFieldOf response digest_name f) c.in-Malformed.is c.in_ok-read_field.ensures))

pub returns-then-is_none : goal.returns-then-is_none
returns-then-is_none c =
    let response = message_of c.args.response.now in
    let none : value_of c.in-Dict.digests (key_of c.in-Some.algorithm) ≡ None = rw (← c.key.ensures) (sym c.find.ensures ∙ nothing c.find.result (c.is_none.ensures ∙ ap not c.if-is_none.true)) in
    rw c.in-Some.is (none_by response c.in-Some.algorithm c.in-Dict.digests (subst (λ (f : DictField). IsFieldOf response digest_name f) c.in-Dict.is c.in_ok-read_field.ensures) none)

pub returns-then-branch : goal.returns-then-branch
returns-then-branch c =
    let response = message_of c.args.response.now in
    let found = something c.find.result (c.is_none.ensures ∙ ap not c.if-is_none.false) in
    let there : value_of c.in-Dict.digests (key_of c.in-Some.algorithm) ≡ Some found.0 = rw (← c.key.ensures) (sym c.find.ensures ∙ found.1) in
    rw c.in-Some.is
    (right response c.in-Some.algorithm c.in-Dict.digests (subst (λ (f : DictField). IsFieldOf response digest_name f) c.in-Dict.is c.in_ok-read_field.ensures) found.0 there
    (c.in_ok-are_right.ensures.0 c.if-branch.true))
