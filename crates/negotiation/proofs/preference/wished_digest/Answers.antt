use Rattle.std.proofs.Common.{List, sym, subst, ap, ◌∙◌}
use Rattle.std.specs.List.{list_all}
use Rattle.sfv_text.specs.declared.pair.Pair.{Pair}
use Rattle.sfv_text.specs.declared.value.Member.{Member}
use Rattle.msg_body.specs.Views.{message_of}
use Rattle.signatures.specs.Fields.{IsFieldOf}
use Rattle.signatures.specs.declared.field.DictField.{DictField}
use Rattle.negotiation.specs.Preferences.{is_preference_sound, want_digest_name}
use Rattle.negotiation.proofs.Wishing.{bad_field, chosen, unacceptable, unsound}
use Rattle.negotiation.proofs.preference.wished_digest.Goals as goal

pub returns-then-not-are_preferences_sound : goal.returns-then-not-are_preferences_sound
returns-then-not-are_preferences_sound c =
    let request = message_of c.args.request.now in
    unsound request c.in-Dict.dict (subst (λ (f : DictField). IsFieldOf request want_digest_name f) c.in-Dict.is c.in_ok-read_field.ensures)
    (ap (λ (ms : List (Pair Member)). list_all is_preference_sound ms) (sym c.as_slice.ensures.is) ∙ (sym c.are_preferences_sound.ensures ∙ c.if-not-are_preferences_sound.true))

pub returns-in-Some : goal.returns-in-Some
returns-in-Some c =
    let request = message_of c.args.request.now in
    chosen request c.in-Dict.dict (subst (λ (f : DictField). IsFieldOf request want_digest_name f) c.in-Dict.is c.in_ok-read_field.ensures)
    (ap (λ (ms : List (Pair Member)). list_all is_preference_sound ms) (sym c.as_slice.ensures.is) ∙ (sym c.are_preferences_sound.ensures ∙ c.if-not-are_preferences_sound.false))
    c.in-Some.algorithm (rw c.as_slice-2.ensures.is at c.in-Some.ensures)

pub returns : goal.returns
returns c =
    let request = message_of c.args.request.now in
    unacceptable request c.in-Dict.dict (subst (λ (f : DictField). IsFieldOf request want_digest_name f) c.in-Dict.is c.in_ok-read_field.ensures)
    (ap (λ (ms : List (Pair Member)). list_all is_preference_sound ms) (sym c.as_slice.ensures.is) ∙ (sym c.are_preferences_sound.ensures ∙ c.if-not-are_preferences_sound.false))
    (rw c.as_slice-2.ensures.is at c.in-None.ensures)

pub returns-in-Malformed : goal.returns-in-Malformed
returns-in-Malformed c =
    let request = message_of c.args.request.now in
    bad_field request (subst (λ (f : DictField). IsFieldOf request want_digest_name f) c.in-Malformed.is c.in_ok-read_field.ensures)
