use Rattle.std.proofs.Common.{Option, Bor, ◌≡◌, ◌≤◌, ◌+◌, ℕ, pos, ◌+ℤ◌, ◌≤ℤ◌, ℤ, true, false, Some, None, List, length, sym, ap, subst, ◌∙◌, rules, FitsSigned, to_z, of_z, w64}
use Rattle.std.proofs.lemmas.Bool.{false≢true}
use Rattle.std.proofs.lemmas.Int.{to_z-of_z}
use Rattle.std.specs.Prelude.{option_copied}
use Rattle.nonces.specs.declared.limits.TheConstants.{MAX_KEYID_BYTES, MAX_MOMENT, MAX_NONCE_BYTES}
use Rattle.settings.specs.ConfMeaning.{meaning}
use Rattle.settings.specs.ValidSections.{IsValidPolicy}
use Rattle.settings.specs.declared.limits.TheConstants.{MAX_SKEW}
use Rattle.settings.proofs.ValidInside.{valid_inside}
use Rattle.verdicts.specs.Choice.{policy_of}
use Rattle.verdicts.specs.Parameters.{created_of, nonce_of}
use Rattle.verdicts.specs.Policies.{asks_new}
use Rattle.gateway.specs.declared.accepted.AcceptedLabel.{AcceptedLabel}
use Rattle.gateway.specs.tools.Judged.{RemembersAccepted}
use Rattle.gateway.proofs.Remembering.{can_be_put, dies_soon, early_enough, has_created, has_policy, lives_now, no_entry_ignored, no_entry_without, not_before_zero, remembers_none, remembers_one}
use Rattle.gateway.proofs.seen.remember.Goals as goal

pub unreachable-requires : goal.unreachable-requires
unreachable-requires g c =
    has_policy (meaning c.args.conf.now) c.args.book.now c.in-Some.accepted.now (rw c.in-Some.is at c.requires.accepted) (sym (rw c.in_default-policy_of.is at c.policy_of.ensures.is))

pub returns-then-not-asks_new-clause-remembers : goal.returns-then-not-asks_new-clause-remembers
returns-then-not-asks_new-clause-remembers g c =
    let conf = meaning c.args.conf.now in
    let accepted = c.in-Some.accepted.now in
    let policy = c.in-Some-policy_of.policy.now in
    let chosen : policy_of conf accepted.params ≡ Some policy = sym (rw c.in-Some-policy_of.is at c.policy_of.ensures.is) in
    let ignored : asks_new policy.nonce ≡ false = sym c.asks_new.ensures ∙ c.if-not-asks_new.true in
    subst (λ (o : Option (Bor AcceptedLabel)). RemembersAccepted conf (option_copied o) c.args.book.now c.args.book.now) (sym c.in-Some.is)
    (remembers_none conf accepted.params accepted.keyid c.args.book.now (no_entry_ignored conf accepted.params accepted.keyid policy chosen ignored))

pub returns-in_default-string-clause-remembers : goal.returns-in_default-string-clause-remembers
returns-in_default-string-clause-remembers g c =
    let conf = meaning c.args.conf.now in
    let accepted = c.in-Some.accepted.now in
    let none : nonce_of accepted.params ≡ None = sym (rw c.in_default-string.is at c.string.ensures.is) in
    subst (λ (o : Option (Bor AcceptedLabel)). RemembersAccepted conf (option_copied o) c.args.book.now c.args.book.now) (sym c.in-Some.is)
    (remembers_none conf accepted.params accepted.keyid c.args.book.now (no_entry_without conf accepted.params accepted.keyid none))

pub unreachable-requires-in_default-integer : goal.unreachable-requires-in_default-integer
unreachable-requires-in_default-integer g c =
    has_created (meaning c.args.conf.now) c.args.book.now c.in-Some.accepted.now (rw c.in-Some.is at c.requires.accepted) (sym c.integer.ensures ∙ c.in_default-integer.is)

pub last_moment-until-requires-clause-begun : goal.last_moment-until-requires-clause-begun
last_moment-until-requires-clause-begun g c =
    let conf = meaning c.args.conf.now in
    let accepted = c.in-Some.accepted.now in
    let policy = c.in-Some-policy_of.policy.now in
    let chosen : policy_of conf accepted.params ≡ Some policy = sym (rw c.in-Some-policy_of.is at c.policy_of.ensures.is) in
    let asks : asks_new policy.nonce ≡ true = sym c.asks_new.ensures ∙ c.if-not-asks_new.false in
    let nonce = c.in-Some-string.nonce.now in
    let created = c.in-Some-integer.created in
    let nonce_is : nonce_of accepted.params ≡ Some nonce = sym (rw c.in-Some-string.is at c.string.ensures.is) in
    let created_is : created_of accepted.params ≡ Some created = sym c.integer.ensures ∙ c.in-Some-integer.is in
    let is_valid : IsValidPolicy policy = rw c.in-Some-policy_of.is at c.policy_of.ensures.valid in
    let put = can_be_put conf c.args.book.now accepted (rw c.in-Some.is at c.requires.accepted) (valid_inside conf c.args.conf.now.valid) c.keeps_limits.ensures policy nonce created chosen asks nonce_is created_is in
    let fits : FitsSigned w64 created = search rules in
    let same : to_z w64 (of_z w64 created) ≡ created = to_z-of_z w64 created fits in
    subst (λ (z : ℤ). z ≤ℤ pos (MAX_MOMENT + MAX_SKEW)) (sym same) (early_enough policy c.args.book.now created is_valid c.keeps_limits.ensures put.fresh)

pub last_moment-until-requires-clause-recent : goal.last_moment-until-requires-clause-recent
last_moment-until-requires-clause-recent g c =
    let conf = meaning c.args.conf.now in
    let accepted = c.in-Some.accepted.now in
    let policy = c.in-Some-policy_of.policy.now in
    let chosen : policy_of conf accepted.params ≡ Some policy = sym (rw c.in-Some-policy_of.is at c.policy_of.ensures.is) in
    let asks : asks_new policy.nonce ≡ true = sym c.asks_new.ensures ∙ c.if-not-asks_new.false in
    let nonce = c.in-Some-string.nonce.now in
    let created = c.in-Some-integer.created in
    let nonce_is : nonce_of accepted.params ≡ Some nonce = sym (rw c.in-Some-string.is at c.string.ensures.is) in
    let created_is : created_of accepted.params ≡ Some created = sym c.integer.ensures ∙ c.in-Some-integer.is in
    let put = can_be_put conf c.args.book.now accepted (rw c.in-Some.is at c.requires.accepted) (valid_inside conf c.args.conf.now.valid) c.keeps_limits.ensures policy nonce created chosen asks nonce_is created_is in
    let fits : FitsSigned w64 created = search rules in
    let same : to_z w64 (of_z w64 created) ≡ created = to_z-of_z w64 created fits in
    subst (λ (z : ℤ). pos 0 ≤ℤ (z +ℤ pos policy.max_age)) (sym same) (not_before_zero policy c.args.book.now.moment created put.fresh)

pub record-requires : goal.record-requires
record-requires g c =
    let conf = meaning c.args.conf.now in
    let accepted = c.in-Some.accepted.now in
    let policy = c.in-Some-policy_of.policy.now in
    let chosen : policy_of conf accepted.params ≡ Some policy = sym (rw c.in-Some-policy_of.is at c.policy_of.ensures.is) in
    let asks : asks_new policy.nonce ≡ true = sym c.asks_new.ensures ∙ c.if-not-asks_new.false in
    let nonce = c.in-Some-string.nonce.now in
    let created = c.in-Some-integer.created in
    let nonce_is : nonce_of accepted.params ≡ Some nonce = sym (rw c.in-Some-string.is at c.string.ensures.is) in
    let created_is : created_of accepted.params ≡ Some created = sym c.integer.ensures ∙ c.in-Some-integer.is in
    let put = can_be_put conf c.args.book.now accepted (rw c.in-Some.is at c.requires.accepted) (valid_inside conf c.args.conf.now.valid) c.keeps_limits.ensures policy nonce created chosen asks nonce_is created_is in
    let fits : FitsSigned w64 created = search rules in
    let same : to_z w64 (of_z w64 created) ≡ created = to_z-of_z w64 created fits in
    let until = c.last_moment-until.result in
    let until_is : pos until ≡ created +ℤ pos policy.max_age = c.last_moment-until.ensures ∙ ap (λ (z : ℤ). z +ℤ pos policy.max_age) same in
    record {
      keyid = subst (λ (k : List ℕ). length k ≤ MAX_KEYID_BYTES) (sym c.bytes.ensures) put.keyid_short;
      nonce = subst (λ (n : List ℕ). length n ≤ MAX_NONCE_BYTES) (sym c.bytes-2.ensures) put.nonce_short;
      new = rw (c.bytes.ensures, c.bytes-2.ensures) put.new;
      live = lives_now policy c.args.book.now.moment until created put.fresh until_is;
      soon = dies_soon conf policy accepted.params c.args.book.now.moment c.args.book.now.window until created chosen put.fresh until_is c.requires.window;
    }

pub unreachable-requires-in-Err : goal.unreachable-requires-in-Err
unreachable-requires-in-Err g c =
    let conf = meaning c.args.conf.now in
    let accepted = c.in-Some.accepted.now in
    let policy = c.in-Some-policy_of.policy.now in
    let chosen : policy_of conf accepted.params ≡ Some policy = sym (rw c.in-Some-policy_of.is at c.policy_of.ensures.is) in
    let asks : asks_new policy.nonce ≡ true = sym c.asks_new.ensures ∙ c.if-not-asks_new.false in
    let nonce = c.in-Some-string.nonce.now in
    let created = c.in-Some-integer.created in
    let nonce_is : nonce_of accepted.params ≡ Some nonce = sym (rw c.in-Some-string.is at c.string.ensures.is) in
    let created_is : created_of accepted.params ≡ Some created = sym c.integer.ensures ∙ c.in-Some-integer.is in
    let put = can_be_put conf c.args.book.now accepted (rw c.in-Some.is at c.requires.accepted) (valid_inside conf c.args.conf.now.valid) c.keeps_limits.ensures policy nonce created chosen asks nonce_is created_is in
    false≢true (sym put.room ∙ sym (rw c.in-Err.is at c.record.ensures.full))

pub returns-clause-remembers : goal.returns-clause-remembers
returns-clause-remembers g c =
    let conf = meaning c.args.conf.now in
    let accepted = c.in-Some.accepted.now in
    let policy = c.in-Some-policy_of.policy.now in
    let chosen : policy_of conf accepted.params ≡ Some policy = sym (rw c.in-Some-policy_of.is at c.policy_of.ensures.is) in
    let asks : asks_new policy.nonce ≡ true = sym c.asks_new.ensures ∙ c.if-not-asks_new.false in
    let nonce = c.in-Some-string.nonce.now in
    let created = c.in-Some-integer.created in
    let nonce_is : nonce_of accepted.params ≡ Some nonce = sym (rw c.in-Some-string.is at c.string.ensures.is) in
    let created_is : created_of accepted.params ≡ Some created = sym c.integer.ensures ∙ c.in-Some-integer.is in
    let fits : FitsSigned w64 created = search rules in
    let same : to_z w64 (of_z w64 created) ≡ created = to_z-of_z w64 created fits in
    let until = c.last_moment-until.result in
    let until_is : pos until ≡ created +ℤ pos policy.max_age = c.last_moment-until.ensures ∙ ap (λ (z : ℤ). z +ℤ pos policy.max_age) same in
    subst (λ (o : Option (Bor AcceptedLabel)). RemembersAccepted conf (option_copied o) c.args.book.now c.record.new.self) (sym c.in-Some.is)
    (remembers_one conf accepted.params accepted.keyid policy chosen c.args.book.now c.record.new.self nonce created until asks nonce_is created_is until_is
    (rw (c.bytes.ensures, c.bytes-2.ensures) at (rw c.in-Ok.is at c.record.ensures.ok)) c.record.ensures.moment c.record.ensures.capacity c.record.ensures.window)
