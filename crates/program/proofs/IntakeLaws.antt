-- What is read for a command over a message is one value, or it is refused for one cause.
use Rattle.std.proofs.Common.{◌≡◌, inl, inr, ℕ, List, Option, refl, sym, ap, subst, ◌∙◌}
use Rattle.msg_body.specs.Messages.{Message}
use Rattle.msg_body.specs.WholeTexts.{reading_for}
use Rattle.conf.specs.Configuration.{Configuration}
use Rattle.verdicts.specs.Contexts.{context_for}
use Rattle.intake.specs.Files.{FileNames, Found, Conf as ConfFile, Request as RequestFile, Wanted as WantedFile, Script as ScriptFile, Other as OtherFile}
use Rattle.intake.specs.Layers.{HasAnswer}
use Rattle.intake.specs.MessageFiles.{IsMessageFileRefused, IsRequestRefused, IsRequested}
use Rattle.intake.specs.Messages.{IsInputMessage, IsInputRefused}
use Rattle.intake.specs.Tables.{HasTables, IsTableMissing}
use Rattle.intake.specs.declared.tables.Needs.{Needs}
use Rattle.refusals.specs.declared.file.FileRefusal.{FileRefusal}
use Rattle.refusals.specs.declared.refusal.Refusal.{Refusal}
use Rattle.refusals.specs.declared.refusal.Refusal.TheVariants.{Arguments, Of, Command}
use Rattle.refusals.specs.declared.role.Role.TheVariants.{Conf, Request, Wanted, Script, Other, Input, Item}
use Rattle.program.specs.Intake.{IsAnswerRefused, IsConfLacking, IsConfRead, IsIntake, IsIntakeRefused, IsOther, IsOtherRefused, IsSomeRead, TakenValues}
use Rattle.program.specs.Laws.{HasIntake, IsIntakeDecided}
use Rattle.program.proofs.CommandLaws.{conf_answer, conf_decided, input_answer, input_decided, record_answer, record_decided, request_answer, request_decided, script_answer, script_decided, tables_answer, tables_decided, wanted_answer, wanted_decided}

-- ---- the configuration

module _ (needs : Needs) (name found : Option (List ℕ)) where
  pub conf_not : (refusal : FileRefusal) → IsSomeRead (IsConfRead needs name found) → IsConfLacking needs name found refusal → ⊥
  conf_not refusal read (inl refused) = (conf_decided name found).either read.0 refusal read.1.configured refused
  conf_not refusal read (inr (conf, configured, missing)) =
      let one : read.0 ≡ conf = (conf_decided name found).value read.0 conf read.1.configured configured in
      (tables_decided needs conf).either tt refusal (subst (λ (c : Configuration). HasTables needs c) one read.1.tables) missing

  conf_one : (one other : FileRefusal) → IsConfLacking needs name found one → IsConfLacking needs name found other → one ≡ other
  conf_one one other (inl refused) (inl also) = (conf_decided name found).cause one other refused also
  conf_one one other (inl refused) (inr (conf, configured, missing)) = absurd ((conf_decided name found).either conf one configured refused)
  conf_one one other (inr (conf, configured, missing)) (inl also) = absurd ((conf_decided name found).either conf other configured also)
  conf_one one other (inr (conf, configured, missing)) (inr (next, next_configured, also)) =
      let same : conf ≡ next = (conf_decided name found).value conf next configured next_configured in
      (tables_decided needs next).cause one other (subst (λ (c : Configuration). IsTableMissing needs c one) same missing) also

  conf_has : HasAnswer (IsConfRead needs name found) (IsConfLacking needs name found)
  conf_has = elim (conf_answer name found) [
    | inl read ↦ elim (tables_answer needs read.0) [
      | inl has ↦ inl (read.0, record { configured = read.1; tables = has.1 })
      | inr missing ↦ inr (missing.0, inr (read.0, read.1, missing.1))
    ]
    | inr cause ↦ inr (cause.0, inl cause.1)
  ]

module _ (needs : Needs) (names : FileNames) (found : Found) (input : List ℕ) where
  -- ---- the other record

  related_one : (one other : Option Message) → IsRequested (names RequestFile) (found RequestFile) one → IsRequested (names RequestFile) (found RequestFile) other → one ≡ other
  related_one one other = (request_decided (names RequestFile) (found RequestFile)).value one other

  other_not : (related other : Option Message) (refusal : FileRefusal) → IsRequested (names RequestFile) (found RequestFile) related → IsOther names found related other → IsOtherRefused names found refusal → ⊥
  other_not related other refusal requested is un =
      (record_decided (reading_for related) (names OtherFile) (found OtherFile)).either other refusal is
      (subst (λ (r : Option Message). IsMessageFileRefused (reading_for r) (names OtherFile) (found OtherFile) refusal) (related_one un.related related un.requested requested) un.refused)

  other_one : (one also : FileRefusal) → IsOtherRefused names found one → IsOtherRefused names found also → one ≡ also
  other_one one also un next =
      (record_decided (reading_for next.related) (names OtherFile) (found OtherFile)).cause one also
      (subst (λ (r : Option Message). IsMessageFileRefused (reading_for r) (names OtherFile) (found OtherFile) one) (related_one un.related next.related un.requested next.requested) un.refused) next.refused

  -- ---- the input

  input_not : (related : Option Message) (message : Message) (refusal : FileRefusal) → IsRequested (names RequestFile) (found RequestFile) related → IsInputMessage (reading_for related) input message
      → IsAnswerRefused names found input refusal → ⊥
  input_not related message refusal requested is un =
      let one : un.related ≡ related = (request_decided (names RequestFile) (found RequestFile)).value un.related related un.requested requested in
      (input_decided (reading_for related) input).either message refusal is (subst (λ (r : Option Message). IsInputRefused (reading_for r) input refusal) one un.refused)

  input_one : (one other : FileRefusal) → IsAnswerRefused names found input one → IsAnswerRefused names found input other → one ≡ other
  input_one one other un also =
      let same : un.related ≡ also.related = (request_decided (names RequestFile) (found RequestFile)).value un.related also.related un.requested also.requested in
      (input_decided (reading_for also.related) input).cause one other (subst (λ (r : Option Message). IsInputRefused (reading_for r) input one) same un.refused) also.refused

  -- ---- one value

  taken_one : (one other : TakenValues) → IsIntake needs names found input one → IsIntake needs names found input other → one ≡ other
  taken_one one other is also =
      let conf : one.conf ≡ other.conf = (conf_decided (names ConfFile) (found ConfFile)).value one.conf other.conf is.conf.configured also.conf.configured in
      let related : one.context.related ≡ other.context.related = (request_decided (names RequestFile) (found RequestFile)).value one.context.related other.context.related is.requested also.requested in
      let wishes : one.wishes ≡ other.wishes = (wanted_decided (names WantedFile) (found WantedFile)).value one.wishes other.wishes is.wanted also.wanted in
      let script : one.script ≡ other.script = (script_decided (names ScriptFile) (found ScriptFile)).value one.script other.script is.scripted also.scripted in
      let record_is : one.other ≡ other.other = (record_decided (reading_for other.context.related) (names OtherFile) (found OtherFile)).value one.other other.other
      (subst (λ (r : Option Message). IsOther names found r one.other) related is.recorded) also.recorded in
      let message : one.context.message ≡ other.context.message = (input_decided (reading_for other.context.related) input).value one.context.message other.context.message
      (subst (λ (r : Option Message). IsInputMessage (reading_for r) input one.context.message) related is.is) also.is in
      let same : context_for one.conf one.context.message one.context.related ≡ context_for other.conf other.context.message other.context.related =
      λ i. context_for (conf i) (message i) (related i) in
      let context : one.context ≡ other.context = is.context_is ∙ (same ∙ sym also.context_is) in
      λ i. record { conf = conf i; wishes = wishes i; script = script i; other = record_is i; context = context i }

  taken_not : (taken : TakenValues) (refusal : Refusal) → IsIntake needs names found input taken → IsIntakeRefused needs names found input refusal → ⊥
  taken_not taken Arguments is un = un
  taken_not taken (Command r) is un = un
  taken_not taken (Of (Item i) r) is un = un
  taken_not taken (Of Conf r) is un = conf_not needs (names ConfFile) (found ConfFile) r (taken.conf, is.conf) un
  taken_not taken (Of Request r) is un = (request_decided (names RequestFile) (found RequestFile)).either taken.context.related r is.requested un.1
  taken_not taken (Of Wanted r) is un = (wanted_decided (names WantedFile) (found WantedFile)).either taken.wishes r is.wanted un.1
  taken_not taken (Of Script r) is un = (script_decided (names ScriptFile) (found ScriptFile)).either taken.script r is.scripted un.1
  taken_not taken (Of Other r) is un = other_not taken.context.related taken.other r is.requested is.recorded un.1
  taken_not taken (Of Input r) is un = input_not taken.context.related taken.context.message r is.requested is.is un.1

  -- ---- one cause: of two, what comes first is read for the other

  abbrev IsUn : Refusal → Type 0
  IsUn refusal = IsIntakeRefused needs names found input refusal

  conf_first : (r : FileRefusal) → IsUn (Of Conf r) → (other : Refusal) → IsUn other → Of Conf r ≡ other
  conf_first r is Arguments un = absurd un
  conf_first r is (Command q) un = absurd un
  conf_first r is (Of (Item i) q) un = absurd un
  conf_first r is (Of Conf q) un = ap (λ (x : FileRefusal). Of Conf x) (conf_one needs (names ConfFile) (found ConfFile) r q is un)
  conf_first r is (Of Request q) un = absurd (conf_not needs (names ConfFile) (found ConfFile) r un.0 is)
  conf_first r is (Of Wanted q) un = absurd (conf_not needs (names ConfFile) (found ConfFile) r un.0.conf is)
  conf_first r is (Of Script q) un = absurd (conf_not needs (names ConfFile) (found ConfFile) r un.0.before.conf is)
  conf_first r is (Of Other q) un = absurd (conf_not needs (names ConfFile) (found ConfFile) r un.0.before.before.conf is)
  conf_first r is (Of Input q) un = absurd (conf_not needs (names ConfFile) (found ConfFile) r un.0.before.before.conf is)

  request_not : (r : FileRefusal) → IsSomeRead (IsRequested (names RequestFile) (found RequestFile)) → IsRequestRefused (names RequestFile) (found RequestFile) r → ⊥
  request_not r read refused = (request_decided (names RequestFile) (found RequestFile)).either read.0 r read.1 refused

  request_first : (r : FileRefusal) → IsUn (Of Request r) → (other : Refusal) → IsUn other → Of Request r ≡ other
  request_first r is Arguments un = absurd un
  request_first r is (Command q) un = absurd un
  request_first r is (Of (Item i) q) un = absurd un
  request_first r is (Of Conf q) un = sym (conf_first q un (Of Request r) is)
  request_first r is (Of Request q) un = ap (λ (x : FileRefusal). Of Request x) ((request_decided (names RequestFile) (found RequestFile)).cause r q is.1 un.1)
  request_first r is (Of Wanted q) un = absurd (request_not r un.0.request is.1)
  request_first r is (Of Script q) un = absurd (request_not r un.0.before.request is.1)
  request_first r is (Of Other q) un = absurd (request_not r un.0.before.before.request is.1)
  request_first r is (Of Input q) un = absurd (request_not r un.0.before.before.request is.1)

  wishes_first : (r : FileRefusal) → IsUn (Of Wanted r) → (other : Refusal) → IsUn other → Of Wanted r ≡ other
  wishes_first r is Arguments un = absurd un
  wishes_first r is (Command q) un = absurd un
  wishes_first r is (Of (Item i) q) un = absurd un
  wishes_first r is (Of Conf q) un = sym (conf_first q un (Of Wanted r) is)
  wishes_first r is (Of Request q) un = sym (request_first q un (Of Wanted r) is)
  wishes_first r is (Of Wanted q) un = ap (λ (x : FileRefusal). Of Wanted x) ((wanted_decided (names WantedFile) (found WantedFile)).cause r q is.1 un.1)
  wishes_first r is (Of Script q) un = absurd ((wanted_decided (names WantedFile) (found WantedFile)).either un.0.wishes.0 r un.0.wishes.1 is.1)
  wishes_first r is (Of Other q) un = absurd ((wanted_decided (names WantedFile) (found WantedFile)).either un.0.before.wishes.0 r un.0.before.wishes.1 is.1)
  wishes_first r is (Of Input q) un = absurd ((wanted_decided (names WantedFile) (found WantedFile)).either un.0.before.wishes.0 r un.0.before.wishes.1 is.1)

  script_first : (r : FileRefusal) → IsUn (Of Script r) → (other : Refusal) → IsUn other → Of Script r ≡ other
  script_first r is Arguments un = absurd un
  script_first r is (Command q) un = absurd un
  script_first r is (Of (Item i) q) un = absurd un
  script_first r is (Of Conf q) un = sym (conf_first q un (Of Script r) is)
  script_first r is (Of Request q) un = sym (request_first q un (Of Script r) is)
  script_first r is (Of Wanted q) un = sym (wishes_first q un (Of Script r) is)
  script_first r is (Of Script q) un = ap (λ (x : FileRefusal). Of Script x) ((script_decided (names ScriptFile) (found ScriptFile)).cause r q is.1 un.1)
  script_first r is (Of Other q) un = absurd ((script_decided (names ScriptFile) (found ScriptFile)).either un.0.script.0 r un.0.script.1 is.1)
  script_first r is (Of Input q) un = absurd ((script_decided (names ScriptFile) (found ScriptFile)).either un.0.script.0 r un.0.script.1 is.1)

  other_first : (r : FileRefusal) → IsUn (Of Other r) → (other : Refusal) → IsUn other → Of Other r ≡ other
  other_first r is Arguments un = absurd un
  other_first r is (Command q) un = absurd un
  other_first r is (Of (Item i) q) un = absurd un
  other_first r is (Of Conf q) un = sym (conf_first q un (Of Other r) is)
  other_first r is (Of Request q) un = sym (request_first q un (Of Other r) is)
  other_first r is (Of Wanted q) un = sym (wishes_first q un (Of Other r) is)
  other_first r is (Of Script q) un = sym (script_first q un (Of Other r) is)
  other_first r is (Of Other q) un = ap (λ (x : FileRefusal). Of Other x) (other_one r q is.1 un.1)
  other_first r is (Of Input q) un = absurd (other_not un.1.related un.1.recorded.0 r un.1.requested un.1.recorded.1 is.1)

  refused_one : (one other : Refusal) → IsUn one → IsUn other → one ≡ other
  refused_one Arguments other is un = absurd is
  refused_one (Command q) other is un = absurd is
  refused_one (Of (Item i) r) other is un = absurd is
  refused_one (Of Conf r) other is un = conf_first r is other un
  refused_one (Of Request r) other is un = request_first r is other un
  refused_one (Of Wanted r) other is un = wishes_first r is other un
  refused_one (Of Script r) other is un = script_first r is other un
  refused_one (Of Other r) other is un = other_first r is other un
  refused_one (Of Input r) Arguments is un = absurd un
  refused_one (Of Input r) (Command q) is un = absurd un
  refused_one (Of Input r) (Of (Item i) q) is un = absurd un
  refused_one (Of Input r) (Of Conf q) is un = sym (conf_first q un (Of Input r) is)
  refused_one (Of Input r) (Of Request q) is un = sym (request_first q un (Of Input r) is)
  refused_one (Of Input r) (Of Wanted q) is un = sym (wishes_first q un (Of Input r) is)
  refused_one (Of Input r) (Of Script q) is un = sym (script_first q un (Of Input r) is)
  refused_one (Of Input r) (Of Other q) is un = sym (other_first q un (Of Input r) is)
  refused_one (Of Input r) (Of Input q) is un = ap (λ (x : FileRefusal). Of Input x) (input_one r q is.1 un.1)

pub intake_decided : IsIntakeDecided
intake_decided needs names found input = record {
  value = taken_one needs names found input;
  cause = refused_one needs names found input;
  either = taken_not needs names found input;
}

pub intake_answer : HasIntake
intake_answer needs names found input files bytes = elim (conf_has needs (names ConfFile) (found ConfFile)) [
  | inr cause ↦ inr (Of Conf cause.0, cause.1)
  | inl conf ↦ elim (request_answer (names RequestFile) (found RequestFile) (files RequestFile)) [
    | inr cause ↦ inr (Of Request cause.0, (conf, cause.1))
    | inl request ↦ elim (wanted_answer (names WantedFile) (found WantedFile) (files WantedFile)) [
      | inr cause ↦ inr (Of Wanted cause.0, (record { conf = conf; request = request }, cause.1))
      | inl wishes ↦ elim (script_answer (names ScriptFile) (found ScriptFile)) [
        | inr cause ↦ inr (Of Script cause.0, (record { before = record { conf = conf; request = request }; wishes = wishes }, cause.1))
        | inl script ↦ elim (record_answer (reading_for request.0) (names OtherFile) (found OtherFile) (files OtherFile)) [
          | inr cause ↦ inr (
            Of Other cause.0,
            (
              record { before = record { before = record { conf = conf; request = request }; wishes = wishes }; script = script },
              record { related = request.0; requested = request.1; refused = cause.1 },
            ),
          )
          | inl other ↦ elim (input_answer (reading_for request.0) input bytes) [
            | inr cause ↦ inr (
              Of Input cause.0,
              (
                record { before = record { before = record { conf = conf; request = request }; wishes = wishes }; script = script },
                record { related = request.0; requested = request.1; recorded = other; refused = cause.1 },
              ),
            )
            | inl message ↦ inl (
              record { conf = conf.0; wishes = wishes.0; script = script.0; other = other.0; context = context_for conf.0 message.0 request.0 },
              record { conf = conf.1; requested = request.1; wanted = wishes.1; scripted = script.1; recorded = other.1; is = message.1; context_is = refl },
            )
          ]
        ]
      ]
    ]
  ]
]
