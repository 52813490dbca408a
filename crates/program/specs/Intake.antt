-- What is read for a command over a message, and in which order it is judged.
use Rattle.std.specs.Prelude.{◌≡◌, ◌⊎◌, List, [], ◌∷◌, length, ℕ, Option, is_some, option_map}
use Rattle.std.specs.List.{filter}
use Rattle.msg_body.specs.Messages.{Message}
use Rattle.msg_body.specs.Views.{message_of}
use Rattle.msg_body.specs.WholeTexts.{reading_for}
use Rattle.component_values.specs.Context.{MessageContext, context_of}
use Rattle.conf.specs.Configuration.{Configuration}
use Rattle.conf.specs.ConfMeaning.{meaning}
use Rattle.verdicts.specs.Contexts.{context_for}
use Rattle.intake.specs.Configured.{IsConfigured, IsConfRefused}
use Rattle.intake.specs.Files.{FileNames, FileRole, Found, Conf as ConfFile, Request as RequestFile, Wanted as WantedFile, Script as ScriptFile, Other as OtherFile, file_names}
use Rattle.intake.specs.MessageFiles.{IsMessageFile, IsMessageFileRefused, IsRequested, IsRequestRefused, IsWanted, IsWantedRefused}
use Rattle.intake.specs.Messages.{IsInputMessage, IsInputRefused}
use Rattle.intake.specs.Scripts.{IsScripted, IsScriptRefused}
use Rattle.intake.specs.Tables.{HasTables, IsTableMissing}
use Rattle.intake.specs.declared.tables.Needs.{Needs}
use Rattle.rewrite_script.specs.declared.rewrite.Rewrite.{Rewrite}
use Rattle.refusals.specs.declared.file.FileRefusal.{FileRefusal}
use Rattle.refusals.specs.declared.refusal.Refusal.{Refusal}
use Rattle.refusals.specs.declared.refusal.Refusal.TheVariants.{Of}
use Rattle.refusals.specs.declared.role.Role.TheVariants.{Conf, Request, Wanted, Script, Other, Input}
use Rattle.intake.specs.declared.taken.FileWords.{FileWords}
use Rattle.intake.specs.declared.taken.Taken.{Taken}

-- the names that the words give
abbrev pub names_of : FileWords → FileNames
names_of words =
    file_names (option_map (λ word. word.now) words.conf)
    (option_map (λ word. word.now) words.request) (option_map (λ word. word.now) words.wanted)
    (option_map (λ word. word.now) words.script) (option_map (λ word. word.now) words.other)

-- what is read for a command: a configuration, the message that wishes signatures, if any, a
-- script, the other record of the message, if any, and the input with the request that it answers,
-- if any
pub record TakenValues : Type 0 where
  pub conf : Configuration
  pub wishes : Option Message
  pub script : List Rewrite
  pub other : Option Message
  pub context : MessageContext

-- what the borrowed parts stand for
abbrev pub taken_of : Taken → TakenValues
taken_of taken = record {
  conf = meaning taken.conf.now;
  wishes = option_map (λ view. message_of view.now) taken.wishes;
  script = taken.script.now;
  other = option_map (λ view. message_of view.now) taken.other;
  context = context_of taken.context.now;
}

-- the configuration in the file of this name has what is needed
pub record IsConfRead (needs : Needs) (name found : Option (List ℕ)) (conf : Configuration)
    : Type 0 where
  pub configured : IsConfigured name found conf
  pub tables : HasTables needs conf

-- why there is none: it is refused, or it lacks a table
abbrev pub IsConfLacking : Needs → Option (List ℕ) → Option (List ℕ) → FileRefusal → Type 0
IsConfLacking needs name found refusal =
    IsConfRefused name found refusal
    ⊎ ((conf : Configuration) × IsConfigured name found conf × IsTableMissing needs conf refusal)

-- the other record of the message, which answers the request, where one is named
abbrev pub IsOther : FileNames → Found → Option Message → Option Message → Type 0
IsOther names found related other =
    IsMessageFile (reading_for related) (names OtherFile) (found OtherFile) other

-- The files of these names and the input are what is taken: each file is read, the other record of
-- the message and the input answer the request, where one is named, and the input's context is that
-- of the configuration.
pub record IsIntake (needs : Needs) (names : FileNames) (found : Found) (input : List ℕ)
    (taken : TakenValues) : Type 0 where
  pub conf : IsConfRead needs (names ConfFile) (found ConfFile) taken.conf
  pub requested : IsRequested (names RequestFile) (found RequestFile) taken.context.related
  pub wanted : IsWanted (names WantedFile) (found WantedFile) taken.wishes
  pub scripted : IsScripted (names ScriptFile) (found ScriptFile) taken.script
  pub recorded : IsOther names found taken.context.related taken.other
  pub is : IsInputMessage (reading_for taken.context.related) input taken.context.message
  pub context_is :
      taken.context ≡ context_for taken.conf taken.context.message taken.context.related

-- some value is read
abbrev pub IsSomeRead : {V : Type 0} → (V → Type 0) → Type 0
IsSomeRead {V} Reads = (value : V) × Reads value

-- the configuration and the request are read
pub record IsReadToRequest (needs : Needs) (names : FileNames) (found : Found) : Type 0 where
  pub conf : IsSomeRead (IsConfRead needs (names ConfFile) (found ConfFile))
  pub request : IsSomeRead (IsRequested (names RequestFile) (found RequestFile))

-- they are, and the message that wishes signatures
pub record IsReadToWishes (needs : Needs) (names : FileNames) (found : Found) : Type 0 where
  pub before : IsReadToRequest needs names found
  pub wishes : IsSomeRead (IsWanted (names WantedFile) (found WantedFile))

-- they are, and the script
pub record IsReadToScript (needs : Needs) (names : FileNames) (found : Found) : Type 0 where
  pub before : IsReadToWishes needs names found
  pub script : IsSomeRead (IsScripted (names ScriptFile) (found ScriptFile))

-- the other record of the message is refused as one that answers the request, where one is named
pub record IsOtherRefused (names : FileNames) (found : Found) (refusal : FileRefusal)
    : Type 0 where
  pub related : Option Message
  pub requested : IsRequested (names RequestFile) (found RequestFile) related
  pub refused : IsMessageFileRefused (reading_for related) (names OtherFile) (found OtherFile)
      refusal

-- it is read so, and the input is refused as one that answers the request, where one is named
pub record IsAnswerRefused (names : FileNames) (found : Found) (input : List ℕ)
    (refusal : FileRefusal) : Type 0 where
  pub related : Option Message
  pub requested : IsRequested (names RequestFile) (found RequestFile) related
  pub recorded : IsSomeRead (IsOther names found related)
  pub refused : IsInputRefused (reading_for related) input refusal

-- Why nothing is taken: the first text that is refused, where those before it are read. Their order
-- is that of the cases.
abbrev pub IsIntakeRefused : Needs → FileNames → Found → List ℕ → Refusal → Type 0
IsIntakeRefused needs names found input (Of Conf refusal) =
    IsConfLacking needs (names ConfFile) (found ConfFile) refusal
IsIntakeRefused needs names found input (Of Request refusal) =
    IsSomeRead (IsConfRead needs (names ConfFile) (found ConfFile))
    × IsRequestRefused (names RequestFile) (found RequestFile) refusal
IsIntakeRefused needs names found input (Of Wanted refusal) =
    IsReadToRequest needs names found
    × IsWantedRefused (names WantedFile) (found WantedFile) refusal
IsIntakeRefused needs names found input (Of Script refusal) =
    IsReadToWishes needs names found
    × IsScriptRefused (names ScriptFile) (found ScriptFile) refusal
IsIntakeRefused needs names found input (Of Other refusal) =
    IsReadToScript needs names found × IsOtherRefused names found refusal
IsIntakeRefused needs names found input (Of Input refusal) =
    IsReadToScript needs names found × IsAnswerRefused names found input refusal
IsIntakeRefused needs names found input refusal = ⊥

-- ---- the files that are asked for

-- the roles of files, in the order in which they are read
abbrev pub read_order : List FileRole
read_order = ConfFile ∷ RequestFile ∷ WantedFile ∷ ScriptFile ∷ OtherFile ∷ []

-- those that are read until this refusal: up to and with the one that is refused, or all
abbrev pub roles_until : Refusal → List FileRole
roles_until (Of Conf refusal) = ConfFile ∷ []
roles_until (Of Request refusal) = ConfFile ∷ RequestFile ∷ []
roles_until (Of Wanted refusal) = ConfFile ∷ RequestFile ∷ WantedFile ∷ []
roles_until (Of Script refusal) = ConfFile ∷ RequestFile ∷ WantedFile ∷ ScriptFile ∷ []
roles_until refusal = read_order

-- how many files of these roles have a name
abbrev pub named_count : FileNames → List FileRole → ℕ
named_count names roles = length (filter (λ role. is_some (names role)) roles)
