-- What `--help` and `--version` come to, and the help of one command.
use Rattle.std.specs.Prelude.{◌≡◌, ◌++◌, ℕ, List}
use Rattle.std.specs.List.{flat_map}
use Rattle.command_options.specs.declared.options.CommandName.{CommandName}
use Rattle.command_options.specs.declared.options.CommandName.TheVariants.{Base, Verify, Sign, Rewrite, Explain, Audit, Gateway, Lists, Negotiate, Sample}
use Rattle.program.specs.declared.help.TheConstants.{COMMANDS, TITLE_TEXT, VERIFY_TEXT, BASE_TEXT, SIGN_TEXT, REWRITE_TEXT, EXPLAIN_TEXT, AUDIT_TEXT, GATEWAY_TEXT, LISTS_TEXT, NEGOTIATE_TEXT, SAMPLE_TEXT, END_TEXT, VERSION_TEXT}
use Rattle.commands.specs.declared.outcome.Outcome.{Outcome}
use Rattle.commands.specs.declared.outcome.Outcome.TheVariants.{Done}

-- what a command does
abbrev pub text_of : CommandName → List ℕ
text_of Base = BASE_TEXT.now
text_of Verify = VERIFY_TEXT.now
text_of Sign = SIGN_TEXT.now
text_of Rewrite = REWRITE_TEXT.now
text_of Explain = EXPLAIN_TEXT.now
text_of Audit = AUDIT_TEXT.now
text_of Gateway = GATEWAY_TEXT.now
text_of Lists = LISTS_TEXT.now
text_of Negotiate = NEGOTIATE_TEXT.now
text_of Sample = SAMPLE_TEXT.now

-- what the program is, what each command does, and the statuses
abbrev pub help_text : List ℕ
help_text = TITLE_TEXT.now ++ flat_map text_of COMMANDS ++ END_TEXT.now

-- the text that says what the program does
abbrev pub ReportsHelp : Outcome → Type 0
ReportsHelp outcome = outcome ≡ Done help_text

-- the text that says what a command does
abbrev pub ReportsHelpOf : CommandName → Outcome → Type 0
ReportsHelpOf command outcome = outcome ≡ Done (TITLE_TEXT.now ++ text_of command)

-- the text that says its version
abbrev pub ReportsVersion : Outcome → Type 0
ReportsVersion outcome = outcome ≡ Done VERSION_TEXT.now
