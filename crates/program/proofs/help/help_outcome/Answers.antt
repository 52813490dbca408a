use Rattle.std.proofs.Common.{◌≡◌, ◌++◌, ◌∙◌, ℕ, List, ap}
use Rattle.std.specs.List.{flat_map}
use Rattle.program.specs.Help.{text_of}
use Rattle.program.specs.declared.help.TheConstants.{COMMANDS, END_TEXT, TITLE_TEXT}
use Rattle.commands.specs.declared.outcome.Outcome.TheVariants.{Done}
use Rattle.program.proofs.help.help_outcome.Goals as goal

pub returns : goal.returns
returns c =
    let title : c.in_ok-text.text ≡ TITLE_TEXT.now = cc (c.in_ok-text.ensures.ok, c.as_bytes.ensures.value) in
    let all : c.append_commands.new.text ≡ TITLE_TEXT.now ++ flat_map text_of COMMANDS =
    c.in_ok-append_commands.ensures ∙ ap (λ (t : List ℕ). t ++ flat_map text_of COMMANDS) title in
    let end : c.append.new.self ≡ c.append_commands.new.text ++ END_TEXT.now = cc (c.in_ok-append.ensures.ok, c.as_bytes-2.ensures.value) in
    ap Done (end ∙ ap (λ (t : List ℕ). t ++ END_TEXT.now) all)
