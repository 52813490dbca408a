use Rattle.std.proofs.Common.{map, string_bytes, subst, sym}
use Rattle.command_options.specs.Names.{command_word}
use Rattle.command_options.specs.declared.options.CommandName.{CommandName}
use Rattle.command_line.specs.tools.After.{NoneAfter}
use Rattle.command_line.proofs.FirstWords.{help_asked, no_audit, no_base, no_explain, no_gateway, no_lists, no_negotiate, no_rewrite, no_sample, no_sign, no_verify}
use Rattle.command_line.proofs.Results.{if_none}
use Rattle.command_line.proofs.command.read_command.Goals as goal

pub returns-then-asks_help-clause-some : goal.returns-then-asks_help-clause-some
returns-then-asks_help-clause-some c = help_asked c.args.command (map string_bytes c.args.words.now) (sym c.if-asks_help.ensures)

pub returns-in-Base-clause-none : goal.returns-in-Base-clause-none
returns-in-Base-clause-none c =
    if_none c.read_base.result
    (λ none. subst (λ (command : CommandName). NoneAfter (command_word command) (map string_bytes c.args.words.now)) (sym c.in-Base.is)
    (no_base (map string_bytes c.args.words.now) (sym c.if-asks_help.ensures) none)) c.read_base.ensures.none

pub returns-in-Verify-clause-none : goal.returns-in-Verify-clause-none
returns-in-Verify-clause-none c =
    if_none c.read_verify.result
    (λ none. subst (λ (command : CommandName). NoneAfter (command_word command) (map string_bytes c.args.words.now)) (sym c.in-Verify.is)
    (no_verify (map string_bytes c.args.words.now) (sym c.if-asks_help.ensures) none)) c.read_verify.ensures.none

pub returns-in-Sign-clause-none : goal.returns-in-Sign-clause-none
returns-in-Sign-clause-none c =
    if_none c.read_sign.result
    (λ none. subst (λ (command : CommandName). NoneAfter (command_word command) (map string_bytes c.args.words.now)) (sym c.in-Sign.is)
    (no_sign (map string_bytes c.args.words.now) (sym c.if-asks_help.ensures) none)) c.read_sign.ensures.none

pub returns-in-Rewrite-clause-none : goal.returns-in-Rewrite-clause-none
returns-in-Rewrite-clause-none c =
    if_none c.read_rewrite.result
    (λ none. subst (λ (command : CommandName). NoneAfter (command_word command) (map string_bytes c.args.words.now)) (sym c.in-Rewrite.is)
    (no_rewrite (map string_bytes c.args.words.now) (sym c.if-asks_help.ensures) none)) c.read_rewrite.ensures.none

pub returns-in-Explain-clause-none : goal.returns-in-Explain-clause-none
returns-in-Explain-clause-none c =
    if_none c.read_explain.result
    (λ none. subst (λ (command : CommandName). NoneAfter (command_word command) (map string_bytes c.args.words.now)) (sym c.in-Explain.is)
    (no_explain (map string_bytes c.args.words.now) (sym c.if-asks_help.ensures) none)) c.read_explain.ensures.none

pub returns-in-Audit-clause-none : goal.returns-in-Audit-clause-none
returns-in-Audit-clause-none c =
    if_none c.read_audit.result
    (λ none. subst (λ (command : CommandName). NoneAfter (command_word command) (map string_bytes c.args.words.now)) (sym c.in-Audit.is)
    (no_audit (map string_bytes c.args.words.now) (sym c.if-asks_help.ensures) none)) c.read_audit.ensures.none

pub returns-in-Gateway-clause-none : goal.returns-in-Gateway-clause-none
returns-in-Gateway-clause-none c =
    if_none c.read_gateway.result
    (λ none. subst (λ (command : CommandName). NoneAfter (command_word command) (map string_bytes c.args.words.now)) (sym c.in-Gateway.is)
    (no_gateway (map string_bytes c.args.words.now) (sym c.if-asks_help.ensures) none)) c.read_gateway.ensures.none

pub returns-in-Lists-clause-none : goal.returns-in-Lists-clause-none
returns-in-Lists-clause-none c =
    if_none c.read_lists.result
    (λ none. subst (λ (command : CommandName). NoneAfter (command_word command) (map string_bytes c.args.words.now)) (sym c.in-Lists.is)
    (no_lists (map string_bytes c.args.words.now) (sym c.if-asks_help.ensures) none)) c.read_lists.ensures.none

pub returns-in-Negotiate-clause-none : goal.returns-in-Negotiate-clause-none
returns-in-Negotiate-clause-none c =
    if_none c.read_negotiate.result
    (λ none. subst (λ (command : CommandName). NoneAfter (command_word command) (map string_bytes c.args.words.now)) (sym c.in-Negotiate.is)
    (no_negotiate (map string_bytes c.args.words.now) (sym c.if-asks_help.ensures) none)) c.read_negotiate.ensures.none

pub returns-in-Sample-clause-none : goal.returns-in-Sample-clause-none
returns-in-Sample-clause-none c =
    if_none c.read_sample.result
    (λ none. subst (λ (command : CommandName). NoneAfter (command_word command) (map string_bytes c.args.words.now)) (sym c.in-Sample.is)
    (no_sample (map string_bytes c.args.words.now) (sym c.if-asks_help.ensures) none)) c.read_sample.ensures.none
