use Rattle.std.proofs.Common.{sym, ◌∙◌}
use Rattle.msg_head.specs.Starts.{RequestLine}
use Rattle.derived_values.specs.Views.{parts_of}
use Rattle.component_values.specs.Context.{context_of}
use Rattle.field_lists.specs.Controls.{RequestControl}
use Rattle.field_lists.proofs.FromParts.{request_handed, request_is}
use Rattle.field_lists.proofs.into_list.request_texts.Goals as goal

pub returns-in_err-authority : goal.returns-in_err-authority
returns-in_err-authority c = λ version.
    let line : RequestLine = record { method = c.args.method.now; target = c.args.target.now; version = version } in
    request_handed (context_of c.args.context.now) line (parts_of c.in-Some.target) c.in-Some-path_of.path.now c.bytes.result.now c.in-Some.ensures.some (sym c.in-Some-path_of.ensures) (c.bytes.ensures ∙ c.in_ok-scheme.ensures line)
    c.from_residual-in_err-authority.result c.in_err-authority.field-0.0 c.from_residual-in_err-authority.ensures.1 (c.in_err-authority.ensures line)

pub returns : goal.returns
returns c = λ version.
    let line : RequestLine = record { method = c.args.method.now; target = c.args.target.now; version = version } in
    let control : RequestControl = record { method = c.in_ok-method.method; scheme = c.in_ok-scheme.scheme; authority = c.in_ok-authority.authority; path = c.in_ok-path.path } in
    request_is (context_of c.args.context.now) line (parts_of c.in-Some.target) c.in-Some-path_of.path.now c.bytes.result.now c.in-Some.ensures.some (sym c.in-Some-path_of.ensures) (c.bytes.ensures ∙ c.in_ok-scheme.ensures line)
    control (sym c.bytes.ensures) c.in_ok-method.ensures.ok c.in_ok-path.ensures (c.in_ok-authority.ensures line)
