use Rattle.msg_head.specs.Starts.{RequestLine}
use Rattle.component_values.specs.Context.{context_of}
use Rattle.field_lists.specs.tools.FromViews.{control_in}
use Rattle.field_lists.proofs.FromParts.{fields_handed, request_gives, status_gives}
use Rattle.field_lists.proofs.into_list.pseudo_fields.Goals as goal

pub returns-in_err-texts-in-Request : goal.returns-in_err-texts-in-Request
returns-in_err-texts-in-Request c =
    let line : RequestLine = record { method = c.in-Request.method.now; target = c.in-Request.target.now; version = c.in-Request.version.now } in
    fields_handed (context_of c.args.context.now) line c.from_residual.result c.in_err-texts-in-Request.field-0.0 c.from_residual.ensures.1 c.in-Request.ensures (c.in_err-texts-in-Request.ensures c.in-Request.version.now)

pub returns-in_ok-request_fields-in-Request : goal.returns-in_ok-request_fields-in-Request
returns-in_ok-request_fields-in-Request c =
    let line : RequestLine = record { method = c.in-Request.method.now; target = c.in-Request.target.now; version = c.in-Request.version.now } in
    request_gives (context_of c.args.context.now) line (control_in c.in_ok-texts-in-Request.texts) c.in_ok-request_fields-in-Request.field-0 c.in-Request.ensures (c.in_ok-texts-in-Request.ensures c.in-Request.version.now) c.in_ok-request_fields-in-Request.ensures

pub returns-in_ok-status_fields-in-Status : goal.returns-in_ok-status_fields-in-Status
returns-in_ok-status_fields-in-Status c = status_gives (context_of c.args.context.now) _ c.in_ok-status_fields-in-Status.field-0 c.in-Status.ensures c.in_ok-status_fields-in-Status.ensures
