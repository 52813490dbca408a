-- What a request's borrowed parts stand for. No public clause cites this module.
use Rattle.msg_head.specs.declared.error.Side.TheVariants.{Header}
use Rattle.msg_body.specs.Views.{message_of, lines_on}
use Rattle.derived_values.specs.declared.derived.Request.{Request}
use Rattle.derived_values.specs.Derived.{RequestParts}

abbrev pub request_parts : Request → RequestParts
request_parts request = record {
  method = request.method.now;
  target = request.target.now;
  lines = lines_on Header (message_of request.message.now);
  scheme = request.scheme;
}
