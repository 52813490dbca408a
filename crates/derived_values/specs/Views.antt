-- What borrowed parts stand for.
use Rattle.std.specs.Prelude.{option_map}
use Rattle.msg_head.specs.Starts.{RequestLine}
use Rattle.derived_values.specs.declared.target.Target.{Target}
use Rattle.derived_values.specs.declared.line.TargetLine.{TargetLine}
use Rattle.derived_values.specs.declared.authority.Authority.{Authority}
use Rattle.derived_values.specs.Targets.{TargetParts}
use Rattle.derived_values.specs.Authorities.{AuthorityParts}

-- the parts of a target that its borrowed texts stand for
abbrev pub parts_of : Target → TargetParts
parts_of target = record {
  form = target.form;
  scheme = option_map (λ text. text.now) target.scheme;
  authority = option_map (λ text. text.now) target.authority;
  path = target.path.now;
  query = option_map (λ text. text.now) target.query;
}

-- the request line that the borrowed texts stand for
abbrev pub request_line_of : TargetLine → RequestLine
request_line_of line =
    record { method = line.method.now; target = line.target.now; version = line.version.now }

-- the host and the port that the borrowed texts stand for
abbrev pub authority_parts : Authority → AuthorityParts
authority_parts authority = record {
  host = authority.host.now;
  port = option_map (λ text. text.now) authority.port;
}
