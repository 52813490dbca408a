use Rattle.std.proofs.Common.{rules, length}
use Rattle.std.specs.Char.{to_ascii_lowercase}
use Rattle.std.proofs.lemmas.Bool.{eq-eqb}
use Rattle.std.proofs.lemmas.List.{drop-map, length-map}
use Rattle.line_index.proofs.index.is_rest_named.Goals as goal

pub returns-then-written-name : goal.returns-then-written-name
returns-then-written-name c =
    let written = c.args.written.now in
    let name = c.args.name.now in
    rw (length-map written to_ascii_lowercase, drop-map to_ascii_lowercase 16 written, eq-eqb (length written) (length name) c.if-written-name.true) (search rules)
