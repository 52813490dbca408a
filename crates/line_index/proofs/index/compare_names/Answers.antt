use Rattle.std.proofs.Common.{rules}
use Rattle.std.specs.Char.{to_ascii_lowercase}
use Rattle.std.proofs.lemmas.List.{drop-map, length-map}
use Rattle.line_index.proofs.index.compare_names.Goals as goal

pub returns : goal.returns
returns c =
    let one = c.args.one.now in
    let other = c.args.other.now in
    rw (length-map one to_ascii_lowercase, length-map other to_ascii_lowercase, drop-map to_ascii_lowercase 16 one, drop-map to_ascii_lowercase 16 other) (search rules)
