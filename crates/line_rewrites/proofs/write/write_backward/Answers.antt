use Rattle.line_rewrites.proofs.Slices.{backward_text}
use Rattle.line_rewrites.proofs.write.write_backward.Goals as goal

pub returns : goal.returns
returns c = λ line there.
    rw (c.in_ok-append-4.ensures.ok, c.in_ok-append-3.ensures.ok, c.in_ok-append-2.ensures.ok, c.in_ok-append.ensures.ok, c.before-2.ensures, c.between.ensures, c.between-2.ensures, c.rest_from.ensures)
    (backward_text c.args.lines.now c.args.index c.args.to line c.args.text.now there)
