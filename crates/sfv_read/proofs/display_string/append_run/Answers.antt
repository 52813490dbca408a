use Rattle.sfv_read.proofs.DisplayLoops.{run_added}
use Rattle.sfv_read.proofs.display_string.append_run.Goals as goal

pub returns : goal.returns
returns c =
    run_added c.args.text.now c.args.bytes.now c.append_character.new.text c.append.new.self c.in_ok-rest.rest.now _ _ c.in_ok-rest.ensures c.read_all.ensures.gives c.in_ok-append.ensures.ok
