use Rattle.msg_body.specs.Views.{message_of}
use Rattle.whole_rewrites.proofs.TargetPermitQueries.{kept_where_none, kept_where_same}
use Rattle.whole_rewrites.proofs.permit_target.query_condition.Goals as goal

pub returns-in_ok-queries-in-Some : goal.returns-in_ok-queries-in-Some
returns-in_ok-queries-in-Some c params =
    rw (c.in_ok-queries-in-Some.ensures, c.query_in.ensures) (kept_where_same (message_of c.args.message.now) c.args.text.now c.in-Some.query.now params c.in-Some.ensures.some)

pub returns-in-None : goal.returns-in-None
returns-in-None c params = kept_where_none (message_of c.args.message.now) c.args.text.now params c.in-None.ensures.none
