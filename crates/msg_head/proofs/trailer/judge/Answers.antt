use Rattle.std.proofs.Common.{arith}
use Rattle.msg_head.specs.declared.limits.TheConstants.{MAX_HEAD_BYTES}
use Rattle.msg_head.proofs.TrailerFaults.{trailer_too_long, first_trailer_fault}
use Rattle.msg_head.proofs.TrailerCuts.{trailer_ends_with_lf}
use Rattle.msg_head.proofs.TrailerAnswers.{trailer_unfinished, trailer_long, wider_trailer, trailer_short, own_trailer, no_trailer_section, trailer_view_of}
use Rattle.msg_head.proofs.trailer.judge.Goals as goal

pub returns-then-bytes-lt-MAX_HEAD_BYTES-clause-explains :
    goal.returns-then-bytes-lt-MAX_HEAD_BYTES-clause-explains
returns-then-bytes-lt-MAX_HEAD_BYTES-clause-explains c =
    trailer_unfinished c.args.bytes.now c.prefix_of.result.now c.prefix_of.ensures c.in_default.ensures.none c.if-bytes-lt-MAX_HEAD_BYTES.true

pub returns-in_default-clause-explains : goal.returns-in_default-clause-explains
returns-in_default-clause-explains c own =
    trailer_too_long c.args.bytes.now (trailer_long c.args.bytes.now c.prefix_of.result.now c.prefix_of.ensures c.in_default.ensures.none (omega (arith, c.if-bytes-lt-MAX_HEAD_BYTES.false)))

pub read_section-requires : goal.read_section-requires
read_section-requires c = record {
  is = own_trailer c.prefix_of.result.now c.in-Some.section.now c.in-Some.ensures.some;
  short = trailer_short MAX_HEAD_BYTES c.args.bytes.now c.prefix_of.result.now c.in-Some.section.now c.prefix_of.ensures c.in-Some.ensures.some;
}

pub returns-in-Ok-clause-explains : goal.returns-in-Ok-clause-explains
returns-in-Ok-clause-explains c =
    let is = wider_trailer MAX_HEAD_BYTES c.args.bytes.now c.prefix_of.result.now c.in-Some.section.now c.prefix_of.ensures c.in-Some.ensures.some in
    trailer_view_of c.args.bytes.now c.in-Some.section.now c.in-Ok.view is c.in-Ok.ensures.ok

pub returns-in-Ok-clause-partial : goal.returns-in-Ok-clause-partial
returns-in-Ok-clause-partial c u =
    absurd (no_trailer_section c.args.bytes.now c.in-Some.section.now u (wider_trailer MAX_HEAD_BYTES c.args.bytes.now c.prefix_of.result.now c.in-Some.section.now c.prefix_of.ensures c.in-Some.ensures.some))

pub first_fault-requires : goal.first_fault-requires
first_fault-requires c = trailer_ends_with_lf c.prefix_of.result.now c.in-Some.section.now c.in-Some.ensures.some

pub returns-in-Err-clause-explains : goal.returns-in-Err-clause-explains
returns-in-Err-clause-explains c =
    let bytes = c.args.bytes.now in
    let prefix = c.prefix_of.result.now in
    let section = c.in-Some.section.now in
    let is = wider_trailer MAX_HEAD_BYTES bytes prefix section c.prefix_of.ensures c.in-Some.ensures.some in
    let short = trailer_short MAX_HEAD_BYTES bytes prefix section c.prefix_of.ensures c.in-Some.ensures.some in
    first_trailer_fault bytes section c.in-Err.fault c.first_fault.result is short c.in-Err.ensures.err c.first_fault.ensures

pub returns-in-Err-clause-partial : goal.returns-in-Err-clause-partial
returns-in-Err-clause-partial c u =
    absurd (no_trailer_section c.args.bytes.now c.in-Some.section.now u (wider_trailer MAX_HEAD_BYTES c.args.bytes.now c.prefix_of.result.now c.in-Some.section.now c.prefix_of.ensures c.in-Some.ensures.some))
