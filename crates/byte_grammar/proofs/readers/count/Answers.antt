use Rattle.std.proofs.Common.{◌<◌, length, arith, sym}
use Rattle.byte_grammar.proofs.Count.{all_more, one_more, at_other, at_end, at_most}
use Rattle.byte_grammar.proofs.readers.count.Goals as goal

pub returns-then-n-bytes-clause-value : goal.returns-then-n-bytes-clause-value
returns-then-n-bytes-clause-value g c = at_end (g.C.ByteClass.members c.args.class) c.args.most c.loop-n.n c.args.bytes.now _ c.if-n-bytes.true c.loop-n.invariant.same

pub returns-then-not-allows-clause-value : goal.returns-then-not-allows-clause-value
returns-then-not-allows-clause-value g c =
    let short : c.loop-n.n < length c.args.bytes.now = omega arith in
    at_other (g.C.ByteClass.members c.args.class) c.args.most c.loop-n.n c.args.bytes.now _ _ c.loop-n-test.true short (sym c.if-not-allows.ensures) c.loop-n.invariant.same

pub loop-n-preserved : goal.loop-n-preserved
loop-n-preserved g c =
    let short : c.loop-n.n < length c.args.bytes.now = omega arith in
    record {
      within = omega arith;
      most = omega arith;
      all = all_more (g.C.ByteClass.members c.args.class) c.loop-n.n c.args.bytes.now _ short c.loop-n.invariant.all (sym c.if-not-allows.ensures);
      same = one_more (g.C.ByteClass.members c.args.class) c.args.most c.loop-n.n c.args.bytes.now _ _ c.loop-n-test.true short (sym c.if-not-allows.ensures) c.loop-n.invariant.same;
    }

pub returns-clause-value : goal.returns-clause-value
returns-clause-value g c = at_most (g.C.ByteClass.members c.args.class) c.args.most c.loop-n.n c.args.bytes.now _ c.loop-n-test.false c.loop-n.invariant.same
