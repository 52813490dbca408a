use Rattle.std.proofs.Common.{◌∙◌, take, drop, sym, ap, arith}
use Rattle.std.specs.List.{list_all}
use Rattle.std.proofs.lemmas.List.{take-append-drop}
use Rattle.byte_grammar.specs.Language.{starts_in}
use Rattle.msg_head.proofs.FirstPlaces.{read_more, split_there, split_nearby}
use Rattle.msg_head.proofs.slices.split_class.Goals as goal

pub returns-in-Some-first_outside-clause-all : goal.returns-in-Some-first_outside-clause-all
returns-in-Some-first_outside-clause-all g c =
    let test = g.C.ByteClass.members c.args.class in
    ap (list_all test) c.split_at.ensures.front ∙ (split_nearby test c.args.bytes.now c.chunks.left.now c.in-Some.chunk.now c.in-Some-first_outside.n _ c.chunks.invariant c.in-Some.ensures.cases.same c.in-Some-first_outside.ensures.some (omega arith)).each

pub returns-in-Some-first_outside-clause-ends : goal.returns-in-Some-first_outside-clause-ends
returns-in-Some-first_outside-clause-ends g c =
    let test = g.C.ByteClass.members c.args.class in
    ap (starts_in test) c.split_at.ensures.back ∙ (split_nearby test c.args.bytes.now c.chunks.left.now c.in-Some.chunk.now c.in-Some-first_outside.n _ c.chunks.invariant c.in-Some.ensures.cases.same c.in-Some-first_outside.ensures.some (omega arith)).ends

pub chunks-preserved : goal.chunks-preserved
chunks-preserved g c =
    let test = g.C.ByteClass.members c.args.class in
    let left = c.chunks.left.now in
    rw c.rest_from-left.ensures (read_more test c.args.bytes.now left (take 16 left) (drop 16 left) c.chunks.invariant (sym (take-append-drop 16 left)) (ap (list_all test) (sym c.in-Some.ensures.cases.same) ∙ c.in_default-first_outside.ensures.none))

pub returns-clause-all : goal.returns-clause-all
returns-clause-all g c =
    let test = g.C.ByteClass.members c.args.class in
    let read = read_more test c.args.bytes.now c.chunks.left.now c.read_all.result.0.now c.read_all.result.1.now c.chunks.invariant c.read_all.ensures.joined c.read_all.ensures.all in
    ap (list_all test) c.split_at-2.ensures.front ∙ (split_there test c.args.bytes.now c.read_all.result.1.now _ read c.read_all.ensures.ends (omega arith)).each

pub returns-clause-ends : goal.returns-clause-ends
returns-clause-ends g c =
    let test = g.C.ByteClass.members c.args.class in
    let read = read_more test c.args.bytes.now c.chunks.left.now c.read_all.result.0.now c.read_all.result.1.now c.chunks.invariant c.read_all.ensures.joined c.read_all.ensures.all in
    ap (starts_in test) c.split_at-2.ensures.back ∙ (split_there test c.args.bytes.now c.read_all.result.1.now _ read c.read_all.ensures.ends (omega arith)).ends
