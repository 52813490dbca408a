use Rattle.std.proofs.Common.{sym, ◌∙◌, rules}
use Rattle.sfv_text.proofs.IndexLaws.{none_in, new_pair, new_put, found_pair, found_put}
use Rattle.sfv_text.proofs.pairs.Pairs.put.Goals as goal

pub make_room-requires-clause-new_key : goal.make_room-requires-clause-new_key
make_room-requires-clause-new_key g c = none_in c.self.inside.pairs.items c.as_slice.result.now _ c.bytes.result.now c.in-None.ensures (c.bytes.ensures ∙ sym c.bytes-in-None.ensures) c.as_slice.ensures.value

pub returns-in_err-make_room-in-None-clause-new_key : goal.returns-in_err-make_room-in-None-clause-new_key
returns-in_err-make_room-in-None-clause-new_key g c =
    let none = none_in c.self.inside.pairs.items c.as_slice.result.now c.args.key c.bytes.result.now c.in-None.ensures c.bytes.ensures c.as_slice.ensures.value in
    search (rules, none)

pub invariant_of-self-in-None : goal.invariant_of-self-in-None
invariant_of-self-in-None g c =
    let none = none_in c.self.inside.pairs.items c.as_slice.result.now c.args.key c.bytes.result.now c.in-None.ensures c.bytes.ensures c.as_slice.ensures.value in
    let made = c.in_ok-make_room-in-None.ensures in
    new_pair c.make_room.new.index c.self.inside.pairs.items _ _ c.args.key _ c.args.value c.push_reserved.ensures.items made.pairs c.bytes-in-None.ensures c.self.invariant.0 none made.ok

pub returns-in_ok-make_room-in-None-clause-ok : goal.returns-in_ok-make_room-in-None-clause-ok
returns-in_ok-make_room-in-None-clause-ok g c =
    let none = none_in c.self.inside.pairs.items c.as_slice.result.now c.args.key c.bytes.result.now c.in-None.ensures c.bytes.ensures c.as_slice.ensures.value in
    new_put c.args.self.now c.self.inside.pairs.items _ _ c.args.key c.args.value c.push_reserved.ensures.items c.in_ok-make_room-in-None.ensures.pairs c.self.view_is none

pub invariant_of-self : goal.invariant_of-self
invariant_of-self g c =
    found_pair c.self.inside.index c.self.inside.pairs.items c.as_slice.result.now c.args.key c.bytes.result.now c.args.value c.in-Some.place c.in-Some.ensures c.bytes.ensures c.as_slice.ensures.value
    c.self.invariant.0 c.self.invariant.1

pub returns-in-Some-clause-ok : goal.returns-in-Some-clause-ok
returns-in-Some-clause-ok g c =
    found_put c.args.self.now c.self.inside.pairs.items c.as_slice.result.now c.args.key c.bytes.result.now c.args.value c.in-Some.place c.in-Some.ensures c.bytes.ensures c.as_slice.ensures.value
    c.self.view_is c.self.invariant.0
