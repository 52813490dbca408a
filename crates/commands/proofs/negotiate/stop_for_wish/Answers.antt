use Rattle.std.proofs.Common.{◌≡◌, List, Some, refl, sym, subst}
use Rattle.component_values.specs.Context.{context_of}
use Rattle.conf.specs.ConfMeaning.{meaning}
use Rattle.msg_body.specs.Views.{message_of}
use Rattle.negotiation.specs.declared.fault.EachFault.TheVariants as each
use Rattle.signing.specs.declared.spec.SignSpec.{SignSpec}
use Rattle.commands.specs.tools.Signed.{HasPlaceIn, SaysEachFault}
use Rattle.commands.proofs.Negotiating.{again_memory, has_place, wish_stopped}
use Rattle.commands.proofs.negotiate.stop_for_wish.Goals as goal

pub stop_for_each_fault-requires-clause-there : goal.stop_for_each_fault-requires-clause-there
stop_for_each_fault-requires-clause-there c =
    let context = context_of c.args.context.now in
    let request = message_of c.in-Some.request.now in
    let related : context.related ≡ Some request = rw c.in-Some.is refl in
    let place = has_place (meaning c.args.conf.now) c.args.now context c.args.index c.args.fault request c.in-Ok.specs c.requires.is related c.in-Ok.ensures.ok in
    subst (λ (ss : List SignSpec). HasPlaceIn ss (each.Sign c.args.index c.args.fault)) (sym c.as_slice.ensures) place

pub returns-in-Ok : goal.returns-in-Ok
returns-in-Ok c =
    let context = context_of c.args.context.now in
    let request = message_of c.in-Some.request.now in
    let related : context.related ≡ Some request = rw c.in-Some.is refl in
    let says = subst (λ (ss : List SignSpec). SaysEachFault ss (each.Sign c.args.index c.args.fault) c.stop_for_each_fault.result) c.as_slice.ensures c.stop_for_each_fault.ensures in
    wish_stopped (meaning c.args.conf.now) c.args.now context c.args.index c.args.fault request c.in-Ok.specs c.stop_for_each_fault.result c.requires.is related c.in-Ok.ensures.ok says

pub only_memory-requires : goal.only_memory-requires
only_memory-requires c =
    let context = context_of c.args.context.now in
    let request = message_of c.in-Some.request.now in
    let related : context.related ≡ Some request = rw c.in-Some.is refl in
    again_memory (meaning c.args.conf.now) c.args.now context c.args.index c.args.fault request c.in-Err.fault related c.requires.is c.in-Err.ensures.fault
