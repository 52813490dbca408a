use Rattle.std.proofs.Common.{◌≡◌, ℕ, Option, Some, List, refl, sym, subst}
use Rattle.std.specs.Prelude.{option_copied}
use Rattle.msg_body.specs.Messages.{Message}
use Rattle.component_values.specs.Context.{context_of, context_with}
use Rattle.gateway.specs.tools.Walked.{HasSignatureOf, SaysMet, SpellsGiven}
use Rattle.gateway.proofs.Forwarding.{one_given}
use Rattle.gateway.proofs.forward.Forwarding.meet_again.Goals as goal

pub meet_text-requires-clause-signature : goal.meet_text-requires-clause-signature
meet_text-requires-clause-signature c = λ message spelled.
    let accepted = c.args.self.now.accepted.now in
    let context = context_of c.args.context.now in
    let is : option_copied c.args.given ≡ Some c.in-Some.text.now = rw c.in-Some.is refl in
    let had = subst (λ (o : Option (List ℕ)). SpellsGiven context o c.requires.signature.0) is c.requires.signature.1 in
    let same = one_given accepted context (Some c.in-Some.text.now) message c.requires.signature.0 spelled had in
    subst (λ (m : Message). HasSignatureOf accepted m) (sym same) c.requires.signature.2

pub returns : goal.returns
returns c = λ message given.
    let context = context_of c.args.context.now in
    let is : option_copied c.args.given ≡ Some c.in-Some.text.now = rw c.in-Some.is refl in
    let here = subst (λ (o : Option (List ℕ)). SpellsGiven context o message) is given in
    let says = rw c.in-Some-2.is at c.in_ok-met.ensures in
    let same = one_given c.args.self.now.accepted.now context (Some c.in-Some.text.now) says.0 message says.1 here in
    subst (λ (m : Message). SaysMet c.args.self.now (context_with context m) c.args.steps.now c.in-Some-2.met) same says.2
