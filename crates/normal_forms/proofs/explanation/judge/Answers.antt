use Rattle.std.proofs.Common.{refl, sym}
use Rattle.component_values.specs.Context.{context_of}
use Rattle.normal_forms.proofs.OneExplanation.{basis_fault, no_cause, unread_fault}
use Rattle.normal_forms.proofs.explanation.judge.Goals as goal

pub returns-in-Err-Rule : goal.returns-in-Err-Rule
returns-in-Err-Rule c = λ own.
    let rule = c.in-Err-Rule.field-0-0 in
    let place = c.in-Err-Rule.field-0-1 in
    let unread = ((rw c.in-Err-Rule.field-0-is at c.in-Err-Rule.ensures).fault rule place).only refl in
    unread_fault (context_of c.args.first.now) (context_of c.args.second.now) c.args.label.now rule place unread

pub returns-in-Some-first_other : goal.returns-in-Some-first_other
returns-in-Some-first_other c = λ own.
    basis_fault (context_of c.args.first.now) (context_of c.args.second.now) c.args.label.now c.in-Ok.read.params c.in-Ok.read.tag c.in-Ok.ensures.ok (sym c.in_default.ensures)
    c.in-Some-first_other.basis c.in-Some-first_other.ensures

pub returns : goal.returns
returns c = (
  c.in_ok-explained.ensures c.args.label.now c.in-Ok.read.tag c.in-Ok.ensures.ok,
  no_cause (context_of c.args.first.now) (context_of c.args.second.now) c.args.label.now c.in-Ok.read.params c.in-Ok.read.tag c.in-Ok.ensures.ok (sym c.in_default.ensures)
      c.in_default-first_other.ensures,
)
