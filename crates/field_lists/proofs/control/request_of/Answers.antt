use Rattle.field_lists.proofs.control.request_of.Goals as goal

pub returns-in_err-method-clause-none : goal.returns-in_err-method-clause-none
returns-in_err-method-clause-none c =
    rw c.from_residual.ensures (λ control are. c.in_err-method.ensures.none control.method are.method)

pub returns-in_err-scheme-clause-none : goal.returns-in_err-scheme-clause-none
returns-in_err-scheme-clause-none c =
    rw c.from_residual-in_err-scheme.ensures (λ control are. c.in_err-scheme.ensures.none control.scheme are.scheme)

pub returns-in_err-authority-clause-none : goal.returns-in_err-authority-clause-none
returns-in_err-authority-clause-none c =
    rw c.from_residual-in_err-authority.ensures (λ control are. c.in_err-authority.ensures.none control.authority are.authority)

pub returns-in_err-path-clause-none : goal.returns-in_err-path-clause-none
returns-in_err-path-clause-none c =
    rw c.from_residual-in_err-path.ensures (λ control are. c.in_err-path.ensures.none control.path are.path)
