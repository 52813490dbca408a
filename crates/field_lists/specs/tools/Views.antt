-- What the borrowed parts of lists stand for. No public clause cites this module.
use Rattle.field_lists.specs.declared.control.RequestControl.{RequestControl as Borrowed}
use Rattle.field_lists.specs.declared.control.Control.{Control as BorrowedControl}
use Rattle.field_lists.specs.declared.control.Control.TheVariants as borrowed
use Rattle.field_lists.specs.Controls.{RequestControl, Control, request, response}

-- the control data of a request
abbrev pub request_of : Borrowed → RequestControl
request_of control = record {
  method = control.method.now;
  scheme = control.scheme.now;
  authority = control.authority.now;
  path = control.path.now;
}

-- the control data
abbrev pub control_of : BorrowedControl → Control
control_of (borrowed.Request control) = request (request_of control)
control_of (borrowed.Response code) = response code.now
