use Rattle.std.proofs.Common.{◌≡◌, ◌+◌, ◌-◌, ◌*◌, ◌^◌, ◌≤◌, length, drop}
use Rattle.std.specs.Str.Parse.{digits_value_after}
use Rattle.sfv_read.proofs.number.number_of.Given as goal

abbrev pub invariant-loop-digit : goal.invariant-loop-digit
invariant-loop-digit l = record {
  value : digits_value_after 10 l.total (drop l.digit-index l.digits) ≡ digits_value_after 10 l.start l.digits;
  room : (l.total + 1) * 10 ^ (length l.digits - l.digit-index) ≤ (l.start + 1) * 10 ^ length l.digits;
}
