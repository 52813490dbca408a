use Rattle.std.proofs.Common.{◌≡◌, ◌<◌, ◌+◌, ◌^◌, ◌++◌, length, drop}
use Rattle.std.specs.Fmt.{decimal}
use Rattle.sfv_text.proofs.bare.write_number.Given as goal

abbrev pub invariant-digits : goal.invariant-digits
invariant-digits l = record {
  size : length l.digits ≡ 20;
  within : l.last < 20;
  room : l.left < 10 ^ (l.last + 1);
  text : decimal l.value ≡ decimal l.left ++ drop (l.last + 1) l.digits;
}

abbrev pub decreases-digits : goal.decreases-digits
decreases-digits l = l.left
