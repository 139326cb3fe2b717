-- The digits so far, and the number that they say.
use Rattle.std.proofs.Common.{◌≡◌, ◌-◌, ◌^◌, min, take}
use Rattle.intaglio_decode.proofs.Names.{digits_value, AllDigits}
use Rattle.intaglio_decode.proofs.number.value_of.Given as goal

abbrev pub invariant-loop-digit : goal.invariant-loop-digit
invariant-loop-digit l = record {
  all : AllDigits 10 (take l.digit-index l.digits);
  value : l.value ≡ min (digits_value 10 (take l.digit-index l.digits)) (2 ^ 64 - 1);
}
