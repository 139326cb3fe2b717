-- Each number took one place and the places stay as many, so there is one left for the next number.
use Rattle.std.proofs.Common.{◌≡◌, List, length}
use Rattle.intaglio_records.specs.Line.{Entry}
use Rattle.intaglio_records.specs.Chains.{IsFilled, places_of}
use Rattle.tests.proofs.tests.units.slots.place_all.Given as goal

abbrev pub invariant-loop-number : goal.invariant-loop-number
invariant-loop-number l = record {
  room : places_of l.lines ≡ places_of l.fn.lines;
  placed : (es : List Entry) × IsFilled l.lines es × (length es ≡ l.number);
}
