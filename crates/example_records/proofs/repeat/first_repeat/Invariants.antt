-- The table holds the keys so far, each once.
use Rattle.std.proofs.Common.{◌≡◌, map, take}
use Rattle.intaglio.specs.Keys.{str_key}
use Rattle.intaglio.specs.State.{IsValid}
use Rattle.intaglio.specs.StrContent.{str_content_bytes}
use Rattle.example_records.proofs.repeat.first_repeat.Given as goal

abbrev pub invariant-loop-key : goal.invariant-loop-key
invariant-loop-key l = record {
  held : map str_content_bytes l.table.state.contents ≡ take l.key-index (map (λ key. key.now) l.keys);
  valid : IsValid str_key l.table.state;
}
