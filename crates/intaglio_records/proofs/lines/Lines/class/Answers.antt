-- The number of first lines is a power of two, so masking with one less gives the remainder (`and_mask`).
use Rattle.std.proofs.lemmas.Nat.{and_mask}
use Rattle.intaglio_records.proofs.lines.Lines.class.Goals as goal

pub returns : goal.returns
returns c =
    let power = c.requires.made.1.power c.requires.some in
    rw power.1 (and_mask c.args.hash power.0)
