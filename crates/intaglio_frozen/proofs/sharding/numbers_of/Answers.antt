-- Each string's shard is below `count`, so after the last shard all strings have their places, and numbers
-- that lead to the strings are a map (`numbered-map`).
use Rattle.std.proofs.Common.{◌≡◌, ◌∙◌, ap, arith, length}
use Rattle.intaglio_frozen.proofs.Names.{length-map}
use Rattle.intaglio_frozen.specs.Shards.{shard_of}
use Rattle.intaglio_frozen.proofs.Numbered.{numbered-map}
use Rattle.intaglio_frozen.proofs.sharding.numbers_of.Goals as goal

pub returns : goal.returns
returns g c =
    let strings = g.L.StringList.strings c.args.list.now in
    let count = c.args.count in
    let shards = c.args.shards.now in
    let numbers = c.loop-number.numbers.items in
    let same : length shards ≡ length strings =
    ap length c.requires.shards ∙ length-map strings (shard_of count) in
    let done : c.loop-number.number ≡ count =
    omega (arith, c.loop-number-test.false, c.loop-number.auto.number-end) in
    numbered-map count strings shards numbers (c.loop-number.invariant.len ∙ same) (λ i within.
    c.requires.below i (omega (arith, within, same)))
    (rw done at c.loop-number.invariant.numbered)
