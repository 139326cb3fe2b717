-- All places have their hash.
use Rattle.std.proofs.Common.{rules, drop, length, length-drop, arith}
use Rattle.intaglio_frozen.proofs.HashedAhead.{all_first, behind, more, stops}
use Rattle.intaglio_frozen.proofs.ahead.hash_group.Goals as goal

pub loop-i-preserved : goal.loop-i-preserved
loop-i-preserved g c =
    let strings = g.L.StringList.strings c.args.list.now in record {
      places = search rules;
      so_far = more (g.T.HashesAhead.is_hash c.args.table.now) (drop c.args.place strings) c.loop-i.hashes
          c.loop-i.i c.hash.result c.string.result.now
          (behind strings c.args.place c.loop-i.i c.string.result.now c.string.ensures)
          (omega (arith, c.loop-i-test.true, c.min-count.ensures, c.loop-i.invariant.places)) c.hash.ensures
          c.loop-i.invariant.so_far;
    }

pub returns-clause-hashes : goal.returns-clause-hashes
returns-clause-hashes g c =
    let strings = g.L.StringList.strings c.args.list.now in let all = drop c.args.place strings in
    all_first (g.T.HashesAhead.is_hash c.args.table.now) all c.loop-i.hashes c.loop-i.i
    (stops (length all) (length c.loop-i.hashes) c.loop-i.i
    (λ less. omega (arith, length-drop c.args.place strings))) c.loop-i.invariant.so_far
