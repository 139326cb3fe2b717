-- The strings found in a batch follow those before it (`found-further`): all of the batch, or those before
-- the first that isn't found, which then is the first of all.
use Rattle.intaglio_frozen.proofs.Names.{common_steps}
use Rattle.std.proofs.Common.{◌≡◌, ◌++◌, length, take, drop, arith}
use Rattle.intaglio_frozen.proofs.Found.{found-further}
use Rattle.intaglio_frozen.proofs.checking.first_not_found.Goals as goal

pub loop-start-preserved : goal.loop-start-preserved
loop-start-preserved c =
    let count = c.min-count.result in
    let rest = drop count c.loop-start.hashes in
    let long : length (take count (c.hash_strings.new.hashes ++ rest)) ≡ count = grind (arith, common_steps) in
    record {
      found = found-further c.args.block.now c.loop-start.start count c.loop-start.invariant.found
          (rw long at c.in_default.ensures);
      within = omega (arith, c.min-count.ensures, c.len-in-loop-start.ensures.count);
    }

pub returns-in-Some : goal.returns-in-Some
returns-in-Some c =
    let first = c.in-Some.ensures.1 in
    let found =
    found-further c.args.block.now c.loop-start.start first.0 c.loop-start.invariant.found first.2 in
    (c.in-Some.ensures.0, rw (← first.1) at found, first.3)
