use Rattle.intaglio_frozen.proofs.Names.{common_steps, slice_get_read, joined}
use Rattle.std.proofs.Common.{◌≡◌, ◌-◌, ◌+◌, Some, ap, arith, length, slice_get}
use Rattle.intaglio_frozen.proofs.Sharded.{all-taken, start-read}
use Rattle.intaglio_frozen.proofs.shards.Shards.len.Goals as goal

-- the last shard ends where all end
count : (c : goal.After-len) → c.index.result.now + c.len.result ≡ length (joined c.self.inside.tables.items)
count c =
    let shards = c.self.inside.tables.items in
    let last = c.len-last.result - 1 in
    let ws = c.index-2.result.now in
    let at : slice_get shards last ≡ Some ws = grind (arith, common_steps, slice_get_read) in
    let start =
    start-read c.self.inside.starts.items shards last c.index.result.now ws
    c.self.invariant.starts at c.index.ensures in
    let all =
    all-taken shards last ws at (omega arith) in
    omega (arith, start, c.len.ensures.count, all)

pub returns-clause-count : goal.returns-clause-count
returns-clause-count c = omega (arith, count c, ap (λ t. length (joined t)) c.self.view_is)

pub returns-clause-few : goal.returns-clause-few
returns-clause-few c = omega (arith, count c, c.self.invariant.numbered)
