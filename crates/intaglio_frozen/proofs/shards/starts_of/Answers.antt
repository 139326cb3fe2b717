-- The next shard begins where the strings so far end (`starts_push`), and then there are its strings too
-- (`joined_next`). If they are too many, so are all (`joined_front`).
use Rattle.intaglio_frozen.proofs.Names.{err_from_is_err_and, slice_get_read, starts_from}
use Rattle.std.proofs.Common.{◌≡◌, ◌+◌, ◌++◌, [], ◌∷◌, Some, ap, inr, length, refl, slice_get, take, rules, arith}
use Rattle.intaglio_frozen.proofs.HashedAhead.{take_there}
use Rattle.intaglio_frozen.proofs.Sharded.{joined_front, joined_next, starts_push}
use Rattle.intaglio_frozen.proofs.shards.starts_of.Goals as goal

pub loop-i-preserved : goal.loop-i-preserved
loop-i-preserved c =
    let tables = c.args.tables.now in
    let i = c.loop-i.i in
    let table = c.index-tables-i.result in
    let at : slice_get tables i ≡ Some table =
    slice_get_read tables (length tables) i table refl c.loop-i-test.true c.index-tables-i.is in
    let items : c.push_reserved.new.self.items ≡ c.loop-i.starts.items ++ c.loop-i.count ∷ [] = search rules in
    record {
      starts = rw (items, c.loop-i.invariant.starts, c.loop-i.invariant.count, take_there tables i table at, starts_push 0 (take i tables) table) (ap (λ n. starts_from 0 (take i tables) ++ n ∷ []) (omega arith));
      count = omega (arith, joined_next tables i table at, c.in_ok-count.ensures.sum, c.len.ensures.count, c.loop-i.invariant.count);
      few = c.in_ok-count.ensures.few;
      len = omega (arith, c.push_reserved.ensures.len, c.loop-i.invariant.len);
      room = search rules;
    }

pub returns-in_err-count-clause-err : goal.returns-in_err-count-clause-err
returns-in_err-count-clause-err c =
    let tables = c.args.tables.now in
    let i = c.loop-i.i in
    let table = c.index-tables-i.result in
    let at : slice_get tables i ≡ Some table =
    slice_get_read tables (length tables) i table refl c.loop-i-test.true c.index-tables-i.is in
    let passed =
    err_from_is_err_and c.from_residual-in_err-count.result c.from_residual-in_err-count.ensures.1 in
    rw (passed.1, passed.2, c.in_err-count.ensures.err.0)
    (inr (omega (arith, c.in_err-count.ensures.err.1, joined_next tables i table at, joined_front tables (i + 1), c.len.ensures.count, c.loop-i.invariant.count)))
