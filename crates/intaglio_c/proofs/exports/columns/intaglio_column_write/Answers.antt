-- The bytes that were made are the column, by the contract of `sourced_column_bytes`, and `give` hands them
-- out.
use Rattle.intaglio_c.proofs.Names.{inl, rules}
use Rattle.intaglio_c.proofs.exports.columns.intaglio_column_write.Goals as goal

pub returns : goal.returns
returns c = let made = c.in-Ok.ensures in record {
  written = (
    c.give.result,
    c.code-2.ensures.code,
    inl (c.in-Ok.value.items, search rules, rw c.deref.ensures.value at c.give.ensures.given),
  );
}
