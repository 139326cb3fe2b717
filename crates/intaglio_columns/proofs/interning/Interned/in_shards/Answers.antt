-- The numbers map each distinct line to itself in a shard, so renumbered symbols lead to the same lines.
use Rattle.std.proofs.Common.{map}
use Rattle.intaglio_columns.proofs.Shared.{keeps-input}
use Rattle.intaglio_columns.proofs.interning.Interned.in_shards.Goals as goal

pub returns-in-Ok-codes-clause-lines : goal.returns-in-Ok-codes-clause-lines
returns-in-Ok-codes-clause-lines g c =
    let made = c.args.self.now in
    let list = c.in-Ok.list in
    rw (
      c.in-Ok-codes.ensures,
      c.deref.ensures.value,
    )
    (keeps-input c.args.kind c.args.shards (map (λ ws. map (λ w. w.now) ws.items) list.lists.items)
    list.numbers.items made.symbols.items list.set made.table.state made.count c.in-Ok.ensures.shared)
