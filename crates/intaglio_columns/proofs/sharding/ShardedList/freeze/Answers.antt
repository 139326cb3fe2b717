-- Picking a shard's list and then reading its strings is the same as picking among the strings of all shards.
use Rattle.intaglio_columns.proofs.Names.{common_steps, strings_in}
use Rattle.std.proofs.Common.{◌≡◌, ◌∙◌, [], map, IfErr, subst, arith}
use Rattle.intaglio_frozen.specs.Freezing.{IsRefusal as IsTableRefusal}
use Rattle.intaglio_columns.proofs.sharding.ShardedList.freeze.Goals as goal

pub returns-clause-err : goal.returns-clause-err
returns-clause-err c =
    let lists = c.args.self.now.lists.items in
    let list = c.index.result.now in
    let there : map (λ w. w.now) list.items
    ≡ strings_in (map (λ ws. map (λ w. w.now) ws.items) lists) c.args.shard = grind (arith, common_steps) in
    subst (λ ws. IfErr c.freeze_at.result (IsTableRefusal c.args.self.now.kind ws)) there c.freeze_at.ensures.err
