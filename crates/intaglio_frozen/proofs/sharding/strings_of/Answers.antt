-- `shards` says whether the next string is in this one, and only then is it added (`next-in`, `next-out`).
use Rattle.intaglio_frozen.proofs.Names.{common_steps, length-map, map-append, slice_get-get_or}
use Rattle.std.proofs.Common.{◌≡◌, ◌∙◌, ◌++◌, [], ◌∷◌, ap, arith, get_or, length}
use Rattle.intaglio_frozen.specs.Shards.{shard_of}
use Rattle.intaglio_frozen.proofs.Sharded.{next-in, next-out}
use Rattle.intaglio_frozen.proofs.sharding.strings_of.Goals as goal
use Rattle.intaglio_frozen.proofs.sharding.strings_of.Goals.{then-shards-i+in_ok-push, else-shards-i}

pub loop-i-preserved : goal.loop-i-preserved
loop-i-preserved g c =
    let strings = g.L.StringList.strings c.args.list.now in
    let i = c.loop-i.i in
    elim c.if-shards-i.branch [
      | then-shards-i+in_ok-push w ↦ grind (arith, common_steps, map-append, next-in)
      | else-shards-i w ↦
          let string = get_or strings i [] in
          let there =
          slice_get-get_or strings i [] (omega (arith, ap length c.requires, length-map strings (shard_of c.args.count))) in
          grind (arith, common_steps, next-out c.args.count strings c.args.shards.now c.requires i c.args.number string there w.if-shards-i.false)
    ]
