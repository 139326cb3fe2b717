-- A string of the shard comes behind those so far, so their number is its place (`far-in`), and others change
-- nothing (`far-out`). There are at most as many as in the list, so `next` doesn't overflow (`far-few`).
use Rattle.intaglio_frozen.proofs.Names.{common_steps, length-map, slice_get-get_or}
use Rattle.std.proofs.Common.{◌≡◌, ◌∙◌, ◌<◌, [], ◌∷◌, ◌+◌, ap, arith, get_or, length, length-append, sym}
use Rattle.intaglio_frozen.specs.Shards.{shard_of}
use Rattle.intaglio_frozen.proofs.Numbered.{so_far, far-few, far-in, far-length, far-out, last-places, places-in, places-out}
use Rattle.intaglio_frozen.proofs.sharding.number_shard.Goals as goal
use Rattle.intaglio_frozen.proofs.sharding.number_shard.Goals.{then-number-shards, else-number-shards}

pub overflow_add-next : goal.overflow_add-next
overflow_add-next g c =
    let strings = g.L.StringList.strings c.args._list.now in
    let shards = c.args.shards.now in
    let place = c.loop-place.place in
    let number = c.args.number in
    let w = get_or strings place [] in
    let at =
    slice_get-get_or strings place [] (omega (arith, ap length c.requires.shards, length-map strings (shard_of c.args._count))) in
    let next =
    far-in c.args._count strings shards c.requires.shards number place w at (sym c.if-number-shards.true) in
    omega (arith, far-few c.args._count strings shards c.requires.shards number (place + 1), ap length next, length-append (so_far c.args._count strings number place) (w ∷ []))

pub loop-place-preserved : goal.loop-place-preserved
loop-place-preserved g c =
    let strings = g.L.StringList.strings c.args._list.now in
    let count = c.args._count in
    let shards = c.args.shards.now in
    let place = c.loop-place.place in
    let number = c.args.number in
    let w = get_or strings place [] in
    let within : place < length shards = c.loop-place-test.true in
    let at =
    slice_get-get_or strings place []
    (omega (arith, within, ap length c.requires.shards, length-map strings (shard_of count))) in
    elim c.if-number-shards.branch [
      | then-number-shards t ↦
          let is : get_or shards place 0 ≡ number = sym t.if-number-shards.true in
          let longer = far-in count strings shards c.requires.shards number place w at is in
          let placed = places-in count strings shards c.requires.shards number place w at c.loop-place.numbers
          t.new.result is (t.new.ensures ∙ c.loop-place.invariant.next)
          (omega (arith, within, c.loop-place.invariant.len, c.requires.len)) c.loop-place.invariant.places in
          record {
            next = grind (arith, common_steps);
            places = rw t.numbers-is placed;
            len = grind (arith, common_steps);
          }
      | else-number-shards t ↦
          let isnt : get_or shards place 0 ≡ number → ⊥ = λ e. t.if-number-shards.false (sym e) in
          let same = far-out count strings shards c.requires.shards number place w at isnt in
          record {
            next = t.next-is ∙ c.loop-place.invariant.next ∙ sym (ap length same);
            places = rw t.numbers-is (places-out count strings shards c.requires.shards number place w at c.loop-place.numbers isnt c.loop-place.invariant.places);
            len = grind (arith, common_steps);
          }
    ]

pub returns : goal.returns
returns g c =
    let strings = g.L.StringList.strings c.args._list.now in
    let count = c.args._count in
    let shards = c.args.shards.now in
    let number = c.args.number in
    let all : c.loop-place.place ≡ length strings = grind (arith, common_steps) in
    record {
      next = c.loop-place.invariant.next
          ∙ far-length count strings shards c.requires.shards number c.loop-place.place all;
      numbered = last-places count strings shards c.requires.shards number c.loop-place.numbers
          c.loop-place.place all c.loop-place.invariant.places;
      len = c.loop-place.invariant.len;
    }
