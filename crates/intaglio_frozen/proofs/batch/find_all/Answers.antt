-- The hash at `used` is that of the string at `place`, and those behind it are of the strings behind
-- (`first`). So `find_hashed` finds what `find` does.
use Rattle.std.proofs.Common.{◌≡◌, ◌∙◌, map, rules}
use Rattle.intaglio_frozen.specs.LookUp.{find, hash}
use Rattle.intaglio_frozen.proofs.HashedAhead.{first}
use Rattle.intaglio_frozen.proofs.Found.{element, found-more, string-there}
use Rattle.intaglio_frozen.proofs.batch.find_all.Goals as goal

pub find_hashed-requires : goal.find_hashed-requires
find_hashed-requires c =
    let all = c.args.strings.now in
    (first (λ s n. n ≡ hash c.args.block.now s) (map (λ s. s.now) all) c.look_ahead-used.new.hashes
    c.loop-place.place c.look_ahead-used.result _
    (string-there all c.loop-place.place (λ s. s.now) _ c.loop-place-test.true)
    c.look_ahead-used.ensures.some c.look_ahead-used.ensures.left).0

pub loop-place-preserved : goal.loop-place-preserved
loop-place-preserved c =
    let all = c.args.strings.now in
    let n = c.loop-place.place in
    record {
      found = found-more all n (λ s. find c.args.block.now s.now) _ _ _ _ c.loop-place-test.true
          c.loop-place.invariant.found c.push_reserved.ensures.items c.find_hashed.ensures;
      ahead = (first (λ s n. n ≡ hash c.args.block.now s) (map (λ s. s.now) all)
          c.look_ahead-used.new.hashes n c.look_ahead-used.result _
          (string-there all n (λ s. s.now) (element all n c.loop-place-test.true) c.loop-place-test.true)
          c.look_ahead-used.ensures.some c.look_ahead-used.ensures.left).1;
      group = c.look_ahead-used.ensures.places ∙ c.loop-place.invariant.group;
      count = search rules;
      room = search rules;
    }
