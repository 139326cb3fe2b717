-- What is written is a front of the block, or all of it and then a front of the piece.
use Rattle.std.proofs.Common.{◌≡◌, [], rules}
use Rattle.intaglio_lines.proofs.Appended.{front_more, front-then, keeps-none}
use Rattle.intaglio_lines.proofs.write.put.Goals as goal

pub returns-then-piece-capacity-clause-front : goal.returns-then-piece-capacity-clause-front
returns-then-piece-capacity-clause-front g c =
    let later : c.make_room.new.block.items ≡ [] = search rules in
    front-then _ _ _ c.args.block.now.items c.make_room.new.block.items [] c.args.piece.now
    (keeps-none _ _ c.in_ok-make_room.ensures.same)
    (front_more _ _ c.args.block.now.items [] c.in_ok-make_room.ensures.front) (rw later c.write_bytes.ensures.front)
