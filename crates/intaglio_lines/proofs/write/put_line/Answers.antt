-- The line is put, and then its byte 10, so a front is one of the line, or all of it and one of the byte.
use Rattle.std.proofs.Common.{◌++◌, [], ◌∷◌, append_assoc}
use Rattle.intaglio_lines.proofs.Appended.{front_more, front-then}
use Rattle.intaglio_lines.proofs.write.put_line.Goals as goal

pub returns-in_err-put-clause-front : goal.returns-in_err-put-clause-front
returns-in_err-put-clause-front g c =
    rw (append_assoc c.args.block.now.items c.args.line.now (10 ∷ [])) at
    (front_more _ _ (c.args.block.now.items ++ c.args.line.now) (10 ∷ []) c.put.ensures.front)

pub returns-clause-front : goal.returns-clause-front
returns-clause-front g c =
    front-then _ _ _ c.args.block.now.items c.put.new.block.items c.args.line.now (10 ∷ [])
    c.in_ok-put.ensures.put c.put.ensures.front c.put-2.ensures.front
