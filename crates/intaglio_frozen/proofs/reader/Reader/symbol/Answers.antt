-- A look-up reads one place (`find-by`). If the place has another tag, nothing is found (`at-other`), and
-- otherwise at most its symbol (`at-same`).
use Rattle.std.proofs.Common.{◌%◌, ◌∙◌}
use Rattle.intaglio_frozen.proofs.Found.{find-by, at-other, at-same}
use Rattle.intaglio_frozen.proofs.reader.Reader.symbol.Goals as goal

pub returns-then-self-place : goal.returns-then-self-place
returns-then-self-place c = λ are w is.
    let bs = c.args.self.now.bytes.now in
    let h = c.args.hashed in
    let p = c.place-place.result in
    find-by bs w h p is (c.place-place.ensures.value are)
    ∙ at-other bs w p (h % 256) c.args.self.now.sections.tags_at are.tags_at c.if-self-place.true

pub returns : goal.returns
returns c = λ are w is.
    let bs = c.args.self.now.bytes.now in
    let h = c.args.hashed in
    let p = c.place-place.result in
    find-by bs w h p is (c.place-place.ensures.value are)
    ∙ at-same bs w p (h % 256) c.args.self.now.sections.tags_at c.read_u32.result are.tags_at
    c.if-self-place.false c.read_u32.ensures
