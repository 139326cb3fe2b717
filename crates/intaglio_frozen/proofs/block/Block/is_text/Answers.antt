-- What lies between two ends of characters in UTF-8 is UTF-8, and so each string is (`texts-between`).
use Rattle.std.proofs.Common.{◌≡◌, drop, ◌∙◌, IsUtf8}
use Rattle.intaglio_frozen.proofs.Places.{texts-between}
use Rattle.intaglio_frozen.proofs.Names.{text_at}
use Rattle.intaglio_frozen.proofs.block.Block.is_text.Goals as goal

pub returns : goal.returns
returns c = λ h.
    let bs = c.self.inside.reader.bytes.now in
    let text : c.self.inside.reader.text.now ≡ drop (text_at bs) bs =
    rw c.self.invariant.0.text_at at c.self.inside.reader.behind in
    let is : c.in-Ok.text.now ≡ drop (text_at bs) bs = c.in-Ok.ensures.cases.0 ∙ text in
    let utf8 : IsUtf8 (drop (text_at bs) bs) = rw text at c.in-Ok.ensures.cases.1 in
    let ends = rw (is, ← c.self.view_is) at (c.has_char_ends.ensures h) in
    rw (← c.self.view_is) (texts-between bs c.self.invariant.1 utf8 ends)
