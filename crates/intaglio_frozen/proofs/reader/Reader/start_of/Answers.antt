use Rattle.std.proofs.Common.{◌≡◌, ◌+◌, ◌-◌, ◌*◌, ◌<◌, sym, ap, ◌∙◌, arith}
use Rattle.intaglio_hash.specs.Numbers.{u32_at}
use Rattle.intaglio_frozen.proofs.Names.{count, ends_at}
use Rattle.intaglio_frozen.proofs.Places.{end_is, start-is-end}
use Rattle.intaglio_frozen.proofs.reader.Reader.start_of.Goals as goal

-- the number four bytes before the end of a string is the end of the string before it
pub returns-else-i-eq0 : goal.returns-else-i-eq0
returns-else-i-eq0 c = λ are.
    let bs = c.args.self.now.bytes.now in
    let i = c.args.i in
    let some : 0 < i = omega (arith, c.if-i-eq0.false) in
    let at : c.args.self.now.sections.starts_at + 4 * i ≡ ends_at bs + 4 * (i - 1) =
    omega (arith, some, are.starts_at) in
    let below : i - 1 < count bs = omega (arith, some, c.requires, are.count) in
    c.read_u32-before.ensures ∙ ap (u32_at bs) at ∙ sym (end_is bs (i - 1) below) ∙ sym (start-is-end bs i some)
