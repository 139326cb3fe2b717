-- A filter of 0 says that the bucket is empty. In any other bucket, the low bits of the first word are the
-- first symbol (`leads`), which is placed and so has a number below 2^32.
use Rattle.std.proofs.Common.{arith, sym, ap, ◌∙◌, Some}
use Rattle.intaglio_index.proofs.Names.{first_symbol_of}
use Rattle.intaglio_index.proofs.HeadLemmas.{is-vacant, is-occupied, leads, first-within, numbered}
use Rattle.intaglio_index.proofs.index.Index.first_symbol.Goals as goal

pub returns-then-index-eq0 : goal.returns-then-index-eq0
returns-then-index-eq0 c = sym (ap first_symbol_of
    (is-vacant c.self.view_is c.self.invariant _ _ c.requires c.index.ensures c.if-index-eq0.true))

pub symbol-requires-clause-number : goal.symbol-requires-clause-number
symbol-requires-clause-number c =
    let o = is-occupied c.self.view_is c.self.invariant _ _ _ c.requires c.index-2.ensures c.index.ensures
    c.if-index-eq0.false in
    omega (arith, first-within o, numbered c.self.view_is c.self.invariant)

pub returns : goal.returns
returns c = ap (λ s. Some s) c.symbol.ensures
    ∙ sym (leads (is-occupied c.self.view_is c.self.invariant _ _ _ c.requires c.index-2.ensures
    c.index.ensures c.if-index-eq0.false))
