-- A look-up finds only the symbol of the string's place, if it finds any (`IsCandidate`). If that is i, its
-- string is the sought one itself (`found-same`), and otherwise i isn't found (`found-other`).
use Rattle.std.proofs.Common.{◌≡◌, [], get_or, ◌∙◌}
use Rattle.intaglio_frozen.proofs.Names.{eqb-true, eqb-false, slice_get-get_or}
use Rattle.intaglio_frozen.proofs.Found.{found-same, found-other}
use Rattle.intaglio_frozen.specs.Layout.{strings}
use Rattle.intaglio_frozen.proofs.block.Block.is_at.Goals as goal

pub returns-in-Some-clause-found : goal.returns-in-Some-clause-found
returns-in-Some-clause-found c =
    let bs = c.self.inside.reader.bytes.now in
    let s = c.in-Some.symbol in
    let hash = rw (← c.self.view_is) at c.requires.hash in
    rw (← c.self.view_is) (λ same w is.
    found-same bs w s c.args.i is (c.in-Some.ensures c.self.invariant.0 w (hash w is))
    (eqb-true s c.args.i same))

pub returns-in-Some-clause-not_found : goal.returns-in-Some-clause-not_found
returns-in-Some-clause-not_found c =
    let bs = c.self.inside.reader.bytes.now in
    let s = c.in-Some.symbol in
    let hash = rw (← c.self.view_is) at c.requires.hash in
    let there = rw (← c.self.view_is) at c.requires.there in
    let w = get_or (strings bs) c.args.i [] in
    let is = slice_get-get_or (strings bs) c.args.i [] there in
    rw (← c.self.view_is) (λ differs. (c.self.invariant.1, (w, is, found-other bs w s c.args.i (c.in-Some.ensures c.self.invariant.0 w (hash w is)) (eqb-false s c.args.i differs))))

pub returns-in-None-clause-not_found : goal.returns-in-None-clause-not_found
returns-in-None-clause-not_found c =
    let bs = c.self.inside.reader.bytes.now in
    let hash = rw (← c.self.view_is) at c.requires.hash in
    let there = rw (← c.self.view_is) at c.requires.there in
    let w = get_or (strings bs) c.args.i [] in
    let is = slice_get-get_or (strings bs) c.args.i [] there in
    let none = c.in-None.ensures c.self.invariant.0 w (hash w is) in
    rw (← c.self.view_is) (λ _. (c.self.invariant.1, (w, is, λ found. cc)))
