-- The symbols are those of internings one by one, and what is held then is what these leave. So they are a map
-- (`issued_map_by`).
use Rattle.intaglio_frozen.proofs.Names.{common_steps, interned_all, issue_from, IsMap}
use Rattle.std.proofs.Common.{◌≡◌, map, IfOk, OnOk, arith, rules}
use Rattle.intaglio_frozen.proofs.Absorbed.{issued_map_by, ok_both}
use Rattle.intaglio_frozen.proofs.absorbing.absorb.Goals as goal

pub returns-clause-same : goal.returns-clause-same
returns-clause-same g c = λ same.
    let key = g.T.Content.Content.key_of in
    let spelling = g.T.Content.Content.spelling in
    let ws = g.L.StringList.strings c.args.list.now in
    let old = map spelling (g.T.BaseInterner.state c.args.table.now).contents in
    let new = map spelling (g.T.BaseInterner.state c.get_or_intern_all.new.table).contents in
    let r = c.get_or_intern_all.result in
    let symbols : IfOk r (λ symbols. symbols.items ≡ issue_from key old ws) =
    first_of (search rules, grind (arith, common_steps)) in
    let held : OnOk r (new ≡ interned_all key old ws) = first_of (search rules, grind (arith, common_steps)) in
    ok_both (λ symbols. symbols.items ≡ issue_from key old ws) (λ symbols. IsMap ws new symbols.items) r symbols
    held (λ symbols given after. issued_map_by key same old ws new symbols.items given after)
