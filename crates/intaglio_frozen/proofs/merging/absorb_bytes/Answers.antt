-- What `absorb` ensures, where a content is its own spelling.
use Rattle.intaglio_frozen.proofs.Names.{map-id, IfOverflow, interned_all, string_key, IsMap}
use Rattle.std.proofs.Common.{◌≡◌, ◌<◌, length, map, refl, IfErr, IfOk, OnOk}
use Rattle.intaglio_frozen.proofs.merging.absorb_bytes.Goals as goal

pub returns-clause-held : goal.returns-clause-held
returns-clause-held g c =
    let old = c.args.table.now.state.contents in
    let new = c.absorb.new.table.state.contents in
    let ws = g.L.StringList.strings c.args.list.now in
    let held : OnOk c.absorb.result (map (λ w. w) new ≡ interned_all string_key (map (λ w. w) old) ws) =
    c.absorb.ensures.held in
    rw (map-id new, map-id old) at held

pub returns-clause-map : goal.returns-clause-map
returns-clause-map g c =
    let new = c.absorb.new.table.state.contents in
    let ws = g.L.StringList.strings c.args.list.now in
    let same : IfOk c.absorb.result (λ symbols. IsMap ws (map (λ w. w) new) symbols.items) =
    c.absorb.ensures.same (λ w. refl) in
    rw (map-id new) at same

pub returns-clause-limit : goal.returns-clause-limit
returns-clause-limit g c = c.absorb.ensures.table.limit

pub returns-clause-hash : goal.returns-clause-hash
returns-clause-hash g c = c.absorb.ensures.table.same_hash

pub returns-clause-overflow : goal.returns-clause-overflow
returns-clause-overflow g c =
    let old = c.args.table.now.state.contents in
    let ws = g.L.StringList.strings c.args.list.now in
    let full : IfErr c.absorb.result (λ e.
    IfOverflow e (c.args.table.now.state.limit < length (interned_all string_key (map (λ w. w) old) ws))) =
    c.absorb.ensures.overflow in
    rw (map-id old) at full
