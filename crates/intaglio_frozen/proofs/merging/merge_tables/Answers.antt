-- Absorbing one more list makes the union of all so far, and the earlier maps stay maps (`union-next`,
-- `maps-next`). If the table overflows on the way, the union of all lists would too (`union-over`).
use Rattle.intaglio_frozen.proofs.Names.{common_steps, take_at_read, map-append, take-map, err_from_is_err_and, IfOverflow, interned_all, string_key, union, AreMaps, IsMap}
use Rattle.std.proofs.Common.{◌≡◌, ◌∙◌, ◌+◌, ◌^◌, ◌<◌, ◌++◌, [], ◌∷◌, ap, length, map, subst, sym, take, rules, arith}
use Rattle.intaglio_frozen.proofs.Absorbed.{if-overflow, maps-next, union-next, union-over}
use Rattle.intaglio_frozen.proofs.merging.merge_tables.Goals as goal

pub loop-i-preserved : goal.loop-i-preserved
loop-i-preserved g c =
    let strings = g.L.StringList.strings in
    let lists = c.args.lists.now in
    let i = c.loop-i.i in
    let list = c.index-lists-i.result in
    let front = map strings (take i lists) in
    let ws = strings list in
    let old = c.loop-i.table.state.contents in
    let new = c.absorb_bytes.new.table.state.contents in
    let symbols = c.in_ok-symbols.symbols.items in
    let next : map strings (take (i + 1) lists) ≡ front ++ ws ∷ [] = grind (arith, common_steps) in
    let held : new ≡ interned_all string_key old ws = c.in_ok-symbols.ensures.held in
    let after : new ≡ union (front ++ ws ∷ []) =
    held ∙ ap (λ t. interned_all string_key t ws) c.loop-i.invariant.union ∙ sym (union-next front ws) in
    let is : IsMap ws (union (front ++ ws ∷ [])) symbols =
    subst (λ t. IsMap ws t symbols) after c.in_ok-symbols.ensures.map in
    let before : AreMaps front (union front) (map (λ m. m.items) c.loop-i.maps.items) =
    subst (λ t. AreMaps front t (map (λ m. m.items) c.loop-i.maps.items)) c.loop-i.invariant.union
    c.loop-i.invariant.maps in
    let items : c.push_reserved.new.self.items ≡ c.loop-i.maps.items ++ c.in_ok-symbols.symbols ∷ [] =
    search rules in
    let maps = maps-next front ws (map (λ m. m.items) c.loop-i.maps.items) symbols before is in
    record {
      union = after ∙ ap union (sym next);
      maps = grind (arith, common_steps);
      limit = c.absorb_bytes.ensures.limit ∙ c.loop-i.invariant.limit;
      hash = c.absorb_bytes.ensures.hash ∙ c.loop-i.invariant.hash;
      count = omega (arith, c.push_reserved.ensures.len, c.loop-i.invariant.count);
      room = search rules;
    }

pub returns-in_err-symbols-clause-overflow : goal.returns-in_err-symbols-clause-overflow
returns-in_err-symbols-clause-overflow g c =
    let strings = g.L.StringList.strings in
    let lists = c.args.lists.now in
    let i = c.loop-i.i in
    let list = c.index-lists-i.result in
    let front = map strings (take i lists) in
    let ws = strings list in
    let old = c.loop-i.table.state.contents in
    let e = c.in_err-symbols.field-0.0 in
    let next : take (i + 1) (map strings lists) ≡ front ++ ws ∷ [] = grind (arith, common_steps, take-map, take_at_read, map-append) in
    let held : interned_all string_key old ws ≡ union (take (i + 1) (map strings lists)) =
    ap (λ t. interned_all string_key t ws) c.loop-i.invariant.union ∙ sym (union-next front ws) ∙ ap union (sym next) in
    let full : IfOverflow e (c.loop-i.table.state.limit < length (interned_all string_key old ws)) =
    c.in_err-symbols.ensures.overflow in
    let more =
    if-overflow e
    (λ over.
    union-over (2 ^ 32) (i + 1) (map strings lists) (rw (held, c.loop-i.invariant.limit) at over))
    full in
    let passed =
    err_from_is_err_and c.from_residual-in_err-symbols.result c.from_residual-in_err-symbols.ensures.1 in
    rw (passed.1, passed.2) more
