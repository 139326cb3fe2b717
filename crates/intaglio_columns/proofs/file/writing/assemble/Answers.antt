-- Header and codes are appended to nothing, and then sealed as one slice. `seal` keeps the length, so that
-- slice is all that the vector holds.
use Rattle.std.proofs.Common.{◌∙◌, ◌++◌, ap}
use Rattle.intaglio_columns.proofs.Names.{flat_map, take_at, code_bytes, header_of, sealed}
use Rattle.intaglio_columns.proofs.file.writing.assemble.Goals as goal

pub returns-clause-bytes : goal.returns-clause-bytes
returns-clause-bytes g c =
    let h = c.args.header in
    let cs = g.L.CodeList.codes c.args.codes.now in
    let rest = flat_map (code_bytes h.width) cs in
    let front = c.in_ok-put_header.ensures ∙ ap (λ t. t ++ header_of h) c.in_ok-bytes.ensures.items in
    let bare = c.deref_mut.ensures.value ∙ c.in_ok-put_codes.ensures.added ∙ ap (λ t. t ++ rest) front in
    take_at c.seal.new.bytes _ _ (c.seal.ensures.len ∙ c.deref_mut.ensures.len)
    ∙ c.seal.ensures.sealed ∙ ap sealed bare

pub returns-clause-small : goal.returns-clause-small
returns-clause-small g c =
    let h = c.args.header in
    let cs = g.L.CodeList.codes c.args.codes.now in
    let rest = flat_map (code_bytes h.width) cs in
    let front = c.in_ok-put_header.ensures ∙ ap (λ t. t ++ header_of h) c.in_ok-bytes.ensures.items in
    let bare = c.deref_mut.ensures.value ∙ c.in_ok-put_codes.ensures.added ∙ ap (λ t. t ++ rest) front in
    rw bare at c.seal.ensures.small
