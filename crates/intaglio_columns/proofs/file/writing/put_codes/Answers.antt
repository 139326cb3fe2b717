-- A code more is an item more of `flat_map`. It is known because the check in front returns for any other.
use Rattle.std.proofs.Common.{◌∙◌, ◌++◌, take, ap, sym, arith}
use Rattle.intaglio_columns.proofs.Names.{flat_map, common_steps, flat_map_more, slice_get_within, code_bytes}
use Rattle.intaglio_columns.proofs.Listed.{next}
use Rattle.intaglio_columns.proofs.file.writing.put_codes.Goals as goal

pub loop-row-preserved : goal.loop-row-preserved
loop-row-preserved g c =
    let cs = g.L.CodeList.codes c.args.codes.now in
    let old = c.args.bytes.now.items in
    let write = code_bytes c.args.width in
    let row = c.loop-row.row in
    let code = c.code-code.result in
    record {
      added =
          c.in_ok-put_code.ensures ∙ ap (λ t. t ++ write code) c.loop-row.invariant.added
          ∙ flat_map_more write old (take row cs) code
          ∙ ap (λ t. old ++ flat_map write t) (sym (next cs row code c.code-code.ensures));
      known = grind (arith, common_steps);
    }

pub returns-clause-known : goal.returns-clause-known
returns-clause-known g c = grind (arith, common_steps, slice_get_within)
