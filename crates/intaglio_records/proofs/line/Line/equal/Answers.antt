-- `bitmask_splat` says what each bit of the mask is. There are sixteen tags, so all bits behind them are 0.
use Rattle.intaglio_records.proofs.Names.{common_steps, get_or-map, get_or_past, length-map}
use Rattle.std.proofs.Common.{◌≡◌, eqb, arith, w8, length}
use Rattle.std.proofs.lemmas.Simd.{bitmask_splat, bit_mask_l}
use Rattle.intaglio_records.proofs.line.Line.equal.Goals as goal

pub returns-clause-bits : goal.returns-clause-bits
returns-clause-bits c i h =
    let fits = c.well_formed in
    let long : length c.args.self.now.tags ≡ 16 = omega arith in
    grind (arith, common_steps, bitmask_splat w8 eqb c.args.self.now.tags 16 c.args.tag long (omega arith), bit_mask_l, get_or-map)

pub returns-clause-above : goal.returns-clause-above
returns-clause-above c i le =
    let fits = c.well_formed in
    let long : length c.args.self.now.tags ≡ 16 = omega arith in
    grind (arith, common_steps, bitmask_splat w8 eqb c.args.self.now.tags 16 c.args.tag long (omega arith), bit_mask_l, get_or_past, length-map)
