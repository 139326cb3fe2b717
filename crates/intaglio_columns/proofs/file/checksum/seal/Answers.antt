-- Eight bytes from 56 on become the sum, which was made of the old bytes. Those before and behind them stay.
use Rattle.std.proofs.Common.{◌∙◌, ◌++◌, drop, take, ap, refl}
use Rattle.intaglio_columns.proofs.Names.{w64, to_le_bytes}
use Rattle.intaglio_columns.proofs.Checksums.{put-at-56}
use Rattle.intaglio_columns.proofs.file.checksum.seal.Goals as goal

pub returns-clause-sealed : goal.returns-clause-sealed
returns-clause-sealed c =
    let bs = c.args.bytes.now in
    let sum = c.to_le_bytes.ensures ∙ ap (to_le_bytes w64) c.checksum_of-sum.ensures.sum in
    put-at-56 bs _ c.requires (rw (c.copy_from_slice.ensures.after, c.to_le_bytes.ensures) refl)
    ∙ ap (λ t. take 56 bs ++ t ++ drop 64 bs) (c.copy_from_slice.ensures.after ∙ sum)
