-- Writing twice is writing both, one behind the other (`write-behind`).
use Rattle.std.proofs.Common.{◌∙◌}
use Rattle.std.specs.Hash.DefaultHasher.{write}
use Rattle.intaglio_frozen.proofs.Names.{number_bytes}
use Rattle.intaglio_frozen.proofs.Hashed.{write-behind}
use Rattle.intaglio_frozen.proofs.set_id.write_two.Goals as goal

pub returns : goal.returns
returns c =
    rw (c.write-2.ensures, c.to_le_bytes-2.ensures, c.write.ensures, c.to_le_bytes.ensures) (write-behind c.args.hasher.now (number_bytes c.args.first) (number_bytes c.args.second))
