-- A place is free if its tag is 0, whatever slot it has (`line-remove`).
use Rattle.intaglio_records.proofs.LineLemmas.{line-remove}
use Rattle.intaglio_records.proofs.line.Line.remove.Goals as goal

pub returns : goal.returns
returns c e es next is at = line-remove c.args.self.now e es next c.args.count c.requires is at
