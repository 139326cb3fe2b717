-- Each dropped record had 13 bytes or more (`headers-behind`), and just 13 more are set aside. So the spare
-- bytes don't fall, and the room for bytes of strings in total stays (`room-is`).
use Rattle.intaglio_records.proofs.Names.{common_steps, length-take}
use Rattle.std.proofs.Common.{arith}
use Rattle.intaglio_records.proofs.RecordLemmas.{are-long, headers-behind, records-take, room-is}
use Rattle.intaglio_records.proofs.records.StringRecords.truncate.Goals as goal

pub invariant_of-self : goal.invariant_of-self
invariant_of-self c = grind (arith, common_steps, c.truncate.ensures.list, c.truncate.ensures.byte_room, records-take, length-take, headers-behind c.args.n c.self.inside.records.list (are-long c.self.inside.records.list c.self.invariant.each))

pub returns-clause-spare_bytes : goal.returns-clause-spare_bytes
returns-clause-spare_bytes c =
    grind (arith, common_steps, c.truncate.ensures.list, length-take, headers-behind c.args.n c.self.inside.records.list (are-long c.self.inside.records.list c.self.invariant.each))

pub returns-clause-byte_room : goal.returns-clause-byte_room
returns-clause-byte_room c = grind (arith, common_steps, invariant_of-self, room-is, are-long)
