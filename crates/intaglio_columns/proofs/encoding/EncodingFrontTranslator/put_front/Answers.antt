-- The trait says that the bytes seen are at most one piece. For lines this means that no line ends in them.
use Rattle.std.proofs.Common.{take}
use Rattle.intaglio_columns.proofs.Cut.{no-end}
use Rattle.intaglio_columns.proofs.encoding.EncodingFrontTranslator.put_front.Goals as goal

pub put_lines-requires-clause-seen : goal.put_lines-requires-clause-seen
put_lines-requires-clause-seen g c = no-end (take c.args.seen c.args.bytes.now) c.requires.seen
