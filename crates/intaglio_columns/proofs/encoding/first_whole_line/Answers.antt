-- No line ends in the bytes that were seen, so the first line end behind them is the first of all.
use Rattle.std.proofs.Common.{◌∙◌, ◌+◌, ap, option_map}
use Rattle.intaglio_columns.proofs.Cut.{line-last, line-starts, position-behind}
use Rattle.intaglio_columns.proofs.encoding.first_whole_line.Goals as goal

pub returns-in-Some-clause-whole : goal.returns-in-Some-clause-whole
returns-in-Some-clause-whole c =
    line-starts c.args.bytes.now (c.args.seen + c.in-Some.end)
    (position-behind c.args.bytes.now c.args.seen _ c.requires.within c.requires.seen c.end_of_line.ensures.place
    ∙ ap (option_map (λ n. c.args.seen + n)) c.in-Some.is)

pub returns-in-None-clause-none : goal.returns-in-None-clause-none
returns-in-None-clause-none c = λ _.
    line-last c.args.bytes.now
    (position-behind c.args.bytes.now c.args.seen _ c.requires.within c.requires.seen c.end_of_line.ensures.place
    ∙ ap (option_map (λ n. c.args.seen + n)) c.in-None.is)
