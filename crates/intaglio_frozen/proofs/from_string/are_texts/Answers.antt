-- A string that isn't UTF-8 is enough to show that not all are.
use Rattle.intaglio_frozen.proofs.from_string.are_texts.Goals as goal

pub returns-in-Err : goal.returns-in-Err
returns-in-Err g c =
    (λ is. cc, λ texts. absurd (c.in-Err.ensures.cases.0 (texts c.loop-i.i _ c.string.ensures)))
