-- `IsRefusal` allows `NoPlaces` for allowed strings of which no two are equal. They were checked, and
-- `freeze_by` returns nothing only if no two are equal.
use Rattle.intaglio_frozen.proofs.freezing.freeze_at.Goals as goal

pub returns-in-None-clause-err : goal.returns-in-None-clause-err
returns-in-None-clause-err g c =
    (c.in_ok-check_strings.ensures.allowed, c.in_ok-bytes.ensures.distinct c.in-None.is)
