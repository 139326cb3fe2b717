-- The lines of a group, and those behind it.
use Rattle.intaglio_interner.proofs.Held.{interned_all-append, interned_all-longer, issue_from-append}

-- what is held and issued after the group, and then after the lines behind it
pub ruleset groups = (interned_all-append, interned_all-longer, issue_from-append)
