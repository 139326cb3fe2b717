-- If none was hashed, now the whole group is. So in both cases `hashes` ends with those of the first `ahead`
-- values, and the first of these is the value's own (`hashed-first`).
use Rattle.intaglio_interner.proofs.Names.{common_steps, ℕ, ◌<◌, ◌≤◌, arith, ◌∙◌, AreHashed}
use Rattle.intaglio_interner.proofs.Groups.{hashed-first}
use Rattle.intaglio_interner.proofs.batch.ahead.next_of_group.Goals.{then-ahead-eq0, else-ahead-eq0}
use Rattle.intaglio_interner.proofs.batch.ahead.next_of_group.Goals as goal

pub returns : goal.returns
returns g c =
    let f : g.row.Q.Denot → ℕ = λ q. g.T.BaseInterner.hash c.args.table.now (g.Q.Keyed.key q) in
    let values = g.V.Values.items c.args.values.now in
    let ahead = c.if-ahead-eq0.ahead in
    let group = c.if-ahead-eq0.auto.hashes ∙ c.requires.group in
    let known : AreHashed f ahead values c.if-ahead-eq0.hashes = elim c.if-ahead-eq0.branch [
      | then-ahead-eq0 w ↦ grind (arith, common_steps)
      | else-ahead-eq0 w ↦ rw (w.hashes-is, w.ahead-is) c.requires.known
    ] in
    let some : 0 < ahead = grind (arith, common_steps) in
    let within : ahead ≤ 64 = grind (arith, common_steps) in
    let both = hashed-first f c.if-ahead-eq0.hashes group ahead values some within known in
    record {
      hash = both.0;
      known = both.1;
      group = group;
      ahead = grind (arith, common_steps);
      cost = grind (arith, common_steps);
    }
