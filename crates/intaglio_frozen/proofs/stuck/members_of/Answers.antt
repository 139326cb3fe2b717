-- A string of the group is behind the members so far, and becomes one (`members-more`).
use Rattle.std.proofs.Common.{◌≡◌, ◌++◌, [], ◌∷◌, ◌∙◌, rules, sym, arith}
use Rattle.intaglio_frozen.proofs.Marked.{members-before, members-more}
use Rattle.intaglio_frozen.proofs.stuck.members_of.Goals.{then-group_at-group+in_ok-push, else-group_at-group}
use Rattle.intaglio_frozen.proofs.stuck.members_of.Goals as goal

pub loop-i-preserved : goal.loop-i-preserved
loop-i-preserved c =
    let hs = c.args.hashes.now in
    let ms = c.loop-i.members.items in
    let i = c.loop-i.i in
    let old = c.loop-i.invariant in
    elim c.if-group_at-group.branch [
      | then-group_at-group+in_ok-push w ↦
          (let items : c.if-group_at-group.members.items ≡ ms ++ i ∷ [] = search rules in
          record {
            members = rw items
                (members-more hs ms c.args.group i old.before c.loop-i-test.true
                (sym c.group_at.ensures.value ∙ w.if-group_at-group.true) old.members);
            before = rw items (members-before hs ms c.args.group i old.before);
          })
      | else-group_at-group w ↦ record {
        members = rw w.members-is old.members;
        before = rw w.members-is (λ k below. omega (arith, old.before k below));
      }
    ]
