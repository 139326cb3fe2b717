-- Above eight bytes, each class returns the state after the same number of blocks, so one last step suits
-- all. For fewer than 16 bytes its first offset is 0 by `max`, as is `n - 16` in std's definition.
use Rattle.std.proofs.Common.{◌≡◌, ◌+◌, ◌-◌, ◌/◌, ◌%◌, ◌^◌, ◌∙◌, length, arith}
use Rattle.std.proofs.lemmas.Bool.{le-leb, lt-leb}
use Rattle.std.specs.Hash.FoldHasher.{mix_blocks, write}
use Rattle.intaglio_hash.proofs.fixed_hasher.written.Goals as goal
use Rattle.intaglio_hash.proofs.fixed_hasher.written.Goals.{then-len-le-MEDIUM, else-len-le-MEDIUM+then-len-le-LONG, else-len-le-MEDIUM+else-len-le-LONG}

pub returns-then-len-le-SHORT : goal.returns-then-len-le-SHORT
unfolding write
returns-then-len-le-SHORT c =
    rw (c.folded.ensures, c.short.ensures, le-leb (length c.args.bytes.now) 8 c.if-len-le-SHORT.true)

pub returns : goal.returns
unfolding write
returns c =
    let bs = c.args.bytes.now in
    let n = length bs in
    let before : c.if-len-le-MEDIUM.before ≡ mix_blocks bs ((c.args.state + n) % 2 ^ 64) ((n - 1) / 16) =
    elim c.if-len-le-MEDIUM.branch [
      | then-len-le-MEDIUM w ↦ w.before-is ∙ w.after_one-before.ensures
      | else-len-le-MEDIUM+then-len-le-LONG w ↦ w.before-is ∙ w.after_three.ensures
      | else-len-le-MEDIUM+else-len-le-LONG w ↦ w.before-is ∙ w.after_all.ensures
    ]
    in
    let first : c.max.result - 16 ≡ n - 16 = omega arith in
    rw (lt-leb n 8 c.if-len-le-SHORT.false, c.mixed.ensures, before, first)
