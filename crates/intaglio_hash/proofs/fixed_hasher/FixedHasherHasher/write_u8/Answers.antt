-- The first, the middle and the last of one byte are that byte: std reads it three times, as the code does.
use Rattle.std.proofs.Common.{ℕ, [], ◌∷◌, ap, ◌∙◌}
use Rattle.std.specs.Hash.FoldHasher.{read_short, write}
use Rattle.std.specs.declared.hash.FoldHasher.{FoldHasher}
use Rattle.intaglio_hash.proofs.fixed_hasher.FixedHasherHasher.write_u8.Goals as goal

pub returns : goal.returns
unfolding write read_short
returns c =
    let in_state : ℕ → FoldHasher = λ x. record { state = x } in
    ap in_state c.folded-self-inside.ensures ∙ ap (λ s. write s (c.args.i ∷ [])) c.self.view_is
