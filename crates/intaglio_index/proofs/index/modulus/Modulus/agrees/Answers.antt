-- The xor of two numbers is at most the mask exactly if no bit above the mask differs (`agrees-is`).
use Rattle.std.proofs.Common.{◌≡◌, ◌↔◌, ◌+◌, ◌/◌, ◌≤◌}
use Rattle.intaglio_index.proofs.Names.{bit_xor, leb-true, le-leb}
use Rattle.intaglio_index.proofs.Words.{agrees-is}
use Rattle.intaglio_index.proofs.index.modulus.Modulus.agrees.Goals as goal

pub returns : goal.returns
returns c =
    let at : bit_xor c.args.word c.args.hash ≤ c.args.self.mask ↔
    (c.args.word / (c.args.self.mask + 1) ≡ c.args.hash / (c.args.self.mask + 1)) =
    agrees-is c.args.self.mask c.args.word c.args.hash c.requires.power in
    (λ t. at.0 (leb-true _ _ t), λ e. le-leb _ _ (at.1 e))
