-- What was put so far, and what the symbols that are left stand for, is what all symbols stand for.
use Rattle.std.proofs.Common.{◌≡◌, ℕ, List, ◌++◌, length, map}
use Rattle.std.specs.Io.KnownBytes.{Appends, append_known}
use Rattle.intaglio_decode.proofs.Names.{digits_value, decoded, symbol_lines, AreKnown}
use Rattle.intaglio_decode.proofs.parts.PartsOutput.put_all.Given as goal

abbrev pub invariant-loop-rest : goal.invariant-loop-rest
invariant-loop-rest g l =
    let spellings = map (λ spelling. spelling.now) l.self.spellings.items in
    record {
      known : AreKnown (length spellings) (symbol_lines l.rest);
      put : (done : List ℕ)
          × Appends (append_known (g.W.Write.contents l.initial.writer) l.initial.block.items)
          (append_known (g.W.Write.contents l.writer) l.block.items) done
          × (done ++ decoded (map (digits_value 10) (symbol_lines l.rest)) spellings
          ≡ decoded (map (digits_value 10) (symbol_lines l.self.bytes.now)) spellings);
    }

abbrev pub decreases-loop-rest : goal.decreases-loop-rest
decreases-loop-rest g l = length l.rest
