-- The table is made with the limit 2 ^ 32, and the rest is what `encode_lines` says.
use Rattle.std.specs.Prelude.{ℕ, ◌≡◌, ◌<◌}
use Rattle.intaglio_encode.proofs.encode.encode_by.Goals as goal

-- a limit that is the same is as small
less-by : {a b n : ℕ} → a ≡ b → a < n → b < n
less-by same less = rw same at less

pub returns : goal.returns
returns g c = record {
  written = c.encode_lines.ensures.written;
  zero = c.encode_lines.ensures.zero;
  fit = c.encode_lines.ensures.fit;
  overflow = λ e. less-by c.in_ok-table.ensures.limit (c.encode_lines.ensures.overflow e);
  nothing_written = c.encode_lines.ensures.nothing_written;
  err = c.encode_lines.ensures.err;
}
