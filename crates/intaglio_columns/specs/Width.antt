-- How many bytes a code has.
use Rattle.std.specs.Prelude.{ℕ, ◌-◌, ◌^◌, cond, nat_le}
use Rattle.intaglio_columns.specs.declared.file.width.Width.{Width}
use Rattle.intaglio_columns.specs.declared.file.width.Width.TheVariants.{One, Two, Four}

abbrev pub bytes_of : Width → ℕ
bytes_of One = 1
bytes_of Two = 2
bytes_of Four = 4

-- the code of a row whose line the dictionary doesn't have
abbrev pub missing : ℕ
missing = 2 ^ 32 - 1

-- the greatest code of a width, which is the missing one
abbrev pub greatest : Width → ℕ
greatest One = 0xff
greatest Two = 0xffff
greatest Four = 0xffff_ffff

-- the least width whose codes but the greatest serve so many strings
abbrev pub width_for : ℕ → Width
width_for n = cond (nat_le n 0xff) One (cond (nat_le n 0xffff) Two Four)
