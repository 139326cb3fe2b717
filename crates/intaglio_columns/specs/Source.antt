-- From which dictionary the rows of a column come.
use Rattle.std.specs.Prelude.{ℕ, Bool, ◌==◌, ◌&&◌, ◌||◌, not, cond, nat_lt}
use Rattle.intaglio_columns.specs.declared.file.source.RowSource.{RowSource}

-- nothing is said of where lines come from
abbrev pub is_of_lines : RowSource → Bool
is_of_lines s = not s.is_text && (s.hash0 == 0) && (s.hash1 == 0) && (s.shard == 0)

-- the shard is one of the source, and if that has several, so many as the dictionary to which codes lead
abbrev pub is_of_a_map : ℕ → RowSource → Bool
is_of_a_map shards s = nat_lt s.shard s.shards && ((s.shards == 1) || (s.shards == shards))

-- a column of a dictionary with so many shards can have this source
abbrev pub fits : ℕ → RowSource → Bool
fits shards s = nat_lt 0 shards && cond (s.shards == 0) (is_of_lines s) (is_of_a_map shards s)
