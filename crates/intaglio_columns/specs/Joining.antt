-- The map of a shard, in a column.
use Rattle.std.specs.Prelude.{◌≢◌, ℕ, List}
use Rattle.intaglio_columns.specs.IsColumn.{IsColumn}
use Rattle.intaglio_columns.specs.Layout.{source_of}

-- a column whose rows come from a dictionary or a shard: each of its codes is that of a string
pub record IsMapColumn (bs : List ℕ) : Type 0 where
  pub column : IsColumn bs
  pub source : (source_of bs).shards ≢ 0
