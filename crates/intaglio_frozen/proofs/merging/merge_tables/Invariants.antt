-- The table has the union of the lists so far, and the maps are theirs.
use Rattle.std.proofs.Common.{◌≡◌, ◌≤◌, ◌^◌, length, map, take, vec_len, vec_capacity}
use Rattle.intaglio_frozen.proofs.Names.{hash_of, union, AreMaps}
use Rattle.intaglio_frozen.proofs.merging.merge_tables.Given as goal

abbrev pub invariant-loop-i : goal.invariant-loop-i
invariant-loop-i g l = record {
  union : l.table.state.contents ≡ union (map g.L.StringList.strings (take l.i l.lists));
  maps : AreMaps (map g.L.StringList.strings (take l.i l.lists)) l.table.state.contents
      (map (λ m. m.items) l.maps.items);
  limit : l.table.state.limit ≡ 2 ^ 32;
  hash : hash_of g.S.BuildHasher g.S.Hasher.Hasher l.table.hasher ≡ hash_of g.S.BuildHasher g.S.Hasher.Hasher
      l.fn.builder;
  count : vec_len l.maps ≡ l.i;
  room : length l.lists ≤ vec_capacity l.maps;
}
