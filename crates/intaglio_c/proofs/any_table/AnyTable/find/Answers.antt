-- In each store, what the interner finds is what a look-up by bytes finds, since its contents have their
-- bytes' keys. What the kind doesn't take isn't found, as all strings of the table are faultless.
use Rattle.intaglio_c.proofs.Names.{refl, ap, ◌∙◌, components, bytes_content_bytes, path_content_bytes, seen, packed_bytes, Owned, Path, Packed}
use Rattle.intaglio_c.proofs.AsBytes.{finds}
use Rattle.intaglio_c.proofs.any_table.AnyTable.find.Goals as goal

pub returns-in-Owned : goal.returns-in-Owned
returns-in-Owned c = record {
  found = finds (Owned c.in-Owned.field-0) bytes_content_bytes _ (λ _. refl) _ _ _ (ap seen c.in-Owned.is)
      c.args.bytes.now _ _ tt refl c.search_hashed.ensures.found;
}

pub returns-in-Ok : goal.returns-in-Ok
returns-in-Ok c = record {
  found = finds Path path_content_bytes _ (λ _. refl) _ _ _ (ap seen c.in-Path.is) c.args.bytes.now _ _
      c.in-Ok.ensures.faultless (ap components (c.new-in-Ok.ensures ∙ c.in-Ok.ensures.ok))
      c.search_hashed-in-Ok.ensures.found;
}

pub returns : goal.returns
returns c = record {
  found = finds (Packed c.in-Packed.field-0) packed_bytes _ (λ _. refl) _ _ _ (ap seen c.in-Packed.is)
      c.args.bytes.now _ _ tt refl c.search_hashed-in-Packed.ensures.found;
}
