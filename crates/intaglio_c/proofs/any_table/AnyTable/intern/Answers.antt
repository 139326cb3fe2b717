-- In each store, what the interner's own call does to the contents is what `Interns` says of their bytes:
-- both look up the same key, and a new string is copied behind the others.
use Rattle.intaglio_c.proofs.Names.{refl, ap, ◌∙◌, true, components, bytes_content_bytes, path_content_bytes, seen, packed_bytes, Owned, Path, Packed}
use Rattle.intaglio_c.proofs.AsBytes.{interned, pushed}
use Rattle.intaglio_c.proofs.any_table.AnyTable.intern.Goals as goal

pub returns-in-Owned : goal.returns-in-Owned
returns-in-Owned c = record {
  step = interned (Owned c.in-Owned.field-0) bytes_content_bytes _ (λ _. refl) (λ _. true) _ _ _
      (ap seen c.in-Owned.is) c.intern_hashed.new.self c.intern_hashed.ensures.hasher c.args.bytes.now
      c.in_ok-check.ensures.faultless _ _ refl (pushed bytes_content_bytes _ _ _ c.args.bytes.now _ refl) _ _
      c.intern_hashed.ensures.step c.symbol_answer.ensures.answer;
}

pub returns-in-Path : goal.returns-in-Path
returns-in-Path c = let spelled = c.new-path.ensures ∙ c.text_in.ensures.text in record {
  step = interned Path path_content_bytes _ (λ _. refl) (λ _. true) _ _ _ (ap seen c.in-Path.is)
      c.intern_hashed-in-Path.new.self c.intern_hashed-in-Path.ensures.hasher c.args.bytes.now
      c.in_ok-check.ensures.faultless _ _ (ap components spelled)
      (pushed path_content_bytes _ _ _ c.args.bytes.now _ spelled) _ _
      c.intern_hashed-in-Path.ensures.step c.symbol_answer-in-Path.ensures.answer;
}

pub returns : goal.returns
returns c = record {
  step = interned (Packed c.in-Packed.field-0) packed_bytes _ (λ _. refl) (λ _. true) _ _ _
      (ap seen c.in-Packed.is) c.intern_hashed-in-Packed.new.self c.intern_hashed-in-Packed.ensures.hasher
      c.args.bytes.now c.in_ok-check.ensures.faultless _ _ refl
      (pushed packed_bytes _ _ _ c.args.bytes.now _ refl) _ _ c.intern_hashed-in-Packed.ensures.step
      c.symbol_answer-in-Packed.ensures.answer;
}
