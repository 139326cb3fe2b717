-- In each store, the interner's own call does to the contents what `InternsStatic` says of their bytes: both
-- look up the same key, and a new string is moved in, or copied if the table is packed.
use Rattle.intaglio_c.proofs.Names.{refl, ap, components, bytes_content_bytes, path_content_bytes, copies_static, seen, Owned, Path}
use Rattle.intaglio_content.specs.declared.content_of.ContentOf.TheVariants as content
use Rattle.intaglio_c.proofs.AsBytes.{interned, moved}
use Rattle.intaglio_c.proofs.any_table.AnyTable.intern_static.Goals as goal

pub returns-in-Owned : goal.returns-in-Owned
returns-in-Owned c = record {
  step = interned (Owned c.in-Owned.field-0) bytes_content_bytes _ (λ _. refl) copies_static _ _ _
      (ap seen c.in-Owned.is) c.intern.new.self c.intern.ensures.hasher c.args.bytes.now
      c.in_ok-check.ensures.faultless _ _ refl
      (moved bytes_content_bytes (content.Borrowed c.args.bytes) _ _ refl) _ _ c.intern.ensures.step
      c.symbol_answer.ensures.answer;
}

pub returns-in-Path : goal.returns-in-Path
returns-in-Path c = record {
  step = interned Path path_content_bytes _ (λ _. refl) copies_static _ _ _ (ap seen c.in-Path.is)
      c.intern-in-Path.new.self c.intern-in-Path.ensures.hasher c.args.bytes.now
      c.in_ok-check.ensures.faultless _ _ (ap components c.text_in.ensures.text)
      (moved path_content_bytes (content.Borrowed c.text_in.result) _ _ c.text_in.ensures.text) _ _
      c.intern-in-Path.ensures.step c.symbol_answer-in-Path.ensures.answer;
}
