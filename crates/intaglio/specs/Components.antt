-- The components of a path's text, re-exported with the right to unfold them, so that a caller's check can
-- compute those of a literal.
pub use Rattle.intaglio_path.specs.Components.{slash, root, dot, dot_dot, pieces, is_not_empty, is_name, kept_pieces, root_of, same_components, same_components_equiv, same_components_decides}
unfoldable pub use Rattle.intaglio_path.specs.Components.{components, names}
