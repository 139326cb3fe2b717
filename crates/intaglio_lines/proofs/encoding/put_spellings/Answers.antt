-- A turn adds the line of the spelling at its place to those before it.
use Rattle.intaglio_lines.proofs.Names.{common_steps, flat_map-append, slice_get, flat_map, append-nil, map-append, take_more, spelling_line}
use Rattle.std.proofs.Common.{◌≡◌, ◌∙◌, ◌+◌, ◌++◌, ◌∷◌, [], ℕ, List, Some, take, map, add-one, sym, ap, arith}
use Rattle.std.specs.Option.{option_copied}
use Rattle.std.proofs.lemmas.Option.{slice_get_within, get_or_from_slice_get}
use Rattle.intaglio_interner.proofs.Laws.{mapped-some}
use Rattle.intaglio_lines.proofs.Appended.{Appends-append}
use Rattle.intaglio_lines.proofs.encoding.put_spellings.Goals as goal

-- the lines so far, and that of one content more
lines-next : {C : Type 0} (spelling : C → List ℕ) (cs : List C) (n : ℕ) (c : C) → slice_get cs n ≡ Some c →
    flat_map spelling_line (map spelling (take (n + 1) cs))
    ≡ flat_map spelling_line (map spelling (take n cs)) ++ spelling_line (spelling c)
lines-next spelling cs n c at = grind (arith, at, slice_get_within cs n c at, get_or_from_slice_get cs n c c at, take_more cs n c, map-append spelling (take n cs) (c ∷ []), flat_map-append spelling_line (map spelling (take n cs)) (spelling c ∷ []), append-nil, add-one)

pub loop-place-preserved : goal.loop-place-preserved
loop-place-preserved g c =
    let contents = g.L.Store.contents c.args.contents.now in
    let of = mapped-some g.L.Content.Content.spelling (slice_get contents c.loop-place.place) c.unwrap.result.now
    (sym c.spelling_at.ensures ∙ ap option_copied c.unwrap.ensures) in
    rw (lines-next g.L.Content.Content.spelling contents c.loop-place.place of.0 of.1)
    (Appends-append _ _ _ _ _ c.loop-place.invariant (rw (sym of.2) at c.in_ok-put_line.ensures.put))
