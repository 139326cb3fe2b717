-- The laws, from the lemmas on reading, on first equal lines and on symbols in order.
use Rattle.std.proofs.Common.{◌≡◌, ◌≢◌, refl, List, ℕ, [], arith}
use Rattle.intaglio_decode.proofs.Names.{lines_of, key_of, encoded, flat_map-lines_of, lines_of-are-lines, faults-exact, one-output, one-reading, FaultsAreExact, IsReadInOneWay, DecodingGivesFirstSpellings, DecodingGivesInput, EncodingKeepsInput, DecodingKeepsKeys, EncodingIsInOrder}
use Rattle.intaglio_lines.specs.declared.kind.Kind.{Kind}
use Rattle.intaglio_lines.specs.declared.kind.Kind.TheVariants.{Path}
use Rattle.intaglio_decode.proofs.FirstEqual.{decodes-first, decoded-keys, firsts, holds-encoded}
use Rattle.intaglio_decode.proofs.InOrder.{issue-in-order, distinct-interned_all}

pub faults_are_exact : FaultsAreExact
faults_are_exact = faults-exact

pub bytes_are_read_in_one_way : IsReadInOneWay
bytes_are_read_in_one_way = one-reading

pub decoding_gives_first_spellings : DecodingGivesFirstSpellings
decoding_gives_first_spellings = λ kind input. decodes-first (key_of kind) input

-- equal contents are spelled alike, but paths
spelled-alike : (kind : Kind) → kind ≢ Path → (a b : List ℕ) → key_of kind a ≡ key_of kind b → a ≡ b
spelled-alike Path other a b same = absurd (other refl)
spelled-alike _ other a b same = cc

pub decoding_gives_the_input : DecodingGivesInput
decoding_gives_the_input = λ kind input other.
    let is = firsts (key_of kind) (lines_of input) (lines_of input) (lines_of-are-lines input) (lines_of-are-lines input) in
    rw (is.2 (spelled-alike kind other), flat_map-lines_of input) at (decodes-first (key_of kind) input)

pub encoding_keeps_the_input : EncodingKeepsInput
encoding_keeps_the_input = λ kind input other names few same.
    one-output (encoded kind input) _ _ few (decoding_gives_the_input kind input names)
    (rw same (decoding_gives_the_input kind other names))

pub decoding_keeps_keys : DecodingKeepsKeys
decoding_keeps_keys = λ kind input. (_, decodes-first (key_of kind) input, decoded-keys (key_of kind) input)

pub encoding_is_in_order : EncodingIsInOrder
encoding_is_in_order = λ kind input. (
  _,
  _,
  holds-encoded (key_of kind) input,
  record {
    order = issue-in-order (key_of kind) [] (lines_of input);
    distinct = distinct-interned_all (key_of kind) [] (lines_of input) (λ i j d below within. absurd (omega arith));
  },
)
