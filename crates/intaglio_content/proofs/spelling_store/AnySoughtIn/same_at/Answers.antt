-- The bytes that were read are the spelling of the content at `i` (`read-there`), and two spellings have
-- equal keys exactly if `same_spellings` says so.
use Rattle.std.proofs.Common.{◌≡◌, ◌<◌, ◌∙◌, ℕ, List, sym, ap, length, slice_get, Some, []}
use Rattle.std.specs.Option.{IfSome}
use Rattle.std.proofs.lemmas.Option.{get_or_from_slice_get, slice_get-get_or}
use Rattle.intaglio_content.proofs.spelling_store.AnySoughtIn.same_at.Goals as goal

-- the bytes that were read at a position are the spelling there, and what holds of that holds of them
read-there : (xs : List (List ℕ)) (i : ℕ) (bytes : List ℕ) (P Q : List ℕ → Type 0) → i < length xs →
    IfSome (slice_get xs i) P → IfSome (slice_get xs i) Q → ((w : List ℕ) → P w → bytes ≡ w)
    → Q bytes × (slice_get xs i ≡ Some bytes)
read-there xs i bytes P Q l p q same =
    let is = slice_get-get_or xs i [] l in
    let read = same _ (rw is at p) in
    (rw read (rw is at q), is ∙ ap Some (sym read))

pub same_spellings-requires-clause-second : goal.same_spellings-requires-clause-second
same_spellings-requires-clause-second g c =
    (read-there (g.L-Store.contents c.args.store.now) c.args.i c.args.read.now _ _ c.requires.there
    c.requires.read c.is_spelling_at.ensures (λ w. g.met.L.SpellingStore.reads w c.args.read.now)).0

pub returns : goal.returns
returns g c =
    let spellings = g.L-Store.contents c.args.store.now in
    let read = read-there spellings c.args.i c.args.read.now _ _ c.requires.there c.requires.read
    c.is_spelling_at.ensures (λ w. g.met.L.SpellingStore.reads w c.args.read.now) in
    record {
      content = c.args.read.now;
      stands = sym (get_or_from_slice_get spellings c.args.i c.args.read.now c.args.read.now read.1);
      same_keys = rw (g.met.Q.Packable.key_of_spelled c.args.self.now, ← c.spelled_bytes.ensures.spelling)
          c.same_spellings.ensures;
      event = c.compared.ensures;
    }
