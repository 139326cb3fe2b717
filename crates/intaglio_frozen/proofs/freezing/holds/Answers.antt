-- The tests are the parts of `IsFrozen` except for UTF-8. The strings are those of the list, and these are
-- UTF-8 if the kind is text.
use Rattle.std.proofs.Common.{rules, ◌≡◌, refl, sym, ◌∙◌}
use Rattle.intaglio_frozen.specs.Layout.{kind as kind_of, strings}
use Rattle.intaglio_frozen.proofs.Names.{number_of, text_kind}
use Rattle.intaglio_frozen.specs.declared.kind.FrozenKind.{FrozenKind}
use Rattle.intaglio_frozen.specs.declared.kind.FrozenKind.TheVariants.{Bytes, Text}
use Rattle.intaglio_frozen.proofs.freezing.holds.Goals as goal

-- the kind with the number of texts is that of texts
text-of : (kind : FrozenKind) → number_of kind ≡ text_kind → kind ≡ Text
text-of Bytes e = cc
text-of Text e = refl

pub returns-then-has_id-clause-table : goal.returns-then-has_id-clause-table
returns-then-has_id-clause-table g c = λ found.
    let bs = c.args.bytes.now in
    let same : strings bs ≡ g.L.StringList.strings c.args.list.now = search rules in
    let kind_is : kind_of bs ≡ number_of c.args.kind = search rules in
    record {
      frozen = record {
        block = search rules;
        unused = search rules;
        found = search rules;
        texts = λ is. rw same (c.requires.allowed.texts (text-of c.args.kind (sym kind_is ∙ is)));
        id = search rules;
      };
      strings = same;
      kind = kind_is;
    }
