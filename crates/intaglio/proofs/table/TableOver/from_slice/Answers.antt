-- Distinct forms are all new, so they are stored in their order, and the symbols that the batch issues are
-- the positions (`numbered`). The batch says that each is found by its key.
use Rattle.std.proofs.Common.{◌≡◌, ◌∙◌, ap, map, length, []}
use Rattle.intaglio.proofs.Names.{length-map, numbers_from, issue_from}
use Rattle.intaglio_interner.proofs.Each.{keys-seen}
use Rattle.intaglio.proofs.Numbered.{numbered}
use Rattle.intaglio.proofs.table.TableOver.from_slice.Goals as goal

pub returns-clause-numbered : goal.returns-clause-numbered
returns-clause-numbered g c = λ apart n k i at is.
    let key_of = g.L.Content.Content.key_of in
    let words = map g.L.By.CopiedTo.form_spelling c.args.forms.now in
    let keys = keys-seen g.L.By.Keyed.key g.L.By.CopiedTo.form_spelling key_of g.met.L.By.CopiedTo.key_of_form
    c.args.forms.now in
    let all = (numbered key_of words (rw keys at apart)).1 in
    let size : length words ≡ length c.args.forms.now =
    length-map c.args.forms.now g.L.By.CopiedTo.form_spelling in
    let given : c.in_ok-_symbols._symbols.items ≡ issue_from key_of [] words =
    rw c.in-Ok.ensures.made at c.in_ok-_symbols.ensures.batch.symbols in
    let symbols : c.in_ok-_symbols._symbols.items ≡ numbers_from 0 (length c.args.forms.now) =
    given ∙ all ∙ ap (numbers_from 0) size in
    c.in_ok-_symbols.ensures.batch.found n k i at (rw symbols is)
