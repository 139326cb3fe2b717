-- `check_interned` returns the first position of the key. There stands the string, because it is its own key.
use Rattle.intaglio_columns.proofs.Found.{position-string}
use Rattle.intaglio_columns.proofs.dictionary.FrozenDictionary.symbol.Goals as goal

pub returns-clause-found : goal.returns-clause-found
returns-clause-found c =
    position-string c.args.self.now c.args.string.now c.check_interned.result c.check_interned.ensures.value
