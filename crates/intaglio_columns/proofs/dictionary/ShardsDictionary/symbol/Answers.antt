-- As in a frozen table: a string is its own key, so it stands where the joined strings have the key first.
use Rattle.intaglio_columns.proofs.Names.{joined}
use Rattle.intaglio_columns.proofs.Found.{position-string}
use Rattle.intaglio_columns.proofs.dictionary.ShardsDictionary.symbol.Goals as goal

pub returns-clause-found : goal.returns-clause-found
returns-clause-found c =
    position-string (joined c.args.self.now) c.args.string.now c.check_interned.result
    c.check_interned.ensures
