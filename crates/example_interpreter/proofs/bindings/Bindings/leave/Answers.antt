-- The names are the mapped symbols, and the first of a mapped list are the first items mapped (`take-map`).
use Rattle.std.proofs.Common.{◌∙◌, ap, sym, take}
use Rattle.std.proofs.lemmas.List.{take-map}
use Rattle.example_interpreter.specs.Names.{name_of}
use Rattle.example_interpreter.proofs.bindings.Bindings.leave.Goals as goal

pub returns : goal.returns
returns c =
    rw c.truncate.ensures.items
    (sym (take-map (name_of c.self.inside.names.state) c.args.depth c.self.inside.declared.items)
    ∙ ap (take c.args.depth) c.self.view_is)
