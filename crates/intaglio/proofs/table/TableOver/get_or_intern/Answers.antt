-- A form adds a content with its own key and spelling (`adds_copy`), so what the core says of the value that
-- is added is what `InternsForm` says of the form (`interns-form`).
use Rattle.intaglio.proofs.AsForms.{interns-form}
use Rattle.intaglio.proofs.table.TableOver.get_or_intern.Goals as goal

pub returns-clause-step : goal.returns-clause-step
returns-clause-step g c =
    rw (← c.self.view_is)
    (interns-form g.L.Content.Keyed.key g.L.Content.Content.spelling (g.L.By.AddedTo.adds c.args.form)
    g.L.By.AddedTo.copies (g.L.By.Keyed.key c.args.form) (g.L.By.CopiedTo.form_spelling c.args.form)
    (λ a b is. g.met.L.By.CopiedTo.adds_copy c.args.form a b is) _ _ _ c.get_or_intern.ensures.step)
