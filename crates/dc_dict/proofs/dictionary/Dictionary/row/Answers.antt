use Rattle.std.proofs.Common.{ap, ◌∙◌}
use Rattle.dc_dict.specs.Rows.{row_of}
use Rattle.dc_dict.proofs.Entries.{lookup-row_of}
use Rattle.dc_dict.proofs.dictionary.Dictionary.row.Goals as goal

pub returns-clause-value : goal.returns-clause-value
returns-clause-value c =
    c.get.ensures.value
    ∙ lookup-row_of c.self.inside.rows.entries c.args.label c.args.equipment c.self.invariant.0
    ∙ ap (λ rows. row_of rows c.args.label c.args.equipment) c.self.view_is
