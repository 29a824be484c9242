use Rattle.std.proofs.Common.{◌∙◌, ◌≤◌}
use Rattle.dc_dict.specs.declared.parameter.Parameter.{Parameter as ParameterPart}
use Rattle.dc_rules.specs.lemmas.Found.{found_all}
use Rattle.dc_rules.proofs.index.Parameters.find.Goals as goal

pub returns-clause-small : goal.returns-clause-small
returns-clause-small c = found_all (λ (q : ParameterPart). q.min_us ≤ 60000000) c.self.inside.rows c.args.key c.copied.result (c.copied.ensures ∙ c.row.ensures.value) c.self.invariant
