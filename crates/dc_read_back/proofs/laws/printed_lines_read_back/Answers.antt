use Rattle.dc_read_back.proofs.Back.{read_back}
use Rattle.dc_read_back.proofs.laws.printed_lines_read_back.Goals as goal

pub returns : goal.returns
returns c = λ rows seen bounds numbers.
    read_back c.args.tables.now rows seen c.valid.ensures bounds numbers c.buses_are_spelled.ensures c.outputs_are_spelled.ensures c.labels_are_spelled.ensures
