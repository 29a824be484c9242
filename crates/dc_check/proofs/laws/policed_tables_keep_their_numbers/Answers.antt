use Rattle.dc_check.proofs.Policed.{policed_admissible}
use Rattle.dc_check.proofs.laws.policed_tables_keep_their_numbers.Goals as goal

-- of a policed bus nothing is asked
pub returns : goal.returns
returns c = λ policed claims accepted run numbers budgets.
    c.accepted_certificates_keep_their_numbers.ensures claims accepted run (policed_admissible c.args.tables.now c.valid.ensures policed run numbers budgets)
