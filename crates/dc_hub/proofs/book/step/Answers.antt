use Rattle.std.proofs.Common.{subst, sym}
use Rattle.dc_core.specs.Steps.{StandsFor}
use Rattle.dc_hub.proofs.Backlogs.{backlog_reported}
use Rattle.dc_hub.proofs.book.step.Goals as goal

pub returns-clause-backlog : goal.returns-clause-backlog
returns-clause-backlog c = λ run stands.
    backlog_reported c.tables-tables.result.now c.apply.new.self run c.args.event.now c.apply.result c.valid.ensures c.backlog_fits.ensures
    (c.apply.ensures.step run (subst (λ t. StandsFor t c.args.state.now run) (sym c.tables-tables.ensures) stands))
