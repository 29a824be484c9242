use Rattle.dc_kept.proofs.Keeping.{kept-time}
use Rattle.dc_kept.proofs.laws.kept_captures_keep_time.Goals as goal

pub returns : goal.returns
returns c = kept-time c.args.tables.now
