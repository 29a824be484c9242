use Rattle.dc_margin.proofs.Verdicts.{verdict-same, accepted-same}
use Rattle.dc_margin.proofs.laws.the_verdict_is_the_first_negative_margin.Goals as goal

pub returns : goal.returns
returns c = record {
  accepted = accepted-same c.args.tables.now c.valid.ensures;
  verdict = verdict-same c.args.tables.now c.valid.ensures;
}
