use Rattle.dc_event.specs.lemmas.Arrivals.{arrivals-policed, arrivals-hold, arrivals-unpoliced}
use Rattle.dc_event.proofs.laws.polices_each.Goals as goal

pub returns : goal.returns
returns c = λ s l run. record {
  admits = λ policed. arrivals-policed c.args.tables.now s policed run;
  keeps = λ policed. arrivals-hold c.args.tables.now s policed (c.valid.ensures.minimums s l) run;
  others = λ free. arrivals-unpoliced c.args.tables.now s run free;
}
