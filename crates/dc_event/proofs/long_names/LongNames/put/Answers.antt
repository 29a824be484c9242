use Rattle.std.proofs.Common.{arith}
use Rattle.dc_event.proofs.LongKeys.{long_put}
use Rattle.dc_event.proofs.long_names.LongNames.put.Goals as goal

pub returns-then-self-first : goal.returns-then-self-first
returns-then-self-first c = λ names found is. long_put names c.args.self.now.keys c.args.key c.args.number (omega arith) found is

pub returns : goal.returns
returns c = λ names found is. long_put names c.args.self.now.keys c.args.key c.args.number (omega arith) found is
