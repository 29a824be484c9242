use Rattle.std.proofs.Common.{refl, arith}
use Rattle.dc_oracle.proofs.Emitting.{in_time-yes, in_time-reported, emits-limit}
use Rattle.dc_oracle.proofs.emissions.EmissionWatch.is_in_time.Goals as goal

pub returns-then-tick-self-clause-in_time : goal.returns-then-tick-self-clause-in_time
returns-then-tick-self-clause-in_time c = λ run e h clock. in_time-yes c.args.tables.now c.args.self.now run e c.args.self.now.limit h.limit (omega (arith, c.if-tick-self.true, clock)) h

pub returns-clause-emits : goal.returns-clause-emits
returns-clause-emits c = λ run h. emits-limit c.args.tables.now c.args.self.now _ run refl c.earliest-self.ensures h

pub returns-clause-in_time : goal.returns-clause-in_time
returns-clause-in_time c = λ run e h clock. in_time-reported c.args.tables.now c.args.self.now run e c.args.tick c.earliest-self.result c.earliest-self.ensures c.ranges.tick.fits h clock
