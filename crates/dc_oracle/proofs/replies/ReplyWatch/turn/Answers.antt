use Rattle.std.proofs.Common.{◌+◌, refl}
use Rattle.dc_oracle.proofs.Replying.{replies-tick}
use Rattle.dc_oracle.proofs.replies.ReplyWatch.turn.Goals as goal

pub returns-clause-reply : goal.returns-clause-reply
returns-clause-reply c = λ run h. replies-tick c.args.tables.now c.args.self.now (record { tick = c.args.self.now.tick + 1; buses = c.args.self.now.buses; latest = c.args.self.now.latest; cursors = c.args.self.now.cursors; sent = c.args.self.now.sent }) run refl refl refl refl refl h
