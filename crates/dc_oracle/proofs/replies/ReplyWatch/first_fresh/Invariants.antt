use Rattle.std.proofs.Common.{◌≡◌, [], take}
use Rattle.std.specs.Prelude.{filter}
use Rattle.dc_oracle.specs.Replies.{all_fresh, is_wanted}
use Rattle.dc_oracle.proofs.replies.ReplyWatch.first_fresh.Given as goal

abbrev pub invariant-loop-source : goal.invariant-loop-source
invariant-loop-source l = filter (λ c. is_wanted l.usable l.tables l.label c.1) (all_fresh l.tables l.self l.label (take l.source-index l.source-items)) ≡ []
