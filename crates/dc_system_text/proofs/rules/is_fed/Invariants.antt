use Rattle.std.proofs.Common.{◌≡◌, drop}
use Rattle.std.specs.List.{list_any}
use Rattle.dc_system_text.specs.System.{feed_one}
use Rattle.dc_system_text.proofs.rules.is_fed.Given as goal

-- what is left decides
abbrev pub invariant-loop-one : goal.invariant-loop-one
invariant-loop-one l = list_any (feed_one l.link) (drop l.one-index l.links) ≡ list_any (feed_one l.link) l.links
