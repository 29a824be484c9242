use Rattle.std.proofs.Common.{◌≡◌, drop, take}
use Rattle.dc_rules.specs.Rules.{doubled, doubled_from}
use Rattle.dc_system_text.specs.System.{feed_one}
use Rattle.dc_system_text.proofs.rules.fed_twice.Given as goal

-- what is left decides, behind those before
abbrev pub invariant-loop-index : goal.invariant-loop-index
invariant-loop-index l = doubled_from feed_one (take l.index l.links) l.index (drop l.index l.links) ≡ doubled feed_one l.links
