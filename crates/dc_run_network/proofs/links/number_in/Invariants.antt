use Rattle.std.proofs.Common.{◌≡◌, ◌+◌, drop}
use Rattle.std.specs.List.{position_or_len}
use Rattle.dc_run_network.specs.Links.{is_named, number_in}
use Rattle.dc_run_network.proofs.links.number_in.Given as goal

-- what is left decides
abbrev pub invariant-loop-number : goal.invariant-loop-number
invariant-loop-number l = l.number + position_or_len (is_named l.name) (drop l.number l.concentrators) ≡ number_in l.concentrators l.name
