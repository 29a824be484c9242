use Rattle.std.proofs.Common.{◌≡◌, drop, find, map}
use Rattle.dc_codes.specs.Codes.{asks_for}
use Rattle.dc_codes.proofs.code.first_asked.Given as goal

abbrev pub invariant-loop-name : goal.invariant-loop-name
invariant-loop-name l =
    find (asks_for l.text) (map (λ p. p.1.now) (drop l.name-index l.listed)) ≡ find (asks_for l.text) (map (λ p. p.1.now) l.listed)
