use Rattle.std.proofs.Common.{◌≡◌, ℕ, List, false, map, take, sym, ◌∙◌, subst}
use Rattle.std.specs.List.{list_any}
use Rattle.std.specs.Str.{bytes_eq}
use Rattle.dc_system_text.specs.System.{ConcentratorRow}
use Rattle.dc_system_text.specs.lemmas.Doubled.{doubled-step}
use Rattle.dc_system_text.proofs.rules.doubled_name.Goals as goal

pub loop-index-preserved : goal.loop-index-preserved
loop-index-preserved c =
    let x : ConcentratorRow = c.index-concentrators-index.result in
    let P : List ℕ → Type 0 = λ n. list_any (bytes_eq n) (map (λ (c : ConcentratorRow). c.name) (take c.loop-index.index c.args.concentrators.now)) ≡ false in
    let none = subst P c.name.ensures (sym c.if-is_there.ensures) in
    sym (doubled-step bytes_eq (λ (c : ConcentratorRow). c.name) c.args.concentrators.now c.loop-index.index c.index-concentrators-index.result c.loop-index-test.true c.index-concentrators-index.is none) ∙ c.loop-index.invariant
