use Rattle.std.proofs.Common.{◌≡◌, ap, ◌∙◌, rules}
use Rattle.dc_document.specs.Document.{Document}
use Rattle.dc_rules.specs.Rules.{shape}
use Rattle.dc_rules.proofs.Telling.{tells_exact}
use Rattle.dc_rules.proofs.judge.check_shape.Goals as goal

pub returns : goal.returns
returns c =
    let same : c.in_ok-counted.counted.parts.now ≡ c.args.parts.now = search rules in
    tells_exact (shape c.args.parts.now) c.check_shape.result (c.check_shape.ensures ∙ ap (λ (d : Document). shape d) same)
