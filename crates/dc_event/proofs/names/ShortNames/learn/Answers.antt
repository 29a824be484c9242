use Rattle.std.proofs.Common.{sym, ◌∙◌}
use Rattle.dc_event.proofs.FoundNames.{found_name}
use Rattle.dc_event.proofs.names.ShortNames.learn.Goals as goal

pub returns : goal.returns
returns c = λ names found named.
    let (letters, is) = c.in-Some-key_of_name.ensures in
    c.put.ensures names found (found_name names c.args.name.now c.in-Some-key_of_name.key c.in-Some.number letters is (sym named ∙ c.in-Some.is))
