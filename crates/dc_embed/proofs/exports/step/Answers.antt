use Rattle.std.proofs.Common.{◌≡◌, Some, rules}
use Rattle.dc_engine.specs.Engine.{StepsOn}
use Rattle.dc_embed.proofs.Stepped.{stepped}
use Rattle.dc_embed.proofs.exports.step.Goals as goal

pub returns-in-Some : goal.returns-in-Some
returns-in-Some c =
    let taken : c.args.slot.now.handle.engine ≡ Some c.in-Some.engine.value = search rules in
    let steps : StepsOn c.in-Some.engine.value c.step-outcome.new.self c.args.event c.step-outcome.result = search rules in
    let put : c.put.new.slot.handle.engine ≡ Some c.step-outcome.new.self = search rules in
    stepped _ _ _ _ _ c.step-outcome.result _ _ taken put steps c.answer_to.ensures c.status-status.ensures
