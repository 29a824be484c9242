use Rattle.std.proofs.Common.{◌∙◌, ◌||◌, ℕ, Bool, ap, refl, sym}
use Rattle.dc_run_survey.specs.Lines.{any_below, is_broken}
use Rattle.dc_survey.specs.States.{wire_state_of}
use Rattle.dc_run_survey.proofs.Parting.{any-more}
use Rattle.dc_run_survey.proofs.engine.breaks_wires.Goals as goal

pub loop-bus-init : goal.loop-bus-init
unfolding any_below
loop-bus-init c = refl

pub loop-bus-preserved : goal.loop-bus-preserved
loop-bus-preserved c =
    let test : ℕ → Bool = λ b. is_broken (wire_state_of c.args.tables.now c.args.survey.now b) in
    ap (λ b. b || c.is_broken-broken.result) c.loop-bus.invariant ∙ ap (λ b. any_below test c.loop-bus.bus || b) c.is_broken-broken.ensures ∙ sym (any-more test c.loop-bus.bus)
