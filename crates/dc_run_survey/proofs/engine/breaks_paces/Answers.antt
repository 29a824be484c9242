use Rattle.std.proofs.Common.{◌∙◌, ◌||◌, ◌&&◌, ℕ, Bool, not, ap, refl, sym}
use Rattle.dc_run_survey.specs.Lines.{any_below, is_early}
use Rattle.dc_survey.specs.States.{pace_state_of}
use Rattle.dc_tables.specs.TableRows.{is_policed, stream_row}
use Rattle.dc_run_survey.proofs.Parting.{any-more}
use Rattle.dc_run_survey.proofs.engine.breaks_paces.Goals as goal

pub loop-stream-init : goal.loop-stream-init
unfolding any_below
loop-stream-init c = refl

pub loop-stream-preserved : goal.loop-stream-preserved
loop-stream-preserved c =
    let t = c.args.tables.now in
    let test : ℕ → Bool = λ s. not (is_policed t (stream_row t s).bus) && is_early (pace_state_of c.args.survey.now s) in
    ap (λ b. b || c.is_early-early.result) c.loop-stream.invariant ∙ ap (λ b. any_below test c.loop-stream.stream || b) c.is_early-early.ensures ∙ sym (any-more test c.loop-stream.stream)
