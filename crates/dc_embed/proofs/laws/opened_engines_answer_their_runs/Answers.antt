use Rattle.dc_embed.proofs.Runs.{opened_answer}
use Rattle.dc_embed.proofs.laws.opened_engines_answer_their_runs.Goals as goal

pub returns : goal.returns
returns c = opened_answer c.answers_are_outputs.ensures c.claims_hold_for_the_calls.ensures
