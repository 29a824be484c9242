use Rattle.dc_margin.proofs.Law.{window-kept, delay-kept, soon-kept, late-kept, age_limit-kept, closing-kept, backlog-kept, queue-kept, delay_limit-kept}
use Rattle.dc_margin.proofs.laws.negative_where_it_fails.Goals as goal

pub returns : goal.returns
returns c = record { window = window-kept; closes = closing-kept; backlog = backlog-kept; queue = queue-kept; delay_limit = delay_limit-kept; delay = delay-kept; soon = soon-kept; late = late-kept; age_limit = age_limit-kept }
