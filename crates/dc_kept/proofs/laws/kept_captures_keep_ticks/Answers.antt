use Rattle.dc_kept.proofs.laws.kept_captures_keep_ticks.Goals as goal

pub returns : goal.returns
returns c = λ us timings are clock paced fits run placed keeps.
    c.sources_keep_ticks.ensures us clock paced fits run placed (c.kept_captures_keep_time.ensures us timings are run keeps)
