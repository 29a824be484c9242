use Rattle.dc_seen.proofs.fields.+field.Given as goal

abbrev pub decreases-field : goal.decreases-field
decreases-field l = l.place
