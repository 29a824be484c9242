use Rattle.dc_embed.proofs.margins.dc429_least_margins.Goals as goal

pub returns : goal.returns
returns c = record { printed = c.least_margins_text.result; is = c.least_margins_text.ensures; told = c.tell.ensures }
