use Rattle.dc_embed.proofs.margins.dc429_margins.Goals as goal

pub returns : goal.returns
returns c = record { printed = c.margins_text.result; is = c.margins_text.ensures; told = c.tell.ensures }
