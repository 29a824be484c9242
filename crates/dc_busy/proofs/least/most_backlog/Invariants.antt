use Rattle.dc_busy.proofs.least.most_backlog.Given as goal

abbrev pub ghosts-greatest_backlog : goal.ghosts-greatest_backlog
ghosts-greatest_backlog g a = record { floor = g.S.ServiceBound.floor a.service.now; window = a.window }
