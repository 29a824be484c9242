use Rattle.dc_busy.proofs.backlog_fails.Given as goal

abbrev pub ghosts-first_overfull : goal.ghosts-first_overfull
ghosts-first_overfull g a = record { floor = g.S.ServiceBound.floor a.service.now; first = 1; backlog = a.backlog; delay = 0 }
