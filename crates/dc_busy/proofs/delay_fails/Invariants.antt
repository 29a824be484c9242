use Rattle.dc_busy.proofs.delay_fails.Given as goal

abbrev pub ghosts-first_overdue : goal.ghosts-first_overdue
ghosts-first_overdue g a = record { floor = g.S.ServiceBound.floor a.service.now; first = 1; backlog = 0; delay = a.delay }
