use Rattle.dc_busy.proofs.between.failures_between.Given as goal

abbrev pub ghosts-failures_asked : goal.ghosts-failures_asked
ghosts-failures_asked g a = record { floor = g.S.ServiceBound.floor a.service.now; first = a.first; backlog = a.backlog; delay = a.delay }
