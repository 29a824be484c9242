use Rattle.dc_busy.proofs.least.least_delay.Given as goal

abbrev pub ghosts-smallest_delay : goal.ghosts-smallest_delay
ghosts-smallest_delay g a = record { floor = g.S.ServiceBound.floor a.service.now; window = a.window }
