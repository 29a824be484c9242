use Rattle.dc_busy.proofs.numbers.least_numbers.Given as goal

abbrev pub ghosts-numbers_of : goal.ghosts-numbers_of
ghosts-numbers_of g a = record { floor = g.S.ServiceBound.floor a.service.now; window = a.window }
