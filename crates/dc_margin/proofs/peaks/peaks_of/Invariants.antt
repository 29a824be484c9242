use Rattle.dc_margin.proofs.peaks.peaks_of.Given as goal

abbrev pub ghosts-peaks_asked : goal.ghosts-peaks_asked
ghosts-peaks_asked g a = record { floor = g.S.ServiceBound.floor a.service.now; window = a.window }
