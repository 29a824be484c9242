use Rattle.std.proofs.Common.{Some, ◌&&◌, refl, ap, sym, ◌∙◌}
use Rattle.dc_check.specs.Verdict.{is_delay}
use Rattle.dc_margin.proofs.Told.{backlog-told, delay-told, told-there}
use Rattle.dc_margin.specs.Margins.{told, backlog_margin_of, delay_margin_of}
use Rattle.dc_margin.proofs.queues.peak_margins.Goals as goal

pub returns : goal.returns
returns g c =
    let cap = g.A.ArrivalBound.cap c.args.arrivals.now in
    let floor = g.S.ServiceBound.floor c.args.service.now in
    let found = c.peaks_of-peaks.ensures in
    record {
      backlog =
          ap (λ m. Some m) (c.backlog_margin-backlog.ensures ∙ backlog-told cap floor c.args.window c.args.backlog c.peaks_of-peaks.result.backlog.ticks c.peaks_of-peaks.result.backlog.height _ refl found.backlog)
          ∙ told-there _ (backlog_margin_of cap floor c.args.window c.args.backlog) (sym (c.if-not-in_range.ensures));
      delay =
          c.delay_margin.ensures
          ∙ ap (told (is_delay c.args.delay)) (delay-told cap floor c.args.window c.args.delay c.peaks_of-peaks.result.delay.ticks c.peaks_of-peaks.result.delay.height _ refl found.delay)
          ∙ ap (λ b. told (b && is_delay c.args.delay) (delay_margin_of cap floor c.args.window c.args.delay)) c.if-not-in_range.ensures;
    }
