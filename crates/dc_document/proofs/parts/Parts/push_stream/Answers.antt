use Rattle.std.proofs.Common.{length, sym, ap, ◌∙◌}
use Rattle.dc_document.proofs.Pushed.{member_pushed}
use Rattle.dc_document.proofs.parts.Parts.push_stream.Goals as goal

pub invariant_of-self-2 : goal.invariant_of-self-2
invariant_of-self-2 c =
    record {
      streams = member_pushed (λ s. s.bus) (length c.self.inside.buses.items) c.self.inside.streams.items c.args.stream c.push.new.self.items
          c.in_ok-push.ensures.items (c.requires ∙ ap (λ d. length d.buses) (sym c.self.view_is)) c.self.invariant.streams;
      labels = c.self.invariant.labels;
    }
