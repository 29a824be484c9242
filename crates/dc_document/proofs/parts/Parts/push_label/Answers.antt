use Rattle.std.proofs.Common.{length, sym, ap, ◌∙◌}
use Rattle.dc_document.proofs.Pushed.{member_pushed}
use Rattle.dc_document.proofs.parts.Parts.push_label.Goals as goal

pub invariant_of-self-2 : goal.invariant_of-self-2
invariant_of-self-2 c =
    record {
      streams = c.self.invariant.streams;
      labels = member_pushed (λ x. x.output) (length c.self.inside.outputs.items) c.self.inside.labels.items c.args.label c.push.new.self.items
          c.in_ok-push.ensures.items (c.requires ∙ ap (λ d. length d.outputs) (sym c.self.view_is)) c.self.invariant.labels;
    }
