use Rattle.dc_capture.proofs.CaptureSteps.{fits_more, next_word_reported, next_refused_reported}
use Rattle.dc_capture.proofs.capture_lines.CaptureLines.advance.Goals as goal

pub invariant_of-self : goal.invariant_of-self
invariant_of-self c =
    fits_more c.self.inside.stopped c.self.inside.line.items c.read_next.new.line.items c.self.inside.reader c.read_next.new.reader c.self.inside.number
    c.in_default.is c.self.invariant c.in_err-word.ensures.reads

pub returns-in-Ok-clause-reported : goal.returns-in-Ok-clause-reported
returns-in-Ok-clause-reported c = λ coming.
    next_word_reported _ c.self.inside.stopped c.self.inside.buses c.self.inside.line.items c.read_next.new.line.items c.self.inside.reader c.read_next.new.reader
    c.self.inside.number c.self.inside.latest c.in-Ok.word _ coming c.self.view_is c.in_default.is c.self.invariant c.in_ok-word.ensures.reads c.in-Ok.is

pub returns-in-Err-clause-reported : goal.returns-in-Err-clause-reported
returns-in-Err-clause-reported c = λ coming.
    next_refused_reported _ c.self.inside.stopped c.self.inside.buses c.self.inside.line.items c.read_next.new.line.items c.self.inside.reader c.read_next.new.reader c.self.inside.number
    c.self.inside.latest c.in-Err.rule _ coming _ c.fault-refused.result c.self.view_is c.fault-refused.ensures c.in_default.is c.self.invariant c.in_ok-word.ensures.reads c.in-Err.is
