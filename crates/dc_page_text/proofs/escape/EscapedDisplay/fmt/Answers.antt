use Rattle.std.proofs.Common.{rules, sym, ap, ◌∙◌, ◌++◌}
use Rattle.std.proofs.Output.{has_written_append, has_written_of_eq}
use Rattle.std.proofs.lemmas.Iterator.{YieldsList-from_chars}
use Rattle.std.proofs.lemmas.Iterator.Consumers.{YieldsList-end}
use Rattle.dc_page_text.specs.Text.{entity, escaped}
use Rattle.dc_page_text.proofs.Texts.{escaped-more, map-same, none-written}
use Rattle.dc_page_text.proofs.escape.EscapedDisplay.fmt.Goals as goal

pub loop-letter-init : goal.loop-letter-init
loop-letter-init g c = λ plain. none-written g.W.Write.write_str_gives c.args.f.now plain

pub loop-letter-preserved : goal.loop-letter-preserved
loop-letter-preserved g c = λ plain.
    let before = c.loop-letter.invariant plain in
    has_written_of_eq _ _ _ _ _ (ap (λ z. escaped c.loop-letter.yielded ++ entity z) c.shown.ensures ∙ escaped-more c.loop-letter.yielded c.in-Some.letter)
    (has_written_append _ _ _ _ _ _ before (c.write.ensures.writes before.plain (search rules)))

pub returns-clause-writes : goal.returns-clause-writes
returns-clause-writes g c = λ plain ok.
    let all = YieldsList-end (YieldsList-from_chars c.args.self.now.0.now (search rules) (search rules)) c.loop-letter.yielded _ c.loop-letter.yielded_by _ _ c.in-None.is c.next.ensures.steps in
    has_written_of_eq _ _ _ _ _ (ap escaped (sym (map-same c.loop-letter.yielded) ∙ all.0)) (c.loop-letter.invariant plain)
