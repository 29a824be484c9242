use Rattle.std.proofs.Common.{ap, ◌∙◌, Err}
use Rattle.dc_cert.proofs.ReadingLemmas.{list_short, list_long}
use Rattle.dc_cert.proofs.keys.list.Goals as goal

pub returns-then-values-gt-LIST_LIMIT : goal.returns-then-values-gt-LIST_LIMIT
returns-then-values-gt-LIST_LIMIT c = ap Err c.at-then-values-gt-LIST_LIMIT.ensures ∙ list_long _ c.in-Some.values.now c.in-Some.ensures c.if-values-gt-LIST_LIMIT.true

pub returns : goal.returns
returns c = list_short _ c.in-Some.values.now c.in-Some.ensures c.if-values-gt-LIST_LIMIT.false
