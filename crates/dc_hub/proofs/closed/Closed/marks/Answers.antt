use Rattle.std.proofs.Common.{rules, ◌≡◌, ◌<◌, get_or, subst, length, if◌then◌else◌, max, ap, sym, ◌∙◌}
use Rattle.std.proofs.lemmas.List.{get_or-replicate}
use Rattle.dc_event.specs.declared.event.Actor.TheVariants.{Wire}
use Rattle.dc_hub.specs.Closing.{is_by}
use Rattle.dc_hub.specs.Entries.{backlog_of}
use Rattle.dc_hub.specs.Views.{ClosedView}
use Rattle.dc_hub.proofs.Tallies.{mark-more}
use Rattle.dc_hub.proofs.closed.Closed.marks.Goals as goal

pub loop-i-init : goal.loop-i-init
loop-i-init c = λ bus below. get_or-replicate 64 bus 0 0 below

pub loop-i-preserved : goal.loop-i-preserved
loop-i-preserved c = λ bus below.
    let there = subst (λ (x : ClosedView). c.index.result.now ≡ get_or x.entries c.loop-i.i c.index.result.now) c.self.view_is c.index.ensures in
    let inside : c.loop-i.i < length c.args.self.now.entries = search rules in
    c.raise.ensures bus below
    ∙ ap (λ m. if is_by (Wire bus) c.index.result.now.event then max m (backlog_of c.index.result.now.reply) else m) (c.loop-i.invariant bus below)
    ∙ sym (mark-more (Wire bus) c.args.self.now.entries c.loop-i.i c.index.result.now inside there)
