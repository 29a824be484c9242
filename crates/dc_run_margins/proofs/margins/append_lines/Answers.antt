use Rattle.std.proofs.Common.{append-nil, refl, sym}
use Rattle.dc_run_margins.proofs.Feeding.{line-all, line-more}
use Rattle.dc_run_margins.specs.Objects.{margin_told}
use Rattle.dc_run_margins.proofs.margins.append_lines.Goals as goal

pub loop-own-init : goal.loop-own-init
loop-own-init c = sym (append-nil c.args.page.now)

pub loop-own-preserved : goal.loop-own-preserved
loop-own-preserved c =
    line-more (margin_told c.args.told c.args.tables.now) c.args.page.now c.loop-own.page c.append_line.new.page c.args.lines.now c.loop-own.own-index _
    c.loop-own-test.true c.loop-own.invariant c.in_ok-append_line.ensures

pub returns : goal.returns
returns c =
    line-all (margin_told c.args.told c.args.tables.now) c.args.page.now c.loop-own.page c.args.lines.now c.args.lines.now c.loop-own.own-index
    c.loop-own-test.false refl c.loop-own.invariant
