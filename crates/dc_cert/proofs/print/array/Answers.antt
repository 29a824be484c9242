use Rattle.dc_cert.proofs.PrintingLemmas.{one_more_row, one_more_fits, whole_array, all_fit}
use Rattle.dc_cert.proofs.print.array.Goals as goal

pub loop-row-preserved : goal.loop-row-preserved
loop-row-preserved g c =
    record {
      same = one_more_row g.R.Row.claim g.R.Row.printed c.loop-row.values.items _ c.in_ok-value.field-0 c.args.rows.now c.loop-row.row-index c.row-item.result
          c.loop-row.invariant.same c.in_ok-push.ensures.items c.in_ok-value.ensures.value c.row-item.is c.loop-row-test.true;
      fit = one_more_fits g.R.Row.claim g.R.Row.fits c.args.rows.now c.loop-row.row-index c.row-item.result
          c.loop-row.invariant.fit c.in_ok-value.ensures.fits c.row-item.is c.loop-row-test.true;
    }

pub returns-clause-value : goal.returns-clause-value
returns-clause-value g c = whole_array g.R.Row.claim g.R.Row.printed c.loop-row.values c.args.rows.now c.loop-row.row-index c.loop-row.invariant.same c.loop-row-test.false

pub returns-clause-fits : goal.returns-clause-fits
returns-clause-fits g c = all_fit g.R.Row.claim g.R.Row.fits c.args.rows.now c.loop-row.row-index c.loop-row.invariant.fit c.loop-row-test.false
