use Rattle.std.proofs.Common.{◌∙◌, get_or, ap, arith}
use Rattle.dc_tables.specs.TableRows.{stream_row, label_row}
use Rattle.dc_tables.specs.declared.rows.OutputLabel.{OutputLabel}
use Rattle.dc_tables.specs.declared.rows.Stream.{Stream}
use Rattle.dc_oracle.specs.Life.{good_at, no_life}
use Rattle.dc_oracle.proofs.Judging.{good-is}
use Rattle.dc_oracle.proofs.sent_word.is_good.Goals as goal

pub is_good-requires : goal.is_good-requires
is_good-requires c =
    omega (arith, ap (λ (r : Stream). r.maximum) c.stream.ensures, c.valid.ensures.minimums c.args.source c.requires.source, c.valid.ensures.maximums c.args.source c.requires.source)

pub returns : goal.returns
returns c = λ now h clock.
    good-is c.args.tables.now c.valid.ensures c.args.arrivals.now c.args.label c.args.source now c.requires.source h c.is_good.result
    (c.is_good.ensures
    ∙ ap (λ (r : Stream). good_at r.maximum c.label-row.result.now.format c.label-row.result.now.stale c.args.tick c.life-life.result) c.stream.ensures
    ∙ ap (λ (r : OutputLabel). good_at (stream_row c.args.tables.now c.args.source).maximum r.format r.stale c.args.tick c.life-life.result) c.label-row.ensures
    ∙ ap (good_at (stream_row c.args.tables.now c.args.source).maximum (label_row c.args.tables.now c.args.label).format (label_row c.args.tables.now c.args.label).stale c.args.tick) c.life-life.ensures
    ∙ ap (λ n. good_at (stream_row c.args.tables.now c.args.source).maximum (label_row c.args.tables.now c.args.label).format (label_row c.args.tables.now c.args.label).stale n (get_or c.args.arrivals.now.lives.items c.args.source no_life)) clock)
