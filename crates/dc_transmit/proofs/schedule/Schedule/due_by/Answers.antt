use Rattle.std.proofs.Common.{◌%◌, ◌∙◌, leb, ap, rules}
use Rattle.std.proofs.lemmas.List.Sorted.{IsPartitionPoint-from_clause}
use Rattle.dc_tables.specs.declared.rows.Entry.{Entry}
use Rattle.dc_transmit.specs.Schedule.{due_count, off}
use Rattle.dc_transmit.proofs.Counting.{parted, due-found}
use Rattle.dc_transmit.proofs.schedule.Schedule.due_by.Goals as goal

pub returns-clause-due : goal.returns-clause-due
returns-clause-due c =
    let point = IsPartitionPoint-from_clause (λ (e : Entry). leb (off e) (c.args.tick % c.from-frame.result)) _ _ c.partition_point-in_frame.ensures.partitioned (parted c.self.inside.frame (c.args.tick % c.from-frame.result) c.self.inside.entries.now c.self.invariant.framed) (λ a r q k. search rules) in
    (due-found c.self.inside.frame c.from-frame.result c.self.inside.entries.now c.from-frame.ensures c.self.invariant.framed c.args.tick c.partition_point-in_frame.result c.partition_point-in_frame.ensures.bound point).0
    ∙ ap (λ s. due_count s c.args.tick) c.self.view_is

pub returns-clause-few : goal.returns-clause-few
returns-clause-few c =
    let point = IsPartitionPoint-from_clause (λ (e : Entry). leb (off e) (c.args.tick % c.from-frame.result)) _ _ c.partition_point-in_frame.ensures.partitioned (parted c.self.inside.frame (c.args.tick % c.from-frame.result) c.self.inside.entries.now c.self.invariant.framed) (λ a r q k. search rules) in
    (due-found c.self.inside.frame c.from-frame.result c.self.inside.entries.now c.from-frame.ensures c.self.invariant.framed c.args.tick c.partition_point-in_frame.result c.partition_point-in_frame.ensures.bound point).1
