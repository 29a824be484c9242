use Rattle.dc_run_design.proofs.judged.certify.Goals as goal

pub returns-in-Ok-certify_written : goal.returns-in-Ok-certify_written
returns-in-Ok-certify_written c =
    let of = c.in-Ok-certify_written.ensures in
    record { written = c.in-Ok.written; read = c.in-Ok.ensures; least = of.least; claimed = of.claimed; kept = of.kept }
