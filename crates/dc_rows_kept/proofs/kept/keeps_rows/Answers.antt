use Rattle.std.proofs.Common.{rules}
use Rattle.dc_rows_kept.proofs.kept.keeps_rows.Goals as goal

pub returns-in-Some-first_unkept_output : goal.returns-in-Some-first_unkept_output
returns-in-Some-first_unkept_output c = (search rules, search rules, c.in-None.ensures, c.in-Some-first_unkept_output.ensures)

pub returns-in-None-first_unkept_output : goal.returns-in-None-first_unkept_output
returns-in-None-first_unkept_output c = record { streams = search rules; labels = search rules; inputs = c.in-None.ensures; outputs = c.in-None-first_unkept_output.ensures }
