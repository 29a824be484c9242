-- Why no certificate was found, as numbers.
use Rattle.std.specs.Prelude.{ℕ}
use Rattle.dc_find.specs.declared.fault.FindFault.{FindFault}
use Rattle.dc_find.specs.declared.fault.FindFault.TheVariants.{WindowNeverCloses, QueueTooShort, LabelRule, Memory as NoMemory}
use Rattle.dc_find.specs.declared.fault.Queue.TheVariants.{Input, Output}
use Rattle.dc_engine.specs.Answers.{condition_number, report_of}
use Rattle.dc_engine.specs.declared.fault.OpenFault.TheVariants.{Memory as OutOfMemory, Tables as OfTables}
use Rattle.dc_engine.specs.declared.fault.Report.{Report}
use Rattle.dc_texts.specs.declared.fault.NotFound.{NotFound}
use Rattle.dc_texts.specs.declared.fault.NotFound.TheVariants.{Memory, Tables, Obstacle}

-- what stands in the way at a member of a list: `F`, its code as F1 to F3, the list, the member, and of F3 the condition
abbrev pub obstructed : (code place index window : ℕ) → Report
obstructed code place index window = record { kind = 70; code = code; place = place; window = window; index = index }

-- what stands in the way
abbrev pub obstacle_report : FindFault → Report
obstacle_report (WindowNeverCloses (Input b)) = obstructed 1 1 b 0
obstacle_report (WindowNeverCloses (Output o)) = obstructed 1 2 o 0
obstacle_report (QueueTooShort b) = obstructed 2 1 b 0
obstacle_report (LabelRule x condition) = obstructed 3 3 x (condition_number condition)
obstacle_report NoMemory = report_of OutOfMemory

-- why no certificate was found
abbrev pub not_found_report : NotFound → Report
not_found_report Memory = report_of OutOfMemory
not_found_report (Tables fault) = report_of (OfTables fault)
not_found_report (Obstacle fault) = obstacle_report fault
