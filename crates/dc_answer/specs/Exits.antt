-- What a command ends with.
use Rattle.std.specs.Prelude.{ℕ, Bool, true, false, Result, Ok, Err}
use Rattle.dc_answer.specs.declared.answer.Failure.{Failure}
use Rattle.dc_answer.specs.declared.exit.Exit.{Exit}
use Rattle.dc_answer.specs.declared.exit.Exit.TheVariants.{Done, Refused, Unreadable, Failed}
use Rattle.dc_answer.specs.declared.exit.Outcome.{Outcome}
use Rattle.dc_answer.specs.declared.exit.Outcome.TheVariants.{Done as WasDone, Refused as WasRefused, Unreadable as WasUnreadable}

-- the exit status of the process
abbrev pub exit_code : Exit → ℕ
exit_code Done = 0
exit_code Refused = 1
exit_code Unreadable = 2
exit_code Failed = 3

-- the exit of an engine whose answer was written whole
abbrev pub exit_with : Outcome → Exit
exit_with WasDone = Done
exit_with WasRefused = Refused
exit_with WasUnreadable = Unreadable

-- the exit of an engine that ended so
abbrev pub exit_of : Result Outcome Failure → Exit
exit_of (Ok outcome) = exit_with outcome
exit_of (Err failure) = Failed

-- whether an engine got to its end
abbrev pub is_whole : Result Outcome Failure → Bool
is_whole (Ok outcome) = true
is_whole (Err failure) = false

-- whether a command did
abbrev pub is_answered : Exit → Bool
is_answered Failed = false
is_answered exit = true
