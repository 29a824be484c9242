-- What a command line ends with that asks nothing.
use Rattle.clap.specs.declared.error.kind.ErrorKind.{ErrorKind}
use Rattle.clap.specs.declared.error.kind.ErrorKind.TheVariants.{DisplayHelp, DisplayVersion, OutOfMemory}
use Rattle.dc_answer.specs.declared.exit.Exit.{Exit}
use Rattle.dc_answer.specs.declared.exit.Exit.TheVariants.{Done, Unreadable, Failed}

-- by clap's answer: where help or the version was asked for, where memory was refused, and where the line is a wrong one
abbrev pub exit_by : ErrorKind → Exit
exit_by DisplayHelp = Done
exit_by DisplayVersion = Done
exit_by OutOfMemory = Failed
exit_by _ = Unreadable
