-- What `explain` answers: a page, whose words no clause says.
use Rattle.std.specs.Prelude.{◌≡◌, ℕ, List, Option}
use Rattle.dc_answer.specs.Answer.{Answer, Reported, WholeOrNone, one_line}
use Rattle.dc_answer.specs.Exits.{is_answered}
use Rattle.dc_answer.specs.declared.exit.Exit.{Exit}
use Rattle.dc_answer.specs.declared.exit.Outcome.TheVariants.{Done}

-- some page, and done
abbrev pub IsPage : Answer → Type 0
IsPage answer = (page : List ℕ) × (answer ≡ one_line page Done)

-- what `explain` reports, which has no source, where its sink failed so often before and after it
abbrev pub ReportsExplain : Option (List ℕ) → Option (List ℕ) → ℕ → ℕ → Exit → Type 0
ReportsExplain old new sink sink' exit = Reported (WholeOrNone IsPage (is_answered exit)) old new 0 0 sink sink' exit
