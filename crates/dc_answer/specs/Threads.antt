-- What a command reports where a thread could not be started.
use Rattle.std.specs.Prelude.{◌≡◌, ℕ, ◌<◌, List, [], ◌∷◌, Option, codes}
use Rattle.std.specs.Io.KnownBytes.{Appends}
use Rattle.dc_answer.specs.declared.exit.Exit.{Exit}
use Rattle.dc_answer.specs.declared.exit.Exit.TheVariants.{Failed}
use Rattle.dc_device.specs.Bytes.{AppendsFront}
use Rattle.dc_device.specs.Lines.{spelled}

-- the one line
abbrev pub threads_lines : List (List ℕ)
threads_lines = codes "failed threads" ∷ []

-- That line and nothing else, or a front of it where a push failed, and the exit of a failure; no source has failed.
pub record ReportsThreads (old new : Option (List ℕ)) (sources sources' sink sink' : ℕ) (exit : Exit) : Type 0 where
  pub failed : exit ≡ Failed
  pub unfailed : sources' ≡ sources
  pub whole : sink' ≡ sink → Appends old new (spelled threads_lines)
  pub cut : sink < sink' → AppendsFront old new (spelled threads_lines)
