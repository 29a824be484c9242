-- What files in memory hold.
use Rattle.std.specs.Prelude.{ℕ, if◌then◌else◌, List, Option, Some, None}
use Rattle.std.specs.Str.{bytes_eq}
use Rattle.dc_program.specs.declared.memory.MemFile.{MemFile}

-- the text of this file under its name, and of other files what they hold
abbrev pub held_by : MemFile → (List ℕ → Option (List ℕ)) → List ℕ → Option (List ℕ)
held_by file others name = if bytes_eq file.name.now name then Some file.text.now else others name

-- the same of this file where there is one
abbrev pub held_where_given : Option MemFile → (List ℕ → Option (List ℕ)) → List ℕ → Option (List ℕ)
held_where_given None others = others
held_where_given (Some file) others = held_by file others
