-- Where the files of a system stand.
use Rattle.std.specs.Prelude.{ℕ, List, [], unwrap_or}
use Rattle.std.specs.Path.{path_join, path_parent}

-- the folder of the file of this name; none where it has none
abbrev pub folder_of : List ℕ → List ℕ
folder_of path = unwrap_or (path_parent path) []

-- the name of a file that a text in this folder names: as it is where it begins with a slash, else behind the folder's
abbrev pub path_of : (folder name : List ℕ) → List ℕ
path_of folder name = path_join folder name
