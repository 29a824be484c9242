-- The codes and words that the program prints, and what a text asks for.
use Rattle.std.specs.Prelude.{ℕ, Bool, true, List, [], ◌∷◌, ◌++◌, ◌&&◌, ◌||◌, bytes_eq, codes, map, not}
use Rattle.std.specs.List.{list_any}
use Rattle.std.specs.Char.{to_ascii_lowercase}
use Rattle.dc_codes.specs.declared.kind.Kind.{Kind}
use Rattle.dc_codes.specs.declared.kind.Kind.TheVariants.{Decoded, Failure, Table, Certificate, Condition, Finder, Trace, Reply, Step, Audit, Observed, Bench, Capture, Survey, System, Link}

-- the two texts are one in lower case, and so in upper case
abbrev pub is_same : List ℕ → List ℕ → Bool
is_same name text = bytes_eq (map to_ascii_lowercase name) (map to_ascii_lowercase text)

-- The text asks for the code of this name: in upper or lower case; a text of two signs may leave out the nought between them.
unfoldable pub asks_for : List ℕ → List ℕ → Bool
asks_for (letter ∷ digit ∷ []) name = is_same name (letter ∷ digit ∷ []) || is_same name (letter ∷ 48 ∷ digit ∷ [])
asks_for text name = is_same name text

-- these are codes of this
abbrev pub of_kind : Kind → List (List ℕ) → List (Kind × List ℕ)
of_kind kind names = map (λ name. (kind, name)) names

-- what is printed, in the order of docs/formats.md
abbrev pub listed : List (Kind × List ℕ)
listed =
    of_kind Decoded (codes "E1" ∷ codes "E6" ∷ codes "E5" ∷ [])
    ++ of_kind Failure (codes "device" ∷ codes "memory" ∷ codes "threads" ∷ [])
    ++ of_kind Table (codes "T01" ∷ codes "T02" ∷ codes "T03" ∷ codes "T04" ∷ codes "T05" ∷ codes "T06" ∷ codes "T07" ∷ codes "T08" ∷ codes "T09" ∷ codes "T10" ∷ codes "T11" ∷ codes "T12" ∷ codes "T13" ∷ codes "T14" ∷ codes "T15" ∷ codes "T16" ∷ codes "T17" ∷ codes "T18" ∷ codes "T19" ∷ codes "T20" ∷ codes "T21" ∷ codes "T22" ∷ codes "T23" ∷ codes "T24" ∷ [])
    ++ of_kind Certificate (codes "K1" ∷ codes "K2" ∷ codes "K3" ∷ codes "K4" ∷ codes "K5" ∷ codes "K6" ∷ [])
    ++ of_kind Condition (codes "C01" ∷ codes "C02" ∷ codes "C03" ∷ codes "C04" ∷ codes "C05" ∷ codes "C06" ∷ codes "C07" ∷ codes "C08" ∷ codes "C09" ∷ codes "C10" ∷ codes "C11" ∷ codes "C12" ∷ [])
    ++ of_kind Finder (codes "F1" ∷ codes "F2" ∷ codes "F3" ∷ [])
    ++ of_kind Trace (codes "E1" ∷ codes "E2" ∷ codes "E3" ∷ codes "E4" ∷ codes "E5" ∷ codes "E6" ∷ [])
    ++ of_kind Reply (codes "parity" ∷ codes "undeclared" ∷ codes "early" ∷ codes "overrun" ∷ codes "latched" ∷ codes "queued" ∷ codes "took" ∷ codes "empty" ∷ codes "idle" ∷ codes "tick" ∷ [])
    ++ of_kind Step (codes "spent" ∷ codes "early" ∷ codes "owed" ∷ codes "ticks" ∷ [])
    ++ of_kind Audit (codes "budgets" ∷ codes "sources" ∷ codes "claim" ∷ [])
    ++ of_kind Observed (codes "E1" ∷ codes "E2" ∷ codes "E3" ∷ codes "E4" ∷ codes "E5" ∷ codes "E6" ∷ [])
    ++ of_kind Bench (codes "hub" ∷ [])
    ++ of_kind Capture (codes "E1" ∷ codes "E6" ∷ codes "E3" ∷ codes "E7" ∷ codes "E4" ∷ codes "E5" ∷ codes "E8" ∷ [])
    ++ of_kind Survey (codes "broken" ∷ codes "early" ∷ codes "silent" ∷ [])
    ++ of_kind System (codes "N01" ∷ codes "N02" ∷ codes "N03" ∷ codes "N04" ∷ codes "N05" ∷ codes "N06" ∷ codes "N07" ∷ codes "N08" ∷ codes "N09" ∷ codes "N10" ∷ codes "N11" ∷ codes "N12" ∷ codes "N13" ∷ [])
    ++ of_kind Link (codes "N14" ∷ codes "N15" ∷ codes "N16" ∷ codes "N17" ∷ codes "N18" ∷ codes "N19" ∷ [])

-- the names alone
abbrev pub names : List (List ℕ)
names = map (λ (p : Kind × List ℕ). p.1) listed

-- the number of a kind
abbrev pub kind_number : Kind → ℕ
kind_number Decoded = 0
kind_number Failure = 1
kind_number Table = 2
kind_number Certificate = 3
kind_number Condition = 4
kind_number Finder = 5
kind_number Trace = 6
kind_number Reply = 7
kind_number Step = 8
kind_number Audit = 9
kind_number Observed = 10
kind_number Bench = 11
kind_number Capture = 12
kind_number Survey = 13
kind_number System = 14
kind_number Link = 15

-- no two of these are the same
abbrev pub each_once : List (List ℕ) → Bool
each_once [] = true
each_once (name ∷ rest) = not (list_any (is_same name) rest) && each_once rest

-- each code is listed once of its kind
abbrev pub listed_once : List (Kind × List ℕ) → Bool
listed_once places = each_once (map (λ (p : Kind × List ℕ). kind_number p.0 ∷ p.1) places)
