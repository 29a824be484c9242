-- How a text is read, line by line.
use Rattle.std.specs.Prelude.{◌≡◌, ℕ, ◌+◌, List, ◌∷◌, ◌++◌, drop, length, Result, Ok, Err, false}
use Rattle.dc_cert.specs.Bounds.{CertificateRows}
use Rattle.dc_device.specs.Lines.{NoFeed, lines_of}
use Rattle.dc_seen.specs.Said.{SeenRows, followed, lines_said, seen_all, too_long}
use Rattle.dc_seen.specs.declared.fault.SeenFault.{SeenFault}
use Rattle.dc_seen.specs.declared.fault.SeenRule.{SeenRule}
use Rattle.dc_seen.specs.declared.fault.Unread.{Unread}
use Rattle.dc_seen.specs.declared.fault.Unread.TheVariants.{Refused, Memory}
use Rattle.dc_seen.specs.declared.lines.Place.{Place}
use Rattle.dc_seen.specs.declared.seen.Seen.{Seen}
use Rattle.dc_tables.specs.TableRows.{TableRows}

-- what is said from a place of a text on
unfoldable pub said_from : TableRows → CertificateRows → List ℕ → Place → Result SeenRows SeenFault
said_from t c text place = lines_said t c place.before place.lines (lines_of (drop place.before text)).0 (lines_of (drop place.before text)).1

-- a line behind so many bytes of a text stands whole, within the limits
pub record IsWhole (before : ℕ) (text line : List ℕ) : Type 0 where
  pub begins : drop before text ≡ line ++ 10 ∷ drop (length line + 1) (drop before text)
  pub plain : NoFeed line
  pub fits : too_long before (length line) (length line + 1) ≡ false

-- a rule, broken by the line behind so many others
abbrev pub line_fault : ℕ → SeenRule → SeenFault
line_fault k rule = record { rule = rule; line = k + 1 }

-- the line behind so many bytes breaks a rule, whatever it says
abbrev pub IsRefused : (before : ℕ) → List ℕ → SeenRule → Type 0
IsRefused before text rule = (t : TableRows) (c : CertificateRows) (k : ℕ) → said_from t c text (record { before = before; lines = k }) ≡ Err (line_fault k rule)

-- The line at a place says the numbers of these rows, and what is said from there on is these and what is said behind it; or it has the first
-- fault.
abbrev pub TellsRow : {X : Type 0} → TableRows → CertificateRows → List ℕ → Place → (X → SeenRows) → Result (X × Place) SeenFault → Type 0
TellsRow t c text from rows (Ok told) = said_from t c text from ≡ followed (Ok (rows told.0)) (said_from t c text told.1)
TellsRow t c text from rows (Err fault) = said_from t c text from ≡ Err fault

-- the same of several lines, from a place to another
abbrev pub TellsRows : {X : Type 0} → TableRows → CertificateRows → List ℕ → (from to : Place) → (X → SeenRows) → Result X Unread → Type 0
TellsRows t c text from to rows (Ok x) = said_from t c text from ≡ followed (Ok (rows x)) (said_from t c text to)
TellsRows t c text from to rows (Err (Refused fault)) = said_from t c text from ≡ Err fault
TellsRows t c text from to rows (Err Memory) = Unit {0}

-- the numbers that were read
abbrev pub seen_rows : Seen → SeenRows
seen_rows seen = seen_all seen.inputs.items seen.outputs.items seen.labels.items

-- these numbers, or this fault, are what is said; memory may be refused with any text
abbrev pub IsAnswer : Result SeenRows SeenFault → Result Seen Unread → Type 0
IsAnswer said (Ok seen) = said ≡ Ok (seen_rows seen)
IsAnswer said (Err (Refused fault)) = said ≡ Err fault
IsAnswer said (Err Memory) = Unit {0}
