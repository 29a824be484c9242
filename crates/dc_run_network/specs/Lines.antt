-- The lines of a network.
use Rattle.std.specs.Prelude.{ℕ, zero, suc, ◌<◌, List, [], ◌∷◌, ◌++◌, length, codes, decimal, slice_index_or}
use Rattle.dc_document.specs.Names.{text_of}
use Rattle.dc_event.specs.ReplyText.{name_at}
use Rattle.dc_system_text.specs.System.{ConcentratorRow}
use Rattle.dc_system_text.specs.declared.fault.SystemFault.{SystemFault}
use Rattle.dc_system_text.specs.declared.fault.SystemPart.{SystemPart}
use Rattle.dc_system_text.specs.declared.fault.SystemPart.TheVariants.{Top, Concentrator, Link as OfLink}
use Rattle.dc_tables.specs.TableRows.{TableRows}
use Rattle.dc_ways.specs.Members.{MemberRows, rows_of, ways_in}
use Rattle.dc_ways.specs.declared.fitting.LinkFault.{LinkFault}
use Rattle.dc_ways.specs.declared.fitting.LinkFault.TheVariants.{NoEnd, Speeds, Stream}
use Rattle.dc_run_network.specs.Codes.{system_code, stream_code}

-- ---- what is refused

-- the place of a fault of a system's text: the top has no number
abbrev pub place_text : SystemPart → ℕ → List ℕ
place_text Top index = codes "top"
place_text Concentrator index = codes "concentrator " ++ decimal index
place_text OfLink index = codes "link " ++ decimal index

-- as `unreadable N10 at link 0`
abbrev pub system_text : SystemFault → List ℕ
system_text f = codes "unreadable " ++ system_code f.rule ++ codes " at " ++ place_text f.part f.index

-- of the first concentrator that is on a ring
abbrev pub ring_text : ℕ → List ℕ
ring_text index = codes "unreadable N13 at concentrator " ++ decimal index

-- what is told of a concentrator of this name, as `at AFT refused C06 input A window 1`
abbrev pub at_text : (name line : List ℕ) → List ℕ
at_text name line = codes "at " ++ text_of name ++ codes " " ++ line

-- of link k, as `refused N14 link 0` or `refused N18 link 0 stream IAS`, where these are the tables to whose bus it leads
abbrev pub link_text : TableRows → (k : ℕ) → LinkFault → List ℕ
link_text t k NoEnd = codes "refused N14 link " ++ decimal k
link_text t k Speeds = codes "refused N15 link " ++ decimal k
link_text t k (Stream s rule) = codes "refused " ++ stream_code rule ++ codes " link " ++ decimal k ++ codes " stream " ++ name_at t.names.streams s

-- the stream that it names, if any, is there
abbrev pub IsPlaced : TableRows → LinkFault → Type 0
IsPlaced t NoEnd = Unit {0}
IsPlaced t Speeds = Unit {0}
IsPlaced t (Stream s rule) = s < length t.streams

-- ---- what is accepted

-- as `accepted concentrators 3 links 2`
abbrev pub accepted_text : (concentrators links : ℕ) → List ℕ
accepted_text concentrators links = codes "accepted concentrators " ++ decimal concentrators ++ codes " links " ++ decimal links

-- as `way AFT.IAS 50700`
abbrev pub way_text : (concentrator label : List ℕ) → (us : ℕ) → List ℕ
way_text concentrator label us = codes "way " ++ concentrator ++ codes "." ++ label ++ codes " " ++ decimal us

-- lines, each behind a line feed
abbrev pub fed : List (List ℕ) → List ℕ
fed [] = []
fed (line ∷ lines) = 10 ∷ line ++ fed lines

-- the lines of the first n labels of a concentrator with these tables and ways
abbrev pub label_lines : (name : List ℕ) → TableRows → (ways : ℕ → ℕ) → ℕ → List (List ℕ)
label_lines name t ways zero = []
label_lines name t ways (suc n) = label_lines name t ways n ++ way_text (text_of name) (name_at t.names.labels n) (ways n) ∷ []

-- no concentrator
abbrev pub no_row : ConcentratorRow
no_row = record { name = []; tables = []; certificate = [] }

-- the name of concentrator i
abbrev pub name_of_row : List ConcentratorRow → ℕ → List ℕ
name_of_row cs i = (slice_index_or cs i no_row).name

-- the lines of the first n concentrators
abbrev pub way_lines : List ConcentratorRow → List MemberRows → List (List ℕ) → ℕ → List (List ℕ)
way_lines cs members rows zero = []
way_lines cs members rows (suc n) =
    way_lines cs members rows n ++ label_lines (name_of_row cs n) (rows_of members n) (ways_in rows n) (length (rows_of members n).labels)

-- all lines of a network that is accepted
abbrev pub accepted_lines : List ConcentratorRow → (links : ℕ) → List MemberRows → List (List ℕ) → List (List ℕ)
accepted_lines cs links members rows = accepted_text (length cs) links ∷ way_lines cs members rows (length cs)
