-- How a certificate is printed: the JSON value that it is, in the compact form, and a line feed.
use Rattle.std.specs.Prelude.{ℕ, List, [], ◌∷◌, ◌++◌, codes, map}
use Rattle.serde_json.specs.Data.{Data, number, unsigned, string, array, object, no_members, member}
use Rattle.serde_json.specs.View.{items_of}
use Rattle.serde_json.specs.Written.{compact_text}
use Rattle.dc_cert.specs.NamedRows.{NamedInput, NamedOutput, NamedLabel, NamedRows}

-- a row, with its keys in the order of their bytes

-- the row of a bus: its backlog in words, its delay and window in ticks
abbrev pub input_data : NamedInput → Data
input_data claim = object
    (member (codes "backlog") (number (unsigned claim.backlog))
    (member (codes "bus") (string claim.bus)
    (member (codes "delay") (number (unsigned claim.delay))
    (member (codes "window") (number (unsigned claim.window)) no_members))))

-- the row of an output: its delay and window in ticks
abbrev pub output_data : NamedOutput → Data
output_data claim = object
    (member (codes "delay") (number (unsigned claim.delay))
    (member (codes "output") (string claim.output)
    (member (codes "window") (number (unsigned claim.window)) no_members)))

-- the row of a label: its age in ticks
abbrev pub label_data : NamedLabel → Data
label_data claim = object
    (member (codes "age") (number (unsigned claim.age))
    (member (codes "label") (string claim.label) no_members))

-- a certificate, likewise
abbrev pub claims_data : NamedRows → Data
claims_data claims = object
    (member (codes "inputs") (array (items_of (map input_data claims.inputs)))
    (member (codes "labels") (array (items_of (map label_data claims.labels)))
    (member (codes "outputs") (array (items_of (map output_data claims.outputs)))
    (member (codes "version") (number (unsigned 1)) no_members))))

-- the text of a certificate
unfoldable pub claims_text : NamedRows → List ℕ
claims_text claims = compact_text (claims_data claims) ++ 10 ∷ []
