-- The links of a system by the numbers of their ends.
use Rattle.std.specs.Prelude.{ℕ, Bool, List, length, map, position, unwrap_or}
use Rattle.std.specs.Str.{bytes_eq}
use Rattle.dc_document.specs.Names.{number_of}
use Rattle.dc_order.specs.declared.hop.Hop.{Hop}
use Rattle.dc_system_text.specs.System.{ConcentratorRow, SystemRows}
use Rattle.dc_system_text.specs.declared.parts.LinkText.{LinkText}
use Rattle.dc_ways.specs.Members.{MemberRows, rows_of}
use Rattle.dc_ways.specs.declared.connection.Connection.{Connection}

-- whether a concentrator has this name
abbrev pub is_named : List ℕ → ConcentratorRow → Bool
is_named name c = bytes_eq name c.name

-- the number of the concentrator of this name; one past the last where there is none
abbrev pub number_in : List ConcentratorRow → List ℕ → ℕ
number_in cs name = unwrap_or (position (is_named name) cs) (length cs)

-- from where to where a link leads
abbrev pub hop_of : List ConcentratorRow → LinkText → Hop
hop_of cs l = record { from = number_in cs l.from.concentrator; to = number_in cs l.to.concentrator }

abbrev pub hops_in : SystemRows → List Hop
hops_in s = map (hop_of s.concentrators) s.links

-- a link by its numbers: an output or a bus that is not there is one past the last
abbrev pub connection_of : List ConcentratorRow → List MemberRows → LinkText → Connection
connection_of cs members l =
    let from = rows_of members (number_in cs l.from.concentrator) in
    let to = rows_of members (number_in cs l.to.concentrator) in
    record {
      from = number_in cs l.from.concentrator;
      to = number_in cs l.to.concentrator;
      output = unwrap_or (number_of from.names.outputs l.from.port) (length from.outputs);
      bus = unwrap_or (number_of to.names.buses l.to.port) (length to.buses);
      least_us = l.least_us;
      most_us = l.most_us;
    }

abbrev pub connections_in : SystemRows → List MemberRows → List Connection
connections_in s members = map (connection_of s.concentrators members) s.links
