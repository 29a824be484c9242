-- Laws on judged networks. Each is the contract of a function in `laws`.
use Rattle.std.specs.Prelude.{ℕ, List}
use Rattle.dc_ways.specs.Members.{MemberRows}
use Rattle.dc_ways.specs.declared.connection.Connection.{Connection}
use Rattle.dc_system.specs.declared.judging.NetworkFault.{NetworkFault}
use Rattle.dc_system.specs.Judged.{Stands, IsNetworkFault, IsMemory}

-- where a fault is found, and memory is not out, the network does not stand
abbrev pub FaultsExclude : Type 0
FaultsExclude = (members : List MemberRows) (connections : List Connection) (fault : NetworkFault) (rows : List (List ℕ)) → IsNetworkFault members connections fault → (IsMemory fault → ⊥) → Stands members connections rows → ⊥
