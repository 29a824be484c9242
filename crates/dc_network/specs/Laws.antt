-- Laws above networks. Each is the contract of a function in `laws`.
use Rattle.std.specs.Prelude.{◌≡◌, ℕ, ◌<◌, length}
use Rattle.dc_chain.specs.Concentrators.{KeepsClaims}
use Rattle.dc_network.specs.Networks.{Network, AreWays}
use Rattle.dc_network.specs.JointRuns.{IsSound, Running, HaveClocks, IsJointRun, running, SendsRecent}

-- In every joint run of a sound network, each by a clock of its own, each concentrator keeps its claims in microseconds, and each word that leaves a label is no computed data, or has the data
-- and the SSM of one that came to a bus that no link feeds less than the label's way before
abbrev pub NetworksKeepClaims : Type 0
NetworksKeepClaims = (n : Network) → IsSound n → (ways : ℕ → ℕ → ℕ) → AreWays n ways → (runs : ℕ → Running) → HaveClocks n runs → IsJointRun n runs → (i : ℕ) → i < n.size
    → KeepsClaims (running n runs i) × SendsRecent n runs ways i

-- A sound network has ways, and no others
abbrev pub WaysAreOne : Type 0
WaysAreOne = (n : Network) → IsSound n → ((ways : ℕ → ℕ → ℕ) × AreWays n ways) × ((u v : ℕ → ℕ → ℕ) → AreWays n u → AreWays n v → (i x : ℕ) → i < n.size → x < length (n.member i).rows.labels → u i x ≡ v i x)
