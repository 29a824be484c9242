-- The code of what stands in the way, as it is printed.
use Rattle.std.specs.Prelude.{ℕ, List, codes}
use Rattle.dc_find.specs.declared.fault.Obstacle.{Obstacle}
use Rattle.dc_find.specs.declared.fault.Obstacle.TheVariants.{NoWindowCloses, QueueTooSmall, LabelRuleBroken}

-- the code of an obstacle: F1 to F3
abbrev pub obstacle_code : Obstacle → List ℕ
obstacle_code NoWindowCloses = codes "F1"
obstacle_code QueueTooSmall = codes "F2"
obstacle_code LabelRuleBroken = codes "F3"
