-- How the words of a command line are carried out.
use Rattle.std.specs.Prelude.{ℕ, List}
use Rattle.dc_answer.specs.Judging.{Leaves}
use Rattle.dc_answer.specs.declared.exit.Exit.{Exit}
use Rattle.dc_command.specs.Asked.{AsksIn}
use Rattle.dc_command.specs.declared.asked.Order.{Order}
use Rattle.dc_device.specs.States.{SinkState, SourceState}
use Rattle.dc_program.specs.Carries.{Carries}
use Rattle.dc_program.specs.Headline.{DecidesFiles}
use Rattle.dc_program.specs.Orders.{AsksInput}
use Rattle.dc_program.specs.World.{WorldState}

-- They ask an order, and it was carried out.
pub record CarriesOut (words : List (List ℕ)) (w w' : WorldState) (input input' : SourceState) (sink sink' : SinkState) (exit : Exit) : Type 0 where
  pub order : Order
  pub asked : AsksIn words order
  pub carries : Carries order w w' input input' sink sink' exit
  pub decides : DecidesFiles order w sink sink' exit
  pub asks : AsksInput order input input'
  pub left : Leaves sink sink'
