-- Which certificates a text can say.
use Rattle.std.specs.Prelude.{◌^◌, ◌<◌, ◌≤◌, length, All}
use Rattle.dc_cert.specs.NamedRows.{NamedInput, NamedOutput, NamedLabel, NamedRows}
use Rattle.dc_cert.specs.declared.read.TheConstants.{LIST_LIMIT}
use Rattle.dc_document.specs.Names.{IsSpelled}

-- lists within their limit
pub record IsWithinLimits (claims : NamedRows) : Type 0 where
  pub few_inputs : length claims.inputs ≤ LIST_LIMIT
  pub few_outputs : length claims.outputs ≤ LIST_LIMIT
  pub few_labels : length claims.labels ≤ LIST_LIMIT

-- ---- what the program's rows can hold: names in their spelling, and numbers of 32 bits

-- the name, window, backlog and delay of an input are such
pub record InputFits (claim : NamedInput) : Type 0 where
  pub named : IsSpelled claim.bus
  pub window : claim.window < 2 ^ 32
  pub backlog : claim.backlog < 2 ^ 32
  pub delay : claim.delay < 2 ^ 32

-- the name, window and delay of an output are
pub record OutputFits (claim : NamedOutput) : Type 0 where
  pub named : IsSpelled claim.output
  pub window : claim.window < 2 ^ 32
  pub delay : claim.delay < 2 ^ 32

-- the name and age of a label are
pub record LabelFits (claim : NamedLabel) : Type 0 where
  pub named : IsSpelled claim.label
  pub age : claim.age < 2 ^ 32

-- those of all claims are
pub record ClaimsFit (claims : NamedRows) : Type 0 where
  pub inputs_fit : All InputFits claims.inputs
  pub outputs_fit : All OutputFits claims.outputs
  pub labels_fit : All LabelFits claims.labels
