-- What names a parameter: a label and an equipment code.
use Rattle.std.specs.Prelude.{Bool, ◌==◌, ◌&&◌}
use Rattle.dc_dict.specs.declared.parameter.Parameter.{Parameter as ParameterPart}
use Rattle.dc_document.specs.declared.keys.ParameterKey.{ParameterKey}
use Rattle.dc_document.specs.declared.parts.StreamPart.{StreamPart}
use Rattle.dc_document.specs.declared.parts.LabelPart.{LabelPart}

-- whether two name the same parameter
abbrev pub same_parameter : ParameterKey → ParameterKey → Bool
same_parameter a b = (a.label == b.label) && (a.equipment == b.equipment)

-- what names the parameter itself
abbrev pub parameter_key : ParameterPart → ParameterKey
parameter_key p = record { label = p.label; equipment = p.equipment }

-- the parameter that a stream names
abbrev pub stream_key : StreamPart → ParameterKey
stream_key s = record { label = s.label; equipment = s.equipment }

-- the parameter that a label of an output names
abbrev pub label_key : LabelPart → ParameterKey
label_key x = record { label = x.label; equipment = x.equipment }
