-- The printed line of a verdict.
use Rattle.std.specs.Prelude.{ℕ, Bool, true, false, if◌then◌else◌, List, [], ◌++◌, length, slice_index_or, codes, decimal}
use Rattle.dc_check.specs.FaultText.{condition_code}
use Rattle.dc_check.specs.declared.fault.CheckFault.{CheckFault}
use Rattle.dc_check.specs.declared.fault.Condition.{Condition}
use Rattle.dc_check.specs.declared.fault.Condition.TheVariants.{NamesDiffer, BacklogTooSmall, DelayTooSmall}
use Rattle.dc_check.specs.declared.fault.CertificateList.{CertificateList}
use Rattle.dc_check.specs.declared.fault.CertificateList.TheVariants.{Inputs, Outputs, Labels}
use Rattle.dc_document.specs.Names.{text_of}
use Rattle.dc_tables.specs.TableRows.{TableRows}

-- whether it is of a list as a whole
abbrev pub is_of_a_list : Condition → Bool
is_of_a_list NamesDiffer = true
is_of_a_list _ = false

-- whether it names the window at which it fails
abbrev pub names_window : Condition → Bool
names_window BacklogTooSmall = true
names_window DelayTooSmall = true
names_window _ = false

-- a list; one of its members
abbrev pub list_text : CertificateList → List ℕ
list_text Inputs = codes "inputs"
list_text Outputs = codes "outputs"
list_text Labels = codes "labels"

-- as one member of a list is called, and a space
abbrev pub member_text : CertificateList → List ℕ
member_text Inputs = codes "input "
member_text Outputs = codes "output "
member_text Labels = codes "label "

-- the name of a bus, an output or a label
abbrev pub member_name : TableRows → CertificateList → ℕ → List ℕ
member_name t Inputs index = text_of (slice_index_or t.names.buses index [])
member_name t Outputs index = text_of (slice_index_or t.names.outputs index [])
member_name t Labels index = text_of (slice_index_or t.names.labels index [])

-- the window at which a condition fails, in ticks, where it names one
abbrev pub window_text : CheckFault → List ℕ
window_text fault = if names_window fault.condition then codes " window " ++ decimal fault.window else []

-- where a condition fails: a list, or a member with its name and, where the condition names one, the window
abbrev pub place_text : TableRows → CheckFault → List ℕ
place_text t fault =
    if is_of_a_list fault.condition then list_text fault.list
    else member_text fault.list ++ member_name t fault.list fault.index ++ window_text fault

-- as `refused C06 input A window 1`
unfoldable pub refused_text : TableRows → CheckFault → List ℕ
refused_text t fault = codes "refused " ++ condition_code fault.condition ++ codes " " ++ place_text t fault

-- as `accepted inputs 1 outputs 1 labels 1`
unfoldable pub accepted_text : TableRows → List ℕ
accepted_text t = codes "accepted inputs " ++ decimal (length t.buses) ++ codes " outputs " ++ decimal (length t.outputs) ++ codes " labels " ++ decimal (length t.labels)
