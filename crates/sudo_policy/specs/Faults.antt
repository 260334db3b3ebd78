-- How faults are shown.
use Rattle.std.specs.Prelude.{◌++◌, codes, decimal}
use Rattle.sudo_policy.specs.declared.fault.FaultKind.{FaultKind}
use Rattle.sudo_policy.specs.declared.fault.FaultKind.TheVariants.{TooLong, BadByte, Line}
use Rattle.sudo_policy.specs.declared.fault.LineFault.{LineFault}
use Rattle.sudo_policy.specs.declared.fault.LineFault.TheVariants.{BadWord, Unexpected}
use Rattle.sudo_policy.specs.declared.fault.LineFault.TheVariants.{UnknownAlias, AliasTwice}
use Rattle.sudo_policy.specs.declared.fault.LineFault.TheVariants.{Reserved, BadMoment, LeftOut}
use Rattle.sudo_policy.specs.declared.fault.LineFault.TheVariants.{TooLarge, NoMemory}
use Rattle.sudo_policy.specs.declared.fault.ReadFault.{ReadFault}
use Rattle.sudo_policy.specs.Text.{Text}

-- the code and the name of a fault
abbrev pub line_fault_text : LineFault → Text
line_fault_text BadWord = codes "S3 BadWord"
line_fault_text Unexpected = codes "S4 Unexpected"
line_fault_text UnknownAlias = codes "S5 UnknownAlias"
line_fault_text AliasTwice = codes "S6 AliasTwice"
line_fault_text Reserved = codes "S7 Reserved"
line_fault_text BadMoment = codes "S8 BadMoment"
line_fault_text LeftOut = codes "S9 LeftOut"
line_fault_text TooLarge = codes "S10 TooLarge"
line_fault_text NoMemory = codes "S11 NoMemory"

abbrev pub fault_kind_text : FaultKind → Text
fault_kind_text TooLong = codes "S1 TooLong"
fault_kind_text BadByte = codes "S2 BadByte"
fault_kind_text (Line fault) = line_fault_text fault

-- the kind of a fault, and its line in decimal: 0 where there is no text
abbrev pub read_fault_text : ReadFault → Text
read_fault_text f = fault_kind_text f.kind ++ codes " line " ++ decimal f.line
