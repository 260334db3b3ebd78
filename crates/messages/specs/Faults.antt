-- How faults are shown.
use Rattle.std.specs.Prelude.{ℕ, List, codes}
use Rattle.messages.specs.declared.fault.MessageFault.{MessageFault}
use Rattle.messages.specs.declared.fault.MessageFault.TheVariants.{TooLong, NotCanonical}
use Rattle.messages.specs.declared.fault.MessageFault.TheVariants.{BadField, NoMemory}

-- its code and name
abbrev pub message_fault_text : MessageFault → List ℕ
message_fault_text TooLong = codes "M1 TooLong"
message_fault_text NotCanonical = codes "M2 NotCanonical"
message_fault_text BadField = codes "M3 BadField"
message_fault_text NoMemory = codes "M4 NoMemory"
