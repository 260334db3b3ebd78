-- The format of a roster's text, and the faults of a text that does not have this format.
use Rattle.std.specs.Prelude.{◌≡◌, ℕ, ◌<◌, List, Some, None, true, false, codes}
use Rattle.toml.specs.Data.{Members}
use Rattle.toml.specs.Parse.{parse_document}
use Rattle.sudo_words.specs.Command.{IsLawful}
use Rattle.sudo_words.specs.declared.cmnd.Cmnd.{Cmnd}
use Rattle.roster.specs.Fields.{RosterFields, in_texts}
use Rattle.roster.specs.Document.{has_known_keys, fields_of}
use Rattle.roster.specs.Rules.{IsCmndText, GoodNames, are_known, has_self_conflict, in_range}
use Rattle.roster.specs.declared.fault.RosterFault.{RosterFault}
use Rattle.roster.specs.declared.fault.RosterFault.TheVariants.{NotToml, UnknownKey, WrongType}
use Rattle.roster.specs.declared.fault.RosterFault.TheVariants.{BadName, UnknownName, SelfConflict}
use Rattle.roster.specs.declared.fault.RosterFault.TheVariants.{OutOfRange, NoMemory}

-- The text is a roster's, and says this.
pub record IsRosterText (text : List ℕ) (f : RosterFields Cmnd) : Type 0 where
  pub document : Members
  pub toml : parse_document text ≡ Some document
  pub keys : has_known_keys document ≡ true
  pub types : fields_of document ≡ Some (in_texts f)
  pub names : GoodNames IsLawful f
  pub known : are_known f ≡ true
  pub apart : has_self_conflict f ≡ false
  pub range : in_range text f ≡ true

-- Each value of the text has its type, and the values say this.
abbrev pub TextSays : List ℕ → RosterFields (List ℕ) → Type 0
TextSays text t =
    (document : Members) × (parse_document text ≡ Some document) × (fields_of document ≡ Some t)

-- The text has the fault. Only a text whose values have their types can have a fault in what it
-- says.
abbrev pub Has : List ℕ → RosterFault → Type 0
Has text NotToml = parse_document text ≡ None
Has text UnknownKey =
    (document : Members) × (parse_document text ≡ Some document) × (has_known_keys document ≡ false)
Has text WrongType =
    (document : Members) × (parse_document text ≡ Some document) × (fields_of document ≡ None)
Has text BadName = (t : RosterFields (List ℕ)) × TextSays text t × ¬ GoodNames IsCmndText t
Has text UnknownName = (t : RosterFields (List ℕ)) × TextSays text t × (are_known t ≡ false)
Has text SelfConflict = (t : RosterFields (List ℕ)) × TextSays text t × (has_self_conflict t ≡ true)
Has text OutOfRange = (t : RosterFields (List ℕ)) × TextSays text t × (in_range text t ≡ false)
Has text NoMemory = ⊥

-- the number in a fault's code
abbrev pub fault_number : RosterFault → ℕ
fault_number NotToml = 1
fault_number UnknownKey = 2
fault_number WrongType = 3
fault_number BadName = 4
fault_number UnknownName = 5
fault_number SelfConflict = 6
fault_number OutOfRange = 7
fault_number NoMemory = 8

-- the text has the fault, and none of a lower number
abbrev pub IsLeastFault : List ℕ → RosterFault → Type 0
IsLeastFault text fault =
    Has text fault
    × ((lower : RosterFault) → fault_number lower < fault_number fault → ¬ Has text lower)

-- how a fault is printed
abbrev pub roster_fault_text : RosterFault → List ℕ
roster_fault_text NotToml = codes "O1 NotToml"
roster_fault_text UnknownKey = codes "O2 UnknownKey"
roster_fault_text WrongType = codes "O3 WrongType"
roster_fault_text BadName = codes "O4 BadName"
roster_fault_text UnknownName = codes "O5 UnknownName"
roster_fault_text SelfConflict = codes "O6 SelfConflict"
roster_fault_text OutOfRange = codes "O7 OutOfRange"
roster_fault_text NoMemory = codes "O8 NoMemory"
