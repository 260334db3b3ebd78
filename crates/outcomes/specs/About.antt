-- The messages about a name.
use Rattle.std.specs.Prelude.{◌≡◌, ◌↔◌, List, Contains, Option, Some, None, Vec}
use Rattle.std.specs.declared.alloc.Global.{Global}
use Rattle.messages.specs.Names.{name_meant, name_of}
use Rattle.messages.specs.declared.message.Message.{Message}
use Rattle.messages.specs.declared.message.Message.TheVariants.{Request, Verdict}
use Rattle.messages.specs.declared.request_name.RequestName.{RequestName}
use Rattle.grants.specs.Verdicts.{IsDisputed}

-- the name that a request asks under, or that a verdict is about
abbrev pub name_in : Message → RequestName
name_in (Request q) = name_of q
name_in (Verdict v) = name_meant v

-- the set's messages about the name
abbrev pub AreAbout : List Message → RequestName → List Message → Type 0
AreAbout messages name list =
    (m : Message) → Contains list m ↔ (Contains messages m × (name_in m ≡ name))

-- the same, if they are told without a look at the set; for a disputed name they are not
abbrev pub AreTold : List Message → RequestName → Option (Vec Message Global) → Type 0
AreTold messages name None = IsDisputed messages name
AreTold messages name (Some list) = AreAbout messages name list.items
