-- Worked cases: a small site, and what is asked there. The moments are of 1 January 1970.
use Rattle.std.specs.Prelude.{ℕ, List, [], ◌∷◌, codes}
use Rattle.sudo_words.specs.declared.cmnd.Cmnd.{Cmnd}
use Rattle.sudo_words.specs.declared.cmnd.Cmnd.TheVariants.{Path, Dir}
use Rattle.sudo_words.specs.declared.cmnd.ArgRule.TheVariants.{Any, Empty, Exactly}
use Rattle.messages.specs.Fields.{RequestFields, VerdictFields}
use Rattle.messages.specs.declared.kind.VerdictKind.TheVariants.{Approve}
use Rattle.roster.specs.Fields.{CeilingFields, RosterFields}
use Rattle.roster.specs.declared.days.Days.TheVariants.{Always}

-- a file with any arguments, with none, and with these alone
abbrev pub file : List ℕ → Cmnd
file path = Path path Any

abbrev pub file_alone : List ℕ → Cmnd
file_alone path = Path path Empty

abbrev pub file_with : List ℕ → List (List ℕ) → Cmnd
file_with path args = Path path (Exactly args)

-- whoever operates may ask for `/bin/ls` and all of `/usr/bin/` as root, on either host, for two
-- hours
abbrev pub db_root : CeilingFields Cmnd
db_root = record {
  ask = codes "operate";
  approve = codes "approve";
  needs = 1;
  hosts = codes "db1" ∷ codes "db2" ∷ [];
  runas = codes "root" ∷ [];
  commands = file (codes "/bin/ls") ∷ Dir (codes "/usr/bin/") ∷ [];
  longest = 7200;
}

-- ann operates and bob approves
abbrev pub site : RosterFields Cmnd
site = record {
  relays = codes "mail" ∷ [];
  hosts = codes "db1" ∷ codes "db2" ∷ codes "web" ∷ [];
  duties = codes "approve" ∷ codes "operate" ∷ [];
  conflicts = [];
  people = (codes "ann", (codes "operate", Always) ∷ [])
      ∷ (codes "bob", (codes "approve", Always) ∷ []) ∷ [];
  ceilings = (codes "db-root", db_root) ∷ [];
}

-- at six ann asks for `/bin/ls` on `db1` as root, from nine to eleven
abbrev pub asked : RequestFields
asked = record {
  at = 21_600;
  by = codes "ann";
  ceiling = codes "db-root";
  cmnds = file (codes "/bin/ls") ∷ [];
  from = 32_400;
  hosts = codes "db1" ∷ [];
  no = 7;
  runas = codes "root";
  until = 39_600;
}

-- the same by somebody else, under another ceiling, on another host, as another target, for another
-- command, in another window
abbrev pub asked_by : List ℕ → RequestFields
asked_by person = record asked { by = person }

abbrev pub asked_under : List ℕ → RequestFields
asked_under ceiling = record asked { ceiling = ceiling }

abbrev pub asked_on : List ℕ → RequestFields
asked_on host = record asked { hosts = host ∷ [] }

abbrev pub asked_as : List ℕ → RequestFields
asked_as target = record asked { runas = target }

abbrev pub asked_for : Cmnd → RequestFields
asked_for cmnd = record asked { cmnds = cmnd ∷ [] }

abbrev pub asked_from : (from until : ℕ) → RequestFields
asked_from from until = record asked { from = from; until = until }

-- an approval by one person of what another asked for
abbrev pub approved : (by of : List ℕ) → VerdictFields
approved by of = record { at = 30_000; by = by; kind = Approve; no = 7; of = of }
