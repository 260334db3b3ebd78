-- Worked cases: a small roster, and the smallest text of one.
use Rattle.std.specs.Prelude.{ℕ, List, [], ◌∷◌, ◌++◌, codes}
use Rattle.sudo_words.specs.declared.cmnd.Cmnd.{Cmnd}
use Rattle.sudo_words.specs.declared.cmnd.Cmnd.TheVariants.{All}
use Rattle.roster.specs.Fields.{CeilingFields, RosterFields}
use Rattle.roster.specs.declared.days.Days.{Days}
use Rattle.roster.specs.declared.days.Days.TheVariants.{Always, Between}

-- Ann operates and approves, bob approves, and carol approves though she audits, which conflicts.
-- Eve approves on 4 and 5 January 1970, which are the days 3 and 4, and fay always, though she
-- audits until the first of them.
abbrev pub office : RosterFields Cmnd
office = record {
  relays = codes "mail" ∷ [];
  hosts = codes "db" ∷ [];
  duties = codes "approve" ∷ codes "audit" ∷ codes "operate" ∷ [];
  conflicts = (codes "audit", codes "approve") ∷ [];
  people =
      (codes "ann", (codes "approve", Always) ∷ (codes "operate", Always) ∷ [])
      ∷ (codes "bob", (codes "approve", Always) ∷ [])
      ∷ (codes "carol", (codes "approve", Always) ∷ (codes "audit", Always) ∷ [])
      ∷ (codes "eve", (codes "approve", Between 3 4) ∷ [])
      ∷ (codes "fay", (codes "approve", Always) ∷ (codes "audit", Between 0 3) ∷ [])
      ∷ [];
  ceilings = [];
}

-- whoever operates may ask for everything on `db` as root for an hour, and one of those who approve
-- must approve it
abbrev pub everything : CeilingFields Cmnd
everything = record {
  ask = codes "operate";
  approve = codes "approve";
  needs = 1;
  hosts = codes "db" ∷ [];
  runas = codes "root" ∷ [];
  commands = All ∷ [];
  longest = 3600;
}

-- a roster of one relay and one host
abbrev pub smallest_text : List ℕ
smallest_text =
    codes "relays = ['r']\nhosts = ['h']\nduties = []\nconflicts = []\npeople = {}\nceilings = {}"

abbrev pub smallest : RosterFields Cmnd
smallest = record {
  relays = codes "r" ∷ [];
  hosts = codes "h" ∷ [];
  duties = [];
  conflicts = [];
  people = [];
  ceilings = [];
}

-- the text of a roster whose one person holds a duty between these days, if they are days in order
abbrev pub text_with_days : (from until : List ℕ) → List ℕ
text_with_days from until =
    codes "relays=['r']\nhosts=['h']\nduties=['d']\nconflicts=[]\nceilings={}\npeople={a=[{duty='d',from='"
    ++ from ++ codes "',until='" ++ until ++ codes "'}]}"

abbrev pub with_days : Days → RosterFields Cmnd
with_days days = record {
  relays = codes "r" ∷ [];
  hosts = codes "h" ∷ [];
  duties = codes "d" ∷ [];
  conflicts = [];
  people = (codes "a", (codes "d", days) ∷ []) ∷ [];
  ceilings = [];
}

-- the same office where eve approves for two days more, up to 7 January 1970, which is the day 6
abbrev pub longer_office : RosterFields Cmnd
longer_office = record office {
  people =
      (codes "ann", (codes "approve", Always) ∷ (codes "operate", Always) ∷ [])
      ∷ (codes "bob", (codes "approve", Always) ∷ [])
      ∷ (codes "carol", (codes "approve", Always) ∷ (codes "audit", Always) ∷ [])
      ∷ (codes "eve", (codes "approve", Between 3 6) ∷ [])
      ∷ (codes "fay", (codes "approve", Always) ∷ (codes "audit", Between 0 3) ∷ [])
      ∷ [];
}

-- A whole roster: whoever operates may ask for everything on `db` as root, and one of those who
-- approve must approve it; the auditing duty conflicts with approving. Ann operates; eve approves,
-- and audits on 4 and 5 January 1970.
abbrev pub shop_text : List ℕ
shop_text =
    codes "relays = ['mail']\nhosts = ['db']\nduties = ['approve', 'audit', 'operate']\nconflicts = [['audit', 'approve']]\n"
    ++ codes "[people]\nann = ['operate']\neve = ['approve', {duty = 'audit', from = '19700104', until = '19700105'}]\n"
    ++ codes "[ceilings.db-root]\nask = 'operate'\napprove = 'approve'\nneeds = 1\nhosts = ['db']\nrunas = ['root']\ncommands = ['ALL']\nlongest = 3600\n"

abbrev pub shop : RosterFields Cmnd
shop = record {
  relays = codes "mail" ∷ [];
  hosts = codes "db" ∷ [];
  duties = codes "approve" ∷ codes "audit" ∷ codes "operate" ∷ [];
  conflicts = (codes "audit", codes "approve") ∷ [];
  people =
      (codes "ann", (codes "operate", Always) ∷ [])
      ∷ (codes "eve", (codes "approve", Always) ∷ (codes "audit", Between 3 4) ∷ [])
      ∷ [];
  ceilings = (codes "db-root", everything) ∷ [];
}

-- a text with one relay and these hosts, duties, pairs and people, and no ceilings
abbrev pub roster_text : (hosts duties conflicts people : List ℕ) → List ℕ
roster_text hosts duties conflicts people =
    codes "relays=['r']\nhosts=[" ++ hosts ++ codes "]\nduties=["
    ++ duties ++ codes "]\nconflicts=[" ++ conflicts
    ++ codes "]\npeople={" ++ people ++ codes "}\nceilings={}"
