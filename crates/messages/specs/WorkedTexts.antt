-- Worked cases: what ann asks on 5 January 2026, and bob's approval of it.
use Rattle.std.specs.Prelude.{List, [], ◌∷◌, codes}
use Rattle.sudo_words.specs.declared.cmnd.Cmnd.{Cmnd}
use Rattle.sudo_words.specs.declared.cmnd.Cmnd.TheVariants.{Path}
use Rattle.sudo_words.specs.declared.cmnd.ArgRule.TheVariants.{Any}
use Rattle.messages.specs.Fields.{RequestFields, VerdictFields}
use Rattle.messages.specs.declared.kind.VerdictKind.TheVariants.{Approve}

-- at six, for nine to eleven
abbrev pub ann_asks_for : List Cmnd → RequestFields
ann_asks_for cmnds = record {
  at = 1_767_592_800;
  by = codes "ann";
  ceiling = codes "db-root";
  cmnds = cmnds;
  from = 1_767_603_600;
  hosts = codes "db1" ∷ [];
  no = 7;
  runas = codes "root";
  until = 1_767_610_800;
}

abbrev pub ls : Cmnd
ls = Path (codes "/bin/ls") Any

abbrev pub id : Cmnd
id = Path (codes "/usr/bin/id") Any

-- at half past eight
abbrev pub bob_approves : VerdictFields
bob_approves = record {
  at = 1_767_601_800;
  by = codes "bob";
  kind = Approve;
  no = 7;
  of = codes "ann";
}
