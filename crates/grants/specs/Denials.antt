-- Denials: their codes and names.
use Rattle.std.specs.Prelude.{ℕ, List, codes}
use Rattle.grants.specs.declared.denial.Denial.{Denial}
use Rattle.grants.specs.declared.denial.Denial.TheVariants.{UnknownPerson, UnknownCeiling}
use Rattle.grants.specs.declared.denial.Denial.TheVariants.{NotAsker, HostOutside}
use Rattle.grants.specs.declared.denial.Denial.TheVariants.{RunasOutside, CommandOutside}
use Rattle.grants.specs.declared.denial.Denial.TheVariants.{WindowTooLong, WindowBackwards}

-- the number in a denial's code
abbrev pub denial_number : Denial → ℕ
denial_number UnknownPerson = 1
denial_number UnknownCeiling = 2
denial_number NotAsker = 3
denial_number HostOutside = 4
denial_number RunasOutside = 5
denial_number CommandOutside = 6
denial_number WindowTooLong = 7
denial_number WindowBackwards = 8

-- how a denial is printed
abbrev pub denial_text : Denial → List ℕ
denial_text UnknownPerson = codes "A1 UnknownPerson"
denial_text UnknownCeiling = codes "A2 UnknownCeiling"
denial_text NotAsker = codes "A3 NotAsker"
denial_text HostOutside = codes "A4 HostOutside"
denial_text RunasOutside = codes "A5 RunasOutside"
denial_text CommandOutside = codes "A6 CommandOutside"
denial_text WindowTooLong = codes "A7 WindowTooLong"
denial_text WindowBackwards = codes "A8 WindowBackwards"
