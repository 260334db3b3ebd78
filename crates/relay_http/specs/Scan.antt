-- A scan for the empty line that ends a head. For the program alone: no promise cites it.
use Rattle.std.specs.Prelude.{ℕ, List, [], ◌∷◌, ◌||◌, ◌==◌, if◌then◌else◌}
use Rattle.relay_http.specs.declared.head_scan.HeadScan.{HeadScan}
use Rattle.relay_http.specs.declared.head_scan.HeadScan.TheVariants.{Blank, First, Begun}
use Rattle.relay_http.specs.declared.head_scan.HeadScan.TheVariants.{Within, Ended}

-- how far a scan has come after one more byte
abbrev pub line_after : HeadScan → ℕ → HeadScan
line_after Blank b = if b == 13 || b == 10 then Blank else First
line_after First b = if b == 10 then Begun else First
line_after Begun b = if b == 13 then Begun else (if b == 10 then Ended else Within)
line_after Within b = if b == 10 then Begun else Within
line_after Ended b = Ended

-- and after more of them
abbrev pub scanned : HeadScan → List ℕ → HeadScan
scanned line [] = line
scanned line (b ∷ bytes) = scanned (line_after line b) bytes
