-- Worked lines of a report, for what ann asked in the small team, which is in force from ten past
-- nine to eleven.
use Rattle.std.specs.Prelude.{ℕ, List, [], ◌∷◌, codes}
use Rattle.std.specs.List.{flat_map}
use Rattle.sudo_words.specs.declared.cmnd.Cmnd.{Cmnd}
use Rattle.sudo_words.specs.declared.cmnd.Cmnd.TheVariants.{All, Dir}
use Rattle.grants.specs.WorkedAdmission.{asked, file}
use Rattle.grants.specs.WorkedStatuses.{by_two, team}
use Rattle.grants.specs.declared.outcome.Window.{Window}
use Rattle.review.specs.declared.need.Need.TheVariants.{Needed}
use Rattle.review.specs.Barred.{barred_for, reason}
use Rattle.review.specs.Columns.{lines_text}
use Rattle.review.specs.Report.{conflicts_of, live_line, report_lines}

-- when ann's grant is in force
abbrev pub ann_window : Window
ann_window = record { start = 33_000; end = 39_600 }

-- the team's pair of conflicting duties, the lesser first
abbrev pub lesser_first_pairs : List (List ℕ × List ℕ)
lesser_first_pairs = (codes "approve", codes "audit") ∷ []

-- the grant's line, carol's for her approval at eight, when she may not approve, and her duties'
abbrev pub team_text : List ℕ
team_text =
    lines_text (report_lines 34_200 (live_line asked ann_window Needed ∷ [])
    (barred_for asked (codes "carol") (reason team by_two (codes "ann") (codes "carol") 28_800))
    (flat_map (conflicts_of team 34_200 lesser_first_pairs) team.people) [] [])

-- a command of each kind
abbrev pub three_commands : List Cmnd
three_commands = All ∷ file (codes "/bin/ls") ∷ Dir (codes "/usr/bin/") ∷ []
