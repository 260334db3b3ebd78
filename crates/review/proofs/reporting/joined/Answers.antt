use Rattle.std.proofs.Common.{◌≡◌, ℕ, List, ◌∷◌, ◌++◌, map, string_bytes, ap, ◌∙◌}
use Rattle.std.specs.Prelude.{codes}
use Rattle.std.specs.List.{flat_map}
use Rattle.sudo_words.specs.Moment.{stamp}
use Rattle.review.specs.Columns.{lines_text}
use Rattle.review.specs.Report.{AreBarred, AreBroadLines, AreInForce, IsLiveLine, conflicts_of}
use Rattle.review.specs.private.Reporting.{kept_name}
use Rattle.review.proofs.OfSummaries.{names_of_summaries}
use Rattle.review.proofs.ReportLists.{first_section, next_section, parts_mapped}
use Rattle.review.proofs.reporting.joined.Goals as goal

pub returns : goal.returns
returns c = λ base set kept s parts waiting.
    let f = c.args.roster.now.says in
    let at = c.args.at in
    let parked = map string_bytes c.args.parked.now in
    let live = parts.live in
    let barred = parts.barred in
    let broad = parts.broad in
    let conflicts = c.in_ok-push_all_conflicts.ensures in
    let held = flat_map (conflicts_of f at conflicts.0) f.people in
    let head = codes "REVIEW " ++ stamp at in
    let begun = string_bytes c.push_head.new.out in
    let first_text : string_bytes c.push_str.new.self ≡ begun ++ lines_text live.0 =
    c.in_ok-push_str.ensures.bytes ∙ ap (λ (t : List ℕ). begun ++ t) (c.as_str.ensures.value ∙ live.1) in
    let second_text : string_bytes c.push_str-3.new.self ≡ string_bytes c.push_str-2.new.self ++ lines_text barred.0 =
    c.in_ok-push_str-3.ensures.bytes ∙ ap (λ (t : List ℕ). string_bytes c.push_str-2.new.self ++ t) (c.as_str-2.ensures.value ∙ barred.1) in
    let fourth_text : string_bytes c.push_str-6.new.self ≡ string_bytes c.push_str-5.new.self ++ lines_text broad.0 =
    c.in_ok-push_str-6.ensures.bytes ∙ ap (λ (t : List ℕ). string_bytes c.push_str-5.new.self ++ t) (c.as_str-3.ensures.value ∙ broad.1) in
    let first = first_section head live.0 begun (string_bytes c.push_str.new.self)
    (c.in_ok-push_head.ensures ∙ ap (λ (t : List ℕ). t ++ (head ++ codes "\nLIVE\n")) c.new-out.ensures.bytes) first_text in
    let lines = head ∷ codes "LIVE" ∷ live.0 in
    let second = next_section lines (codes "BARRED") barred.0 (string_bytes c.push_str.new.self) (string_bytes c.push_str-2.new.self)
    (string_bytes c.push_str-3.new.self) first c.in_ok-push_str-2.ensures.bytes second_text in
    let third = next_section (lines ++ codes "BARRED" ∷ barred.0) (codes "CONFLICTS") held (string_bytes c.push_str-3.new.self)
    (string_bytes c.push_str-4.new.self) (string_bytes c.push_all_conflicts.new.out) second c.in_ok-push_str-4.ensures.bytes conflicts.2 in
    let fourth =
    next_section (lines ++ codes "BARRED" ∷ barred.0 ++ codes "CONFLICTS" ∷ held) (codes "BROAD") broad.0 (string_bytes c.push_all_conflicts.new.out)
    (string_bytes c.push_str-5.new.self) (string_bytes c.push_str-6.new.self) third c.in_ok-push_str-5.ensures.bytes fourth_text in
    record {
      names = map kept_name kept;
      pairs = conflicts.0;
      live = live.0;
      barred = barred.0;
      broad = broad.0;
      parked = parked;
      names_are = names_of_summaries set kept s;
      pairs_are = conflicts.1;
      live_are = parts_mapped (AreInForce f set at (IsLiveLine base)) kept_name kept live.0 live.2;
      barred_are = parts_mapped (AreBarred f set) kept_name kept barred.0 barred.2;
      broad_are = parts_mapped (AreInForce f set at AreBroadLines) kept_name kept broad.0 broad.2;
      parked_are = waiting;
      text_is = next_section (lines ++ codes "BARRED" ∷ barred.0 ++ codes "CONFLICTS" ∷ held ++ codes "BROAD" ∷ broad.0) (codes "PARKED") parked
          (string_bytes c.push_str-6.new.self) (string_bytes c.push_str-7.new.self)
          (string_bytes c.push_texts.new.out) fourth c.in_ok-push_str-7.ensures.bytes c.in_ok-push_texts.ensures;
    }
