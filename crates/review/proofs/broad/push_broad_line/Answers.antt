use Rattle.std.proofs.Common.{◌≡◌, ◌++◌, List, ℕ, [], ◌∷◌, string_bytes, sym, ap, ◌∙◌}
use Rattle.std.specs.Prelude.{codes}
use Rattle.std.proofs.lemmas.List.{append-nil}
use Rattle.messages.specs.Names.{name_of}
use Rattle.review.specs.Columns.{lines_text, name_columns}
use Rattle.review.specs.Report.{broad_for}
use Rattle.std.proofs.lemmas.Result.{on_ok_weaker}
use Rattle.review.proofs.ReportLists.{one_line}
use Rattle.review.proofs.broad.push_broad_line.Goals as goal

pub returns-in-All : goal.returns-in-All
returns-in-All c =
    let q = c.args.request.now in
    let old = string_bytes c.args.out.now in
    let new = string_bytes c.push_broad_text.new.out in
    let is = ap (λ x. lines_text (broad_for q x)) c.in-All.is in
    on_ok_weaker {Q = new ≡ old ++ lines_text (broad_for q c.args.cmnd.now)} c.push_broad_text.result
    (λ adds. one_line old (name_columns (name_of q) ++ codes " " ++ codes "ALL") new adds ∙ ap (λ (t : List ℕ). old ++ t) (sym is))
    c.push_broad_text.ensures

pub returns-in-Dir : goal.returns-in-Dir
returns-in-Dir c =
    let q = c.args.request.now in
    let old = string_bytes c.args.out.now in
    let new = string_bytes c.push_broad_text-in-Dir.new.out in
    let dir = c.as_str.result.now in
    let is = ap (λ x. lines_text (broad_for q x)) c.in-Dir.is in
    let same : dir ++ [] ≡ c.in-Dir.dir ++ [] = ap (λ (t : List ℕ). t ++ []) c.as_str.ensures.value in
    on_ok_weaker {Q = new ≡ old ++ lines_text (broad_for q c.args.cmnd.now)} c.push_broad_text-in-Dir.result
    (λ adds. one_line old (name_columns (name_of q) ++ codes " " ++ dir) new adds
    ∙ ap (λ (t : List ℕ). old ++ lines_text ((name_columns (name_of q) ++ codes " " ++ t) ∷ [])) (sym (append-nil dir) ∙ same)
    ∙ ap (λ (t : List ℕ). old ++ t) (sym is))
    c.push_broad_text-in-Dir.ensures

pub returns-in-Path : goal.returns-in-Path
returns-in-Path c =
    let q = c.args.request.now in
    let old = string_bytes c.args.out.now in
    let is = ap (λ x. lines_text (broad_for q x)) c.in-Path.is in
    sym (append-nil old) ∙ ap (λ (t : List ℕ). old ++ t) (sym is)
