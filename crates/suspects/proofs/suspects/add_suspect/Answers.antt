use Rattle.std.proofs.Common.{◌≡◌, ◌∙◌, List, sym, ap, subst}
use Rattle.std.specs.List.{Contains}
use Rattle.messages.specs.Fields.{RequestFields}
use Rattle.messages.specs.Names.{name_cmp, name_of}
use Rattle.messages.specs.declared.request_name.RequestName.{RequestName}
use Rattle.outcomes.proofs.IndexLemmas.{inserted_here, inserted_stays}
use Rattle.outcomes.proofs.NameMaps.{same_from_equal}
use Rattle.suspects.proofs.SuspectLemmas.{count_in_dispute}
use Rattle.suspects.proofs.suspects.add_suspect.Goals as goal

pub returns-in_ok-insert-clause-stays : goal.returns-in_ok-insert-clause-stays
returns-in_ok-insert-clause-stays c = λ name there.
    subst (λ (ks : List RequestName). Contains ks name) (sym c.in_ok-insert.ensures.keys)
    (inserted_stays name_cmp same_from_equal c.args.names.now.keys c.in_ok-name.field-0 name there)

pub returns-in_ok-insert-clause-here : goal.returns-in_ok-insert-clause-here
returns-in_ok-insert-clause-here c = λ set stands apart.
    let name = c.in_ok-name.field-0 in
    let is : name ≡ name_of c.args.summary.now.request =
    c.in_ok-name.ensures ∙ ap (λ (q : RequestFields). name_of q) c.in-Some.ensures.value in
    let here : Contains c.insert.new.self.keys name =
    subst (λ (ks : List RequestName). Contains ks name) (sym c.in_ok-insert.ensures.keys)
    (inserted_here name_cmp same_from_equal c.args.names.now.keys name) in
    absurd (apart (subst (Contains c.insert.new.self.keys) is here))

pub returns-in_default-clause-here : goal.returns-in_default-clause-here
returns-in_default-clause-here c = λ set stands apart.
    count_in_dispute c.args.roster.now.says set (name_of c.args.summary.now.request) (c.in_default.ensures.disputed set stands)
