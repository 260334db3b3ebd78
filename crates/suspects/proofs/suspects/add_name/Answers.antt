use Rattle.std.proofs.Common.{List, sym, subst}
use Rattle.std.specs.List.{Contains}
use Rattle.messages.specs.Names.{name_cmp}
use Rattle.messages.specs.declared.request_name.RequestName.{RequestName}
use Rattle.outcomes.proofs.IndexLemmas.{inserted_here, inserted_stays}
use Rattle.outcomes.proofs.NameMaps.{same_from_equal}
use Rattle.suspects.proofs.suspects.add_name.Goals as goal

pub returns-clause-here : goal.returns-clause-here
returns-clause-here c =
    let name = c.in_ok-name_meant.field-0 in
    subst (Contains c.insert.new.self.keys) c.in_ok-name_meant.ensures
    (subst (λ (ks : List RequestName). Contains ks name) (sym c.in_ok-insert.ensures.keys)
    (inserted_here name_cmp same_from_equal c.args.names.now.keys name))

pub returns-clause-stays : goal.returns-clause-stays
returns-clause-stays c = λ other there.
    subst (λ (ks : List RequestName). Contains ks other) (sym c.in_ok-insert.ensures.keys)
    (inserted_stays name_cmp same_from_equal c.args.names.now.keys c.in_ok-name_meant.field-0 other there)
