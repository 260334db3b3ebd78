use Rattle.std.proofs.Common.{◌≡◌, None, Some, rules, subst, sym}
use Rattle.messages.specs.declared.request_name.RequestName.{RequestName}
use Rattle.outcomes.specs.private.ByName.{at_name}
use Rattle.outcomes.proofs.NameMaps.{SetsAt, sets_from}
use Rattle.desk_audit.specs.Told.{name_in}
use Rattle.desk_audit.specs.private.ByName.{Gathers, IsToldAt, NobodySpeaks}
use Rattle.desk_audit.proofs.ByNameLemmas.{IsAt, one_more}
use Rattle.desk_audit.proofs.gathering.put.Goals as goal

pub returns-in_ok-add-in-Some : goal.returns-in_ok-add-in-Some
returns-in_ok-add-in-Some c = λ set behind g.
    let m = c.args.message in
    let old = c.args.all.now in
    let before = c.in-Some.about.now in
    let after = c.add.new.about in
    let new = c.get_mut.follows.lender after in
    let holds = c.get_mut.follows.holds after in
    let name_is = c.in_ok-name.ensures in
    let sets : SetsAt old new (name_in m) after =
    subst (λ (n : RequestName). SetsAt old new n after) name_is (sets_from old new c.in_ok-name.name after (holds.3 (search rules))) in
    let there : at_name old (name_in m) ≡ Some before = subst (λ (n : RequestName). at_name old n ≡ Some before) name_is (sym c.in-Some.ensures.value) in
    let was : IsToldAt set (name_in m) before = subst (IsAt set (name_in m)) there (g.each (name_in m)) in
    one_more set m old new after sets holds.4 (c.in_ok-add-in-Some.ensures set behind was.told) g

pub returns-in_ok-insert-in-None : goal.returns-in_ok-insert-in-None
returns-in_ok-insert-in-None c = λ set behind g.
    let m = c.args.message in
    let old = c.args.all.now in
    let lent = c.get_mut.follows.lender-at-none in
    let new = c.insert.new.self in
    let about = c.in_ok-about-in-None.about in
    let name_is = c.in_ok-name.ensures in
    let sets : SetsAt lent new (name_in m) about =
    subst (λ (n : RequestName). SetsAt lent new n about) name_is (sets_from lent new c.in_ok-name.name about c.in_ok-insert-in-None.ensures.updates) in
    let bare : at_name old (name_in m) ≡ None = subst (λ (n : RequestName). at_name old n ≡ None) name_is (sym c.in-None.ensures.value) in
    let nobody : NobodySpeaks set (name_in m) = subst (IsAt set (name_in m)) bare (g.each (name_in m)) in
    one_more set m lent new about sets c.in_ok-insert-in-None.ensures.ordered
    (c.in_ok-about-in-None.ensures set behind nobody) (subst (Gathers set) (sym c.get_mut.follows.holds-at-none) g)
