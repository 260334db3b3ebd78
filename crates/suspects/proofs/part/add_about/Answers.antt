use Rattle.std.proofs.Common.{Option, Vec, Global, subst}
use Rattle.std.proofs.lemmas.Result.{on_ok_weaker}
use Rattle.messages.specs.declared.message.Message.{Message}
use Rattle.outcomes.specs.About.{AreAbout, AreTold}
use Rattle.suspects.proofs.PartLemmas.{part_disputed, part_more}
use Rattle.suspects.proofs.part.add_about.Goals as goal

pub returns-in-Some : goal.returns-in-Some
returns-in-Some c = λ set names are is.
    let name = c.args.name.now in
    let told = rw c.as_str.ensures.value at (c.in_ok-list.ensures set are.gathered are.written) in
    let about : AreAbout set name c.in-Some.list.items =
    subst (λ (o : Option (Vec Message Global)). AreTold set name o) c.in-Some.is told in
    let taken = rw c.deref.ensures.value at (c.take_each.ensures is.part is.gathered) in
    on_ok_weaker c.take_each.result (λ more. part_more set names name _ c.take_each.new.part c.in-Some.list.items is about more) taken

pub returns-in-None : goal.returns-in-None
returns-in-None c = λ set names are is.
    let name = c.args.name.now in
    let told = rw c.as_str.ensures.value at (c.in_ok-list.ensures set are.gathered are.written) in
    part_disputed set names name _ is (subst (λ (o : Option (Vec Message Global)). AreTold set name o) c.in-None.is told)
