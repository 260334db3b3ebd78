use Rattle.std.proofs.Common.{[]}
use Rattle.std.proofs.lemmas.Result.{IfOk-weaker}
use Rattle.suspects.proofs.PartLemmas.{part_of_none}
use Rattle.suspects.proofs.ReviewLemmas.{part_reviewed}
use Rattle.suspects.proofs.summaries.reviewed_beside.Goals as goal

pub returns : goal.returns
returns c = λ set are suspects.
    let f = c.args.roster.now.says in
    let names = c.args.suspects.now.keys in
    let live = c.in_ok-live.live.items in
    let none = part_of_none set c.new-part.result c.new-part.ensures in
    let some = c.in_ok-add_names.ensures set [] are none in
    let is = rw c.deref.ensures.value at (c.in_ok-add_grants.ensures set names are some) in
    IfOk-weaker c.summaries_in.result _ _
    (λ list summaries. part_reviewed f set c.args.at names live suspects (c.in_ok-live.ensures set are.gathered) c.add_grants.new.part is list.items summaries)
    (c.summaries_in.ensures is.part is.gathered)
