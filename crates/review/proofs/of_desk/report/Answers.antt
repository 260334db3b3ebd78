use Rattle.std.proofs.Common.{◌∙◌, map, string_bytes, subst, sym}
use Rattle.std.specs.List.{Contains}
use Rattle.messages.specs.Wire.{IsMessage}
use Rattle.messages.specs.declared.message.Message.{Message}
use Rattle.outcomes.specs.Parked.{AreParked}
use Rattle.suspects.specs.LookedAt.{AreReviewed}
use Rattle.review.specs.Report.{IsReport}
use Rattle.review.proofs.of_desk.report.Goals as goal

pub returns-clause-report : goal.returns-clause-report
returns-clause-report g c = λ set up lists.
    let answer = c.in_ok-summaries.ensures in
    let K = g.K.Keeper in
    let f = c.args.desk.now.roster.says in
    let at = c.args.at in
    let base = c.base.ensures.value ∙ answer.asks.settings.base in
    let roster = c.roster.ensures ∙ answer.asks.settings.roster in
    let written : (m : Message) → Contains set m → IsMessage m = λ m there. g.met.K.Keeper.holds_messages c.args.desk.now.keeper m ((lists m).1 there) in
    let looked = subst (AreReviewed f set at) (sym c.deref.ensures.value) (answer.reviewed set up lists) in
    let reviewed = subst (λ r. AreReviewed r.says set at c.deref.result.now) (sym roster) looked in
    let parked = subst (λ texts. AreParked set (map string_bytes texts)) (sym c.deref-2.ensures.value) (answer.parked set up lists) in
    let is = c.in_ok-report_of.ensures.reviewed set written reviewed parked in
    let text = string_bytes c.in_ok-report_of.field-0 in
    subst (λ b. IsReport f b set at text) base
    (subst (λ r. IsReport r.says c.base.result.now set at text) roster is)
