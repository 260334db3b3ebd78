use Rattle.std.proofs.Common.{◌∙◌, subst}
use Rattle.sudo_words.specs.declared.cmnd.Cmnd.{Cmnd}
use Rattle.roster.specs.Fields.{RosterFields}
use Rattle.sudo_words.specs.Lists.{IsEachOnce, text_order}
use Rattle.roster.proofs.Listed.{known_in_order}
use Rattle.roster.proofs.rules.knows_names.Goals as goal

pub returns : goal.returns
returns c =
    let duties = c.in_ok-duties.duties in
    let hosts = c.in_ok-hosts.hosts in
    c.names_only.ensures
    ∙ known_in_order c.args.content.now duties hosts
    (subst (λ (f : RosterFields Cmnd). IsEachOnce text_order f.duties duties) c.content.view_is c.in_ok-duties.ensures)
    (subst (λ (f : RosterFields Cmnd). IsEachOnce text_order f.hosts hosts) c.content.view_is c.in_ok-hosts.ensures)
