use Rattle.std.proofs.Common.{List, refl, ap, ◌∙◌}
use Rattle.sudo_policy.specs.declared.entry.Signed.{Signed}
use Rattle.sudo_policy.specs.declared.entry.CmndItem.{CmndItem}
use Rattle.sudo_policy.specs.Alias.{user_defs, host_defs, runas_defs}
use Rattle.sudo_policy.specs.Text.{Names}
use Rattle.sudo_decide.specs.Decision.{names_say, list_answer, item_answer, cmnd_answer}
use Rattle.sudo_compiled.specs.Compiled.{plain_answer, match_answer, plains_say}
use Rattle.sudo_compiled.specs.private.Writing.{known_says}
use Rattle.sudo_compiled.proofs.Answering.{about_alike}
use Rattle.sudo_compiled.proofs.compiled.written_rule.Goals as goal

pub returns : goal.returns
returns c = λ by covers.
    let rule = c.args.rule.now in
    let aliases = c.args.known.now in
    record {
      dates = λ at. refl;
      about = λ i. about_alike (plains_say i.user c.in_ok-users.users) (plains_say i.host c.in_ok-hosts.hosts) (plains_say i.runas c.in_ok-runas.runas)
          (names_say (user_defs by) i.user rule.users) (names_say (host_defs by) i.host rule.hosts) (names_say (runas_defs by) i.runas rule.runas)
          (c.in_ok-users.ensures i ∙ ap (λ (list : Names). list_answer (item_answer (known_says (plain_answer i.user) aliases.users) i.user) list)
          c.as_slice.ensures ∙ covers.users i)
          (c.in_ok-hosts.ensures i ∙ ap (λ (list : Names). list_answer (item_answer (known_says (plain_answer i.host) aliases.hosts) i.host) list)
          c.as_slice-2.ensures ∙ covers.hosts i)
          (c.in_ok-runas.ensures i ∙ ap (λ (list : Names). list_answer (item_answer (known_says (plain_answer i.runas) aliases.runas) i.runas) list)
          c.as_slice-3.ensures ∙ covers.runas i);
      cmnd = λ i. c.in_ok-cmnds.ensures i ∙ ap (λ (list : List (Signed CmndItem)).
          list_answer (cmnd_answer (known_says (match_answer i.path i.args) aliases.cmnds) i.path i.args) list) c.from_ref.ensures.value ∙ covers.cmnd i;
      tags = refl;
    }
