use Rattle.std.proofs.Common.{◌++◌, ◌∙◌, List, ℕ, ap}
use Rattle.std.specs.Prelude.{codes, string_bytes}
use Rattle.std.proofs.lemmas.Result.{on_ok_weaker}
use Rattle.sudo_policy.specs.Printing.{cmnds_text}
use Rattle.sudo_policy.proofs.Printed.{head_and_list}
use Rattle.sudo_policy.proofs.printing.push_cmnd_alias.Goals as goal

pub returns : goal.returns
returns c =
    let old = string_bytes c.args.out.now in
    let list = cmnds_text c.args.list.now in
    on_ok_weaker c.push_cmnds.result
    (λ e. e ∙ ap (λ (t : List ℕ). t ++ list) c.in_ok-push_head.ensures ∙ head_and_list old (codes "Cmnd_Alias") c.args.name.now list)
    c.push_cmnds.ensures
