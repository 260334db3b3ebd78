use Rattle.std.proofs.Common.{◌≤◌, List, length, reverse, ap, arith}
use Rattle.std.specs.List.{flat_map}
use Rattle.std.proofs.lemmas.List.{take_all}
use Rattle.sudo_policy.specs.declared.entry.Entry.{Entry}
use Rattle.sudo_decide.specs.Kinds.{list_says_by}
use Rattle.sudo_decide.proofs.answer.list_says.Goals as goal

pub returns : goal.returns
returns g c =
    let all : length c.args.p.now ≤ length c.entries.result.now = omega (arith, ap length c.entries.ensures.value) in
    let whole =
    ap (λ (es : List Entry). list_says_by (g.K.Kind.says c.args.i.now) (flat_map g.K.Kind.def (reverse es)) c.args.list.now)
    (take_all (length c.entries.result.now) c.args.p.now all) in
    cc
