use Rattle.std.proofs.Common.{◌≡◌, map, take}
use Rattle.grants.specs.GrantRules.{grant_rule}
use Rattle.grants.proofs.rules.grant_rules.Given as goal

abbrev pub invariant-loop-cmnd : goal.invariant-loop-cmnd
invariant-loop-cmnd l =
    l.rules.items ≡ map (grant_rule l.host l.request l.window.start l.window.end) (take l.cmnd-index l.cmnd-items)
