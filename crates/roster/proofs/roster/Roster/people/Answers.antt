use Rattle.std.proofs.Common.{ℕ, List, ◌∙◌, sym, ap, subst}
use Rattle.roster.specs.Fields.{Entry}
use Rattle.roster.specs.Relations.{AreRising}
use Rattle.roster.specs.declared.roster.Roster.TheInside.{Inside}
use Rattle.roster.proofs.roster.Roster.people.Goals as goal

pub returns-clause-rising : goal.returns-clause-rising
returns-clause-rising c =
    subst (λ (es : List (List ℕ × List Entry)). AreRising es)
    (sym (c.as_slice.ensures ∙ ap (λ (r : Inside). r.content.people) c.self-inside.view_is)) c.self.invariant.1.people
