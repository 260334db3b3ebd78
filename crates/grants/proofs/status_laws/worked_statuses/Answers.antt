use Rattle.std.proofs.Common.{[], ◌∷◌, refl}
use Rattle.std.specs.Prelude.{codes}
use Rattle.grants.specs.WorkedStatuses.{approves, both_and, refuses, revokes}
use Rattle.grants.specs.declared.outcome.Status.TheVariants.{Refused, Waiting, Void, Granted}
use Rattle.grants.proofs.WorkedTeam.{comes_to, team_disputed, team_lapsed}
use Rattle.grants.proofs.status_laws.worked_statuses.Goals as goal

pub returns : goal.returns
returns c = record {
  asker =
      comes_to (approves (codes "ann") 28_800 ∷ approves (codes "bob") 30_600 ∷ []) Waiting
      ((refl, refl), ((refl, refl), tt)) refl refl refl;
  conflict =
      comes_to (approves (codes "bob") 30_600 ∷ approves (codes "carol") 28_800 ∷ []) Waiting
      ((refl, refl), ((refl, refl), tt)) refl refl refl;
  twice =
      comes_to (approves (codes "bob") 30_600 ∷ approves (codes "bob") 31_200 ∷ []) Waiting
      ((refl, refl), ((refl, refl), tt)) refl refl refl;
  second =
      comes_to (both_and (approves (codes "dave") 34_000 ∷ [])) (Granted (record { start = 33_000; end = 39_600 }))
      ((refl, refl), ((refl, refl), ((refl, refl), tt))) refl refl refl;
  ahead =
      comes_to (approves (codes "dave") 31_200 ∷ approves (codes "bob") 30_600 ∷ []) (Granted (record { start = 32_400; end = 39_600 }))
      ((refl, refl), ((refl, refl), tt)) refl refl refl;
  refused =
      comes_to (both_and (refuses (codes "bob") 33_000 ∷ [])) Refused
      ((refl, refl), ((refl, refl), ((refl, refl), tt))) refl refl refl;
  late =
      comes_to (both_and (refuses (codes "bob") 33_001 ∷ refuses (codes "carol") 28_800 ∷ [])) (Granted (record { start = 33_000; end = 39_600 }))
      ((refl, refl), ((refl, refl), ((refl, refl), ((refl, refl), tt)))) refl refl refl;
  revoked =
      comes_to (both_and (revokes (codes "carol") 36_000 ∷ [])) (Granted (record { start = 33_000; end = 35_999 }))
      ((refl, refl), ((refl, refl), ((refl, refl), tt))) refl refl refl;
  void =
      comes_to (both_and (revokes (codes "ann") 0 ∷ [])) Void
      ((refl, refl), ((refl, refl), ((refl, refl), tt))) refl refl refl;
  too_late =
      comes_to (approves (codes "bob") 30_600 ∷ approves (codes "dave") 39_601 ∷ []) Void
      ((refl, refl), ((refl, refl), tt)) refl refl refl;
  disputed = team_disputed;
  lapsed = team_lapsed;
}
