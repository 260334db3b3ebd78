use Rattle.std.proofs.Common.{[], ◌∷◌, refl}
use Rattle.std.specs.Prelude.{codes}
use Rattle.grants.specs.WorkedStatuses.{approves, dave_and, refuses, revokes}
use Rattle.grants.specs.declared.outcome.Status.TheVariants.{Refused, Waiting, Granted}
use Rattle.grants.proofs.WorkedTeam.{comes_to_by_days}
use Rattle.grants.proofs.status_laws.worked_days.Goals as goal

pub returns : goal.returns
returns c = record {
  before =
      comes_to_by_days (dave_and (approves (codes "bob") 86_399 ∷ [])) Waiting
      ((refl, refl), ((refl, refl), tt)) refl refl refl;
  again =
      comes_to_by_days (dave_and (approves (codes "bob") 86_399 ∷ approves (codes "bob") 120_000 ∷ [])) (Granted (record { start = 120_000; end = 126_000 }))
      ((refl, refl), ((refl, refl), ((refl, refl), tt))) refl refl refl;
  turned =
      comes_to_by_days (dave_and (approves (codes "bob") 120_000 ∷ approves (codes "bob") 86_399 ∷ [])) (Granted (record { start = 120_000; end = 126_000 }))
      ((refl, refl), ((refl, refl), ((refl, refl), tt))) refl refl refl;
  audits =
      comes_to_by_days (dave_and (approves (codes "carol") 86_399 ∷ [])) Waiting
      ((refl, refl), ((refl, refl), tt)) refl refl refl;
  audited =
      comes_to_by_days (dave_and (approves (codes "carol") 86_400 ∷ [])) (Granted (record { start = 118_800; end = 126_000 }))
      ((refl, refl), ((refl, refl), tt)) refl refl refl;
  refused_early =
      comes_to_by_days (dave_and (approves (codes "carol") 86_400 ∷ refuses (codes "bob") 86_399 ∷ [])) (Granted (record { start = 118_800; end = 126_000 }))
      ((refl, refl), ((refl, refl), ((refl, refl), tt))) refl refl refl;
  refused =
      comes_to_by_days (dave_and (approves (codes "carol") 90_000 ∷ refuses (codes "bob") 86_400 ∷ [])) Refused
      ((refl, refl), ((refl, refl), ((refl, refl), tt))) refl refl refl;
  revoked_early =
      comes_to_by_days (dave_and (approves (codes "carol") 86_400 ∷ revokes (codes "bob") 86_399 ∷ [])) (Granted (record { start = 118_800; end = 126_000 }))
      ((refl, refl), ((refl, refl), ((refl, refl), tt))) refl refl refl;
  revoked =
      comes_to_by_days (dave_and (approves (codes "carol") 86_400 ∷ revokes (codes "carol") 120_000 ∷ [])) (Granted (record { start = 118_800; end = 119_999 }))
      ((refl, refl), ((refl, refl), ((refl, refl), tt))) refl refl refl;
}
