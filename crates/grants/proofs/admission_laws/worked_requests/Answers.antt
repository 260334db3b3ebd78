use Rattle.std.proofs.Common.{refl, lit≤}
use Rattle.std.specs.Prelude.{codes}
use Rattle.sudo_words.specs.declared.cmnd.Cmnd.TheVariants.{All, Dir}
use Rattle.grants.specs.WorkedAdmission.{site, db_root, file, file_alone, asked_on, asked_for, asked_by, asked_as}
use Rattle.grants.proofs.AdmissionLemmas.{within, not_asker, host_outside, target_outside}
use Rattle.grants.proofs.WorkedSite.{no_command}
use Rattle.grants.proofs.admission_laws.worked_requests.Goals as goal

pub returns-clause-other_host : goal.returns-clause-other_host
returns-clause-other_host c = record {
  ceiling = db_root;
  may_ask = record { listed = refl; ceiling_is = refl; may_ask = refl };
  within = within site (asked_on (codes "db2")) db_root refl refl refl;
  in_time = record { short = lit≤ tt; ahead = lit≤ tt; forward = lit≤ tt };
}

pub returns-clause-in_directory : goal.returns-clause-in_directory
returns-clause-in_directory c = record {
  ceiling = db_root;
  may_ask = record { listed = refl; ceiling_is = refl; may_ask = refl };
  within = within site (asked_for (file_alone (codes "/usr/bin/id"))) db_root refl refl refl;
  in_time = record { short = lit≤ tt; ahead = lit≤ tt; forward = lit≤ tt };
}

pub returns-clause-approver : goal.returns-clause-approver
returns-clause-approver c = not_asker site (asked_by (codes "bob")) db_root refl refl refl

pub returns-clause-host : goal.returns-clause-host
returns-clause-host c = host_outside site (asked_on (codes "web")) db_root (record { listed = refl; ceiling_is = refl; may_ask = refl }) refl

pub returns-clause-target : goal.returns-clause-target
returns-clause-target c = target_outside site (asked_as (codes "op")) db_root (record { listed = refl; ceiling_is = refl; may_ask = refl }) refl refl

pub returns-clause-command : goal.returns-clause-command
returns-clause-command c = no_command (file (codes "/bin/cat")) (record { head = (refl, lit≤ tt, refl); args = tt; short = lit≤ tt }) refl

pub returns-clause-below_directory : goal.returns-clause-below_directory
returns-clause-below_directory c = no_command (file (codes "/usr/bin/x/y")) (record { head = (refl, lit≤ tt, refl); args = tt; short = lit≤ tt }) refl

pub returns-clause-parent : goal.returns-clause-parent
returns-clause-parent c = no_command (Dir (codes "/usr/")) (record { head = (refl, lit≤ tt); args = tt; short = lit≤ tt }) refl

pub returns-clause-everything : goal.returns-clause-everything
returns-clause-everything c = no_command All (record { head = tt; args = tt; short = lit≤ tt }) refl
