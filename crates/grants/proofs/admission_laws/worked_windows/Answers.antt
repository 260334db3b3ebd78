use Rattle.std.proofs.Common.{refl, lit≤, lit<}
use Rattle.grants.specs.WorkedAdmission.{site, db_root, asked, asked_from}
use Rattle.grants.proofs.AdmissionLemmas.{within, too_long}
use Rattle.grants.proofs.admission_laws.worked_windows.Goals as goal

pub returns-clause-longest : goal.returns-clause-longest
returns-clause-longest c = record {
  ceiling = db_root;
  may_ask = record { listed = refl; ceiling_is = refl; may_ask = refl };
  within = within site asked db_root refl refl refl;
  in_time = record { short = lit≤ tt; ahead = lit≤ tt; forward = lit≤ tt };
}

pub returns-clause-second_longer : goal.returns-clause-second_longer
returns-clause-second_longer c =
    too_long site (asked_from 32_400 39_601) db_root (record { listed = refl; ceiling_is = refl; may_ask = refl })
    (within site (asked_from 32_400 39_601) db_root refl refl refl) (lit< tt)

pub returns-clause-one_moment : goal.returns-clause-one_moment
returns-clause-one_moment c = record {
  ceiling = db_root;
  may_ask = record { listed = refl; ceiling_is = refl; may_ask = refl };
  within = within site (asked_from 21_600 21_600) db_root refl refl refl;
  in_time = record { short = lit≤ tt; ahead = lit≤ tt; forward = lit≤ tt };
}

pub returns-clause-both : goal.returns-clause-both
returns-clause-both c =
    too_long site (asked_from 21_599 28_800) db_root (record { listed = refl; ceiling_is = refl; may_ask = refl })
    (within site (asked_from 21_599 28_800) db_root refl refl refl) (lit< tt)
