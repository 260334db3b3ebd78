use Rattle.std.proofs.Common.{◌∙◌, ap, ap₂, sym}
use Rattle.sudo_policy.specs.declared.entry.Entry.TheVariants as entries
use Rattle.sudo_policy.proofs.copying.EntryClone.clone.Goals as goal

pub returns-in_ok-copy_names-in-UserAlias : goal.returns-in_ok-copy_names-in-UserAlias
returns-in_ok-copy_names-in-UserAlias c = record {
  cases = ap₂ entries.UserAlias c.in_ok-copy_name-in-UserAlias.ensures c.in_ok-copy_names-in-UserAlias.ensures ∙ sym c.in-UserAlias.is;
}

pub returns-in_ok-copy_names-in-RunasAlias : goal.returns-in_ok-copy_names-in-RunasAlias
returns-in_ok-copy_names-in-RunasAlias c = record {
  cases = ap₂ entries.RunasAlias c.in_ok-copy_name-in-RunasAlias.ensures c.in_ok-copy_names-in-RunasAlias.ensures ∙ sym c.in-RunasAlias.is;
}

pub returns-in_ok-copy_hosts-in-HostAlias : goal.returns-in_ok-copy_hosts-in-HostAlias
returns-in_ok-copy_hosts-in-HostAlias c = record {
  cases = ap₂ entries.HostAlias c.in_ok-copy_name-in-HostAlias.ensures c.in_ok-copy_hosts-in-HostAlias.ensures ∙ sym c.in-HostAlias.is;
}

pub returns-in_ok-copy_cmnds-in-CmndAlias : goal.returns-in_ok-copy_cmnds-in-CmndAlias
returns-in_ok-copy_cmnds-in-CmndAlias c = record {
  cases = ap₂ entries.CmndAlias c.in_ok-copy_name-in-CmndAlias.ensures c.in_ok-copy_cmnds-in-CmndAlias.ensures ∙ sym c.in-CmndAlias.is;
}

pub returns-in_ok-clone-in-Rule : goal.returns-in_ok-clone-in-Rule
returns-in_ok-clone-in-Rule c = record { cases = ap entries.Rule c.in_ok-clone-in-Rule.ensures.cases ∙ sym c.in-Rule.is }
