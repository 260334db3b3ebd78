use Rattle.std.proofs.Common.{◌≡◌, true, subst}
use Rattle.sudo_policy.specs.Alias.{user_defs, runas_defs, host_defs, cmnd_defs}
use Rattle.sudo_policy.specs.declared.entry.Entry.{Entry}
use Rattle.sudo_compiled.specs.private.Used.{is_entry_used}
use Rattle.sudo_compiled.proofs.WrittenLists.{on_ok}
use Rattle.sudo_compiled.proofs.aliases.Aliases.enter.Goals as goal

pub returns-in-UserAlias : goal.returns-in-UserAlias
returns-in-UserAlias c =
    on_ok c.define.result
    (λ defined above used k.
    let here = subst (λ (e : Entry). is_entry_used c.args.used.now e ≡ true) c.in-UserAlias.is used in
    rw c.in-UserAlias.is (record { users = defined (user_defs above) here k.users; runas = k.runas; hosts = k.hosts; cmnds = k.cmnds }))
    (rw c.as_slice.ensures at c.define.ensures)

pub returns-in-RunasAlias : goal.returns-in-RunasAlias
returns-in-RunasAlias c =
    on_ok c.define-in-RunasAlias.result
    (λ defined above used k.
    let here = subst (λ (e : Entry). is_entry_used c.args.used.now e ≡ true) c.in-RunasAlias.is used in
    rw c.in-RunasAlias.is (record { users = k.users; runas = defined (runas_defs above) here k.runas; hosts = k.hosts; cmnds = k.cmnds }))
    (rw c.as_slice-in-RunasAlias.ensures at c.define-in-RunasAlias.ensures)

pub returns-in-HostAlias : goal.returns-in-HostAlias
returns-in-HostAlias c =
    on_ok c.define-in-HostAlias.result
    (λ defined above used k.
    let here = subst (λ (e : Entry). is_entry_used c.args.used.now e ≡ true) c.in-HostAlias.is used in
    rw c.in-HostAlias.is (record { users = k.users; runas = k.runas; hosts = defined (host_defs above) here k.hosts; cmnds = k.cmnds }))
    (rw c.as_slice-in-HostAlias.ensures at c.define-in-HostAlias.ensures)

pub returns-in-CmndAlias : goal.returns-in-CmndAlias
returns-in-CmndAlias c =
    on_ok c.define-in-CmndAlias.result
    (λ defined above used k.
    let here = subst (λ (e : Entry). is_entry_used c.args.used.now e ≡ true) c.in-CmndAlias.is used in
    rw c.in-CmndAlias.is (record { users = k.users; runas = k.runas; hosts = k.hosts; cmnds = defined (cmnd_defs above) here k.cmnds }))
    (rw c.as_slice-in-CmndAlias.ensures at c.define-in-CmndAlias.ensures)

pub returns-in-Rule : goal.returns-in-Rule
returns-in-Rule c = λ above used k. rw c.in-Rule.is (record { users = k.users; runas = k.runas; hosts = k.hosts; cmnds = k.cmnds })
