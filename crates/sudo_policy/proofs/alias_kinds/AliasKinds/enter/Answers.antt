use Rattle.std.proofs.Common.{◌≡◌}
use Rattle.std.proofs.lemmas.Result.{err_from_is_err_and}
use Rattle.sudo_policy.specs.declared.fault.LineFault.TheVariants as fault
use Rattle.sudo_policy.proofs.Entering.{user_entered, user_definable, runas_entered, runas_definable, host_entered}
use Rattle.sudo_policy.proofs.Entering.{host_definable, cmnd_entered, cmnd_definable, rule_entered, rule_refused}
use Rattle.sudo_policy.proofs.alias_kinds.AliasKinds.enter.Goals as goal

pub returns-in_err-define-in-UserAlias-clause-only : goal.returns-in_err-define-in-UserAlias-clause-only
returns-in_err-define-in-UserAlias-clause-only c = λ es is placed.
    let arm = c.in-UserAlias in
    let p = err_from_is_err_and c.from_residual.result c.from_residual.ensures.1 in
    let memory : c.in_err-define-in-UserAlias.field-0.0 ≡ fault.NoMemory =
    c.in_err-define-in-UserAlias.ensures.only
    (user_definable es c.args.self.now arm.name arm.list c.as_slice.result.now c.args.entry.now is arm.is c.as_slice.ensures placed) in
    rw (p.1, p.2) memory

pub returns-in_ok-define-in-UserAlias-clause-found : goal.returns-in_ok-define-in-UserAlias-clause-found
returns-in_ok-define-in-UserAlias-clause-found c = λ es is at.
    let arm = c.in-UserAlias in
    user_entered es c.args.self.now c.define.new.self c.args.place arm.name arm.list c.as_slice.result.now
    c.args.entry.now is at arm.is c.as_slice.ensures c.in_ok-define-in-UserAlias.ensures.found

pub returns-in_err-define-in-RunasAlias-clause-only : goal.returns-in_err-define-in-RunasAlias-clause-only
returns-in_err-define-in-RunasAlias-clause-only c = λ es is placed.
    let arm = c.in-RunasAlias in
    let p = err_from_is_err_and c.from_residual-in_err-define-in-RunasAlias.result c.from_residual-in_err-define-in-RunasAlias.ensures.1 in
    let memory : c.in_err-define-in-RunasAlias.field-0.0 ≡ fault.NoMemory =
    c.in_err-define-in-RunasAlias.ensures.only (runas_definable es c.args.self.now arm.name arm.list
    c.as_slice-in-RunasAlias.result.now c.args.entry.now is arm.is c.as_slice-in-RunasAlias.ensures placed) in
    rw (p.1, p.2) memory

pub returns-in_ok-define-in-RunasAlias-clause-found : goal.returns-in_ok-define-in-RunasAlias-clause-found
returns-in_ok-define-in-RunasAlias-clause-found c = λ es is at.
    let arm = c.in-RunasAlias in
    runas_entered es c.args.self.now c.define-in-RunasAlias.new.self c.args.place arm.name arm.list c.as_slice-in-RunasAlias.result.now
    c.args.entry.now is at arm.is c.as_slice-in-RunasAlias.ensures c.in_ok-define-in-RunasAlias.ensures.found

pub returns-in_err-define-in-HostAlias-clause-only : goal.returns-in_err-define-in-HostAlias-clause-only
returns-in_err-define-in-HostAlias-clause-only c = λ es is placed.
    let arm = c.in-HostAlias in
    let p = err_from_is_err_and c.from_residual-in_err-define-in-HostAlias.result c.from_residual-in_err-define-in-HostAlias.ensures.1 in
    let memory : c.in_err-define-in-HostAlias.field-0.0 ≡ fault.NoMemory =
    c.in_err-define-in-HostAlias.ensures.only (host_definable es c.args.self.now arm.name arm.list
    c.as_slice-in-HostAlias.result.now c.args.entry.now is arm.is c.as_slice-in-HostAlias.ensures placed) in
    rw (p.1, p.2) memory

pub returns-in_ok-define-in-HostAlias-clause-found : goal.returns-in_ok-define-in-HostAlias-clause-found
returns-in_ok-define-in-HostAlias-clause-found c = λ es is at.
    let arm = c.in-HostAlias in
    host_entered es c.args.self.now c.define-in-HostAlias.new.self c.args.place arm.name arm.list c.as_slice-in-HostAlias.result.now
    c.args.entry.now is at arm.is c.as_slice-in-HostAlias.ensures c.in_ok-define-in-HostAlias.ensures.found

pub returns-in_err-define-in-CmndAlias-clause-only : goal.returns-in_err-define-in-CmndAlias-clause-only
returns-in_err-define-in-CmndAlias-clause-only c = λ es is placed.
    let arm = c.in-CmndAlias in
    let p = err_from_is_err_and c.from_residual-in_err-define-in-CmndAlias.result c.from_residual-in_err-define-in-CmndAlias.ensures.1 in
    let memory : c.in_err-define-in-CmndAlias.field-0.0 ≡ fault.NoMemory =
    c.in_err-define-in-CmndAlias.ensures.only (cmnd_definable es c.args.self.now arm.name arm.list
    c.as_slice-in-CmndAlias.result.now c.args.entry.now is arm.is c.as_slice-in-CmndAlias.ensures placed) in
    rw (p.1, p.2) memory

pub returns-in_ok-define-in-CmndAlias-clause-found : goal.returns-in_ok-define-in-CmndAlias-clause-found
returns-in_ok-define-in-CmndAlias-clause-found c = λ es is at.
    let arm = c.in-CmndAlias in
    cmnd_entered es c.args.self.now c.define-in-CmndAlias.new.self c.args.place arm.name arm.list c.as_slice-in-CmndAlias.result.now
    c.args.entry.now is at arm.is c.as_slice-in-CmndAlias.ensures c.in_ok-define-in-CmndAlias.ensures.found

pub returns-in-Rule-clause-found : goal.returns-in-Rule-clause-found
returns-in-Rule-clause-found c = λ es is at. rule_entered es c.args.self.now c.in-Rule.rule c.args.entry.now
    c.rule_weight.result c.ok_or.result is c.in-Rule.is c.rule_weight.ensures c.ok_or.ensures.value

pub returns-in-Rule-clause-only : goal.returns-in-Rule-clause-only
returns-in-Rule-clause-only c = λ es is placed. rule_refused es c.args.self.now c.in-Rule.rule c.args.entry.now
    c.rule_weight.result c.ok_or.result is c.in-Rule.is c.rule_weight.ensures c.ok_or.ensures.value placed
