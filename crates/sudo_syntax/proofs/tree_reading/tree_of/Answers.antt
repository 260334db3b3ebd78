use Rattle.std.proofs.Common.{◌≡◌, ap, refl}
use Rattle.std.proofs.lemmas.Result.{err_from_is_err_and}
use Rattle.sudo_policy.specs.declared.fault.LineFault.TheVariants.{NoMemory}
use Rattle.sudo_policy.specs.declared.tree.Line.{Line}
use Rattle.sudo_policy.specs.declared.tree.Line.TheVariants as lines
use Rattle.sudo_syntax.specs.private.Tokens.{toks}
use Rattle.sudo_syntax.specs.private.Fronts.{NoKind}
use Rattle.sudo_syntax.proofs.TreeLemmas.{users_kind, runas_kind, hosts_kind, cmnds_kind, by_users, by_runas}
use Rattle.sudo_syntax.proofs.TreeLemmas.{by_hosts, by_cmnds, by_user_spec, err_no_ok, some_no_none, some_is}
use Rattle.sudo_syntax.proofs.tree_reading.tree_of.Goals as goal

pub returns-in_err-users-clause-only : goal.returns-in_err-users-clause-only
returns-in_err-users-clause-only c = λ l h.
    let e = c.in_err-users in
    let p = err_from_is_err_and c.from_residual.result c.from_residual.ensures.1 in
    rw (p.1, p.2)
    (by_users (λ (x : Line). e.field-0.0 ≡ NoMemory) (toks c.args.tokens.now) l h e.ensures.only (λ n. absurd (err_no_ok e.field-0.0 _ (e.ensures.other n))))

pub returns-in-Some-clause-only : goal.returns-in-Some-clause-only
returns-in-Some-clause-only c = λ l h.
    let o = c.in_ok-users in
    let s = c.in-Some in
    by_users (λ (x : Line). lines.Users s.users ≡ x) (toks c.args.tokens.now) l h
    (λ defs d. ap lines.Users (some_is o.field-0 s.users defs s.is (o.ensures.only defs d)))
    (λ n. absurd (some_no_none o.field-0 s.users s.is (o.ensures.other n)))

pub returns-in_err-runas-clause-only : goal.returns-in_err-runas-clause-only
returns-in_err-runas-clause-only c = λ l h.
    let e = c.in_err-runas in
    let p = err_from_is_err_and c.from_residual-in_err-runas.result c.from_residual-in_err-runas.ensures.1 in
    rw (p.1, p.2)
    (by_runas (λ (x : Line). e.field-0.0 ≡ NoMemory) (toks c.args.tokens.now) l h e.ensures.only (λ n. absurd (err_no_ok e.field-0.0 _ (e.ensures.other n))))

pub returns-in-Some-2-clause-only : goal.returns-in-Some-2-clause-only
returns-in-Some-2-clause-only c = λ l h.
    let o = c.in_ok-runas in
    let s = c.in-Some-2 in
    by_runas (λ (x : Line). lines.Runas s.runas ≡ x) (toks c.args.tokens.now) l h
    (λ defs d. ap lines.Runas (some_is o.field-0 s.runas defs s.is (o.ensures.only defs d)))
    (λ n. absurd (some_no_none o.field-0 s.runas s.is (o.ensures.other n)))

pub returns-in_err-hosts-clause-only : goal.returns-in_err-hosts-clause-only
returns-in_err-hosts-clause-only c = λ l h.
    let e = c.in_err-hosts in
    let p = err_from_is_err_and c.from_residual-in_err-hosts.result c.from_residual-in_err-hosts.ensures.1 in
    rw (p.1, p.2)
    (by_hosts (λ (x : Line). e.field-0.0 ≡ NoMemory) (toks c.args.tokens.now) l h e.ensures.only (λ n. absurd (err_no_ok e.field-0.0 _ (e.ensures.other n))))

pub returns-in-Some-3-clause-only : goal.returns-in-Some-3-clause-only
returns-in-Some-3-clause-only c = λ l h.
    let o = c.in_ok-hosts in
    let s = c.in-Some-3 in
    by_hosts (λ (x : Line). lines.Hosts s.hosts ≡ x) (toks c.args.tokens.now) l h
    (λ defs d. ap lines.Hosts (some_is o.field-0 s.hosts defs s.is (o.ensures.only defs d)))
    (λ n. absurd (some_no_none o.field-0 s.hosts s.is (o.ensures.other n)))

pub returns-in_err-cmnds-clause-only : goal.returns-in_err-cmnds-clause-only
returns-in_err-cmnds-clause-only c = λ l h.
    let e = c.in_err-cmnds in
    let p = err_from_is_err_and c.from_residual-in_err-cmnds.result c.from_residual-in_err-cmnds.ensures.1 in
    rw (p.1, p.2)
    (by_cmnds (λ (x : Line). e.field-0.0 ≡ NoMemory) (toks c.args.tokens.now) l h e.ensures.only (λ n. absurd (err_no_ok e.field-0.0 _ (e.ensures.other n))))

pub returns-in-Some-4-clause-only : goal.returns-in-Some-4-clause-only
returns-in-Some-4-clause-only c = λ l h.
    let o = c.in_ok-cmnds in
    let s = c.in-Some-4 in
    by_cmnds (λ (x : Line). lines.Cmnds s.cmnds ≡ x) (toks c.args.tokens.now) l h
    (λ defs d. ap lines.Cmnds (some_is o.field-0 s.cmnds defs s.is (o.ensures.only defs d)))
    (λ n. absurd (some_no_none o.field-0 s.cmnds s.is (o.ensures.other n)))

pub returns-in_err-user_spec-clause-only : goal.returns-in_err-user_spec-clause-only
returns-in_err-user_spec-clause-only c = λ l h.
    let users : NoKind users_kind (toks c.args.tokens.now) = rw c.in_default.is at c.in_ok-users.ensures.found in
    let runas : NoKind runas_kind (toks c.args.tokens.now) = rw c.in_default-2.is at c.in_ok-runas.ensures.found in
    let hosts : NoKind hosts_kind (toks c.args.tokens.now) = rw c.in_default-3.is at c.in_ok-hosts.ensures.found in
    let cmnds : NoKind cmnds_kind (toks c.args.tokens.now) = rw c.in_default-4.is at c.in_ok-cmnds.ensures.found in
    let p = err_from_is_err_and c.from_residual-in_err-user_spec.result c.from_residual-in_err-user_spec.ensures.1 in
    rw (p.1, p.2)
    (by_user_spec (λ (x : Line). c.in_err-user_spec.field-0.0 ≡ NoMemory) (toks c.args.tokens.now) l h users runas hosts cmnds c.in_err-user_spec.ensures.only)

pub returns-clause-only : goal.returns-clause-only
returns-clause-only c = λ l h.
    let users : NoKind users_kind (toks c.args.tokens.now) = rw c.in_default.is at c.in_ok-users.ensures.found in
    let runas : NoKind runas_kind (toks c.args.tokens.now) = rw c.in_default-2.is at c.in_ok-runas.ensures.found in
    let hosts : NoKind hosts_kind (toks c.args.tokens.now) = rw c.in_default-3.is at c.in_ok-hosts.ensures.found in
    let cmnds : NoKind cmnds_kind (toks c.args.tokens.now) = rw c.in_default-4.is at c.in_ok-cmnds.ensures.found in
    let r = c.in_ok-user_spec.user_spec in
    by_user_spec (λ (x : Line). lines.UserSpec r.users r.parts ≡ x) (toks c.args.tokens.now) l h users runas hosts cmnds
    (λ u p d. let same = c.in_ok-user_spec.ensures.only u p d in rw (same.0, same.1) refl)
