use Rattle.std.proofs.lemmas.Result.{err_from_is_err_and}
use Rattle.desk_args.specs.CommandLine.{HasBadValue}
use Rattle.desk_args.proofs.Runs.{same_run}
use Rattle.desk_args.proofs.command_line.invocation.Goals as goal

pub returns-in_err-at : goal.returns-in_err-at
returns-in_err-at c =
    let e = c.in_err-at.ensures in
    let p = err_from_is_err_and c.from_residual.result c.from_residual.ensures.1 in
    rw (p.1, p.2) (record {
      found = tt;
      only = λ run h. absurd (e.only run.at h.at);
      word = λ _. HasBadValue.bad_at e.word.1;
      usage = rw e.word.0 (λ usage. usage);
    })

pub returns-in_err-user : goal.returns-in_err-user
returns-in_err-user c =
    let e = c.in_err-user.ensures in
    let p = err_from_is_err_and c.from_residual-in_err-user.result c.from_residual-in_err-user.ensures.1 in
    rw (p.1, p.2) (record {
      found = tt;
      only = λ run h. e.only run.user h.user;
      word = λ bad. HasBadValue.bad_user (e.word bad);
      usage = e.usage;
    })

pub returns-in_err-host : goal.returns-in_err-host
returns-in_err-host c =
    let e = c.in_err-host.ensures in
    let p = err_from_is_err_and c.from_residual-in_err-host.result c.from_residual-in_err-host.ensures.1 in
    rw (p.1, p.2) (record {
      found = tt;
      only = λ run h. e.only run.host h.host;
      word = λ bad. HasBadValue.bad_host (e.word bad);
      usage = e.usage;
    })

pub returns-in_err-runas : goal.returns-in_err-runas
returns-in_err-runas c =
    let e = c.in_err-runas.ensures in
    let p = err_from_is_err_and c.from_residual-in_err-runas.result c.from_residual-in_err-runas.ensures.1 in
    rw (p.1, p.2) (record {
      found = tt;
      only = λ run h. e.only run.runas h.runas;
      word = λ bad. HasBadValue.bad_runas (e.word bad);
      usage = e.usage;
    })

pub returns-in_err-path : goal.returns-in_err-path
returns-in_err-path c =
    let e = c.in_err-path.ensures in
    let p = err_from_is_err_and c.from_residual-in_err-path.result c.from_residual-in_err-path.ensures.1 in
    rw (p.1, p.2) (record {
      found = tt;
      only = λ run h. e.only run.path h.path;
      word = λ bad. HasBadValue.bad_path (e.word bad);
      usage = e.usage;
    })

pub returns-in_err-args : goal.returns-in_err-args
returns-in_err-args c =
    let e = c.in_err-args.ensures in
    let p = err_from_is_err_and c.from_residual-in_err-args.result c.from_residual-in_err-args.ensures.1 in
    rw (p.1, p.2) (record {
      found = tt;
      only = λ run h. e.only run.args h.args;
      word = λ bad. HasBadValue.bad_args (e.word bad);
      usage = e.usage;
    })

pub returns-clause-found : goal.returns-clause-found
returns-clause-found c = record {
  user = c.in_ok-user.ensures.found;
  host = c.in_ok-host.ensures.found;
  runas = c.in_ok-runas.ensures.found;
  at = c.in_ok-at.ensures.found;
  path = c.in_ok-path.ensures.found;
  args = c.in_ok-args.ensures.found;
}

pub returns-clause-only : goal.returns-clause-only
returns-clause-only c = λ run h.
    same_run run _ _ _ _ _ _ (c.in_ok-user.ensures.only run.user h.user) (c.in_ok-host.ensures.only run.host h.host)
    (c.in_ok-runas.ensures.only run.runas h.runas) (c.in_ok-at.ensures.only run.at h.at) (c.in_ok-path.ensures.only run.path h.path)
    (c.in_ok-args.ensures.only run.args h.args)
