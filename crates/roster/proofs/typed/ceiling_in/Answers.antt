use Rattle.std.proofs.Common.{refl}
use Rattle.std.specs.Prelude.{codes}
use Rattle.toml.specs.Data.{as_str}
use Rattle.toml.specs.View.{table_view}
use Rattle.roster.specs.Document.{ceiling_of, member_of, texts_of}
use Rattle.roster.proofs.Loop.{then_read, then_wrong, wrong_behind}
use Rattle.sudo_words.proofs.Exits.{is_err}
use Rattle.roster.proofs.typed.ceiling_in.Goals as goal

pub returns-in_err-ask : goal.returns-in_err-ask
unfolding ceiling_of
returns-in_err-ask c =
    rw (is_err c.from_residual-in_err-ask.result c.from_residual-in_err-ask.ensures.1)
    (λ n. let h = c.in_err-ask.ensures n in (h.0, then_wrong _ _ h.1))

pub returns-in_err-approve : goal.returns-in_err-approve
unfolding ceiling_of
returns-in_err-approve c =
    rw (is_err c.from_residual-in_err-approve.result c.from_residual-in_err-approve.ensures.1)
    (λ n. let h = c.in_err-approve.ensures n in (h.0, then_read _ _ _ _ c.in_ok-ask.ensures (then_wrong _ _ h.1)))

pub returns-in_err-needs : goal.returns-in_err-needs
unfolding ceiling_of
returns-in_err-needs c =
    let ms = table_view c.args.table.now in
    rw (is_err c.from_residual.result c.from_residual.ensures.1) (λ n. let h = c.in_err-needs.ensures n in
    (h.0, wrong_behind (member_of as_str (codes "ask") ms) _ (λ _. wrong_behind (member_of as_str (codes "approve") ms) _ (λ _. then_wrong _ _ h.1))))

pub returns-in_err-hosts : goal.returns-in_err-hosts
unfolding ceiling_of
returns-in_err-hosts c =
    rw (is_err c.from_residual-in_err-hosts.result c.from_residual-in_err-hosts.ensures.1) (λ n. let h = c.in_err-hosts.ensures n in (
      h.0,
      then_read _ _ _ _ c.in_ok-ask.ensures (then_read _ _ _ _ c.in_ok-approve.ensures (then_read _ _ _ _ c.in_ok-needs.ensures (then_wrong _ _ h.1))),
    ))

pub returns-in_err-runas : goal.returns-in_err-runas
unfolding ceiling_of
returns-in_err-runas c =
    rw (is_err c.from_residual-in_err-runas.result c.from_residual-in_err-runas.ensures.1) (λ n. let h = c.in_err-runas.ensures n in (
      h.0,
      then_read _ _ _ _ c.in_ok-ask.ensures
          (then_read _ _ _ _ c.in_ok-approve.ensures (then_read _ _ _ _ c.in_ok-needs.ensures (then_read _ _ _ _ c.in_ok-hosts.ensures (then_wrong _ _ h.1)))),
    ))

pub returns-in_err-commands : goal.returns-in_err-commands
unfolding ceiling_of
returns-in_err-commands c =
    rw (is_err c.from_residual-in_err-commands.result c.from_residual-in_err-commands.ensures.1) (λ n. let h = c.in_err-commands.ensures n in (
      h.0,
      then_read _ _ _ _ c.in_ok-ask.ensures (then_read _ _ _ _ c.in_ok-approve.ensures
          (then_read _ _ _ _ c.in_ok-needs.ensures (then_read _ _ _ _ c.in_ok-hosts.ensures (then_read _ _ _ _ c.in_ok-runas.ensures (then_wrong _ _ h.1))))),
    ))

pub returns-in_err-longest : goal.returns-in_err-longest
unfolding ceiling_of
returns-in_err-longest c =
    let ms = table_view c.args.table.now in
    rw (is_err c.from_residual-in_err-longest.result c.from_residual-in_err-longest.ensures.1) (λ n. let h = c.in_err-longest.ensures n in (
      h.0,
      wrong_behind (member_of as_str (codes "ask") ms) _ (λ _. wrong_behind (member_of as_str (codes "approve") ms) _
          (λ _. then_read _ _ _ _ c.in_ok-needs.ensures (wrong_behind (member_of texts_of (codes "hosts") ms) _ (λ _.
          wrong_behind (member_of texts_of (codes "runas") ms) _ (λ _. wrong_behind (member_of texts_of (codes "commands") ms) _ (λ _. then_wrong _ _ h.1)))))),
    ))

pub returns : goal.returns
unfolding ceiling_of
returns c = then_read _ _ _ _ c.in_ok-ask.ensures
    (then_read _ _ _ _ c.in_ok-approve.ensures (then_read _ _ _ _ c.in_ok-needs.ensures (then_read _ _ _ _ c.in_ok-hosts.ensures
    (then_read _ _ _ _ c.in_ok-runas.ensures (then_read _ _ _ _ c.in_ok-commands.ensures (then_read _ _ _ _ c.in_ok-longest.ensures refl))))))
