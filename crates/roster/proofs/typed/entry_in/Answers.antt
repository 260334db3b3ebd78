use Rattle.std.proofs.Common.{refl}
use Rattle.std.specs.Prelude.{codes}
use Rattle.toml.specs.Data.{as_str}
use Rattle.toml.specs.View.{table_view}
use Rattle.roster.specs.Document.{duty_entry, member_of}
use Rattle.roster.proofs.Loop.{then_read, then_wrong, wrong_behind}
use Rattle.sudo_words.proofs.Exits.{is_err}
use Rattle.roster.proofs.typed.entry_in.Goals as goal

pub returns-in_err-from : goal.returns-in_err-from
unfolding duty_entry
returns-in_err-from c =
    rw (is_err c.from_residual.result c.from_residual.ensures.1)
    (λ n. let h = c.in_err-from.ensures n in (h.0, wrong_behind (member_of as_str (codes "duty") (table_view c.args.table.now)) _ (λ _. then_wrong _ _ h.1)))

pub returns-in_err-until : goal.returns-in_err-until
unfolding duty_entry
returns-in_err-until c =
    rw (is_err c.from_residual-in_err-until.result c.from_residual-in_err-until.ensures.1) (λ n. let h = c.in_err-until.ensures n in (
      h.0,
      wrong_behind (member_of as_str (codes "duty") (table_view c.args.table.now)) _ (λ _. then_read _ _ _ _ c.in_ok-from.ensures (then_wrong _ _ h.1)),
    ))

pub returns-in_err-duty : goal.returns-in_err-duty
unfolding duty_entry
returns-in_err-duty c =
    rw (is_err c.from_residual-in_err-duty.result c.from_residual-in_err-duty.ensures.1)
    (λ n. let h = c.in_err-duty.ensures n in (h.0, then_wrong _ _ h.1))

pub returns : goal.returns
unfolding duty_entry
returns c = then_read _ _ _ _ c.in_ok-duty.ensures (then_read _ _ _ _ c.in_ok-from.ensures (then_read _ _ _ _ c.in_ok-until.ensures refl))
