use Rattle.std.proofs.Common.{refl}
use Rattle.roster.specs.Document.{fields_of}
use Rattle.roster.proofs.Loop.{then_read, then_wrong}
use Rattle.sudo_words.proofs.Exits.{is_err}
use Rattle.roster.proofs.typed.draft_of.Goals as goal

pub returns-in_err-relays-clause-reads : goal.returns-in_err-relays-clause-reads
unfolding fields_of
returns-in_err-relays-clause-reads c =
    rw (is_err c.from_residual.result c.from_residual.ensures.1)
    (λ n. let h = c.in_err-relays.ensures n in (h.0, then_wrong _ _ h.1))

pub returns-in_err-hosts-clause-reads : goal.returns-in_err-hosts-clause-reads
unfolding fields_of
returns-in_err-hosts-clause-reads c =
    rw (is_err c.from_residual-in_err-hosts.result c.from_residual-in_err-hosts.ensures.1)
    (λ n. let h = c.in_err-hosts.ensures n in (h.0, then_read _ _ _ _ c.in_ok-relays.ensures (then_wrong _ _ h.1)))

pub returns-in_err-duties-clause-reads : goal.returns-in_err-duties-clause-reads
unfolding fields_of
returns-in_err-duties-clause-reads c =
    rw (is_err c.from_residual-in_err-duties.result c.from_residual-in_err-duties.ensures.1)
    (λ n. let h = c.in_err-duties.ensures n in (h.0, then_read _ _ _ _ c.in_ok-relays.ensures (then_read _ _ _ _ c.in_ok-hosts.ensures (then_wrong _ _ h.1))))

pub returns-in_err-conflicts-clause-reads : goal.returns-in_err-conflicts-clause-reads
unfolding fields_of
returns-in_err-conflicts-clause-reads c =
    rw (is_err c.from_residual-in_err-conflicts.result c.from_residual-in_err-conflicts.ensures.1) (λ n. let h = c.in_err-conflicts.ensures n in (
      h.0,
      then_read _ _ _ _ c.in_ok-relays.ensures (then_read _ _ _ _ c.in_ok-hosts.ensures (then_read _ _ _ _ c.in_ok-duties.ensures (then_wrong _ _ h.1))),
    ))

pub returns-in_err-people-clause-reads : goal.returns-in_err-people-clause-reads
unfolding fields_of
returns-in_err-people-clause-reads c =
    rw (is_err c.from_residual-in_err-people.result c.from_residual-in_err-people.ensures.1) (λ n. let h = c.in_err-people.ensures.reads n in (
      h.0,
      then_read _ _ _ _ c.in_ok-relays.ensures (then_read _ _ _ _ c.in_ok-hosts.ensures
          (then_read _ _ _ _ c.in_ok-duties.ensures (then_read _ _ _ _ c.in_ok-conflicts.ensures (then_wrong _ _ h.1)))),
    ))

pub returns-in_err-ceilings-clause-reads : goal.returns-in_err-ceilings-clause-reads
unfolding fields_of
returns-in_err-ceilings-clause-reads c =
    rw (is_err c.from_residual-in_err-ceilings.result c.from_residual-in_err-ceilings.ensures.1) (λ n. let h = c.in_err-ceilings.ensures.reads n in (
      h.0,
      then_read _ _ _ _ c.in_ok-relays.ensures (then_read _ _ _ _ c.in_ok-hosts.ensures (then_read _ _ _ _ c.in_ok-duties.ensures
          (then_read _ _ _ _ c.in_ok-conflicts.ensures (then_read _ _ _ _ c.in_ok-people.ensures.reads (then_wrong _ _ h.1))))),
    ))

pub returns-clause-reads : goal.returns-clause-reads
unfolding fields_of
returns-clause-reads c = then_read _ _ _ _ c.in_ok-relays.ensures (then_read _ _ _ _ c.in_ok-hosts.ensures (then_read _ _ _ _ c.in_ok-duties.ensures
    (then_read _ _ _ _ c.in_ok-conflicts.ensures (then_read _ _ _ _ c.in_ok-people.ensures.reads (then_read _ _ _ _ c.in_ok-ceilings.ensures.reads refl)))))

pub returns-clause-ordered : goal.returns-clause-ordered
returns-clause-ordered c = record { people = c.in_ok-people.ensures.rising; ceilings = c.in_ok-ceilings.ensures.rising }
