use Rattle.std.proofs.Common.{◌∙◌, Some, ap, sym}
use Rattle.roster.specs.Document.{ceiling_of}
use Rattle.roster.proofs.Loop.{members_more, members_read, members_wrong}
use Rattle.roster.proofs.Rising.{members_rise}
use Rattle.sudo_words.proofs.Exits.{is_err}
use Rattle.roster.proofs.typed.each_ceiling.Goals as goal

pub returns-in_err-ceiling-clause-reads : goal.returns-in_err-ceiling-clause-reads
returns-in_err-ceiling-clause-reads c =
    rw (is_err c.from_residual-in_err-ceiling.result c.from_residual-in_err-ceiling.ensures.1) (λ n. let h = c.in_err-ceiling.ensures n in (
      h.0,
      members_wrong ceiling_of c.loop-key.key-iterator c.next.new.self
          (c.in-Some.key.now, c.in-Some.value.now) c.loop-key.ceilings.items _ c.in-Some.ensures.steps h.1 c.loop-key.invariant,
    ))

pub loop-key-preserved : goal.loop-key-preserved
loop-key-preserved c =
    members_more ceiling_of c.loop-key.key-iterator c.next.new.self
    (c.in-Some.key.now, c.in-Some.value.now) c.in_ok-name.name c.in_ok-ceiling.ceiling c.loop-key.ceilings.items c.push.new.self.items _
    c.in-Some.ensures.steps (c.in_ok-name.ensures ∙ c.as_str.ensures.value) c.in_ok-ceiling.ensures c.in_ok-push.ensures.items c.loop-key.invariant

pub returns-clause-reads : goal.returns-clause-reads
returns-clause-reads c =
    members_read ceiling_of c.loop-key.key-iterator c.loop-key.ceilings.items _ c.in-None.ensures.steps.0 c.loop-key.invariant ∙ ap Some (sym c.new.ensures)

-- a table's keys rise, and they are all read
pub returns-clause-rising : goal.returns-clause-rising
returns-clause-rising c = members_rise ceiling_of c.args.table.now.entries c.new.result (returns-clause-reads c) c.iter-key-items.ensures.ordered
