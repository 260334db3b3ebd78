use Rattle.std.proofs.Common.{◌∙◌, List, subst, sym}
use Rattle.messages.specs.declared.message.Message.{Message}
use Rattle.store_tables.specs.Sets.{SameSet}
use Rattle.desk_cut.specs.Growing.{WithAll}
use Rattle.desk_cut.proofs.GrowingLemmas.{is_archive_of, is_cut_of, lists_same, only_these}
use Rattle.desk_cut.proofs.beginning.cut_into.Goals as goal

pub returns-clause-kept : goal.returns-clause-kept
returns-clause-kept g c up up_too =
    let A = g.A.Keeper in
    let B = g.B.Keeper in
    let old = c.args.old.now in
    let read = c.roster_of.new.keeper in
    let made = c.make.new.keeper in
    let filled = c.fill.new.keeper in
    let kept = c.in_ok-parts.parts.kept.items in
    let up_read = c.in_ok-messages.ensures.served.was_up up in
    let same = g.met.A.Keeper.stays_set old read (c.roster_of.ensures.same up_read) (c.in_ok-roster.ensures.desk up_read) in
    let nothing = c.in_ok-make.ensures.nothing (c.fill.ensures.up up_too) in
    let held = subst (λ (ms : List Message). SameSet (WithAll (B.holds made) ms) (B.holds filled)) c.deref.ensures.value (c.in_ok-fill.ensures.held up_too) in
    is_cut_of (A.holds old) (A.holds read) c.args.moment c.in_ok-messages.messages.items kept (B.holds filled) same
    (c.in_ok-messages.ensures.listed up) c.in_ok-parts.ensures.kept (only_these (B.holds made) (B.holds filled) kept nothing held)

pub returns-clause-archived : goal.returns-clause-archived
returns-clause-archived g c up =
    let A = g.A.Keeper in
    let old = c.args.old.now in
    let read = c.roster_of.new.keeper in
    let up_read = c.in_ok-messages.ensures.served.was_up up in
    let same = g.met.A.Keeper.stays_set old read (c.roster_of.ensures.same up_read) (c.in_ok-roster.ensures.desk up_read) in
    is_archive_of (A.holds old) (A.holds read) c.args.moment c.in_ok-messages.messages.items c.in_ok-parts.parts.archived.items same
    (c.in_ok-messages.ensures.listed up) c.in_ok-parts.ensures.archived

pub returns-clause-counted : goal.returns-clause-counted
returns-clause-counted g c up =
    let A = g.A.Keeper in
    let old = c.args.old.now in
    let read = c.roster_of.new.keeper in
    let list = c.in_ok-messages.messages.items in
    let up_read = c.in_ok-messages.ensures.served.was_up up in
    let same = g.met.A.Keeper.stays_set old read (c.roster_of.ensures.same up_read) (c.in_ok-roster.ensures.desk up_read) in (
      list,
      lists_same (A.holds old) (A.holds read) list same (c.in_ok-messages.ensures.listed up),
      c.in_ok-parts.parts.kept.items,
      c.in_ok-parts.ensures.kept,
      sym c.in_ok-parts.parts.kept.ok.0 ∙ sym c.len-kept.ensures,
    )
