use Rattle.std.proofs.Common.{subst}
use Rattle.store_opening.specs.private.Judged.{ShowsContents}
use Rattle.sqlite.specs.Held.{state}
use Rattle.store_opening.proofs.OpenedLemmas.{not_old_in, old_in}
use Rattle.store_opening.proofs.found_in.look_old.Goals as goal

pub contents_in-requires-clause-common : goal.contents_in-requires-clause-common
contents_in-requires-clause-common g c up = (c.requires.old up).common

pub returns-in-Some-clause-found : goal.returns-in-Some-clause-found
returns-in-Some-clause-found g c up =
    let it = c.in_ok-contents.ensures.found up in
    old_in (state g.S.Store c.args.conn.now).now (c.requires.old (c.contents_in.ensures.reads.was_up up)) it.0 it.1 it.2 c.in-Some.contents
    (subst (ShowsContents 1 it.0 it.1) c.in-Some.is it.3)

pub returns-in-None-clause-found : goal.returns-in-None-clause-found
returns-in-None-clause-found g c up =
    let it = c.in_ok-contents.ensures.found up in
    not_old_in (state g.S.Store c.args.conn.now).now (c.requires.old (c.contents_in.ensures.reads.was_up up)) it.0 it.1 it.2
    (subst (ShowsContents 1 it.0 it.1) c.in-None.is it.3)
