use Rattle.sqlite.specs.Held.{state}
use Rattle.desk_store.proofs.ReplacingLemmas.{nothing_done, today_becomes, today_beside, today_survives}
use Rattle.desk_store.proofs.replacing.replace_today.Goals as goal

pub replace-requires-clause-desk : goal.replace-requires-clause-desk
replace-requires-clause-desk g c up = (c.requires.desk up).desk

pub returns-then-not-is_autocommit : goal.returns-then-not-is_autocommit
returns-then-not-is_autocommit g c = nothing_done c.args.roster.now (state g.S.Store c.args.conn.now) _ c.requires.rests

pub returns : goal.returns
returns g c =
    let old = state g.S.Store c.args.conn.now in
    let new = state g.S.Store c.replace.new.conn in
    record {
      rests = c.replace.ensures.rests;
      was_up = c.replace.ensures.was_up;
      was_clean = c.replace.ensures.was_clean;
      up = c.replace.ensures.up;
      becomes = λ up. today_becomes c.args.roster.now old new c.replace.result c.requires.desk c.replace.ensures.was_up up
          (c.replace.ensures.desk up) (c.replace.ensures.replaced up) (c.replace.ensures.others up);
      beside = λ up. today_beside c.args.roster.now old new c.replace.result c.requires.desk c.replace.ensures.was_up up (c.replace.ensures.others up);
      unchanged = c.replace.ensures.unchanged;
      survives = today_survives c.args.roster.now old new c.replace.result c.requires.desk c.replace.ensures.was_up c.replace.ensures.survives;
    }
