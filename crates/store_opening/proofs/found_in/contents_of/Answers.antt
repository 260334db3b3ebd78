use Rattle.std.proofs.Common.{rules, ◌≡◌, List, Some, subst}
use Rattle.std.specs.Prelude.{string_bytes}
use Rattle.std.proofs.lemmas.Str.{IsUtf8-string_bytes}
use Rattle.sqlite.specs.Order.{Row}
use Rattle.store_opening.specs.private.Reading.{AreBodies, shown_mark}
use Rattle.store_opening.proofs.found_in.contents_of.Goals as goal

pub returns : goal.returns
returns c =
    let mark : shown_mark c.args.version c.as_slice.result.now ≡ Some (string_bytes c.in-Some.roster) = search rules in
    let bodies : AreBodies c.args.texts.messages.items c.in-Some-2.messages.items = search rules in
    record {
      marked = subst (λ (rows : List Row). shown_mark c.args.version rows ≡ Some (string_bytes c.in-Some.roster)) c.as_slice.ensures.value mark;
      utf8 = IsUtf8-string_bytes c.in-Some.roster;
      bodies = bodies;
    }
