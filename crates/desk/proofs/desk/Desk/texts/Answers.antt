use Rattle.std.proofs.Common.{List}
use Rattle.std.specs.Prelude.{map, string_bytes}
use Rattle.messages.specs.declared.message.Message.{Message}
use Rattle.store_tables.specs.Sets.{Lists}
use Rattle.desk.specs.Texts.{AreTexts}
use Rattle.desk.proofs.QueryLemmas.{same_listed}
use Rattle.desk.proofs.TextLemmas.{texts_of_set}
use Rattle.desk.proofs.desk.Desk.texts.Goals as goal

pub returns-clause-texts : goal.returns-clause-texts
returns-clause-texts g c =
    let K = g.K.Keeper in
    let old = c.self.inside.keeper in
    let new = c.listed.new.keeper in
    let lent = c.in_ok-set.set.items in
    let answer : (set : List Message) → K.is_up new → Lists (K.holds old) set → AreTexts set (map string_bytes c.in_ok-texts_in.field-0.items) = λ set up lists.
    let same = same_listed (K.holds old) lent set (c.in_ok-set.ensures.listed up) lists in
    let are = rw c.as_slice.ensures.value at c.in_ok-texts_in.ensures in
    texts_of_set lent set (map string_bytes c.in_ok-texts_in.field-0.items) same are in
    rw (← c.self.view_is) answer
