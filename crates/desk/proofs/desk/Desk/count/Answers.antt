use Rattle.std.proofs.Common.{◌≡◌, ◌∙◌, ℕ, List, Option, length, map, ap, subst, sym}
use Rattle.std.specs.Prelude.{Contains, IfSome, string_bytes}
use Rattle.std.proofs.lemmas.List.{length-map}
use Rattle.messages.specs.Wire.{IsMessage}
use Rattle.messages.specs.declared.message.Message.{Message}
use Rattle.store_tables.specs.Sets.{Lists, SameSet}
use Rattle.desk.specs.Count.{IsCount}
use Rattle.desk.specs.State.{DeskState}
use Rattle.desk.specs.private.Known.{IsKnown, IsKnownOfUp}
use Rattle.desk.proofs.CountLemmas.{count_of_texts}
use Rattle.desk.proofs.KnownLemmas.{count_known, known_of_up_with, known_with, lists_still}
use Rattle.desk.proofs.desk.Desk.count.Goals as goal

-- the messages were counted before
pub returns-in-Some-clause-count : goal.returns-in-Some-clause-count
returns-in-Some-clause-count g c =
    let K = g.K.Keeper in
    let f = c.self.inside.roster.says in
    let old = c.self.inside.keeper in
    let answer : (set : List Message) → K.is_up old → Lists (K.holds old) set → IsCount set c.in-Some.count = λ set up lists.
    let found = count_known f (K.is_up old) (K.holds old) c.self.inside.known c.count_of.result c.self.invariant.4
    (c.count_of.ensures.counted f) c.count_of.ensures.nothing up set lists in
    subst (λ (o : Option ℕ). IfSome o (IsCount set)) c.in-Some.is found in
    rw (← c.self.view_is) answer

-- the messages are counted now
pub returns-clause-count : goal.returns-clause-count
returns-clause-count g c = λ set up lists.
    let K = g.K.Keeper in
    let old = c.args.self.now.keeper in
    let list = c.in_ok-texts.texts.items in
    let messages : (m : Message) → Contains set m → IsMessage m = λ m h. g.met.K.Keeper.holds_messages old m ((lists m).1 h) in
    let told = rw (← c.self-2.view_is) at c.in_ok-texts.ensures.texts in
    let count : IsCount set (length (map string_bytes list)) = count_of_texts set (map string_bytes list) messages (told set up lists) in
    subst (IsCount set) (length-map list string_bytes ∙ sym c.in_ok-texts.texts.ok.0 ∙ sym c.len-count.ensures) count

-- and they stay counted
pub invariant_of-self : goal.invariant_of-self
invariant_of-self g c =
    let K = g.K.Keeper in
    let f = c.self-2.inside.roster.says in
    let old = c.args.self.now.keeper in
    let k = c.self-2.inside.keeper in
    let was : c.self.inside.keeper ≡ old = ap (λ (d : DeskState _). d.keeper) c.self.view_is in
    let desk : K.is_up old → K.is_desk old = subst (λ x. K.is_up x → K.is_desk x) was c.self.invariant.1 in
    let served = rw (← c.self-2.view_is) at c.in_ok-texts.ensures.asks.served in
    let unchanged = rw (← c.self-2.view_is) at c.in_ok-texts.ensures.asks.unchanged in
    let same : K.is_up k → SameSet (K.holds old) (K.holds k) = λ up. g.met.K.Keeper.stays_set old k (unchanged up) (desk (served.was_up up)) in
    let before : (set : List Message) → Lists (K.holds k) set → K.is_up k → Lists (K.holds old) set = λ set lists up.
    lists_still (K.holds k) (K.holds old) set (λ m. ((same up m).1, (same up m).0)) lists in (
      c.self-2.invariant.0,
      c.self-2.invariant.1,
      c.self-2.invariant.2,
      c.self-2.invariant.3,
      known_with f (K.is_up k) (K.holds k) c.take.result c.with_count.result
          (subst (IsKnown f (K.is_up k) (K.holds k)) (sym c.take.ensures.value) c.self-2.invariant.4)
          (λ set lists up known. c.with_count.ensures.counted f set (returns-clause-count g c set up (before set lists up)) known) c.with_count.ensures.nothing,
      known_of_up_with (K.is_clean k) (K.is_up k) c.take.result c.with_count.result
          (subst (IsKnownOfUp (K.is_clean k) (K.is_up k)) (sym c.take.ensures.value) c.self-2.invariant.5) c.with_count.ensures.nothing,
      c.self-2.invariant.6,
      c.self-2.invariant.7,
    )
