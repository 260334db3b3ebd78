-- No text is the text of two rosters.
use Rattle.std.proofs.Common.{◌≡◌, ℕ, ◌∙◌, List, [], ◌∷◌, map, refl, sym, ap, ap₂}
use Rattle.std.specs.Prelude.{All}
use Rattle.std.proofs.lemmas.List.Elements.{All-head, All-tail}
use Rattle.std.proofs.lemmas.Option.{same_Some}
use Rattle.sudo_words.specs.Command.{IsLawful}
use Rattle.sudo_words.specs.declared.cmnd.Cmnd.{Cmnd}
use Rattle.sudo_words.proofs.CommandLemmas.{one_cmnds}
use Rattle.roster.specs.Document.{fields_of}
use Rattle.roster.specs.Faults.{IsRosterText}
use Rattle.roster.specs.Fields.{CeilingFields, RosterFields, ceiling_in_texts, entry_in_texts, in_texts}
use Rattle.roster.specs.Rules.{IsNamedCeiling, GoodNames}

one_ceiling : (c d : CeilingFields Cmnd) → All IsLawful c.commands → All IsLawful d.commands → ceiling_in_texts c ≡ ceiling_in_texts d → c ≡ d
one_ceiling c d a b e =
    let ask : c.ask ≡ d.ask = ap (λ (x : CeilingFields (List ℕ)). x.ask) e in
    let approve : c.approve ≡ d.approve = ap (λ (x : CeilingFields (List ℕ)). x.approve) e in
    let needs : c.needs ≡ d.needs = ap (λ (x : CeilingFields (List ℕ)). x.needs) e in
    let hosts : c.hosts ≡ d.hosts = ap (λ (x : CeilingFields (List ℕ)). x.hosts) e in
    let runas : c.runas ≡ d.runas = ap (λ (x : CeilingFields (List ℕ)). x.runas) e in
    let commands = one_cmnds c.commands d.commands a b (ap (λ (x : CeilingFields (List ℕ)). x.commands) e) in
    let longest : c.longest ≡ d.longest = ap (λ (x : CeilingFields (List ℕ)). x.longest) e in
    λ i. record { ask = ask i; approve = approve i; needs = needs i; hosts = hosts i; runas = runas i; commands = commands i; longest = longest i }

abbrev Entry : Type 0
Entry = List ℕ × CeilingFields Cmnd

one_entry : (c d : Entry) → IsNamedCeiling IsLawful c → IsNamedCeiling IsLawful d → entry_in_texts c ≡ entry_in_texts d → c ≡ d
one_entry c d a b e =
    let label : c.0 ≡ d.0 = ap (λ (x : List ℕ × CeilingFields (List ℕ)). x.0) e in
    let ceiling = one_ceiling c.1 d.1 a.commands b.commands (ap (λ (x : List ℕ × CeilingFields (List ℕ)). x.1) e) in
    λ i. (label i, ceiling i)

one_ceilings : (cs ds : List Entry) → All (IsNamedCeiling IsLawful) cs → All (IsNamedCeiling IsLawful) ds
    → map entry_in_texts cs ≡ map entry_in_texts ds → cs ≡ ds
one_ceilings [] [] a b e = refl
one_ceilings [] (d ∷ ds) a b e = absurd cc
one_ceilings (c ∷ cs) [] a b e = absurd cc
one_ceilings (c ∷ cs) (d ∷ ds) a b e =
    let first : entry_in_texts c ≡ entry_in_texts d = cc in
    let rest : map entry_in_texts cs ≡ map entry_in_texts ds = cc in
    let named = IsNamedCeiling IsLawful in
    ap₂ (λ (x : Entry) (xs : List Entry). x ∷ xs) (one_entry c d (All-head named c cs a) (All-head named d ds b) first)
    (one_ceilings cs ds (All-tail named c cs a) (All-tail named d ds b) rest)

-- rosters that are alike in texts are the same
pub one_in_texts : (f g : RosterFields Cmnd) → GoodNames IsLawful f → GoodNames IsLawful g → in_texts f ≡ in_texts g → f ≡ g
one_in_texts f g a b e =
    let relays : f.relays ≡ g.relays = ap (λ (x : RosterFields (List ℕ)). x.relays) e in
    let hosts : f.hosts ≡ g.hosts = ap (λ (x : RosterFields (List ℕ)). x.hosts) e in
    let duties : f.duties ≡ g.duties = ap (λ (x : RosterFields (List ℕ)). x.duties) e in
    let conflicts : f.conflicts ≡ g.conflicts = ap (λ (x : RosterFields (List ℕ)). x.conflicts) e in
    let people : f.people ≡ g.people = ap (λ (x : RosterFields (List ℕ)). x.people) e in
    let ceilings = one_ceilings f.ceilings g.ceilings a.ceilings b.ceilings (ap (λ (x : RosterFields (List ℕ)). x.ceilings) e) in
    λ i. record { relays = relays i; hosts = hosts i; duties = duties i; conflicts = conflicts i; people = people i; ceilings = ceilings i }

-- a text has one document, and what that says is what one roster says
pub one_roster : (text : List ℕ) (f g : RosterFields Cmnd) → IsRosterText text f → IsRosterText text g → f ≡ g
one_roster text f g a b =
    let document : a.document ≡ b.document = same_Some _ _ (sym a.toml ∙ b.toml) in
    one_in_texts f g a.names b.names (same_Some _ _ (sym a.types ∙ ap fields_of document ∙ b.types))
