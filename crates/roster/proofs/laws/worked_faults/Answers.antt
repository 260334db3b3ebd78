use Rattle.std.proofs.Common.{◌≡◌, ℕ, List, [], ◌∷◌, true, false, refl}
use Rattle.std.specs.Prelude.{codes}
use Rattle.std.proofs.lemmas.Bool.{false≢true}
use Rattle.std.proofs.lemmas.List.Elements.{All-nil}
use Rattle.sudo_words.specs.Word.{is_keyword}
use Rattle.toml.proofs.OnLiterals.{toml_on_literals}
use Rattle.toml.specs.Data.{Items, Members, array, item, member, no_items, no_members, string, table}
use Rattle.roster.specs.Document.{duty_entry, fields_of, has_known_keys}
use Rattle.roster.specs.Fields.{RosterFields}
use Rattle.roster.specs.Rules.{GoodNames, IsCmndText, IsNamedCeiling, are_known, good_names, has_self_conflict, in_range}
use Rattle.roster.specs.Worked.{roster_text}
use Rattle.roster.specs.private.Stages.{IsDraftOf}
use Rattle.roster.specs.declared.days.Days.TheVariants.{Always}
use Rattle.roster.proofs.FaultLemmas.{of_bad_name, of_out_of_range, of_self_conflict, of_unknown_name}
use Rattle.roster.proofs.laws.worked_faults.Goals as goal

-- the document of such a text, and what it says, with at most one host and one pair
abbrev hosts_listed : List (List ℕ) → Items
hosts_listed [] = no_items
hosts_listed (h ∷ hs) = item (string h) (hosts_listed hs)

abbrev pairs_listed : List (List ℕ × List ℕ) → Items
pairs_listed [] = no_items
pairs_listed (p ∷ ps) = item (array (item (string p.0) (item (string p.1) no_items))) (pairs_listed ps)

abbrev document : (hosts : List (List ℕ)) (pairs : List (List ℕ × List ℕ)) (duty : List ℕ) → Members
document hosts pairs duty =
    member (codes "ceilings") (table no_members) (member (codes "conflicts") (array (pairs_listed pairs))
    (member (codes "duties") (array (item (string (codes "d")) no_items)) (member (codes "hosts") (array (hosts_listed hosts)) (member (codes "people") (table
    (member (codes "a") (array (item (string duty) no_items)) no_members)) (member (codes "relays") (array (item (string (codes "r")) no_items)) no_members)))))

abbrev content : (hosts : List (List ℕ)) (pairs : List (List ℕ × List ℕ)) (duty : List ℕ) → RosterFields (List ℕ)
content hosts pairs duty = record {
  relays = codes "r" ∷ [];
  hosts = hosts;
  duties = codes "d" ∷ [];
  conflicts = pairs;
  people = (codes "a", (duty, Always) ∷ []) ∷ [];
  ceilings = [];
}

abbrev itself : List (List ℕ × List ℕ)
itself = (codes "d", codes "d") ∷ []

-- ---- a host in upper case

upper : IsDraftOf (roster_text (codes "'H'") (codes "'d'") [] (codes "a=['d']")) (content (codes "H" ∷ []) [] (codes "d"))
unfolding toml_on_literals has_known_keys fields_of duty_entry
upper = record { document = document (codes "H" ∷ []) [] (codes "d"); toml = refl; keys = refl; types = refl }

upper_bad : ¬ GoodNames IsCmndText (content (codes "H" ∷ []) [] (codes "d"))
unfolding good_names is_keyword
upper_bad good = false≢true good.names

-- ---- a duty that is not listed

other : IsDraftOf (roster_text (codes "'h'") (codes "'d'") [] (codes "a=['e']")) (content (codes "h" ∷ []) [] (codes "e"))
unfolding toml_on_literals has_known_keys fields_of duty_entry
other = record { document = document (codes "h" ∷ []) [] (codes "e"); toml = refl; keys = refl; types = refl }

other_good : GoodNames IsCmndText (content (codes "h" ∷ []) [] (codes "e"))
unfolding good_names is_keyword
other_good = record { names = refl; ceilings = All-nil (IsNamedCeiling IsCmndText) }

other_unknown : are_known (content (codes "h" ∷ []) [] (codes "e")) ≡ false
unfolding are_known
other_unknown = refl

-- ---- a duty that conflicts with itself

self : IsDraftOf (roster_text (codes "'h'") (codes "'d'") (codes "['d','d']") (codes "a=['d']")) (content (codes "h" ∷ []) itself (codes "d"))
unfolding toml_on_literals has_known_keys fields_of duty_entry
self = record { document = document (codes "h" ∷ []) itself (codes "d"); toml = refl; keys = refl; types = refl }

self_good : GoodNames IsCmndText (content (codes "h" ∷ []) itself (codes "d"))
unfolding good_names is_keyword
self_good = record { names = refl; ceilings = All-nil (IsNamedCeiling IsCmndText) }

self_known : are_known (content (codes "h" ∷ []) itself (codes "d")) ≡ true
unfolding are_known
self_known = refl

self_itself : has_self_conflict (content (codes "h" ∷ []) itself (codes "d")) ≡ true
unfolding has_self_conflict
self_itself = refl

-- ---- no host

bare : IsDraftOf (roster_text [] (codes "'d'") [] (codes "a=['d']")) (content [] [] (codes "d"))
unfolding toml_on_literals has_known_keys fields_of duty_entry
bare = record { document = document [] [] (codes "d"); toml = refl; keys = refl; types = refl }

bare_good : (pairs : List (List ℕ × List ℕ)) → good_names (content [] pairs (codes "d")) ≡ true → GoodNames IsCmndText (content [] pairs (codes "d"))
bare_good pairs good = record { names = good; ceilings = All-nil (IsNamedCeiling IsCmndText) }

bare_names : good_names (content [] [] (codes "d")) ≡ true
unfolding good_names is_keyword
bare_names = refl

bare_known : are_known (content [] [] (codes "d")) ≡ true
unfolding are_known
bare_known = refl

bare_apart : has_self_conflict (content [] [] (codes "d")) ≡ false
unfolding has_self_conflict
bare_apart = refl

bare_out : in_range (roster_text [] (codes "'d'") [] (codes "a=['d']")) (content [] [] (codes "d")) ≡ false
unfolding in_range
bare_out = refl

-- ---- both

both : IsDraftOf (roster_text [] (codes "'d'") (codes "['d','d']") (codes "a=['d']")) (content [] itself (codes "d"))
unfolding toml_on_literals has_known_keys fields_of duty_entry
both = record { document = document [] itself (codes "d"); toml = refl; keys = refl; types = refl }

both_names : good_names (content [] itself (codes "d")) ≡ true
unfolding good_names is_keyword
both_names = refl

both_known : are_known (content [] itself (codes "d")) ≡ true
unfolding are_known
both_known = refl

both_itself : has_self_conflict (content [] itself (codes "d")) ≡ true
unfolding has_self_conflict
both_itself = refl

pub returns : goal.returns
returns c = record {
  bad_name = of_bad_name _ (content (codes "H" ∷ []) [] (codes "d")) upper upper_bad;
  unknown_name = of_unknown_name _ (content (codes "h" ∷ []) [] (codes "e")) other other_good other_unknown;
  self_conflict = of_self_conflict _ (content (codes "h" ∷ []) itself (codes "d")) self self_good self_known self_itself;
  out_of_range = of_out_of_range _ (content [] [] (codes "d")) bare (bare_good [] bare_names) bare_known bare_apart bare_out;
  lesser = of_self_conflict _ (content [] itself (codes "d")) both (bare_good itself both_names) both_known both_itself;
}
