-- What a map has at each name, as a message joins the set.
use Rattle.std.proofs.Common.{◌≡◌, ◌⊎◌, List, [], ◌∷◌, ◌++◌, Option, Some, None, refl, sym, subst, inl, inr}
use Rattle.std.specs.Option.{MatchOption}
use Rattle.std.specs.BTreeMap.{BTreeMap, IsOrdered}
use Rattle.std.proofs.lemmas.List.Elements.{Contains-append_left, Contains-push}
use Rattle.messages.specs.Names.{name_cmp}
use Rattle.messages.specs.declared.message.Message.{Message}
use Rattle.messages.specs.declared.request_name.RequestName.{RequestName}
use Rattle.outcomes.specs.private.ByName.{at_name}
use Rattle.outcomes.proofs.Membership.{no_member}
use Rattle.outcomes.proofs.NameMaps.{SetsAt, at_none, same_cases}
use Rattle.desk_audit.specs.Told.{TellsMessages, name_in}
use Rattle.findings.specs.declared.entry.About.{About}
use Rattle.desk_audit.specs.private.ByName.{Gathers, IsToldAt, NobodySpeaks}
use Rattle.desk_audit.proofs.ToldLemmas.{told_beside, was_among}

abbrev pub Abouts : Type 0
Abouts = BTreeMap RequestName About

-- what the map has at a name, for a set
abbrev pub IsAt : List Message → RequestName → Option About → Type 0
IsAt set name o = MatchOption o (NobodySpeaks set name) (IsToldAt set name)

pub none_gathered : (m : Abouts) → IsOrdered name_cmp m → m.entries ≡ [] → Gathers [] m
none_gathered m ordered empty = record {
  ordered = ordered;
  each = λ name. subst (IsAt [] name) (sym (at_none m name empty)) (λ n there named. no_member n there);
}

still_at : (set : List Message) (m : Message) (name : RequestName) → (name_in m ≡ name → ⊥) → (o : Option About) → IsAt set name o → IsAt (set ++ m ∷ []) name o
still_at set m name differ None nobody = λ n there named. nobody n (was_among set m n name differ there named) named
still_at set m name differ (Some about) is = record {
  spoken = (is.spoken.0, Contains-append_left set (m ∷ []) is.spoken.0 is.spoken.1, is.spoken.2);
  told = told_beside set m name about differ is.told;
}

-- one name is set, to what is told about it for the longer set, and the others stay
pub one_more : (set : List Message) (m : Message) (old new : Abouts) (about : About) → SetsAt old new (name_in m) about
    → IsOrdered name_cmp new → TellsMessages (set ++ m ∷ []) (name_in m) about → Gathers set old → Gathers (set ++ m ∷ []) new
one_more set m old new about sets ordered told g = record { ordered = ordered; each = λ other. stands other (same_cases (name_in m) other) }
  where
    here : IsToldAt (set ++ m ∷ []) (name_in m) about
    here = record { spoken = (m, Contains-push set m, refl); told = told }

    stands : (other : RequestName) → (name_in m ≡ other) ⊎ (name_in m ≡ other → ⊥) → IsAt (set ++ m ∷ []) other (at_name new other)
    stands other (inl same) =
        subst (λ (n : RequestName). IsAt (set ++ m ∷ []) n (at_name new n)) same (subst (IsAt (set ++ m ∷ []) (name_in m)) (sym sets.here) here)
    stands other (inr differ) =
        subst (IsAt (set ++ m ∷ []) other) (sym (sets.elsewhere other differ)) (still_at set m other differ (at_name old other) (g.each other))
