use Rattle.std.proofs.Common.{◌≡◌, Some, None, true, pos, refl}
use Rattle.std.specs.Prelude.{codes}
use Rattle.std.proofs.lemmas.List.Elements.{All-nil}
use Rattle.sudo_words.specs.Command.{IsLawful}
use Rattle.sudo_words.specs.Word.{is_keyword}
use Rattle.toml.proofs.OnLiterals.{toml_on_literals}
use Rattle.toml.specs.Data.{Members, no_members, member, integer, array, table, string, no_items, item}
use Rattle.toml.specs.Parse.{parse_document}
use Rattle.roster.specs.Document.{has_known_keys, fields_of}
use Rattle.roster.specs.Rules.{IsNamedCeiling, good_names, are_known, has_self_conflict, in_range}
use Rattle.roster.specs.Worked.{smallest_text}
use Rattle.roster.proofs.FaultLemmas.{none_below_one, of_wrong_type, read_at_all}
use Rattle.roster.proofs.laws.worked_texts.Goals as goal

pub returns-clause-not_toml : goal.returns-clause-not_toml
unfolding toml_on_literals
returns-clause-not_toml c = (refl, none_below_one (codes "relays"))

x_is_one : parse_document (codes "x = 1") ≡ Some (member (codes "x") (integer (pos 1)) no_members)
unfolding toml_on_literals
x_is_one = refl

pub returns-clause-unknown_key : goal.returns-clause-unknown_key
unfolding has_known_keys
returns-clause-unknown_key c = ((_, x_is_one, refl), read_at_all (codes "x = 1") _ x_is_one)

pub returns-clause-missing_too : goal.returns-clause-missing_too
unfolding fields_of
returns-clause-missing_too c = (_, x_is_one, refl)

relays_is_one : parse_document (codes "relays = 1") ≡ Some (member (codes "relays") (integer (pos 1)) no_members)
unfolding toml_on_literals
relays_is_one = refl

abbrev relays_one : Members
relays_one = member (codes "relays") (integer (pos 1)) no_members

known : has_known_keys relays_one ≡ true
unfolding has_known_keys
known = refl

typed_wrong : fields_of relays_one ≡ None
unfolding fields_of
typed_wrong = refl

pub returns-clause-wrong_type : goal.returns-clause-wrong_type
returns-clause-wrong_type c = of_wrong_type (codes "relays = 1") relays_one relays_is_one known typed_wrong

abbrev document : Members
document =
    member (codes "ceilings") (table no_members) (member (codes "conflicts") (array no_items) (member (codes "duties") (array no_items)
    (member (codes "hosts") (array (item (string (codes "h")) no_items)) (member (codes "people") (table no_members)
    (member (codes "relays") (array (item (string (codes "r")) no_items)) no_members)))))

its_document : parse_document smallest_text ≡ Some document
unfolding toml_on_literals
its_document = refl

pub returns-clause-smallest_roster : goal.returns-clause-smallest_roster
unfolding has_known_keys fields_of good_names are_known has_self_conflict in_range is_keyword
returns-clause-smallest_roster c = record {
  document = document;
  toml = its_document;
  keys = refl;
  types = refl;
  names = record { names = refl; ceilings = All-nil (IsNamedCeiling IsLawful) };
  known = refl;
  apart = refl;
  range = refl;
}
