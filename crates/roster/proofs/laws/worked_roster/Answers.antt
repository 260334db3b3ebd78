use Rattle.std.proofs.Common.{◌≡◌, [], Some, true, false, pos, refl, lit≤}
use Rattle.std.specs.Prelude.{codes}
use Rattle.std.proofs.lemmas.List.Elements.{All-cons, All-nil}
use Rattle.sudo_words.specs.Command.{IsLawful}
use Rattle.sudo_words.specs.Moment.{date_from_month, date_from_year, date_of}
use Rattle.sudo_words.specs.Word.{is_keyword}
use Rattle.sudo_words.specs.declared.cmnd.Cmnd.TheVariants.{All}
use Rattle.toml.proofs.OnLiterals.{toml_on_literals}
use Rattle.toml.specs.Data.{Members, array, integer, item, member, no_items, no_members, string, table}
use Rattle.toml.specs.Parse.{parse_document}
use Rattle.roster.specs.Document.{day_from, day_spelled, duty_entry, fields_of, ceiling_of, has_known_keys}
use Rattle.roster.specs.Fields.{in_texts}
use Rattle.roster.specs.Rules.{GoodNames, IsNamedCeiling, are_known, good_names, has_self_conflict, in_range}
use Rattle.roster.specs.Worked.{everything, shop, shop_text}
use Rattle.roster.proofs.laws.worked_roster.Goals as goal

abbrev document : Members
document =
    member (codes "ceilings") (table (member (codes "db-root") (table (
    member (codes "approve") (string (codes "approve"))
    (member (codes "ask") (string (codes "operate"))
    (member (codes "commands") (array (item (string (codes "ALL")) no_items))
    (member (codes "hosts") (array (item (string (codes "db")) no_items))
    (member (codes "longest") (integer (pos 3600))
    (member (codes "needs") (integer (pos 1))
    (member (codes "runas") (array (item (string (codes "root")) no_items)) no_members))))))
    )) no_members))
    (member (codes "conflicts") (array (item (array (item (string (codes "audit")) (item (string (codes "approve")) no_items))) no_items))
    (member (codes "duties") (array (item (string (codes "approve")) (item (string (codes "audit")) (item (string (codes "operate")) no_items))))
    (member (codes "hosts") (array (item (string (codes "db")) no_items))
    (member (codes "people") (table (
    member (codes "ann") (array (item (string (codes "operate")) no_items))
    (member (codes "eve") (array (item (string (codes "approve")) (item (table (
    member (codes "duty") (string (codes "audit"))
    (member (codes "from") (string (codes "19700104"))
    (member (codes "until") (string (codes "19700105")) no_members))
    )) no_items))) no_members)
    ))
    (member (codes "relays") (array (item (string (codes "mail")) no_items)) no_members)))))

its_document : parse_document shop_text ≡ Some document
unfolding toml_on_literals
its_document = refl

keys : has_known_keys document ≡ true
unfolding has_known_keys
keys = refl

types : fields_of document ≡ Some (in_texts shop)
unfolding fields_of ceiling_of duty_entry day_spelled day_from date_of date_from_year date_from_month
types = refl

names : GoodNames IsLawful shop
unfolding good_names is_keyword
names = record {
  names = refl;
  ceilings = All-cons (IsNamedCeiling IsLawful) (codes "db-root", everything) [] (record {
    label = refl;
    ask = refl;
    approve = refl;
    hosts = refl;
    runas = refl;
    commands = All-cons IsLawful All [] (record { head = tt; args = tt; short = lit≤ tt }) (All-nil IsLawful);
  }) (All-nil (IsNamedCeiling IsLawful));
}

known : are_known shop ≡ true
unfolding are_known
known = refl

apart : has_self_conflict shop ≡ false
unfolding has_self_conflict
apart = refl

range : in_range shop_text shop ≡ true
unfolding in_range
range = refl

pub returns : goal.returns
returns c = record {
  document = document;
  toml = its_document;
  keys = keys;
  types = types;
  names = names;
  known = known;
  apart = apart;
  range = range;
}
