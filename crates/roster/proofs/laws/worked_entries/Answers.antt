use Rattle.std.proofs.Common.{◌≡◌, ℕ, ◌+◌, ◌/◌, ◌%◌, List, Some, true, false, get_or, refl, ap, arith}
use Rattle.std.specs.Prelude.{codes}
use Rattle.std.proofs.lemmas.List.Elements.{All-nil}
use Rattle.sudo_words.specs.Command.{IsLawful}
use Rattle.sudo_words.specs.Moment.{date_of, date_from_month, date_from_year}
use Rattle.sudo_words.specs.Word.{is_keyword}
use Rattle.toml.proofs.OnLiterals.{toml_on_literals}
use Rattle.toml.specs.Data.{Data, Members, no_members, member, array, table, string, no_items, item}
use Rattle.toml.specs.Parse.{parse_document}
use Rattle.roster.specs.Document.{day_from, day_spelled, duty_entry, has_known_keys, fields_of}
use Rattle.roster.specs.Fields.{in_texts}
use Rattle.roster.specs.Rules.{IsCmndText, IsNamedCeiling, GoodNames, good_names, are_known, has_self_conflict, in_range}
use Rattle.roster.specs.Worked.{text_with_days, with_days}
use Rattle.roster.specs.private.Stages.{IsDraftOf}
use Rattle.roster.specs.declared.days.Days.{Days}
use Rattle.roster.specs.declared.days.Days.TheVariants.{Between}
use Rattle.roster.proofs.DayLemmas.{none_spelled}
use Rattle.roster.proofs.FaultLemmas.{of_out_of_range, read_at_all}
use Rattle.roster.proofs.laws.worked_entries.Goals as goal

abbrev list_of : List ℕ → Data
list_of text = array (item (string text) no_items)

abbrev document : (from until : List ℕ) → Members
document from until =
    member (codes "ceilings") (table no_members)
    (member (codes "conflicts") (array no_items) (member (codes "duties") (list_of (codes "d")) (member (codes "hosts") (list_of (codes "h"))
    (member (codes "people") (table (member (codes "a") (array (item (table (member (codes "duty") (string (codes "d")) (member (codes "from") (string from)
    (member (codes "until") (string until) no_members)))) no_items)) no_members)) (member (codes "relays") (list_of (codes "r")) no_members)))))

keys : (from until : List ℕ) → has_known_keys (document from until) ≡ true
unfolding has_known_keys
keys from until = refl

types : (from until : List ℕ) → fields_of (document from until) ≡ Some (in_texts (with_days (Between (day_spelled from) (day_spelled until))))
unfolding fields_of duty_entry
types from until = refl

draft : (from until : List ℕ) (first last : ℕ) → parse_document (text_with_days from until) ≡ Some (document from until)
    → day_spelled from ≡ first → day_spelled until ≡ last → IsDraftOf (text_with_days from until) (in_texts (with_days (Between first last)))
draft from until first last toml low high = record {
  document = document from until;
  toml = toml;
  keys = keys from until;
  types = rw (low, high) at (types from until);
}

good : (days : Days) → GoodNames IsCmndText (in_texts (with_days days))
unfolding good_names is_keyword
good days = record { names = refl; ceilings = All-nil (IsNamedCeiling IsCmndText) }

known : (days : Days) → are_known (in_texts (with_days days)) ≡ true
unfolding are_known
known days = refl

apart : (days : Days) → has_self_conflict (in_texts (with_days days)) ≡ false
unfolding has_self_conflict
apart days = refl

-- ---- the days of the texts

first_day : day_spelled (codes "19700101") ≡ 0
unfolding day_spelled day_from date_of date_from_year date_from_month
first_day = refl

second_day : day_spelled (codes "19700102") ≡ 1
unfolding day_spelled day_from date_of date_from_year date_from_month
second_day = refl

no_day : day_spelled (codes "19700100") ≡ 47_482
no_day = none_spelled (codes "19700100") (λ day in_days is.
    let tens : 48 ≡ 48 + is.day_of_month / 10 = ap (λ (t : List ℕ). get_or t 6 0) is.text_is in
    let ones : 48 ≡ 48 + is.day_of_month % 10 = ap (λ (t : List ℕ). get_or t 7 0) is.text_is in
    absurd (omega (arith, tens, ones, is.date.2.0)))

-- ---- the texts

two_days : parse_document (text_with_days (codes "19700101") (codes "19700102")) ≡ Some (document (codes "19700101") (codes "19700102"))
unfolding toml_on_literals
two_days = refl

pub returns-clause-two_days : goal.returns-clause-two_days
unfolding good_names are_known has_self_conflict in_range is_keyword
returns-clause-two_days c =
    let d = draft (codes "19700101") (codes "19700102") 0 1 two_days first_day second_day in
    record {
      document = d.document;
      toml = d.toml;
      keys = d.keys;
      types = d.types;
      names = record { names = refl; ceilings = All-nil (IsNamedCeiling IsLawful) };
      known = refl;
      apart = refl;
      range = refl;
    }

backward : parse_document (text_with_days (codes "19700102") (codes "19700101")) ≡ Some (document (codes "19700102") (codes "19700101"))
unfolding toml_on_literals
backward = refl

backward_out : in_range (text_with_days (codes "19700102") (codes "19700101")) (in_texts (with_days (Between 1 0))) ≡ false
unfolding in_range
backward_out = refl

pub returns-clause-backward : goal.returns-clause-backward
returns-clause-backward c =
    of_out_of_range _ (in_texts (with_days (Between 1 0)))
    (draft (codes "19700102") (codes "19700101") 1 0 backward second_day first_day) (good _) (known _) (apart _) backward_out

until_no_day : parse_document (text_with_days (codes "19700101") (codes "19700100")) ≡ Some (document (codes "19700101") (codes "19700100"))
unfolding toml_on_literals
until_no_day = refl

no_day_out : in_range (text_with_days (codes "19700101") (codes "19700100")) (in_texts (with_days (Between 0 47_482))) ≡ false
unfolding in_range
no_day_out = refl

pub returns-clause-no_day : goal.returns-clause-no_day
returns-clause-no_day c =
    of_out_of_range _ (in_texts (with_days (Between 0 47_482)))
    (draft (codes "19700101") (codes "19700100") 0 47_482 until_no_day first_day no_day) (good _) (known _) (apart _) no_day_out

other_key : parse_document (codes "people={a=[{by='d'}]}") ≡ Some (member (codes "people")
    (table (member (codes "a") (array (item (table (member (codes "by") (string (codes "d")) no_members)) no_items)) no_members)) no_members)
unfolding toml_on_literals
other_key = refl

pub returns-clause-other_key : goal.returns-clause-other_key
unfolding has_known_keys
returns-clause-other_key c = ((_, other_key, refl), read_at_all (codes "people={a=[{by='d'}]}") _ other_key)
