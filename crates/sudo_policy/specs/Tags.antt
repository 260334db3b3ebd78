-- The tags of a command (sudoers(5), "Tag_Spec"): their words, what those before one command give,
-- what a command inherits, and how the tags of a rule are printed.
use Rattle.std.specs.Prelude.{Bool, true, false, List, [], ◌∷◌, ◌++◌}
use Rattle.std.specs.Prelude.{Some, None, if◌then◌else◌, unwrap_or, codes}
use Rattle.sudo_policy.specs.declared.tags.Tag.{Tag}
use Rattle.sudo_policy.specs.declared.tags.Tag.TheVariants.{Passwd, NoPasswd}
use Rattle.sudo_policy.specs.declared.tags.GivenTags.{GivenTags}
use Rattle.sudo_policy.specs.declared.tags.Tags.{Tags}
use Rattle.sudo_policy.specs.Text.{Text}

abbrev pub tag_word : Tag → Text
tag_word Passwd = codes "PASSWD"
tag_word NoPasswd = codes "NOPASSWD"

-- ---- what the tags before a command give: of a tag and its opposite the last one holds

-- no tag
abbrev pub none_given : GivenTags
none_given = record { nopasswd = None }

-- one tag more, behind those that give this
abbrev pub with_tag : GivenTags → Tag → GivenTags
with_tag given Passwd = record given { nopasswd = Some false }
with_tag given NoPasswd = record given { nopasswd = Some true }

-- these tags, in order, behind those that give this
abbrev pub given_after : GivenTags → List Tag → GivenTags
given_after given [] = given
given_after given (tag ∷ tags) = given_after (with_tag given tag) tags

abbrev pub given_by : List Tag → GivenTags
given_by tags = given_after none_given tags

-- ---- what a rule has

-- where no tag is given, a password is asked for
abbrev pub no_tags : Tags
no_tags = record { nopasswd = false }

-- what a command gives of its own overrides what held before it
abbrev pub with_tags : Tags → GivenTags → Tags
with_tags before given = record { nopasswd = unwrap_or given.nopasswd before.nopasswd }

-- ---- how they are printed: each that holds, with a colon and a blank

abbrev pub tag_text : Tag → Bool → Text
tag_text tag holds = if holds then tag_word tag ++ codes ": " else []

abbrev pub tags_text : Tags → Text
tags_text tags = tag_text NoPasswd tags.nopasswd
