-- The canonical text of a policy: one entry a line, in order, each line ended by a newline, without
-- comments.
use Rattle.std.specs.Prelude.{ℕ, List, [], ◌∷◌, ◌++◌, Option}
use Rattle.std.specs.Prelude.{Some, None, if◌then◌else◌, codes}
use Rattle.std.specs.List.{flat_map}
use Rattle.sudo_words.specs.Bytes.{newline, bang}
use Rattle.sudo_words.specs.Moment.{stamp}
use Rattle.sudo_words.specs.Command.{cmnd_text}
use Rattle.sudo_policy.specs.declared.entry.Signed.{Signed}
use Rattle.sudo_policy.specs.declared.entry.Item.{Item}
use Rattle.sudo_policy.specs.declared.entry.Item.TheVariants as items
use Rattle.sudo_policy.specs.declared.entry.CmndItem.{CmndItem}
use Rattle.sudo_policy.specs.declared.entry.CmndItem.TheVariants as cmnds
use Rattle.sudo_policy.specs.declared.entry.Rule.{Rule}
use Rattle.sudo_policy.specs.declared.entry.Entry.{Entry}
use Rattle.sudo_policy.specs.declared.entry.Entry.TheVariants as entries
use Rattle.sudo_policy.specs.Text.{Text, Names}
use Rattle.sudo_policy.specs.Tags.{tags_text}

-- an item of users, hosts or targets; names are seen as their bytes
abbrev pub item_text : Item Text → Text
item_text items.All = codes "ALL"
item_text (items.Name name) = name
item_text (items.Alias name) = name

abbrev pub cmnd_item_text : CmndItem → Text
cmnd_item_text (cmnds.Alias name) = name
cmnd_item_text (cmnds.Cmnd cmnd) = cmnd_text cmnd

-- one `!` before what is negated
abbrev pub signed_text : {X : Type 0} → (X → Text) → Signed X → Text
signed_text f s = if s.negated then bang ∷ f s.item else f s.item

-- what follows the first item: a comma and a space before each
abbrev pub tail_text : {X : Type 0} → (X → Text) → List X → Text
tail_text f [] = []
tail_text f (x ∷ xs) = codes ", " ++ f x ++ tail_text f xs

abbrev pub comma_separated : {X : Type 0} → (X → Text) → List X → Text
comma_separated f [] = []
comma_separated f (x ∷ xs) = f x ++ tail_text f xs

-- a list of users, hosts or targets, and one of commands
abbrev pub names_text : Names → Text
names_text xs = comma_separated (signed_text item_text) xs

abbrev pub cmnds_text : List (Signed CmndItem) → Text
cmnds_text xs = comma_separated (signed_text cmnd_item_text) xs

-- ---- rules: `USERS HOSTS = (RUNAS) [NOTBEFORE=M ][NOTAFTER=M ][TAG: ]COMMAND`

abbrev pub date_option_text : Text → Option ℕ → Text
date_option_text option None = []
date_option_text option (Some moment) = option ++ codes "=" ++ stamp moment ++ codes " "

-- what stands before the dates and the command: the users, the hosts, and the targets in
-- parentheses
abbrev pub who_text : Rule → Text
who_text r = names_text r.users ++ codes " " ++ names_text r.hosts
    ++ codes " = (" ++ names_text r.runas ++ codes ") "

abbrev pub what_text : Rule → Text
what_text r =
    date_option_text (codes "NOTBEFORE") r.not_before
    ++ date_option_text (codes "NOTAFTER") r.not_after
    ++ tags_text r.tags ++ signed_text cmnd_item_text r.cmnd

abbrev pub rule_text : Rule → Text
rule_text r = who_text r ++ what_text r

-- ---- entries: a rule, or `KIND NAME = LIST`

abbrev pub alias_text : Text → Text → Text → Text
alias_text kind name list = kind ++ codes " " ++ name ++ codes " = " ++ list

abbrev pub entry_text : Entry → Text
entry_text (entries.UserAlias name list) = alias_text (codes "User_Alias") name (names_text list)
entry_text (entries.RunasAlias name list) = alias_text (codes "Runas_Alias") name (names_text list)
entry_text (entries.HostAlias name list) = alias_text (codes "Host_Alias") name (names_text list)
entry_text (entries.CmndAlias name list) = alias_text (codes "Cmnd_Alias") name (cmnds_text list)
entry_text (entries.Rule rule) = rule_text rule

abbrev pub line_text : Entry → Text
line_text e = entry_text e ++ newline ∷ []

abbrev pub canon : List Entry → Text
canon es = flat_map line_text es
