-- The pieces of a line, and which requests can have one that is left. For private clauses.
use Rattle.std.specs.Prelude.{ℕ, Bool, true, List, ◌++◌, Option}
use Rattle.std.specs.Prelude.{Some, None, ◌&&◌, nat_le, map, codes}
use Rattle.std.specs.List.{list_any}
use Rattle.std.specs.Str.{bytes_eq}
use Rattle.sudo_words.specs.Moment.{stamp}
use Rattle.sudo_policy.specs.declared.entry.Entry.TheVariants as entries
use Rattle.sudo_policy.specs.declared.entry.Rule.{Rule}
use Rattle.sudo_policy.specs.Printing.{canon}
use Rattle.messages.specs.Fields.{RequestFields}

-- ---- texts

-- What comes before the command in a line: who may run it, on which host and as whom; and when.
abbrev pub who : List ℕ → RequestFields → List ℕ
who host q = q.by ++ codes " " ++ host ++ codes " = (" ++ q.runas

abbrev pub when : (first last : ℕ) → List ℕ
when first last =
    codes ") NOTBEFORE=" ++ stamp first ++ codes " NOTAFTER=" ++ stamp last ++ codes " "

-- the lines of rules
abbrev pub lines_text : List Rule → List ℕ
lines_text rules = canon (map entries.Rule rules)

-- ---- which lines are left

-- whether a line with this last moment is left
abbrev pub is_left : Option ℕ → ℕ → Bool
is_left None last = true
is_left (Some moment) last = nat_le moment last

abbrev pub names : RequestFields → List ℕ → Bool
names q host = list_any (λ h. bytes_eq h host) q.hosts

-- The request names the host, and asks for a window that ends late enough for a line to be left.
abbrev pub may_have : Option ℕ → List ℕ → RequestFields → Bool
may_have after host q = is_left after q.until && names q host
