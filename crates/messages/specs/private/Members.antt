-- The value that a message's text reads as, and the tree that it parses as. For private clauses.
use Rattle.std.specs.Prelude.{◌≡◌, ℕ, List, [], ◌∷◌, Some, IsUtf8, map, codes, decimal}
use Rattle.json.specs.Json as json
use Rattle.serde_json.specs.Data.{Data, number, unsigned, string, array, object}
use Rattle.serde_json.specs.Data.{Items, no_items, item, no_members, member}
use Rattle.serde_json.specs.Read.{read}
use Rattle.sudo_words.specs.Command.{cmnd_text}
use Rattle.messages.specs.Fields.{RequestFields, VerdictFields}
use Rattle.messages.specs.Wire.{kind_text, moment_text}
use Rattle.messages.specs.declared.message.Message.{Message}
use Rattle.messages.specs.declared.message.Message.TheVariants.{Request, Verdict}

abbrev pub strings : List (List ℕ) → Items
strings [] = no_items
strings (w ∷ ws) = item (string w) (strings ws)

abbrev pub request_value : RequestFields → Data
request_value r =
    object (member (codes "at") (string (moment_text r.at))
    (member (codes "by") (string r.by)
    (member (codes "ceiling") (string r.ceiling)
    (member (codes "cmnds") (array (strings (map cmnd_text r.cmnds)))
    (member (codes "from") (string (moment_text r.from))
    (member (codes "hosts") (array (strings r.hosts))
    (member (codes "kind") (string (codes "request"))
    (member (codes "no") (number (unsigned r.no))
    (member (codes "runas") (string r.runas)
    (member (codes "until") (string (moment_text r.until)) no_members))))))))))

abbrev pub verdict_value : VerdictFields → Data
verdict_value v =
    object (member (codes "at") (string (moment_text v.at))
    (member (codes "by") (string v.by)
    (member (codes "kind") (string (kind_text v.kind))
    (member (codes "no") (number (unsigned v.no))
    (member (codes "of") (string v.of) no_members)))))

abbrev pub value_of : Message → Data
value_of (Request r) = request_value r
value_of (Verdict v) = verdict_value v

-- ---- the same as a tree of JSON, whose numbers are their digits

abbrev pub text_items : List (List ℕ) → json.Items
text_items [] = json.no_items
text_items (w ∷ ws) = json.item (json.string w) (text_items ws)

abbrev pub request_tree : RequestFields → json.Json
request_tree r =
    json.object (json.member (codes "at") (json.string (moment_text r.at))
    (json.member (codes "by") (json.string r.by)
    (json.member (codes "ceiling") (json.string r.ceiling)
    (json.member (codes "cmnds") (json.array (text_items (map cmnd_text r.cmnds)))
    (json.member (codes "from") (json.string (moment_text r.from))
    (json.member (codes "hosts") (json.array (text_items r.hosts))
    (json.member (codes "kind") (json.string (codes "request"))
    (json.member (codes "no") (json.number (decimal r.no))
    (json.member (codes "runas") (json.string r.runas)
    (json.member (codes "until") (json.string (moment_text r.until)) json.no_members))))))))))

abbrev pub verdict_tree : VerdictFields → json.Json
verdict_tree v =
    json.object (json.member (codes "at") (json.string (moment_text v.at))
    (json.member (codes "by") (json.string v.by)
    (json.member (codes "kind") (json.string (kind_text v.kind))
    (json.member (codes "no") (json.number (decimal v.no))
    (json.member (codes "of") (json.string v.of) json.no_members)))))

abbrev pub tree_of : Message → json.Json
tree_of (Request r) = request_tree r
tree_of (Verdict v) = verdict_tree v

-- ---- what bytes read as

-- the bytes are JSON that reads as the value
abbrev pub ReadsAs : List ℕ → Data → Type 0
ReadsAs body value = IsUtf8 body × (read body ≡ Some value)
