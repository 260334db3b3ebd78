-- The one text of a message: a JSON object (RFC 8259) without spaces, whose members are in byte
-- order.
use Rattle.std.specs.Prelude.{ℕ, ◌||◌, ◌==◌, if◌then◌else◌, List}
use Rattle.std.specs.Prelude.{[], ◌∷◌, ◌++◌, map, codes, decimal}
use Rattle.sudo_words.specs.Moment.{stamp}
use Rattle.sudo_words.specs.Command.{cmnd_text}
use Rattle.messages.specs.Fields.{RequestFields, VerdictFields, IsRequest, IsVerdict}
use Rattle.messages.specs.declared.kind.VerdictKind.{VerdictKind}
use Rattle.messages.specs.declared.kind.VerdictKind.TheVariants.{Approve, Refuse, Revoke}
use Rattle.messages.specs.declared.message.Message.{Message}
use Rattle.messages.specs.declared.message.Message.TheVariants.{Request, Verdict}

-- with a backslash before each quote and each backslash
unfoldable pub escaped : List ℕ → List ℕ
escaped [] = []
escaped (b ∷ bs) = if (b == 34) || (b == 92) then 92 ∷ b ∷ escaped bs else b ∷ escaped bs

-- the 15 bytes of a moment, as `20260105090000Z`
unfoldable pub moment_text : ℕ → List ℕ
moment_text t = stamp t

-- a text between quotes
unfoldable pub quoted : List ℕ → List ℕ
quoted w = codes "\"" ++ escaped w ++ codes "\""

-- the texts of a list after the first one, and the closing bracket
unfoldable pub rest_text : List (List ℕ) → List ℕ
rest_text [] = codes "]"
rest_text (w ∷ ws) = codes "," ++ quoted w ++ rest_text ws

-- a list of texts between brackets
unfoldable pub list_text : List (List ℕ) → List ℕ
list_text [] = codes "[]"
list_text (w ∷ ws) = codes "[" ++ quoted w ++ rest_text ws

-- the word for what a verdict does
abbrev pub kind_text : VerdictKind → List ℕ
kind_text Approve = codes "approve"
kind_text Refuse = codes "refuse"
kind_text Revoke = codes "revoke"

abbrev pub request_text : RequestFields → List ℕ
request_text r =
    codes "{\"at\":" ++ quoted (moment_text r.at)
    ++ codes ",\"by\":" ++ quoted r.by
    ++ codes ",\"ceiling\":" ++ quoted r.ceiling
    ++ codes ",\"cmnds\":" ++ list_text (map cmnd_text r.cmnds)
    ++ codes ",\"from\":" ++ quoted (moment_text r.from)
    ++ codes ",\"hosts\":" ++ list_text r.hosts
    ++ codes ",\"kind\":" ++ quoted (codes "request")
    ++ codes ",\"no\":" ++ decimal r.no
    ++ codes ",\"runas\":" ++ quoted r.runas
    ++ codes ",\"until\":" ++ quoted (moment_text r.until)
    ++ codes "}"

abbrev pub verdict_text : VerdictFields → List ℕ
verdict_text v =
    codes "{\"at\":" ++ quoted (moment_text v.at)
    ++ codes ",\"by\":" ++ quoted v.by
    ++ codes ",\"kind\":" ++ quoted (kind_text v.kind)
    ++ codes ",\"no\":" ++ decimal v.no
    ++ codes ",\"of\":" ++ quoted v.of
    ++ codes "}"

-- the text of a message
abbrev pub wire : Message → List ℕ
wire (Request r) = request_text r
wire (Verdict v) = verdict_text v

-- the message is valid
abbrev pub IsMessage : Message → Type 0
IsMessage (Request r) = IsRequest r
IsMessage (Verdict v) = IsVerdict v
