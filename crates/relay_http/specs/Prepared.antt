-- The program's responses, as responses of the definitions. For the program alone.
use Rattle.std.specs.Prelude.{◌≡◌, ◌∷◌, ◌++◌, ℕ, List, [], Result, Ok, Err, String, string_bytes}
use Rattle.std.specs.declared.alloc.Global.{Global}
use Rattle.sudo_words.specs.Bytes.{newline}
use Rattle.sudo_policy.specs.declared.entry.Entry.{Entry}
use Rattle.messages.specs.declared.message.Message.{Message}
use Rattle.roster.specs.Fields.{Reading}
use Rattle.desk.specs.Count.{IsCount}
use Rattle.desk.specs.declared.refusal.Refusal.{Refusal}
use Rattle.desk.specs.declared.refusal.Refusal.TheVariants.{NoMemory}
use Rattle.relay_http.specs.Outgoing.{body_bytes}
use Rattle.relay_http.specs.Responses.{Response, count_line, done, refusal, to_history}
use Rattle.relay_http.specs.declared.prepared.PreparedResponse.{PreparedResponse}

abbrev pub response_of : PreparedResponse → Response
response_of a = record { status = a.status; body = body_bytes a.body }

-- the response to a question of the desk
abbrev pub to_question : Result (String Global) Refusal → Response
to_question (Ok text) = done (string_bytes text)
to_question (Err e) = refusal e

-- the response to a question for the history
abbrev pub to_told : Result (String Global) Refusal → Response
to_told (Ok text) = to_history (string_bytes text)
to_told (Err e) = refusal e

-- the text is the line of the count, and a newline
abbrev pub IsCountText : Reading → (base : List Entry) → List Message → (text : List ℕ) → Type 0
IsCountText r base set text = (messages : ℕ) × IsCount set messages
    × (text ≡ count_line messages r.text base ++ newline ∷ [])

-- the file behind the line, unless memory is wanting; a refusal of the file stays
abbrev pub IsJoined : String Global → (file result : Result (String Global) Refusal) → Type 0
IsJoined line (Ok file) (Ok text) = string_bytes text ≡ string_bytes line ++ string_bytes file
IsJoined line (Ok file) (Err e) = e ≡ NoMemory
IsJoined line (Err e) result = result ≡ Err e
