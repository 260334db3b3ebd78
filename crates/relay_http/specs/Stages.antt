-- How far an exchange has come with a request. For the program alone: no promise cites it.
use Rattle.std.specs.Prelude.{◌≡◌, ◌≢◌, ◌≤◌, ◌<◌, ◌++◌, ℕ, List, [], ◌∷◌, Result, Ok, Err, codes}
use Rattle.std.specs.Prelude.{length, map, if◌then◌else◌}
use Rattle.std.specs.Str.Parse.{digits_value}
use Rattle.httparse.specs.Grammar.{HasNoRequest, MayBecomeRequest, RequestHead, print_request}
use Rattle.httparse.specs.Spans.{IsWithin, name_and_value, span_bytes}
use Rattle.relay_http.specs.Content.{is_length, sized}
use Rattle.relay_http.specs.Fields.{Fields, is_bad_host, values}
use Rattle.relay_http.specs.Needs.{HasNoHead, IsSettled, LacksContent}
use Rattle.relay_http.specs.Scan.{scanned}
use Rattle.relay_http.specs.RequestBytes.{HasHead, front, most_head_bytes}
use Rattle.relay_http.specs.declared.exchange.Stage.{Stage}
use Rattle.relay_http.specs.declared.exchange.Stage.TheVariants as stage
use Rattle.relay_http.specs.declared.fault.RequestFault.{RequestFault}
use Rattle.relay_http.specs.declared.fault.RequestFault.TheVariants.{LengthRequired, BadLength}
use Rattle.relay_http.specs.declared.head.Head.{Head}
use Rattle.relay_http.specs.declared.head.Looked.{Looked}
use Rattle.relay_http.specs.declared.head.Looked.TheVariants as looked
use Rattle.relay_http.specs.declared.head_scan.HeadScan.TheVariants.{Blank, Ended}
use Rattle.relay_http.specs.declared.offered.Offered.{Offered}

-- the length of the content, by the values of Content-Length
abbrev pub size_by : (lengths : List (List ℕ)) → Result ℕ RequestFault
size_by [] = Err LengthRequired
size_by (value ∷ []) = if is_length value then Ok (digits_value 10 value) else Err BadLength
size_by (value ∷ other ∷ more) = Err BadLength

-- and by those of Transfer-Encoding too
abbrev pub size : (codings lengths : List (List ℕ)) → Result ℕ RequestFault
size [] lengths = size_by lengths
size (coding ∷ codings) lengths = Err BadLength

-- the same, by the fields of a head
abbrev pub size_of : Fields → Result ℕ RequestFault
size_of fields =
    size (values (codes "transfer-encoding") fields) (values (codes "content-length") fields)

-- the content of this length
abbrev pub cut : Result ℕ RequestFault → List ℕ → Result (List ℕ) RequestFault
cut (Ok n) rest = sized n rest
cut (Err fault) rest = Err fault

-- the bytes begin with the head h, and what was kept is that head's
pub record IsHeadAt (bytes : List ℕ) (head : Head) (h : RequestHead) : Type 0 where
  pub has : HasHead bytes h
  pub len : head.len ≡ length (print_request h)
  pub len_fits : head.len ≤ length bytes
  pub method_fits : IsWithin head.len head.method
  pub target_fits : IsWithin head.len head.target
  pub method : span_bytes bytes head.method ≡ h.method
  pub target : span_bytes bytes head.target ≡ h.target
  pub host : head.is_bad_host
      ≡ is_bad_host h.minor (values (codes "host") (map name_and_value h.fields))
  pub size : head.size ≡ size_of (map name_and_value h.fields)

abbrev pub IsFoundHead : List ℕ → Head → Type 0
IsFoundHead bytes head = (h : RequestHead) × IsHeadAt bytes head h

-- no head is there, whatever bytes follow
abbrev pub NeverHasHead : List ℕ → Type 0
NeverHasHead bytes = (more : List ℕ) → HasNoHead (bytes ++ more)

-- what a look at the bytes saw
abbrev pub IsSeen : List ℕ → Looked → Type 0
IsSeen bytes (looked.Found head) = IsFoundHead bytes head
IsSeen bytes looked.Partial = HasNoRequest (front bytes) × MayBecomeRequest (front bytes)
IsSeen bytes looked.Never = NeverHasHead bytes

-- how far the bytes have come at a socket
abbrev pub IsStage : Offered → List ℕ → Stage → Type 0
IsStage offered bytes (stage.Begins line) =
    (line ≡ scanned Blank bytes) × (line ≢ Ended) × (length bytes < most_head_bytes)
IsStage offered bytes (stage.Lacks head n) = IsFoundHead bytes head × LacksContent offered bytes n
IsStage offered bytes (stage.Found head) = IsFoundHead bytes head × IsSettled offered bytes
IsStage offered bytes stage.Broken = NeverHasHead bytes
