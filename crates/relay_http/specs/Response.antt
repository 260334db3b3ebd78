-- The bytes of a response (RFC 9112, sections 2 and 4).
use Rattle.std.specs.Prelude.{ℕ, List, [], ◌∷◌, ◌++◌, Bool, length, if◌then◌else◌, codes, decimal}
use Rattle.http.specs.StatusCode.{code_digits}
use Rattle.relay_http.specs.declared.fault.RequestFault.{RequestFault}
use Rattle.relay_http.specs.declared.fault.RequestFault.TheVariants.{BadHead, BadTarget, NoRoute}
use Rattle.relay_http.specs.declared.fault.RequestFault.TheVariants.{BadMethod, LengthRequired}
use Rattle.relay_http.specs.declared.fault.RequestFault.TheVariants.{BadLength, TooLong}
use Rattle.relay_http.specs.declared.fault.RequestFault.TheVariants.{ShortBody, BadMoment}
use Rattle.relay_http.specs.declared.route.Methods.TheVariants.{Post, GetOrHead}
use Rattle.relay_http.specs.declared.status.ResponseStatus.{ResponseStatus}
use Rattle.relay_http.specs.declared.status.ResponseStatus.TheVariants as status

-- the code of a status (RFC 9110, section 15)
abbrev pub code_of : ResponseStatus → ℕ
code_of status.Done = 200
code_of status.BadRequest = 400
code_of status.Forbidden = 403
code_of status.NotFound = 404
code_of (status.MethodNotAllowed methods) = 405
code_of status.LengthRequired = 411
code_of status.ContentTooLarge = 413
code_of status.ServiceUnavailable = 503

-- and its phrase
abbrev pub phrase_of : ResponseStatus → List ℕ
phrase_of status.Done = codes "OK"
phrase_of status.BadRequest = codes "Bad Request"
phrase_of status.Forbidden = codes "Forbidden"
phrase_of status.NotFound = codes "Not Found"
phrase_of (status.MethodNotAllowed methods) = codes "Method Not Allowed"
phrase_of status.LengthRequired = codes "Length Required"
phrase_of status.ContentTooLarge = codes "Content Too Large"
phrase_of status.ServiceUnavailable = codes "Service Unavailable"

-- the three digits of the code, a space, and the phrase (RFC 9112, section 4)
abbrev pub status_text : ResponseStatus → List ℕ
status_text s = code_digits (code_of s) ++ codes " " ++ phrase_of s

-- carriage return and newline
abbrev pub line_end : List ℕ
line_end = 13 ∷ 10 ∷ []

-- the methods of the route, where another was used (RFC 9110, section 15.5.6)
abbrev pub allow_line : ResponseStatus → List ℕ
allow_line (status.MethodNotAllowed Post) = codes "Allow: POST" ++ line_end
allow_line (status.MethodNotAllowed GetOrHead) = codes "Allow: GET, HEAD" ++ line_end
allow_line status.Done = []
allow_line status.BadRequest = []
allow_line status.Forbidden = []
allow_line status.NotFound = []
allow_line status.LengthRequired = []
allow_line status.ContentTooLarge = []
allow_line status.ServiceUnavailable = []

-- the head of a response, whose body has so many bytes
abbrev pub response_head : ResponseStatus → ℕ → List ℕ
response_head s size =
    codes "HTTP/1.1 " ++ status_text s ++ line_end
    ++ codes "Content-Type: text/plain" ++ line_end
    ++ allow_line s
    ++ codes "Content-Length: " ++ decimal size ++ line_end
    ++ codes "Connection: close" ++ line_end
    ++ line_end

-- the response: its head tells the body's length, and the body is there where it is wanted
abbrev pub written : ResponseStatus → List ℕ → (with_body : Bool) → List ℕ
written s body with_body = response_head s (length body) ++ (if with_body then body else [])

-- the code and name of a fault
abbrev pub request_fault_text : RequestFault → List ℕ
request_fault_text BadHead = codes "T1 BadHead"
request_fault_text BadTarget = codes "T2 BadTarget"
request_fault_text NoRoute = codes "T3 NoRoute"
request_fault_text (BadMethod methods) = codes "T4 BadMethod"
request_fault_text LengthRequired = codes "T5 LengthRequired"
request_fault_text BadLength = codes "T6 BadLength"
request_fault_text ShortBody = codes "T7 ShortBody"
request_fault_text BadMoment = codes "T8 BadMoment"
request_fault_text TooLong = codes "M1 TooLong"

-- the status of a fault
abbrev pub status_of : RequestFault → ResponseStatus
status_of BadHead = status.BadRequest
status_of BadTarget = status.BadRequest
status_of NoRoute = status.NotFound
status_of (BadMethod methods) = status.MethodNotAllowed methods
status_of LengthRequired = status.LengthRequired
status_of BadLength = status.BadRequest
status_of ShortBody = status.BadRequest
status_of BadMoment = status.BadRequest
status_of TooLong = status.ContentTooLarge

-- the body of a refusal is its line
abbrev pub fault_line : RequestFault → List ℕ
fault_line fault = request_fault_text fault ++ 10 ∷ []
