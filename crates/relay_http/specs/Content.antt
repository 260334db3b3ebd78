-- The content of a POST: as many of the bytes after the head as Content-Length says (RFC 9112,
-- section 6).
use Rattle.std.specs.Prelude.{ℕ, List, [], ◌∷◌, Bool, ◌&&◌, Result, Ok, Err}
use Rattle.std.specs.Prelude.{codes, length, take, nat_lt, nat_le, if◌then◌else◌}
use Rattle.std.specs.List.{list_all}
use Rattle.std.specs.Str.Parse.{digits_value}
use Rattle.std.specs.Char.{is_ascii_digit}
use Rattle.relay_http.specs.Fields.{Fields, values}
use Rattle.relay_http.specs.declared.fault.RequestFault.{RequestFault}
use Rattle.relay_http.specs.declared.fault.RequestFault.TheVariants.{LengthRequired, BadLength}
use Rattle.relay_http.specs.declared.fault.RequestFault.TheVariants.{TooLong, ShortBody}

-- Content-Length is decimal digits (RFC 9110, section 8.6), here 1 to 9 of them
abbrev pub is_length : List ℕ → Bool
is_length value =
    nat_lt 0 (length value) && (nat_le (length value) 9 && list_all is_ascii_digit value)

-- the longest message
abbrev pub most_content : ℕ
most_content = 16_384

-- the first n of the bytes that follow the head
abbrev pub sized : ℕ → List ℕ → Result (List ℕ) RequestFault
sized n rest =
    if nat_lt most_content n then Err TooLong
    else (if nat_lt (length rest) n then Err ShortBody else Ok (take n rest))

-- the content, by the values of Content-Length
abbrev pub by_lengths : (lengths : List (List ℕ)) → List ℕ → Result (List ℕ) RequestFault
by_lengths [] rest = Err LengthRequired
by_lengths (value ∷ []) rest =
    if is_length value then sized (digits_value 10 value) rest else Err BadLength
by_lengths (value ∷ other ∷ more) rest = Err BadLength

-- The content, by the values of Transfer-Encoding and Content-Length. A transfer coding is refused:
-- with it no length would be known (RFC 9112, section 6.1).
abbrev pub content : (codings lengths : List (List ℕ)) → List ℕ → Result (List ℕ) RequestFault
content [] lengths rest = by_lengths lengths rest
content (coding ∷ codings) lengths rest = Err BadLength

-- the content, by the fields of the head
abbrev pub content_by_fields : Fields → List ℕ → Result (List ℕ) RequestFault
content_by_fields fields rest = content (values (codes "transfer-encoding") fields)
    (values (codes "content-length") fields) rest
