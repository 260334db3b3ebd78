-- What the bytes that have come of a request still need, until the request is known.
use Rattle.std.specs.Prelude.{◌≡◌, ◌≤◌, ◌<◌, ◌+◌, ◌++◌, ℕ, List, Option, Result, Ok, Err, length}
use Rattle.std.specs.Io.KnownBytes.{Consumes}
use Rattle.httparse.specs.Grammar.{RequestHead}
use Rattle.relay_http.specs.Request.{Request, refused}
use Rattle.relay_http.specs.RequestBytes.{IsHttpRequest, HasHead, most_head_bytes}
use Rattle.relay_http.specs.Counting.{one_failure}
use Rattle.relay_http.specs.declared.exchange.Need.{Need}
use Rattle.relay_http.specs.declared.exchange.Need.TheVariants as need
use Rattle.relay_http.specs.declared.exchange.ReceiveFault.{ReceiveFault}
use Rattle.relay_http.specs.declared.exchange.ReceiveFault.TheVariants as fault
use Rattle.relay_http.specs.declared.fault.RequestFault.TheVariants.{ShortBody}
use Rattle.relay_http.specs.declared.offered.Offered.{Offered}

-- The bytes are one request at a socket, whatever bytes follow.
abbrev pub IsSettled : Offered → List ℕ → Type 0
IsSettled offered bytes =
    (request : Request ℕ) × ((more : List ℕ) → IsHttpRequest offered (bytes ++ more) request)

-- no head is there
abbrev pub HasNoHead : List ℕ → Type 0
HasNoHead bytes = (h : RequestHead) → ¬ (HasHead bytes h)

-- The longest head and the longest content.
abbrev pub most_read : ℕ
most_read = 24_576

-- Exactly n bytes of the content are missing, one or more: with fewer than n more bytes the request
-- is refused as cut short, and once n more have come no bytes that follow change the request.
pub record LacksContent (offered : Offered) (bytes : List ℕ) (n : ℕ) : Type 0 where
  pub some : 0 < n
  pub fits : length bytes + n ≤ most_read
  pub short : (more : List ℕ) → length more < n → (request : Request ℕ)
      → IsHttpRequest offered (bytes ++ more) request → request.action ≡ refused ShortBody
  pub enough : (more : List ℕ) → n ≤ length more → IsSettled offered (bytes ++ more)

-- What the bytes need: the rest of a head, where none is there and one may still be; so many bytes
-- of the content; or nothing.
abbrev pub IsNeedOf : Offered → List ℕ → Need → Type 0
IsNeedOf offered bytes need.Head = HasNoHead bytes × (length bytes < most_head_bytes)
IsNeedOf offered bytes (need.Content n) = LacksContent offered bytes n
IsNeedOf offered bytes need.Nothing = IsSettled offered bytes

-- room for these, and for one more read
abbrev pub most_room : ℕ
most_room = 28_672

-- a read brought n bytes, and they were taken
abbrev pub HasRead : (left_before left_now : Option (List ℕ)) → (before now : List ℕ) → ℕ → Type 0
HasRead left_before left_now before now n = (bytes : List ℕ)
    × Consumes left_before left_now bytes × (now ≡ before ++ bytes) × (length bytes ≡ n)

-- the count of failures after a read: want of memory for what came is none of the reader's
abbrev pub after_reading : Result ℕ ReceiveFault → ℕ → ℕ
after_reading (Ok n) count = count
after_reading (Err (fault.Failed kind)) count = one_failure count
after_reading (Err fault.NoMemory) count = count

-- what an exchange has taken of a request, how many bytes it has room for in all, and the routes of
-- its socket
pub record Taken : Type 0 where
  pub bytes : List ℕ
  pub room : ℕ
  pub offered : Offered
