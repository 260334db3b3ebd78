-- Steps of receiving a request, over a reader that may have nothing for now.
use Rattle.std.specs.Prelude.{◌≡◌, ◌<◌, ◌++◌, ℕ, List, [], Bool, false, true, Option, IfSome}
use Rattle.std.specs.Prelude.{Result, Ok, Err, length}
use Rattle.std.specs.Io.KnownBytes.{Consumes, IsAtEnd}
use Rattle.std.specs.declared.io.ErrorKind.{ErrorKind}
use Rattle.std.specs.declared.io.ErrorKind.TheVariants as kinds
use Rattle.desk.specs.declared.refusal.Refusal.TheVariants as refusals
use Rattle.relay_http.specs.Counting.{one_failure}
use Rattle.relay_http.specs.Needs.{IsSettled, Taken, most_read}
use Rattle.relay_http.specs.Request.{Request}
use Rattle.relay_http.specs.RequestBytes.{IsHttpRequest}
use Rattle.relay_http.specs.Response.{code_of, written}
use Rattle.relay_http.specs.Responses.{ResponseTells, refusal}
use Rattle.relay_http.specs.declared.exchange.ReceiveFault.{ReceiveFault}
use Rattle.relay_http.specs.declared.exchange.ReceiveFault.TheVariants as whys
use Rattle.relay_http.specs.declared.offered.Offered.{Offered}
use Rattle.relay_http.specs.declared.received.Received.{Received}
use Rattle.relay_http.specs.declared.receiving.Reception.{Reception}
use Rattle.relay_http.specs.declared.receiving.Reception.TheVariants as reception
use Rattle.relay_http.specs.declared.responding.HttpResponse.{HttpResponse}
use Rattle.relay_http.specs.declared.serving.ServeFault.{ServeFault}
use Rattle.relay_http.specs.declared.serving.ServeFault.TheVariants as fault

-- What has come is what had come before, and behind it what the reader gave: each byte once, in
-- order.
abbrev pub HasCome : (left_before left_now : Option (List ℕ)) → (before now : List ℕ) → Type 0
HasCome left_before left_now before now = (bytes : List ℕ)
    × Consumes left_before left_now bytes × (now ≡ before ++ bytes)

-- A request has come. It is whole, or its stream is at its end; and what it asks for at its socket
-- is what all the bytes of the stream ask for there, those that came before and those that the
-- reader had left.
pub record HasReceived (left_before left_now : Option (List ℕ)) (before : List ℕ)
    (x : Received) : Type 0 where
  pub come : HasCome left_before left_now before x.come.bytes
  pub whole : x.is_ended ≡ false → IsSettled x.come.offered x.come.bytes
  pub ended : x.is_ended ≡ true → IsAtEnd left_now
  pub asks : IfSome left_before (λ left. (request : Request ℕ)
      → IsHttpRequest x.come.offered x.come.bytes request
      → IsHttpRequest x.come.offered (before ++ left) request)

-- the desk's response where memory ran out
abbrev pub IsWantResponse : (with_body : Bool) → HttpResponse → Type 0
IsWantResponse with_body x = (x.status ≡ code_of (refusal refusals.NoMemory).status)
    × ResponseTells x.refusal (refusal refusals.NoMemory)
    × (x.rest ≡ written (refusal refusals.NoMemory).status
    (refusal refusals.NoMemory).body with_body)

-- What a step comes to where no more came behind these bytes, by the reason: a read that would
-- block is waited for, and another failed read is told by its name. Want of memory is told by its
-- name if nothing had come, and else in the desk's response. For the program alone.
abbrev pub IsStopped : (come : Taken) → ReceiveFault → Result Reception ServeFault → Type 0
IsStopped come why (Ok (reception.Came x)) = ⊥
IsStopped come why (Ok (reception.Waits x)) =
    (x.come ≡ come) × (why ≡ whys.Failed kinds.WouldBlock)
IsStopped come why (Ok (reception.Starved x)) =
    (why ≡ whys.NoMemory) × (0 < length come.bytes) × IsWantResponse true x
IsStopped come why (Err fault.ReadFailed) = (kind : ErrorKind) × (why ≡ whys.Failed kind)
IsStopped come why (Err fault.WriteFailed) = ⊥
IsStopped come why (Err fault.NoMemory) = (why ≡ whys.NoMemory) × (come.bytes ≡ [])

-- what a step of receiving comes to
abbrev pub IsReception : (left_before left_now : Option (List ℕ)) → (before : List ℕ)
    → Result Reception ServeFault → Type 0
IsReception left_before left_now before (Ok (reception.Came x)) =
    HasReceived left_before left_now before x
IsReception left_before left_now before (Ok (reception.Waits x)) =
    HasCome left_before left_now before x.come.bytes × (length x.come.bytes < most_read)
IsReception left_before left_now before (Ok (reception.Starved x)) = (come : List ℕ)
    × HasCome left_before left_now before come × (0 < length come) × IsWantResponse true x
IsReception left_before left_now before (Err fault.ReadFailed) = Unit {0}
IsReception left_before left_now before (Err fault.WriteFailed) = ⊥
IsReception left_before left_now before (Err fault.NoMemory) = before ≡ []

-- what came and what still comes is for a socket with these routes
abbrev pub IsOfSocket : Offered → Result Reception ServeFault → Type 0
IsOfSocket offered (Ok (reception.Came x)) = x.come.offered ≡ offered
IsOfSocket offered (Ok (reception.Waits x)) = x.come.offered ≡ offered
IsOfSocket offered (Ok (reception.Starved x)) = Unit {0}
IsOfSocket offered (Err e) = Unit {0}

-- the count of failures after a step: a read that would block is one, as each that fails
abbrev pub after_reception : Result Reception ServeFault → ℕ → ℕ
after_reception (Ok (reception.Came x)) count = count
after_reception (Ok (reception.Waits x)) count = one_failure count
after_reception (Ok (reception.Starved x)) count = count
after_reception (Err fault.ReadFailed) count = one_failure count
after_reception (Err fault.WriteFailed) count = count
after_reception (Err fault.NoMemory) count = count

-- memory did not run out
abbrev pub NeverStarves : Result Reception ServeFault → Type 0
NeverStarves (Ok (reception.Came x)) = Unit {0}
NeverStarves (Ok (reception.Waits x)) = Unit {0}
NeverStarves (Ok (reception.Starved x)) = ⊥
NeverStarves (Err fault.ReadFailed) = Unit {0}
NeverStarves (Err fault.WriteFailed) = Unit {0}
NeverStarves (Err fault.NoMemory) = ⊥
