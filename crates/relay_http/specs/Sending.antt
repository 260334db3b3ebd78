-- Steps of sending a response, over a writer that may take nothing for now.
use Rattle.std.specs.Prelude.{◌≡◌, ◌<◌, ◌++◌, ℕ, List, Option, Result, Ok, Err, length}
use Rattle.std.specs.Io.KnownBytes.{Appends}
use Rattle.relay_http.specs.Counting.{one_failure}
use Rattle.relay_http.specs.Sent.{Began}
use Rattle.relay_http.specs.declared.sending.Sending.{Sending}
use Rattle.relay_http.specs.declared.sending.Sending.TheVariants as sending
use Rattle.relay_http.specs.declared.serving.ServeFault.{ServeFault}
use Rattle.relay_http.specs.declared.serving.ServeFault.TheVariants as fault

-- All of the response went out; or a beginning of it did, and what is left is the rest, so that
-- each byte goes out once, in order, however many steps it takes; or a write failed behind a
-- beginning of it.
abbrev pub IsSending : (old new : Option (List ℕ)) → (response : List ℕ)
    → Result Sending ServeFault → Type 0
IsSending old new response (Ok sending.Out) = Appends old new response
IsSending old new response (Ok (sending.Waits rest)) = (front : List ℕ)
    × (response ≡ front ++ rest) × (0 < length rest) × Appends old new front
IsSending old new response (Err fault.WriteFailed) = Began old new response
IsSending old new response (Err fault.ReadFailed) = ⊥
IsSending old new response (Err fault.NoMemory) = ⊥

-- the count of failures after a step: a write that would block is one, as each that fails
abbrev pub after_sending : Result Sending ServeFault → ℕ → ℕ
after_sending (Ok sending.Out) count = count
after_sending (Ok (sending.Waits rest)) count = one_failure count
after_sending (Err e) count = one_failure count
