-- What a step came to, by the variant that it gave.
use Rattle.std.proofs.Common.{◌≡◌, ℕ, List, [], Option, IfSome, Ok, refl, sym, subst}
use Rattle.std.specs.Io.KnownBytes.{Appends}
use Rattle.relay_http.specs.Counting.{one_failure}
use Rattle.relay_http.specs.Receiving.{HasReceived, IsOfSocket, IsReception, NeverStarves, after_reception}
use Rattle.relay_http.specs.Request.{Request}
use Rattle.relay_http.specs.RequestBytes.{IsHttpRequest}
use Rattle.relay_http.specs.Sending.{IsSending, after_sending}
use Rattle.relay_http.specs.Sent.{Began}
use Rattle.relay_http.specs.declared.offered.Offered.{Offered}
use Rattle.relay_http.specs.declared.received.Received.{Received}
use Rattle.relay_http.specs.declared.receiving.Receiving.{Receiving}
use Rattle.relay_http.specs.declared.receiving.Reception.{Reception}
use Rattle.relay_http.specs.declared.receiving.Reception.TheVariants as reception
use Rattle.relay_http.specs.declared.responding.HttpResponse.{HttpResponse}
use Rattle.relay_http.specs.declared.sending.Sending.{Sending}
use Rattle.relay_http.specs.declared.sending.Sending.TheVariants as sending
use Rattle.relay_http.proofs.ReceivingLemmas.{asks_from_start, waits_began}

pub came_asks : (a b : Option (List ℕ)) (before : List ℕ) (r : Reception) (x : Received) → r ≡ reception.Came x → before ≡ [] → IsReception a b before (Ok r)
    → IfSome a (λ all. (request : Request ℕ) → IsHttpRequest x.come.offered x.come.bytes request → IsHttpRequest x.come.offered all request)
came_asks a b before r x is empty step =
    let received : HasReceived a b before x = subst (λ (q : Reception). IsReception a b before (Ok q)) is step in
    asks_from_start x.come.offered a before x.come.bytes empty received.asks

pub came_socket : (offered : Offered) (r : Reception) (x : Received) → r ≡ reception.Came x → IsOfSocket offered (Ok r) → x.come.offered ≡ offered
came_socket offered r x is same = subst (λ (q : Reception). IsOfSocket offered (Ok q)) is same

pub came_count : (r : Reception) (x : Received) (n : ℕ) → r ≡ reception.Came x → after_reception (Ok r) n ≡ n
came_count r x n is = subst (λ (q : Reception). after_reception (Ok q) n ≡ n) (sym is) refl

pub waits_count : (r : Reception) (x : Receiving) (n : ℕ) → r ≡ reception.Waits x → after_reception (Ok r) n ≡ one_failure n
waits_count r x n is = subst (λ (q : Reception). after_reception (Ok q) n ≡ one_failure n) (sym is) refl

pub never_starved : (r : Reception) (x : HttpResponse) → r ≡ reception.Starved x → NeverStarves (Ok r) → ⊥
never_starved r x is never = subst (λ (q : Reception). NeverStarves (Ok q)) is never

pub out_sent : (old new : Option (List ℕ)) (all : List ℕ) (r : Sending) → r ≡ sending.Out → IsSending old new all (Ok r) → Appends old new all
out_sent old new all r is step = subst (λ (q : Sending). IsSending old new all (Ok q)) is step

pub left_began : (old new : Option (List ℕ)) (all : List ℕ) (r : Sending) (rest : List ℕ) → r ≡ sending.Waits rest → IsSending old new all (Ok r)
    → Began old new all
left_began old new all r rest is step = waits_began old new all rest (subst (λ (q : Sending). IsSending old new all (Ok q)) is step)

pub out_count : (r : Sending) (n : ℕ) → r ≡ sending.Out → after_sending (Ok r) n ≡ n
out_count r n is = subst (λ (q : Sending). after_sending (Ok q) n ≡ n) (sym is) refl

pub left_count : (r : Sending) (rest : List ℕ) (n : ℕ) → r ≡ sending.Waits rest → after_sending (Ok r) n ≡ one_failure n
left_count r rest n is = subst (λ (q : Sending). after_sending (Ok q) n ≡ one_failure n) (sym is) refl
