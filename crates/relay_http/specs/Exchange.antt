-- One exchange: a request's bytes were read, a desk answered, and the response's bytes were
-- written.
use Rattle.std.specs.Prelude.{◌≡◌, ◌⊎◌, ℕ, Bool, List, Option, Some, true, Result, Ok, Err, codes}
use Rattle.httparse.specs.Grammar.{RequestHead}
use Rattle.matchit.specs.Router.{RouteOf}
use Rattle.matchit.specs.Seek.{first}
use Rattle.sudo_policy.specs.declared.entry.Entry.{Entry}
use Rattle.messages.specs.declared.message.Message.{Message}
use Rattle.roster.specs.Fields.{Reading}
use Rattle.desk_store.specs.Sets.{Lists}
use Rattle.desk_store.specs.Serves.{Serves}
use Rattle.desk_store.specs.declared.keeper.Keeper.{Ghosts}
use Rattle.desk.specs.declared.refusal.Refusal.{Refusal}
use Rattle.desk.specs.declared.refusal.Refusal.TheVariants.{Storage}
use Rattle.relay_http.specs.Lasting.{Lasts}
use Rattle.relay_http.specs.Request.{Action, Request}
use Rattle.relay_http.specs.Responses.{Response, IsResponse, IsServerFailure, Leaves}
use Rattle.relay_http.specs.Responses.{ResponseTells, refusal}
use Rattle.relay_http.specs.Response.{code_of, written}
use Rattle.relay_http.specs.Routes.{routes}
use Rattle.relay_http.specs.RequestBytes.{HasHead}
use Rattle.relay_http.specs.declared.offered.Offered.{Offered}
use Rattle.relay_http.specs.declared.offered.Offered.TheVariants as socket
use Rattle.relay_http.specs.declared.route.Route.{Route}
use Rattle.relay_http.specs.declared.route.Route.TheVariants.{Messages}
use Rattle.relay_http.specs.declared.serving.ServeFault.{ServeFault}
use Rattle.relay_http.specs.declared.serving.ServeFault.TheVariants.{ReadFailed}
use Rattle.relay_http.specs.declared.serving.ServeFault.TheVariants.{WriteFailed, NoMemory}
use Rattle.relay_http.specs.declared.status.ResponseStatus.TheVariants.{Done}

-- The response of a desk of this roster, base and history to an action. `IsUp` says that the
-- storage was honest and no failure has shut it, `old` and `new` which messages it holds before and
-- after, `Same` that it keeps what it kept. `Served` says what storage did, as `desk_store` says:
-- by whether the answer tells of a failed storage, and whether of a want of memory or of storage.
pub record IsAnswered (roster : Reading) (base : List Entry) (history : List ℕ)
    (IsUp : Type 0) (old new : Message → Type 0) (Same : Type 0)
    (Served : (Failure Want : Type 0) → Type 0)
    (action : Action ℕ) (response : Response) : Type 0 where
  pub right : (set : List Message) → IsUp → Lists old set
      → IsResponse roster base history set action response ⊎ IsServerFailure response
  pub leaves : IsUp → Leaves Same old new action response
  pub served : Served (response ≡ refusal Storage) (IsServerFailure response)

-- An exchange over such a desk, whose keeper `g` describes before and after: one response is the
-- desk's answer, also by what a crash would leave, and `Wrote` holds of that response's bytes.
pub record IsExchange {K : Type 0} (g : Ghosts K) (roster : Reading) (base : List Entry)
    (history : List ℕ) (before after : K) (Wrote : List ℕ → Type 0) (request : Request ℕ)
    : Type 0 where
  pub response : Response
  pub answered : IsAnswered roster base history (g.is_up after) (g.holds before) (g.holds after)
      (g.is_same before after) (Serves g before after) request.action response
  pub lasts : Lasts g roster.says roster.text before after request.action response
  pub wrote : Wrote (written response.status response.body request.with_body)

-- An exchange whose response is known by its status, the refusal that it tells, and its bytes.
abbrev pub IsPrepared : {K : Type 0} → (g : Ghosts K) → (roster : Reading) → (base : List Entry)
    → (history : List ℕ) → (before after : K) → Request ℕ → (code : ℕ) → Option Refusal
    → (bytes : List ℕ) → Type 0
IsPrepared g roster base history before after request code told bytes =
    (x : IsExchange g roster base history before after (λ all. bytes ≡ all) request)
    × (code ≡ code_of x.response.status) × ResponseTells told x.response

-- a response that tells of a want of memory or of storage was written
abbrev pub WritesServerFailure : (Wrote : List ℕ → Type 0) → Type 0
WritesServerFailure Wrote = (response : Response) × (with_body : Bool) × IsServerFailure response
    × Wrote (written response.status response.body with_body)

-- the bytes begin with the head of a POST, whose target has the route of a relay's messages
pub record IsPost (bytes : List ℕ) : Type 0 where
  pub head : RequestHead
  pub has : HasHead bytes head
  pub method : head.method ≡ codes "POST"
  pub route : RouteOf Route
  pub found : first routes head.target ≡ Some route
  pub messages : route.value ≡ Messages

-- the bytes are such a POST's, the socket has all routes, and a response with the status 200 was
-- written
abbrev pub IsAcknowledged : Offered → (bytes : List ℕ) → (Wrote : List ℕ → Type 0) → Type 0
IsAcknowledged offered bytes Wrote = IsPost bytes × (offered ≡ socket.All)
    × ((body : List ℕ) × Wrote (written Done body true))

-- a response was written, or a beginning of it
abbrev pub HasResponded : {A : Type 0} → Result A ServeFault → Type 0
HasResponded (Ok a) = Unit {0}
HasResponded (Err WriteFailed) = Unit {0}
HasResponded (Err ReadFailed) = ⊥
HasResponded (Err NoMemory) = ⊥

-- the code and name of a fault of an exchange
abbrev pub serve_fault_text : ServeFault → List ℕ
serve_fault_text ReadFailed = codes "H1 ReadFailed"
serve_fault_text WriteFailed = codes "H2 WriteFailed"
serve_fault_text NoMemory = codes "H3 NoMemory"
