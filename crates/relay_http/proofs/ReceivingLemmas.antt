-- Steps of receiving and sending, one after the other.
use Rattle.std.proofs.Common.{◌≡◌, ◌<◌, ℕ, true, false, List, [], ◌∷◌, ◌++◌, Option, Some, None, IfSome, Result, Ok, Err}
use Rattle.std.proofs.Common.{refl, sym, ap, ◌∙◌, subst, length, arith, append_assoc}
use Rattle.std.proofs.lemmas.List.{append-nil}
use Rattle.std.specs.Io.KnownBytes.{Appends, Consumes, IsAtEnd, Keeps}
use Rattle.relay_http.specs.Needs.{HasRead, IsSettled, Taken, after_reading}
use Rattle.relay_http.specs.Counting.{one_failure}
use Rattle.relay_http.specs.Receiving.{HasCome, HasReceived, IsOfSocket, IsReception, IsStopped, NeverStarves, after_reception}
use Rattle.relay_http.specs.Request.{Request}
use Rattle.relay_http.specs.RequestBytes.{IsHttpRequest}
use Rattle.relay_http.specs.Sending.{IsSending}
use Rattle.relay_http.specs.Sent.{Began}
use Rattle.relay_http.specs.declared.exchange.ReceiveFault.{ReceiveFault}
use Rattle.relay_http.specs.declared.exchange.ReceiveFault.TheVariants as whys
use Rattle.relay_http.specs.declared.offered.Offered.{Offered}
use Rattle.relay_http.specs.declared.received.Received.{Received}
use Rattle.relay_http.specs.declared.receiving.Reception.{Reception}
use Rattle.relay_http.specs.declared.receiving.Reception.TheVariants as reception
use Rattle.relay_http.specs.declared.sending.Sending.{Sending}
use Rattle.relay_http.specs.declared.sending.Sending.TheVariants as sending
use Rattle.relay_http.specs.declared.serving.ServeFault.{ServeFault}
use Rattle.relay_http.specs.declared.serving.ServeFault.TheVariants as fault
use Rattle.relay_http.proofs.SentLemmas.{appends_both}
use Rattle.relay_http.proofs.ReadingLemmas.{consumes_both}
use Rattle.relay_http.proofs.StageLemmas.{settled_request}

pub nil_of : (xs : List ℕ) → length xs ≡ 0 → xs ≡ []
nil_of [] e = refl
nil_of (x ∷ xs) e = absurd (omega (arith, e))

-- ---- what has come

pub come_none : (a : Option (List ℕ)) (before : List ℕ) → HasCome a a before before
come_none None before = ([], tt, sym (append-nil before))
come_none (Some all) before = ([], refl, sym (append-nil before))

-- one more read
pub come_on : (a b c : Option (List ℕ)) (before mid now : List ℕ) (n : ℕ) → HasCome a b before mid → HasRead b c mid now n → HasCome a c before now
come_on a b c before mid now n x y =
    (x.0 ++ y.0, consumes_both a b c x.0 y.0 x.1 y.1, y.2 ∙ ap (λ (l : List ℕ). l ++ y.0) x.2 ∙ append_assoc before x.0 y.0)

consumes_kept : (a b c : Option (List ℕ)) (bytes : List ℕ) → Consumes a b bytes → Keeps b c → Consumes a c bytes
consumes_kept None b c bytes h k = tt
consumes_kept (Some s) None c bytes h k = absurd h
consumes_kept (Some s) (Some t) None bytes h k = absurd k
consumes_kept (Some s) (Some t) (Some u) bytes h k = h ∙ ap (λ (l : List ℕ). bytes ++ l) (sym k)

-- a read that failed
pub come_kept : (a b c : Option (List ℕ)) (before now : List ℕ) → HasCome a b before now → Keeps b c → HasCome a c before now
come_kept a b c before now x k = (x.0, consumes_kept a b c x.0 x.1 k, x.2)

pub keeps_same : (a b : Option (List ℕ)) → b ≡ a → Keeps a b
keeps_same None b e = tt
keeps_same (Some s) b e = subst (λ (o : Option (List ℕ)). Keeps (Some s) o) (sym e) refl

before_nil : (before bytes : List ℕ) → before ++ bytes ≡ [] → before ≡ []
before_nil [] bytes e = refl
before_nil (x ∷ xs) bytes e = absurd cc

come_nil : (a b : Option (List ℕ)) (before now : List ℕ) → HasCome a b before now → now ≡ [] → before ≡ []
come_nil a b before now x e = before_nil before x.0 (sym x.2 ∙ e)

-- ---- a request that has come

-- what follows what is settled changes nothing
asks_all : (offered : Offered) (a b : Option (List ℕ)) (before now : List ℕ) → HasCome a b before now → IsSettled offered now
    → IfSome a (λ left. (request : Request ℕ) → IsHttpRequest offered now request → IsHttpRequest offered (before ++ left) request)
asks_all offered None b before now x settled = tt
asks_all offered (Some all) None before now x settled = absurd x.1
asks_all offered (Some all) (Some more) before now x settled =
    let same : before ++ all ≡ now ++ more =
    ap (λ (l : List ℕ). before ++ l) x.1 ∙ sym (append_assoc before x.0 more) ∙ ap (λ (l : List ℕ). l ++ more) (sym x.2) in
    λ request asks. subst (λ (l : List ℕ). IsHttpRequest offered l request) (sym same) (settled_request offered now more request settled asks)

-- at the end of a stream nothing follows
asks_end : (offered : Offered) (a b : Option (List ℕ)) (before now : List ℕ) → HasCome a b before now → IsAtEnd b
    → IfSome a (λ left. (request : Request ℕ) → IsHttpRequest offered now request → IsHttpRequest offered (before ++ left) request)
asks_end offered None b before now x end = tt
asks_end offered (Some all) None before now x end = absurd x.1
asks_end offered (Some all) (Some more) before now x end =
    let here : all ≡ x.0 = x.1 ∙ ap (λ (l : List ℕ). x.0 ++ l) end ∙ append-nil x.0 in
    let same : before ++ all ≡ now = ap (λ (l : List ℕ). before ++ l) here ∙ sym x.2 in
    λ request asks. subst (λ (l : List ℕ). IsHttpRequest offered l request) (sym same) asks

pub received_whole : (a b : Option (List ℕ)) (before : List ℕ) (come : Taken) (x : Received) → x.come ≡ come → x.is_ended ≡ false
    → HasCome a b before come.bytes → IsSettled come.offered come.bytes → HasReceived a b before x
received_whole a b before come x is not_ended has settled =
    let has_x : HasCome a b before x.come.bytes = subst (λ (t : Taken). HasCome a b before t.bytes) (sym is) has in
    let settled_x : IsSettled x.come.offered x.come.bytes = subst (λ (t : Taken). IsSettled t.offered t.bytes) (sym is) settled in
    record {
      come = has_x;
      whole = λ _. settled_x;
      ended = λ ended. absurd (let wrong : true ≡ false = sym ended ∙ not_ended in cc);
      asks = asks_all x.come.offered a b before x.come.bytes has_x settled_x;
    }

pub received_ended : (a b : Option (List ℕ)) (before : List ℕ) (come : Taken) (x : Received) → x.come ≡ come → x.is_ended ≡ true
    → HasCome a b before come.bytes → IsAtEnd b → HasReceived a b before x
received_ended a b before come x is ended has end =
    let has_x : HasCome a b before x.come.bytes = subst (λ (t : Taken). HasCome a b before t.bytes) (sym is) has in
    record {
      come = has_x;
      whole = λ whole. absurd (let wrong : true ≡ false = sym ended ∙ whole in cc);
      ended = λ _. end;
      asks = asks_end x.come.offered a b before x.come.bytes has_x end;
    }

-- ---- a step that no more came in

pub stopped_reception : (a b c : Option (List ℕ)) (before : List ℕ) (old now : Taken) (why : ReceiveFault) (r : Result Reception ServeFault)
    → HasCome a b before old.bytes → now.bytes ≡ old.bytes → Keeps b c → length old.bytes < 24576 → IsStopped now why r → IsReception a c before r
stopped_reception a b c before old now why (Ok (reception.Came x)) has kept none less s = absurd s
stopped_reception a b c before old now why (Ok (reception.Waits x)) has kept none less s =
    let same : x.come.bytes ≡ old.bytes = ap (λ (t : Taken). t.bytes) s.0 ∙ kept in (
      subst (λ (l : List ℕ). HasCome a c before l) (sym same) (come_kept a b c before old.bytes has none),
      subst (λ (l : List ℕ). length l < 24576) (sym same) less,
    )
stopped_reception a b c before old now why (Ok (reception.Starved x)) has kept none less s = (
  old.bytes,
  come_kept a b c before old.bytes has none,
  subst (λ (l : List ℕ). 0 < length l) kept s.1,
  s.2,
)
stopped_reception a b c before old now why (Err fault.ReadFailed) has kept none less s = tt
stopped_reception a b c before old now why (Err fault.WriteFailed) has kept none less s = absurd s
stopped_reception a b c before old now why (Err fault.NoMemory) has kept none less s = come_nil a b before old.bytes has (sym kept ∙ s.1)

pub stopped_socket : (now : Taken) (why : ReceiveFault) (r : Result Reception ServeFault) → IsStopped now why r → IsOfSocket now.offered r
stopped_socket now why (Ok (reception.Came x)) s = absurd s
stopped_socket now why (Ok (reception.Waits x)) s = ap (λ (t : Taken). t.offered) s.0
stopped_socket now why (Ok (reception.Starved x)) s = tt
stopped_socket now why (Err e) s = tt

pub stopped_count : (now : Taken) (why : ReceiveFault) (r : Result Reception ServeFault) (n : ℕ) → IsStopped now why r
    → after_reading (Err why) n ≡ after_reception r n
stopped_count now why (Ok (reception.Came x)) n s = absurd s
stopped_count now why (Ok (reception.Waits x)) n s = subst (λ (w : ReceiveFault). after_reading (Err w) n ≡ one_failure n) (sym s.1) refl
stopped_count now why (Ok (reception.Starved x)) n s = subst (λ (w : ReceiveFault). after_reading (Err w) n ≡ n) (sym s.0) refl
stopped_count now why (Err fault.ReadFailed) n s = subst (λ (w : ReceiveFault). after_reading (Err w) n ≡ one_failure n) (sym s.1) refl
stopped_count now why (Err fault.WriteFailed) n s = absurd s
stopped_count now why (Err fault.NoMemory) n s = subst (λ (w : ReceiveFault). after_reading (Err w) n ≡ n) (sym s.0) refl

-- nothing had come, and memory ran out
pub stopped_unread : (now : Taken) (why : ReceiveFault) (r : Result Reception ServeFault) → IsStopped now why r → r ≡ Err fault.NoMemory
    → (why ≡ whys.NoMemory) × (now.bytes ≡ [])
stopped_unread now why r s e = subst (λ (q : Result Reception ServeFault). IsStopped now why q) e s

pub stopped_room : (now : Taken) (why : ReceiveFault) (r : Result Reception ServeFault) → IsStopped now why r → (why ≡ whys.NoMemory → ⊥) → NeverStarves r
stopped_room now why (Ok (reception.Came x)) s never = tt
stopped_room now why (Ok (reception.Waits x)) s never = tt
stopped_room now why (Ok (reception.Starved x)) s never = never s.0
stopped_room now why (Err fault.ReadFailed) s never = tt
stopped_room now why (Err fault.WriteFailed) s never = tt
stopped_room now why (Err fault.NoMemory) s never = never s.0

-- ---- steps, one behind the other

pub come_both : (a b c : Option (List ℕ)) (before mid now : List ℕ) → HasCome a b before mid → HasCome b c mid now → HasCome a c before now
come_both a b c before mid now x y =
    (x.0 ++ y.0, consumes_both a b c x.0 y.0 x.1 y.1, y.2 ∙ ap (λ (l : List ℕ). l ++ y.0) x.2 ∙ append_assoc before x.0 y.0)

asks_behind : (offered : Offered) (a b : Option (List ℕ)) (before mid now : List ℕ) → HasCome a b before mid
    → IfSome b (λ left. (request : Request ℕ) → IsHttpRequest offered now request → IsHttpRequest offered (mid ++ left) request)
    → IfSome a (λ left. (request : Request ℕ) → IsHttpRequest offered now request → IsHttpRequest offered (before ++ left) request)
asks_behind offered None b before mid now x asks = tt
asks_behind offered (Some all) None before mid now x asks = absurd x.1
asks_behind offered (Some all) (Some more) before mid now x asks =
    let same : mid ++ more ≡ before ++ all =
    ap (λ (l : List ℕ). l ++ more) x.2 ∙ append_assoc before x.0 more ∙ ap (λ (l : List ℕ). before ++ l) (sym x.1) in
    λ request is. subst (λ (l : List ℕ). IsHttpRequest offered l request) same (asks request is)

pub received_behind : (a b c : Option (List ℕ)) (before mid : List ℕ) (x : Received) → HasCome a b before mid → HasReceived b c mid x → HasReceived a c before x
received_behind a b c before mid x h y = record {
  come = come_both a b c before mid x.come.bytes h y.come;
  whole = y.whole;
  ended = y.ended;
  asks = asks_behind x.come.offered a b before mid x.come.bytes h y.asks;
}

pub sending_behind : (a b c : Option (List ℕ)) (response rest : List ℕ) (r : Result Sending ServeFault) → IsSending a b response (Ok (sending.Waits rest))
    → IsSending b c rest r → IsSending a c response r
sending_behind a b c response rest (Ok sending.Out) x y =
    subst (λ (l : List ℕ). Appends a c l) (sym x.1) (appends_both a b c x.0 rest x.3 y)
sending_behind a b c response rest (Ok (sending.Waits left)) x y = (
  x.0 ++ y.0,
  x.1 ∙ ap (λ (l : List ℕ). x.0 ++ l) y.1 ∙ sym (append_assoc x.0 y.0 left),
  y.2,
  appends_both a b c x.0 y.0 x.3 y.3,
)
sending_behind a b c response rest (Err fault.ReadFailed) x y = absurd y
sending_behind a b c response rest (Err fault.WriteFailed) x y = (
  x.0 ++ y.0,
  (y.1.0, x.1 ∙ ap (λ (l : List ℕ). x.0 ++ l) y.1.1 ∙ sym (append_assoc x.0 y.0 y.1.0)),
  appends_both a b c x.0 y.0 x.3 y.2,
)
sending_behind a b c response rest (Err fault.NoMemory) x y = absurd y

-- ---- a stream that waits for its peer

-- nothing had come before
pub asks_from_start : (offered : Offered) (known : Option (List ℕ)) (before bytes : List ℕ) → before ≡ []
    → IfSome known (λ left. (request : Request ℕ) → IsHttpRequest offered bytes request → IsHttpRequest offered (before ++ left) request)
    → IfSome known (λ all. (request : Request ℕ) → IsHttpRequest offered bytes request → IsHttpRequest offered all request)
asks_from_start offered known before bytes e asks =
    subst (λ (l : List ℕ). IfSome known (λ left. (request : Request ℕ) → IsHttpRequest offered bytes request → IsHttpRequest offered (l ++ left) request))
    e asks

-- where memory suffices only a read can fail
pub failed_read : (a b : Option (List ℕ)) (before : List ℕ) (e : ServeFault) (n : ℕ) → IsReception a b before (Err e) → NeverStarves (Err e)
    → after_reception (Err e) n ≡ one_failure n
failed_read a b before fault.ReadFailed n x y = refl
failed_read a b before fault.WriteFailed n x y = absurd x
failed_read a b before fault.NoMemory n x y = absurd y

-- ---- sending

-- a write that would block
pub waits_sent : (first old new : Option (List ℕ)) (all left now : List ℕ) → (front : List ℕ) × (all ≡ front ++ left) × Appends first old front
    → now ≡ left → Appends old new [] → 0 < length left → IsSending first new all (Ok (sending.Waits now))
waits_sent first old new all left now x is none some = (
  x.0,
  x.1 ∙ ap (λ (l : List ℕ). x.0 ++ l) (sym is),
  subst (λ (l : List ℕ). 0 < length l) (sym is) some,
  subst (λ (l : List ℕ). Appends first new l) (append-nil x.0) (appends_both first old new x.0 [] x.2 none),
)

-- what is left where a write would block counts as not sent
pub waits_began : (old new : Option (List ℕ)) (all rest : List ℕ) → IsSending old new all (Ok (sending.Waits rest)) → Began old new all
waits_began old new all rest x = (x.0, (rest, x.1), x.3)

pub failed_began : (old new : Option (List ℕ)) (all : List ℕ) (e : ServeFault) → IsSending old new all (Err e) → Began old new all
failed_began old new all fault.ReadFailed x = absurd x
failed_began old new all fault.WriteFailed x = x
failed_began old new all fault.NoMemory x = absurd x
