use Rattle.std.proofs.Common.{◌≡◌, ℕ, Result, Err, refl, sym, ap, subst, ◌∙◌, length, length-append, arith}
use Rattle.relay_http.specs.Needs.{Taken}
use Rattle.relay_http.specs.Receiving.{IsOfSocket, after_reception}
use Rattle.relay_http.specs.declared.exchange.ReceiveFault.{ReceiveFault}
use Rattle.relay_http.specs.declared.offered.Offered.{Offered}
use Rattle.relay_http.proofs.ReceivingLemmas.{come_none, come_on, received_ended, received_whole}
use Rattle.relay_http.proofs.ReceivingLemmas.{stopped_count, stopped_reception, stopped_room, stopped_socket, stopped_unread}
use Rattle.relay_http.proofs.receiving.Receiving.receive.Goals as goal

same_fault : {why other : ReceiveFault} → why ≡ other → ◌≡◌ {A = Result ℕ ReceiveFault} (Err why) (Err other)
same_fault e = ap (λ (w : ReceiveFault). Err w) e

pub loop-come-init : goal.loop-come-init
loop-come-init g c = record {
  come = come_none (g.R.Read.remaining c.args.reader.now.inner) c.args.self.come.bytes;
  room = omega arith;
  socket = refl;
  counted = refl;
  unread = λ _. refl;
}

pub loop-come-preserved : goal.loop-come-preserved
loop-come-preserved g c = record {
  come =
      come_on (g.R.Read.remaining c.args.reader.now.inner) (g.R.Read.remaining c.loop-come.reader.inner) (g.R.Read.remaining c.read_on.new.reader.inner)
      c.args.self.come.bytes c.loop-come.come.bytes c.read_on.new.self.bytes c.in-Ok.field-0 c.loop-come.invariant.come c.in-Ok.ensures.read;
  room = omega (arith, c.loop-come.invariant.room, c.in-Ok.ensures.room);
  socket = c.in-Ok.ensures.socket ∙ c.loop-come.invariant.socket;
  counted = c.in-Ok.ensures.counted ∙ c.loop-come.invariant.counted;
  unread = λ none.
      let x = c.in-Ok.ensures.read in
      let sum = ap length x.2 ∙ length-append c.loop-come.come.bytes x.0 in
      absurd (c.in-Ok.field-0-test.1 (omega (arith, none, x.3, sum)));
}

pub returns-in-Ok-eq0-clause-reception : goal.returns-in-Ok-eq0-clause-reception
returns-in-Ok-eq0-clause-reception g c =
    received_ended (g.R.Read.remaining c.args.reader.now.inner) (g.R.Read.remaining c.read_on.new.reader.inner)
    c.args.self.come.bytes c.read_on.new.self c.ended.result c.ended.ensures.come c.ended.ensures.ended
    (come_on (g.R.Read.remaining c.args.reader.now.inner) (g.R.Read.remaining c.loop-come.reader.inner) (g.R.Read.remaining c.read_on.new.reader.inner)
    c.args.self.come.bytes c.loop-come.come.bytes c.read_on.new.self.bytes _ c.loop-come.invariant.come c.in-Ok-eq0.ensures.read)
    (c.in-Ok-eq0.ensures.end (omega arith))

pub returns-in-Ok-eq0-clause-socket : goal.returns-in-Ok-eq0-clause-socket
returns-in-Ok-eq0-clause-socket g c =
    ap (λ (t : Taken). t.offered) c.ended.ensures.come ∙ c.in-Ok-eq0.ensures.socket ∙ c.loop-come.invariant.socket

pub returns-in-Err-clause-socket : goal.returns-in-Err-clause-socket
returns-in-Err-clause-socket g c =
    subst (λ (o : Offered). IsOfSocket o c.stopped.result) (c.in-Err.ensures.socket ∙ c.loop-come.invariant.socket)
    (stopped_socket c.read_on.new.self c.in-Err.fault c.stopped.result c.stopped.ensures)

pub returns-in-Err-clause-reception : goal.returns-in-Err-clause-reception
returns-in-Err-clause-reception g c =
    stopped_reception (g.R.Read.remaining c.args.reader.now.inner) (g.R.Read.remaining c.loop-come.reader.inner) (g.R.Read.remaining c.read_on.new.reader.inner)
    c.args.self.come.bytes c.loop-come.come c.read_on.new.self c.in-Err.fault c.stopped.result
    c.loop-come.invariant.come c.in-Err.ensures.kept c.in-Err.ensures.none (c.is_settled.ensures.open c.loop-come-test.true) c.stopped.ensures

pub returns-in-Err-clause-counted : goal.returns-in-Err-clause-counted
returns-in-Err-clause-counted g c =
    c.in-Err.ensures.counted ∙ stopped_count c.read_on.new.self c.in-Err.fault c.stopped.result c.loop-come.reader.failures c.stopped.ensures
    ∙ ap (λ (n : ℕ). after_reception c.stopped.result n) c.loop-come.invariant.counted

pub returns-in-Err-clause-unread : goal.returns-in-Err-clause-unread
returns-in-Err-clause-unread g c = λ e.
    let x = stopped_unread c.read_on.new.self c.in-Err.fault c.stopped.result c.stopped.ensures e in
    c.in-Err.ensures.unread (same_fault x.0) ∙ c.loop-come.invariant.unread (ap length (sym c.in-Err.ensures.kept ∙ x.1))

pub returns-in-Err-clause-room : goal.returns-in-Err-clause-room
returns-in-Err-clause-room g c = λ room.
    stopped_room c.read_on.new.self c.in-Err.fault c.stopped.result c.stopped.ensures
    (λ e.
    let full = c.in-Err.ensures.full (same_fault e) in
    let less = c.is_settled.ensures.open c.loop-come-test.true in
    omega (arith, room, c.loop-come.invariant.room, full, less))

pub returns-clause-socket : goal.returns-clause-socket
returns-clause-socket g c = ap (λ (t : Taken). t.offered) c.whole.ensures.come ∙ c.loop-come.invariant.socket

pub returns-clause-reception : goal.returns-clause-reception
returns-clause-reception g c =
    received_whole (g.R.Read.remaining c.args.reader.now.inner) (g.R.Read.remaining c.loop-come.reader.inner)
    c.args.self.come.bytes c.loop-come.come c.whole.result c.whole.ensures.come c.whole.ensures.whole c.loop-come.invariant.come
    (c.is_settled.ensures.settled c.loop-come-test.false)
