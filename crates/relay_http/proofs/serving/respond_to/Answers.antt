use Rattle.std.proofs.Common.{List, ℕ, ◌∙◌, subst}
use Rattle.relay_http.specs.Sent.{Began}
use Rattle.std.specs.Io.KnownBytes.{Appends}
use Rattle.relay_http.proofs.ReceivingLemmas.{failed_began}
use Rattle.relay_http.proofs.StepLemmas.{left_began, left_count, out_count, out_sent}
use Rattle.relay_http.proofs.serving.respond_to.Goals as goal

pub returns-in-Ok-Out-clause-exchange : goal.returns-in-Ok-Out-clause-exchange
returns-in-Ok-Out-clause-exchange g c =
    let x = c.answer-response.ensures.exchange in (
      x.0,
      x.1,
      record {
        response = x.2.0.response;
        answered = x.2.0.answered;
        lasts = x.2.0.lasts;
        wrote =
            subst (λ (bytes : List ℕ). Appends (g.W.Write.contents c.args.writer.now.inner) (g.W.Write.contents c.send_on.new.writer.inner) bytes)
            x.2.0.wrote (out_sent _ _ _ c.in-Ok-Out.field-0 c.in-Ok-Out.field-0-is c.in-Ok-Out.ensures.sent);
      },
    )

pub returns-in-Ok-Waits-clause-exchange : goal.returns-in-Ok-Waits-clause-exchange
returns-in-Ok-Waits-clause-exchange g c =
    let x = c.answer-response.ensures.exchange in (
      x.0,
      x.1,
      record {
        response = x.2.0.response;
        answered = x.2.0.answered;
        lasts = x.2.0.lasts;
        wrote =
            subst (λ (bytes : List ℕ). Began (g.W.Write.contents c.args.writer.now.inner) (g.W.Write.contents c.send_on.new.writer.inner) bytes)
            x.2.0.wrote (left_began _ _ _ c.in-Ok-Waits.field-0 _ c.in-Ok-Waits.field-0-is c.in-Ok-Waits.ensures.sent);
      },
    )

pub returns-clause-exchange : goal.returns-clause-exchange
returns-clause-exchange g c =
    let x = c.answer-response.ensures.exchange in (
      x.0,
      x.1,
      record {
        response = x.2.0.response;
        answered = x.2.0.answered;
        lasts = x.2.0.lasts;
        wrote =
            subst (λ (bytes : List ℕ). Began (g.W.Write.contents c.args.writer.now.inner) (g.W.Write.contents c.send_on.new.writer.inner) bytes)
            x.2.0.wrote (failed_began _ _ _ c.in-Err.field-0 c.in-Err.ensures.sent);
      },
    )

pub returns-in-Ok-Out-clause-counted : goal.returns-in-Ok-Out-clause-counted
returns-in-Ok-Out-clause-counted g c =
    c.in-Ok-Out.ensures.counted ∙ out_count c.in-Ok-Out.field-0 c.args.writer.now.failures c.in-Ok-Out.field-0-is

pub returns-in-Ok-Waits-clause-counted : goal.returns-in-Ok-Waits-clause-counted
returns-in-Ok-Waits-clause-counted g c =
    c.in-Ok-Waits.ensures.counted ∙ left_count c.in-Ok-Waits.field-0 _ c.args.writer.now.failures c.in-Ok-Waits.field-0-is
