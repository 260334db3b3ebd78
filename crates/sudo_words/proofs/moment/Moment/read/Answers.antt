use Rattle.std.proofs.Common.{◌≡◌, ◌++◌, ◌∙◌, ℤ, Option, Some, None, sym, append_assoc, to_z-of_z}
use Rattle.std.proofs.lemmas.List.{take-append-drop}
use Rattle.std.proofs.lemmas.Option.{IfSome_then}
use Rattle.sudo_words.proofs.MomentLemmas.{day_fits, offset_fits, parted}
use Rattle.sudo_words.proofs.moment.Moment.read.Goals as goal

-- `None` is not this number
no_number : {P : Type 0} (n : ℤ) → ◌≡◌ {A = Option ℤ} None (Some n) → P
no_number n e = absurd cc

pub returns-in_err-time-clause-only : goal.returns-in_err-time-clause-only
returns-in_err-time-clause-only c = λ t s.
    let cut = c.in_ok-front.ensures.cases in
    let e = c.as_bytes.ensures.value in
    let parts = parted c.args.text.now c.in_ok-front.front.now c.in_ok-front.rest.now t (rw e at cut.1) (rw e at cut.2) s in
    absurd (c.in_err-time.ensures.only s.clock s.zone s.offset parts.1 s.zone_is)

pub returns-in_err-date-clause-only : goal.returns-in_err-date-clause-only
returns-in_err-date-clause-only c = λ t s.
    let cut = c.in_ok-front.ensures.cases in
    let e = c.as_bytes.ensures.value in
    let parts = parted c.args.text.now c.in_ok-front.front.now c.in_ok-front.rest.now t (rw e at cut.1) (rw e at cut.2) s in
    no_number s.day (c.in_err-date.ensures.only s.day (rw parts.0 s.date_is))

pub returns-in_err-clock-clause-only : goal.returns-in_err-clock-clause-only
returns-in_err-clock-clause-only c = λ t s.
    let cut = c.in_ok-front.ensures.cases in
    let e = c.as_bytes.ensures.value in
    let parts = parted c.args.text.now c.in_ok-front.front.now c.in_ok-front.rest.now t (rw e at cut.1) (rw e at cut.2) s in
    let time = c.in_ok-time.ensures.only s.clock s.zone s.offset parts.1 s.zone_is in
    let none = c.in_err-clock.ensures.only s.seconds (rw time.0 s.clock_is) in
    absurd cc

pub returns-in_err-offset-clause-only : goal.returns-in_err-offset-clause-only
returns-in_err-offset-clause-only c = λ t s.
    let cut = c.in_ok-front.ensures.cases in
    let e = c.as_bytes.ensures.value in
    let parts = parted c.args.text.now c.in_ok-front.front.now c.in_ok-front.rest.now t (rw e at cut.1) (rw e at cut.2) s in
    let time = c.in_ok-time.ensures.only s.clock s.zone s.offset parts.1 s.zone_is in
    no_number s.offset (c.in_err-offset.ensures.only s.offset (rw time.1 s.zone_is))

pub returns-clause-found : goal.returns-clause-found
returns-clause-found c =
    let cut = c.in_ok-front.ensures.cases in
    let e = c.as_bytes.ensures.value in
    let whole : c.args.text.now ≡ c.in_ok-front.front.now ++ c.in_ok-front.rest.now = rw (cut.1, cut.2, take-append-drop 8 c.as_bytes.result.now) (sym e) in
    let text_is : c.args.text.now ≡ c.in_ok-front.front.now ++ (c.in_ok-time.time.now ++ c.in_ok-time.end.now) = rw c.in_ok-time.ensures.found at whole in
    IfSome_then c.moment_at.result c.moment_at.ensures.found (λ t is. record {
      moment = is.0;
      date = c.in_ok-front.front.now;
      clock = c.in_ok-time.time.now;
      zone = c.in_ok-time.end.now;
      day = c.in_ok-date.field-0;
      seconds = c.in_ok-clock.field-0;
      offset = c.in_ok-offset.field-0;
      text_is = text_is ∙ sym (simp append_assoc);
      date_is = c.in_ok-date.ensures.found;
      clock_is = c.in_ok-clock.ensures.found;
      zone_is = c.in_ok-offset.ensures.found;
      moment_is = rw (to_z-of_z (day_fits _ _ c.in_ok-date.ensures.found), to_z-of_z (offset_fits _ _ c.in_ok-offset.ensures.found)) at is.1;
    })

pub returns-clause-only : goal.returns-clause-only
returns-clause-only c = λ t s.
    let cut = c.in_ok-front.ensures.cases in
    let e = c.as_bytes.ensures.value in
    let parts = parted c.args.text.now c.in_ok-front.front.now c.in_ok-front.rest.now t (rw e at cut.1) (rw e at cut.2) s in
    let time = c.in_ok-time.ensures.only s.clock s.zone s.offset parts.1 s.zone_is in
    let date = c.in_ok-date.ensures.only s.day (rw parts.0 s.date_is) in
    let clock = c.in_ok-clock.ensures.only s.seconds (rw time.0 s.clock_is) in
    let offset = c.in_ok-offset.ensures.only s.offset (rw time.1 s.zone_is) in
    let days : c.in_ok-date.field-0 ≡ s.day = cc in
    let seconds : c.in_ok-clock.field-0 ≡ s.seconds = cc in
    let minutes : c.in_ok-offset.field-0 ≡ s.offset = cc in
    c.moment_at.ensures.only t s.moment
    (rw (days, seconds, minutes, to_z-of_z (day_fits s.date s.day s.date_is), to_z-of_z (offset_fits s.zone s.offset s.zone_is)) s.moment_is)
