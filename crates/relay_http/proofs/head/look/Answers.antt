use Rattle.std.proofs.Common.{◌≡◌, ◌≤◌, ℕ, List, sym, subst, ap, ◌∙◌, take, drop, length, map, arith, length-take, codes}
use Rattle.httparse.specs.Grammar.{ReadsRequest, MayBecomeRequest, HasNoRequest}
use Rattle.httparse.specs.Spans.{IsRequestOf, IsWithin, header_bytes, name_and_value, span_bytes}
use Rattle.httparse.specs.declared.spans.Span.{Span}
use Rattle.relay_http.specs.Fields.{Fields, is_bad_host, values}
use Rattle.relay_http.specs.Stages.{size_of}
use Rattle.relay_http.specs.RequestBytes.{front}
use Rattle.relay_http.proofs.SettleLemmas.{overflow_more}
use Rattle.relay_http.proofs.StageLemmas.{span_front}
use Rattle.relay_http.proofs.RequestLemmas.{take_front, complete_at, fields_fit}
use Rattle.relay_http.proofs.head.look.Goals as goal

pub returns-in-Ok-Partial : goal.returns-in-Ok-Partial
returns-in-Ok-Partial c =
    let same : take c.min.result c.args.bytes.now ≡ front c.args.bytes.now = take_front c.args.bytes.now _ c.min.ensures in
    let none = rw c.in-Ok-Partial.field-0-is at c.in-Ok-Partial.ensures.partial in
    let may = rw c.in-Ok-Partial.field-0-is at c.in-Ok-Partial.ensures.unfinished in
    (subst HasNoRequest same none, subst MayBecomeRequest same may)

pub returns-in-Err : goal.returns-in-Err
returns-in-Err c = λ more.
    overflow_more c.args.bytes.now more (take c.min.result c.args.bytes.now) (take_front c.args.bytes.now _ c.min.ensures) c.in-Err.ensures.no_room

pub returns-in-Ok-Complete : goal.returns-in-Ok-Complete
returns-in-Ok-Complete c =
    let buf = c.args.bytes.now in
    let found = take c.min.result buf in
    let same : found ≡ front buf = take_front buf _ c.min.ensures in
    let headers = c.parse_request.new.headers in
    let spans = c.in-Ok-Complete.spans in
    let at = complete_at (IsRequestOf found headers) c.in-Ok-Complete.field-0 spans c.in-Ok-Complete.field-0-is c.in-Ok-Complete.ensures.complete in
    let within = rw c.in-Ok-Complete.field-0-is at c.in-Ok-Complete.ensures.within in
    let h = at.0 in
    let reads : ReadsRequest (front buf) h (drop spans.len found) = subst (λ (f : List ℕ). ReadsRequest f h (drop spans.len found)) same at.1.reads in
    let fields : map (header_bytes found) (take spans.headers headers) ≡ map name_and_value h.fields = at.1.fields in
    let few : length h.fields ≤ 32 = fields_fit found headers spans.headers h.fields fields c.parse_request.auto.headers in
    let in_front : spans.len ≤ length found = within.section.len_fits in
    let head = c.kept.result in (
      h,
      record {
        has = ((drop spans.len found, reads), few);
        len = c.kept.ensures.len ∙ at.1.len;
        len_fits = omega (arith, in_front, length-take c.min.result buf, c.kept.ensures.len);
        method_fits = subst (λ (s : Span). IsWithin head.len s) (sym c.kept.ensures.method)
            (subst (λ (n : ℕ). IsWithin n spans.method) (sym c.kept.ensures.len) within.method);
        target_fits = subst (λ (s : Span). IsWithin head.len s) (sym c.kept.ensures.target)
            (subst (λ (n : ℕ). IsWithin n spans.path) (sym c.kept.ensures.len) within.path);
        method = ap (λ (s : Span). span_bytes buf s) c.kept.ensures.method
            ∙ span_front buf found spans.method spans.len same within.method in_front ∙ at.1.method;
        target = ap (λ (s : Span). span_bytes buf s) c.kept.ensures.target ∙ span_front buf found spans.path spans.len same within.path in_front ∙ at.1.path;
        host = c.kept.ensures.host
            ∙ ap (λ (v : ℕ). is_bad_host v (values (codes "host") (map (header_bytes found) (take spans.headers headers)))) at.1.version
            ∙ ap (λ (fs : Fields). is_bad_host h.minor (values (codes "host") fs)) fields;
        size = c.kept.ensures.size ∙ ap (λ (fs : Fields). size_of fs) fields;
      },
    )
